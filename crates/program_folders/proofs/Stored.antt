-- Files in a tree map, seen as a finite map.
use Rattle.std.proofs.Common.{◌≡◌, ◌≢◌, ℕ, List, [], ◌∷◌, ◌++◌, Option, Some, unwrap_or, refl, sym, ◌∙◌, ap, cond, Bool, true, false, Vec}
use Rattle.std.proofs.Common.{String, string_bytes, Result, Ok, Err, OnOk, OnErr, is_ok, if◌then◌else◌}
use Rattle.std.specs.Option.{option_map}
use Rattle.std.specs.Map.{lookup}
use Rattle.std.specs.BTreeMap.{BTreeMap, is_at, get_by_text, UpdatesBy}
use Rattle.std.specs.String.{string_cmp}
use Rattle.std.specs.Str.{bytes_eq}
use Rattle.std.specs.Ordering.{nat_cmp, is_eq, eq_by_cmp}
use Rattle.std.specs.Cmp.{eq_by_cmp_equiv}
use Rattle.std.specs.Cmp.Lexicographic.{slice_cmp, nat_list_cmp_total}
use Rattle.std.specs.FinMap.{find, get, insert, get-insert, get-from_entries, same_map, slice_cmp-IsAntisymmetric, nat_cmp-IsAntisymmetric}
use Rattle.std.proofs.lemmas.Map.Text.{btree_map_updates_text, is_eq-slice_cmp}
use Rattle.std.specs.declared.cmp.Ordering.{Ordering}
use Rattle.std.specs.declared.cmp.Ordering.TheVariants.{Less, Equal, Greater}
use Rattle.outside_calls.specs.Folder.{Files}
use Rattle.program_folders.specs.Store.{plain_entries, files_of}

-- maps that answer alike are one
pub same_files : (m n : Files) → ((q : List ℕ) → get m q ≡ get n q) → m ≡ n
same_files = same_map nat_list_cmp_total (slice_cmp-IsAntisymmetric nat_cmp-IsAntisymmetric)

map-cond : {A B : Type 0} (f : A → B) (b : Bool) (x : A) (r : Option A)
    → cond b (Some (f x)) (option_map f r) ≡ option_map f (cond b (Some x) r)
map-cond f true x r = refl
map-cond f false x r = refl

after_update : {B : Type 0} (b : Bool) (w : Vec ℕ B) (r : Option (Vec ℕ B))
    → option_map (λ v. v.items) (cond b (Some w) r) ≡ cond b (Some w.items) (option_map (λ v. v.items) r)
after_update true w r = refl
after_update false w r = refl

module _ {A B : Type 0} where
  find-plain_entries : (es : List (String A × Vec ℕ B)) (q : List ℕ)
      → find (slice_cmp nat_cmp) q (plain_entries es) ≡ option_map (λ v. v.items)
      (lookup (is_at (λ k. slice_cmp nat_cmp q (string_bytes k))) es)
  find-plain_entries [] q = refl
  find-plain_entries (e ∷ es) q =
      ap (cond (is_eq (slice_cmp nat_cmp q (string_bytes e.0))) (Some e.1.items)) (find-plain_entries es q)
      ∙ map-cond (λ (v : Vec ℕ B). v.items) (is_eq (slice_cmp nat_cmp q (string_bytes e.0))) e.1 _

  -- what the finite map has at a name
  pub get-files_of : (m : BTreeMap (String A) (Vec ℕ B)) (q : List ℕ)
      → get (files_of m.entries) q ≡ option_map (λ v. v.items) (get_by_text m q)
  get-files_of m q = get-from_entries nat_list_cmp_total (plain_entries m.entries) q ∙ find-plain_entries m.entries q

  -- a change at one name is an insert
  pub files_of-updates : (m n : BTreeMap (String A) (Vec ℕ B)) (bs : List ℕ) (w : Vec ℕ B)
      → UpdatesBy string_cmp (λ k. slice_cmp nat_cmp bs (string_bytes k)) m n (Some w)
      → files_of n.entries ≡ insert (files_of m.entries) bs w.items
  files_of-updates m n bs w u = same_files _ _ (λ q.
      get-files_of n q ∙ ap (option_map (λ v. v.items)) (btree_map_updates_text bs m n (Some w) u q)
      ∙ after_update (bytes_eq bs q) w (get_by_text m q)
      ∙ ap (λ b. cond b (Some w.items) (option_map (λ v. v.items) (get_by_text m q)))
      (sym (is_eq-slice_cmp bs q) ∙ (eq_by_cmp_equiv nat_list_cmp_total).symm bs q)
      ∙ ap (cond (eq_by_cmp (slice_cmp nat_cmp) q bs) (Some w.items)) (sym (get-files_of m q))
      ∙ sym (get-insert nat_list_cmp_total (files_of m.entries) bs w.items q))

cond-same : {X : Type 0} (b : Bool) (x y : X) → (b ≡ true → x ≡ y) → cond b x y ≡ y
cond-same true x y h = h refl
cond-same false x y h = refl

pub is_Equal : (r : Ordering) → is_eq r ≡ true → r ≡ Equal
is_Equal Less e = cc
is_Equal Equal e = refl
is_Equal Greater e = cc

-- names that compare alike are one
pub tied : (q bs : List ℕ) → eq_by_cmp (slice_cmp nat_cmp) q bs ≡ true → q ≡ bs
tied q bs same = slice_cmp-IsAntisymmetric nat_cmp-IsAntisymmetric q bs (is_Equal (slice_cmp nat_cmp q bs) same)

-- to set a name to what it holds changes nothing
pub insert-same : (m : Files) (bs xs : List ℕ) → get m bs ≡ Some xs → insert m bs xs ≡ m
insert-same m bs xs held = same_files _ _ (λ q.
    get-insert nat_list_cmp_total m bs xs q
    ∙ cond-same (eq_by_cmp (slice_cmp nat_cmp) q bs) (Some xs) (get m q) (λ same. sym held ∙ ap (get m) (sym (tied q bs same))))

-- what a call that changed one content leaves, whether it grew
pub grown_ok : {A B E : Type 0} (m n : BTreeMap (String A) (Vec ℕ B)) (bs piece : List ℕ) (old w : Vec ℕ B) (r : Result (Unit {0}) E)
    → UpdatesBy string_cmp (λ k. slice_cmp nat_cmp bs (string_bytes k)) m n (Some w) → get_by_text m bs ≡ Some old
    → w.items ≡ (if is_ok r then old.items ++ piece else old.items)
    → OnOk r (files_of n.entries ≡ insert (files_of m.entries) bs (unwrap_or (get (files_of m.entries) bs) [] ++ piece))
grown_ok m n bs piece old w (Ok x) u held grew =
    files_of-updates m n bs w u
    ∙ ap (insert (files_of m.entries) bs)
    (grew ∙ ap (λ o. unwrap_or o [] ++ piece) (sym (get-files_of m bs ∙ ap (option_map (λ v. v.items)) held)))
grown_ok m n bs piece old w (Err e) u held grew = tt

pub grown_err : {A B E : Type 0} (m n : BTreeMap (String A) (Vec ℕ B)) (bs piece : List ℕ) (old w : Vec ℕ B) (r : Result (Unit {0}) E)
    → UpdatesBy string_cmp (λ k. slice_cmp nat_cmp bs (string_bytes k)) m n (Some w) → get_by_text m bs ≡ Some old
    → w.items ≡ (if is_ok r then old.items ++ piece else old.items) → OnErr r (files_of n.entries ≡ files_of m.entries)
grown_err m n bs piece old w (Ok x) u held grew = tt
grown_err m n bs piece old w (Err e) u held grew =
    files_of-updates m n bs w u ∙ ap (insert (files_of m.entries) bs) grew
    ∙ insert-same (files_of m.entries) bs old.items (get-files_of m bs ∙ ap (option_map (λ v. v.items)) held)

pub untied : (q bs : List ℕ) (b : Bool) → eq_by_cmp (slice_cmp nat_cmp) q bs ≡ b → q ≢ bs → b ≡ false
untied q bs true e apart = absurd (apart (tied q bs e))
untied q bs false e apart = refl

-- what is set at a name is there
pub get-insert_same : (m : Files) (name xs : List ℕ) → get (insert m name xs) name ≡ Some xs
get-insert_same m name xs =
    get-insert nat_list_cmp_total m name xs name ∙ ap (λ b. cond b (Some xs) (get m name)) ((eq_by_cmp_equiv nat_list_cmp_total).refl name)

-- and each other name stays
pub get-insert_other : (m : Files) (name xs q : List ℕ) → q ≢ name → get (insert m name xs) q ≡ get m q
get-insert_other m name xs q apart =
    get-insert nat_list_cmp_total m name xs q ∙ ap (λ b. cond b (Some xs) (get m q)) (untied q name _ refl apart)

-- a change at one name leaves each other
pub get-updates_other : {A B : Type 0} (m n : BTreeMap (String A) (Vec ℕ B)) (bs : List ℕ) (w : Vec ℕ B)
    → UpdatesBy string_cmp (λ k. slice_cmp nat_cmp bs (string_bytes k)) m n (Some w) → (q : List ℕ) → q ≢ bs
    → get (files_of n.entries) q ≡ get (files_of m.entries) q
get-updates_other m n bs w u q apart =
    ap (λ f. get f q) (files_of-updates m n bs w u) ∙ get-insert_other (files_of m.entries) bs w.items q apart

pub ruleset stored_names = (get-insert_same)
