-- What lines say, one line more at a time.
use Rattle.noise_script.proofs.Names.{◌≡◌, ℕ, ◌+◌, ◌<◌, ◌≤◌, Bool, true, false, ◌||◌, cond, List, [], ◌∷◌, ◌++◌, length, filter_map, Option}
use Rattle.noise_script.proofs.Names.{Some, None, refl, sym, ap, ◌∙◌, arith, append-nil, and_parts, cons_option, placed, placed_each}
use Rattle.noise_script.proofs.Names.{in_order, Holds, Kind, row, kind_of, most, same_kind, standing, AreAllowed, whole, each, first}
use Rattle.noise_script.proofs.Names.{delays_said, tries_said, window_said, length_said, loss_said, hit_said, noise_said, break_said}
use Rattle.noise_script.proofs.Names.{pause_said, breaks_in, offered_in, Draft, Break, Entry, Form, Offered, Role, Originator}
use Rattle.noise_script.proofs.Names.{Answerer}
use Rattle.std.proofs.Common.{is_some}
use Rattle.std.proofs.lemmas.List.Elements.{filter_map-append}
use mir.Val.{bool_byte}
use Rattle.noise_script.specs.declared.forms.Form.TheVariants as forms
use Rattle.noise_script.specs.Grammar.{same_form, same_counted, stands}
use Rattle.noise_script.specs.Draft.{Adds, or_before, offered_of, offered_after, placed_said}

-- kinds

same_form-is : (a b : Form) → same_form a b ≡ true → a ≡ b
same_form-is a b e = grind (arith)

same_form-self : (a : Form) → same_form a a ≡ true
same_form-self q0 = grind (arith)

same_counted-is : (a b : Option Role) → same_counted a b ≡ true → a ≡ b
same_counted-is q0 q1 e = grind (arith)

same_counted-self : (a : Option Role) → same_counted a a ≡ true
same_counted-self q0 = grind (arith)

same_kind-is : (a b : Kind) → same_kind a b ≡ true → a ≡ b
same_kind-is a b e = grind (arith, and_parts, same_form-is, same_counted-is)

same_kind-self : (a : Kind) → same_kind a a ≡ true
same_kind-self a = rw (same_form-self a.form, same_counted-self a.role) refl

-- how many lines of a kind there are

standing-cons : (kind : Kind) (entry : Entry) (said : List Entry)
    → standing kind (entry ∷ said) ≡ cond (same_kind kind (kind_of entry)) 1 0 + standing kind said
standing-cons kind entry said = refl

standing-append : (kind : Kind) (a b : List Entry) → standing kind (a ++ b) ≡ standing kind a + standing kind b
standing-append kind [] b = let none : standing kind [] ≡ 0 = refl in omega (arith, none)
standing-append kind (entry ∷ a) b = grind (arith, standing-cons, standing-append kind a b)

standing-one : (kind : Kind) (entry : Entry) → standing kind (entry ∷ []) ≡ cond (same_kind kind (kind_of entry)) 1 0
standing-one kind entry = let none : standing kind [] ≡ 0 = refl in omega (arith, standing-cons kind entry [], none)

pub allowed-none : AreAllowed []
allowed-none kind = grind (arith)

-- one line more, where its kind isn't full
pub allowed-more : (said : List Entry) (entry : Entry) → AreAllowed said
    → standing (kind_of entry) said < most (row (kind_of entry).form).bound → AreAllowed (said ++ entry ∷ [])
allowed-more said entry a h kind =
    let sum = standing-append kind said (entry ∷ []) in
    let one = standing-one kind entry in grind (arith, by-cases, same_kind)
  where
    by-cases : (b : Bool) → same_kind kind (kind_of entry) ≡ b
        → standing kind (said ++ entry ∷ []) ≡ standing kind said + standing kind (entry ∷ [])
        → standing kind (entry ∷ []) ≡ cond (same_kind kind (kind_of entry)) 1 0
        → standing kind (said ++ entry ∷ []) ≤ most (row kind.form).bound
    by-cases true e sum one =
        let same : kind ≡ kind_of entry = same_kind-is kind (kind_of entry) e in
        let here : standing kind said < most (row kind.form).bound = grind (arith) in
        let counted : standing kind (entry ∷ []) ≡ 1 = one ∙ ap (λ b. cond b 1 0) e in grind (arith, counted)
    by-cases false e sum one = grind (arith)

-- lines that say one thing more than is allowed
pub allowed-full : (said : List Entry) (entry : Entry) (more : List Entry) → AreAllowed (said ++ entry ∷ more)
    → most (row (kind_of entry).form).bound ≤ standing (kind_of entry) said → ⊥
allowed-full said entry more a h =
    let all = a (kind_of entry) in
    let sum = standing-append (kind_of entry) said (entry ∷ more) in
    let counted : standing (kind_of entry) (entry ∷ more) ≡ 1 + standing (kind_of entry) more =
    standing-cons (kind_of entry) entry more ∙ ap (λ b. cond b 1 0 + standing (kind_of entry) more) (same_kind-self (kind_of entry)) in
    omega (arith, all, sum, counted, h)

-- The lines of a kind are those that say a certain thing.
abbrev pub Counts : {X : Type 0} → Kind → (Entry → Option X) → Type 0
Counts kind say = (entry : Entry) → length (cons_option (say entry) []) ≡ cond (same_kind kind (kind_of entry)) 1 0

pub counts-delay : Counts (whole forms.Delay) delays_said
counts-delay _ = grind (arith)

pub counts-tries : Counts (whole forms.Tries) tries_said
counts-tries _ = grind (arith)

pub counts-lose : Counts (whole forms.Lose) loss_said
counts-lose _ = grind (arith)

pub counts-hit : Counts (whole forms.Hit) hit_said
counts-hit _ = grind (arith)

pub counts-noise : Counts (whole forms.Noise) noise_said
counts-noise _ = grind (arith)

pub counts-break : Counts (whole forms.Break) break_said
counts-break _ = grind (arith)

pub counts-busy : Counts (whole forms.Busy) pause_said
counts-busy _ = grind (arith)

pub counts-window : (role : Role) → Counts (each forms.Window role) (window_said role)
counts-window role _ = grind (arith)

pub counts-length : (role : Role) → Counts (each forms.Length role) (length_said role)
counts-length role _ = grind (arith)

length-said : {X : Type 0} (said : Option X) (xs : List X) → length (cons_option said xs) ≡ length (cons_option said []) + length xs
length-said {X = X} None xs = let none : length (cons_option {X = X} None []) ≡ 0 = refl in omega (arith, none)
length-said (Some x) xs = omega arith

pub standing-said : {X : Type 0} (kind : Kind) (say : Entry → Option X) → Counts kind say → (said : List Entry)
    → standing kind said ≡ length (filter_map say said)
standing-said kind say counts [] = refl
standing-said kind say counts (entry ∷ said) =
    let later = standing-said kind say counts said in
    let one = counts entry in
    let sum = length-said (say entry) (filter_map say said) in
    let here = standing-cons kind entry said in grind (arith)

abbrev pub number_of : Bool → ℕ
number_of b = cond b 1 0

byte : (b : Bool) → bool_byte b ≡ number_of b
byte q0 = grind (arith)

-- a line of a kind that may stand once
first-length : {X : Type 0} (xs : List X) → length xs ≤ 1 → length xs ≡ cond (is_some (first xs)) 1 0
first-length xs h = grind (arith)

pub standing-once : {X : Type 0} (kind : Kind) (say : Entry → Option X) → Counts kind say → (said : List Entry) → standing kind said ≤ 1
    → standing kind said ≡ cond (is_some (first (filter_map say said))) 1 0
standing-once kind say counts said h =
    let e = standing-said kind say counts said in grind (arith, first-length)

pub standing-flag : (kind : Kind) (said : List Entry) → standing kind said ≤ 1 → standing kind said ≡ cond (stands kind said) 1 0
standing-flag kind [] h = refl
standing-flag kind (entry ∷ said) h = by (same_kind kind (kind_of entry)) refl (standing-flag kind said)
  where
    by : (b : Bool) → same_kind kind (kind_of entry) ≡ b → (standing kind said ≤ 1 → standing kind said ≡ cond (stands kind said) 1 0)
        → standing kind (entry ∷ said) ≡ cond (stands kind (entry ∷ said)) 1 0
    by true e later = grind (arith, stands)
    by false e later = grind (arith, stands)

-- what a draft shows of a kind that may stand once
pub counted-once : {X : Type 0} (kind : Kind) (say : Entry → Option X) → Counts kind say → most (row kind.form).bound ≡ 1
    → (said : List Entry) → AreAllowed said → (entry : Entry) → kind_of entry ≡ kind → (held : Option X)
    → held ≡ first (filter_map say said)
    → (some : Bool) (count : ℕ) → some ≡ is_some held → count ≡ bool_byte some → count ≡ standing (kind_of entry) said
counted-once kind say counts one said a entry k held h some count s c = grind (arith, standing-once, byte, first)

pub counted-flag : (kind : Kind) → most (row kind.form).bound ≡ 1 → (said : List Entry) → AreAllowed said → (entry : Entry)
    → kind_of entry ≡ kind → (held : Bool) → held ≡ stands kind said → (count : ℕ) → count ≡ bool_byte held
    → count ≡ standing (kind_of entry) said
counted-flag kind one said a entry k held h count c = grind (arith, standing-flag, byte)

pub offered-held : (draft : Draft) (said : List Entry) → Holds draft said → (role : Role) → offered_of draft role ≡ offered_in role said
offered-held draft said h Originator = h.orig
offered-held draft said h Answerer = h.answ

-- one line more

pub lists-more : {X : Type 0} (say : Entry → Option X) (said : List Entry) (entry : Entry)
    → filter_map say (said ++ entry ∷ []) ≡ filter_map say said ++ cons_option (say entry) []
lists-more say said entry = filter_map-append say said (entry ∷ [])

flag-more : (kind : Kind) (said : List Entry) (entry : Entry)
    → stands kind (said ++ entry ∷ []) ≡ (stands kind said || same_kind kind (kind_of entry))
flag-more kind [] entry = grind (arith)
flag-more kind (other ∷ said) entry = by (same_kind kind (kind_of other)) (flag-more kind said entry)
  where
    by : (b : Bool) → stands kind (said ++ entry ∷ []) ≡ (stands kind said || same_kind kind (kind_of entry))
        → (b || stands kind (said ++ entry ∷ [])) ≡ ((b || stands kind said) || same_kind kind (kind_of entry))
    by b e = grind (arith)

first-more : {X : Type 0} (say : Entry → Option X) (kind : Kind) → Counts kind say → most (row kind.form).bound ≡ 1
    → (said : List Entry) (entry : Entry) → standing (kind_of entry) said < most (row (kind_of entry).form).bound
    → or_before (say entry) (first (filter_map say said)) ≡ first (filter_map say (said ++ entry ∷ []))
first-more {X = X} say kind counts one said entry few = by (say entry) refl ∙ ap first (sym (lists-more say said entry))
  where
    empty : same_kind kind (kind_of entry) ≡ true → filter_map say said ≡ []
    empty e =
        let same : kind ≡ kind_of entry = same_kind-is kind (kind_of entry) e in
        let here : standing kind said < most (row kind.form).bound = grind (arith) in
        nothing (filter_map say said) (omega (arith, here, one, standing-said kind say counts said))
      where
        nothing : (xs : List X) → length xs < 1 → xs ≡ []
        nothing [] h = refl
        nothing (x ∷ xs) h = absurd (omega (arith, h))

    counted : (b : Bool) → number_of b ≡ 1 → b ≡ true
    counted q0 e = grind (arith)

    by : (o : Option X) → say entry ≡ o → or_before o (first (filter_map say said)) ≡ first (filter_map say said ++ cons_option o [])
    by o e = grind (arith, first, append-nil, empty, counted, same_kind)

offered-more : (role : Role) (said : List Entry) (entry : Entry) → standing (kind_of entry) said < most (row (kind_of entry).form).bound
    → offered_after role entry (offered_in role said) ≡ offered_in role (said ++ entry ∷ [])
offered-more role said entry few = alike (first-more (window_said role) (each forms.Window role) (counts-window role) refl _ _ few)
    (first-more (length_said role) (each forms.Length role) (counts-length role) refl _ _ few)
    (sym (flag-more (each forms.Srej role) said entry)) (sym (flag-more (each forms.Check32 role) said entry))
  where
    alike : {a b : Offered} → a.window ≡ b.window → a.length ≡ b.length → a.srej ≡ b.srej → a.check32 ≡ b.check32 → a ≡ b
    alike w l s k i = record { window = w i; length = l i; srej = s i; check32 = k i }

placed-more : (sorted lines : List Break) (line : Break) → placed_each sorted (lines ++ line ∷ []) ≡ placed line (placed_each sorted lines)
placed-more sorted [] line = refl
placed-more sorted (next ∷ lines) line = placed-more (placed next sorted) lines line

breaks-more : (said : List Entry) (entry : Entry)
    → placed_said (break_said entry) (in_order (breaks_in said)) ≡ in_order (breaks_in (said ++ entry ∷ []))
breaks-more said entry = grind (arith, in_order, lists-more, append-nil, placed-more)

-- a draft of one line more
pub holds-more : (draft after : Draft) (said : List Entry) (entry : Entry) → Holds draft said → Adds draft entry after
    → standing (kind_of entry) said < most (row (kind_of entry).form).bound → Holds after (said ++ entry ∷ [])
holds-more draft after said entry h a few = assumption (
  a.delays ∙ ap (or_before (delays_said entry)) h.delays ∙ first-more delays_said (whole forms.Delay) counts-delay refl _ _ few,
  a.tries ∙ ap (or_before (tries_said entry)) h.tries ∙ first-more tries_said (whole forms.Tries) counts-tries refl _ _ few,
  a.orig ∙ ap (offered_after Originator entry) h.orig ∙ offered-more Originator _ _ few,
  a.answ ∙ ap (offered_after Answerer entry) h.answ ∙ offered-more Answerer _ _ few,
  a.losses ∙ ap (λ xs. xs ++ cons_option (loss_said entry) []) h.losses ∙ sym (lists-more loss_said said entry),
  a.hits ∙ ap (λ xs. xs ++ cons_option (hit_said entry) []) h.hits ∙ sym (lists-more hit_said said entry),
  a.noises ∙ ap (λ xs. xs ++ cons_option (noise_said entry) []) h.noises ∙ sym (lists-more noise_said said entry),
  a.breaks ∙ ap (placed_said (break_said entry)) h.breaks ∙ breaks-more said entry,
  a.pauses ∙ ap (λ xs. xs ++ cons_option (pause_said entry) []) h.pauses ∙ sym (lists-more pause_said said entry),
)
