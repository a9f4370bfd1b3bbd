-- The segments that an end was offered are its user's file, cut at the agreed length.
use Rattle.std.proofs.Common.{◌≡◌, inl, inr, ℕ, zero, suc, ◌+◌, ◌*◌, ◌<◌, ◌≤◌, Bool, true, false, cond, List, [], ◌∷◌, ◌++◌, length, take}
use Rattle.std.proofs.Common.{drop, arith, length-append, refl, sym, ◌∙◌, ap, subst, Option, Some, None}
use Rattle.link_account.proofs.Names.{false≢true, nat_tests, append-nil, append_assoc, take-append-drop, Terms, IsAllowed, Role, Outgoing}
use Rattle.link_account.proofs.Names.{with_piece, Account, fresh, is_connected, wants, piece_size, after_given, after_busy, IsPrefixOf}
use Rattle.link_run.proofs.Names.{IsCut, IsOffered, Phase, Setup, User, delivered, is_busy, offered, offered_at, offered_times, piece_at}
use Rattle.link_run.proofs.Names.{room_for, served, size_for}
use Rattle.std.proofs.Math.Seq.{take-add}
use Rattle.std.proofs.lemmas.List.{take_all, length-take, length-drop}
use Rattle.std.proofs.lemmas.List.Folds.{concat-append}
use Rattle.std.specs.List.{concat}
use Rattle.link_run.proofs.Keeping.{Books, stage, AreTerms, GoesOn}
use Rattle.link_run.proofs.Speaking.{Speaks}
use Rattle.link_run.proofs.Serving.{asks-alone, busy-alone}

pub none-cut : (file : List ℕ) (size : ℕ) → IsCut file size [] false
none-cut file size = grind (arith)

short-take : (n : ℕ) (xs : List ℕ) → length (take n xs) < n → length xs ≤ n
short-take n xs h = omega (arith, h, length-take n xs)

concat-one : (pieces : List (List ℕ)) (p : List ℕ) → concat (pieces ++ p ∷ []) ≡ concat pieces ++ p
concat-one pieces p = concat-append pieces (p ∷ []) ∙ ap (λ l. concat pieces ++ l) (append-nil p)

pub times-next : (s n m : ℕ) → m ≡ n + 1 → s * n + s ≡ s * m
times-next s n m e = rw e (grind arith)

pub next-cut : (file : List ℕ) (o : Outgoing) (p : List ℕ) → 1 ≤ o.size → IsCut file o.size o.pieces o.ended
    → p ≡ take o.size (drop (o.size * length o.pieces) file)
    → IsCut file o.size (with_piece p o).pieces (with_piece p o).ended
next-cut file o [] some h e =
    let n = o.size * length o.pieces in
    let none : length file ≤ n = omega (arith, some, ap length e, length-take o.size (drop n file), length-drop n file) in
    record { begins = h.begins; whole = λ z. h.begins ∙ take_all n file none; more = λ z. absurd (false≢true (sym z)) }
next-cut file o (x ∷ xs) some h e =
    let n = o.size * length o.pieces in
    let p = x ∷ xs in
    let joined : concat (o.pieces ++ p ∷ []) ≡ take (n + o.size) file =
    concat-one o.pieces p ∙ ap (λ l. l ++ p) h.begins ∙ ap (λ l. take n file ++ l) e ∙ sym (take-add n o.size file) in
    record {
      begins = joined ∙ ap (λ m. take m file)
          (times-next o.size (length o.pieces) (length (o.pieces ++ p ∷ [])) (length-append o.pieces (p ∷ [])));
      whole = λ z.
          let less : length p < o.size = grind (arith, nat_tests) in
          let all : length (drop n file) ≤ o.size = short-take o.size (drop n file) (subst (λ l. length l < o.size) e less) in
          joined ∙ take_all (n + o.size) file (omega (arith, all, length-drop n file));
      more = λ z.
          let full : o.size ≤ length p = grind (arith, nat_tests) in
          let has : o.size ≤ length (drop n file) =
          omega (arith, subst (λ l. o.size ≤ length l) e full, length-take o.size (drop n file)) in
          let reach : n + o.size ≤ length file = omega (arith, has, some, length-drop n file) in
          subst (λ m. m ≤ length file)
          (times-next o.size (length o.pieces) (length (o.pieces ++ p ∷ [])) (length-append o.pieces (p ∷ []))) reach;
    }

pub fresh-cuts : (file : List ℕ) (setup : Setup) → IsAllowed setup.offer → IsOffered file (fresh setup)
fresh-cuts file setup h = grind (arith)

pub as-cut : (file : List ℕ) (s s' : ℕ) (ps ps' : List (List ℕ)) (e e' : Bool) → s' ≡ s → ps' ≡ ps → e' ≡ e → IsCut file s ps e
    → IsCut file s' ps' e'
as-cut file s s' ps ps' e e' p q r h = rw (p, q, r) h

size-of : (r : Role) (t : Terms) → AreTerms t → 1 ≤ size_for r t
size-of x t h = grind (arith)

pub linked-stage : (p : Phase) → is_connected p ≡ true → stage p ≡ 1
linked-stage p e = grind (arith)

stage-linked : (p : Phase) → stage p ≡ 1 → is_connected p ≡ true
stage-linked p e = grind (arith)

pub heard-cuts : (file : List ℕ) (a b : Account) → IsOffered file a → GoesOn a b → IsOffered file b
heard-cuts file a b h (inl s) = record {
  allowed = subst (λ (k : Books). IsAllowed k.setup.offer) (sym s.books_are) h.allowed;
  terms = s.terms h.allowed h.terms;
  size = λ z. subst (λ n. 1 ≤ n) (sym s.size) (h.size (stage-linked a.phase (linked (linked-stage b.phase z))));
  cut = as-cut file a.outgoing.size b.outgoing.size a.outgoing.pieces b.outgoing.pieces a.outgoing.ended b.outgoing.ended s.size
      (ap (λ (k : Books). k.pieces) s.books_are) (ap (λ (k : Books). k.ended) s.books_are) h.cut;
}
  where
    go : (n m : ℕ) → n ≤ m → m ≡ 1 → (n ≡ 0 → m ≡ 0) → n ≡ 1
    go n m l z f = grind (arith)

    linked : stage b.phase ≡ 1 → stage a.phase ≡ 1
    linked z = go (stage a.phase) (stage b.phase) s.later z s.before
heard-cuts file a b h (inr e) =
    let terms = e.terms h.allowed h.terms in
    record {
      allowed = subst (λ (x : Setup). IsAllowed x.offer) (sym e.setup) h.allowed;
      terms = terms;
      size = λ z. subst (λ (o : Outgoing). 1 ≤ o.size) (sym e.outgoing_is) (size-of b.setup.role b.terms terms);
      cut = subst (λ (o : Outgoing). IsCut file o.size o.pieces o.ended) (sym e.outgoing_is)
          (none-cut file (size_for b.setup.role b.terms));
    }

pub record Wants (a : Account) (n : ℕ) : Type 0 where
  pub linked : is_connected a.phase ≡ true
  pub number : n ≡ length a.outgoing.pieces

pub wants-are : (a : Account) (n : ℕ) → wants a ≡ Some n → Wants a n
wants-are a n e = grind (arith)

pub piece-size-is : (a : Account) → is_connected a.phase ≡ true → piece_size a ≡ a.outgoing.size
piece-size-is a e = ap (λ b. cond b a.outgoing.size 0) e

pub piece-sizes : (p : List ℕ) (o : Outgoing) → (with_piece p o).size ≡ o.size
piece-sizes x o = grind (arith)

pub offered-cuts-at : (file : List ℕ) (a : Account) (w : Option ℕ) → wants a ≡ w → IsOffered file a → IsOffered file (offered_at file a w)
offered-cuts-at file a None e h = h
offered-cuts-at file a (Some n) e h =
    let w = wants-are a n e in
    let some = h.size w.linked in
    let p = piece_at (piece_size a) file n in
    let is : p ≡ take a.outgoing.size (drop (a.outgoing.size * length a.outgoing.pieces) file) =
    rw (piece-size-is a w.linked, w.number) refl in
    record {
      allowed = h.allowed;
      terms = h.terms;
      size = λ z. subst (λ m. 1 ≤ m) (sym (piece-sizes p a.outgoing)) some;
      cut = as-cut file a.outgoing.size (with_piece p a.outgoing).size (with_piece p a.outgoing).pieces (with_piece p a.outgoing).pieces
          (with_piece p a.outgoing).ended (with_piece p a.outgoing).ended
          (piece-sizes p a.outgoing) refl refl (next-cut file a.outgoing p some h.cut is);
    }

offered-cuts : (n : ℕ) (file : List ℕ) (a : Account) → IsOffered file a → IsOffered file (offered_times n file a)
offered-cuts zero file a h = h
offered-cuts (suc n) file a h = offered-cuts n file (offered_at file a (wants a)) (offered-cuts-at file a (wants a) refl h)

pub delivered-cuts : (file : List ℕ) (a : Account) → IsOffered file a → IsOffered file (delivered a)
delivered-cuts file a h = grind (arith)

pub served-cuts : (u : User) (turn : ℕ) (released : Bool) (a : Account) → IsOffered u.file a
    → IsOffered u.file (served u turn released a).account
served-cuts u turn released a h =
    let d = delivered-cuts u.file a h in
    let g : IsOffered u.file (after_given (delivered a)) = record { allowed = d.allowed; terms = d.terms; size = d.size; cut = d.cut } in
    let o = offered-cuts (room_for (after_given (delivered a))) u.file (after_given (delivered a)) g in
    let c = offered u.file (after_given (delivered a)) in
    let busy = is_busy turn u.busy in
    let b : IsOffered u.file (after_busy busy c) =
    subst (IsOffered u.file) (sym (busy-alone busy c)) (record { allowed = o.allowed; terms = o.terms; size = o.size; cut = o.cut }) in
    subst (IsOffered u.file) (sym (asks-alone turn released u.breaks (after_busy busy c)))
    (record { allowed = b.allowed; terms = b.terms; size = b.size; cut = b.cut })

pub spoken-cuts : (file : List ℕ) (release : Bool) (a b : Account) → IsOffered file a → Speaks release a b → IsOffered file b
spoken-cuts file release a b h x = grind (arith)

-- segments that begin those that were offered begin the file
pub begins-file : (file : List ℕ) (a : Account) (taken : List (List ℕ)) → IsOffered file a → IsPrefixOf taken a.outgoing.pieces
    → IsPrefixOf (concat taken) file
begins-file file a taken h p =
    let n = a.outgoing.size * length a.outgoing.pieces in (
      concat p.0 ++ drop n file,
      sym (append_assoc (concat taken) (concat p.0) (drop n file))
          ∙ ap (λ l. l ++ drop n file) (sym (concat-append taken p.0) ∙ ap concat p.1 ∙ h.cut.begins) ∙ take-append-drop n file,
    )
