-- What the whole recordings tell, where what was read of them tells it.
use Rattle.line_tap.proofs.Cited.{◌≡◌, inl, inr, ℕ, ◌+◌, ◌<◌, ◌≤◌, Bool, true, false, IsTrue, List, [], ◌∷◌, ◌++◌, length, drop, arith}
use Rattle.line_tap.proofs.Cited.{length-append, refl, sym, ◌∙◌, ap, subst, append-nil, cases_lt, false≢true, take-append-drop, HEAD, TAIL}
use Rattle.line_tap.proofs.Cited.{Sent, Left, LineEnd, EndsBy, EndsOnLine, IsFirstRefused, Leaves, LastHears, TapNames, recording_of}
use Rattle.line_tap.proofs.Cited.{AreReadTo, AreReadOut, Tapping, line_of, terms_of, octets_of, HoldsNext, AddsGot, check_by, Turn}
use Rattle.line_tap.proofs.Cited.{FolderState, octets_at, header_of, HEADER, mode_of, Both, of, Role, Originator, Answerer}
use Rattle.std.proofs.Common.{append_assoc}
use Rattle.std.proofs.lemmas.List.{length-drop}
use Rattle.line_tap.specs.Ends as ends
use Rattle.line_tap.specs.Turn.{MakesTurn, AddsTurn, Adds}
use Rattle.line_tap.specs.Tap.{IsReadTo, AddsSo}
use Rattle.line_tap.specs.Turns.{KnowsBodies}
use Rattle.line_tap.proofs.SlotNext.{octets-next}
use Rattle.line_tap.proofs.Longer.{and_more, longer, holds-longer, holds-shorter, hears-longer, goes-longer}

-- ---- what stands behind what was read

-- What was read of a recording, and the rest of it; there is none where it was read to its end.
pub record Rest (start : FolderState) (n : TapNames) (role : Role) (body : List ℕ) : Type 0 where
  pub more : List ℕ
  pub known : IsTrue (start.tells (recording_of role n))
      → octets_at start (recording_of role n) ≡ header_of (mode_of role) ++ (body ++ more)
  pub none : (IsTrue (start.tells (recording_of role n)) → header_of (mode_of role) ++ body ≡ octets_at start (recording_of role n))
      → more ≡ []

pub rest-of : (start now : FolderState) (n : TapNames) (role : Role) (body : List ℕ) → IsReadTo start now n role body
    → Rest start n role body
rest-of start now n role body h = go (start.tells (recording_of role n)) refl
  where
    name : List ℕ
    name = recording_of role n

    at : ℕ
    at = HEADER + length body

    header : List ℕ
    header = header_of (mode_of role)

    go : (b : Bool) → start.tells name ≡ b → Rest start n role body
    go false e = record { more = []; known = λ told. absurd (false≢true (subst IsTrue e told)); none = λ all. refl }
    go true e =
        let told : IsTrue (start.tells name) = e in
        record {
          more = drop at (octets_at start name);
          known = λ t. sym (take-append-drop at (octets_at start name))
              ∙ ap (λ l. l ++ drop at (octets_at start name)) (sym (h.front t)) ∙ append_assoc header body (drop at (octets_at start name));
          none = λ all. past at (octets_at start name) (omega (arith, h.count, ap length (all told)));
        }
      where
        past : (m : ℕ) (l : List ℕ) → length l ≤ m → drop m l ≡ []
        past m l few = nothing (drop m l) (omega (arith, length-drop m l, few))
          where
            nothing : (l : List ℕ) → length l ≡ 0 → l ≡ []
            nothing [] z = refl
            nothing (x ∷ l) z = absurd (omega (arith, z))

pub rests : (start now : FolderState) (n : TapNames) (bodies : Both (List ℕ)) → AreReadTo start now n bodies → (role : Role)
    → Rest start n role (of role bodies)
rests start now n bodies h role = rest-of start now n role (of role bodies) (h role)

-- what is behind both
abbrev pub more_of : (start : FolderState) (n : TapNames) (bodies : Both (List ℕ)) → ((role : Role) → Rest start n role (of role bodies))
    → Both (List ℕ)
more_of start n bodies r = record { orig = (r Originator).more; answ = (r Answerer).more }

pub knows-whole : (start : FolderState) (n : TapNames) (bodies : Both (List ℕ)) (r : (role : Role) → Rest start n role (of role bodies))
    → KnowsBodies start n (and_more bodies (more_of start n bodies r))
knows-whole start n bodies r b = grind (arith)

-- where less than the slots of so many turns was read there is no more
abbrev pub NoneShort : Tapping → Both (List ℕ) → List Turn → Type 0
NoneShort x more ts = (role : Role) → length (of role x.bodies) < octets_of (line_of x) (length ts + 1) → of role more ≡ []

pub none-short : (start : FolderState) (n : TapNames) (x : Tapping) (ts : List Turn)
    (r : (role : Role) → Rest start n role (of role x.bodies)) → AreReadOut start n x ts → NoneShort x (more_of start n x.bodies r) ts
none-short start n x ts r out b less = grind (arith)

-- ---- ends

leaves-longer : (x : Tapping) (more : Both (List ℕ)) (ts : List Turn) (text : List ℕ) (left : Left) → Leaves x ts text left
    → Leaves (longer x more) ts text left
leaves-longer x more ts text left h = record { got_is = h.got_is; trace_is = h.trace_is }

last-longer : (x : Tapping) (more : Both (List ℕ)) (ts : List Turn) → LastHears x ts → LastHears (longer x more) ts
last-longer x more ts h = record { last = h.last; hears = hears-longer x (and_more x.bodies more) ts h.last h.hears; silent = h.silent }

-- a recording that ends before a turn has no more
pub none-longer : (x : Tapping) (more : Both (List ℕ)) (ts : List Turn) → HEAD + TAIL < (line_of x).symbols → NoneShort x more ts
    → ((role : Role) → length (of role x.bodies) ≤ octets_of (line_of x) (length ts)) → (role : Role)
    → length (of role (longer x more).bodies) ≤ octets_of (line_of x) (length ts)
none-longer x more ts long short h role = grind (arith, octets-next, length-append)

ends-on-line-longer : (x : Tapping) (more : Both (List ℕ)) (ts : List Turn) (end : LineEnd) (text : List ℕ) (left : Left)
    → EndsOnLine x ts end text left → EndsOnLine (longer x more) ts end text left
ends-on-line-longer x more ts end text left h = record { is = h.is; leaves = leaves-longer x more ts text left h.leaves }

-- a slot that isn't there isn't there in the whole recording
none-held : (x : Tapping) (ts : List Turn) (role : Role) (body more : List ℕ)
    → (length body < octets_of (line_of x) (length ts + 1) → more ≡ [])
    → ((s : Sent) → HoldsNext (line_of x) (check_by (terms_of x)) role ts body s → ⊥)
    → (s : Sent) → HoldsNext (line_of x) (check_by (terms_of x)) role ts (body ++ more) s → ⊥
none-held x ts role body more short none s k =
    elim (cases_lt (length body) (octets_of (line_of x) (length ts + 1))) [
      | inl less ↦ none s (subst (λ l. HoldsNext (line_of x) (check_by (terms_of x)) role ts l s)
          (ap (λ m. body ++ m) (short less) ∙ append-nil body) k)
      | inr whole ↦ none s (holds-shorter (line_of x) (check_by (terms_of x)) role ts body more s whole k)
    ]

refused-longer : (x : Tapping) (more : Both (List ℕ)) (ts : List Turn) (role : Role) → NoneShort x more ts → IsFirstRefused x ts role
    → IsFirstRefused (longer x more) ts role
refused-longer x more ts Originator short h = none-held x ts Originator x.bodies.orig more.orig (short Originator) h
refused-longer x more ts Answerer short h = (
  (h.0.0, holds-longer (line_of x) (check_by (terms_of x)) Originator ts x.bodies.orig more.orig h.0.0 h.0.1),
  none-held x ts Answerer x.bodies.answ more.answ (short Answerer) h.1,
)

some-longer : (x : Tapping) (more : Both (List ℕ)) (m : ℕ) → (side : Role) × (m < length (of side x.bodies))
    → (side : Role) × (m < length (of side (longer x more).bodies))
some-longer x more m side = grind (arith, length-append)

pub whole-longer : (x : Tapping) (more : Both (List ℕ)) (ts : List Turn) (turns : ℕ) (left : Left) → HEAD + TAIL < (line_of x).symbols
    → NoneShort x more ts → EndsBy x ts (ends.IsDone turns) left → EndsBy (longer x more) ts (ends.IsDone turns) left
unfolding last-longer
whole-longer x more ts turns left long short e = record {
  number = e.number;
  last = last-longer x more ts e.last;
  none = none-longer x more ts long short e.none;
  leaves = leaves-longer x more (e.last.last ∷ ts) _ left e.leaves;
}

pub badly-longer : (x : Tapping) (more : Both (List ℕ)) (ts : List Turn) (role : Role) (turn : ℕ) (left : Left) → NoneShort x more ts
    → EndsBy x ts (ends.BadTap role turn) left → EndsBy (longer x more) ts (ends.BadTap role turn) left
unfolding last-longer
badly-longer x more ts role turn left short e = record {
  number = e.number;
  last = last-longer x more ts e.last;
  some = some-longer x more (octets_of (line_of x) (length ts)) e.some;
  refused = refused-longer x more ts role short e.refused;
  leaves = leaves-longer x more (e.last.last ∷ ts) _ left e.leaves;
}

pub lost-longer : (x : Tapping) (more : Both (List ℕ)) (ts : List Turn) (role : Role) (symbol : ℕ) (left : Left)
    → EndsBy x ts (ends.LineLost role symbol) left → EndsBy (longer x more) ts (ends.LineLost role symbol) left
lost-longer x more ts role symbol left e = ends-on-line-longer x more ts _ _ left e

pub chance-longer : (x : Tapping) (more : Both (List ℕ)) (ts : List Turn) (role : Role) (turn : ℕ) (left : Left)
    → EndsBy x ts (ends.ChanceMatch role turn) left → EndsBy (longer x more) ts (ends.ChanceMatch role turn) left
chance-longer x more ts role turn left e = (e.0, ends-on-line-longer x more ts _ _ left e.1)

-- ---- what a turn adds

pub got-longer : (x : Tapping) (more : Both (List ℕ)) (ts : List Turn) (adds : Left) → AddsGot x ts adds → AddsGot (longer x more) ts adds
got-longer x more ts adds h = record { turn = h.turn; hears = hears-longer x (and_more x.bodies more) ts h.turn h.hears; is = h.is }

turn-longer : (x : Tapping) (more : Both (List ℕ)) (ts : List Turn) (adds : Left) → HEAD + TAIL < (line_of x).symbols → NoneShort x more ts
    → AddsTurn x ts adds → AddsTurn (longer x more) ts adds
turn-longer x more ts adds long short h = record { turn = h.turn; makes = by h.makes; is = h.is }
  where
    by : MakesTurn x ts h.turn → MakesTurn (longer x more) ts h.turn
    by (inl g) = inl (goes-longer x more ts h.turn g)
    by (inr l) = inr (assumption (hears-longer x (and_more x.bodies more) ts h.turn l.hears, none-longer x more ts long short l.none))

pub adds-longer : (start : FolderState) (n : TapNames) (x : Tapping) (ts : List Turn) (adds : Left)
    (r : (role : Role) → Rest start n role (of role x.bodies)) → HEAD + TAIL < (line_of x).symbols → AddsSo start n x ts adds
    → Adds (longer x (more_of start n x.bodies r)) ts adds
adds-longer start n x ts adds r long (inl h) = inl (got-longer x (more_of start n x.bodies r) ts adds h)
adds-longer start n x ts adds r long (inr (inl (h, out))) =
    inr (inl (turn-longer x (more_of start n x.bodies r) ts adds long (none-short start n x ts r out) h))
adds-longer start n x ts adds r long (inr (inr h)) = inr (inr (record { role = h.role; ends = h.ends; is = h.is }))
