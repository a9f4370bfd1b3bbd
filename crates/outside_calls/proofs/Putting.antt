-- What several steps in a row leave of several outputs.
use Rattle.outside_calls.proofs.Names.{inl, inr, ◌∙◌, ℕ, List, [], ◌∷◌, ◌++◌, Some, refl, sym, ap, subst, arith, FolderState, GoesOn}
use Rattle.outside_calls.proofs.Names.{KeepsName, OnlyReads, OnlyWrites, Adds, PartlyAppended, Rose, OnlyOutputs}
use Rattle.std.proofs.Common.{◌≡◌, ◌≤◌}
use Rattle.outside_calls.proofs.Steps.{GoesOn-refl, GoesOn-trans, told_later, KeepsName-trans, octets-kept, Adds-kept, kept-PartlyAppended}
use Rattle.outside_calls.proofs.Steps.{PartlyAppended-none, Rose-later}
use Rattle.outside_calls.specs.Outputs.{IsNoneOf, AreNoneOf, AreApart, OnlyPuts, SomeRose, KeepsEach, AddEach, AddPart}
use Rattle.outside_calls.specs.Outputs.{HoldEach, HoldPart, joined}
use Rattle.outside_calls.proofs.Holding.{Holds-kept, Holds-add, HoldsPart-more}

-- as many of these as of those
abbrev pub AreAsMany : List (List ℕ) → List (List ℕ) → Type 0
AreAsMany [] [] = Unit {0}
AreAsMany (one ∷ these) (other ∷ those) = AreAsMany these those
AreAsMany these those = ⊥

-- ---- what was touched

pub OnlyPuts-refl : (a : FolderState) (names : List (List ℕ)) → OnlyPuts a a names
OnlyPuts-refl a names = record { goes_on = GoesOn-refl a; names = λ other apart told. refl; said = refl }

pub OnlyPuts-trans : (a b c : FolderState) (names : List (List ℕ)) → OnlyPuts a b names → OnlyPuts b c names → OnlyPuts a c names
OnlyPuts-trans a b c names p q = record {
  goes_on = GoesOn-trans p.goes_on q.goes_on;
  names = λ other apart. KeepsName-trans a b c other p.goes_on (p.names other apart) (q.names other apart);
  said = q.said ∙ p.said;
}

pub OnlyPuts-reads : (a b : FolderState) (names : List (List ℕ)) → OnlyReads a b → OnlyPuts a b names
OnlyPuts-reads a b names r = record { goes_on = r.goes_on; names = λ other apart. r.names other; said = r.said }

pub OnlyOutputs-puts : {a b : FolderState} (names : List (List ℕ)) → OnlyPuts a b names → OnlyOutputs a b names
OnlyOutputs-puts names p = record { goes_on = p.goes_on; names = p.names }

-- a name that is none of some isn't one that stands among them
none-among : (front : List (List ℕ)) (name other : List ℕ) (behind : List (List ℕ)) → IsNoneOf other (front ++ name ∷ behind)
    → other ≡ name → ⊥
none-among [] name other behind apart = apart.0
none-among (first ∷ front) name other behind apart = none-among front name other behind apart.1

-- one of the outputs is written
pub OnlyPuts-one : (a b : FolderState) (front : List (List ℕ)) (name : List ℕ) (behind : List (List ℕ)) → OnlyWrites a b name
    → OnlyPuts a b (front ++ name ∷ behind)
OnlyPuts-one a b front name behind w = record {
  goes_on = w.goes_on;
  names = λ other apart. w.names other (none-among front name other behind apart);
  said = w.said;
}

-- ---- inputs are kept

-- a name that is none of some is none of the first of them
pub none-front : (name : List ℕ) (front behind : List (List ℕ)) → IsNoneOf name (front ++ behind) → IsNoneOf name front
none-front name [] behind apart = tt
none-front name (first ∷ front) behind apart = (apart.0, none-front name front behind apart.1)

pub none-fronts : (names front behind : List (List ℕ)) → AreNoneOf names (front ++ behind) → AreNoneOf names front
none-fronts [] front behind apart = tt
none-fronts (name ∷ names) front behind apart = (none-front name front behind apart.0, none-fronts names front behind apart.1)

heads-none : (input : List ℕ) (inputs outputs : List (List ℕ)) → AreNoneOf outputs (input ∷ inputs) → IsNoneOf input outputs
heads-none input inputs [] apart = tt
heads-none input inputs (output ∷ outputs) apart = (λ e. apart.0.0 (sym e), heads-none input inputs outputs apart.1)

tails-none : (input : List ℕ) (inputs outputs : List (List ℕ)) → AreNoneOf outputs (input ∷ inputs) → AreNoneOf outputs inputs
tails-none input inputs [] apart = tt
tails-none input inputs (output ∷ outputs) apart = (apart.0.1, tails-none input inputs outputs apart.1)

pub inputs-kept : (a b : FolderState) (inputs outputs : List (List ℕ)) → AreNoneOf outputs inputs
    → ((other : List ℕ) → IsNoneOf other outputs → KeepsName a b other) → KeepsEach a b inputs
inputs-kept a b [] outputs apart only = tt
inputs-kept a b (input ∷ inputs) outputs apart only = (
  only input (heads-none input inputs outputs apart),
  inputs-kept a b inputs outputs (tails-none input inputs outputs apart) only,
)

-- ---- what was counted

pub SomeRose-later : (before mid now : List ℕ → ℕ) (names : List (List ℕ)) → ((name : List ℕ) → mid name ≤ now name)
    → SomeRose before mid names → SomeRose before now names
SomeRose-later before mid now [] on rose = rose
SomeRose-later before mid now (name ∷ names) on (inl rose) = inl (Rose-later _ _ (mid name) (now name) (omega arith) rose (on name))
SomeRose-later before mid now (name ∷ names) on (inr rose) = inr (SomeRose-later before mid now names on rose)

pub SomeRose-earlier : (before mid now : List ℕ → ℕ) (names : List (List ℕ)) → ((name : List ℕ) → mid name ≡ before name)
    → SomeRose mid now names → SomeRose before now names
SomeRose-earlier before mid now [] same rose = rose
SomeRose-earlier before mid now (name ∷ names) same (inl rose) = inl (subst (λ (count : ℕ). Rose count (now name)) (same name) rose)
SomeRose-earlier before mid now (name ∷ names) same (inr rose) = inr (SomeRose-earlier before mid now names same rose)

-- ---- what is kept

pub KeepsEach-refl : (a : FolderState) (names : List (List ℕ)) → KeepsEach a a names
KeepsEach-refl a [] = tt
KeepsEach-refl a (name ∷ names) = (λ told. refl, KeepsEach-refl a names)

pub KeepsEach-reads : (a b : FolderState) (names : List (List ℕ)) → OnlyReads a b → KeepsEach a b names
KeepsEach-reads a b [] r = tt
KeepsEach-reads a b (name ∷ names) r = (r.names name, KeepsEach-reads a b names r)

pub KeepsEach-trans : (a b c : FolderState) (names : List (List ℕ)) → GoesOn a b → KeepsEach a b names → KeepsEach b c names
    → KeepsEach a c names
KeepsEach-trans a b c [] g p q = tt
KeepsEach-trans a b c (name ∷ names) g p q = (KeepsName-trans a b c name g p.0 q.0, KeepsEach-trans a b c names g p.1 q.1)

-- a write to one name keeps each of the others
pub KeepsEach-writes : (a b : FolderState) (name : List ℕ) (names : List (List ℕ)) → IsNoneOf name names → OnlyWrites a b name
    → KeepsEach a b names
KeepsEach-writes a b name [] apart w = tt
KeepsEach-writes a b name (other ∷ names) apart w = (w.names other (λ e. apart.0 (sym e)), KeepsEach-writes a b name names apart.1 w)

-- ---- what was put

-- what is added behind a name that was kept is added to what it held before
Adds-behind : (a b c : FolderState) (name xs : List ℕ) → GoesOn a b → KeepsName a b name → Adds b c name xs → Adds a c name xs
Adds-behind a b c name xs g k (inl (none, kept)) = inl (none, KeepsName-trans a b c name g k kept)
Adds-behind a b c name xs g k (inr put) =
    inr (λ told. put (told_later g name told) ∙ ap (λ o. Some (o ++ xs)) (octets-kept a b name k told))

-- it stays where the names are kept from then on
pub AddEach-kept : (a b c : FolderState) (names pieces : List (List ℕ)) → GoesOn a b → AddEach a b names pieces → KeepsEach b c names
    → AddEach a c names pieces
AddEach-kept a b c names [] g p k = KeepsEach-trans a b c names g p k
AddEach-kept a b c [] (piece ∷ pieces) g p k = absurd p
AddEach-kept a b c (name ∷ names) (piece ∷ pieces) g p k =
    (Adds-kept a b c name piece g p.0 k.0, AddEach-kept a b c names pieces g p.1 k.1)

-- the outputs before one have their pieces, and that one is written: its piece, or a part of it
pub AddEach-next : (a b c : FolderState) (front : List (List ℕ)) (name : List ℕ) (behind pieces : List (List ℕ)) (piece : List ℕ)
    → AreAsMany pieces front → AreApart (front ++ name ∷ behind) → GoesOn a b → AddEach a b (front ++ name ∷ behind) pieces
    → OnlyWrites b c name → Adds b c name piece → AddEach a c (front ++ name ∷ behind) (pieces ++ piece ∷ [])
AddEach-next a b c [] name behind [] piece e apart g p w put =
    (Adds-behind a b c name piece g p.0 put, KeepsEach-trans a b c behind g p.1 (KeepsEach-writes b c name behind apart.0 w))
AddEach-next a b c [] name behind (first ∷ pieces) piece e apart g p w put = absurd e
AddEach-next a b c (first ∷ front) name behind [] piece e apart g p w put = absurd e
AddEach-next a b c (first ∷ front) name behind (one ∷ pieces) piece e apart g p w put = (
  Adds-kept a b c first one g p.0 (w.names first (none-among front name first behind apart.0)),
  AddEach-next a b c front name behind pieces piece e apart.1 g p.1 w put,
)

pub AddPart-next : (a b c : FolderState) (front : List (List ℕ)) (name : List ℕ) (behind pieces : List (List ℕ)) (piece : List ℕ)
    → AreAsMany pieces front → AreApart (front ++ name ∷ behind) → GoesOn a b → AddEach a b (front ++ name ∷ behind) pieces
    → OnlyWrites b c name → PartlyAppended b c name piece → AddPart a c (front ++ name ∷ behind) (pieces ++ piece ∷ [])
AddPart-next a b c [] name behind [] piece e apart g p w put =
    inl (kept-PartlyAppended a b c name piece g p.0 put, KeepsEach-trans a b c behind g p.1 (KeepsEach-writes b c name behind apart.0 w))
AddPart-next a b c [] name behind (first ∷ pieces) piece e apart g p w put = absurd e
AddPart-next a b c (first ∷ front) name behind [] piece e apart g p w put = absurd e
AddPart-next a b c (first ∷ front) name behind (one ∷ pieces) piece e apart g p w put = inr (
  Adds-kept a b c first one g p.0 (w.names first (none-among front name first behind apart.0)),
  AddPart-next a b c front name behind pieces piece e apart.1 g p.1 w put,
)

-- pieces more don't matter where a part was put
pub AddPart-longer : (a b : FolderState) (names pieces more : List (List ℕ)) → AddPart a b names pieces → AddPart a b names (pieces ++ more)
AddPart-longer a b names [] more p = absurd p
AddPart-longer a b [] (piece ∷ pieces) more p = absurd p
AddPart-longer a b (name ∷ names) (piece ∷ pieces) more (inl p) = inl p
AddPart-longer a b (name ∷ names) (piece ∷ pieces) more (inr p) = inr (p.0, AddPart-longer a b names pieces more p.1)

-- nothing of the next piece was put
pub AddPart-none : (a b : FolderState) (front : List (List ℕ)) (name : List ℕ) (behind pieces : List (List ℕ)) (piece : List ℕ)
    (more : List (List ℕ)) → AreAsMany pieces front → AddEach a b (front ++ name ∷ behind) pieces
    → AddPart a b (front ++ name ∷ behind) (pieces ++ piece ∷ more)
AddPart-none a b [] name behind [] piece more e p = inl (PartlyAppended-none a b name piece p.0, p.1)
AddPart-none a b [] name behind (first ∷ pieces) piece more e p = absurd e
AddPart-none a b (first ∷ front) name behind [] piece more e p = absurd e
AddPart-none a b (first ∷ front) name behind (one ∷ pieces) piece more e p =
    inr (p.0, AddPart-none a b front name behind pieces piece more e p.1)

-- ---- what outputs hold

pub HoldEach-kept : (a b : FolderState) (names held : List (List ℕ)) → GoesOn a b → HoldEach a names held → KeepsEach a b names
    → HoldEach b names held
HoldEach-kept a b [] [] g h k = tt
HoldEach-kept a b [] (octets ∷ held) g h k = absurd h
HoldEach-kept a b (name ∷ names) [] g h k = absurd h
HoldEach-kept a b (name ∷ names) (octets ∷ held) g h k =
    (Holds-kept a b name octets g h.0 k.0, HoldEach-kept a b names held g h.1 k.1)

pub HoldEach-add : (a b : FolderState) (names held pieces : List (List ℕ)) → GoesOn a b → HoldEach a names held
    → AddEach a b names pieces → HoldEach b names (joined held pieces)
HoldEach-add a b names held [] g h p = HoldEach-kept a b names held g h p
HoldEach-add a b [] held (piece ∷ pieces) g h p = absurd p
HoldEach-add a b (name ∷ names) [] (piece ∷ pieces) g h p = absurd h
HoldEach-add a b (name ∷ names) (octets ∷ held) (piece ∷ pieces) g h p =
    (Holds-add a b name octets piece g h.0 p.0, HoldEach-add a b names held pieces g h.1 p.1)

pub HoldPart-add : (a b : FolderState) (names held pieces : List (List ℕ)) → GoesOn a b → HoldEach a names held
    → AddPart a b names pieces → HoldPart b names held pieces
HoldPart-add a b names held [] g h p = absurd p
HoldPart-add a b [] held (piece ∷ pieces) g h p = absurd p
HoldPart-add a b (name ∷ names) [] (piece ∷ pieces) g h p = absurd h
HoldPart-add a b (name ∷ names) (octets ∷ held) (piece ∷ pieces) g h (inl p) =
    inl (HoldsPart-more a b name octets piece g h.0 p.0, HoldEach-kept a b names held g h.1 p.1)
HoldPart-add a b (name ∷ names) (octets ∷ held) (piece ∷ pieces) g h (inr p) =
    inr (Holds-add a b name octets piece g h.0 p.0, HoldPart-add a b names held pieces g h.1 p.1)
