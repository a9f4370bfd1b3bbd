-- An input that is read on, piece by piece.
use Rattle.command_base.proofs.Names.{◌≡◌, ◌∙◌, ℕ, ◌+◌, ◌-◌, ◌≤◌, ◌<◌, min, List, [], ◌++◌, IsTrue, length, take, drop, refl, sym, ap}
use Rattle.command_base.proofs.Names.{arith, length-append, length-drop, ◌∷◌, Err, IsErrOf, take-append-drop, take_all, ReadTo, ReadFails}
use Rattle.command_base.proofs.Names.{GoesOn-trans, KeepsName-trans, OnlyReads-trans, CountsStand-trans, FolderState, octets_at, GoesOn}
use Rattle.command_base.proofs.Names.{KeepsName, OnlyReads, HasCause, FaultsStand, CountsStand, FolderFault, NoMemory}
use Rattle.std.proofs.Common.{take-add}
use Rattle.std.proofs.lemmas.List.{drop_all}
use Rattle.shared_terms.specs.Prefix.{IsPrefixOf}
use Rattle.outside_calls.specs.Folder.{TellsOctets}
use Rattle.outside_calls.proofs.Steps.{told_later, octets-kept}
use Rattle.command_base.specs.Inputs.{IsWithin, IsLonger}

-- an input that is within its limit, or longer, or is octets, was so before others were read
pub within-earlier : (old mid : FolderState) (name : List ℕ) (limit : ℕ) → OnlyReads old mid → IsWithin mid name limit
    → IsWithin old name limit
within-earlier old mid name limit reads within told = grind (arith, octets-kept, told_later)

pub longer-earlier : (old mid : FolderState) (name : List ℕ) (limit : ℕ) → OnlyReads old mid → IsLonger mid name limit
    → IsLonger old name limit
longer-earlier old mid name limit reads longer told = grind (arith, octets-kept, told_later)

pub octets-earlier : (old mid : FolderState) (name : List ℕ) → OnlyReads old mid → TellsOctets mid name → TellsOctets old name
octets-earlier old mid name reads octets told = grind (arith, octets-kept, told_later)

-- nothing was read yet
pub ReadTo-none : (start now : FolderState) (name : List ℕ) (limit : ℕ) → IsWithin start name limit → GoesOn start now
    → KeepsName start now name → ReadTo start now name limit 0 []
ReadTo-none start now name limit within on kept = record { within = within; count = refl; front = λ told. refl; goes_on = on; kept = kept }

-- what was read stays read, as long as the input is as it was
pub ReadTo-kept : (start now later : FolderState) (name : List ℕ) (limit at : ℕ) (octets : List ℕ) → ReadTo start now name limit at octets
    → GoesOn now later → KeepsName now later name → ReadTo start later name limit at octets
ReadTo-kept start now later name limit at octets r on kept = record {
  within = r.within;
  count = r.count;
  front = r.front;
  goes_on = GoesOn-trans r.goes_on on;
  kept = KeepsName-trans start now later name r.goes_on r.kept kept;
}

-- what was read begins the input
pub ReadTo-begins : (start now : FolderState) (name : List ℕ) (limit at : ℕ) (octets : List ℕ) → ReadTo start now name limit at octets
    → IsTrue (start.tells name) → IsPrefixOf octets (octets_at start name)
ReadTo-begins start now name limit at octets r told = (
  drop at (octets_at start name),
  ap (λ xs. xs ++ drop at (octets_at start name)) (r.front told)
      ∙ take-append-drop at (octets_at start name),
)

-- a piece more
pub ReadTo-more : (start old new : FolderState) (name : List ℕ) (limit at count : ℕ) (octets piece : List ℕ)
    → ReadTo start old name limit at octets → OnlyReads old new → length piece ≡ count →
    (IsTrue (old.tells name) → piece ≡ take count (drop at (octets_at old name)))
    → ReadTo start new name limit (at + count) (octets ++ piece)
ReadTo-more start old new name limit at count octets piece r reads long is = record {
  within = r.within;
  count = omega (arith, r.count, long, length-append octets piece);
  front = λ told.
      let file : List ℕ = octets_at start name in
      let next : piece ≡ take count (drop at file) =
      is (told_later r.goes_on name told) ∙ ap (λ (xs : List ℕ). take count (drop at xs)) (octets-kept start old name r.kept told) in
      (λ i. r.front told i ++ next i) ∙ sym (take-add at count file);
  goes_on = GoesOn-trans r.goes_on reads.goes_on;
  kept = KeepsName-trans start old new name r.goes_on r.kept (reads.names name);
}

-- fewer octets than there was room for: the input is at its end
pub ReadTo-end : (start old new : FolderState) (name : List ℕ) (limit at count room : ℕ) (octets piece : List ℕ)
    → ReadTo start old name limit at octets → OnlyReads old new → length piece ≡ count →
    (IsTrue (old.tells name) → piece ≡ take count (drop at (octets_at old name)))
    → (IsTrue (old.tells name) → count ≡ min (min room (limit - at)) (length (octets_at old name) - at)) → count < room →
    IsTrue (start.tells name) → octets ++ piece ≡ octets_at start name
ReadTo-end start old new name limit at count room octets piece r reads long is counts few told =
    (ReadTo-more start old new name limit at count octets piece r reads long is).front told
    ∙ take_all (at + count) (octets_at start name) at_end
  where
    least : (a b limit at count : ℕ) → b ≤ limit → count ≡ min (min a (limit - at)) (b - at) → count < a → b ≤ at + count
    least a b limit at count k e few = omega arith

    same : length (octets_at old name) ≡ length (octets_at start name)
    same = ap (λ (xs : List ℕ). length xs) (octets-kept start old name r.kept told)

    at_end : length (octets_at start name) ≤ at + count
    at_end = grind (arith, least, told_later, same)

-- a call that fails, by the count of its name
pub reads-fail : (old new : FolderState) (name : List ℕ) (fault : FolderFault)
    → HasCause {T = ℕ} (old.read_faults name) (new.read_faults name) old.refusals new.refusals (Err fault)
    → (IsErrOf {T = ℕ} {E = FolderFault} (Err fault) NoMemory → FaultsStand old new) → ReadFails old new (name ∷ []) fault
reads-fail old new name fault cause spared = grind (arith)

-- what is held of a file, and what is read behind it
pub held-more : (start now : FolderState) (name before after : List ℕ) (len later count : ℕ) → GoesOn start now → KeepsName start now name
    → IsTrue (start.tells name) → before ≡ take len (octets_at start name) → later ≡ len + count
    → (IsTrue (now.tells name) → after ≡ before ++ take count (drop len (octets_at now name))) → after ≡ take later (octets_at start name)
held-more start now name before after len later count on kept told held is more = grind (arith, octets-kept, told_later, take-add)

-- where a read below the limit and with room gives nothing, nothing is left
pub none-left : (octets : List ℕ) (room limit at count : ℕ) → 0 < room → at < limit
    → count ≡ min (min room (limit - at)) (length octets - at) → count ≡ 0 → drop at octets ≡ []
none-left octets room limit at count some low is none = drop_all at octets (least room (length octets) limit at count some low is none)
  where
    least : (a b limit at count : ℕ) → 0 < a → at < limit → count ≡ min (min a (limit - at)) (b - at) → count ≡ 0 → b ≤ at
    least a b limit at count k l e none = omega arith

-- A file is held, up to its limit.
pub record IsHeld (start now : FolderState) (name : List ℕ) (limit : ℕ) (file : List ℕ) (len : ℕ) : Type 0 where
  pub octets : IsTrue (start.tells name) → file ≡ take limit (octets_at start name)
  pub bound : len ≤ limit
  pub reads : OnlyReads start now
  pub stand : CountsStand start now

-- as many octets are held as the limit says
pub held-to-limit : (start now : FolderState) (name : List ℕ) (limit : ℕ) (file : List ℕ) (len : ℕ) → OnlyReads start now
    → CountsStand start now → (IsTrue (start.tells name) → file ≡ take len (octets_at start name)) → len ≤ limit → limit ≤ len
    → IsHeld start now name limit file len
held-to-limit start now name limit file len reads stand held few many = grind (arith)

-- or no more was read
pub held-to-end : (start now new : FolderState) (name before after : List ℕ) (limit len later count : ℕ) → OnlyReads start now
    → CountsStand start now → (IsTrue (start.tells name) → before ≡ take len (octets_at start name)) → OnlyReads now new
    → CountsStand now new → later ≡ len + count → len + count ≤ limit → count ≡ 0 →
    (IsTrue (now.tells name) → let rest = drop len (octets_at now name) in
    (after ≡ before ++ take count rest) × (count ≡ 0 → rest ≡ [])) → IsHeld start new name limit after later
held-to-end start now new name before after limit len later count reads stand held more still is few none next = record {
  octets = λ told.
      let file : List ℕ = octets_at start name in
      let same : octets_at now name ≡ file = octets-kept start now name (reads.names name) told in
      let over : drop len file ≡ [] =
      ap (λ (xs : List ℕ). drop len xs) (sym same) ∙ (next (told_later reads.goes_on name told)).1 none in
      let short : length file ≤ len = omega (arith, length-drop len file, ap (λ (xs : List ℕ). length xs) over) in
      held-more start now name before after len later count reads.goes_on (reads.names name) told (held told) is
      (λ t. (next t).0) ∙ take_all later file (omega (arith, short, is)) ∙ sym (take_all limit file (omega (arith, short, few)));
  bound = omega (arith, is, few);
  reads = OnlyReads-trans reads more;
  stand = CountsStand-trans stand still;
}
