-- What follows from several calls of a folder in a row.
use Rattle.std.specs.Prelude.{◌≡◌, ℕ, ◌≤◌, IsTrue, List, [], ◌++◌, Some, unwrap_or, refl}
use Rattle.outside_calls.proofs.Names.{sym, ◌∙◌, ap, subst, arith, inl, inr, FolderState, GoesOn, KeepsName, OnlyReads, Adds, Appended}
use Rattle.outside_calls.proofs.Names.{PartlyAppended, Rose}
use Rattle.outside_calls.specs.Folder.{held_at, octets_at}
use Rattle.outside_calls.specs.Folder.{FaultsStand, CountsStand}

-- nothing happened
pub GoesOn-refl : (a : FolderState) → GoesOn a a
GoesOn-refl a = record { tells = λ n. refl; reads = λ n. omega arith; writes = λ n. omega arith; says = omega arith; refused = omega arith }

-- later than later is later
pub GoesOn-trans : {a b c : FolderState} → GoesOn a b → GoesOn b c → GoesOn a c
GoesOn-trans {a} {b} {c} p q = record {
  tells = λ n. q.tells n ∙ p.tells n;
  reads = λ n. omega (arith, p.reads n, q.reads n);
  writes = λ n. omega (arith, p.writes n, q.writes n);
  says = omega (arith, p.says, q.says);
  refused = omega (arith, p.refused, q.refused);
}

-- a name that is told stays told
pub told_later : {a b : FolderState} → GoesOn a b → (n : List ℕ) → IsTrue (a.tells n) → IsTrue (b.tells n)
told_later p n told = subst IsTrue (sym (p.tells n)) told

-- what two steps keep, both keep
pub KeepsName-trans : (a b c : FolderState) (n : List ℕ) → GoesOn a b → KeepsName a b n → KeepsName b c n → KeepsName a c n
KeepsName-trans a b c n g p q told = q (told_later g n told) ∙ p told

-- a count that rose before others went on has risen
pub Rose-later : (a b c d : ℕ) → a ≤ b → Rose b c → c ≤ d → Rose a d
Rose-later a b c d p r q = omega arith

-- a name that is kept has the same octets
pub octets-kept : (a b : FolderState) (n : List ℕ) → KeepsName a b n → IsTrue (a.tells n) → octets_at b n ≡ octets_at a n
octets-kept a b n k told = ap (λ o. unwrap_or o []) (k told)

-- what a name holds are its octets
pub octets-held : (a : FolderState) (n xs : List ℕ) → held_at a n ≡ Some xs → octets_at a n ≡ xs
octets-held a n xs h = ap (λ o. unwrap_or o []) h

-- what was appended stays, where the name is kept from then on
pub Appended-kept : (a b c : FolderState) (n xs : List ℕ) → GoesOn a b → Appended a b n xs → KeepsName b c n → Appended a c n xs
Appended-kept a b c n xs g p k told = k (told_later g n told) ∙ p told

-- likewise of what was added
pub Adds-kept : (a b c : FolderState) (n xs : List ℕ) → GoesOn a b → Adds a b n xs → KeepsName b c n → Adds a c n xs
Adds-kept a b c n xs g p k = elim p [
  | inl none ↦ inl (none.0, KeepsName-trans a b c n g none.1 k)
  | inr put ↦ inr (Appended-kept a b c n xs g put k)
]

-- a name that is kept has nothing of the piece behind it
pub PartlyAppended-none : (a b : FolderState) (n xs : List ℕ) → KeepsName a b n → PartlyAppended a b n xs
PartlyAppended-none a b n xs k told = inl (k told)

-- what is appended in part behind a name that was kept is appended in part to what it held before
pub kept-PartlyAppended : (a b c : FolderState) (n xs : List ℕ) → GoesOn a b → KeepsName a b n → PartlyAppended b c n xs
    → PartlyAppended a c n xs
kept-PartlyAppended a b c n xs g k p told = elim (p (told_later g n told)) [
  | inl kept ↦ inl (kept ∙ k told)
  | inr put ↦ inr (put.0, put.1, put.2 ∙ ap (λ o. Some (o ++ put.0)) (octets-kept a b n k told))
]

-- no call at all reads alone
pub OnlyReads-refl : (a : FolderState) → OnlyReads a a
OnlyReads-refl a = record { goes_on = GoesOn-refl a; names = λ n told. refl; said = refl; write_faults = λ n. refl; say_faults = refl }

-- reads in a row read alone
pub OnlyReads-trans : {a b c : FolderState} → OnlyReads a b → OnlyReads b c → OnlyReads a c
OnlyReads-trans {a} {b} {c} p q = record {
  goes_on = GoesOn-trans p.goes_on q.goes_on;
  names = λ n. KeepsName-trans a b c n p.goes_on (p.names n) (q.names n);
  said = q.said ∙ p.said;
  write_faults = λ n. q.write_faults n ∙ p.write_faults n;
  say_faults = q.say_faults ∙ p.say_faults;
}

-- no call at all counts nothing
pub FaultsStand-refl : (a : FolderState) → FaultsStand a a
FaultsStand-refl a = record { reads = λ n. refl; writes = λ n. refl; says = refl }

pub CountsStand-refl : (a : FolderState) → CountsStand a a
CountsStand-refl a = record { faults = FaultsStand-refl a; refusals = refl }

-- where neither of two steps counts anything, both together don't
pub FaultsStand-trans : {a b c : FolderState} → FaultsStand a b → FaultsStand b c → FaultsStand a c
FaultsStand-trans p q = record {
  reads = λ n. q.reads n ∙ p.reads n;
  writes = λ n. q.writes n ∙ p.writes n;
  says = q.says ∙ p.says;
}

pub CountsStand-trans : {a b c : FolderState} → CountsStand a b → CountsStand b c → CountsStand a c
CountsStand-trans p q = record { faults = FaultsStand-trans p.faults q.faults; refusals = q.refusals ∙ p.refusals }
