-- The folder of an audit against what a folder has to do.
use Rattle.std.proofs.Common.{◌≡◌, ◌≢◌, ℕ, ◌-◌, ◌≤◌, min, Bool, true, false, cond, List, [], ◌++◌, length, take, drop, Some}
use Rattle.std.proofs.Common.{refl, sym, ap, subst, ◌∙◌, arith, inl, inr, ◌⊎◌, unwrap_or, Result, Ok, Err, length-drop}
use Rattle.std.specs.Prelude.{IsTrue, IfOk, OnOk}
use Rattle.std.specs.FinMap.{get, insert}
use Rattle.std.specs.Str.{bytes_eq}
use Rattle.std.proofs.lemmas.Slice.Eq.{bytes_eq-Decides}
use Rattle.outside_calls.specs.Folder.{FolderState, held_at, octets_at, KeepsName, OnlyReads, OnlyWrites}
use Rattle.frame_check.specs.Octets.{AreOctets}
use Rattle.outside_calls.specs.Folder.{ReadsFront, TellsOctets, Appended, Created}
use Rattle.outside_calls.specs.declared.folder.FolderFault.{FolderFault}
use Rattle.program_folders.specs.Audited.{Swallowed, audit_tells, sum_of, audit_state}
use Rattle.program_folders.proofs.Stored.{get-insert_same, get-insert_other}

-- ---- finite maps

-- ---- names

same-name : (a b : List ℕ) → bytes_eq a b ≡ true → a ≡ b
same-name a b e = (bytes_eq-Decides a b).0 e

pub false-true : {P : Type 0} → false ≡ true → P
false-true e = absurd cc

other-name : (a b : List ℕ) → bytes_eq a b ≡ false → a ≢ b
other-name a b e s = false-true (sym e ∙ (bytes_eq-Decides a b).1 s)

module _ (n : Swallowed) where
  -- what is told beside the trace is told by the folder handed in
  pub told : (i : FolderState) (name : List ℕ) → bytes_eq name n.trace ≡ false → IsTrue (audit_tells i n name) → IsTrue (i.tells name)
  told i name e t = go (bytes_eq name n.trace) (bytes_eq name n.got_o) (bytes_eq name n.got_a) e t
    where
      go : (a b c : Bool) → a ≡ false → IsTrue (cond a true (cond b false (cond c false (i.tells name)))) → IsTrue (i.tells name)
      go true b c e t = false-true (sym e)
      go false true c e t = false-true t
      go false false true e t = false-true t
      go false false false e t = t

  -- a swallowed name isn't told
  untold : (i : FolderState) (name : List ℕ) → bytes_eq name n.trace ≡ false → bytes_eq name n.got_o ≡ true ⊎ bytes_eq name n.got_a ≡ true
      → IsTrue (audit_tells i n name) → ⊥
  untold i name e s t = go (bytes_eq name n.trace) (bytes_eq name n.got_o) (bytes_eq name n.got_a) e s t
    where
      go : (a b c : Bool) → a ≡ false → b ≡ true ⊎ c ≡ true → IsTrue (cond a true (cond b false (cond c false (i.tells name)))) → ⊥
      go true b c e s t = false-true (sym e)
      go false true c e s t = false-true t
      go false false true e s t = false-true t
      go false false false e s t = elim s [ inl p ↦ false-true p | inr p ↦ false-true p ]

  -- ---- reads

  pub reads-trace : (i : FolderState) (text : List ℕ) (r : ℕ) (name : List ℕ) (at : ℕ) (before after : List ℕ) (count : ℕ)
      → bytes_eq name n.trace ≡ true → count ≡ min (length before) (length text - at)
      → after ≡ take count (drop at text) ++ drop count before → ReadsFront (audit_state i n text r) name at before after count
  reads-trace i text r name at before after count e c f told =
      let o : octets_at (audit_state i n text r) name ≡ text =
      ap (λ (q : List ℕ). octets_at (audit_state i n text r) q) (same-name name n.trace e)
      ∙ ap (λ o. unwrap_or o []) (get-insert_same i.held n.trace text) in
      subst (λ (t : List ℕ). (count ≡ min (length before) (length (drop at t))) × (after ≡ take count (drop at t) ++ drop count before))
      (sym o)
      (c ∙ ap (λ k. min (length before) k) (sym (length-drop at text)), f)

  pub reads-on : (i : FolderState) (text : List ℕ) (r : ℕ) (name : List ℕ) (at : ℕ) (before after : List ℕ) (count : ℕ)
      → bytes_eq name n.trace ≡ false → ReadsFront i name at before after count
      → ReadsFront (audit_state i n text r) name at before after count
  reads-on i text r name at before after count e f t =
      let o : octets_at (audit_state i n text r) name ≡ octets_at i name =
      ap (λ o. unwrap_or o []) (get-insert_other i.held n.trace text name (other-name name n.trace e)) in
      subst (λ (t : List ℕ). (count ≡ min (length before) (length (drop at t))) × (after ≡ take count (drop at t) ++ drop count before))
      (sym o)
      (f (told i name e t))

  -- what is told of a name stays, where the folder handed in keeps its names
  keeps : (i j : FolderState) (text : List ℕ) (r s : ℕ) (name : List ℕ) → KeepsName i j name
      → KeepsName (audit_state i n text r) (audit_state j n text s) name
  keeps i j text r s name k t = go (bytes_eq name n.trace) refl
    where
      go : (b : Bool) → bytes_eq name n.trace ≡ b → get (insert j.held n.trace text) name ≡ get (insert i.held n.trace text) name
      go true e =
          ap (get (insert j.held n.trace text)) (same-name name n.trace e) ∙ get-insert_same j.held n.trace text ∙ sym (get-insert_same i.held n.trace text)
          ∙ ap (get (insert i.held n.trace text)) (sym (same-name name n.trace e))
      go false e =
          get-insert_other j.held n.trace text name (other-name name n.trace e) ∙ k (told i name e t)
          ∙ sym (get-insert_other i.held n.trace text name (other-name name n.trace e))

  tells-on : (i j : FolderState) (name : List ℕ) → j.tells name ≡ i.tells name → audit_tells j n name ≡ audit_tells i n name
  tells-on i j name e =
      ap (λ t. cond (bytes_eq name n.trace) true (cond (bytes_eq name n.got_o) false (cond (bytes_eq name n.got_a) false t))) e

  sum-more : (a b r : ℕ) → a ≤ b → sum_of a r ≤ sum_of b r
  sum-more a b r h = omega (arith, h)

  pub only-reads : (i j : FolderState) (text : List ℕ) (r : ℕ) → OnlyReads i j
      → OnlyReads (audit_state i n text r) (audit_state j n text r)
  only-reads i j text r o = record {
    goes_on = record {
      tells = λ name. tells-on i j name (o.goes_on.tells name);
      reads = o.goes_on.reads;
      writes = λ name. omega arith;
      says = omega arith;
      refused = sum-more i.refusals j.refusals r o.goes_on.refused;
    };
    names = λ name. keeps i j text r r name (o.names name);
    said = refl;
    write_faults = λ name. refl;
    say_faults = refl;
  }

  -- ---- counts

  -- ---- writes

  -- the trace alone changes
  pub only-trace : (i : FolderState) (text text' : List ℕ) (r : ℕ) (name : List ℕ) → bytes_eq name n.trace ≡ true
      → OnlyWrites (audit_state i n text r) (audit_state i n text' r) name
  only-trace i text text' r name e = record {
    goes_on = record {
      tells = λ q. refl;
      reads = λ q. omega arith;
      writes = λ q. omega arith;
      says = omega arith;
      refused = omega arith;
    };
    names = λ q apart t.
        let other : q ≢ n.trace = λ s. apart (s ∙ sym (same-name name n.trace e)) in
        get-insert_other i.held n.trace text' q other ∙ sym (get-insert_other i.held n.trace text q other);
    said = refl;
    read_faults = λ q. refl;
  }

  pub trace-is : (i : FolderState) (text : List ℕ) (r : ℕ) (name : List ℕ) → bytes_eq name n.trace ≡ true
      → held_at (audit_state i n text r) name ≡ Some text
  trace-is i text r name e = ap (get (insert i.held n.trace text)) (same-name name n.trace e) ∙ get-insert_same i.held n.trace text

  pub creates : (i : FolderState) (text : List ℕ) (r : ℕ) (name : List ℕ) → bytes_eq name n.trace ≡ true
      → Created (audit_state i n text r) (audit_state i n [] r) name
  creates i text r name e t = trace-is i [] r name e

  pub appends : (i : FolderState) (text piece : List ℕ) (r : ℕ) (name : List ℕ) → bytes_eq name n.trace ≡ true
      → Appended (audit_state i n text r) (audit_state i n (text ++ piece) r) name piece
  appends i text piece r name e t =
      trace-is i (text ++ piece) r name e ∙ ap (λ o. Some (unwrap_or o [] ++ piece)) (sym (trace-is i text r name e))

  -- ---- refusals

  pub only-refused : (i : FolderState) (text : List ℕ) (r r' : ℕ) (name : List ℕ) → r ≤ r'
      → OnlyWrites (audit_state i n text r) (audit_state i n text r') name
  only-refused i text r r' name more = record {
    goes_on = record {
      tells = λ q. refl;
      reads = λ q. omega arith;
      writes = λ q. omega arith;
      says = omega arith;
      refused = omega (arith, more);
    };
    names = λ q apart t. refl;
    said = refl;
    read_faults = λ q. refl;
  }

  pub reads-on-ok : (i : FolderState) (text : List ℕ) (r : ℕ) (name : List ℕ) (at : ℕ) (before after : List ℕ)
      (result : Result ℕ FolderFault)
      → bytes_eq name n.trace ≡ false → IfOk result (ReadsFront i name at before after)
      → IfOk result (ReadsFront (audit_state i n text r) name at before after)
  reads-on-ok i text r name at before after (Ok count) e h = reads-on i text r name at before after count e h
  reads-on-ok i text r name at before after (Err fault) e h = tt

  -- what is told are octets
  pub tells-trace : (i : FolderState) (text : List ℕ) (r : ℕ) (name : List ℕ) → bytes_eq name n.trace ≡ true → AreOctets text
      → TellsOctets (audit_state i n text r) name
  tells-trace i text r name e octets told =
      let o : octets_at (audit_state i n text r) name ≡ text = ap (λ o. unwrap_or o []) (trace-is i text r name e) in
      subst AreOctets (sym o) octets

  pub tells-inner : {T : Type 0} (i : FolderState) (text : List ℕ) (r : ℕ) (name : List ℕ) (result : Result T FolderFault)
      → bytes_eq name n.trace ≡ false → OnOk result (TellsOctets i name) → OnOk result (TellsOctets (audit_state i n text r) name)
  tells-inner i text r name (Ok value) e h = λ t.
      let o : octets_at (audit_state i n text r) name ≡ octets_at i name =
      ap (λ o. unwrap_or o []) (get-insert_other i.held n.trace text name (other-name name n.trace e)) in
      subst AreOctets (sym o) (h (told i name e t))
  tells-inner i text r name (Err fault) e h = tt
