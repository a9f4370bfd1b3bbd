use Rattle.run_commands.proofs.Names.{◌≡◌, ◌∙◌, inl, inr, ℕ, ◌+◌, ◌*◌, ◌<◌, IsTrue, List, ◌++◌, length, take, refl, sym, subst, arith}
use Rattle.run_commands.proofs.Names.{Option, Some, None, Result, Ok, Err, rules, append-nil, ReadTo, StopCounts, Stop, OnlyPuts-reads}
use Rattle.run_commands.proofs.Names.{CountsStand-trans, FolderState, octets_at, Reached, Names, named, turn_names, inputs_of, outputs_of}
use Rattle.run_commands.proofs.Names.{FILE_LIMIT, Role, slot_octets, Closed, turn_of, Makes}
use Rattle.std.proofs.lemmas.List.{length-take-le}
use Rattle.stations.specs.OneEnd.Turn.{EndsBy as TurnEndsBy}
use Rattle.run_commands.specs.Peering.Ends.{EndsBy}
use Rattle.run_commands.proofs.Peering.Starting.{goes-by, ends-short-by}
use Rattle.run_commands.proofs.Peering.Reaching.{fails-later, Around, around-slot, fault-ends, closed-ends, ends-whole, not-read}
use Rattle.run_commands.proofs.Peering.Reaching.{turn-apart, touches, bits-fail, fault-counts}
use Rattle.run_commands.proofs.peer.turns.next_turn.Given.{Over}
use Rattle.run_commands.proofs.peer.turns.next_turn.Goals.{After-turn}
use Rattle.run_commands.proofs.peer.turns.next_turn.Goals as goal

-- a run that ends, or stops, has no next turn
ends-here : (r : Result (Option ℕ) Stop) (turns : ℕ) → r ≡ Ok None → r ≡ Ok (Some turns) → ⊥
ends-here r turns none some = cc (none, some)

stops-here : (r : Result (Option ℕ) Stop) (stop : Stop) → r ≡ Ok None → r ≡ Err stop → ⊥
stops-here r stop none err = cc (none, err)

-- the slot that a turn had, and what stood around it
long : (g : Over) (c : After-turn g) → length (take c.in-Ok.count c.read_piece.new.piece) ≡ c.in-Ok.count
long g c = length-take-le c.in-Ok.count c.read_piece.new.piece (omega (arith, c.in-Ok.ensures.bound, c.in-Ok.ensures.kept))

around : (g : Over) (c : After-turn g) (start : FolderState)
    (r : Reached start (g.F.Folder.state c.args.folder.now) (named c.args.words.now) c.args.single.now)
    → Around start (g.F.Folder.state c.read_piece.new.folder) (g.F.Folder.state c.turn.new.folder) (named c.args.words.now) r.past r.octets
    (take c.in-Ok.count c.read_piece.new.piece)
around g c start r =
    let n : Names = named c.args.words.now in
    around-slot start (g.F.Folder.state c.args.folder.now) (g.F.Folder.state c.read_piece.new.folder) (g.F.Folder.state c.turn.new.folder) n
    c.args.single.now r c.turn_number-turn.result c.in-Ok.count c.read_piece.new.piece (c.turn_number-turn.ensures ∙ r.after.turn)
    (c.apart_names_differ.ensures.inputs (inputs_of n) (outputs_of n) c.requires.apart) c.in-Ok.ensures.reads
    (c.in-Ok.ensures.more start r.octets) (c.in-Ok.ensures.end start r.octets) (omega (arith, c.in-Ok.count-test)) c.in-Ok.ensures.bound
    (long g c) c.turn.ensures.only c.in-Ok.ensures.stand

pub read_piece-requires : goal.read_piece-requires
read_piece-requires g c = omega (arith, c.requires.within, c.turn_number-turn.ensures)

pub turn-requires : goal.turn-requires
turn-requires g c = record {
  ready = c.requires.ready;
  few = omega (arith, c.requires.within);
  short =
      omega (
        arith,
        length-take-le c.in-Ok.count c.read_piece.new.piece (omega (arith, c.in-Ok.ensures.bound, c.in-Ok.ensures.kept)),
        c.in-Ok.ensures.bound,
      );
  apart =
      let n : Names = named c.args.words.now in
      turn-apart n (c.apart_names_differ.ensures.outputs (inputs_of n) (outputs_of n) c.requires.apart)
      (c.apart_names_differ.ensures.inputs (inputs_of n) (outputs_of n) c.requires.apart);
}

-- ---- no turn was made

pub returns-in-Ok-eq0 : goal.returns-in-Ok-eq0
returns-in-Ok-eq0 g c = record {
  going = λ start r e. absurd (ends-here _ _ e refl);
  done = λ start r.
      let n : Names = named c.args.words.now in
      let old : FolderState = g.F.Folder.state c.args.folder.now in
      let number : c.turn_number-turn.result ≡ length r.past.turns = c.turn_number-turn.ensures ∙ r.after.turn in
      let read : ReadTo start old n.bits FILE_LIMIT (232 * c.turn_number-turn.result) r.octets =
      subst (λ x. ReadTo start old n.bits FILE_LIMIT (slot_octets * x) r.octets) (sym number) r.read in
      let end : (count : ℕ) → count ≡ 0
      → (count < 232 → IsTrue (start.tells n.bits) → r.octets ++ take count c.read_piece.new.piece ≡ octets_at start n.bits)
      → IsTrue (start.tells n.bits) → r.octets ≡ octets_at start n.bits =
      λ count e h told. sym (append-nil r.octets)
      ∙ (subst (λ (m : ℕ). m < 232 → r.octets ++ take m c.read_piece.new.piece ≡ octets_at start n.bits) e (λ few. h few told))
      (omega arith) in
      ends-whole start old _ n c.args.single.now r c.turn_number-turn.result number c.in-Ok-eq0.ensures.reads
      (end c.in-Ok-eq0.field-0 c.in-Ok-eq0.field-0-test (c.in-Ok-eq0.ensures.end start r.octets read));
  err = search rules;
  next = λ e. absurd (ends-here _ _ e refl);
  only =
      OnlyPuts-reads (g.F.Folder.state c.args.folder.now) (g.F.Folder.state c.read_piece.new.folder)
      (outputs_of (named c.args.words.now))
      c.in-Ok-eq0.ensures.reads;
  counts = c.in-Ok-eq0.ensures.stand;
}

pub returns-in-Err : goal.returns-in-Err
returns-in-Err g c = record {
  going = λ start r e. absurd (stops-here _ _ e refl);
  done = search rules;
  err = λ start r.
      let n : Names = named c.args.words.now in
      let old : FolderState = g.F.Folder.state c.args.folder.now in
      let mid : FolderState = g.F.Folder.state c.read_piece.new.folder in
      inr (inl (
        fails-later start old mid n.bits c.in-Err.fault r.stand c.in-Err.ensures.fails,
        not-read start old mid n c.args.single.now r c.in-Err.ensures.reads,
      ));
  next = λ e. absurd (stops-here _ _ e refl);
  only =
      OnlyPuts-reads (g.F.Folder.state c.args.folder.now) (g.F.Folder.state c.read_piece.new.folder)
      (outputs_of (named c.args.words.now))
      c.in-Err.ensures.reads;
  counts =
      bits-fail (g.F.Folder.state c.args.folder.now) (g.F.Folder.state c.read_piece.new.folder) (named c.args.words.now) c.in-Err.fault
      c.in-Err.ensures.fails;
}

-- ---- a turn was made

pub returns-then-count-lt-SLOT_OCTETS : goal.returns-then-count-lt-SLOT_OCTETS
returns-then-count-lt-SLOT_OCTETS g c = record {
  going = λ start r e. absurd (ends-here _ _ e refl);
  done = λ start r.
      let n : Names = named c.args.words.now in
      let slot : List ℕ = take c.in-Ok.count c.read_piece.new.piece in
      let number : c.turn_number-turn.result ≡ length r.past.turns = c.turn_number-turn.ensures ∙ r.after.turn in
      let m = (goal.at.returns-then-count-lt-SLOT_OCTETS g c).After-turn in
      let a = around g m start r in
      ends-short-by c.lone_turns_deliver_what_came.ensures.hearing c.lone_turns_deliver_what_came.ensures.speaking
      start _ _ n c.args.single.now c.turn.new.self r.past r.octets slot c.turn_number-turn.result a number
      r.after r.role_is c.in-Ok-Going.ensures.role
      ((rw c.in-Ok-Going.field-0-is at c.in-Ok-Going.ensures.turn) r.past r.after r.knows.within)
      (omega (arith, long g m, c.if-count-lt-SLOT_OCTETS.true));
  err = search rules;
  next = λ e. absurd (ends-here _ _ e refl);
  only =
      touches (g.F.Folder.state c.args.folder.now) (g.F.Folder.state c.read_piece.new.folder) (g.F.Folder.state c.turn.new.folder)
      (named c.args.words.now) c.in-Ok.ensures.reads c.in-Ok-Going.ensures.only;
  counts = CountsStand-trans c.in-Ok.ensures.stand c.in-Ok-Going.ensures.counts;
}

pub returns-in-Ok-Closed : goal.returns-in-Ok-Closed
returns-in-Ok-Closed g c = record {
  going = λ start r e. absurd (ends-here _ _ e refl);
  done = λ start r.
      let n : Names = named c.args.words.now in
      let mid : FolderState = g.F.Folder.state c.read_piece.new.folder in
      let next : FolderState = g.F.Folder.state c.turn.new.folder in
      let slot : List ℕ = take c.in-Ok.count c.read_piece.new.piece in
      let number : c.turn_number-turn.result ≡ length r.past.turns = c.turn_number-turn.ensures ∙ r.after.turn in
      let m = (goal.at.returns-in-Ok-Closed g c).After-turn in
      let a = around g m start r in
      let makes = (rw c.in-Ok-Closed.field-0-is at c.in-Ok-Closed.ensures.turn) r.past r.after r.knows.within in
      closed-ends start mid next n r.past r.octets slot a c.turn_number-turn.result number
      (subst (λ (x : Role). Makes x mid next (turn_names n) r.past slot Closed) (c.in-Ok-Closed.ensures.role ∙ r.role_is) makes);
  err = search rules;
  next = λ e. absurd (ends-here _ _ e refl);
  only =
      touches (g.F.Folder.state c.args.folder.now) (g.F.Folder.state c.read_piece.new.folder) (g.F.Folder.state c.turn.new.folder)
      (named c.args.words.now) c.in-Ok.ensures.reads c.in-Ok-Closed.ensures.only;
  counts = CountsStand-trans c.in-Ok.ensures.stand c.in-Ok-Closed.ensures.counts;
}

pub returns-in-Err-turn : goal.returns-in-Err-turn
returns-in-Err-turn g c =
    let n : Names = named c.args.words.now in
    let mid : FolderState = g.F.Folder.state c.read_piece.new.folder in
    let next : FolderState = g.F.Folder.state c.turn.new.folder in
    record {
      going = λ start r e. absurd (stops-here _ _ e refl);
      done = search rules;
      err = λ start r.
          let slot : List ℕ = take c.in-Ok.count c.read_piece.new.piece in
          let number : c.turn_number-turn.result ≡ length r.past.turns = c.turn_number-turn.ensures ∙ r.after.turn in
          let m = (goal.at.returns-in-Err-turn g c).After-turn in
          let a = around g m start r in
          subst (EndsBy start next n) (sym c.stop_of.ensures)
          (fault-ends start mid next n r.past r.octets slot a c.turn_number-turn.result c.in-Err-turn.fault number
          c.in-Err-turn.ensures.counts (subst (λ (x : Role). TurnEndsBy x mid next (turn_names n) r.past slot c.in-Err-turn.fault)
          (c.in-Err-turn.ensures.role ∙ r.role_is) (c.in-Err-turn.ensures.turn r.past r.after r.knows.within)));
      next = λ e. absurd (stops-here _ _ e refl);
      only =
          touches (g.F.Folder.state c.args.folder.now) (g.F.Folder.state c.read_piece.new.folder) (g.F.Folder.state c.turn.new.folder)
          (named c.args.words.now) c.in-Ok.ensures.reads c.in-Err-turn.ensures.only;
      counts =
          subst (StopCounts _ next (inputs_of n) (outputs_of n)) (sym c.stop_of.ensures)
          (fault-counts _ mid next n c.turn_number-turn.result c.in-Err-turn.fault c.in-Ok.ensures.stand c.in-Err-turn.ensures.counts);
    }

pub returns-else-count-lt-SLOT_OCTETS : goal.returns-else-count-lt-SLOT_OCTETS
returns-else-count-lt-SLOT_OCTETS g c = record {
  going = λ start r going.
      let n : Names = named c.args.words.now in
      let slot : List ℕ = take c.in-Ok.count c.read_piece.new.piece in
      let number : c.turn_number-turn.result ≡ length r.past.turns = c.turn_number-turn.ensures ∙ r.after.turn in
      let m = (goal.at.returns-else-count-lt-SLOT_OCTETS g c).After-turn in
      let a = around g m start r in
      goes-by c.lone_turns_deliver_what_came.ensures.hearing c.lone_turns_deliver_what_came.ensures.speaking
      start _ _ n c.args.single.now c.turn.new.self r.past r.octets slot a
      r.role_is c.in-Ok-Going.ensures.role c.in-Ok-Going.ensures.counts
      ((rw c.in-Ok-Going.field-0-is at c.in-Ok-Going.ensures.turn) r.past r.after r.knows.within)
      (omega (arith, long g m, c.in-Ok.ensures.bound, c.if-count-lt-SLOT_OCTETS.false));
  done = search rules;
  err = search rules;
  next = λ e.
      let made : turn_of c.turn.new.self ≡ turn_of c.args.single.now + 1 = rw c.in-Ok-Going.field-0-is at c.in-Ok-Going.ensures.number in (
        (rw c.in-Ok-Going.field-0-is at c.in-Ok-Going.ensures.ready) refl,
        omega (arith, made, c.in-Ok.ensures.within, c.turn_number-turn.ensures, c.if-count-lt-SLOT_OCTETS.false),
        made,
      );
  only =
      touches (g.F.Folder.state c.args.folder.now) (g.F.Folder.state c.read_piece.new.folder) (g.F.Folder.state c.turn.new.folder)
      (named c.args.words.now) c.in-Ok.ensures.reads c.in-Ok-Going.ensures.only;
  counts = CountsStand-trans c.in-Ok.ensures.stand c.in-Ok-Going.ensures.counts;
}
