use Rattle.sample_line.proofs.Names.{◌≡◌, ◌∙◌, List, ℕ, [], ◌∷◌, ◌++◌, Some, sym, subst, append-nil, option_to_list, listed, Whole, Tallies}
use Rattle.bit_stuffing.specs.Found.{found_at, answer_of}
use Rattle.bit_stuffing.proofs.Found.{pieces-more}
use Rattle.sample_line.proofs.Finding.{none-passes, whole-passes}
use Rattle.sample_line.proofs.receiver.with_bit.Goals as goal

pub returns-then-is_whole-clause-tallied : goal.returns-then-is_whole-clause-tallied
returns-then-is_whole-clause-tallied c = λ bits octets patterns h tallied.
    let answer : answer_of (bits ++ c.args.bit ∷ []) ≡ Some Whole =
    sym (c.push.ensures.value bits h) ∙ c.is_whole.ensures.yes c.if-is_whole.true in
    let w = c.with_whole.ensures octets patterns tallied in
    record {
      pieces = listed (found_at (bits ++ c.args.bit ∷ []));
      pieces_are = pieces-more bits c.args.bit;
      more = option_to_list w.front;
      passes = whole-passes c.args.slot.framing.check (found_at (bits ++ c.args.bit ∷ [])) c.whole.result.now (option_to_list w.front)
          answer
          (c.whole.ensures.value _ (c.push.ensures.stands bits h)) w.passes;
      tallies = w.tallies;
    }

pub returns-else-is_whole-clause-tallied : goal.returns-else-is_whole-clause-tallied
returns-else-is_whole-clause-tallied c = λ bits octets patterns h tallied.
    record {
      pieces = listed (found_at (bits ++ c.args.bit ∷ []));
      pieces_are = pieces-more bits c.args.bit;
      more = [];
      passes = none-passes c.args.slot.framing.check (found_at (bits ++ c.args.bit ∷ []))
          (λ e. c.is_whole.ensures.no c.if-is_whole.false (c.push.ensures.value bits h ∙ e));
      tallies = subst (λ (xs : List (List ℕ)). Tallies c.args.slot.framing.sender c.args.slot.framing.dlci c.args.slot.sent.now xs patterns
          c.args.tally)
          (sym (append-nil octets)) tallied;
    }
