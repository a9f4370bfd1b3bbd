use Rattle.sample_line.proofs.Names.{◌≡◌, ◌∙◌, ◌+◌, ◌-◌, List, ◌++◌, ℕ, Option, Result, Err, Some, drop, take, length, sym, ap, subst}
use Rattle.sample_line.proofs.Names.{arith, take-add, take-append-drop, take_all, err_from_is_err_and, LostIs, at_beginning, line_depth}
use Rattle.sample_line.proofs.Names.{line_trellis, Lost, LineRead, HearsBetween, HearsSamples, Hearer, Tally, Sample}
use Rattle.std.proofs.Common.{append_assoc}
use Rattle.std.proofs.lemmas.List.{length-drop}
use Rattle.std.proofs.lemmas.Slice.{between_to_end}
use Rattle.sample_line.proofs.hearer.Hearer.hear.Goals as goal

pub returns-in_err-at-clause-stands : goal.returns-in_err-at-clause-stands
returns-in_err-at-clause-stands c = λ mode past earlier h.
    let at : ℕ = c.loop-at.at in
    let given : List Sample = c.args.samples.now in
    let p = err_from_is_err_and c.from_residual.result c.from_residual.ensures.1 in
    let before = c.loop-at.invariant.stands mode past earlier h in
    let rest : List Sample = take (length given - at) (drop at given) in
    let rest_is : rest ≡ drop at given = between_to_end given at (length given) (omega arith) in
    let stands : LineRead mode at_beginning line_depth c.push_some.new.self ((past ++ take at given) ++ rest) before.read =
    c.in_err-at.ensures.stands mode at_beginning (past ++ take at given) before.read before.hears.reader in
    let hearer : Hearer = record { reader = c.push_some.new.self; ear = c.loop-at.self.ear } in
    let all : (past ++ take at given) ++ rest ≡ past ++ given =
    ap (λ l. (past ++ take at given) ++ l) rest_is ∙ append_assoc past (take at given) (drop at given)
    ∙ ap (λ l. past ++ l) (take-append-drop at given) in
    subst (λ (r : Result Tally Lost). HearsSamples mode hearer (past ++ given) c.args.slot.framing.check c.args.slot.framing.sender
    c.args.slot.framing.dlci c.args.slot.sent.now earlier r) (sym (p.1 ∙ ap Err p.2))
    (subst (λ l. LostIs line_trellis line_depth l (Some c.in_err-at.field-0.0.symbol)) all
    (subst (λ (l : Option ℕ). LostIs line_trellis line_depth ((past ++ take at given) ++ rest) l)
    c.in_err-at.ensures.answer stands.decoder.lost))

pub loop-at-preserved : goal.loop-at-preserved
loop-at-preserved c =
    let i = c.loop-at.invariant in
    let at : ℕ = c.loop-at.at in
    let given : List Sample = c.args.samples.now in
    let rest : List Sample = take (length given - at) (drop at given) in
    let rest_is : rest ≡ drop at given = between_to_end given at (length given) (omega arith) in
    record {
      stands = λ mode past earlier h.
          let before = i.stands mode past earlier h in
          let hearer : Hearer = record { reader = c.push_some.new.self; ear = c.loop-at.self.ear } in
          let more : (past ++ take at given) ++ take c.in_ok-at.field-0 rest ≡ past ++ take (at + c.in_ok-at.field-0) given =
          ap (λ l. (past ++ take at given) ++ take c.in_ok-at.field-0 l) rest_is
          ∙ append_assoc past (take at given) (take c.in_ok-at.field-0 (drop at given))
          ∙ ap (λ l. past ++ l) (sym (take-add at c.in_ok-at.field-0 given)) in
          c.read_labels-tally.ensures.stands mode (past ++ take (at + c.in_ok-at.field-0) given) earlier (record {
            read = before.read;
            hears = record {
              reader = subst (λ l. LineRead mode at_beginning line_depth c.push_some.new.self l before.read) more
                  (c.in_ok-at.ensures.stands mode at_beginning (past ++ take at given) before.read before.hears.reader);
              ear = before.hears.ear;
            };
            tallies = before.tallies;
          });
      pending = c.read_labels-tally.ensures.pending;
      lost = c.read_labels-tally.ensures.lost ∙ c.in_ok-at.ensures.answer;
      count = omega (arith, i.count, c.read_labels-tally.ensures.count, c.in_ok-at.ensures.count);
      within = omega (arith, c.in_ok-at.ensures.within, ap length rest_is, length-drop at given);
    }

pub returns-clause-stands : goal.returns-clause-stands
returns-clause-stands c = λ mode past earlier h.
    let all : take c.loop-at.at c.args.samples.now ≡ c.args.samples.now =
    take_all c.loop-at.at c.args.samples.now (omega (arith, c.loop-at-test.false)) in
    subst (λ (l : List Sample). HearsBetween mode c.loop-at.self (past ++ l) c.args.slot.framing.check c.args.slot.framing.sender
    c.args.slot.framing.dlci c.args.slot.sent.now earlier c.loop-at.tally) all (c.loop-at.invariant.stands mode past earlier h)
