use Rattle.sample_line.proofs.Names.{◌≡◌, ◌∙◌, ◌+◌, ◌-◌, ◌++◌, List, ℕ, map, take, Result, Err, refl, sym, ap, subst, arith, take_all}
use Rattle.sample_line.proofs.Names.{err_from_is_err_and, Lost, CarriesBetween, Arrives, Tally, point_of}
use Rattle.std.proofs.Math.Nat.{min-le_left}
use Rattle.sample_line.specs.Path.{PassesPoints}
use Rattle.sample_line.proofs.Arriving.{begun, lost-among}
use Rattle.sample_line.proofs.path.Path.pass.Goals as goal

pub loop-at-init : goal.loop-at-init
loop-at-init c = record {
  carries = λ before earlier h. begun c.args.self.now c.args.script.now before earlier c.args.slot.framing.check
      c.args.slot.framing.sender c.args.slot.framing.dlci c.args.slot.sent.now h;
  sender = refl;
  symbol = omega arith;
  count = omega arith;
  within = omega arith;
  multiple = λ more. omega arith;
  pending = c.requires.pending;
  lost = c.requires.lost;
}

pub loop-at-preserved : goal.loop-at-preserved
loop-at-preserved c =
    let i = c.loop-at.invariant in
    record {
      carries = λ before earlier h.
          subst (λ (r : Result Tally Lost). Arrives c.arrive.new.self c.args.script.now
          (before ++ map point_of (take (c.loop-at.at + c.min-count.result) c.args.labels.now)) c.args.slot.framing.check
          c.args.slot.framing.sender c.args.slot.framing.dlci c.args.slot.sent.now earlier r) c.in_ok-tally.was
          (c.arrive.ensures.arrives before earlier (i.carries before earlier h));
      sender = c.arrive.ensures.sender ∙ i.sender;
      symbol = omega (arith, c.arrive.ensures.symbol, i.symbol);
      count = omega (arith, c.arrive.ensures.count, i.count);
      within = omega (arith, i.within, c.len.ensures.count, c.min-count.ensures, min-le_left (c.len-in-loop-at.result - c.loop-at.at) 128);
      multiple = λ more. omega (
        arith,
        more,
        c.len.ensures.count,
        c.min-count.ensures,
        i.multiple
            (omega (arith, c.loop-at-test.true, c.len.ensures.count)),
      );
      pending = c.in_ok-tally.ensures.pending;
      lost = c.in_ok-tally.ensures.lost;
    }

pub returns-in_err-tally-clause-passes : goal.returns-in_err-tally-clause-passes
returns-in_err-tally-clause-passes c = λ before earlier h.
    let p = err_from_is_err_and c.from_residual.result c.from_residual.ensures.1 in
    let came = c.in_err-tally.ensures.arrives before earlier (c.loop-at.invariant.carries before earlier h) in
    subst (λ (r : Result Tally Lost). PassesPoints c.arrive.new.self c.args.script.now before
    (map point_of c.args.labels.now) c.args.slot.framing.check c.args.slot.framing.sender c.args.slot.framing.dlci c.args.slot.sent.now
    earlier r) (sym (p.1 ∙ ap Err p.2))
    (lost-among c.arrive.new.self.transmitter.sender c.args.script.now before _ c.args.labels.now (c.loop-at.at + c.min-count.result)
    c.in_err-tally.field-0.0.symbol refl came)

pub returns-clause-passes : goal.returns-clause-passes
returns-clause-passes c = λ before earlier h.
    let all : take c.loop-at.at c.args.labels.now ≡ c.args.labels.now =
    take_all c.loop-at.at c.args.labels.now (omega (arith, c.loop-at-test.false)) in
    subst (λ (xs : List ℕ). CarriesBetween c.loop-at.self c.args.script.now
    (before ++ map point_of xs) c.args.slot.framing.check c.args.slot.framing.sender c.args.slot.framing.dlci c.args.slot.sent.now earlier
    c.loop-at.tally) all (c.loop-at.invariant.carries before earlier h)
