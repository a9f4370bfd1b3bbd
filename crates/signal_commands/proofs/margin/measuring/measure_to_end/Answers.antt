use Rattle.signal_commands.proofs.Names.{◌+◌, arith, OnlyReads-trans, CountsStand-refl, CountsStand-trans, MarginNames}
use Rattle.outside_calls.proofs.Steps.{OnlyReads-refl}
use Rattle.signal_commands.specs.Margins.Words.{named}
use Rattle.signal_commands.proofs.Margins.Measures.{measured-none, measures-all}
use Rattle.signal_commands.proofs.margin.measuring.measure_to_end.Goals as goal

pub loop-margin-init : goal.loop-margin-init
loop-margin-init g c =
    record {
      within = omega arith;
      count = c.new-margin.ensures.count;
      measured = λ start o. measured-none start _ (named c.args.names.now) c.args.mode c.new-margin.result o c.new-margin.ensures.stands;
      reads = OnlyReads-refl _;
      stand = CountsStand-refl _;
    }

pub loop-margin-preserved : goal.loop-margin-preserved
loop-margin-preserved g c =
    let before = c.loop-margin.invariant in
    record {
      within = c.in-Ok.ensures.next.0;
      count = c.in-Ok.ensures.next.1;
      measured = λ start o. (c.in-Ok.ensures.ok start c.args.mode (before.measured start o)).0;
      reads = OnlyReads-trans before.reads c.measure_next.ensures.reads;
      stand = CountsStand-trans before.stand c.in-Ok.ensures.counts;
    }

pub returns-in-Ok-eq0-clause-ends : goal.returns-in-Ok-eq0-clause-ends
returns-in-Ok-eq0-clause-ends g c start o =
    let n : MarginNames = named c.args.names.now in
    let before = c.loop-margin.invariant.measured start o in
    let all = c.in-Ok-eq0.ensures.ok start c.args.mode before in
    let end = all.1 c.in-Ok-eq0.field-0-test in
    measures-all start _ n c.args.mode c.measure_next.new.margin (c.loop-margin.at + c.in-Ok-eq0.field-0)
    all.0 (λ told. (let e = end.0 told in omega (arith, e))) (λ told. (let e = end.1 told in omega (arith, e)))
