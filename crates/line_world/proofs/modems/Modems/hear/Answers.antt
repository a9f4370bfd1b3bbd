use Rattle.line_world.proofs.Cited.{arith, refl, sym, subst, wire_at, ArrivesBoth, HaveArrived, HearsWell, arrival, IsInLimits}
use Rattle.line_world.proofs.Hearing.{HearingLaws, IsHeardBy, few-turns, early-turns, heard-by, hears-well, has-heard, tallies-heard}
use Rattle.line_world.proofs.Hearing.{lost-so}
use Rattle.line_world.proofs.modems.Modems.hear.Goals as goal

pub arrive-requires : goal.arrive-requires
arrive-requires c =
    let r = c.requires.ready in
    record {
      channel = r.kept.channel;
      few = r.few;
      due = (wire_at c.args.script.now c.args.self.now.dlci r.beside, r.links, r.turns, r.streams, r.waits, r.due, refl, r.after.turn);
    }

pub returns-in-Err-clause-hears : goal.returns-in-Err-clause-hears
returns-in-Err-clause-hears c = λ channel links streams files ts ends script dlci h waits due. (
  lost-so channel ts ends c.checks-checks.result c.in-Err.end (c.checks-checks.ensures files ends h.link)
      (c.in-Err.ensures.arrives channel links ts streams waits due script dlci h.turn),
  record { lost = h.tally.lost; again = h.tally.again },
)

pub hear-requires : goal.hear-requires
hear-requires c =
    let few = few-turns c.line_runs_end_soon.ensures.within_limits c.args.self.now c.args.script.now c.args.lines.now c.requires.ready in
    omega (arith, few, c.requires.ready.kept.few.lost)

pub hear-requires-2-clause-turn : goal.hear-requires-2-clause-turn
hear-requires-2-clause-turn c =
    early-turns c.line_runs_end_soon.ensures.within_limits c.args.self.now c.args.script.now c.args.lines.now c.requires.ready

pub hear-requires-2-clause-well : goal.hear-requires-2-clause-well
hear-requires-2-clause-well c =
    let r = c.requires.ready in
    let h = r.after in
    let channel = wire_at c.args.script.now c.args.self.now.dlci r.beside in
    let laws : HearingLaws = assumption in
    let a : ArrivesBoth (HaveArrived c.arrive.new.self channel r.links r.streams) channel r.turns c.checks-checks.result c.in-Ok.heard =
    c.in-Ok.ensures.arrives channel r.links r.turns r.streams r.waits r.due refl refl h.turn in
    let by : IsHeardBy channel r.turns r.ends c.in-Ok.heard =
    heard-by c.arrive.new.self channel r.links r.streams r.turns r.ends c.in-Ok.heard c.checks-checks.result
    (c.checks-checks.ensures r.files r.ends h.link) a in
    let well : HearsWell r.ends _ (arrival c.in-Ok.heard.orig) (arrival c.in-Ok.heard.answ) =
    hears-well laws channel r.files r.turns r.ends c.in-Ok.heard r.limits h.run by in
    (r.files, r.ends, h.link, rw h.turn well)

pub returns-clause-hears : goal.returns-clause-hears
returns-clause-hears c = λ channel links streams files ts ends script dlci h waits due.
    let r = c.requires.ready in
    let laws : HearingLaws = assumption in
    let a : ArrivesBoth (HaveArrived c.arrive.new.self channel links streams) channel ts c.checks-checks.result c.in-Ok.heard =
    c.in-Ok.ensures.arrives channel links ts streams waits due script dlci h.turn in
    let by : IsHeardBy channel ts ends c.in-Ok.heard =
    heard-by c.arrive.new.self channel links streams ts ends c.in-Ok.heard c.checks-checks.result
    (c.checks-checks.ensures files ends h.link) a in
    let well : HearsWell ends _ (arrival c.in-Ok.heard.orig) (arrival c.in-Ok.heard.answ) =
    hears-well laws channel files ts ends c.in-Ok.heard (subst IsInLimits (sym script) r.limits) h.run by in
    let hears = c.hear-2.ensures.hears files ends h.link (rw h.turn well) in
    has-heard c.args.self.now _ c.arrive.new.self channel links streams files ts ends c.in-Ok.heard h refl by a.lines
    (record { hears = hears; checks = c.checks-self.ensures files hears.mid hears.stands })
    (tallies-heard c.args.self.now.tally c.hear.new.self ts ends c.in-Ok.heard h.tally c.hear.ensures)

pub returns-in-Err-clause-spoke : goal.returns-in-Err-clause-spoke
returns-in-Err-clause-spoke c = refl

pub returns-clause-spoke : goal.returns-clause-spoke
returns-clause-spoke c = refl
