use Rattle.line_world.proofs.Cited.{subst, Ok, Err, Heard, IsHeardOf, HaveRoom, Originator, Answerer}
use Rattle.line_world.proofs.Waiting.{Moved, role-hears, late-of, stands-of, hears-both, room-both}
use Rattle.line_world.proofs.directions.Directions.arrive.Goals.{After-arrive, After-arrive-2}
use Rattle.line_world.proofs.directions.Directions.arrive.Goals as goal

pub arrive-requires : goal.arrive-requires
arrive-requires c =
    let w = c.requires.due in
    record {
      channel = c.requires.channel;
      few = c.requires.few Answerer;
      late = λ l. late-of c.args.self.now.from_answ w.0 Answerer w.1 w.2 w.3.answ c.args.turn (w.4 Answerer) (w.5 Answerer) w.7 l;
      some = (w.4 Answerer).lag_some;
      stands = stands-of c.args.self.now.from_answ w.0 Answerer w.1 w.3.answ c.args.script.now (w.4 Answerer) w.6;
    }

-- a direction that let a slot arrive has what it had
moved : (c : After-arrive) → Moved c.args.self.now.from_answ c.arrive.new.self
moved c = assumption

moved-back : (c : After-arrive-2) → Moved c.args.self.now.from_orig c.arrive-2.new.self
moved-back c = assumption

pub returns-in-Err-clause-arrives : goal.returns-in-Err-clause-arrives
returns-in-Err-clause-arrives c = λ channel links ts streams h due script dlci number.
    role-hears c.args.self.now.from_answ c.arrive.new.self channel Answerer links ts streams.answ c.args.turn c.args.checks.now.orig
    c.args.script.now c.args.dlci (Err c.in-Err.lost) (h Answerer) (due Answerer) script dlci number
    (moved (goal.at.returns-in-Err-clause-arrives c).After-arrive) c.in-Err.ensures.arrives

pub returns-in-Chance-clause-arrives : goal.returns-in-Chance-clause-arrives
returns-in-Chance-clause-arrives c = λ channel links ts streams h due script dlci number.
    let heard = role-hears c.args.self.now.from_answ c.arrive.new.self channel Answerer links ts streams.answ c.args.turn
    c.args.checks.now.orig c.args.script.now c.args.dlci (Ok c.in-Ok.heard) (h Answerer) (due Answerer) script dlci number
    (moved (goal.at.returns-in-Chance-clause-arrives c).After-arrive) c.in-Ok.ensures.arrives in
    subst (λ (x : Heard). IsHeardOf channel Answerer ts c.args.checks.now.orig x) c.in-Chance.is heard.0

pub arrive-requires-2 : goal.arrive-requires-2
arrive-requires-2 c =
    let w = c.requires.due in
    record {
      channel = c.requires.channel;
      few = c.requires.few Originator;
      late = λ l. late-of c.args.self.now.from_orig w.0 Originator w.1 w.2 w.3.orig c.args.turn (w.4 Originator) (w.5 Originator) w.7 l;
      some = (w.4 Originator).lag_some;
      stands = stands-of c.args.self.now.from_orig w.0 Originator w.1 w.3.orig c.args.script.now (w.4 Originator) w.6;
    }

pub returns-in-Err-arrive : goal.returns-in-Err-arrive
returns-in-Err-arrive c = record {
  arrives = λ channel links ts streams h due script dlci number.
      let first = role-hears c.args.self.now.from_answ c.arrive.new.self channel Answerer links ts streams.answ c.args.turn
      c.args.checks.now.orig c.args.script.now c.args.dlci (Ok c.in-Ok.heard) (h Answerer) (due Answerer) script dlci number
      (moved (goal.at.returns-in-Err-arrive c).After-arrive) c.in-Ok.ensures.arrives in
      let second = role-hears c.args.self.now.from_orig c.arrive-2.new.self channel Originator links ts streams.orig c.args.turn
      c.args.checks.now.answ c.args.script.now c.args.dlci (Err c.in-Err-arrive.lost) (h Originator) (due Originator) script dlci number
      (moved-back (goal.at.returns-in-Err-arrive c).After-arrive-2) c.in-Err-arrive.ensures.arrives in
      (record { heard = c.in-Ok.heard; is = first.0; well = c.in_default.not-Chance }, second);
  orig_numbered = tt;
  answ_numbered = tt;
}

pub returns-in-Chance-answ : goal.returns-in-Chance-answ
returns-in-Chance-answ c = record {
  arrives = λ channel links ts streams h due script dlci number.
      let first = role-hears c.args.self.now.from_answ c.arrive.new.self channel Answerer links ts streams.answ c.args.turn
      c.args.checks.now.orig c.args.script.now c.args.dlci (Ok c.in-Ok.heard) (h Answerer) (due Answerer) script dlci number
      (moved (goal.at.returns-in-Chance-answ c).After-arrive) c.in-Ok.ensures.arrives in
      let second = role-hears c.args.self.now.from_orig c.arrive-2.new.self channel Originator links ts streams.orig c.args.turn
      c.args.checks.now.answ c.args.script.now c.args.dlci (Ok c.in-Ok-arrive.heard) (h Originator) (due Originator) script dlci number
      (moved-back (goal.at.returns-in-Chance-answ c).After-arrive-2) c.in-Ok-arrive.ensures.arrives in (
        record { heard = c.in-Ok.heard; is = first.0; well = c.in_default.not-Chance },
        subst (λ (x : Heard). IsHeardOf channel Originator ts c.args.checks.now.answ x) c.in-Chance-answ.is second.0,
      );
  orig_numbered = tt;
  answ_numbered = tt;
}

pub returns : goal.returns
returns c = record {
  arrives = λ channel links ts streams h due script dlci number.
      let first = role-hears c.args.self.now.from_answ c.arrive.new.self channel Answerer links ts streams.answ c.args.turn
      c.args.checks.now.orig c.args.script.now c.args.dlci (Ok c.in-Ok.heard) (h Answerer) (due Answerer) script dlci number
      (moved (goal.at.returns c).After-arrive) c.in-Ok.ensures.arrives in
      let second = role-hears c.args.self.now.from_orig c.arrive-2.new.self channel Originator links ts streams.orig c.args.turn
      c.args.checks.now.answ c.args.script.now c.args.dlci (Ok c.in-Ok-arrive.heard) (h Originator) (due Originator) script dlci number
      (moved-back (goal.at.returns c).After-arrive-2) c.in-Ok-arrive.ensures.arrives in
      hears-both (HaveRoom (record { from_orig = c.arrive-2.new.self; from_answ = c.arrive.new.self }) channel links streams) channel ts
      c.args.checks.now c.in-Ok.heard c.in-Ok-arrive.heard first.0 second.0 c.in_default.not-Chance c.in_default-answ.not-Chance
      (room-both c.arrive-2.new.self c.arrive.new.self channel links streams second.1 first.1);
  orig_numbered = c.in-Ok.ensures.numbered;
  answ_numbered = c.in-Ok-arrive.ensures.numbered;
}
