use Rattle.line_world.proofs.Cited.{◌≡◌, Bool, false, is_ok, ap, sym, ◌∙◌, link_of, speak}
use Rattle.link_run.specs.Run.{both_finished}
use Rattle.stations.proofs.Standing.{broken-so}
use Rattle.line_world.proofs.Linking.{Says, said-so}
use Rattle.line_world.proofs.link.Link.speak.Goals as goal

pub returns-in-Ok-speak-clause-speaks : goal.returns-in-Ok-speak-clause-speaks
returns-in-Ok-speak-clause-speaks c = λ files ends h.
    let turn = c.args.turn in
    let release = c.are_finished-release.result in
    let told : release ≡ both_finished (link_of c.args.script.now files) turn ends = c.are_finished-release.ensures files ends h in
    let orig : Says (speak turn release ends.orig) files.orig c.speak.new.sent c.speak.new.self =
    said-so (speak turn release ends.orig) files.orig c.speak.new.sent c.speak.new.self
    (c.in-Ok.ensures.speaks files.orig ends.orig h.orig) in
    let answ : Says (speak turn false ends.answ) files.answ c.speak-2.new.sent c.speak-2.new.self =
    said-so (speak turn false ends.answ) files.answ c.speak-2.new.sent c.speak-2.new.self
    (c.in-Ok-speak.ensures.speaks files.answ ends.answ h.answ) in
    record {
      orig = orig.said;
      answ = answ.said;
      orig_says = ap (λ (r : Bool). speak turn r ends.orig) (sym told) ∙ orig.is;
      answ_says = answ.is;
      orig_sent = orig.sent_is;
      answ_sent = answ.sent_is;
      stands = record { orig = orig.stands; answ = answ.stands };
    }

pub returns-in-Ok-speak-clause-counted : goal.returns-in-Ok-speak-clause-counted
returns-in-Ok-speak-clause-counted c =
    λ heard asked h. record { orig = c.in-Ok.ensures.counted heard asked h.orig; answ = c.in-Ok-speak.ensures.counted heard asked h.answ }

pub returns-in-Err-speak-clause-speaks : goal.returns-in-Err-speak-clause-speaks
returns-in-Err-speak-clause-speaks c = λ files ends h.
    let turn = c.args.turn in
    let release = c.are_finished-release.result in
    let told : release ≡ both_finished (link_of c.args.script.now files) turn ends = c.are_finished-release.ensures files ends h in
    let orig : Says (speak turn release ends.orig) files.orig c.speak.new.sent c.speak.new.self =
    said-so (speak turn release ends.orig) files.orig c.speak.new.sent c.speak.new.self
    (c.in-Ok.ensures.speaks files.orig ends.orig h.orig) in (
      ap (λ (r : Bool). is_ok (speak turn r ends.orig)) (sym told) ∙ ap is_ok orig.is,
      broken-so (speak turn false ends.answ) files.answ c.speak-2.new.sent c.speak-2.new.self c.in-Err-speak.fault
          (c.in-Err-speak.ensures.speaks files.answ ends.answ h.answ),
    )

pub returns-in-Err-clause-speaks : goal.returns-in-Err-clause-speaks
returns-in-Err-clause-speaks c = λ files ends h.
    let turn = c.args.turn in
    let release = c.are_finished-release.result in
    ap (λ (r : Bool). speak turn r ends.orig) (sym (c.are_finished-release.ensures files ends h))
    ∙ broken-so (speak turn release ends.orig) files.orig c.speak.new.sent c.speak.new.self c.in-Err.fault
    (c.in-Err.ensures.speaks files.orig ends.orig h.orig)
