use Rattle.line_world.proofs.Cited.{◌+◌, refl, sym, ◌∙◌, ap, subst, Some, None, arith, rules, written, longest_of, slot_symbols, ArePut}
use Rattle.line_world.proofs.Cited.{turn_in, Going, Broken, IsInLimits, Appended, PartlyAppended, Originator, Answerer}
use Rattle.line_world.proofs.Hearing.{none-sent}
use Rattle.line_world.proofs.Speaking.{GoingLaws, spoken_by, ends_of, spoken-turn, broken-turn, text-is, all-codable, put_by}
use Rattle.line_world.proofs.Speaking.{are-put, goes-on, ends-so, counts-so, stops-so, adds-part}
use Rattle.line_world.proofs.modems.Modems.speak.Goals as goal

-- the turn that both ends' words make
pub returns-in-Err-write_turn-clause-speaks : goal.returns-in-Err-write_turn-clause-speaks
returns-in-Err-write_turn-clause-speaks g c = λ channel links streams files ts ends mid is h arrived go ga.
    let o = h.stands.overhears in
    let n = written c.args.names.now in
    let f = g.F.Folder.state c.args.folder.now in
    let new = g.F.Folder.state c.write_turn.new.folder in
    let t = spoken-turn c.in-Ok.sent.orig c.in-Ok.sent.answ c.speak.new.self is h (c.in-Ok.ensures.speaks files _ h.stands.link) in
    let sents = spoken_by t.orig t.answ in
    let text = text-is c.args.self.now.turn ts ends mid c.args.heard.now c.args.given.now (Some c.in-Ok.sent) sents
    (o.well Originator) (o.well Answerer) h.stands.turn go ga (λ k. Some (t.orig_sent k)) (λ k. Some (t.answ_sent k)) in
    stops-so channel f new n files ts ends c.args.heard.now mid c.in-Err-write_turn.fault c.in-Err-write_turn.ensures.write
    (adds-part channel f new n files ts ends c.args.heard.now mid sents Going o (ends_of t.orig t.answ, t.going, t.mid_is)
    (subst (PartlyAppended f new n.trace) text c.in-Err-write_turn.ensures.err))

pub link_fault-requires : goal.link_fault-requires
link_fault-requires g c =
    let w = c.requires.stands in
    let files = w.3 in
    let ts = w.4 in
    let ends = w.5 in
    let mid = w.6 in
    let is = w.7 in
    let h = w.8 in
    let o = h.stands.overhears in
    let b = broken-turn c.in-Err.breaking.role c.in-Err.breaking.fault is h (c.in-Err.ensures.speaks files _ h.stands.link) in
    c.each_turn_is_made.ensures.named _ ts ends (turn_in c.args.heard.now ends mid none-sent) mid c.in-Err.breaking.role
    c.in-Err.breaking.fault (c.scripts_make_links.ensures.ends _ files (subst IsInLimits (sym is.script_is) c.requires.limits)) o.run.run b

pub returns-in-Ok-write_turn-clause-speaks : goal.returns-in-Ok-write_turn-clause-speaks
returns-in-Ok-write_turn-clause-speaks g c = λ channel links streams files ts ends mid is h arrived go ga.
    let o = h.stands.overhears in
    let n = written c.args.names.now in
    let f = g.F.Folder.state c.args.folder.now in
    let new = g.F.Folder.state c.write_turn.new.folder in
    let t = spoken-turn c.in-Ok.sent.orig c.in-Ok.sent.answ c.speak.new.self is h (c.in-Ok.ensures.speaks files _ h.stands.link) in
    let sents = spoken_by t.orig t.answ in
    let text = text-is c.args.self.now.turn ts ends mid c.args.heard.now c.args.given.now (Some c.in-Ok.sent) sents
    (o.well Originator) (o.well Answerer) h.stands.turn go ga (λ k. Some (t.orig_sent k)) (λ k. Some (t.answ_sent k)) in
    let laws : GoingLaws = assumption in
    goes-on laws channel c.args.self.now.tally _ c.send-in-Ok.new.self links streams f new n files ts ends c.args.heard.now mid
    c.in-Ok.sent.orig
    c.in-Ok.sent.answ (subst IsInLimits (sym is.script_is) c.requires.limits) (λ k. h.stands.turn k + 1) refl o t h.stands.tally
    (record { lost = c.send.ensures.lost; again = c.send.ensures.again; orig = c.send.ensures.orig; answ = c.send.ensures.answ })
    (c.send-in-Ok.ensures.waits channel links streams (put_by channel.dlci t.orig t.answ) arrived
    (subst (ArePut (put_by channel.dlci t.orig t.answ) c.in-Ok.sent c.checks-checks.result) is.dlci_is
    (are-put channel.dlci t.orig t.answ c.in-Ok.sent c.checks-checks.result (sym t.orig_sent) (sym t.answ_sent)
    (sym (c.checks-checks.ensures files (ends_of t.orig t.answ) t.stands Originator))
    (sym (c.checks-checks.ensures files (ends_of t.orig t.answ) t.stands Answerer)))))
    (subst (Appended f new n.trace) text c.in-Ok-write_turn.ensures.ok)

pub returns-in-Ok-write_turn-clause-few : goal.returns-in-Ok-write_turn-clause-few
returns-in-Ok-write_turn-clause-few g c = c.send.ensures.few (c.args.self.now.turn + 1) c.args.self.now.turn c.requires.few

pub returns-in-Ok-write_turn-2-clause-speaks : goal.returns-in-Ok-write_turn-2-clause-speaks
returns-in-Ok-write_turn-2-clause-speaks g c = λ channel links streams files ts ends mid is h arrived go ga.
    let o = h.stands.overhears in
    let n = written c.args.names.now in
    let f = g.F.Folder.state c.args.folder.now in
    let new = g.F.Folder.state c.write_turn-in-Err.new.folder in
    let role = c.in-Err.breaking.role in
    let fault = c.in-Err.breaking.fault in
    let b = broken-turn role fault is h (c.in-Err.ensures.speaks files _ h.stands.link) in
    let named = c.each_turn_is_made.ensures.named _ ts ends (turn_in c.args.heard.now ends mid none-sent) mid role fault
    (c.scripts_make_links.ensures.ends _ files (subst IsInLimits (sym is.script_is) c.requires.limits)) o.run.run b in
    let text = text-is c.args.self.now.turn ts ends mid c.args.heard.now c.args.given.now None none-sent
    (o.well Originator) (o.well Answerer) h.stands.turn go ga refl refl in
    rw c.link_fault.ensures (ends-so channel f new n files ts ends c.args.heard.now mid c.args.self.now.turn role fault h.stands.turn named
    o b (subst (Appended f new n.trace) text c.in-Ok-write_turn-2.ensures.ok))

pub returns-in-Ok-write_turn-2-clause-counts : goal.returns-in-Ok-write_turn-2-clause-counts
returns-in-Ok-write_turn-2-clause-counts g c =
    let w = c.requires.stands in
    let files = w.3 in
    let ts = w.4 in
    let ends = w.5 in
    let mid = w.6 in
    let is = w.7 in
    let h = w.8 in
    let o = h.stands.overhears in
    let b = broken-turn c.in-Err.breaking.role c.in-Err.breaking.fault is h (c.in-Err.ensures.speaks files _ h.stands.link) in
    let named = c.each_turn_is_made.ensures.named _ ts ends
    (turn_in c.args.heard.now ends mid none-sent) mid c.in-Err.breaking.role c.in-Err.breaking.fault
    (c.scripts_make_links.ensures.ends _ files (subst IsInLimits (sym is.script_is) c.requires.limits)) o.run.run b in
    rw c.link_fault.ensures (counts-so _ _
    (written c.args.names.now) c.args.self.now.turn c.in-Err.breaking.role c.in-Err.breaking.fault named
    c.in-Ok-write_turn-2.ensures.counts)

pub returns-in-Err-write_turn-2-clause-speaks : goal.returns-in-Err-write_turn-2-clause-speaks
returns-in-Err-write_turn-2-clause-speaks g c = λ channel links streams files ts ends mid is h arrived go ga.
    let o = h.stands.overhears in
    let n = written c.args.names.now in
    let f = g.F.Folder.state c.args.folder.now in
    let new = g.F.Folder.state c.write_turn-in-Err.new.folder in
    let role = c.in-Err.breaking.role in
    let fault = c.in-Err.breaking.fault in
    let b = broken-turn role fault is h (c.in-Err.ensures.speaks files _ h.stands.link) in
    let text = text-is c.args.self.now.turn ts ends mid c.args.heard.now c.args.given.now None none-sent
    (o.well Originator) (o.well Answerer) h.stands.turn go ga refl refl in
    stops-so channel f new n files ts ends c.args.heard.now mid c.in-Err-write_turn-2.fault c.in-Err-write_turn-2.ensures.write
    (adds-part channel f new n files ts ends c.args.heard.now mid none-sent (Broken role fault) o b
    (subst (PartlyAppended f new n.trace) text c.in-Err-write_turn-2.ensures.err))

pub returns-in-Ok-write_turn-clause-idle : goal.returns-in-Ok-write_turn-clause-idle
returns-in-Ok-write_turn-clause-idle g c = c.in-Ok.ensures.idle

pub returns-in-Ok-write_turn-clause-counted : goal.returns-in-Ok-write_turn-clause-counted
returns-in-Ok-write_turn-clause-counted g c = c.in-Ok.ensures.counted

pub returns-in-Ok-write_turn-clause-only : goal.returns-in-Ok-write_turn-clause-only
returns-in-Ok-write_turn-clause-only g c = c.write_turn.ensures.only

pub returns-in-Ok-write_turn-clause-counts : goal.returns-in-Ok-write_turn-clause-counts
returns-in-Ok-write_turn-clause-counts g c = c.in-Ok-write_turn.ensures.counts

pub returns-in-Err-write_turn-clause-only : goal.returns-in-Err-write_turn-clause-only
returns-in-Err-write_turn-clause-only g c = c.write_turn.ensures.only

pub returns-in-Err-write_turn-clause-counts : goal.returns-in-Err-write_turn-clause-counts
returns-in-Err-write_turn-clause-counts g c = c.in-Err-write_turn.ensures.counts

pub returns-in-Ok-write_turn-2-clause-only : goal.returns-in-Ok-write_turn-2-clause-only
returns-in-Ok-write_turn-2-clause-only g c = c.write_turn-in-Err.ensures.only

pub returns-in-Err-write_turn-2-clause-only : goal.returns-in-Err-write_turn-2-clause-only
returns-in-Err-write_turn-2-clause-only g c = c.write_turn-in-Err.ensures.only

pub returns-in-Err-write_turn-2-clause-counts : goal.returns-in-Err-write_turn-2-clause-counts
returns-in-Err-write_turn-2-clause-counts g c = c.in-Err-write_turn-2.ensures.counts

pub send-requires : goal.send-requires
send-requires g c = record {
  again = omega (arith, c.requires.few.again, c.requires.early);
  orig = omega (arith, c.requires.few.orig, c.requires.early);
  answ = omega (arith, c.requires.few.answ, c.requires.early);
}

pub send-requires-in-Ok : goal.send-requires-in-Ok
send-requires-in-Ok g c =
    let w = c.requires.stands in
    record {
      channel = search rules;
      orig_sendable = c.in-Ok.ensures.orig_sendable;
      answ_sendable = c.in-Ok.ensures.answ_sendable;
      codable =
          let channel = w.0 in
          let files = w.3 in
          let ts = w.4 in
          let ends = w.5 in
          let mid = w.6 in
          let is = w.7 in
          let h = w.8 in
          let o = h.stands.overhears in
          let t = spoken-turn c.in-Ok.sent.orig c.in-Ok.sent.answ c.speak.new.self is h (c.in-Ok.ensures.speaks files _ h.stands.link) in
          all-codable c.slots_have_room.ensures.codable channel files ts ends c.args.heard.now mid c.in-Ok.sent.orig c.in-Ok.sent.answ
          c.in-Ok.sent c.speak.new.self c.args.lines.now w.1 w.2 c.args.self.now.dlci c.checks-checks.result
          (is.symbols_are ∙ ap (λ x. slot_symbols (longest_of x)) (sym is.script_is))
          (subst IsInLimits (sym is.script_is) c.requires.limits) o t w.9 c.in-Ok.ensures.orig_sendable c.in-Ok.ensures.answ_sendable
          refl refl (c.checks-checks.ensures files (ends_of t.orig t.answ) t.stands Originator)
          (c.checks-checks.ensures files (ends_of t.orig t.answ) t.stands Answerer);
      room = (w.0, w.1, w.2, w.9);
    }

pub overflow_add-self : goal.overflow_add-self
overflow_add-self g c = omega (arith, c.requires.early)
