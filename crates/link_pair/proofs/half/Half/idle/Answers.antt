use Rattle.link_pair.proofs.Names.{refl, subst, rules, [], ◌∷◌, outputs_of, written, EndsLineBy, wire_at, turns_on_line, OnlyPuts-refl}
use Rattle.link_pair.proofs.Names.{CountsStand-refl, of}
use Rattle.line_world.specs.declared.directions.LineEnd.{LineEnd}
use Rattle.link_pair.proofs.Idling.{at-end, count-at, has-idled, lost-idly, met-idly, stopped-idly, writes-ends}
use Rattle.outside_calls.proofs.Putting.{OnlyPuts-one}
use Rattle.link_pair.proofs.half.Half.idle.Goals as goal
use Rattle.line_world.specs.Faults.{end_of}

pub send_flags-requires-clause-room : goal.send_flags-requires-clause-room
send_flags-requires-clause-room g c =
    let h = c.args.self.now in
    let script = c.args.script.now in
    let r = c.requires.ready in
    let a = at-end h script r.beside r.files c.args.round r.p c.requires.ended r.at.stands r.at.lasts in
    let arrives = c.in-Ok.ensures.arrives (wire_at script h.dlci r.beside) r.links (turns_on_line c.args.round r.p) r.streams r.at.waits
    r.at.due refl refl (count-at h script r.beside r.files c.args.round r.p a) in
    (wire_at script h.dlci r.beside, r.links, r.streams, arrives.lines)

pub returns-in-Ok-write_chance-clause-turn : goal.returns-in-Ok-write_chance-clause-turn
returns-in-Ok-write_chance-clause-turn g c = λ beside links streams files p h.
    let half = c.args.self.now in
    let script = c.args.script.now in
    let channel = wire_at script half.dlci beside in
    let checks = c.heard_by.result.now in
    let a = at-end half script beside files c.args.round p c.requires.ended h.stands h.lasts in
    let e = c.in-Err-Chance.ensures.arrives channel links (turns_on_line c.args.round p) streams h.waits h.due refl refl
    (count-at half script beside files c.args.round p a) in (
      refl,
      met-idly half script beside files c.args.round p (g.F.Folder.state c.args.folder.now) (g.F.Folder.state c.write_chance.new.folder)
          (written c.args.names.now) checks c.in-Err-Chance.role a c.requires.apart h.knows h.holds c.heard_by.ensures
          c.write_chance.ensures.only c.in-Ok-write_chance.ensures.ok
          (subst (λ (x : LineEnd). EndsLineBy channel (turns_on_line c.args.round p) (λ side. of side checks) (end_of x))
          c.in-Err-Chance.field-0-is e),
    )

pub returns-in-Ok-write_chance-clause-counts : goal.returns-in-Ok-write_chance-clause-counts
returns-in-Ok-write_chance-clause-counts g c = c.in-Ok-write_chance.ensures.counts

pub returns-in-Err-clause-turn : goal.returns-in-Err-clause-turn
returns-in-Err-clause-turn g c = λ beside links streams files p h.
    let half = c.args.self.now in
    let script = c.args.script.now in
    let channel = wire_at script half.dlci beside in
    let checks = c.heard_by.result.now in
    let n = written c.args.names.now in
    let a = at-end half script beside files c.args.round p c.requires.ended h.stands h.lasts in
    let e = c.in-Err-Chance.ensures.arrives channel links (turns_on_line c.args.round p) streams h.waits h.due refl refl
    (count-at half script beside files c.args.round p a) in
    writes-ends channel _ n files c.args.round p c.in-Err.fault c.in-Err.ensures.write
    (stopped-idly half script beside files c.args.round p (g.F.Folder.state c.args.folder.now) _ n checks c.in-Err-Chance.role a
    c.requires.apart h.knows h.holds c.heard_by.ensures c.write_chance.ensures.only c.in-Err.ensures.err
    (subst (λ (x : LineEnd). EndsLineBy channel (turns_on_line c.args.round p) (λ side. of side checks) (end_of x))
    c.in-Err-Chance.field-0-is e))

pub returns-in-Err-clause-counts : goal.returns-in-Err-clause-counts
returns-in-Err-clause-counts g c = c.in-Err.ensures.counts

pub arrive-requires : goal.arrive-requires
arrive-requires g c = record {
  channel = c.requires.ready.low;
  few = c.requires.ready.few;
  due =
      let h = c.args.self.now in
      let script = c.args.script.now in
      let r = c.requires.ready in
      let a = at-end h script r.beside r.files c.args.round r.p c.requires.ended r.at.stands r.at.lasts in (
        wire_at script h.dlci r.beside,
        r.links,
        turns_on_line c.args.round r.p,
        r.streams,
        r.at.waits,
        r.at.due,
        refl,
        count-at h script r.beside r.files c.args.round r.p a,
      );
}

pub send_flags-requires-clause-channel : goal.send_flags-requires-clause-channel
send_flags-requires-clause-channel g c = c.requires.ready.low

pub returns-in-Ok : goal.returns-in-Ok
returns-in-Ok g c = record {
  turn = λ beside links streams files p h.
      let half = c.args.self.now in
      let script = c.args.script.now in
      let channel = wire_at script half.dlci beside in
      let a = at-end half script beside files c.args.round p c.requires.ended h.stands h.lasts in
      let arrives = c.in-Ok.ensures.arrives channel links (turns_on_line c.args.round p) streams h.waits h.due refl refl
      (count-at half script beside files c.args.round p a) in
      has-idled half script beside files c.args.round p c.send_flags.new.lines c.arrive.new.self links streams
      (g.F.Folder.state c.args.folder.now) (written c.args.names.now) c.heard_by.result.now c.in-Ok.field-0 a h.channel h.knows h.holds
      c.heard_by.ensures arrives (c.send_flags.ensures channel links streams arrives.lines refl);
  channel = search rules;
  only = OnlyPuts-refl _ (outputs_of (written c.args.names.now));
  came = g.met.F.Folder.came_none _;
  counts = CountsStand-refl _;
}

pub returns-in-Err-Lost : goal.returns-in-Err-Lost
returns-in-Err-Lost g c = record {
  turn = λ beside links streams files p h.
      let half = c.args.self.now in
      let script = c.args.script.now in
      let channel = wire_at script half.dlci beside in
      let checks = c.heard_by.result.now in
      let a = at-end half script beside files c.args.round p c.requires.ended h.stands h.lasts in
      let e = c.in-Err-Lost.ensures.arrives channel links (turns_on_line c.args.round p) streams h.waits h.due refl refl
      (count-at half script beside files c.args.round p a) in
      lost-idly half script beside files c.args.round p (g.F.Folder.state c.args.folder.now) (written c.args.names.now) checks
      c.in-Err-Lost.role c.in-Err-Lost.symbol a h.knows h.holds c.heard_by.ensures
      (subst (λ (x : LineEnd). EndsLineBy channel (turns_on_line c.args.round p) (λ side. of side checks)
      (end_of x)) c.in-Err-Lost.field-0-is e);
  channel = search rules;
  only = OnlyPuts-refl _ (outputs_of (written c.args.names.now));
  came = g.met.F.Folder.came_none _;
  counts = CountsStand-refl _;
}

pub returns-in-Ok-write_chance-clause-only : goal.returns-in-Ok-write_chance-clause-only
returns-in-Ok-write_chance-clause-only g c = let n = written c.args.names.now in
    OnlyPuts-one _ _ (n.got_o ∷ n.got_a ∷ []) n.trace [] c.write_chance.ensures.only

pub returns-in-Err-clause-only : goal.returns-in-Err-clause-only
returns-in-Err-clause-only g c = let n = written c.args.names.now in
    OnlyPuts-one _ _ (n.got_o ∷ n.got_a ∷ []) n.trace [] c.write_chance.ensures.only
