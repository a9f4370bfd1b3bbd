use Rattle.line_world.proofs.Cited.{◌≡◌, ◌+◌, ◌<◌, length, refl, sym, ◌∙◌, ap, subst, outputs_of, written, EndsLine, wire_at, end_of}
use Rattle.line_world.proofs.Cited.{HaveArrived, AreCounted, octets_of, served, handed, LineEnd, is_closed, Done, OnlyPuts-trans}
use Rattle.line_world.proofs.Cited.{OnlyPuts-reads, KeepsEach-refl, KeepsEach-reads, AddEach-kept, OnlyPuts-refl, CountsStand-trans}
use Rattle.line_world.proofs.Cited.{CountsStand-refl}
use Rattle.line_world.proofs.Hearing.{early-turns}
use Rattle.line_world.proofs.Serving.{phase-delivered}
use Rattle.line_world.proofs.Folders.{lines-only, counts-later, stay-known, others-known}
use Rattle.line_world.proofs.Turning.{MakingLaws, writing-ends, reading-ends, same-beside, halts-so, checked-so, stops-handing}
use Rattle.line_world.proofs.Turning.{stops-reading, stops-writing, ends-in, speaks-last, goes-on-by, kept-on, no-step, done-no-step}
use Rattle.line_world.proofs.modems.Modems.turn.Given.{Over}
use Rattle.line_world.proofs.modems.Modems.turn.Goals.{After-line_runs_end_soon}
use Rattle.line_world.proofs.modems.Modems.turn.Goals as goal

pub serve-requires : goal.serve-requires
serve-requires g c = record {
  early =
      rw (c.hand_over.ensures.beside.turn, c.hear.ensures.turn)
      (early-turns c.line_runs_end_soon.ensures.within_limits c.args.self.now c.args.script.now c.args.lines.now c.requires.ready);
  counted =
      let t = c.args.self.now.turn in
      let e : c.hand_over.new.self.turn ≡ t = c.hand_over.ensures.beside.turn ∙ c.hear.ensures.turn in
      subst (λ x. AreCounted c.hand_over.new.self.link (x + 1) x) (sym e)
      (c.in-Ok-hand_over.ensures.counted (t + 1) t c.in-Ok.ensures.counted);
  limits = c.requires.ready.limits;
  stands =
      let r = c.requires.ready in
      let channel = wire_at c.args.script.now c.args.self.now.dlci r.beside in
      let has = c.in-Ok.ensures.hears channel r.links r.streams r.files r.turns r.ends refl refl r.after r.waits r.due in
      let hands = c.in-Ok-hand_over.ensures.hands channel r.files r.turns r.ends c.in-Ok.heard has.mid has.stands in
      (channel, r.files, r.turns, r.ends, c.in-Ok.heard, has.mid, refl, hands.stands, r.within);
}

pub hear-requires : goal.hear-requires
hear-requires g c = record { ready = c.requires.ready }

making-laws : (g : Over) (c : After-line_runs_end_soon g) → MakingLaws
making-laws g c = assumption

pub returns-in-Err-Lost : goal.returns-in-Err-Lost
returns-in-Err-Lost g c = record {
  turn = λ beside links streams files ts ends h within waits due.
      let channel = wire_at c.args.script.now c.args.self.now.dlci beside in
      let e = c.in-Err-Lost.ensures.hears channel links streams files ts ends refl refl h waits due in
      assumption (
        subst (λ (x : LineEnd). EndsLine channel ts ends (end_of x)) c.in-Err-Lost.field-0-is e.0,
        KeepsEach-refl (g.F.Folder.state c.args.folder.now) (outputs_of (written c.args.names.now)),
      );
  kept = λ e. no-step e;
  number = c.hear.ensures.turn;
  channel = c.hear.ensures.dlci;
  spoke = c.hear.ensures.spoke;
  only = OnlyPuts-refl _ (outputs_of (written c.args.names.now));
  came = g.met.F.Folder.came_none _;
  counts = CountsStand-refl _;
}

pub meet_chance-requires : goal.meet_chance-requires
meet_chance-requires g c = record { apart = c.requires.apart }

pub returns-in-Err-Chance : goal.returns-in-Err-Chance
returns-in-Err-Chance g c = record {
  turn = λ beside links streams files ts ends h within waits due.
      let channel = wire_at c.args.script.now c.args.self.now.dlci beside in
      let e = c.in-Err-Chance.ensures.hears channel links streams files ts ends refl refl h waits due in
      c.meet_chance.ensures.meets c.hear.new.lines channel links streams ts ends (c.hear.ensures.turn ∙ h.turn)
      (subst (λ (x : LineEnd). EndsLine channel ts ends (end_of x)) c.in-Err-Chance.field-0-is e.0) e.1 files;
  kept = λ e. no-step e;
  number = c.hear.ensures.turn;
  channel = c.hear.ensures.dlci;
  spoke = c.hear.ensures.spoke;
  only = lines-only _ _ (written c.args.names.now) c.meet_chance.ensures.only;
  came = c.meet_chance.ensures.came;
  counts = c.meet_chance.ensures.counts;
}

pub hand_over-requires : goal.hand_over-requires
hand_over-requires g c = record { apart = c.requires.apart }

pub returns-in-Err : goal.returns-in-Err
returns-in-Err g c = record {
  turn = λ beside links streams files ts ends h within waits due.
      let channel = wire_at c.args.script.now c.args.self.now.dlci beside in
      let n = written c.args.names.now in
      let w = c.hand_over.new.self in
      let has = c.in-Ok.ensures.hears channel links streams files ts ends refl refl h waits due in
      writing-ends w c.hear.new.lines channel links streams _ _ n files ts ends c.in-Err.fault c.in-Err.ensures.write
      (stops-handing (making-laws g (goal.at.returns-in-Err g c).After-line_runs_end_soon) w c.hear.new.lines channel links streams _ _ n
      files ts ends c.in-Ok.heard has.mid c.requires.ready.limits c.requires.apart within c.hand_over.ensures.only has.stands.overhears
      (halts-so c.hear.new.self w c.hear.new.lines channel links streams files ts ends c.in-Ok.heard has.mid has.mid has.stands has.lines
      c.hand_over.ensures.beside) (c.in-Err.ensures.part channel files ts ends c.in-Ok.heard has.mid has.stands));
  kept = λ e. no-step e;
  number = c.hand_over.ensures.beside.turn ∙ c.hear.ensures.turn;
  channel = c.hand_over.ensures.beside.dlci ∙ c.hear.ensures.dlci;
  spoke = c.hand_over.ensures.beside.spoke ∙ c.hear.ensures.spoke;
  only = c.hand_over.ensures.only;
  came = c.hand_over.ensures.came;
  counts = c.in-Err.ensures.counts;
}

pub returns-in-Ok-finish : goal.returns-in-Ok-finish
returns-in-Ok-finish g c =
    let n = written c.args.names.now in
    let only = OnlyPuts-trans _ _ _ (outputs_of n) c.hand_over.ensures.only (lines-only _ _ n c.finish.ensures.only) in
    record {
      turn = λ beside links streams files ts ends h within waits due.
          let channel = wire_at c.args.script.now c.args.self.now.dlci beside in
          let has = c.in-Ok.ensures.hears channel links streams files ts ends refl refl h waits due in
          let hands = c.in-Ok-hand_over.ensures.hands channel files ts ends c.in-Ok.heard has.mid has.stands in
          let closed = sym (ap is_closed (phase-delivered has.mid.orig)) ∙ sym
          (c.is_closed.ensures files (handed has.mid) hands.stands.link) ∙ c.if-is_closed.true in
          let w = c.hand_over.new.self in
          ends-in w c.hear.new.lines channel links streams _ _ _ n files files ts ends c.in-Ok.heard has.mid c.requires.apart
          (stay-known _ _ n files c.requires.apart only within) c.hand_over.ensures.only hands.delivered c.finish.ensures.only
          (halts-so w w c.hear.new.lines channel links streams files ts ends c.in-Ok.heard has.mid (handed has.mid) hands.stands has.lines
          (same-beside w)) Done w.turn hands.stands.turn (checked-so w w channel files ts ends c.in-Ok.heard has.mid (handed has.mid)
          hands.stands (same-beside w)) (c.in-Ok-finish.ensures.adds channel files ts ends has.mid hands.stands closed hands.orig_given
          hands.answ_given);
      kept = λ e. done-no-step e;
      number = c.hand_over.ensures.beside.turn ∙ c.hear.ensures.turn;
      channel = c.hand_over.ensures.beside.dlci ∙ c.hear.ensures.dlci;
      spoke = c.hand_over.ensures.beside.spoke ∙ c.hear.ensures.spoke;
      only = only;
      came = g.met.F.Folder.came_on _ _ _ c.hand_over.ensures.came c.finish.ensures.came;
      counts = CountsStand-trans c.in-Ok-hand_over.ensures.counts c.in-Ok-finish.ensures.counts;
    }

pub returns-in-Err-finish : goal.returns-in-Err-finish
returns-in-Err-finish g c =
    let a = g.F.Folder.state c.args.folder.now in
    let b = g.F.Folder.state c.hand_over.new.folder in
    let d = g.F.Folder.state c.finish.new.folder in
    let n = written c.args.names.now in
    let only = OnlyPuts-trans a b d (outputs_of n) c.hand_over.ensures.only (lines-only b d n c.finish.ensures.only) in
    record {
      turn = λ beside links streams files ts ends h within waits due.
          let channel = wire_at c.args.script.now c.args.self.now.dlci beside in
          let w = c.hand_over.new.self in
          let has = c.in-Ok.ensures.hears channel links streams files ts ends refl refl h waits due in
          let hands = c.in-Ok-hand_over.ensures.hands channel files ts ends c.in-Ok.heard has.mid has.stands in
          let closed = sym (ap is_closed (phase-delivered has.mid.orig)) ∙ sym
          (c.is_closed.ensures files (handed has.mid) hands.stands.link) ∙ c.if-is_closed.true in
          writing-ends w c.hear.new.lines channel links streams a d n files ts ends c.in-Err-finish.fault c.in-Err-finish.ensures.write
          (stops-writing w c.hear.new.lines channel links streams a b d n files files ts ends c.in-Ok.heard has.mid c.requires.apart
          (stay-known a d n files c.requires.apart only within) c.hand_over.ensures.only hands.delivered c.finish.ensures.only
          (halts-so w w c.hear.new.lines channel links streams files ts ends c.in-Ok.heard has.mid (handed has.mid) hands.stands has.lines
          (same-beside w))
          (c.in-Err-finish.ensures.part channel files ts ends has.mid hands.stands closed hands.orig_given hands.answ_given));
      kept = λ e. no-step e;
      number = c.hand_over.ensures.beside.turn ∙ c.hear.ensures.turn;
      channel = c.hand_over.ensures.beside.dlci ∙ c.hear.ensures.dlci;
      spoke = c.hand_over.ensures.beside.spoke ∙ c.hear.ensures.spoke;
      only = only;
      came = g.met.F.Folder.came_on _ _ _ c.hand_over.ensures.came c.finish.ensures.came;
      counts =
          counts-later a b d n c.in-Err-finish.fault c.in-Ok-hand_over.ensures.counts c.in-Err-finish.ensures.counts;
    }

pub returns-in-Err-serve : goal.returns-in-Err-serve
returns-in-Err-serve g c =
    let a = g.F.Folder.state c.args.folder.now in
    let b = g.F.Folder.state c.hand_over.new.folder in
    let d = g.F.Folder.state c.serve.new.folder in
    let n = written c.args.names.now in
    let only = OnlyPuts-trans a b d (outputs_of n) c.hand_over.ensures.only (OnlyPuts-reads b d (outputs_of n) c.serve.ensures.only) in
    record {
      turn = λ beside links streams files ts ends h within waits due.
          let channel = wire_at c.args.script.now c.args.self.now.dlci beside in
          let w = c.serve.new.self in
          let has = c.in-Ok.ensures.hears channel links streams files ts ends refl refl h waits due in
          let hands = c.in-Ok-hand_over.ensures.hands channel files ts ends c.in-Ok.heard has.mid has.stands in
          reading-ends w c.hear.new.lines channel links streams a d n files ts ends c.in-Err-serve.fault c.in-Err-serve.ensures.read
          (stops-reading (making-laws g (goal.at.returns-in-Err-serve g c).After-line_runs_end_soon) w c.hear.new.lines channel links
          streams a d n files ts ends c.in-Ok.heard has.mid c.requires.ready.limits c.requires.apart within only hands.stands.overhears
          (halts-so c.hand_over.new.self w c.hear.new.lines channel links streams files ts ends c.in-Ok.heard has.mid (handed has.mid)
          hands.stands has.lines c.serve.ensures.beside)
          (AddEach-kept a b d (outputs_of n) (octets_of has.mid) c.hand_over.ensures.only.goes_on hands.delivered
          (KeepsEach-reads b d (outputs_of n) c.serve.ensures.only)));
      kept = λ e. no-step e;
      number = c.serve.ensures.beside.turn ∙ c.hand_over.ensures.beside.turn ∙ c.hear.ensures.turn;
      channel = c.serve.ensures.beside.dlci ∙ c.hand_over.ensures.beside.dlci ∙ c.hear.ensures.dlci;
      spoke = c.serve.ensures.beside.spoke ∙ c.hand_over.ensures.beside.spoke ∙ c.hear.ensures.spoke;
      only = only;
      came = g.met.F.Folder.came_on _ _ _ c.hand_over.ensures.came c.serve.ensures.came;
      counts =
          counts-later a b d n c.in-Err-serve.fault c.in-Ok-hand_over.ensures.counts c.in-Err-serve.ensures.counts;
    }

pub speak-requires : goal.speak-requires
speak-requires g c = record {
  early =
      rw (c.serve.ensures.beside.turn, c.hand_over.ensures.beside.turn, c.hear.ensures.turn)
      (early-turns c.line_runs_end_soon.ensures.within_limits c.args.self.now c.args.script.now c.args.lines.now c.requires.ready);
  channel =
      subst (λ n. n < 64) (sym (c.serve.ensures.beside.dlci ∙ c.hand_over.ensures.beside.dlci ∙ c.hear.ensures.dlci))
      c.requires.ready.kept.channel;
  limits = c.requires.ready.limits;
  few =
      rw (
        c.serve.ensures.beside.turn,
        c.hand_over.ensures.beside.turn,
        c.serve.ensures.beside.tally,
        c.hand_over.ensures.beside.tally,
        c.hear.ensures.turn,
      ) c.in-Ok.ensures.few;
  stands =
      let r = c.requires.ready in
      let channel = wire_at c.args.script.now c.args.self.now.dlci r.beside in
      let has = c.in-Ok.ensures.hears channel r.links r.streams r.files r.turns r.ends refl refl r.after r.waits r.due in
      let hands = c.in-Ok-hand_over.ensures.hands channel r.files r.turns r.ends c.in-Ok.heard has.mid has.stands in
      let still = sym (ap is_closed (phase-delivered has.mid.orig)) ∙ sym (c.is_closed.ensures r.files (handed has.mid) hands.stands.link)
      ∙ c.if-is_closed.false in
      let s = c.in-Ok-serve.ensures.serves channel r.files r.turns r.ends c.in-Ok.heard has.mid refl hands.stands r.within in (
        channel,
        r.links,
        r.streams,
        s.others,
        r.turns,
        r.ends,
        has.mid,
        assumption (sym (c.serve.ensures.beside.dlci ∙ c.hand_over.ensures.beside.dlci ∙ c.hear.ensures.dlci)),
        record { stands = s.stands; going = still },
        has.lines,
      );
}

pub returns-in-Ok-speak : goal.returns-in-Ok-speak
returns-in-Ok-speak g c =
    let n = written c.args.names.now in
    let a = g.F.Folder.state c.args.folder.now in
    let b = g.F.Folder.state c.hand_over.new.folder in
    let d = g.F.Folder.state c.serve.new.folder in
    let z = g.F.Folder.state c.speak.new.folder in
    let only-d = OnlyPuts-trans a b d (outputs_of n) c.hand_over.ensures.only (OnlyPuts-reads b d (outputs_of n) c.serve.ensures.only) in
    let only-z = OnlyPuts-trans a d z (outputs_of n) only-d (lines-only d z n c.speak.ensures.only) in
    let dlci = c.serve.ensures.beside.dlci ∙ c.hand_over.ensures.beside.dlci ∙ c.hear.ensures.dlci in
    record {
      turn = λ beside links streams files ts ends h within waits due.
          let channel = wire_at c.args.script.now c.args.self.now.dlci beside in
          let has = c.in-Ok.ensures.hears channel links streams files ts ends refl refl h waits due in
          let hands = c.in-Ok-hand_over.ensures.hands channel files ts ends c.in-Ok.heard has.mid has.stands in
          let still = sym (ap is_closed (phase-delivered has.mid.orig)) ∙ sym (c.is_closed.ensures files (handed has.mid) hands.stands.link)
          ∙ c.if-is_closed.false in
          let s = c.in-Ok-serve.ensures.serves channel files ts ends c.in-Ok.heard has.mid refl hands.stands within in
          let gone = c.in-Ok-speak.ensures.speaks channel links streams s.others ts ends has.mid
          (record { script_is = refl; dlci_is = sym dlci; symbols_are = refl })
          (record { stands = s.stands; going = still }) has.lines hands.orig_given hands.answ_given in
          goes-on-by c.speak.new.self c.speak.new.lines channel links streams a d z n files s.others ts ends has.mid c.requires.apart
          (others-known a b z n files s.others has.mid c.requires.apart c.hand_over.ensures.only only-z s.reads) only-d
          (AddEach-kept a b d (outputs_of n) (octets_of has.mid) c.hand_over.ensures.only.goes_on hands.delivered
          (KeepsEach-reads b d (outputs_of n) c.serve.ensures.only)) c.speak.ensures.only gone;
      kept = λ going.
          let t = c.hand_over.new.self.turn + 1 in
          let same : c.serve.new.self.turn + 1 ≡ t = ap (λ x. x + 1) c.serve.ensures.beside.turn in
          kept-on c.speak.new.self t (subst (λ n. n < 64) (sym (c.speak.ensures.dlci ∙ dlci)) c.requires.ready.kept.channel)
          (c.in-Ok-speak.ensures.idle (c.in-Ok-serve.ensures.idle c.in-Ok-hand_over.ensures.idle))
          (c.in-Ok-speak.ensures.counted t t c.in-Ok-serve.ensures.counted) (rw (sym same) c.in-Ok-speak.ensures.few)
          (c.in-Ok-speak.ensures.turn ∙ same);
      number =
          c.in-Ok-speak.ensures.turn ∙ ap (λ x. x + 1) (c.serve.ensures.beside.turn ∙ c.hand_over.ensures.beside.turn ∙
          c.hear.ensures.turn);
      channel = c.speak.ensures.dlci ∙ dlci;
      spoke = c.in-Ok-speak.ensures.spoke;
      only = only-z;
      came = g.met.F.Folder.came_on _ _ _ (g.met.F.Folder.came_on _ _ _ c.hand_over.ensures.came c.serve.ensures.came) c.speak.ensures.came;
      counts =
          CountsStand-trans (CountsStand-trans c.in-Ok-hand_over.ensures.counts c.in-Ok-serve.ensures.counts) c.in-Ok-speak.ensures.counts;
    }

pub returns-in-Err-speak : goal.returns-in-Err-speak
returns-in-Err-speak g c =
    let n = written c.args.names.now in
    let a = g.F.Folder.state c.args.folder.now in
    let b = g.F.Folder.state c.hand_over.new.folder in
    let d = g.F.Folder.state c.serve.new.folder in
    let z = g.F.Folder.state c.speak.new.folder in
    let only-d = OnlyPuts-trans a b d (outputs_of n) c.hand_over.ensures.only (OnlyPuts-reads b d (outputs_of n) c.serve.ensures.only) in
    let only-z = OnlyPuts-trans a d z (outputs_of n) only-d (lines-only d z n c.speak.ensures.only) in
    let dlci = c.serve.ensures.beside.dlci ∙ c.hand_over.ensures.beside.dlci ∙ c.hear.ensures.dlci in
    record {
      turn = λ beside links streams files ts ends h within waits due.
          let channel = wire_at c.args.script.now c.args.self.now.dlci beside in
          let has = c.in-Ok.ensures.hears channel links streams files ts ends refl refl h waits due in
          let hands = c.in-Ok-hand_over.ensures.hands channel files ts ends c.in-Ok.heard has.mid has.stands in
          let still = sym (ap is_closed (phase-delivered has.mid.orig)) ∙ sym (c.is_closed.ensures files (handed has.mid) hands.stands.link)
          ∙ c.if-is_closed.false in
          let s = c.in-Ok-serve.ensures.serves channel files ts ends c.in-Ok.heard has.mid refl hands.stands within in
          let last = c.in-Err-speak.ensures.speaks channel links streams s.others ts ends has.mid
          (record { script_is = refl; dlci_is = sym dlci; symbols_are = refl })
          (record { stands = s.stands; going = still }) has.lines hands.orig_given hands.answ_given in
          speaks-last c.speak.new.self c.speak.new.lines channel links streams a d z n files s.others ts ends c.in-Ok.heard has.mid
          c.requires.apart (others-known a b z n files s.others has.mid c.requires.apart c.hand_over.ensures.only only-z s.reads) only-d
          (AddEach-kept a b d (outputs_of n) (octets_of has.mid) c.hand_over.ensures.only.goes_on hands.delivered
          (KeepsEach-reads b d (outputs_of n) c.serve.ensures.only)) c.speak.ensures.only
          (halts-so c.serve.new.self c.speak.new.self c.speak.new.lines channel links streams s.others ts ends c.in-Ok.heard has.mid
          (served channel.script s.others (length ts) has.mid) s.stands
          (subst (λ l. HaveArrived l channel links streams) (sym c.in-Err-speak.ensures.line) has.lines) c.in-Err-speak.ensures.beside)
          c.in-Err-speak.fault (checked-so c.serve.new.self c.speak.new.self channel s.others ts ends c.in-Ok.heard has.mid
          (served channel.script s.others (length ts) has.mid) s.stands c.in-Err-speak.ensures.beside) last;
      kept = λ e. no-step e;
      number = c.in-Err-speak.ensures.beside.turn ∙ c.serve.ensures.beside.turn ∙ c.hand_over.ensures.beside.turn ∙ c.hear.ensures.turn;
      channel = c.speak.ensures.dlci ∙ dlci;
      spoke = c.in-Err-speak.ensures.beside.spoke ∙ c.serve.ensures.beside.spoke ∙ c.hand_over.ensures.beside.spoke ∙ c.hear.ensures.spoke;
      only = only-z;
      came = g.met.F.Folder.came_on _ _ _ (g.met.F.Folder.came_on _ _ _ c.hand_over.ensures.came c.serve.ensures.came) c.speak.ensures.came;
      counts =
          counts-later a d z n c.in-Err-speak.fault
          (CountsStand-trans c.in-Ok-hand_over.ensures.counts c.in-Ok-serve.ensures.counts) c.in-Err-speak.ensures.counts;
    }
