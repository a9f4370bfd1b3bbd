use Rattle.stations.proofs.Names.{◌≡◌, ◌+◌, ◌∙◌, [], ◌∷◌, sym, ap, subst, ◌<◌, ◌^◌, concat, deliveries, OnlyPuts-trans, OnlyPuts-reads}
use Rattle.stations.proofs.Names.{KeepsEach-reads, AddEach-kept, CountsStand-trans, Role, handed, Closed, over, inputs_of, outputs_of}
use Rattle.stations.proofs.Names.{EndsBy, IsCounted}
use Rattle.stations.specs.OneEnd.Peer.{after}
use Rattle.stations.specs.OneEnd.Single.{named}
use Rattle.stations.proofs.OneEnd.Folders.{got-only, trace-only, trace-counts, read-counts, counts-later, stays-known, others-known}
use Rattle.stations.proofs.OneEnd.Turning.{broke-off, hands-over, not-handed, not-read, writing-ends, reading-ends, made, stopped-so}
use Rattle.stations.proofs.OneEnd.Turning.{ended, gone-on, no-step, closed-no-step}
use Rattle.stations.proofs.OneEnd.Folders.{got-counts}
use Rattle.stations.proofs.one_end.single.Single.turn.Goals as goal
use Rattle.stations.proofs.Standing.{counted-later}

pub serve-requires : goal.serve-requires
serve-requires g c =
    let r = c.requires.ready in
    let slot = c.args.bits.now in
    let has = c.in-Ok.ensures.hears r.past r.after in
    record {
      stands = (
        r.past,
        slot,
        c.in-Ok.arrived,
        has.0,
        c.in-Ok-hand_over.ensures.stands r.past slot c.in-Ok.arrived has.0 has.1,
        r.within,
      );
    }

pub hear-requires : goal.hear-requires
hear-requires g c = assumption c.requires.few

pub returns-in-Err : goal.returns-in-Err
returns-in-Err g c =
    let n = named c.args.file.now c.args.got.now c.args.trace.now in
    record {
      turn = λ p h within. broke-off c.hear.new.self (g.F.Folder.state c.args.folder.now) (g.F.Folder.state c.break_off.new.folder)
          (named c.args.file.now c.args.got.now c.args.trace.now) p c.args.bits.now c.break_off.result
          c.requires.apart within c.break_off.ensures.only (c.break_off.ensures.ends p c.args.bits.now (c.in-Err.ensures.hears p h));
      role = c.hear.ensures.role;
      ready = λ e. no-step e;
      number = c.hear.ensures.turn;
      only = trace-only _ _ n c.break_off.ensures.only;
      counts =
          trace-counts (g.F.Folder.state c.args.folder.now)
          (g.F.Folder.state c.break_off.new.folder) n c.break_off.result c.break_off.ensures.counts;
      came = c.break_off.ensures.came;
    }

pub returns-in-Ok-finish : goal.returns-in-Ok-finish
returns-in-Ok-finish g c =
    let n = named c.args.file.now c.args.got.now c.args.trace.now in
    let only = OnlyPuts-trans _ _ _ (outputs_of n) (got-only _ _ n c.hand_over.ensures.only) (trace-only _ _ n c.finish.ensures.only) in
    record {
      turn = λ p h within.
          let slot = c.args.bits.now in
          let arrived = c.in-Ok.arrived in
          let has = c.in-Ok.ensures.hears p h in
          let mid = has.0 in
          let now = c.in-Ok-hand_over.ensures.stands p slot arrived mid has.1 in
          let closed = sym (c.hangs_up.ensures p slot arrived mid now) ∙ c.if-hangs_up.true in
          made c.hand_over.new.self _ _ _ n p slot (concat (deliveries mid)) p.file c.requires.apart c.hand_over.ensures.only.goes_on
          (hands-over _ _ n (concat (deliveries mid)) c.requires.apart c.hand_over.ensures.only
          (c.in-Ok-hand_over.ensures.adds p slot arrived mid has.1)) c.finish.ensures.only
          (stays-known _ _ n p.file c.requires.apart only within) Closed
          (c.in-Ok-finish.ensures.adds p slot mid now closed (c.in-Ok-hand_over.ensures.given p slot arrived mid has.1));
      role = c.hand_over.ensures.role ∙ c.hear.ensures.role;
      ready = λ e. closed-no-step e;
      number = c.hand_over.ensures.turn ∙ c.hear.ensures.turn;
      only = only;
      counts = CountsStand-trans c.in-Ok-hand_over.ensures.counts c.in-Ok-finish.ensures.counts;
      came = g.met.F.Folder.came_on _ _ _ c.hand_over.ensures.came c.finish.ensures.came;
    }

pub returns-in-Err-finish : goal.returns-in-Err-finish
returns-in-Err-finish g c =
    let n = named c.args.file.now c.args.got.now c.args.trace.now in
    let a = g.F.Folder.state c.args.folder.now in
    let b = g.F.Folder.state c.hand_over.new.folder in
    let z = g.F.Folder.state c.finish.new.folder in
    let only = OnlyPuts-trans a b z (outputs_of n) (got-only a b n c.hand_over.ensures.only) (trace-only b z n c.finish.ensures.only) in
    record {
      turn = λ p h within.
          let slot = c.args.bits.now in
          let arrived = c.in-Ok.arrived in
          let has = c.in-Ok.ensures.hears p h in
          let mid = has.0 in
          let now = c.in-Ok-hand_over.ensures.stands p slot arrived mid has.1 in
          let closed = sym (c.hangs_up.ensures p slot arrived mid now) ∙ c.if-hangs_up.true in
          stopped-so c.hand_over.new.self a b z n p slot (concat (deliveries mid)) p.file c.requires.apart
          c.hand_over.ensures.only.goes_on (hands-over a b n (concat (deliveries mid)) c.requires.apart c.hand_over.ensures.only
          (c.in-Ok-hand_over.ensures.adds p slot arrived mid has.1)) c.finish.ensures.only
          (stays-known a z n p.file c.requires.apart only within) c.in-Err-finish.fault c.in-Err-finish.ensures.write
          (c.in-Err-finish.ensures.part p slot mid now closed (c.in-Ok-hand_over.ensures.given p slot arrived mid has.1));
      role = c.hand_over.ensures.role ∙ c.hear.ensures.role;
      ready = λ e. no-step e;
      number = c.hand_over.ensures.turn ∙ c.hear.ensures.turn;
      only = only;
      counts =
          counts-later a b z (inputs_of n) (outputs_of n) c.in-Err-finish.fault c.in-Ok-hand_over.ensures.counts
          (trace-counts b z n c.in-Err-finish.fault c.in-Err-finish.ensures.counts);
      came = g.met.F.Folder.came_on _ _ _ c.hand_over.ensures.came c.finish.ensures.came;
    }

pub returns-in-Err-serve : goal.returns-in-Err-serve
returns-in-Err-serve g c =
    let n = named c.args.file.now c.args.got.now c.args.trace.now in
    let a = g.F.Folder.state c.args.folder.now in
    let b = g.F.Folder.state c.hand_over.new.folder in
    let d = g.F.Folder.state c.serve.new.folder in
    let only = OnlyPuts-trans a b d (outputs_of n) (got-only a b n c.hand_over.ensures.only)
    (OnlyPuts-reads b d (outputs_of n) c.serve.ensures.only) in
    record {
      turn = λ p h within.
          let slot = c.args.bits.now in
          let arrived = c.in-Ok.arrived in
          let has = c.in-Ok.ensures.hears p h in
          let now = c.in-Ok-hand_over.ensures.stands p slot arrived has.0 has.1 in
          subst (λ (r : Role). EndsBy r a d n p slot c.in-Err-serve.fault) (sym c.serve.ensures.role)
          (reading-ends c.hand_over.new.self.role a d n p slot c.in-Err-serve.fault c.in-Err-serve.ensures.read
          (not-read c.one_lone_run.ensures.made c.hand_over.new.self a d n p slot arrived has.0 (handed has.0) c.requires.apart within now
          only (AddEach-kept a b d (outputs_of n) (concat (deliveries has.0) ∷ []) c.hand_over.ensures.only.goes_on
          (hands-over a b n (concat (deliveries has.0)) c.requires.apart c.hand_over.ensures.only
          (c.in-Ok-hand_over.ensures.adds p slot arrived has.0 has.1)) (KeepsEach-reads b d (outputs_of n) c.serve.ensures.only))));
      role = c.serve.ensures.role ∙ c.hand_over.ensures.role ∙ c.hear.ensures.role;
      ready = λ e. no-step e;
      number = c.serve.ensures.turn ∙ c.hand_over.ensures.turn ∙ c.hear.ensures.turn;
      only = only;
      counts =
          counts-later a b d (inputs_of n) (outputs_of n) c.in-Err-serve.fault c.in-Ok-hand_over.ensures.counts
          (read-counts b d n c.in-Err-serve.fault c.in-Err-serve.ensures.counts);
      came = g.met.F.Folder.came_on _ _ _ c.hand_over.ensures.came c.serve.ensures.came;
    }

pub speak-requires : goal.speak-requires
speak-requires g c = record {
  early = subst (λ n. n < 2 ^ 40) (sym (c.serve.ensures.turn ∙ c.hand_over.ensures.turn ∙ c.hear.ensures.turn)) c.requires.few;
}

pub returns-in-Ok-speak : goal.returns-in-Ok-speak
returns-in-Ok-speak g c =
    let arrived = c.in-Ok.arrived in
    let n = named c.args.file.now c.args.got.now c.args.trace.now in
    let a = g.F.Folder.state c.args.folder.now in
    let b = g.F.Folder.state c.hand_over.new.folder in
    let d = g.F.Folder.state c.serve.new.folder in
    let z = g.F.Folder.state c.speak.new.folder in
    let first = got-only a b n c.hand_over.ensures.only in
    let only-d = OnlyPuts-trans a b d (outputs_of n) first (OnlyPuts-reads b d (outputs_of n) c.serve.ensures.only) in
    let only-z = OnlyPuts-trans a d z (outputs_of n) only-d (trace-only d z n c.speak.ensures.only) in
    record {
      turn = λ p h within.
          let slot = c.args.bits.now in
          let has = c.in-Ok.ensures.hears p h in
          let mid = has.0 in
          let now = c.in-Ok-hand_over.ensures.stands p slot arrived mid has.1 in
          let still = sym (c.hangs_up.ensures p slot arrived mid now) ∙ c.if-hangs_up.false in
          let s = c.in-Ok-serve.ensures.serves p slot arrived mid now within in
          gone-on c.speak.new.self a d z n p slot (concat (deliveries mid)) s.others c.requires.apart only-d.goes_on
          (AddEach-kept a b d (outputs_of n) (concat (deliveries mid) ∷ []) c.hand_over.ensures.only.goes_on
          (hands-over a b n (concat (deliveries mid)) c.requires.apart c.hand_over.ensures.only
          (c.in-Ok-hand_over.ensures.adds p slot arrived mid has.1)) (KeepsEach-reads b d (outputs_of n) c.serve.ensures.only))
          c.speak.ensures.only (others-known a b z n p.file s.others (handed mid) c.requires.apart first only-z s.reads)
          (c.in-Ok-speak.ensures.speaks (over s.others p) slot mid s.stands still
          (c.in-Ok-hand_over.ensures.given p slot arrived mid has.1));
      role = c.speak.ensures.role ∙ c.serve.ensures.role ∙ c.hand_over.ensures.role ∙ c.hear.ensures.role;
      ready = λ going.
          let r = c.requires.ready in
          let p = r.past in
          let slot = c.args.bits.now in
          let has = c.in-Ok.ensures.hears p r.after in
          let mid = has.0 in
          let now = c.in-Ok-hand_over.ensures.stands p slot arrived mid has.1 in
          let still = sym (c.hangs_up.ensures p slot arrived mid now) ∙ c.if-hangs_up.false in
          let s = c.in-Ok-serve.ensures.serves p slot arrived mid now r.within in
          let gone =
          c.in-Ok-speak.ensures.speaks (over s.others p) slot mid s.stands still
          (c.in-Ok-hand_over.ensures.given p slot arrived mid has.1) in
          let t = c.args.self.now.turn in
          let number : c.speak.new.self.turn ≡ t + 1 =
          c.in-Ok-speak.ensures.turn ∙ ap (λ x. x + 1) (c.serve.ensures.turn ∙ c.hand_over.ensures.turn ∙ c.hear.ensures.turn) in
          record {
            past = after slot gone.adds.turn gone.adds.is.is.0 (over s.others p);
            within = s.reads.within;
            after = gone.single;
            idle = c.in-Ok-speak.ensures.idle (c.in-Ok-serve.ensures.idle c.in-Ok-hand_over.ensures.idle);
            counted = subst (λ x. IsCounted c.speak.new.self.station x x) (sym number) (counted-later c.speak.new.self.station (t + 1) t
                (c.in-Ok-speak.ensures.counted (t + 1) t
                (c.in-Ok-serve.ensures.counted (t + 1) t (c.in-Ok-hand_over.ensures.counted (t + 1) t c.in-Ok.ensures.counted))));
          };
      number = c.in-Ok-speak.ensures.turn ∙ ap (λ x. x + 1) (c.serve.ensures.turn ∙ c.hand_over.ensures.turn ∙ c.hear.ensures.turn);
      only = only-z;
      counts =
          CountsStand-trans (CountsStand-trans c.in-Ok-hand_over.ensures.counts c.in-Ok-serve.ensures.counts) c.in-Ok-speak.ensures.counts;
      came = g.met.F.Folder.came_on _ _ _ (g.met.F.Folder.came_on _ _ _ c.hand_over.ensures.came c.serve.ensures.came) c.speak.ensures.came;
    }

pub returns-in-Err-speak : goal.returns-in-Err-speak
returns-in-Err-speak g c =
    let n = named c.args.file.now c.args.got.now c.args.trace.now in
    let a = g.F.Folder.state c.args.folder.now in
    let b = g.F.Folder.state c.hand_over.new.folder in
    let d = g.F.Folder.state c.serve.new.folder in
    let z = g.F.Folder.state c.speak.new.folder in
    let first = got-only a b n c.hand_over.ensures.only in
    let only-d = OnlyPuts-trans a b d (outputs_of n) first (OnlyPuts-reads b d (outputs_of n) c.serve.ensures.only) in
    let only-z = OnlyPuts-trans a d z (outputs_of n) only-d (trace-only d z n c.speak.ensures.only) in
    record {
      turn = λ p h within.
          let slot = c.args.bits.now in
          let arrived = c.in-Ok.arrived in
          let has = c.in-Ok.ensures.hears p h in
          let mid = has.0 in
          let now = c.in-Ok-hand_over.ensures.stands p slot arrived mid has.1 in
          let still = sym (c.hangs_up.ensures p slot arrived mid now) ∙ c.if-hangs_up.false in
          let s = c.in-Ok-serve.ensures.serves p slot arrived mid now within in
          ended c.speak.new.self a d z n p slot (concat (deliveries mid)) s.others c.requires.apart only-d.goes_on
          (AddEach-kept a b d (outputs_of n) (concat (deliveries mid) ∷ []) c.hand_over.ensures.only.goes_on
          (hands-over a b n (concat (deliveries mid)) c.requires.apart c.hand_over.ensures.only
          (c.in-Ok-hand_over.ensures.adds p slot arrived mid has.1)) (KeepsEach-reads b d (outputs_of n) c.serve.ensures.only))
          c.speak.ensures.only (others-known a b z n p.file s.others (handed mid) c.requires.apart first only-z s.reads)
          c.in-Err-speak.fault (c.in-Err-speak.ensures.speaks (over s.others p) slot mid s.stands still
          (c.in-Ok-hand_over.ensures.given p slot arrived mid has.1));
      role = c.speak.ensures.role ∙ c.serve.ensures.role ∙ c.hand_over.ensures.role ∙ c.hear.ensures.role;
      ready = λ e. no-step e;
      number = c.in-Err-speak.ensures.halts ∙ c.serve.ensures.turn ∙ c.hand_over.ensures.turn ∙ c.hear.ensures.turn;
      only = only-z;
      counts =
          counts-later a d z (inputs_of n) (outputs_of n) c.in-Err-speak.fault
          (CountsStand-trans c.in-Ok-hand_over.ensures.counts c.in-Ok-serve.ensures.counts)
          (trace-counts d z n c.in-Err-speak.fault c.in-Err-speak.ensures.counts);
      came = g.met.F.Folder.came_on _ _ _ (g.met.F.Folder.came_on _ _ _ c.hand_over.ensures.came c.serve.ensures.came) c.speak.ensures.came;
    }

pub returns-in-Err-hand_over : goal.returns-in-Err-hand_over
returns-in-Err-hand_over g c =
    let n = named c.args.file.now c.args.got.now c.args.trace.now in
    record {
      turn = λ p h within.
          let a = g.F.Folder.state c.args.folder.now in
          let b = g.F.Folder.state c.hand_over.new.folder in
          let has = c.in-Ok.ensures.hears p h in
          subst (λ (r : Role). EndsBy r a b n p c.args.bits.now c.in-Err-hand_over.fault) (sym c.hand_over.ensures.role)
          (writing-ends c.hear.new.self.role a b n p c.args.bits.now c.in-Err-hand_over.fault c.in-Err-hand_over.ensures.write
          (not-handed c.one_lone_run.ensures.made c.hear.new.self a b n p c.args.bits.now c.in-Ok.arrived has.0 c.requires.apart within
          has.1 c.hand_over.ensures.only (c.in-Err-hand_over.ensures.part p c.args.bits.now c.in-Ok.arrived has.0 has.1)));
      role = c.hand_over.ensures.role ∙ c.hear.ensures.role;
      ready = λ e. no-step e;
      number = c.hand_over.ensures.turn ∙ c.hear.ensures.turn;
      only = got-only _ _ n c.hand_over.ensures.only;
      counts =
          got-counts (g.F.Folder.state c.args.folder.now) (g.F.Folder.state c.hand_over.new.folder)
          (named c.args.file.now c.args.got.now c.args.trace.now) c.in-Err-hand_over.fault c.in-Err-hand_over.ensures.counts;
      came = c.hand_over.ensures.came;
    }
