use Rattle.line_tap.proofs.Cited.{refl, sym, ◌∙◌, ap, subst, Taking, StandsIn, delivered, EndListener, CountsStand-refl, CountsStand-trans}
use Rattle.line_tap.proofs.Cited.{FolderState, Appended, PartlyAppended}
use Rattle.outside_calls.proofs.Steps.{FaultsStand-trans}
use Rattle.stations.proofs.Handing.{writes-on, writes-none}
use Rattle.line_tap.proofs.Causes.{cause-earlier}
use Rattle.line_tap.proofs.Listening.{listens-on, idle-again}
use Rattle.line_tap.proofs.Handing.{fewer-ready, handing-starts, next-is, handing-next, handing-ends, handing-stops}
use Rattle.line_tap.proofs.listener.EndListener.deliver.Goals as goal
use Rattle.stations.proofs.Offering.{no-fault}

pub loop-segment-init : goal.loop-segment-init
loop-segment-init g c = record {
  hands = λ i h. handing-starts (g.F.Folder.state c.args.folder.now) c.args.name.now c.args.self.now.receiver i h;
  beside = refl;
  window = refl;
  taken = refl;
  only = writes-none (g.F.Folder.state c.args.folder.now) c.args.name.now;
  stand = CountsStand-refl (g.F.Folder.state c.args.folder.now);
  came = g.met.F.Folder.came_none _;
}

pub loop-segment-preserved : goal.loop-segment-preserved
loop-segment-preserved g c =
    let start : FolderState = g.F.Folder.state c.args.folder.now in
    let now : FolderState = g.F.Folder.state c.loop-segment.folder in
    let next : FolderState = g.F.Folder.state c.append.new.self in
    let name = c.args.name.now in
    let put : Appended now next name c.deliver.new.out = subst (Appended now next name) c.as_slice.ensures.items c.in-Ok.ensures.ok in
    let old = c.loop-segment.invariant in
    record {
      hands = λ i h.
          let k = old.hands i h in
          handing-next start now next name c.deliver.new.out c.loop-segment.self.receiver c.deliver.new.self i old.only.goes_on k
          (next-is c.loop-segment.self.receiver i k.given c.deliver.new.out (c.if-not-deliver.ensures.answer _ k.stands)
          (λ s. c.if-not-deliver.ensures.segment _ s k.stands)) (c.if-not-deliver.ensures.stands _ k.stands) put;
      beside = ap (λ (l : EndListener). record l { receiver = c.deliver.new.self }) old.beside;
      window = ap (λ (r : Taking). r.window) c.if-not-deliver.ensures.value ∙ old.window;
      taken = ap (λ (r : Taking). r.taken) c.if-not-deliver.ensures.value ∙ old.taken;
      only = writes-on start now next name old.only c.in-Ok.ensures.only;
      stand = CountsStand-trans old.stand c.in-Ok.ensures.stand;
      came = g.met.F.Folder.came_on _ _ _ old.came c.append.ensures.came;
    }

pub loop-segment-smaller : goal.loop-segment-smaller
loop-segment-smaller g c = fewer-ready c.loop-segment.self.receiver c.deliver.new.self c.if-not-deliver.ensures.value
    c.if-not-deliver.ensures.left

pub returns-then-not-deliver : goal.returns-then-not-deliver
returns-then-not-deliver g c = record {
  stands = λ terms role agreed connected i lengths h.
      let k = c.loop-segment.invariant.hands i h.takes in
      let all = handing-ends (g.F.Folder.state c.args.folder.now) (g.F.Folder.state c.loop-segment.folder) c.args.name.now
      c.loop-segment.self.receiver i k (c.if-not-deliver.ensures.answer _ k.stands) in
      listens-on c.args.self.now c.loop-segment.self c.deliver.new.self terms role agreed connected i lengths
      c.loop-segment.invariant.beside (subst (λ (r : Taking). StandsIn r (delivered i)) (sym c.if-not-deliver.ensures.unchanged) all.0) h;
  ok = λ i h.
      let k = c.loop-segment.invariant.hands i h in
      (handing-ends (g.F.Folder.state c.args.folder.now) (g.F.Folder.state c.loop-segment.folder) c.args.name.now
      c.loop-segment.self.receiver i k (c.if-not-deliver.ensures.answer _ k.stands)).1;
  err = tt;
  idle = λ turns h.
      let old = c.loop-segment.invariant in
      idle-again c.args.self.now (record c.loop-segment.self { receiver = c.deliver.new.self }) turns
      (ap (λ (r : Taking). r.window) c.if-not-deliver.ensures.value ∙ old.window)
      (ap (λ (r : Taking). r.taken) c.if-not-deliver.ensures.value ∙ old.taken) c.if-not-deliver.ensures.empty h;
  only = c.loop-segment.invariant.only;
  cause = record { failed = λ e. no-fault e; memory = λ e. no-fault e };
  stand = c.loop-segment.invariant.stand;
  spared = λ e. no-fault e;
  came = c.loop-segment.invariant.came;
}

pub returns-in-Err : goal.returns-in-Err
returns-in-Err g c = record {
  stands = tt;
  ok = tt;
  err = λ i h.
      let now : FolderState = g.F.Folder.state c.loop-segment.folder in
      let next : FolderState = g.F.Folder.state c.append.new.self in
      let part : PartlyAppended now next c.args.name.now c.deliver.new.out =
      subst (PartlyAppended now next c.args.name.now) c.as_slice.ensures.items c.in-Err.ensures.err in
      let k = c.loop-segment.invariant.hands i h in
      handing-stops _ now next c.args.name.now c.deliver.new.out c.loop-segment.self.receiver i c.loop-segment.invariant.only.goes_on k
      (next-is c.loop-segment.self.receiver i k.given c.deliver.new.out (c.if-not-deliver.ensures.answer _ k.stands)
      (λ s. c.if-not-deliver.ensures.segment _ s k.stands)) part;
  idle = tt;
  only =
      writes-on (g.F.Folder.state c.args.folder.now) (g.F.Folder.state c.loop-segment.folder) (g.F.Folder.state c.append.new.self)
      c.args.name.now c.loop-segment.invariant.only c.in-Err.ensures.only;
  cause =
      cause-earlier (g.F.Folder.state c.args.folder.now) (g.F.Folder.state c.loop-segment.folder) (g.F.Folder.state c.append.new.self)
      c.args.name.now _ c.loop-segment.invariant.stand c.in-Err.ensures.cause;
  stand = tt;
  spared = λ e. FaultsStand-trans c.loop-segment.invariant.stand.faults (c.in-Err.ensures.spared e);
  came = g.met.F.Folder.came_on _ _ _ c.loop-segment.invariant.came c.append.ensures.came;
}
