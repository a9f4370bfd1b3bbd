use Rattle.stations.proofs.Names.{ℕ, List, arith, refl, sym, subst, CountsStand-refl, CountsStand-trans, FaultsStand-trans, FolderState}
use Rattle.stations.proofs.Names.{Appended, PartlyAppended, Rose, Station}
use Rattle.stations.proofs.Handing.{handing-starts, handing-next, handing-ends, handing-stops, handed-segment, writes-on, writes-none}
use Rattle.stations.proofs.Standing.{takes-on}
use Rattle.stations.proofs.Offering.{no-fault}
use Rattle.stations.proofs.station.Station.deliver.Goals as goal

pub loop-segment-init : goal.loop-segment-init
loop-segment-init g c = record {
  hands = λ file a h. handing-starts (g.F.Folder.state c.args.folder.now) c.args.name.now c.args.self.now file a h;
  takes = record { taken_of = omega arith; undelivered_of = omega arith; waiting_of = λ e. e };
  breaks = refl;
  only = writes-none (g.F.Folder.state c.args.folder.now) c.args.name.now;
  stand = CountsStand-refl (g.F.Folder.state c.args.folder.now);
  came = g.met.F.Folder.came_none _;
}

pub returns-then-not-deliver-clause-stands : goal.returns-then-not-deliver-clause-stands
returns-then-not-deliver-clause-stands g c = λ file a h.
    let i = c.loop-segment.invariant.hands file a h in
    let e = sym (c.if-not-deliver.ensures.answer i.after i.stands.end) in
    let k = handing-ends (g.F.Folder.state c.args.folder.now) (g.F.Folder.state c.loop-segment.folder) c.args.name.now
    c.loop-segment.self _ file a i e (c.if-not-deliver.ensures.account i.after i.stands.end) refl in
    k.0

pub returns-then-not-deliver-clause-ok : goal.returns-then-not-deliver-clause-ok
returns-then-not-deliver-clause-ok g c = λ file a h.
    let i = c.loop-segment.invariant.hands file a h in
    let e = sym (c.if-not-deliver.ensures.answer i.after i.stands.end) in
    let new : Station = record c.loop-segment.self { end = c.deliver.new.self } in
    let k = handing-ends (g.F.Folder.state c.args.folder.now) (g.F.Folder.state c.loop-segment.folder) c.args.name.now
    c.loop-segment.self new file a i e (c.if-not-deliver.ensures.account i.after i.stands.end) refl in
    k.1

pub loop-segment-preserved : goal.loop-segment-preserved
loop-segment-preserved g c =
    let now : FolderState = g.F.Folder.state c.loop-segment.folder in
    let next : FolderState = g.F.Folder.state c.append.new.self in
    let name : List ℕ = c.args.name.now in
    let put : Appended now next name c.deliver.new.out = subst (Appended now next name) c.as_slice.ensures.items c.in-Ok.ensures.ok in
    let old = c.loop-segment.invariant in
    record {
      hands = λ file a h.
          let i = old.hands file a h in
          let e = handed-segment c.loop-segment.self.end c.deliver.new.out i.after i.stands.end
          (c.if-not-deliver.ensures.answer i.after i.stands.end) c.if-not-deliver.ensures.segment in
          handing-next _ now next name c.deliver.new.out c.loop-segment.self _ file a old.only.goes_on i e
          (c.if-not-deliver.ensures.account i.after i.stands.end) refl put;
      takes = takes-on _ _ _ old.takes c.if-not-deliver.ensures.takes_nothing;
      breaks = old.breaks;
      only = writes-on _ now next name old.only c.in-Ok.ensures.only;
      stand = CountsStand-trans old.stand c.in-Ok.ensures.stand;
      came = g.met.F.Folder.came_on _ _ _ old.came c.append.ensures.came;
    }

pub returns-in-Err-clause-err : goal.returns-in-Err-clause-err
returns-in-Err-clause-err g c = λ file a h.
    let now : FolderState = g.F.Folder.state c.loop-segment.folder in
    let next : FolderState = g.F.Folder.state c.append.new.self in
    let name : List ℕ = c.args.name.now in
    let part : PartlyAppended now next name c.deliver.new.out =
    subst (PartlyAppended now next name) c.as_slice.ensures.items c.in-Err.ensures.err in
    let i = c.loop-segment.invariant.hands file a h in
    let e = handed-segment c.loop-segment.self.end c.deliver.new.out i.after i.stands.end
    (c.if-not-deliver.ensures.answer i.after i.stands.end) c.if-not-deliver.ensures.segment in
    handing-stops _ now next name c.deliver.new.out c.loop-segment.self file a c.loop-segment.invariant.only.goes_on i e part

pub returns-in-Err-clause-only : goal.returns-in-Err-clause-only
returns-in-Err-clause-only g c =
    writes-on _ _ _ c.args.name.now c.loop-segment.invariant.only c.in-Err.ensures.only

pub returns-in-Err-clause-cause : goal.returns-in-Err-clause-cause
returns-in-Err-clause-cause g c =
    let next : FolderState = g.F.Folder.state c.append.new.self in
    let stand = c.loop-segment.invariant.stand in
    record {
      failed = λ e. subst (λ before. Rose before (next.write_faults c.args.name.now)) (stand.faults.writes c.args.name.now)
          (c.in-Err.ensures.cause.failed e);
      memory = λ e. subst (λ before. Rose before next.refusals) stand.refusals (c.in-Err.ensures.cause.memory e);
    }

pub returns-in-Err-clause-spared : goal.returns-in-Err-clause-spared
returns-in-Err-clause-spared g c = λ e. FaultsStand-trans c.loop-segment.invariant.stand.faults (c.in-Err.ensures.spared e)

pub returns-in-Err-clause-takes_nothing : goal.returns-in-Err-clause-takes_nothing
returns-in-Err-clause-takes_nothing g c =
    takes-on _ _ _ c.loop-segment.invariant.takes c.if-not-deliver.ensures.takes_nothing

pub returns-then-not-deliver-clause-takes_nothing : goal.returns-then-not-deliver-clause-takes_nothing
returns-then-not-deliver-clause-takes_nothing g c =
    takes-on _ _ _ c.loop-segment.invariant.takes c.if-not-deliver.ensures.takes_nothing

pub returns-then-not-deliver-clause-cause : goal.returns-then-not-deliver-clause-cause
returns-then-not-deliver-clause-cause g c = record { failed = λ e. no-fault e; memory = λ e. no-fault e }

pub returns-then-not-deliver-clause-spared : goal.returns-then-not-deliver-clause-spared
returns-then-not-deliver-clause-spared g c = λ e. no-fault e

pub returns-in-Err-clause-came : goal.returns-in-Err-clause-came
returns-in-Err-clause-came g c = g.met.F.Folder.came_on _ _ _ c.loop-segment.invariant.came c.append.ensures.came

pub returns-then-not-deliver-clause-delivered : goal.returns-then-not-deliver-clause-delivered
returns-then-not-deliver-clause-delivered g c = c.if-not-deliver.ensures.delivered

pub loop-segment-smaller : goal.loop-segment-smaller
loop-segment-smaller g c = c.if-not-deliver.ensures.fewer
