use Rattle.stations.proofs.Names.{◌≡◌, ◌<◌, ◌^◌, ℕ, List, length, take, arith, refl, sym, ap, subst, ◌∙◌, Option, rules, length-take-le}
use Rattle.stations.proofs.Names.{piece_at, OnlyReads-trans, CountsStand-refl, CountsStand-trans, FaultsStand-trans, told_later}
use Rattle.stations.proofs.Names.{octets-kept, FolderState, Rose}
use Rattle.std.specs.Option.{IsSomeAnd}
use Rattle.outside_calls.proofs.Steps.{OnlyReads-refl}
use Rattle.stations.proofs.Offering.{supplying-starts, supplying-next, supplying-ends, wants-within, as-err, no-fault}
use Rattle.stations.proofs.Standing.{idle-on, counted-on, takes-on}
use Rattle.stations.proofs.station.Station.supply.Goals as goal

pub loop-number-init : goal.loop-number-init
loop-number-init g c = record {
  supplies = λ file a h short.
      supplying-starts (g.F.Folder.state c.args.folder.now) c.args.name.now c.args.limit file a c.args.self.now h short;
  takes = record { taken_of = omega arith; undelivered_of = omega arith; waiting_of = λ e. e };
  breaks = refl;
  room = refl;
  only = OnlyReads-refl (g.F.Folder.state c.args.folder.now);
  stand = CountsStand-refl (g.F.Folder.state c.args.folder.now);
  came = g.met.F.Folder.came_none _;
}

pub returns-in-None-clause-stands : goal.returns-in-None-clause-stands
returns-in-None-clause-stands g c = λ file a h short.
    let i = c.loop-number.invariant.supplies file a h short in
    supplying-ends c.pieces_are_offered_until_none_is_wanted.ensures
    (g.F.Folder.state c.args.folder.now) c.args.name.now c.args.limit file a c.loop-number.self i
    (c.in-None.ensures.account i.now i.stands.end)

pub read_segment-requires-clause-within : goal.read_segment-requires-clause-within
read_segment-requires-clause-within g c =
    let w = c.requires.stands in
    let i = c.loop-number.invariant.supplies w.0 w.1 w.2 w.3 in
    let k = wants-within c.segments_are_offered_as_they_are_read.ensures.next
    (g.F.Folder.state c.args.folder.now) c.args.name.now c.args.limit w.0 w.1 c.loop-number.self c.in-Some.number c.piece-size.result i
    (c.in-Some.ensures.account i.now i.stands.end) (c.piece-size.ensures.account i.now i.stands.end) in
    k.within

pub slice_bounds-segment-end : goal.slice_bounds-segment-end
slice_bounds-segment-end g c =
    omega (arith, c.in-Ok.ensures.count, c.piece-size.ensures.few, c.read_segment.ensures.length, c.loop-number.invariant.room)

pub slice_bounds-offer-end : goal.slice_bounds-offer-end
slice_bounds-offer-end g c = sym (length-take-le c.in-Ok.count c.read_segment.new.segment
    (omega (arith, c.in-Ok.ensures.count, c.piece-size.ensures.few, c.read_segment.ensures.length, c.loop-number.invariant.room)))

pub offer-requires-clause-wanted : goal.offer-requires-clause-wanted
offer-requires-clause-wanted g c =
    let w = c.requires.stands in
    let i = c.loop-number.invariant.supplies w.0 w.1 w.2 w.3 in
    let k = wants-within c.segments_are_offered_as_they_are_read.ensures.next
    (g.F.Folder.state c.args.folder.now) c.args.name.now c.args.limit w.0 w.1 c.loop-number.self c.in-Some.number c.piece-size.result i
    (c.in-Some.ensures.account i.now i.stands.end) (c.piece-size.ensures.account i.now i.stands.end) in
    let few : c.in-Some.number < 2 ^ 56 = omega (arith, k.few, c.requires.limit) in
    subst (λ (o : Option ℕ). IsSomeAnd o (λ number. number < 2 ^ 56)) c.in-Some.ensures.value few

pub loop-number-preserved : goal.loop-number-preserved
loop-number-preserved g c =
    let start : FolderState = g.F.Folder.state c.args.folder.now in
    let now : FolderState = g.F.Folder.state c.loop-number.folder in
    let name : List ℕ = c.args.name.now in
    let old = c.loop-number.invariant in
    let whole : length (take c.in-Ok.count c.read_segment.new.segment) ≡ c.in-Ok.count =
    length-take-le c.in-Ok.count c.read_segment.new.segment
    (omega (arith, c.in-Ok.ensures.count, c.piece-size.ensures.few, c.read_segment.ensures.length, old.room)) in
    record {
      supplies = λ file a h short.
          let i = old.supplies file a h short in
          supplying-next c.segments_are_offered_as_they_are_read.ensures.next
          c.segments_are_offered_as_they_are_read.ensures.told c.segments_are_offered_as_they_are_read.ensures.own
          c.pieces_are_offered_until_none_is_wanted.ensures
          start name c.args.limit file a c.loop-number.self _ c.in-Some.number c.piece-size.result
          (take c.in-Ok.count c.read_segment.new.segment) i
          (c.in-Some.ensures.account i.now i.stands.end) (c.piece-size.ensures.account i.now i.stands.end)
          (omega (arith, whole, c.in-Ok.ensures.count)) (omega (arith, whole, c.in-Ok.ensures.within))
          (λ told. c.in-Ok.ensures.octets (told_later old.only.goes_on name told)
          ∙ ap (λ l. piece_at c.piece-size.result (take c.args.limit l) c.in-Some.number)
          (octets-kept start now name (old.only.names name) told)) (c.offer.ensures.account i.now i.stands.end) refl;
      takes = takes-on _ _ _ old.takes c.offer.ensures.takes_nothing;
      breaks = old.breaks;
      room = c.read_segment.ensures.length ∙ old.room;
      only = OnlyReads-trans old.only c.read_segment.ensures.only;
      stand = CountsStand-trans old.stand c.in-Ok.ensures.stand;
      came = g.met.F.Folder.came_on _ _ _ old.came c.read_segment.ensures.came;
    }

pub returns-in-None-clause-idle : goal.returns-in-None-clause-idle
returns-in-None-clause-idle g c = idle-on c.args.self.now _ c.loop-number.invariant.takes

pub returns-in-None-clause-counted : goal.returns-in-None-clause-counted
returns-in-None-clause-counted g c = counted-on c.args.self.now _ c.loop-number.invariant.takes c.loop-number.invariant.breaks

pub returns-in-Err : goal.returns-in-Err
returns-in-Err g c = record {
  stands = search rules;
  idle = idle-on c.args.self.now _ c.loop-number.invariant.takes;
  counted = counted-on c.args.self.now _ c.loop-number.invariant.takes c.loop-number.invariant.breaks;
  only = OnlyReads-trans c.loop-number.invariant.only c.read_segment.ensures.only;
  cause =
      let next : FolderState = g.F.Folder.state c.read_segment.new.folder in
      let stand = c.loop-number.invariant.stand in
      record {
        failed = λ e. subst (λ before. Rose before (next.read_faults c.args.name.now)) (stand.faults.reads c.args.name.now)
            (c.in-Err.ensures.cause.failed (as-err c.in-Err.fault _ e));
        memory =
            λ e. subst (λ before. Rose before next.refusals) stand.refusals (c.in-Err.ensures.cause.memory (as-err c.in-Err.fault _ e));
      };
  stand = search rules;
  spared =
      λ e. FaultsStand-trans c.loop-number.invariant.stand.faults (c.in-Err.ensures.spared (as-err c.in-Err.fault _ e));
  came = g.met.F.Folder.came_on _ _ _ c.loop-number.invariant.came c.read_segment.ensures.came;
}

pub returns-in-None-clause-cause : goal.returns-in-None-clause-cause
returns-in-None-clause-cause g c = record { failed = λ e. no-fault e; memory = λ e. no-fault e }

pub returns-in-None-clause-spared : goal.returns-in-None-clause-spared
returns-in-None-clause-spared g c = λ e. no-fault e

pub loop-number-smaller : goal.loop-number-smaller
loop-number-smaller g c = c.offer.ensures.fewer

pub offer-requires-clause-short : goal.offer-requires-clause-short
offer-requires-clause-short g c = let whole : length (take c.in-Ok.count c.read_segment.new.segment) ≡ c.in-Ok.count =
    length-take-le c.in-Ok.count c.read_segment.new.segment
    (omega (arith, c.in-Ok.ensures.count, c.piece-size.ensures.few, c.read_segment.ensures.length, c.loop-number.invariant.room)) in
    omega (arith, whole, c.in-Ok.ensures.count, c.piece-size.ensures.value)
