use Rattle.xid_params.proofs.Names.{arith, refl, err_from_is_err_and}
use Rattle.xid_params.proofs.Groups.{second-exit, cut-group-exit, inner-exit, groups-more, group-room}
use Rattle.xid_params.proofs.reader.read_groups.Goals as goal

pub returns-then-is_second-clause-err : goal.returns-then-is_second-clause-err
returns-then-is_second-clause-err c =
    second-exit c.args.groups.now c.loop-identifier.rest.now c.in-Some.tail.now c.loop-identifier.offered c.in-Some.identifier
    c.in-Some.ensures.some (c.if-is_second.ensures.second refl) c.loop-identifier.invariant

pub returns-in_default-group_content-clause-err : goal.returns-in_default-group_content-clause-err
returns-in_default-group_content-clause-err c =
    cut-group-exit c.args.groups.now c.loop-identifier.rest.now c.in-Some.tail.now c.loop-identifier.offered c.in-Some.identifier
    c.in-Some.ensures.some (c.if-is_second.ensures.first refl) c.in_default-group_content.ensures.none c.loop-identifier.invariant

pub behind_group-requires : goal.behind_group-requires
behind_group-requires c =
    let room = group-room c.args.groups.now c.loop-identifier.rest.now c.in-Some.tail.now c.in-Some-group_content.content.now
    c.in-Some-group_content.after.now c.loop-identifier.offered c.in-Some.identifier c.in-Some.ensures.some.0
    (c.in-Some-group_content.ensures.some c.in-Some.identifier) c.loop-identifier.invariant in
    omega (arith, room.0)

pub returns-in_err-offered-clause-err : goal.returns-in_err-offered-clause-err
returns-in_err-offered-clause-err c =
    let q = err_from_is_err_and c.from_residual.result c.from_residual.ensures.1 in
    rw (q.1, q.2) (inner-exit c.args.groups.now c.loop-identifier.rest.now c.in-Some.tail.now c.in-Some-group_content.content.now
    c.in-Some-group_content.after.now c.loop-identifier.offered c.in-Some.identifier c.in_err-offered.field-0.0 c.in-Some.ensures.some.0
    (c.if-is_second.ensures.first refl)
    (c.in-Some-group_content.ensures.some c.in-Some.identifier) c.in_err-offered.ensures.err c.loop-identifier.invariant)

pub loop-identifier-smaller : goal.loop-identifier-smaller
loop-identifier-smaller c =
    (group-room c.args.groups.now c.loop-identifier.rest.now c.in-Some.tail.now c.in-Some-group_content.content.now
    c.in-Some-group_content.after.now c.loop-identifier.offered c.in-Some.identifier c.in-Some.ensures.some.0
    (c.in-Some-group_content.ensures.some c.in-Some.identifier) c.loop-identifier.invariant).1

pub loop-identifier-preserved : goal.loop-identifier-preserved
loop-identifier-preserved c =
    groups-more c.args.groups.now c.loop-identifier.rest.now c.in-Some.tail.now c.in-Some-group_content.content.now
    c.in-Some-group_content.after.now c.loop-identifier.offered c.in_ok-offered.offered c.in-Some.identifier c.in-Some.ensures.some
    (c.if-is_second.ensures.first refl)
    (c.in-Some-group_content.ensures.some c.in-Some.identifier) c.in_ok-offered.ensures.ok c.loop-identifier.invariant
