use Rattle.xid_params.proofs.Names.{arith, refl, false≢true, err_from_is_err_and}
use Rattle.xid_params.proofs.Parameters.{repeated-exit, cut-exit, identified-exit, passed-more, whole-room}
use Rattle.xid_params.proofs.reader.read_parameters.Goals as goal

pub returns-then-repeats-clause-err : goal.returns-then-repeats-clause-err
returns-then-repeats-clause-err c =
    repeated-exit c.args.content.now c.loop-identifier.rest.now c.in-Some.tail.now c.loop-identifier.given c.in-Some.identifier.now
    c.args.start c.in-Some.ensures.cases.0
    (λ parts s. (c.if-repeats.ensures parts s).0 refl) c.loop-identifier.invariant

pub returns-in_default-parameter_value-clause-err : goal.returns-in_default-parameter_value-clause-err
returns-in_default-parameter_value-clause-err c =
    cut-exit c.args.content.now c.loop-identifier.rest.now c.in-Some.tail.now c.loop-identifier.given c.in-Some.identifier.now c.args.start
    c.in-Some.ensures.cases.0
    (λ parts s r. false≢true ((c.if-repeats.ensures parts s).1 r)) c.in_default-parameter_value.ensures.none c.loop-identifier.invariant

pub take-requires : goal.take-requires
take-requires c =
    let room = whole-room c.args.content.now c.loop-identifier.rest.now c.in-Some.tail.now c.in-Some-parameter_value.value.now
    c.in-Some-parameter_value.after.now c.loop-identifier.given c.in-Some.identifier.now c.in-Some.ensures.cases.0
    (c.in-Some-parameter_value.ensures.some c.in-Some.identifier.now) c.loop-identifier.invariant in
    omega (arith, room.0)

pub returns-in_err-take-clause-err : goal.returns-in_err-take-clause-err
returns-in_err-take-clause-err c =
    let q = err_from_is_err_and c.from_residual.result c.from_residual.ensures.1 in
    rw (q.1, q.2) (identified-exit c.args.content.now c.loop-identifier.rest.now c.in-Some.tail.now c.in-Some-parameter_value.value.now
    c.in-Some-parameter_value.after.now c.loop-identifier.given c.in-Some.identifier.now c.args.start c.in_err-take.field-0.0
    c.in-Some.ensures.cases.0 (c.in-Some-parameter_value.ensures.some c.in-Some.identifier.now)
    (λ parts s r. false≢true ((c.if-repeats.ensures parts s).1 r)) c.in_err-take.ensures.err c.loop-identifier.invariant)

pub loop-identifier-smaller : goal.loop-identifier-smaller
loop-identifier-smaller c =
    (whole-room c.args.content.now c.loop-identifier.rest.now c.in-Some.tail.now c.in-Some-parameter_value.value.now
    c.in-Some-parameter_value.after.now c.loop-identifier.given c.in-Some.identifier.now c.in-Some.ensures.cases.0
    (c.in-Some-parameter_value.ensures.some c.in-Some.identifier.now) c.loop-identifier.invariant).1

pub loop-identifier-preserved : goal.loop-identifier-preserved
loop-identifier-preserved c =
    passed-more c.args.content.now c.loop-identifier.rest.now c.in-Some.tail.now c.in-Some-parameter_value.value.now
    c.in-Some-parameter_value.after.now c.loop-identifier.given c.take.new.self c.in-Some.identifier.now c.in-Some.ensures.cases.0
    (c.in-Some-parameter_value.ensures.some c.in-Some.identifier.now)
    (λ parts s r. false≢true ((c.if-repeats.ensures parts s).1 r)) c.in_ok-take.ensures.stands c.in_ok-take.ensures.well
    c.loop-identifier.invariant
