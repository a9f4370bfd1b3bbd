use Rattle.exact_decoder.proofs.Names.{◌≡◌, ◌-◌, arith, lit<, sym, subst, take, Splits}
use Rattle.exact_decoder.proofs.Walking.{back-none, back-within, back-met, first-long}
use Rattle.exact_decoder.proofs.back.release.Goals as goal

pub loop-back-init : goal.loop-back-init
loop-back-init g c = record {
  within = omega arith;
  agreed = omega arith;
  back = (0, back-none g.row.STATES c.args.ring.now c.all_states-live.result c.all_states-live.ensures);
}

pub step_back-agreed-requires : goal.step_back-agreed-requires
step_back-agreed-requires g c =
    let i = c.loop-back.invariant in
    let low = c.loop-back-test.true in (
      lit< tt,
      (
        omega (arith, g.met.C.TrellisCode.states_few.1),
        (
          c.requires.columns,
          (
            omega (arith, low, c.requires.within),
            (omega (arith, low, c.requires.room), (i.agreed, i.back)),
          ),
        ),
      ),
    )

pub loop-back-preserved : goal.loop-back-preserved
loop-back-preserved g c = record {
  within = omega (arith, c.loop-back-test.true);
  agreed = c.step_back-agreed.ensures.agreed;
  back = c.step_back-agreed.ensures.back;
}

pub returns-then-have_met : goal.returns-then-have_met
returns-then-have_met g c = c.release_one.ensures

pub release_one-requires : goal.release_one-requires
release_one-requires g c =
    let few = g.met.C.TrellisCode.states_few in
    let columns = c.args.ring.now in
    let live = c.step_back-agreed.new.live in
    let (left, back) = c.step_back-agreed.ensures.back in
    let first = take c.step_back-agreed.result c.step_back-agreed.new.labels in (
      omega arith,
      (
        c.requires.columns,
        (
          omega arith,
          (
            c.requires.within,
            (
              c.requires.room,
              (
                omega (arith, few.1),
                (
                  back-within _ _ _ _ _ _ _ c.requires.columns back 0 (omega (arith, few.0)),
                  (
                    c.step_back-agreed.ensures.agreed,
                    (
                      left,
                      back-met _ _ _ _ _ _ _ (c.have_met.ensures c.if-have_met.true) back,
                    ),
                  ),
                ),
              ),
            ),
          ),
        ),
      ),
    )

pub returns : goal.returns
returns g c =
    let i = c.loop-back.invariant in
    let columns = c.args.ring.now in
    let agreed = c.loop-back.agreed in
    let first = take agreed c.loop-back.labels in
    let left = c.args.unreleased - agreed in
    let (behind, back) = i.back in
    let all : c.loop-back.back ≡ c.args.unreleased = omega (arith, i.within, c.loop-back-test.false) in
    let left_is : behind ≡ left = omega (arith, all, back.splits.count, first-long c.loop-back.labels agreed i.agreed) in
    subst (λ l. Splits g.row.STATES columns c.args.unreleased left l) (sym c.shorten.ensures)
    (subst (λ n. Splits g.row.STATES columns n left first) all
    (subst (λ m. Splits g.row.STATES columns c.loop-back.back m first) left_is back.splits))
