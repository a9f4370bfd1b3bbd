use Rattle.bit_stuffing.proofs.Names.{sym, subst, ◌∙◌, false≢true, Finds}
use Rattle.bit_stuffing.proofs.Openings.{at_end, from_end, seven_at_end, seven_from_end, room-open, flag-opens, flag-closes, flag-near}
use Rattle.bit_stuffing.proofs.Openings.{seven-aborts, seven-shuts, quiet, counts-more, shut-quiet, shut-stays}
use Rattle.bit_stuffing.proofs.finder.FlagFinder.push.Goals as goal
use Rattle.bit_stuffing.proofs.finder.FlagFinder.push.Goals.{then-far, else-far}

pub returns-then-ends_flag-clause-answer : goal.returns-then-ends_flag-clause-answer
returns-then-ends_flag-clause-answer c = λ past h.
    let s = subst (λ v. Finds v past) (sym c.self.view_is) h in
    let holds = c.shifted-self-inside.ensures past s.holds in
    let flag = at_end past c.args.bit ((c.ends_flag.ensures _ holds).0 c.if-ends_flag.true) in
    elim c.if-far.branch [
      | then-far w ↦ rw w.result-is (flag-closes past c.args.bit flag (c.is_far-far.ensures.far w.if-far.true past h))
      | else-far w ↦ rw w.result-is
          (flag-near past c.args.bit flag (c.is_far-far.ensures.near (λ e. false≢true (sym w.if-far.false ∙ e)) past h))
    ]

pub returns-then-ends_flag-clause-stands : goal.returns-then-ends_flag-clause-stands
returns-then-ends_flag-clause-stands c = λ past h.
    let s = subst (λ v. Finds v past) (sym c.self.view_is) h in
    let holds = c.shifted-self-inside.ensures past s.holds in
    let flag = at_end past c.args.bit ((c.ends_flag.ensures _ holds).0 c.if-ends_flag.true) in
    record { holds = holds; counts = flag-opens past c.args.bit flag }

pub returns-in-Some-clause-answer : goal.returns-in-Some-clause-answer
returns-in-Some-clause-answer c = λ past h.
    let s = subst (λ v. Finds v past) (sym c.self.view_is) h in
    let holds = c.shifted-self-inside.ensures past s.holds in
    let k = rw c.in-Some.is at s.counts in
    let seven = seven_at_end past c.args.bit
    ((c.ends_seven_ones.ensures _ holds (room-open past c.args.bit _ k)).0 c.if-ends_seven_ones.true) in
    seven-aborts past c.args.bit seven _ k

pub returns-in-Some-clause-stands : goal.returns-in-Some-clause-stands
returns-in-Some-clause-stands c = λ past h.
    let s = subst (λ v. Finds v past) (sym c.self.view_is) h in
    let holds = c.shifted-self-inside.ensures past s.holds in
    let k = rw c.in-Some.is at s.counts in
    let seven = seven_at_end past c.args.bit
    ((c.ends_seven_ones.ensures _ holds (room-open past c.args.bit _ k)).0 c.if-ends_seven_ones.true) in
    record { holds = holds; counts = seven-shuts past c.args.bit seven }

pub returns-in-Some-2-clause-answer : goal.returns-in-Some-2-clause-answer
returns-in-Some-2-clause-answer c = λ past h.
    let s = subst (λ v. Finds v past) (sym c.self.view_is) h in
    let holds = c.shifted-self-inside.ensures past s.holds in
    let k = rw c.in-Some-2.is at s.counts in
    quiet past c.args.bit
    (λ f. false≢true (sym c.if-ends_flag.false ∙ (c.ends_flag.ensures _ holds).1 (from_end past c.args.bit f)))
    (λ o. false≢true (sym c.if-ends_seven_ones.false
    ∙ (c.ends_seven_ones.ensures _ holds (room-open past c.args.bit _ k)).1 (seven_from_end past c.args.bit o)))

pub returns-in-Some-2-clause-stands : goal.returns-in-Some-2-clause-stands
returns-in-Some-2-clause-stands c = λ past h.
    let s = subst (λ v. Finds v past) (sym c.self.view_is) h in
    let holds = c.shifted-self-inside.ensures past s.holds in
    let k = rw c.in-Some-2.is at s.counts in
    record {
      holds = holds;
      counts = rw c.min.ensures (counts-more past c.args.bit
          (λ f. false≢true (sym c.if-ends_flag.false ∙ (c.ends_flag.ensures _ holds).1 (from_end past c.args.bit f)))
          (λ o. false≢true (sym c.if-ends_seven_ones.false
          ∙ (c.ends_seven_ones.ensures _ holds (room-open past c.args.bit _ k)).1 (seven_from_end past c.args.bit o))) _ k);
    }

pub returns-in-None-clause-answer : goal.returns-in-None-clause-answer
returns-in-None-clause-answer c = λ past h.
    let s = subst (λ v. Finds v past) (sym c.self.view_is) h in
    shut-quiet past c.args.bit (rw c.in-None.is at s.counts)

pub returns-in-None-clause-stands : goal.returns-in-None-clause-stands
returns-in-None-clause-stands c = λ past h.
    let s = subst (λ v. Finds v past) (sym c.self.view_is) h in
    let holds = c.shifted-self-inside.ensures past s.holds in
    record {
      holds = holds;
      counts = rw c.in-None.is
          (shut-stays past c.args.bit
          (λ f. false≢true (sym c.if-ends_flag.false ∙ (c.ends_flag.ensures _ holds).1 (from_end past c.args.bit f)))
          (rw c.in-None.is at s.counts));
    }
