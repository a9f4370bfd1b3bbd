use Rattle.gateway.proofs.Names.{◌+◌, ◌++◌, Bool, List, ap, sym, subst, refl, ◌∙◌, arith, ReaderStands, heard}
use Rattle.detection.specs.Patterns.{seen_at}
use Rattle.gateway.proofs.Hearing.{heard-more, none_more}
use Rattle.gateway.proofs.detector.PatternDetector.push.Goals as goal

pub returns-in-Some-clause-stands : goal.returns-in-Some-clause-stands
returns-in-Some-clause-stands c = λ past start. let k = c.loop-place.place in
    subst (λ (all : List Bool). ReaderStands c.push.new.self all) (heard-more past c.args.bits.now k (k + 1) (omega arith))
    (c.push.ensures.stands (past ++ heard k c.args.bits.now) (c.loop-place.invariant.stands past start))

pub returns-in-Some-clause-sees : goal.returns-in-Some-clause-sees
returns-in-Some-clause-sees c = λ past start. let k = c.loop-place.place in let bits = c.args.bits.now in (
  k,
  refl,
  c.loop-place.invariant.quiet past start,
  ap seen_at (sym (heard-more past bits k (k + 1) (omega arith)))
      ∙ sym (c.push.ensures.value (past ++ heard k bits) (c.loop-place.invariant.stands past start)) ∙ c.in-Some.is,
)

pub loop-place-preserved : goal.loop-place-preserved
loop-place-preserved c = let k = c.loop-place.place in let bits = c.args.bits.now in record {
  stands = λ past start. subst (λ (all : List Bool). ReaderStands c.push.new.self all) (heard-more past bits k (k + 1) (omega arith))
      (c.push.ensures.stands (past ++ heard k bits) (c.loop-place.invariant.stands past start));
  quiet = λ past start. none_more seen_at past bits k (k + 1) (omega arith) (c.loop-place.invariant.quiet past start)
      (ap seen_at (sym (heard-more past bits k (k + 1) (omega arith)))
      ∙ sym (c.push.ensures.value (past ++ heard k bits) (c.loop-place.invariant.stands past start)) ∙ c.in_default.is);
}
