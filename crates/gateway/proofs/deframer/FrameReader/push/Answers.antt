use Rattle.gateway.proofs.Names.{ℕ, ◌+◌, ◌<◌, ◌≡◌, ◌++◌, Bool, List, length, ap, sym, subst, refl, ◌∙◌, arith, DeframerStands, answer_of}
use Rattle.gateway.proofs.Names.{heard}
use Rattle.gateway.proofs.Hearing.{heard-more, length-heard-behind, none_more}
use Rattle.gateway.proofs.deframer.FrameReader.push.Goals as goal

pub returns-in-Some-push-clause-reads : goal.returns-in-Some-push-clause-reads
returns-in-Some-push-clause-reads c = λ sender check past start. let k = c.loop-place.place in let bits = c.args.bits.now in record {
  stands = subst (λ (all : List Bool). DeframerStands c.push.new.self all) (heard-more past bits k (k + 1) (omega arith))
      (c.push.ensures.stands (past ++ heard k bits) (c.loop-place.invariant.stands past start.stands));
  sender_is = c.loop-place.invariant.sender ∙ start.sender_is;
  check_is = c.loop-place.invariant.check ∙ start.check_is;
  count_is = ap (λ n. n + (k + 1)) (c.loop-place.invariant.heard ∙ start.count_is) ∙ sym (length-heard-behind past bits (k + 1));
}

pub returns-in-Some-push-clause-stops : goal.returns-in-Some-push-clause-stops
returns-in-Some-push-clause-stops c = λ sender check past start. let k = c.loop-place.place in let bits = c.args.bits.now in (
  subst (λ (n : ℕ). n + length bits < 18446744073709551616) start.count_is c.in-Some.ensures.0,
  (
    k,
    refl,
    c.loop-place.invariant.quiet past start.stands,
    ap answer_of (sym (heard-more past bits k (k + 1) (omega arith)))
        ∙ sym (c.push.ensures.value (past ++ heard k bits) (c.loop-place.invariant.stands past start.stands)) ∙ c.in-Some-push.is,
  ),
)

pub loop-place-preserved : goal.loop-place-preserved
loop-place-preserved c = let k = c.loop-place.place in let bits = c.args.bits.now in record {
  stands = λ past start. subst (λ (all : List Bool). DeframerStands c.push.new.self all) (heard-more past bits k (k + 1) (omega arith))
      (c.push.ensures.stands (past ++ heard k bits) (c.loop-place.invariant.stands past start));
  quiet = λ past start. none_more answer_of past bits k (k + 1) (omega arith) (c.loop-place.invariant.quiet past start)
      (ap answer_of (sym (heard-more past bits k (k + 1) (omega arith)))
      ∙ sym (c.push.ensures.value (past ++ heard k bits) (c.loop-place.invariant.stands past start)) ∙ c.in_default-push.is);
  sender = c.loop-place.invariant.sender;
  check = c.loop-place.invariant.check;
  heard = c.loop-place.invariant.heard;
}

pub returns-clause-reads : goal.returns-clause-reads
returns-clause-reads c = λ sender check past start. let bits = c.args.bits.now in
    let all : c.loop-place.place ≡ length bits = omega (arith, c.loop-place.auto.place-end, c.loop-place-test.false) in record {
      stands = subst (λ (k : ℕ). DeframerStands c.loop-place.self.deframer (past ++ heard k bits)) all
          (c.loop-place.invariant.stands past start.stands);
      sender_is = c.loop-place.invariant.sender ∙ start.sender_is;
      check_is = c.loop-place.invariant.check ∙ start.check_is;
      count_is = c.in-Some.ensures.1 ∙ ap (λ n. n + length bits) start.count_is ∙ sym (length-heard-behind past bits (length bits));
    }
