use Rattle.std.proofs.Common.{◌∙◌, ℕ, ◌+◌, ◌-◌, ◌<◌, ◌≤◌, List, length, drop, refl, sym, ap, subst, arith, length-drop}
use Rattle.std.proofs.lemmas.List.{drop_all, take_rest}
use Rattle.noise_script.specs.Lines.{is_in_word, words_of}
use Rattle.noise_script.proofs.Cuts.{blank-skipped, word-begins}
use Rattle.noise_script.proofs.lines.without_blanks.Goals as goal

no-longer : (line : List ℕ) (at : ℕ) → length (drop at line) ≤ length line
no-longer line at = omega (arith, length-drop at line)

less-left : (all at : ℕ) → at < all → all - (at + 1) < all - at
less-left all at within = omega arith

no-less : (n : ℕ) → 0 ≤ n
no-less n = omega arith

pub loop-at-smaller : goal.loop-at-smaller
loop-at-smaller c = less-left (length c.args.line.now) c.loop-at.at c.loop-at-test.true

pub loop-at-preserved : goal.loop-at-preserved
loop-at-preserved c = sym (blank-skipped _ _ c.loop-at-test.true (sym c.is_blank.ensures ∙ c.if-not-is_blank.false)) ∙ c.loop-at.invariant

pub returns-then-not-is_blank : goal.returns-then-not-is_blank
returns-then-not-is_blank c =
    let line : List ℕ = c.args.line.now in
    let at = c.loop-at.at in
    record {
      words = ap words_of (take_rest line at) ∙ c.loop-at.invariant;
      word = λ some. ap is_in_word (take_rest line at) ∙ word-begins _ _ c.loop-at-test.true (sym c.is_blank.ensures
          ∙ c.if-not-is_blank.true);
      shorter = subst (λ (rest : List ℕ). length rest ≤ length line) (sym (take_rest line at)) (no-longer _ at);
    }

pub returns : goal.returns
returns c = record {
  words = ap words_of (sym (drop_all c.loop-at.at c.args.line.now c.loop-at-test.false)) ∙ c.loop-at.invariant;
  word = λ some. absurd (some refl);
  shorter = no-less (length c.args.line.now);
}
