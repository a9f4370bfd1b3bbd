use Rattle.sample_line.proofs.Names.{◌≡◌, ◌∙◌, ◌<◌, ◌+◌, ◌-◌, ◌*◌, ◌/◌, ℕ, List, slice_index, inl, inr, sym, ap, subst, arith, cases_lt}
use Rattle.sample_line.proofs.label_slot.LabelSlot.unpack.Goals as goal

pub loop-eight-preserved : goal.loop-eight-preserved
loop-eight-preserved c =
    let i = c.loop-eight.invariant in
    let eight : ℕ = c.loop-eight.eight in
    let at : ℕ = c.args.at in
    let out : List ℕ = c.put_eight.new.out in
    let labels : List ℕ = c.args.self.now in
    record {
      value = λ k low within. elim (cases_lt k (8 * eight)) [
        | inl before ↦ c.put_eight.ensures.before k before ∙ i.value k before within
        | inr behind ↦
            let own : 8 * eight + (k - 8 * eight) ≡ k = omega (arith, behind) in
            let there : 8 * (at / 8 + eight) + (k - 8 * eight) ≡ at + k = omega (arith, behind, c.requires.multiple) in
            ap (λ (m : ℕ). slice_index out m) (sym own)
            ∙ c.put_eight.ensures.value (k - 8 * eight) (omega (arith, low, behind)) (omega (arith, there, within))
            ∙ ap (λ (m : ℕ). slice_index labels m) there
      ];
      bound = λ k low. elim (cases_lt k (8 * eight)) [
        | inl before ↦ subst (λ (n : ℕ). n < 32) (sym (c.put_eight.ensures.before k before)) (i.bound k before)
        | inr behind ↦
            let own : 8 * eight + (k - 8 * eight) ≡ k = omega (arith, behind) in
            subst (λ (m : ℕ). slice_index out m < 32) own (c.put_eight.ensures.bound (k - 8 * eight) (omega (arith, low, behind)))
      ];
    }
