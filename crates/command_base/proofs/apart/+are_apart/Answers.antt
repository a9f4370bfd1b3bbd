use Rattle.command_base.proofs.Names.{◌≡◌, ◌∙◌, ◌&&◌, Bool, true, false, map, sym, ap, are_apart}
use Rattle.command_base.proofs.apart.+are_apart.Goals as goal
use Rattle.command_base.proofs.apart.+are_apart.Goals.{then-is_none_of, else-is_none_of}

not-both : (b : Bool) → b ≡ false → b ≡ true → ⊥
not-both b e f = cc

pub returns-then-is_none_of-2 : goal.returns-then-is_none_of-2
returns-then-is_none_of-2 n c =
    let inputs = map (λ name. name.now) c.args.inputs.now in
    let others = map (λ name. name.now) c.in-Some.others.now in
    c.are_apart.ensures ∙ elim c.if-is_none_of.branch [
      | then-is_none_of w ↦
          let input = sym c.is_none_of.ensures ∙ w.if-is_none_of.true in
          let other = sym (w.value-is ∙ w.is_none_of-then-is_none_of.ensures) ∙ c.if-is_none_of-2.true in
          sym (ap (λ names. are_apart inputs (map (λ name. name.now) names)) c.in-Some.ensures.cases.0
          ∙ (λ k. input k && other k && are_apart inputs others))
      | else-is_none_of w ↦ absurd (not-both _ (w.value-is ∙ w.if-is_none_of.false) c.if-is_none_of-2.true)
    ]
