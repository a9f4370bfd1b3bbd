use Rattle.trellis_tables.proofs.Names.{◌≡◌, ◌+◌, ◌%◌, ◌++◌, ◌∷◌, [], sum, arith, sym, ◌∙◌, ap}
use Rattle.trellis_tables.proofs.Turning.Places.{turned-snoc, sum-snoc}
use Rattle.trellis_tables.proofs.differential.turner.Turner.encode.Goals as goal

pub returns-clause-stands : goal.returns-clause-stands
returns-clause-stands c = λ turns sent h.
    let latest : c.self.inside.latest ≡ sum turns % 4 = c.self.view_is ∙ h.latest_is in
    let sum_is : (c.self.inside.latest + c.args.q) % 4 ≡ (sum turns + c.args.q) % 4 = omega (arith, latest) in
    record {
      turned_is = ap (λ s. sent ++ s ∷ []) sum_is ∙ ap (λ l. l ++ ((sum turns + c.args.q) % 4) ∷ []) h.turned_is
          ∙ sym (turned-snoc turns c.args.q);
      latest_is = sum_is ∙ ap (λ s. s % 4) (sym (sum-snoc turns c.args.q));
    }
