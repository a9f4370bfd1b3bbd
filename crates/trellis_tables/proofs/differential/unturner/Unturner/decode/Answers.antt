use Rattle.trellis_tables.proofs.Names.{◌≡◌, ◌+◌, ◌-◌, ◌%◌, ◌++◌, ◌∷◌, [], length, sym, ◌∙◌, ap, before}
use Rattle.trellis_tables.proofs.Turning.Places.{unturned-snoc, before-snoc}
use Rattle.trellis_tables.proofs.differential.unturner.Unturner.decode.Goals as goal

pub returns-clause-stands : goal.returns-clause-stands
returns-clause-stands c = λ sent turns h.
    let latest : c.self.inside.latest ≡ before sent (length sent) = c.self.view_is ∙ h.latest_is in
    record {
      unturned_is = ap (λ b. turns ++ ((c.args.y + 4 - b) % 4) ∷ []) latest
          ∙ ap (λ l. l ++ ((c.args.y + 4 - before sent (length sent)) % 4) ∷ []) h.unturned_is ∙ sym (unturned-snoc sent c.args.y);
      latest_is = sym (before-snoc sent c.args.y);
    }
