use Rattle.sample_line.proofs.Names.{◌∙◌, [], subst, sym, ap, Hears, mode_of, Mode}
use Rattle.sample_line.proofs.path.Path.new.Goals as goal

pub returns-clause-stands : goal.returns-clause-stands
returns-clause-stands c = λ script. record {
  samples = [];
  transmits = c.new.ensures.stands script;
  hears = subst (λ (mode : Mode). Hears mode c.in_ok-new.field-0 [] [])
      (c.mode_of.ensures ∙ ap mode_of (sym c.new.ensures.sender)) c.in_ok-new.ensures.stands;
}
