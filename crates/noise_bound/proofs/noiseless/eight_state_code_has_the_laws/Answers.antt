use Rattle.noise_bound.proofs.Names.{refl, nat_eq, ◌<◌, subst, sym, eqb-true}
use Rattle.std.proofs.lemmas.Bool.{eq-eqb}
use Rattle.noise_bound.proofs.noiseless.eight_state_code_has_the_laws.Goals as goal

pub returns : goal.returns
returns c = λ start low. c.codes_have_laws.ensures (λ state. nat_eq state start) (record {
  start = start;
  starts_there = eq-eqb start start refl;
  within = λ state e. subst (λ s. s < 8) (sym (eqb-true state start e)) low;
})
