use Rattle.lapm_receiver.proofs.Names.{◌≡◌, ℕ, ◌<◌, true, [], refl, ap, arith, is_among, Arrived, Taking}
use Rattle.lapm_receiver.proofs.receiver.Receiver.begin.Goals as goal

pub invariant_of-self : goal.invariant_of-self
invariant_of-self c =
    let kept = ap (λ (slots : Arrived). slots.room) c.restart.ensures in (
      omega (arith, kept, ap (λ (r : Taking). r.room) c.self.view_is, c.requires.window_high),
      omega (arith, kept, c.self.invariant.1),
    )

none-asked : (n : ℕ) → is_among n [] ≡ true → n < 0
none-asked n e = absurd cc

pub returns-clause-stands : goal.returns-clause-stands
returns-clause-stands c = record {
  window_is = refl;
  srej_is = refl;
  taken_is = ap (λ (slots : Arrived). slots.taken) c.restart.ensures;
  given_within = omega arith;
  ready_is = ap (λ (slots : Arrived). slots.ready) c.restart.ensures;
  held_is = ap (λ (slots : Arrived). slots.held) c.restart.ensures;
  asked_are = record { lie_below = none-asked; were_asked = λ n low high. absurd (omega (arith, high)) };
  rej_is = refl;
  gapped_is = refl;
  owed_is = refl;
}
