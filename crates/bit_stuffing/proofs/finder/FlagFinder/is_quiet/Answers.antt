use Rattle.std.proofs.lemmas.Bool.{not-true}
use Rattle.bit_stuffing.proofs.Names.{ℕ, ◌≡◌, ◌+◌, ◌<◌, sym, subst, bit_at, Finds}
use Rattle.bit_stuffing.proofs.Quiet.{quiet-octet}
use Rattle.bit_stuffing.proofs.finder.FlagFinder.is_quiet.Goals as goal

pub returns-in_default-clause-quiet : goal.returns-in_default-clause-quiet
returns-in_default-clause-quiet c = λ quiet past h.
    let s = subst (λ v. Finds v past) (sym c.self.view_is) h in
    quiet-octet c.self.inside.latest c.args.octet past s.holds
    (subst (λ bits. (i : ℕ) → ((j : ℕ) → j < 6 → bit_at bits (i + j) ≡ 1)
    → ⊥) c.window_of.ensures (c.has_six_ones.ensures (not-true c.has_six_ones.result quiet)))
