use Rattle.exact_decoder.proofs.Names.{◌≡◌, ◌<◌, ◌≤◌, ◌++◌, None, [], reverse, sym, ◌∙◌, subst, arith, All-same, decoding_of, DecoderStands}
use Rattle.exact_decoder.proofs.Names.{IsFirstLeast, trellis_of}
use Rattle.exact_decoder.specs.Memory.{opened}
use Rattle.exact_decoder.proofs.Keeping.{All-turned}
use Rattle.exact_decoder.proofs.Taken.{stands-final}
use Rattle.exact_decoder.proofs.decoder.Decoder.finish.Goals as goal

pub returns-clause-least : goal.returns-clause-least
unfolding opened
returns-clause-least g c = λ starts samples taken h.
    let t = g.C.TrellisCode in
    let old = decoding_of c.self.inside.survivors c.self.inside.count c.self.inside.pending c.self.inside.lost in
    let was = subst (λ v. DecoderStands t.table t.points starts g.row.DEPTH v samples taken) (sym c.self.view_is) h in
    let none : old.pending ≡ [] = subst (λ v. v.pending ≡ []) (sym c.self.view_is) c.requires.taken in
    let runs : old.lost ≡ None = subst (λ v. v.lost ≡ None) (sym c.self.view_is) c.requires.lost in
    let l = c.least.ensures.least in
    subst (λ x. IsFirstLeast (trellis_of t.table t.points starts) samples (taken ++ x)) (sym (c.of.ensures ∙ l.2))
    (stands-final t.table t.points g.row.DEPTH starts old samples taken l.0 runs none l.1 was)

pub returns-clause-bound : goal.returns-clause-bound
unfolding opened
returns-clause-bound g c = All-same (λ x. x < g.row.LABELS) c.of.result (reverse c.least.result) c.of.ensures
    (All-turned (λ x. x < g.row.LABELS) c.least.result c.least.ensures.below)

pub of-requires : goal.of-requires
unfolding opened
of-requires g c =
    let runs : c.self.inside.lost ≡ None = subst (λ v. v.lost ≡ None) (sym c.self.view_is) c.requires.lost in
    let few : c.self.inside.survivors.unreleased ≤ g.row.DEPTH = c.self.invariant.room runs in
    omega (arith, few, c.self.invariant.high, c.least.ensures.long)
