use Rattle.exact_decoder.proofs.Names.{◌∙◌, drop, sym, ap, subst, Decoding, decoding_of, DecoderStands}
use Rattle.exact_decoder.specs.Memory.{opened}
use Rattle.exact_decoder.proofs.Taken.{sound-popped, popped-first, popped-rest, stands-popped}
use Rattle.exact_decoder.proofs.decoder.Decoder.take.Goals as goal

pub invariant_of-self : goal.invariant_of-self
unfolding opened
invariant_of-self g c =
    let t = g.C.TrellisCode in
    (sound-popped _ _ _ _ _ _ _ _ _ _ _ c.pop.ensures c.self.invariant).0

pub returns : goal.returns
unfolding opened
returns g c =
    let t = g.C.TrellisCode in
    let old = decoding_of c.self.inside.survivors c.self.inside.count c.self.inside.pending c.self.inside.lost in
    record {
      stands = λ starts samples taken h.
          let was = subst (λ v. DecoderStands t.table t.points starts g.row.DEPTH v samples taken) (sym c.self.view_is) h in
          stands-popped _ _ _ _ _ _ _ _ _ _ _ _ c.pop.ensures was;
      first = popped-first _ _ _ _ (ap (λ v. v.pending) c.self.view_is) c.pop.ensures;
      rest = ap (λ pending. record old { pending = pending }) (popped-rest _ _ _ c.pop.ensures)
          ∙ ap (λ (v : Decoding). record v { pending = drop 1 v.pending }) c.self.view_is;
      bound = (sound-popped _ _ _ _ _ _ _ _ _ _ _ c.pop.ensures c.self.invariant).1;
    }
