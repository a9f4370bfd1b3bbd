use Rattle.exact_decoder.proofs.Names.{sym, ap, subst, Decoding, decoding_of, DecoderStands}
use Rattle.exact_decoder.specs.Memory.{opened}
use Rattle.exact_decoder.proofs.Taken.{sound-popped-two, popped-two-first, stands-popped-two}
use Rattle.exact_decoder.proofs.decoder.Decoder.take_two.Goals as goal

pub invariant_of-self : goal.invariant_of-self
unfolding opened
invariant_of-self g c =
    let t = g.C.TrellisCode in
    (sound-popped-two _ _ _ _ _ _ _ _ _ _ _ c.pop_two.ensures c.self.invariant).0

pub returns : goal.returns
unfolding opened
returns g c =
    let t = g.C.TrellisCode in
    let old = decoding_of c.self.inside.survivors c.self.inside.count c.self.inside.pending c.self.inside.lost in
    let new = decoding_of c.self.inside.survivors c.self.inside.count c.pop_two.new.self c.self.inside.lost in
    record {
      stands = λ starts samples taken h.
          let was = subst (λ v. DecoderStands t.table t.points starts g.row.DEPTH v samples taken) (sym c.self.view_is) h in
          stands-popped-two _ _ _ _ _ _ _ _ _ _ _ _ c.pop_two.ensures was;
      first = popped-two-first _ _ _ _ _ _ _ c.self.view_is c.pop_two.ensures;
      rest = ap (λ (v : Decoding). record v { pending = new.pending }) c.self.view_is;
      bound = (sound-popped-two _ _ _ _ _ _ _ _ _ _ _ c.pop_two.ensures c.self.invariant).1;
    }
