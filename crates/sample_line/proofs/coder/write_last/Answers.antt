use Rattle.sample_line.proofs.Names.{◌≡◌, ◌∙◌, ◌+◌, ◌++◌, [], ◌∷◌, ℕ, Bool, List, map, take, sym, ap, subst, append_assoc, map-append}
use Rattle.sample_line.proofs.Names.{line_bits, ModulatorStands, point_of, Sample}
use Rattle.sample_line.proofs.Standing.{sent-part}
use Rattle.sample_line.proofs.coder.write_last.Goals as goal

pub returns : goal.returns
returns c = record {
  stands = λ mode before points h.
      let place : ℕ = c.args.place in
      let bits : List ℕ = c.args.bits.now in
      let out : List ℕ = c.args.out.now in
      let label : ℕ = c.label.result in
      let more = c.label.ensures.stands mode (before ++ line_bits (take place bits)) (points ++ map point_of out) h in
      let all : (points ++ map point_of out) ++ point_of label ∷ [] ≡ points ++ map point_of c.push.new.self =
      append_assoc points (map point_of out) (point_of label ∷ [])
      ∙ ap (λ xs. points ++ xs) (sym (map-append point_of out (label ∷ []))) ∙ ap (λ xs. points ++ map point_of xs) (sym c.push.ensures) in
      subst (λ (xs : List Sample). ModulatorStands mode c.label.new.self (before ++ line_bits (take (place + 1) bits)) xs) all
      (subst (λ (xs : List Bool). ModulatorStands mode c.label.new.self xs ((points ++ map point_of out) ++ point_of label ∷ []))
      (sent-part before bits place c.quad.result c.requires.within c.quad.ensures.value) more);
}
