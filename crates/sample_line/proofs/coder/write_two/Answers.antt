use Rattle.sample_line.proofs.Names.{◌≡◌, ◌∙◌, ◌<◌, ◌+◌, ◌++◌, [], ◌∷◌, ℕ, Bool, List, length, map, take, sym, ap, subst, arith}
use Rattle.sample_line.proofs.Names.{append_assoc, map-append, line_bits, ModulatorStands, point_of, Sample}
use Rattle.sample_line.proofs.Standing.{sent-part}
use Rattle.sample_line.proofs.coder.write_two.Goals as goal

pub returns-clause-stands : goal.returns-clause-stands
returns-clause-stands c = λ mode before points h.
    let place : ℕ = c.args.place in
    let bits : List ℕ = c.args.bits.now in
    let out : List ℕ = c.args.out.now in
    let first : ℕ = c.label-first.result in
    let second : ℕ = c.label-second.result in
    let within : place < length bits = omega (arith, c.requires.within) in
    let behind : place + 1 < length bits = omega (arith, c.requires.within) in
    let two : place + 1 + 1 ≡ place + 2 = omega arith in
    let one = c.label-first.ensures.stands mode (before ++ line_bits (take place bits)) (points ++ map point_of out) h in
    let started = subst (λ (xs : List Bool). ModulatorStands mode c.label-first.new.self xs
    ((points ++ map point_of out) ++ point_of first ∷ []))
    (sent-part before bits place c.quad.result within c.quad.ensures.value) one in
    let more = c.label-second.ensures.stands mode (before ++ line_bits (take (place + 1) bits))
    ((points ++ map point_of out) ++ point_of first ∷ []) started in
    let all : ((points ++ map point_of out) ++ point_of first ∷ []) ++ point_of second ∷ [] ≡ points ++ map point_of c.push_two.new.self =
    append_assoc (points ++ map point_of out) (point_of first ∷ []) (point_of second ∷ [])
    ∙ append_assoc points (map point_of out) (point_of first ∷ point_of second ∷ [])
    ∙ ap (λ xs. points ++ xs) (sym (map-append point_of out (first ∷ second ∷ [])))
    ∙ ap (λ xs. points ++ map point_of xs) (sym c.push_two.ensures) in
    subst (λ (xs : List Sample). ModulatorStands mode c.label-second.new.self (before ++ line_bits (take (place + 2) bits)) xs) all
    (subst (λ (n : ℕ). ModulatorStands mode c.label-second.new.self (before ++ line_bits (take n bits))
    (((points ++ map point_of out) ++ point_of first ∷ []) ++ point_of second ∷ [])) two
    (subst (λ (xs : List Bool). ModulatorStands mode c.label-second.new.self xs
    (((points ++ map point_of out) ++ point_of first ∷ []) ++ point_of second ∷ []))
    (sent-part before bits (place + 1) c.quad-2.result behind c.quad-2.ensures.value) more))
