use Rattle.signal_commands.proofs.Names.{◌≡◌, ◌+◌, ◌*◌, ◌++◌, ◌∷◌, [], ℕ, List, take, slice_index, sym, subst, arith, append-nil}
use Rattle.signal_commands.proofs.Names.{append_assoc, take_more, take_all, MarginStands, samples_in, Sample}
use Rattle.signal_commands.proofs.Margins.Measures.{two-more-samples}
use Rattle.signal_commands.proofs.margin.measuring.measure_piece.Goals as goal

-- one octet more behind those of a piece
octet-more : (before octets : List ℕ) (place octet : ℕ) → octet ≡ slice_index octets place
    → take (place + 1) octets ≡ take place octets ++ slice_index octets place ∷ []
    → (before ++ take place octets) ++ octet ∷ [] ≡ before ++ take (place + 1) octets
octet-more before octets place octet is more = grind (arith, append_assoc)

pub loop-place-preserved : goal.loop-place-preserved
loop-place-preserved c =
    let place : ℕ = c.loop-place.place in
    let octets : List ℕ = c.args.octets.now in
    let recorded : List ℕ = c.args.recorded.now in
    let octet : ℕ = slice_index octets place in
    record {
      stands = λ mode before samples s.
          let pushed : MarginStands mode c.push.new.self ((before ++ take place octets) ++ octet ∷ []) (((samples ++ samples_in (take
          (4 * (2 * place)) recorded)) ++ c.sample_at-first.result ∷ []) ++ c.sample_at-second.result ∷ []) =
          c.push.ensures.stands mode (before ++ take place octets) (samples ++ samples_in (take (4 * (2 * place)) recorded))
          (c.loop-place.invariant.stands mode before samples s) in
          let sampled : MarginStands mode c.push.new.self ((before ++ take place octets) ++ octet ∷ [])
          (samples ++ samples_in (take (4 * (2 * (place + 1))) recorded)) =
          subst (λ (xs : List Sample). MarginStands mode c.push.new.self ((before ++ take place octets) ++ octet ∷ []) xs)
          (two-more-samples samples recorded place c.sample_at-first.result c.sample_at-second.result
          (omega (arith, c.requires.fits, c.loop-place-test.true)) c.sample_at-first.ensures c.sample_at-second.ensures) pushed in
          subst (λ (xs : List ℕ). MarginStands mode c.push.new.self xs (samples ++ samples_in (take (4 * (2 * (place + 1))) recorded)))
          (octet-more before octets place octet (λ i. octet) (take_more octets place 0 (omega (arith, c.loop-place-test.true)))) sampled;
      count = omega (arith, c.push.ensures.count, c.loop-place.invariant.count);
    }

pub loop-place-init : goal.loop-place-init
loop-place-init c = record {
  stands = λ mode before samples s.
      subst (λ (xs : List ℕ). MarginStands mode c.args.margin.now xs (samples ++ [])) (sym (append-nil before))
      (subst (λ (xs : List Sample). MarginStands mode c.args.margin.now before xs) (sym (append-nil samples)) s);
  count = omega arith;
}

pub push-requires : goal.push-requires
push-requires c = omega (arith, c.loop-place.invariant.count, c.loop-place-test.true, c.requires.few)

pub returns-clause-stands : goal.returns-clause-stands
returns-clause-stands c mode before samples s =
    let place : ℕ = c.loop-place.place in
    let octets : List ℕ = c.args.octets.now in
    let recorded : List ℕ = c.args.recorded.now in
    subst (λ (xs : List ℕ). MarginStands mode c.loop-place.margin (before ++ xs) (samples ++ samples_in recorded))
    (take_all place octets c.loop-place-test.false)
    (subst (λ (xs : List ℕ). MarginStands mode c.loop-place.margin (before ++ take place octets) (samples ++ samples_in xs))
    (take_all (4 * (2 * place)) recorded (omega (arith, c.requires.fits, c.loop-place-test.false)))
    (c.loop-place.invariant.stands mode before samples s))

pub returns-clause-count : goal.returns-clause-count
returns-clause-count c = omega (arith, c.loop-place.invariant.count, c.loop-place-test.false, c.loop-place.auto.place-end)
