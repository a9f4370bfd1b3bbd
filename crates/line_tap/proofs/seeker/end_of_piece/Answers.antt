use Rattle.line_tap.proofs.Cited.{◌≡◌, ◌∙◌, ◌+◌, ◌-◌, ◌*◌, ◌<◌, ◌≤◌, ℕ, Bool, List, [], length, drop, sym, ap, subst, arith, take_all}
use Rattle.line_tap.proofs.Cited.{pieces-none, length-line_bits, line_bits, DeframerStands, pieces_of, wholes, part}
use Rattle.line_tap.proofs.Seeking.{part-none, none-more}
use Rattle.line_tap.proofs.seeker.end_of_piece.Goals as goal

pub loop-place-init : goal.loop-place-init
loop-place-init c =
    let none : part (line_bits c.args.slot.now) c.args.from c.args.from ≡ [] = part-none (line_bits c.args.slot.now) c.args.from in
    record {
      low = omega arith;
      within = c.requires.within;
      stands = subst (λ (xs : List Bool). DeframerStands c.args.deframer.now xs) (sym none) c.requires.begins;
      none = ap (λ xs. wholes (pieces_of xs)) none ∙ ap wholes pieces-none;
    }

pub returns-then-ends_piece-clause-some : goal.returns-then-ends_piece-clause-some
returns-then-ends_piece-clause-some c =
    let bits : List Bool = line_bits c.args.slot.now in
    let from : ℕ = c.args.from in
    let place : ℕ = c.loop-place.place in
    let low : from ≤ place = c.loop-place.invariant.low in
    let within : place < 4 * length c.args.slot.now = omega (arith, c.loop-place-test.true, c.len.ensures.count) in
    let stays = c.passes_quad.ensures.stays c.if-passes_quad.false ∙ c.passes_octet.ensures.stays c.if-passes_octet.false in
    let stands = subst (λ d. DeframerStands d (part bits from place)) (sym stays) c.loop-place.invariant.stands in
    let back : place + 1 - 1 ≡ place = omega arith in
    record {
      later = omega (arith, low);
      within = omega (arith, within, length-line_bits c.args.slot.now);
      stands = c.ends_piece.ensures.stands from low stands;
      whole = c.ends_piece.ensures.yes c.if-ends_piece.true from low stands;
      first = ap (λ n. wholes (pieces_of (part bits from n))) back ∙ c.loop-place.invariant.none;
    }

pub loop-place-preserved : goal.loop-place-preserved
loop-place-preserved c =
    let bits : List Bool = line_bits c.args.slot.now in
    let from : ℕ = c.args.from in
    let place : ℕ = c.loop-place.place in
    let low : from ≤ place = c.loop-place.invariant.low in
    let within : place < 4 * length c.args.slot.now = omega (arith, c.loop-place-test.true, c.len.ensures.count) in
    let stays = c.passes_quad.ensures.stays c.if-passes_quad.false ∙ c.passes_octet.ensures.stays c.if-passes_octet.false in
    let stands = subst (λ d. DeframerStands d (part bits from place)) (sym stays) c.loop-place.invariant.stands in
    record {
      low = omega (arith, low);
      within = omega (arith, within);
      stands = c.ends_piece.ensures.stands from low stands;
      none = none-more bits from place low (omega (arith, within, length-line_bits c.args.slot.now))
          (c.ends_piece.ensures.no c.if-ends_piece.false from low stands) c.loop-place.invariant.none;
    }

pub returns-clause-none : goal.returns-clause-none
returns-clause-none c =
    let bits : List Bool = line_bits c.args.slot.now in
    let past : length bits ≤ c.loop-place.place =
    omega (arith, length-line_bits c.args.slot.now, c.loop-place-test.false, c.len.ensures.count) in
    ap (λ xs. wholes (pieces_of (drop c.args.from xs))) (sym (take_all c.loop-place.place bits past)) ∙ c.loop-place.invariant.none
