use Rattle.line_tap.proofs.Cited.{◌≡◌, ◌∙◌, ◌+◌, List, Bool, [], length, drop, None, sym, ap, subst, arith, rules, line_bits, bit_of}
use Rattle.line_tap.proofs.Cited.{pieces_of, wholes, rest_of_flag, EndsFirst, FindsSent}
use Rattle.line_tap.proofs.FoundSent.{FoundLaws, finds-none, finds-there, none-there, first-there, found-at}
use Rattle.line_tap.proofs.seeker.Seeker.frame_in.Goals as goal

pub returns-then-not-bit_in-clause-found : goal.returns-then-not-bit_in-clause-found
returns-then-not-bit_in-clause-found c = λ symbols long.
    let bits : List Bool = line_bits c.args.slot.now in
    let opens = c.rest_bits-opens in
    let place : length (rest_of_flag c.args.phase) + 32 ≡ opens.result + 24 + 8 = omega (arith, opens.ensures.value) in
    finds-none c.args.framing.check c.args.framing.sender c.args.framing.dlci symbols c.args.phase bits
    (ap (bit_of bits) place ∙ sym c.bit_in.ensures ∙ c.if-not-bit_in.true)

pub returns-in_err-end-clause-found : goal.returns-in_err-end-clause-found
returns-in_err-end-clause-found c = λ symbols long.
    let laws : FoundLaws = assumption in
    let bits : List Bool = line_bits c.args.slot.now in
    let opens = c.rest_bits-opens in
    let place : length (rest_of_flag c.args.phase) + 32 ≡ opens.result + 24 + 8 = omega (arith, opens.ensures.value) in
    let found : FindsSent c.args.framing.check c.args.framing.sender c.args.framing.dlci symbols c.args.phase bits None =
    finds-there c.args.framing.check c.args.framing.sender c.args.framing.dlci symbols c.args.phase bits None long c.requires.phase
    (ap (bit_of bits) place ∙ sym c.bit_in.ensures ∙ c.if-not-bit_in.false)
    (none-there laws c.args.framing.check c.args.framing.sender c.args.framing.dlci symbols c.args.phase bits None c.requires.channel
    (subst (λ n. wholes (pieces_of (drop (n + 24) bits)) ≡ []) c.rest_bits-opens.ensures.value c.in_err-end.ensures.none)) in
    subst (FindsSent c.args.framing.check c.args.framing.sender c.args.framing.dlci symbols c.args.phase bits) (sym c.from_residual.ensures)
    found

pub returns : goal.returns
returns c =
    let laws : FoundLaws = assumption in
    let bits : List Bool = line_bits c.args.slot.now in
    let first =
    subst (λ n. EndsFirst c.end_of_piece.new.deframer bits (n + 24) c.in_ok-end.end) c.rest_bits-opens.ensures.value
    c.in_ok-end.ensures.some in
    record {
      found = λ symbols long.
          let opens = c.rest_bits-opens in
          let place : length (rest_of_flag c.args.phase) + 32 ≡ opens.result + 24 + 8 = omega (arith, opens.ensures.value) in
          finds-there c.args.framing.check c.args.framing.sender c.args.framing.dlci symbols c.args.phase bits c.frame_of.result long
          c.requires.phase (ap (bit_of bits) place ∙ sym c.bit_in.ensures ∙ c.if-not-bit_in.false)
          (first-there laws c.args.framing.check c.args.framing.sender c.args.framing.dlci symbols c.args.phase bits
          c.end_of_piece.new.deframer
          c.in_ok-end.end c.whole.result.now c.frame_of.result c.requires.channel first (c.whole.ensures.value _ first.stands)
          c.frame_of.ensures.all);
      at =
          found-at laws c.args.framing.check c.args.framing.sender c.args.framing.dlci c.args.phase bits _ c.whole.result.now
          c.frame_of.result
          c.requires.channel first (c.whole.ensures.value _ first.stands) (c.whole.ensures.lent _ first.stands) c.frame_of.ensures.is;
      sendable = search rules;
    }
