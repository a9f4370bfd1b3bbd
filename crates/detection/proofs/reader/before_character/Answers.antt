use Rattle.detection.proofs.Names.{◌≡◌, ◌-◌, ◌/◌, ◌%◌, ◌^◌, inl, inr, arith, sym, ◌∙◌, ap, trailing_ones, w128}
use Rattle.std.proofs.lemmas.Nat.{and_mask}
use Rattle.detection.proofs.Registers.{gap-read, character-read, read-leaves}
use Rattle.detection.proofs.reader.before_character.Goals as goal

pub returns-then-gap-lt-SHORTEST : goal.returns-then-gap-lt-SHORTEST
returns-then-gap-lt-SHORTEST c = λ width recent wide h rest e.
    let read = gap-read width c.args.latest c.args.character c.args.most recent c.requires.start c.requires.few wide
    (omega (arith, c.ranges.latest.fits)) h rest e in
    let gap : c.saturating_sub-gap.result ≡ e.gap =
    omega (arith, c.saturating_sub-gap.ensures, c.trailing_ones.ensures, c.trailing_ones-2.ensures, read) in
    elim c.then-gap-lt-SHORTEST.either [
      | inl few ↦ absurd (omega (arith, few, gap, e.low))
      | inr many ↦ absurd (omega (arith, many.1, gap, e.high))
    ]

pub returns-then-rest-character : goal.returns-then-rest-character
returns-then-rest-character c = λ width recent wide h.
    let gap = c.saturating_sub-gap.result in
    let gap_is : gap ≡ trailing_ones w128 c.args.latest - trailing_ones w128 c.args.character =
    omega (arith, c.saturating_sub-gap.ensures, c.trailing_ones.ensures, c.trailing_ones-2.ensures) in
    let same : c.args.latest / 2 ^ gap % 512 ≡ c.args.character = sym (and_mask (c.args.latest / 2 ^ gap) 9) ∙ c.if-rest-character.true in
    read-leaves width c.args.latest c.args.character c.args.most recent c.requires.start c.requires.few wide
    (omega (arith, c.ranges.latest.fits)) h gap gap_is c.if-gap-lt-SHORTEST.false c.if-gap-most.false same

pub returns-else-rest-character : goal.returns-else-rest-character
returns-else-rest-character c = λ width recent wide h rest e.
    let gap = c.saturating_sub-gap.result in
    let read = gap-read width c.args.latest c.args.character c.args.most recent c.requires.start c.requires.few wide
    (omega (arith, c.ranges.latest.fits)) h rest e in
    let is : gap ≡ e.gap = omega (arith, c.saturating_sub-gap.ensures, c.trailing_ones.ensures, c.trailing_ones-2.ensures, read) in
    let same = character-read width c.args.latest c.args.character c.args.most recent c.requires.start c.requires.few wide
    (omega (arith, c.ranges.latest.fits)) h rest e in
    c.if-rest-character.false (and_mask (c.args.latest / 2 ^ gap) 9 ∙ ap (λ g. c.args.latest / 2 ^ g % 512) is ∙ same)
