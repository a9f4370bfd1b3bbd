use Rattle.lapm_frames.proofs.Names.{◌∙◌, ◌∷◌, ◌<◌, ◌≤◌, if◌then◌else◌, is_some, length, refl, sym, ap, subst, err_from_is_err_and, INFO}
use Rattle.lapm_frames.proofs.Names.{address_of, FrameSpelling, Frame}
use Rattle.lapm_frames.proofs.KindOctets.{none-unnumbered, unnumbered-by, differ, alike, some-map}
use Rattle.lapm_frames.proofs.Faults.{unnumbered-control, unnumbered-long}
use Rattle.lapm_frames.proofs.unnumbered.read.Goals as goal

pub returns-in_default-clause-err : goal.returns-in_default-clause-err
returns-in_default-clause-err c =
    unnumbered-control c.args.command c.args.control c.args.tail.now c.mark-octet.result.0 c.mark-octet.result.1 c.requires
    c.mark-octet.ensures.unmarked c.mark-octet.ensures.marked
    (none-unnumbered c.mark-octet.result.0 c.args.command (sym c.with_control.ensures ∙ c.in_default.is))

pub returns-then-parts-command-clause-err : goal.returns-then-parts-command-clause-err
returns-then-parts-command-clause-err c =
    let by = unnumbered-by c.in-Some.kind c.mark-octet.result.0 c.args.control c.args.command c.mark-octet.result.1 c.args.tail.now
    (sym c.with_control.ensures ∙ c.in-Some.is) c.mark-octet.ensures.marked c.requires in
    unnumbered-control c.args.command c.args.control c.args.tail.now c.mark-octet.result.0 c.mark-octet.result.1 c.requires
    c.mark-octet.ensures.unmarked c.mark-octet.ensures.marked
    (by.refused (λ s. differ c.parts-parts.result.command c.args.command c.if-parts-command.true
    (ap (λ parts. parts.command) c.parts-parts.ensures.parts ∙ s)))

pub returns-in_err-fits-clause-err : goal.returns-in_err-fits-clause-err
returns-in_err-fits-clause-err c =
    let p = err_from_is_err_and c.from_residual.result c.from_residual.ensures.1 in
    let by = unnumbered-by c.in-Some.kind c.mark-octet.result.0 c.args.control c.args.command c.mark-octet.result.1 c.args.tail.now
    (sym c.with_control.ensures ∙ c.in-Some.is) c.mark-octet.ensures.marked c.requires in
    let direction = sym (ap (λ parts. parts.command) c.parts-parts.ensures.parts)
    ∙ alike c.parts-parts.result.command c.args.command c.if-parts-command.false in
    let limit = c.longest.ensures ∙ ap (λ b. if b then INFO else 0) (c.is_some.ensures
    ∙ some-map (λ info. info.now) c.parts-parts.result.info
    ∙ ap (λ parts. is_some parts.info) c.parts-parts.ensures.parts) ∙ by.longest in
    rw (p.1, p.2) (unnumbered-long c.args.command c.args.control c.args.tail.now c.mark-octet.result.0 c.mark-octet.result.0
    c.mark-octet.result.1
    _ c.in_err-fits.field-0.0 refl (by.has direction) c.requires c.mark-octet.ensures.unmarked c.mark-octet.ensures.marked
    (c.in_err-fits.ensures.err.0, subst (λ n. n < length c.args.tail.now) limit c.in_err-fits.ensures.err.1))

pub returns-clause-ok : goal.returns-clause-ok
returns-clause-ok c = λ sender dlci.
    let by = unnumbered-by c.in-Some.kind c.mark-octet.result.0 c.args.control c.args.command c.mark-octet.result.1 c.args.tail.now
    (sym c.with_control.ensures ∙ c.in-Some.is) c.mark-octet.ensures.marked c.requires in
    let direction = sym (ap (λ parts. parts.command) c.parts-parts.ensures.parts)
    ∙ alike c.parts-parts.result.command c.args.command c.if-parts-command.false in
    let limit = c.longest.ensures ∙ ap (λ b. if b then INFO else 0) (c.is_some.ensures
    ∙ some-map (λ info. info.now) c.parts-parts.result.info
    ∙ ap (λ parts. is_some parts.info) c.parts-parts.ensures.parts) ∙ by.longest in
    let few = subst (λ n. length c.args.tail.now ≤ n) limit c.in_ok-fits.ensures.ok in
    subst (λ (frame : Frame). FrameSpelling frame sender dlci (address_of c.args.command sender dlci ∷ c.args.control ∷ c.args.tail.now))
    (sym c.of.ensures) (
      by.is_frame few,
      ap (λ n. address_of c.args.command sender dlci ∷ n ∷ c.args.tail.now) (sym c.mark-octet.ensures.marked)
          ∙ by.spells direction few sender dlci,
    )
