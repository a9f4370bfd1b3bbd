use Rattle.sample_line.proofs.Names.{List, ℕ, false, inl, inr, [], ◌++◌, Some, None, Err, refl, sym, ap, subst, append-nil, option_to_list}
use Rattle.sample_line.proofs.Names.{Tallies}
use Rattle.lapm_frames.specs.declared.fault.CheckedFault.TheVariants.{BadCheck, Refused}
use Rattle.sample_line.proofs.Tallying.{another-sent, octets-more, refused-sent, spells-sent}
use Rattle.sample_line.proofs.receiver.with_whole.Goals as goal

pub returns-in-Ok : goal.returns-in-Ok
returns-in-Ok c = λ octets patterns h.
    let slot = c.args.slot in
    let own = c.in-Ok.ensures.ok in
    record {
      front = Some own.octets;
      passes = inr (own.octets, [], own.passes, refl, refl);
      tallies = subst (Tallies slot.framing.sender slot.framing.dlci slot.sent.now (octets ++ option_to_list (Some own.octets)) patterns)
          (sym c.after_octets.ensures)
          (octets-more slot.framing.sender slot.framing.dlci slot.sent.now octets patterns own.octets c.carries_frame.result c.args.tally
          (λ e. spells-sent slot.framing.sender slot.framing.dlci slot.sent.now c.in-Ok.frame own.octets own.spelling
          (c.carries_frame.ensures.yes e))
          (λ e. another-sent slot.framing.sender slot.framing.dlci slot.sent.now c.in-Ok.frame own.octets own.spelling
          (c.carries_frame.ensures.no e)) h);
    }

pub returns-in-Err-Refused : goal.returns-in-Err-Refused
returns-in-Err-Refused c = λ octets patterns h.
    let slot = c.args.slot in
    let fault = (c.in-Err-Refused.ensures.fault (Refused c.in-Err-Refused.field-0-0)).0 (ap Err c.in-Err-Refused.field-0-is) in
    record {
      front = Some fault.octets;
      passes = inr (fault.octets, [], fault.passes, refl, refl);
      tallies = subst (Tallies slot.framing.sender slot.framing.dlci slot.sent.now (octets ++ option_to_list (Some fault.octets)) patterns)
          (sym c.after_octets-in-Err-Refused.ensures)
          (octets-more slot.framing.sender slot.framing.dlci slot.sent.now octets patterns fault.octets false c.args.tally (λ e. absurd cc)
          (λ e. refused-sent slot.framing.sender slot.framing.dlci slot.sent.now c.in-Err-Refused.field-0-0 fault.octets fault.is_first) h);
    }

pub returns-in-Err-BadCheck : goal.returns-in-Err-BadCheck
returns-in-Err-BadCheck c = λ octets patterns h.
    record {
      front = None;
      passes = inl ((c.in-Err-BadCheck.ensures.fault BadCheck).0 (ap Err c.in-Err-BadCheck.field-0-is), refl);
      tallies = subst (λ (xs : List (List ℕ)). Tallies c.args.slot.framing.sender c.args.slot.framing.dlci c.args.slot.sent.now xs patterns
          c.args.tally)
          (sym (append-nil octets)) h;
    }
