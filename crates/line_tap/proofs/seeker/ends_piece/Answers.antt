use Rattle.line_tap.proofs.Cited.{◌∙◌, Bool, List, ap, sym, subst, DeframerStands}
use Rattle.bit_stuffing.specs.Found.{answer_of}
use Rattle.line_tap.proofs.Seeking.{slot-bit-more}
use Rattle.line_tap.proofs.seeker.ends_piece.Goals as goal

pub returns : goal.returns
returns c = record {
  stands = λ from low h. subst (λ (xs : List Bool). DeframerStands c.push.new.self xs)
      (slot-bit-more c.args.slot.now from c.args.place c.bit_in.result low c.requires c.bit_in.ensures) (c.push.ensures.stands _ h);
  yes = λ yes from low h.
      ap answer_of (sym (slot-bit-more c.args.slot.now from c.args.place c.bit_in.result low c.requires c.bit_in.ensures))
      ∙ sym (c.push.ensures.value _ h) ∙ c.is_whole.ensures.yes yes;
  no = λ no from low h e. c.is_whole.ensures.no no (c.push.ensures.value _ h
      ∙ ap answer_of (slot-bit-more c.args.slot.now from c.args.place c.bit_in.result low c.requires c.bit_in.ensures) ∙ e);
}
