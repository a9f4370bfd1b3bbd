use Rattle.line_world.proofs.link.Link.given_breaks.Goals as goal

pub returns : goal.returns
returns c = record {
  answer = λ files ends h.
      (c.given_break-orig.ensures.answer files.orig ends.orig h.orig, c.given_break-answ.ensures.answer files.answ ends.answ h.answ);
  stands =
      λ files ends h. record {
        orig = c.given_break-orig.ensures.stands files.orig ends.orig h.orig;
        answ = c.given_break-answ.ensures.stands files.answ ends.answ h.answ;
      };
  idle =
      assumption (c.given_break-orig.ensures.idle c.requires.orig, c.given_break-answ.ensures.idle c.requires.answ);
  counted =
      λ heard asked h. record {
        orig = c.given_break-orig.ensures.counted heard asked h.orig;
        answ = c.given_break-answ.ensures.counted heard asked h.answ;
      };
}
