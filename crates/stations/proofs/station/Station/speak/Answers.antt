use Rattle.stations.proofs.Names.{IfOk, subst, sym, ◌∙◌, IsSendable, StandsFor, TakesNothing}
use Rattle.stations.proofs.Standing.{kept-spoken, kept-idle, kept-counts, kept-sendable, kept-fault, spoken-gives-up}
use Rattle.stations.proofs.station.Station.speak.Goals as goal

pub returns : goal.returns
returns c = record {
  speaks = λ file a h. kept-spoken c.segments_are_offered_as_they_are_read.ensures.spoken c.args.turn c.args.release file a
      c.args.sent.now c.speak-became.new.sent c.args.self.now c.keep_end.new.self c.speak-became.result c.keep_end.result h
      (c.keep_end.ensures.breaks ∙ c.take_end.ensures.breaks) c.keep_end.ensures.kept
      (c.speak-became.ensures.speaks a (subst (λ e. StandsFor e a) (sym c.take_end.ensures.end) h.end));
  sendable =
      kept-sendable (IsSendable c.speak-became.new.sent) c.keep_end.new.self c.speak-became.result c.keep_end.result c.keep_end.ensures.kept
      c.speak-became.ensures.sendable;
  idle =
      kept-idle c.args.self.now c.keep_end.new.self c.speak-became.result c.keep_end.result c.keep_end.ensures.kept
      (subst (λ before. IfOk c.speak-became.result (TakesNothing before)) c.take_end.ensures.end c.speak-became.ensures.takes_nothing);
  counted =
      kept-counts c.args.self.now c.keep_end.new.self c.speak-became.result c.keep_end.result
      (c.keep_end.ensures.breaks ∙ c.take_end.ensures.breaks) c.keep_end.ensures.kept
      (subst (λ before. IfOk c.speak-became.result (TakesNothing before)) c.take_end.ensures.end c.speak-became.ensures.takes_nothing);
  over =
      spoken-gives-up c.args.turn c.args.release c.args.sent.now c.speak-became.new.sent c.args.self.now c.keep_end.new.self
      c.speak-became.result c.keep_end.result (c.keep_end.ensures.breaks ∙ c.take_end.ensures.breaks) c.keep_end.ensures.kept
      (λ a h. c.speak-became.ensures.speaks a (subst (λ e. StandsFor e a) (sym c.take_end.ensures.end) h));
  unchanged =
      kept-fault _ c.keep_end.new.self c.speak-became.result c.keep_end.result c.keep_end.ensures.kept c.speak-became.ensures.unchanged;
}
