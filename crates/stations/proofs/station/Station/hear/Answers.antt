use Rattle.stations.proofs.Names.{◌+◌, ◌≤◌, IfOk, subst, sym, ◌∙◌, StandsFor, taken_of}
use Rattle.stations.proofs.Standing.{kept-heard, kept-counted, heard-gives-up}
use Rattle.stations.proofs.station.Station.hear.Goals as goal

pub returns : goal.returns
returns g c = record {
  hears = λ file a h.
      kept-heard c.segments_are_offered_as_they_are_read.ensures.heard c.args.turn (g.A.Arrives.arrival c.args.arrived.now) file a
      c.args.self.now c.keep_end.new.self c.hear-became.result c.keep_end.result h
      (c.keep_end.ensures.breaks ∙ c.take_end.ensures.breaks) c.keep_end.ensures.kept
      (c.hear-became.ensures.hears a (subst (λ e. StandsFor e a) (sym c.take_end.ensures.end) h.end));
  counted =
      kept-counted c.args.self.now c.keep_end.new.self c.args.turn c.hear-became.result c.keep_end.result
      (c.keep_end.ensures.breaks ∙ c.take_end.ensures.breaks) c.keep_end.ensures.kept
      (subst (λ before. IfOk c.hear-became.result (λ end. taken_of end ≤ taken_of before + 128)) c.take_end.ensures.end
      c.hear-became.ensures.counted) c.requires.counted;
  over =
      heard-gives-up c.args.turn (g.A.Arrives.arrival c.args.arrived.now) c.args.self.now c.keep_end.new.self c.hear-became.result
      c.keep_end.result (c.keep_end.ensures.breaks ∙ c.take_end.ensures.breaks) c.keep_end.ensures.kept
      (λ a h. c.hear-became.ensures.hears a (subst (λ e. StandsFor e a) (sym c.take_end.ensures.end) h));
}
