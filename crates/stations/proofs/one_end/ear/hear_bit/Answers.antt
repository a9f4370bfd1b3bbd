use Rattle.stations.proofs.Names.{[], ◌∷◌, ◌++◌, subst, Arrived, IsHeard}
use Rattle.lapm_frames.specs.declared.arrived.Arrived.TheVariants as arrivals
use Rattle.stations.proofs.OneEnd.Hearing.{first-now, frame-ends, heard-before, heard-still, nothing-ends}
use Rattle.stations.proofs.one_end.ear.hear_bit.Goals as goal

pub returns-in-Some : goal.returns-in-Some
returns-in-Some c = record {
  stands = λ bits h. record { deframer = c.push.ensures.stands bits h.deframer; reader = c.push-pattern.ensures.stands bits h.reader };
  heard = λ earlier bits h e.
      first-now c.args.peer earlier bits c.args.bit (arrivals.Pattern c.in-Some.seen)
      (subst (λ (a : Arrived). IsHeard c.args.peer earlier bits a) c.in-Nothing.is e)
      (c.in-Some.ensures.answer (earlier ++ bits) h.reader);
  numbers = tt;
}

pub returns-in-Some-frame_in : goal.returns-in-Some-frame_in
returns-in-Some-frame_in c = record {
  stands = λ bits h. record { deframer = c.push.ensures.stands bits h.deframer; reader = c.push-pattern.ensures.stands bits h.reader };
  heard = λ earlier bits h e.
      first-now c.args.peer earlier bits c.args.bit (arrivals.Frame c.in-Some-frame_in.frame)
      (subst (λ (a : Arrived). IsHeard c.args.peer earlier bits a) c.in-Nothing.is e)
      (frame-ends c.args.peer ((earlier ++ bits) ++ c.args.bit ∷ []) c.whole.result.now c.in-Some-frame_in.frame
      (c.whole.ensures.lent _ (c.push.ensures.stands (earlier ++ bits) h.deframer)) c.in-Some-frame_in.ensures.some);
  numbers = c.in-Some-frame_in.ensures.numbers;
}

pub returns-in_default-frame_in : goal.returns-in_default-frame_in
returns-in_default-frame_in c = record {
  stands = λ bits h. record { deframer = c.push.ensures.stands bits h.deframer; reader = c.push-pattern.ensures.stands bits h.reader };
  heard = λ earlier bits h e.
      heard-still c.args.peer earlier bits c.args.bit c.args.heard.now e
      (nothing-ends c.args.peer ((earlier ++ bits) ++ c.args.bit ∷ []) c.whole.result.now c.one_lent.ensures.no_other
      (c.in_default-pattern.ensures.answer (earlier ++ bits) h.reader)
      (c.whole.ensures.lent _ (c.push.ensures.stands (earlier ++ bits) h.deframer)) c.in_default-frame_in.ensures.none);
  numbers = c.requires;
}

pub returns-in_default : goal.returns-in_default
returns-in_default c = record {
  stands = λ bits h. record { deframer = c.push.ensures.stands bits h.deframer; reader = c.push-pattern.ensures.stands bits h.reader };
  heard = λ earlier bits h e. heard-before c.args.peer earlier bits c.args.bit c.args.heard.now c.in_default.not-Nothing e;
  numbers = c.requires;
}
