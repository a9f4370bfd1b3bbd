use Rattle.line_tap.proofs.Cited.{inl, ℕ, Ok, Err, ◌∙◌, stop-earlier, end-earlier, TapNames, named, inputs_of, outputs_of, recordings_of}
use Rattle.line_tap.proofs.Cited.{OnlyOutputs-trans, CountsStand-trans, AreApartFrom}
use Rattle.outside_calls.proofs.Putting.{OnlyOutputs-puts}
use Rattle.line_tap.specs.declared.limits.TheConstants.{LIMITS}
use Rattle.line_tap.proofs.Taps.{headers-later, ends-creating, ends-turns}
use Rattle.line_tap.proofs.command.run_tap.Goals as goal

pub create_all-requires : goal.create_all-requires
create_all-requires g c = c.requires.apart

pub tap_turns-requires : goal.tap_turns-requires
tap_turns-requires g c = record {
  ready = c.requires.ready;
  first = c.requires.first;
  apart =
      let n : TapNames = named c.args.words.now in (
        c.apart_names_differ.ensures.outputs (inputs_of n) (outputs_of n) c.requires.apart,
        c.apart_names_differ.ensures.inputs (inputs_of n) (outputs_of n) c.requires.apart,
      );
  created = c.in-Ok.ensures.ok;
}

pub returns-in-Err : goal.returns-in-Err
returns-in-Err g c = record {
  ends = λ begin b. inl (ends-creating LIMITS begin (g.F.Folder.state c.args.folder.now) (g.F.Folder.state c.create_all.new.folder)
      (named c.args.words.now) c.args.tap.now.script b c.in-Err.ensures.err);
  only = c.in-Err.ensures.only;
  said = c.in-Err.ensures.said;
  counts = c.in-Err.ensures.fails;
}

pub returns-in-Ok-tap_turns : goal.returns-in-Ok-tap_turns
returns-in-Ok-tap_turns g c = record {
  ends = λ begin b.
      let n : TapNames = named c.args.words.now in
      let apart : AreApartFrom (inputs_of n) (outputs_of n) = (
        c.apart_names_differ.ensures.outputs (inputs_of n) (outputs_of n) c.requires.apart,
        c.apart_names_differ.ensures.inputs (inputs_of n) (outputs_of n) c.requires.apart,
      ) in
      ends-turns LIMITS begin _ _ n c.args.tap.now.script (Ok c.in-Ok-tap_turns.turns) b c.requires.ready.limits
      (c.in-Ok-tap_turns.ensures.ends begin (headers-later begin _ _ n apart c.in-Ok.ensures.only b.headers))
      (end-earlier {D = ℕ} begin _ _ (recordings_of n) (outputs_of n) (Ok c.in-Ok-tap_turns.turns)
      (CountsStand-trans b.stand c.in-Ok.ensures.stand) c.in-Ok-tap_turns.ensures.counts);
  only =
      OnlyOutputs-trans (outputs_of (named c.args.words.now)) c.in-Ok.ensures.only
      (OnlyOutputs-puts (outputs_of (named c.args.words.now)) c.in-Ok-tap_turns.ensures.only);
  said = c.in-Ok-tap_turns.ensures.only.said ∙ c.in-Ok.ensures.said;
  counts = CountsStand-trans c.in-Ok.ensures.stand c.in-Ok-tap_turns.ensures.counts;
}

pub returns-in-Err-tap_turns : goal.returns-in-Err-tap_turns
returns-in-Err-tap_turns g c = record {
  ends = λ begin b.
      let n : TapNames = named c.args.words.now in
      let apart : AreApartFrom (inputs_of n) (outputs_of n) = (
        c.apart_names_differ.ensures.outputs (inputs_of n) (outputs_of n) c.requires.apart,
        c.apart_names_differ.ensures.inputs (inputs_of n) (outputs_of n) c.requires.apart,
      ) in
      ends-turns LIMITS begin _ _ n c.args.tap.now.script (Err c.in-Err-tap_turns.stop) b c.requires.ready.limits
      (c.in-Err-tap_turns.ensures.ends begin (headers-later begin _ _ n apart c.in-Ok.ensures.only b.headers))
      (end-earlier {D = ℕ} begin _ _ (recordings_of n) (outputs_of n) (Err c.in-Err-tap_turns.stop)
      (CountsStand-trans b.stand c.in-Ok.ensures.stand) c.in-Err-tap_turns.ensures.counts);
  only =
      OnlyOutputs-trans (outputs_of (named c.args.words.now)) c.in-Ok.ensures.only
      (OnlyOutputs-puts (outputs_of (named c.args.words.now)) c.in-Err-tap_turns.ensures.only);
  said = c.in-Err-tap_turns.ensures.only.said ∙ c.in-Ok.ensures.said;
  counts =
      stop-earlier (g.F.Folder.state c.args.folder.now) (g.F.Folder.state c.create_all.new.folder) (g.F.Folder.state c.tap_turns.new.folder)
      (recordings_of (named c.args.words.now)) (outputs_of (named c.args.words.now)) c.in-Err-tap_turns.stop c.in-Ok.ensures.stand
      c.in-Err-tap_turns.ensures.counts;
}
