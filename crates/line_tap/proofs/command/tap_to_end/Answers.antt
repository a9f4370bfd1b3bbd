use Rattle.line_tap.proofs.Cited.{[], sym, subst, ◌∙◌, end-earlier, TapNames, named, inputs_of, outputs_of, IsBegun, TapAfter, tapping}
use Rattle.line_tap.proofs.Cited.{no_octets, ScriptValue, OnlyOutputs-trans}
use Rattle.outside_calls.proofs.OnlyOutputs.{OnlyOutputs-reads}
use Rattle.line_tap.specs.declared.limits.TheConstants.{LIMITS}
use Rattle.line_tap.proofs.Taps.{ends-refused, end-widened}
use Rattle.line_tap.proofs.command.tap_to_end.Goals as goal

pub returns-in-Err : goal.returns-in-Err
returns-in-Err g c = record {
  ends =
      ends-refused LIMITS (g.F.Folder.state c.args.folder.now) (g.F.Folder.state c.open.new.folder) (named c.args.words.now) c.in-Err.stop
      c.in-Err.ensures.reads c.in-Err.ensures.refused;
  only = OnlyOutputs-reads (outputs_of (named c.args.words.now)) c.in-Err.ensures.reads;
  said = c.in-Err.ensures.reads.said;
  counts = c.in-Err.ensures.counts (outputs_of (named c.args.words.now));
}

pub returns-in-Err-new : goal.returns-in-Err-new
returns-in-Err-new g c = record {
  ends = (c.in-Ok.ensures.opened.reads.names, c.in-Ok.ensures.opened.opens.reads.within);
  only = OnlyOutputs-reads (outputs_of (named c.args.words.now)) c.in-Ok.ensures.reads;
  said = c.in-Ok.ensures.reads.said;
  counts = let counts = c.in-Ok.ensures.counts (outputs_of (named c.args.words.now)) in counts.faults;
}

pub run_tap-requires : goal.run_tap-requires
run_tap-requires g c = record {
  ready = c.in-Ok-new.ensures.ready;
  first =
      subst (λ (s : ScriptValue). TapAfter c.in-Ok-new.tap (tapping s no_octets) []) (sym c.in-Ok-new.ensures.script)
      c.in-Ok-new.ensures.first;
  apart = c.requires;
}

pub returns : goal.returns
returns g c =
    let n : TapNames = named c.args.words.now in
    record {
      ends =
          c.run_tap.ensures.ends _
          (subst (IsBegun LIMITS _ _ (named c.args.words.now)) (sym c.in-Ok-new.ensures.script) c.in-Ok.ensures.opened);
      only = OnlyOutputs-trans (outputs_of n) (OnlyOutputs-reads (outputs_of n) c.in-Ok.ensures.reads) c.run_tap.ensures.only;
      said = c.run_tap.ensures.said ∙ c.in-Ok.ensures.reads.said;
      counts =
          end-earlier _ _ _ (inputs_of n) (outputs_of n) c.run_tap.result (c.in-Ok.ensures.counts (outputs_of n))
          (end-widened _ _ n c.run_tap.result c.run_tap.ensures.counts);
    }
