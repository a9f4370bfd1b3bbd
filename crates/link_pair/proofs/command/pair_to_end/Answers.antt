use Rattle.link_pair.proofs.Names.{sym, subst, ◌∙◌, IsBegun, Names, named, inputs_of, OnlyOutputs-trans, LIMITS}
use Rattle.outside_calls.proofs.OnlyOutputs.{OnlyOutputs-reads}
use Rattle.command_base.proofs.Jobs.{end-earlier}
use Rattle.link_pair.specs.Words.{outputs_of}
use Rattle.link_pair.proofs.Running.{ends-refused}
use Rattle.link_pair.proofs.command.pair_to_end.Goals as goal

pub returns-in-Err-new-clause-counts : goal.returns-in-Err-new-clause-counts
returns-in-Err-new-clause-counts g c = let counts = c.in-Ok.ensures.counts (outputs_of (named c.args.words.now)) in counts.faults

pub returns-in-Err : goal.returns-in-Err
returns-in-Err g c = record {
  ends =
      ends-refused LIMITS (g.F.Folder.state c.args.folder.now) (g.F.Folder.state c.open_inputs.new.folder)
      (named c.args.words.now) c.in-Err.stop
      c.in-Err.ensures.reads c.in-Err.ensures.refused;
  only = OnlyOutputs-reads (outputs_of (named c.args.words.now)) c.in-Err.ensures.reads;
  said = c.in-Err.ensures.reads.said;
  counts = c.in-Err.ensures.counts (outputs_of (named c.args.words.now));
}

pub returns-in-Err-new-clause-only : goal.returns-in-Err-new-clause-only
returns-in-Err-new-clause-only g c = OnlyOutputs-reads (outputs_of (named c.args.words.now)) c.in-Ok.ensures.reads

pub returns-in-Err-new-clause-said : goal.returns-in-Err-new-clause-said
returns-in-Err-new-clause-said g c = c.in-Ok.ensures.reads.said

pub returns : goal.returns
returns g c =
    let n : Names = named c.args.words.now in
    record {
      ends =
          c.run_pair.ensures.ends _
          (subst (IsBegun LIMITS _ _ (named c.args.words.now)) (sym c.in-Ok-new.ensures.script)
          (record {
            opens = c.in-Ok.ensures.opened;
            limits = c.is_in_limits.ensures;
            reads = c.in-Ok.ensures.reads;
            stand = c.in-Ok.ensures.counts (outputs_of (named c.args.words.now));
          }));
      only = OnlyOutputs-trans (outputs_of n) (OnlyOutputs-reads (outputs_of n) c.in-Ok.ensures.reads) c.run_pair.ensures.only;
      said = c.run_pair.ensures.said ∙ c.in-Ok.ensures.reads.said;
      counts =
          end-earlier _ _ _ (inputs_of n) (outputs_of n) c.run_pair.result (c.in-Ok.ensures.counts
          (outputs_of n)) c.run_pair.ensures.counts;
    }
