use Rattle.trace_audit.proofs.Cited.{[], rules, stop-earlier, OnlyReads-trans, CountsStand-trans, AuditNames, named, inputs_of}
use Rattle.trace_audit.proofs.Opening.{refused-first, refused-trace, counts-first, counts-trace}
use Rattle.trace_audit.proofs.command.open_all.Goals as goal
use Rattle.command_base.proofs.Reading.{within-earlier}

pub returns-in-Err-clause-ends : goal.returns-in-Err-clause-ends
returns-in-Err-clause-ends g c =
    refused-first (g.F.Folder.state c.args.folder.now) (g.F.Folder.state c.open_inputs.new.folder) (named c.args.words.now) c.in-Err.stop
    c.in-Err.ensures.refused

pub returns-in-Err-clause-counts : goal.returns-in-Err-clause-counts
returns-in-Err-clause-counts g c =
    counts-first (g.F.Folder.state c.args.folder.now) (g.F.Folder.state c.open_inputs.new.folder) (named c.args.words.now) c.in-Err.stop
    (c.in-Err.ensures.counts [])

pub returns-in-Ok-within_limit-clause-begun : goal.returns-in-Ok-within_limit-clause-begun
returns-in-Ok-within_limit-clause-begun g c =
    record {
      are_open = record { opens = c.in-Ok.ensures.opened; limits = c.is_in_limits.ensures };
      trace = within-earlier _ _ c.args.words.now.trace.now 16777216 c.in-Ok.ensures.reads c.in-Ok-within_limit.ensures.within;
      reads = OnlyReads-trans c.in-Ok.ensures.reads c.in-Ok-within_limit.ensures.reads;
      stand = CountsStand-trans (c.in-Ok.ensures.counts []) c.in-Ok-within_limit.ensures.stand;
    }

pub returns-in-Ok-within_limit-clause-counts : goal.returns-in-Ok-within_limit-clause-counts
returns-in-Ok-within_limit-clause-counts g c = CountsStand-trans (c.in-Ok.ensures.counts []) c.in-Ok-within_limit.ensures.stand

pub returns-in-Ok-within_limit-clause-reads : goal.returns-in-Ok-within_limit-clause-reads
returns-in-Ok-within_limit-clause-reads g c = OnlyReads-trans c.in-Ok.ensures.reads c.in-Ok-within_limit.ensures.reads

pub returns-in-Err-within_limit : goal.returns-in-Err-within_limit
returns-in-Err-within_limit g c =
    record {
      begun = search rules;
      spelled = search rules;
      ends =
          refused-trace _ _ _ (named c.args.words.now) c.in-Ok.script c.in-Err-within_limit.stop
          (record { opens = c.in-Ok.ensures.opened; limits = c.is_in_limits.ensures }) c.in-Ok.ensures.reads (c.in-Ok.ensures.counts [])
          c.in-Err-within_limit.ensures.refused;
      reads = OnlyReads-trans c.in-Ok.ensures.reads c.in-Err-within_limit.ensures.reads;
      counts =
          let n : AuditNames = named c.args.words.now in
          stop-earlier _ _ _ (inputs_of n) [] c.in-Err-within_limit.stop (c.in-Ok.ensures.counts [])
          (counts-trace _ _ n c.in-Err-within_limit.stop c.in-Err-within_limit.ensures.refused);
    }
