use Rattle.signal_commands.proofs.Names.{[], end-earlier, OnlyReads-trans, inputs_of}
use Rattle.signal_commands.specs.Margins.Words.{named}
use Rattle.signal_commands.proofs.margin.command.measure.Goals as goal

pub returns-in-Ok : goal.returns-in-Ok
returns-in-Ok g c = record {
  ends =
      c.measure_to_end.ensures.ends (g.F.Folder.state c.args.folder.now)
      (record { begins = c.in-Ok.ensures.ok; reads = c.in-Ok.ensures.reads });
  reads = OnlyReads-trans c.in-Ok.ensures.reads c.measure_to_end.ensures.reads;
  counts =
      end-earlier (g.F.Folder.state c.args.folder.now) (g.F.Folder.state c.open_inputs.new.folder)
      (g.F.Folder.state c.measure_to_end.new.folder)
      (inputs_of (named c.args.names.now)) [] c.measure_to_end.result c.in-Ok.ensures.counts c.measure_to_end.ensures.counts;
}

pub returns-in-Err : goal.returns-in-Err
returns-in-Err g c = record {
  ends = c.in-Err.ensures.err;
  reads = c.in-Err.ensures.reads;
  counts = c.in-Err.ensures.counts;
}
