use Rattle.run_commands.proofs.Names.{inl, end-earlier, OnlyPuts-trans, Names, named, inputs_of, outputs_of}
use Rattle.run_commands.proofs.Peering.Starting.{reached-first, ends-creating}
use Rattle.run_commands.proofs.peer.command.run_single.Goals as goal

pub create_outputs-requires : goal.create_outputs-requires
create_outputs-requires g c =
    let n : Names = named c.args.words.now in c.apart_names_differ.ensures.outputs (inputs_of n) (outputs_of n) c.requires.apart

pub returns-in-Err : goal.returns-in-Err
returns-in-Err g c = record {
  ends = λ begin b.
      inl (ends-creating begin (g.F.Folder.state c.args.folder.now) (g.F.Folder.state c.create_outputs.new.folder)
      (named c.args.words.now) b
      c.in-Err.ensures.err);
  only = record { goes_on = c.in-Err.ensures.only.goes_on; names = c.in-Err.ensures.only.names; said = c.in-Err.ensures.said };
  counts = c.in-Err.ensures.fails;
}

pub returns : goal.returns
returns g c =
    let n : Names = named c.args.words.now in
    record {
      ends = λ begin b.
          c.run_turns.ensures.ends begin
          (reached-first begin (g.F.Folder.state c.args.folder.now)
          (g.F.Folder.state c.create_outputs.new.folder) n c.args.single.now b c.in-Ok.ensures.only c.in-Ok.ensures.stand c.in-Ok.ensures.ok
          (c.apart_names_differ.ensures.inputs (inputs_of n) (outputs_of n) c.requires.apart)
          c.requires.role c.requires.first);
      only =
          OnlyPuts-trans _ _ _ (outputs_of n)
          (record { goes_on = c.in-Ok.ensures.only.goes_on; names = c.in-Ok.ensures.only.names; said = c.in-Ok.ensures.said })
          c.run_turns.ensures.only;
      counts = end-earlier _ _ _ (inputs_of n) (outputs_of n) c.run_turns.result c.in-Ok.ensures.stand c.run_turns.ensures.counts;
    }
