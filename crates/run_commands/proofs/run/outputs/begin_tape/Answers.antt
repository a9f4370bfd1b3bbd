use Rattle.run_commands.proofs.Names.{List, ℕ, [], ◌∙◌, ap, subst, rules, FolderState, Appended, header_of, mode_of}
use Rattle.outside_calls.specs.Folder.{PartlyAppended}
use Rattle.outside_calls.proofs.Holding.{HoldsFront-more}
use Rattle.run_commands.proofs.Running.Heads.{begins, heads}
use Rattle.run_commands.proofs.run.outputs.begin_tape.Goals as goal

pub returns-in-Ok : goal.returns-in-Ok
returns-in-Ok g c =
    let a : FolderState = g.F.Folder.state c.args.folder.now in
    record {
      ok =
          let b : FolderState = g.F.Folder.state c.append_output.new.folder in (
            c.new.ensures.name,
            λ channel. begins c.new.result a b channel c.args.role c.args.name.now (c.new.ensures.stands channel) c.new.ensures.name
                c.in-Ok.ensures.only.goes_on c.requires
                (subst (λ (o : List ℕ). Appended a b c.args.name.now o)
                (c.as_slice.ensures.items ∙ c.header_octets.ensures ∙ ap header_of c.mode_of.ensures) c.in-Ok.ensures.ok),
          );
      head =
          let b : FolderState = g.F.Folder.state c.append_output.new.folder in
          heads a b c.args.name.now (header_of (mode_of c.args.role)) c.in-Ok.ensures.only.goes_on c.requires
          (subst (λ (o : List ℕ). Appended a b c.args.name.now o)
          (c.as_slice.ensures.items ∙ c.header_octets.ensures ∙ ap header_of c.mode_of.ensures) c.in-Ok.ensures.ok);
      err = search rules;
      only = c.in-Ok.ensures.only;
      stand = c.in-Ok.ensures.stand;
      fails = search rules;
    }

pub returns-in-Err-clause-err : goal.returns-in-Err-clause-err
returns-in-Err-clause-err g c =
    let a : FolderState = g.F.Folder.state c.args.folder.now in
    let b : FolderState = g.F.Folder.state c.append_output.new.folder in
    HoldsFront-more a b c.args.name.now [] (header_of (mode_of c.args.role)) c.in-Err.ensures.only.goes_on c.requires
    (subst (λ (o : List ℕ). PartlyAppended a b c.args.name.now o)
    (c.as_slice.ensures.items ∙ c.header_octets.ensures ∙ ap header_of c.mode_of.ensures) c.in-Err.ensures.err)

pub returns-in-Err-clause-only : goal.returns-in-Err-clause-only
returns-in-Err-clause-only g c = c.in-Err.ensures.only

pub returns-in-Err-clause-fails : goal.returns-in-Err-clause-fails
returns-in-Err-clause-fails g c = c.in-Err.ensures.fails
