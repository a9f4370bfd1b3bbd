use Rattle.line_world.proofs.Cited.{inr, subst, written, chance_line, Appended, PartlyAppended}
use Rattle.line_world.proofs.Folders.{receives-none}
use Rattle.line_world.proofs.Turning.{writing-ends}
use Rattle.line_world.proofs.modems.Modems.meet_chance.Goals as goal

pub returns-in-Ok-clause-meets : goal.returns-in-Ok-clause-meets
returns-in-Ok-clause-meets g c = λ l channel links streams ts ends number is halts files.
    let f = g.F.Folder.state c.args.folder.now in
    let new = g.F.Folder.state c.write_chance.new.folder in
    let n = written c.args.names.now in
    assumption (
      receives-none f new n c.requires.apart c.write_chance.ensures.only,
      subst (λ t. Appended f new n.trace (chance_line t c.args.role)) number c.in-Ok.ensures.ok,
    )

pub returns-in-Err-clause-meets : goal.returns-in-Err-clause-meets
returns-in-Err-clause-meets g c = λ l channel links streams ts ends number is halts files.
    let f = g.F.Folder.state c.args.folder.now in
    let new = g.F.Folder.state c.write_chance.new.folder in
    let n = written c.args.names.now in
    writing-ends c.args.self.now l channel links streams f new n files ts ends c.in-Err.fault c.in-Err.ensures.write (inr (record {
      role = c.args.role;
      is = is;
      halts = halts;
      received = receives-none f new n c.requires.apart c.write_chance.ensures.only;
      trace = subst (λ t. PartlyAppended f new n.trace (chance_line t c.args.role)) number c.in-Err.ensures.err;
    }))
