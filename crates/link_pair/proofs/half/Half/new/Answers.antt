use Rattle.link_pair.proofs.Names.{refl}
use Rattle.line_run.specs.Scripted.{wire_of}
use Rattle.link_pair.proofs.half.Half.new.Goals as goal

pub returns-clause-first : goal.returns-clause-first
returns-clause-first c = record {
  channel = c.in_ok-new.ensures.channel;
  stands = λ files.
      let a = c.in_ok-new.ensures.after (wire_of c.args.script.now) files refl in
      record { kept = c.in_ok-new.ensures.kept; link = a.link; turn = a.turn; tally = a.tally; spoke = a.spoke };
}
