use Rattle.signal_commands.proofs.Names.{[], refl, behind-none, OnlyOutputs-reads}
use Rattle.recordings.specs.declared.rate.Rate.TheVariants as rates
use Rattle.signal_commands.proofs.PickingUp.Playings.{plays-after}
use Rattle.signal_commands.proofs.pickup.command.pick_up_samples.Goals as goal

pub returns-in-Ok-clause-ends : goal.returns-in-Ok-clause-ends
returns-in-Ok-clause-ends g c start o =
    c.play_to_end.ensures.ends start (record {
      content = [];
      plays = plays-after start start _ c.args.mode c.in-Ok.player [] o.reads (c.in-Ok.ensures.plays start);
      whole = refl;
      behind = behind-none start _ _ c.args.rec.now rates.Trellis c.args.mode o o.reads.goes_on (o.reads.names c.args.rec.now);
      only = OnlyOutputs-reads [] o.reads;
    })
