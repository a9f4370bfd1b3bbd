use Rattle.line_world.proofs.Cited.{arrival}
use Rattle.line_world.proofs.Linking.{heard-well}
use Rattle.line_world.proofs.link.hear_well.Goals as goal

pub returns-clause-hears : goal.returns-clause-hears
returns-clause-hears c =
    λ file a h well. heard-well c.hear.new.self file a c.args.turn (arrival c.args.heard.now) well (c.in-Ok.ensures.hears file a h)
