use Rattle.std.proofs.Common.{sym, subst, map}
use Rattle.std.specs.Prelude.{string_bytes}
use Rattle.modem_cli.specs.declared.top.Asked.{Asked as AskedInCode}
use Rattle.modem_cli.specs.Modem.{promise}
use Rattle.modem_cli.specs.Named.{named}
use Rattle.modem_cli.proofs.top.answer.Goals as goal

pub returns-in-Pickup-clause-headline : goal.returns-in-Pickup-clause-headline
returns-in-Pickup-clause-headline g c =
    subst (λ (it : AskedInCode). (promise (named it)).Headline (g.F.Folder.state c.args.folder.now) (g.F.Folder.state c.pickup.new.folder)
    c.pickup.result)
    (sym c.in-Pickup.is) c.pickup.ensures.headline

pub returns-in-Pickup-clause-answer : goal.returns-in-Pickup-clause-answer
returns-in-Pickup-clause-answer g c =
    subst
    (λ (it : AskedInCode). (promise (named it)).Answer (map string_bytes c.args.words.now) (g.F.Folder.state c.args.folder.now)
    (g.F.Folder.state c.pickup.new.folder) c.pickup.result) (sym c.in-Pickup.is) c.pickup.ensures.answer

pub returns-in-Pickup-clause-completes : goal.returns-in-Pickup-clause-completes
returns-in-Pickup-clause-completes g c =
    subst (λ (it : AskedInCode). (promise (named it)).Completes (g.F.Folder.state c.args.folder.now) (g.F.Folder.state c.pickup.new.folder)
    c.pickup.result)
    (sym c.in-Pickup.is) c.pickup.ensures.completes

pub returns-in-Pickup-clause-stand : goal.returns-in-Pickup-clause-stand
returns-in-Pickup-clause-stand g c = c.pickup.ensures.headline.shared.stand

pub returns-in-Pickup-clause-usage : goal.returns-in-Pickup-clause-usage
returns-in-Pickup-clause-usage g c = c.pickup.ensures.headline.shared.known
