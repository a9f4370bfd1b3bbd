use Rattle.run_commands.proofs.Soaking.Headline.{SoakLaws, headline-of}
use Rattle.run_commands.proofs.soak.laws.answers_keep_the_headline.Goals as goal

pub returns : goal.returns
returns c =
    let laws : SoakLaws = assumption c.scripts_make_links.ensures.ends in
    headline-of laws
