use Rattle.line_world.proofs.Cited.{refl}
use Rattle.line_world.proofs.Hearing.{begins, kept-first}
use Rattle.line_world.proofs.modems.Modems.new.Goals as goal

pub returns-clause-kept : goal.returns-clause-kept
returns-clause-kept c = kept-first _ c.requires c.in_ok-link.ensures.idle c.in_ok-link.ensures.counted refl c.new-2.ensures

pub returns-clause-after : goal.returns-clause-after
returns-clause-after c = λ channel files is.
    begins _ channel c.args.script.now files is (c.in_ok-link.ensures.stands files) refl c.new-2.ensures refl
