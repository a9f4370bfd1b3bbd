use Rattle.gateway.proofs.Names.{refl}
use Rattle.gateway.proofs.Decoded.{decoded-on, decoded-until}
use Rattle.gateway.proofs.decoder.SampleDecoder.hear.Goals as goal

pub returns-in-Ok-clause-decodes : goal.returns-in-Ok-clause-decodes
returns-in-Ok-clause-decodes c = λ line mode past bits h.
    decoded-on line mode c.args.self.now _ past c.args.samples.now bits c.in-Ok.read h refl c.in-Ok.ensures.within c.in-Ok.ensures.answer
    (c.in-Ok.ensures.reads line mode past bits h.reads)

pub returns-in-Err-clause-decodes : goal.returns-in-Err-clause-decodes
returns-in-Err-clause-decodes c = λ line mode past bits h.
    decoded-until line mode c.args.self.now _ past c.args.samples.now bits c.read_until-read.result c.in-Err.lost.symbol h
    c.requires.idle.1 refl c.read_until-read.ensures.within c.read_until-read.ensures.value c.in-Err.ensures.answer
    (c.in-Err.ensures.reads line mode past bits h.reads)
