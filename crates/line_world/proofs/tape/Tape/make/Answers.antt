use Rattle.line_world.proofs.Cited.{subst, bits_of, wire_of, HasSent, mode_of}
use Rattle.std.proofs.Common.{option_copied}
use Rattle.line_world.proofs.Taping.{slot-recorded}
use Rattle.line_world.proofs.tape.Tape.make.Goals as goal

pub returns-in-Some-clause-stands : goal.returns-in-Some-clause-stands
returns-in-Some-clause-stands c = λ script role ts t body sent stands.
    slot-recorded script role ts t _ _ _ (subst (λ (o : _). HasSent (option_copied o) script role ts t) c.in-Some.is sent)
    (c.write_samples.ensures (mode_of role) (bits_of (wire_of script) role ts) body stands)
