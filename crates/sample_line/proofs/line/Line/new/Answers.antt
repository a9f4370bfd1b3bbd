use Rattle.std.proofs.Common.{[], refl}
use Rattle.sample_line.proofs.Once.{none-modulated}
use Rattle.sample_line.proofs.line.Line.new.Goals as goal

pub returns-clause-stands : goal.returns-clause-stands
returns-clause-stands c = λ script. record {
  slots = refl;
  points = [];
  modulated = none-modulated _;
  read = [];
  carries = c.in_ok-new.ensures.stands script;
  not_lost = c.in_ok-new.ensures.lost;
  all_taken = c.in_ok-new.ensures.pending;
}
