use Rattle.line_coding.proofs.Middle.{turned_are_alike}
use Rattle.line_coding.proofs.laws.turned_labels_give_the_same.Goals as goal

pub returns : goal.returns
returns c = turned_are_alike
