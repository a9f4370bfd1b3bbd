-- What a run leaves is told by its ends and its text.
use Rattle.line_run.proofs.Cited.{arith, ◌≡◌, ◌∙◌, ℕ, List, ap, Leaves, Left, Accounts, Answerer, Originator}
use Rattle.std.specs.List.{concat}

abbrev pub left_of : Accounts → List ℕ → Left
left_of ends text = record { got = record { orig = concat ends.orig.incoming.taken; answ = concat ends.answ.incoming.taken }; trace = text }

pub leaves-so : (ends : Accounts) (text : List ℕ) → Leaves ends text (left_of ends text)
leaves-so ends text = grind (arith)

pub left-is : (ends : Accounts) (text : List ℕ) (left : Left) → Leaves ends text left → left ≡ left_of ends text
left-is ends text left h =
    ap (λ z. record { got = record { orig = z; answ = left.got.answ }; trace = left.trace }) (h.got_is Originator)
    ∙ ap (λ z. record { got = record { orig = (left_of ends text).got.orig; answ = z }; trace = left.trace }) (h.got_is Answerer)
    ∙ ap (λ z. record { got = (left_of ends text).got; trace = z }) h.trace_is
