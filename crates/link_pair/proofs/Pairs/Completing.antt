-- Which pairs are done.
use Rattle.link_pair.proofs.Names.{arith, ◌≡◌, ℕ, ◌∙◌, ap, LostLinksWereStarved, RunEnd, IsDone, first_wire, second_wire, end_of, EndsDone}
use Rattle.link_pair.proofs.Names.{UnstarvedPairsAreDone, QuietPairsAreDone, FaintPairsAreIsolated, IsByLink}
use Rattle.line_run.specs.Ends.{GivesUp}
use Rattle.line_ends.specs.Completes.{CompletesQuiet}

-- an end of the link that nobody gave up is done
not-given-up : (end : RunEnd) → IsByLink end → (GivesUp end → ⊥) → (turn : ℕ) × (end ≡ IsDone turn)
not-given-up end b h = grind (arith)

pub both-so : (a b : RunEnd) → (turn : ℕ) × (a ≡ IsDone turn) → (turn : ℕ) × (b ≡ IsDone turn) → EndsDone (end_of a b)
both-so a b x y = (x.0, y.0, ap (λ z. end_of z b) x.1 ∙ ap (end_of (IsDone x.0)) y.1)

pub unstarved-pairs-are-done : LostLinksWereStarved → UnstarvedPairsAreDone
unstarved-pairs-are-done law script files others a b left leaves h e f g =
    both-so a b
    (not-given-up a e.at.first.by_link (λ x. f x (law (first_wire script e.us) files a left h e.at.first.ran x)))
    (not-given-up b e.at.second.by_link (λ x. g x (law (second_wire script e.ts) others b leaves h e.at.second.ran x)))

pub quiet-pairs-are-done : FaintPairsAreIsolated → CompletesQuiet → QuietPairsAreDone
quiet-pairs-are-done law quiet script files others end left leaves h q o oo r =
    let i = law script files others end left leaves h q.faint o oo r in
    let d = both-so i.first i.second (quiet script files i.first left h q o i.first_runs)
    (quiet script others i.second leaves h q oo i.second_runs)
    in (d.0, d.1, i.end_is ∙ d.2)
