use Rattle.link_pair.proofs.Names.{◌≡◌, ◌∙◌, sym, arith, Err, Stop, last_turn_of, result_of, run_end, end_of, LinkEnd}
use Rattle.link_pair.proofs.command.last_turns.Goals as goal

-- where the first link isn't done, that is how the pair ends
first-counts : (first second : LinkEnd) (stop : Stop) → last_turn_of 1 (run_end first) ≡ Err stop
    → Err stop ≡ result_of (end_of (run_end first) (run_end second))
first-counts first second stop e = grind (arith)

pub returns-in-Err : goal.returns-in-Err
returns-in-Err c =
    first-counts c.args.endings.first c.args.endings.second c.in-Err.stop (sym c.last_turn.ensures ∙ c.in-Err.is)
