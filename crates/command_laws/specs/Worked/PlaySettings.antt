-- The settings of the runs: what two ends offer, their files, what is lost and what is asked.
use Rattle.std.specs.Prelude.{ℕ, Bool, true, false, List, [], ◌∷◌}
use Rattle.shared_terms.specs.declared.role.Role.{Role}
use Rattle.shared_terms.specs.declared.role.Role.TheVariants.{Originator, Answerer}
use Rattle.link_account.specs.declared.setup.Setup.{Setup}
use Rattle.link_account.specs.Account.{fresh}
use Rattle.link_account.specs.Play.{start}
use Rattle.command_laws.specs.Worked.Runs.{Break, Turns, User, World, Row, turns}

-- an end that offers segments of this size both ways, a window of 15, and SREJ or not
abbrev pub setup : Role → ℕ → Bool → ℕ → Setup
setup role size srej period = record {
  role = role;
  offer = record { srej = srej; check32 = false; tx_len = size; rx_len = size; tx_window = 15; rx_window = 15 };
  tries = 5;
  period = period;
}

-- an end's file, and what becomes of what it sends
abbrev pub user : ℕ → List (List ℕ) → List Turns → List Break → User
user delay pieces losses breaks = record { delay = delay; losses = losses; busy = []; pieces = pieces; breaks = breaks }

-- the same over a line of one turn that loses nothing, without breaks, in which it is busy in so many turns from that one on
abbrev pub busy_user : List (List ℕ) → ℕ → ℕ → User
busy_user pieces from count = record { delay = 1; losses = []; busy = (record { from = from; count = count }) ∷ []; pieces = pieces; breaks = [] }

-- the run of two users, with segments of this size from the originator, SREJ at both ends or not, and this period
abbrev pub run : ℕ → Bool → ℕ → User → User → World
run size srej period originator answerer = record {
  play = start (fresh (setup Originator size srej period)) (fresh (setup Answerer 128 srej period));
  originator = originator;
  answerer = answerer;
  done = false;
  rows = [];
}

-- the lines of so many turns
abbrev pub lines : ℕ → World → List Row
lines count w = (turns count 0 w).rows

-- so many slots from that turn on are lost
abbrev pub loses : ℕ → ℕ → List Turns
loses count turn = (record { from = turn; count = count }) ∷ []

-- two files of one octet each, and a delay of one turn both ways: here with slots of the answerer that are lost, and breaks of the originator
abbrev pub one_octet_each : List Turns → List Break → World
one_octet_each losses breaks = run 128 false 20 (user 1 ((97 ∷ []) ∷ []) [] breaks) (user 1 ((98 ∷ []) ∷ []) losses [])

-- a break of 300 ms, asked from turn 5 on
abbrev pub one_break : List Break
one_break = (record { turn = 5; length_octet = 30 }) ∷ []

-- fifteen segments of one octet, and the end of the file
abbrev pub fifteen : List (List ℕ)
fifteen =
    (1 ∷ []) ∷ (2 ∷ []) ∷ (3 ∷ []) ∷ (4 ∷ []) ∷ (5 ∷ []) ∷ (6 ∷ []) ∷ (7 ∷ []) ∷ (8 ∷ []) ∷ (9 ∷ []) ∷ (10 ∷ [])
    ∷ (11 ∷ []) ∷ (12 ∷ []) ∷ (13 ∷ []) ∷ (14 ∷ []) ∷ (15 ∷ []) ∷ [] ∷ []

-- fifteen segments over a long delay, of which segment 3 is lost, and an empty file the other way
abbrev pub far : Bool → World
far srej = run 1 srej 96 (user 20 fifteen (loses 1 163) []) (user 20 ([] ∷ []) [] [])

-- the same over a short delay
abbrev pub near_rej : World
near_rej = run 1 false 24 (user 2 fifteen (loses 1 19) []) (user 2 ([] ∷ []) [] [])

-- and with SREJ, two segments lost, and three segments the other way
abbrev pub near_srej : World
near_srej = run 1 true 24 (user 2 fifteen (loses 2 19) []) (user 2 ((7 ∷ []) ∷ (8 ∷ []) ∷ (9 ∷ []) ∷ [] ∷ []) [] [])

-- fifteen segments to an end that is busy in five turns
abbrev pub busy_for_a_while : World
busy_for_a_while = run 1 false 20 (user 1 fifteen [] []) (busy_user ([] ∷ []) 10 5)

-- one octet each way, and an answerer that is busy from the start, in 200 turns
abbrev pub busy_for_long : World
busy_for_long = run 128 false 20 (user 1 ((97 ∷ []) ∷ []) [] []) (busy_user ((98 ∷ []) ∷ []) 0 200)
