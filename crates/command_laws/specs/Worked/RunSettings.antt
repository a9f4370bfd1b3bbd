-- The settings of the runs.
use Rattle.std.specs.Prelude.{ℕ, zero, suc, ◌%◌, ◌+◌, Bool, true, false, ◌&&◌, ◌||◌, nat_le, nat_lt, List, [], ◌∷◌}
use Rattle.shared_terms.specs.declared.role.Role.{Role}
use Rattle.shared_terms.specs.declared.role.Role.TheVariants.{Originator, Answerer}
use Rattle.shared_terms.specs.Both.{of}
use Rattle.link_account.specs.declared.setup.Setup.{Setup}
use Rattle.link_run.specs.End.{BreakLine, User}
use Rattle.link_run.specs.Run.{Link}
use Rattle.command_laws.specs.Worked.Made.{Way}

-- an end that offers segments of this size, a window of 15, and SREJ and the 32-bit check or not
abbrev pub setup : Role → ℕ → Bool → Bool → ℕ → Setup
setup role size srej check32 period = record {
  role = role;
  offer = record { srej = srej; check32 = check32; tx_len = size; rx_len = size; tx_window = 15; rx_window = 15 };
  tries = 5;
  period = period;
}

-- a file alone
abbrev pub plain : List ℕ → User
plain file = record { file = file; breaks = []; busy = [] }

-- a link whose originator offers segments of this size
abbrev pub link_of : ℕ → Bool → ℕ → User → User → Link
link_of size srej period orig answ = record {
  orig = record { setup = setup Originator size srej false period; user = orig };
  answ = record { setup = setup Answerer 128 srej false period; user = answ };
}

-- two files of one octet each, at ends that both offer the 32-bit check
abbrev pub checked32 : Link
checked32 = record {
  orig = record { setup = setup Originator 128 false true 20; user = plain (97 ∷ []) };
  answ = record { setup = setup Answerer 128 false true 20; user = plain (98 ∷ []) };
}

-- so many slots of a role from that turn on are lost
pub record Loss : Type 0 where
  pub from : ℕ
  pub count : ℕ

-- a turn is among them
abbrev pub is_lost : ℕ → List Loss → Bool
is_lost turn [] = false
is_lost turn (l ∷ ls) = (nat_le l.from turn && nat_lt turn (l.from + l.count)) || is_lost turn ls

-- a line with the same delay both ways, and what of each role's slots is lost
abbrev pub way : ℕ → List Loss → List Loss → Way
way delay orig answ = record { delay = λ role. delay; loses = λ role turn. is_lost turn (of role (record { orig = orig; answ = answ })) }

-- one such line
abbrev pub loses : ℕ → ℕ → List Loss
loses count turn = (record { from = turn; count = count }) ∷ []

-- a break of 300 ms from turn 5 on
abbrev pub one_break : List BreakLine
one_break = (record { turn = 5; length_octet = 30 }) ∷ []

-- two files of one octet each, 61 and 62, with these breaks of the originator
abbrev pub one_octet_each : List BreakLine → Link
one_octet_each breaks = link_of 128 false 20 (record { file = 97 ∷ []; breaks = breaks; busy = [] }) (plain (98 ∷ []))

-- fifteen octets
abbrev pub fifteen : List ℕ
fifteen = 1 ∷ 2 ∷ 3 ∷ 4 ∷ 5 ∷ 6 ∷ 7 ∷ 8 ∷ 9 ∷ 10 ∷ 11 ∷ 12 ∷ 13 ∷ 14 ∷ 15 ∷ []

-- fifteen segments of one octet over a long delay, and an empty file the other way
abbrev pub far : Bool → Link
far srej = link_of 1 srej 96 (plain fifteen) (plain [])

-- so many octets
abbrev pub octets : ℕ → List ℕ
octets zero = []
octets (suc n) = n % 256 ∷ octets n

-- a hundred segments of one octet each way
abbrev pub hundred_each : Link
hundred_each = record {
  orig = record { setup = setup Originator 1 false false 20; user = plain (octets 100) };
  answ = record { setup = setup Answerer 1 false false 20; user = plain (octets 100) };
}

-- a file at an end that is busy in so many turns from that one on
abbrev pub busy_user : List ℕ → ℕ → ℕ → User
busy_user file from count = record { file = file; breaks = []; busy = (record { turn = from; count = count }) ∷ [] }

-- fifteen segments of one octet to an end that is busy in five turns
abbrev pub busy_for_a_while : Link
busy_for_a_while = link_of 1 false 20 (plain fifteen) (busy_user [] 10 5)

-- one octet each way, and an answerer that is busy in the first 200 turns
abbrev pub busy_for_long : Link
busy_for_long = link_of 128 false 20 (plain (97 ∷ [])) (busy_user (98 ∷ []) 0 200)
