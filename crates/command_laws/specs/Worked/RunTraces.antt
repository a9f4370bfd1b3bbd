-- The texts of some traces, how the runs end, and the octets that are taken. They were worked out apart from the definitions.
use Rattle.std.specs.Prelude.{◌≡◌, ℕ, ◌-◌, if◌then◌else◌, Bool, true, false, List, [], ◌∷◌, ◌++◌, length, drop, replicate, Option, Some, None, codes}
use Rattle.std.specs.List.{concat}
use Rattle.shared_terms.specs.declared.role.Role.{Role}
use Rattle.shared_terms.specs.declared.role.Role.TheVariants.{Originator, Answerer}
use Rattle.shared_terms.specs.declared.fault.LinkFault.{LinkFault}
use Rattle.shared_terms.specs.declared.fault.LinkFault.TheVariants.{NotDetected, Spent}
use Rattle.link_run.specs.Outcomes.{Done, Broken}
use Rattle.frame_check.specs.declared.check.Check.{Check}
use Rattle.frame_check.specs.declared.check.Check.TheVariants.{Sixteen, ThirtyTwo}
use Rattle.shared_terms.specs.Both.{of}
use Rattle.lapm_frames.specs.Frame.{has_number}
use Rattle.lapm_frames.specs.declared.sent.Sent.{Sent}
use Rattle.lapm_frames.specs.declared.sent.Sent.TheVariants as slots
use Rattle.link_run.specs.Run.{Spoken, Turn}
use Rattle.link_run.specs.Starved.{IsStarved}
use Rattle.link_run.specs.Taken.{taken_octets}
use Rattle.link_run.specs.Counts.{lost_slots, sent_again}
use Rattle.link_run.specs.Trace.{trace_text, turn_text}
use Rattle.turn_bound.specs.Bound.{most_turns}
use Rattle.command_laws.specs.Worked.Made.{Way, Made, runs, all_turns}
use Rattle.command_laws.specs.Worked.RunSettings.{way, checked32, loses, one_break, one_octet_each, fifteen, far, busy_for_a_while, busy_for_long, hundred_each}

-- The run is done in the turn of that number, with these octets at both ends by the frames that passed and by the accounts.
pub record DoneIn (srej : Bool) (w : Way) (m : Made) (turn : ℕ) (got_o got_a : List ℕ) : Type 0 where
  pub done : m.outcome ≡ Some Done
  pub last : length m.turns ≡ turn
  pub orig : taken_octets srej w.delay Originator (all_turns m) ≡ got_o
  pub answ : taken_octets srej w.delay Answerer (all_turns m) ≡ got_a
  pub orig_account : concat m.mid.orig.incoming.taken ≡ got_o
  pub answ_account : concat m.mid.answ.incoming.taken ≡ got_a

-- the lines of a turn
abbrev pub lines_of : ℕ → List Turn → List ℕ
lines_of turn [] = []
lines_of turn (t ∷ ts) = turn_text turn t

abbrev pub lines_in : ℕ → Made → List ℕ
lines_in turn m = lines_of turn (drop (length m.turns - turn) (all_turns m))

-- Two files of one octet each: the whole trace.
abbrev pub plain_run : Made
plain_run = runs 100 (one_octet_each []) (way 1 [] [])

abbrev pub PlainTrace : Type 0
PlainTrace =
    trace_text (all_turns plain_run) ≡
    codes "0 orig - > odp\n0 answ - > mark\n1 orig - > odp\n1 answ odp > adp\n2 orig adp > xid cmd p=0 n=23\n2 answ odp > adp\n"
    ++ codes "3 orig adp > flags\n3 answ xid cmd p=0 n=23 > xid rsp p=0 n=23\n4 orig xid rsp p=0 n=23 > sabme cmd p=1\n4 answ - > flags\n"
    ++ codes "5 orig - > flags\n5 answ sabme cmd p=1 > ua rsp p=1\n6 orig ua rsp p=1 > rr cmd r=0 p=1\n6 answ - > flags\n"
    ++ codes "7 orig - > flags\n7 answ rr cmd r=0 p=1 > rr rsp r=0 p=1\n8 orig rr rsp r=0 p=1 > i s=0 r=0 p=0 n=1\n8 answ - > i s=0 r=0 p=0 n=1\n"
    ++ codes "9 orig i s=0 r=0 p=0 n=1 > rr rsp r=1 p=0\n9 answ i s=0 r=0 p=0 n=1 > rr rsp r=1 p=0\n10 orig rr rsp r=1 p=0 > disc cmd p=1\n"
    ++ codes "10 answ rr rsp r=1 p=0 > flags\n11 orig - > flags\n11 answ disc cmd p=1 > ua rsp p=1\n12 orig ua rsp p=1 > none\n12 answ - > none\n"

abbrev pub PlainEnds : Type 0
PlainEnds = DoneIn false (way 1 [] []) plain_run 12 (98 ∷ []) (97 ∷ [])

-- The UA of turn 5 is lost.
abbrev pub ua_lost : Made
ua_lost = runs 100 (one_octet_each []) (way 1 [] (loses 1 5))

abbrev pub UaLostEnds : Type 0
UaLostEnds = DoneIn false (way 1 [] (loses 1 5)) ua_lost 32 (98 ∷ []) (97 ∷ [])

-- A break is given; and, where its answer is lost, given once.
abbrev pub broken : Made
broken = runs 100 (one_octet_each one_break) (way 1 [] [])

abbrev pub BreakLine7 : Type 0
BreakLine7 = lines_in 7 broken ≡ codes "7 orig - > ui cmd p=0 brk 0 30\n7 answ rr cmd r=0 p=1 > rr rsp r=0 p=1\n"

abbrev pub BreakLine8 : Type 0
BreakLine8 =
    lines_in 8 broken ≡
    codes "8 orig rr rsp r=0 p=1 > i s=0 r=0 p=0 n=1\n8 answ ui cmd p=0 brk 0 30 > ui cmd p=0 brkack 0 30 break=30\n"

abbrev pub BreakEnds : Type 0
BreakEnds = DoneIn false (way 1 [] []) broken 13 (98 ∷ []) (97 ∷ [])

abbrev pub BreakAgainEnds : Type 0
BreakAgainEnds = DoneIn false (way 1 [] (loses 1 8)) (runs 100 (one_octet_each one_break) (way 1 [] (loses 1 8))) 30 (98 ∷ []) (97 ∷ [])

-- Fifteen segments over a long delay, segment 3 lost: by REJ, and by SREJ.
abbrev pub far_run : Bool → Made
far_run srej = runs 400 (far srej) (way 20 (loses 1 163) [])

abbrev pub FarRejEnds : Type 0
FarRejEnds = DoneIn false (way 20 (loses 1 163) []) (far_run false) 295 [] fifteen

abbrev pub FarSrejEnds : Type 0
FarSrejEnds = DoneIn true (way 20 (loses 1 163) []) (far_run true) 284 [] fifteen

-- One slot is lost; twelve segments go again by REJ, and one by SREJ.
pub record Counts (m : Made) (lost again : ℕ) : Type 0 where
  pub lost_is : lost_slots (all_turns m) ≡ lost
  pub again_is : sent_again (all_turns m) ≡ again

abbrev pub FarRejCounts : Type 0
FarRejCounts = Counts (far_run false) 1 12

abbrev pub FarSrejCounts : Type 0
FarSrejCounts = Counts (far_run true) 1 1

-- The answerer is busy in turns 10 to 14, and says so at once.
abbrev pub busy_run : Made
busy_run = runs 100 busy_for_a_while (way 1 [] [])

abbrev pub BusyLine10 : Type 0
BusyLine10 = lines_in 10 busy_run ≡ codes "10 orig rr rsp r=1 p=0 > i s=2 r=0 p=0 n=1\n10 answ i s=1 r=0 p=0 n=1 > rnr rsp r=2 p=0\n"

abbrev pub BusyEnds : Type 0
BusyEnds = DoneIn false (way 1 [] []) busy_run 31 [] fifteen

-- The answerer is busy in the first 200 turns, much longer than all tries take.
abbrev pub BusyForLongEnds : Type 0
BusyForLongEnds = DoneIn false (way 1 [] []) (runs 300 busy_for_long (way 1 [] [])) 205 (98 ∷ []) (97 ∷ [])

-- A run that ends as an end gives the link up, with so many segments taken at both ends.
pub record BrokenIn (m : Made) (role : Role) (fault : LinkFault) (turn got_o got_a : ℕ) : Type 0 where
  pub broken : m.outcome ≡ Some (Broken role fault)
  pub last : length m.turns ≡ turn
  pub orig : length m.mid.orig.incoming.taken ≡ got_o
  pub answ : length m.mid.answ.incoming.taken ≡ got_a

-- All that the originator sends is lost from turn 40 on: the answerer's tries are spent six periods later, at its segment 31.
abbrev pub LinkLostEnds : Type 0
LinkLostEnds = BrokenIn (runs 200 hundred_each (way 1 (loses 100000 40) [])) Answerer (Spent 31 40) 160 46 32

-- All that the answerer sends is lost: the originator sees no pattern.
abbrev pub NotDetectedEnds : Type 0
NotDetectedEnds = BrokenIn (runs 200 (one_octet_each []) (way 1 [] (loses 1000000 0))) Originator NotDetected 120 0 0

-- Both ends offer the 32-bit check: the frames are those of the run without, each end judges by the 16-bit check up to the turn in which it hears
-- the other's offer, and from then on by the 32-bit one, with which each frame with numbers is sent.
abbrev pub checked_run : Made
checked_run = runs 100 checked32 (way 1 [] [])

abbrev pub CheckedEnds : Type 0
CheckedEnds = DoneIn false (way 1 [] []) checked_run 12 (98 ∷ []) (97 ∷ [])

abbrev pub checks_of : Role → List Turn → List Check
checks_of role [] = []
checks_of role (t ∷ ts) = checks_of role ts ++ (of role t).check ∷ []

abbrev pub is_numbered : Sent → Bool
is_numbered slots.Mark = false
is_numbered slots.Odp = false
is_numbered slots.Adp = false
is_numbered slots.Flags = false
is_numbered (slots.Frame frame) = has_number frame

-- the check of a slot with a frame with numbers
abbrev pub check_in : Option Spoken → List Check
check_in None = []
check_in (Some slot) = if is_numbered slot.sent then slot.check ∷ [] else []

abbrev pub numbered_checks : Role → List Turn → List Check
numbered_checks role [] = []
numbered_checks role (t ∷ ts) = numbered_checks role ts ++ check_in (of role t).sent

pub record ChecksAre : Type 0 where
  pub orig : checks_of Originator (all_turns checked_run) ≡ replicate 5 Sixteen ++ replicate 8 ThirtyTwo
  pub answ : checks_of Answerer (all_turns checked_run) ≡ replicate 4 Sixteen ++ replicate 9 ThirtyTwo
  pub orig_sent : numbered_checks Originator (all_turns checked_run) ≡ replicate 3 ThirtyTwo
  pub answ_sent : numbered_checks Answerer (all_turns checked_run) ≡ replicate 3 ThirtyTwo

-- so many segments of each role
abbrev pub segments_of : ℕ → ℕ → Role → ℕ
segments_of orig answ Originator = orig
segments_of orig answ Answerer = answ

-- How many turns runs have at most, with five tries, by hand: seven periods twice for each thing to be done. A segment each way, a break and the
-- six phases are nine; fifteen segments, a pause of five turns twice and the phases are 31, and without the pause 21, over a longer way.
pub record BoundsAre : Type 0 where
  pub break : most_turns 5 20 (one_octet_each one_break) (λ role. 1) ≡ 2520
  pub busy : most_turns 5 20 busy_for_a_while (segments_of 15 0) ≡ 8680
  pub far : most_turns 5 96 (far false) (segments_of 15 0) ≡ 28224

-- The run whose answerer gives up is starved, by five tries of 20 turns: something was lost in turns 142, 122, 102, 82, 62 and 42.
abbrev pub GivesUpStarved : Type 0
GivesUpStarved = IsStarved 5 20 (λ role. 1) (all_turns (runs 200 hundred_each (way 1 (loses 100000 40) [])))

-- A run that loses one slot isn't: of its 30 turns two spans alone have any.
abbrev pub OneLossStarvesNone : Type 0
OneLossStarvesNone = IsStarved 5 20 (λ role. 1) (all_turns (runs 100 (one_octet_each one_break) (way 1 [] (loses 1 8)))) → ⊥
