-- The traces of some runs: two lines a turn, the originator's first. They were worked out apart from the account.
use Rattle.std.specs.Prelude.{zero, suc, ◌≡◌, ℕ, ◌*◌, true, false, List, [], ◌∷◌, ◌++◌, take, drop}
use Rattle.command_laws.specs.Worked.Runs.{Row}
use Rattle.command_laws.specs.Worked.Lines.{odp, adp, mark, flags, xid_cmd, xid_rsp, sabme, disc, ua, i, poll, reply, rr, rej, srej, brk, brkack, idle, heard, lost, giving, last, last_heard, quiet, busy_reply, rnr}
use Rattle.command_laws.specs.Worked.PlaySettings.{lines, loses, one_octet_each, one_break, far, near_rej, near_srej, busy_for_a_while, busy_for_long}

-- the lines of so many turns from this one on
abbrev pub lines_from : ℕ → ℕ → List Row → List Row
lines_from turn count rows = take (2 * count) (drop (2 * turn) rows)

-- Two files of one octet each: the whole run.
abbrev pub TwoOneOctetFiles : Type 0
TwoOneOctetFiles =
    lines 13 (one_octet_each [] []) ≡
    idle odp ∷ idle mark ∷
    idle odp ∷ heard odp adp ∷
    heard adp xid_cmd ∷ heard odp adp ∷
    heard adp flags ∷ heard xid_cmd xid_rsp ∷
    heard xid_rsp sabme ∷ idle flags ∷
    idle flags ∷ heard sabme ua ∷
    heard ua (poll 0) ∷ idle flags ∷
    idle flags ∷ heard (poll 0) (reply 0) ∷
    heard (reply 0) (i 0 0) ∷ idle (i 0 0) ∷
    heard (i 0 0) (rr 1) ∷ heard (i 0 0) (rr 1) ∷
    heard (rr 1) disc ∷ heard (rr 1) flags ∷
    idle flags ∷ heard disc ua ∷
    last_heard ua ∷ last ∷ []

-- The UA of turn 5 is lost: the SABME goes again after one period, and resets nothing.
abbrev pub UaIsLost : Type 0
UaIsLost =
    lines 33 (one_octet_each (loses 1 5) []) ≡
    idle odp ∷ idle mark ∷
    idle odp ∷ heard odp adp ∷
    heard adp xid_cmd ∷ heard odp adp ∷
    heard adp flags ∷ heard xid_cmd xid_rsp ∷
    heard xid_rsp sabme ∷ idle flags ∷
    idle flags ∷ heard sabme ua ∷
    lost ua flags ∷ idle flags ∷ []
    ++ quiet 17 ++
    idle sabme ∷ idle flags ∷
    idle flags ∷ heard sabme ua ∷
    heard ua (poll 0) ∷ idle flags ∷
    idle flags ∷ heard (poll 0) (reply 0) ∷
    heard (reply 0) (i 0 0) ∷ idle (i 0 0) ∷
    heard (i 0 0) (rr 1) ∷ heard (i 0 0) (rr 1) ∷
    heard (rr 1) disc ∷ heard (rr 1) flags ∷
    idle flags ∷ heard disc ua ∷
    last_heard ua ∷ last ∷ []

-- A break: asked once the link is up, given once, and answered.
abbrev pub BreakIsGiven : Type 0
BreakIsGiven =
    lines 14 (one_octet_each [] one_break) ≡
    idle odp ∷ idle mark ∷
    idle odp ∷ heard odp adp ∷
    heard adp xid_cmd ∷ heard odp adp ∷
    heard adp flags ∷ heard xid_cmd xid_rsp ∷
    heard xid_rsp sabme ∷ idle flags ∷
    idle flags ∷ heard sabme ua ∷
    heard ua (poll 0) ∷ idle flags ∷
    idle (brk 0 30) ∷ heard (poll 0) (reply 0) ∷
    heard (reply 0) (i 0 0) ∷ giving 30 (heard (brk 0 30) (brkack 0 30)) ∷
    heard (brkack 0 30) flags ∷ heard (i 0 0) (i 0 1) ∷
    heard (i 0 1) (rr 1) ∷ idle flags ∷
    idle disc ∷ heard (rr 1) flags ∷
    idle flags ∷ heard disc ua ∷
    last_heard ua ∷ last ∷ []

-- The answer to a break is lost: the break goes again after one period, is answered again, and is not given again.
abbrev pub BreakGoesAgain : Type 0
BreakGoesAgain =
    lines 31 (one_octet_each (loses 1 8) one_break) ≡
    idle odp ∷ idle mark ∷
    idle odp ∷ heard odp adp ∷
    heard adp xid_cmd ∷ heard odp adp ∷
    heard adp flags ∷ heard xid_cmd xid_rsp ∷
    heard xid_rsp sabme ∷ idle flags ∷
    idle flags ∷ heard sabme ua ∷
    heard ua (poll 0) ∷ idle flags ∷
    idle (brk 0 30) ∷ heard (poll 0) (reply 0) ∷
    heard (reply 0) (i 0 0) ∷ giving 30 (heard (brk 0 30) (brkack 0 30)) ∷
    lost (brkack 0 30) flags ∷ heard (i 0 0) (i 0 1) ∷
    heard (i 0 1) (rr 1) ∷ idle flags ∷
    idle flags ∷ heard (rr 1) flags ∷ []
    ++ quiet 14 ++
    idle (brk 0 30) ∷ idle flags ∷
    idle flags ∷ heard (brk 0 30) (brkack 0 30) ∷
    heard (brkack 0 30) disc ∷ idle flags ∷
    idle flags ∷ heard disc ua ∷
    last_heard ua ∷ last ∷ []

-- A segment is lost: the next one makes a REJ due, and sending goes on from the lost one.
abbrev pub RejAsksAgain : Type 0
RejAsksAgain =
    lines 44 near_rej ≡
    idle odp ∷ idle mark ∷
    idle odp ∷ idle mark ∷
    idle odp ∷ heard odp adp ∷
    idle odp ∷ heard odp adp ∷
    heard adp xid_cmd ∷ heard odp adp ∷
    heard adp flags ∷ heard odp adp ∷
    heard adp flags ∷ heard xid_cmd xid_rsp ∷
    heard adp flags ∷ idle flags ∷
    heard xid_rsp sabme ∷ idle flags ∷
    idle flags ∷ idle flags ∷
    idle flags ∷ heard sabme ua ∷
    idle flags ∷ idle flags ∷
    heard ua (poll 0) ∷ idle flags ∷
    idle flags ∷ idle flags ∷
    idle flags ∷ heard (poll 0) (reply 0) ∷
    idle flags ∷ idle flags ∷
    heard (reply 0) (i 0 0) ∷ idle flags ∷
    idle (i 1 0) ∷ idle flags ∷
    idle (i 2 0) ∷ heard (i 0 0) (rr 1) ∷
    idle (i 3 0) ∷ heard (i 1 0) (rr 2) ∷
    heard (rr 1) (i 4 0) ∷ heard (i 2 0) (rr 3) ∷
    heard (rr 2) (i 5 0) ∷ lost (i 3 0) flags ∷
    heard (rr 3) (i 6 0) ∷ heard (i 4 0) (rej 3) ∷
    idle (i 7 0) ∷ heard (i 5 0) flags ∷
    heard (rej 3) (i 3 0) ∷ heard (i 6 0) flags ∷
    idle (i 4 0) ∷ heard (i 7 0) flags ∷
    idle (i 5 0) ∷ heard (i 3 0) (rr 4) ∷
    idle (i 6 0) ∷ heard (i 4 0) (rr 5) ∷
    heard (rr 4) (i 7 0) ∷ heard (i 5 0) (rr 6) ∷
    heard (rr 5) (i 8 0) ∷ heard (i 6 0) (rr 7) ∷
    heard (rr 6) (i 9 0) ∷ heard (i 7 0) (rr 8) ∷
    heard (rr 7) (i 10 0) ∷ heard (i 8 0) (rr 9) ∷
    heard (rr 8) (i 11 0) ∷ heard (i 9 0) (rr 10) ∷
    heard (rr 9) (i 12 0) ∷ heard (i 10 0) (rr 11) ∷
    heard (rr 10) (i 13 0) ∷ heard (i 11 0) (rr 12) ∷
    heard (rr 11) (i 14 0) ∷ heard (i 12 0) (rr 13) ∷
    heard (rr 12) flags ∷ heard (i 13 0) (rr 14) ∷
    heard (rr 13) flags ∷ heard (i 14 0) (rr 15) ∷
    heard (rr 14) flags ∷ idle flags ∷
    heard (rr 15) disc ∷ idle flags ∷
    idle flags ∷ idle flags ∷
    idle flags ∷ heard disc ua ∷
    idle flags ∷ idle flags ∷
    last_heard ua ∷ last ∷ []

-- Two segments are lost: each is asked for by SREJ and goes again alone, and those behind them wait at the receiver.
abbrev pub SrejAsksAgain : Type 0
SrejAsksAgain =
    lines 41 near_srej ≡
    idle odp ∷ idle mark ∷
    idle odp ∷ idle mark ∷
    idle odp ∷ heard odp adp ∷
    idle odp ∷ heard odp adp ∷
    heard adp xid_cmd ∷ heard odp adp ∷
    heard adp flags ∷ heard odp adp ∷
    heard adp flags ∷ heard xid_cmd xid_rsp ∷
    heard adp flags ∷ idle flags ∷
    heard xid_rsp sabme ∷ idle flags ∷
    idle flags ∷ idle flags ∷
    idle flags ∷ heard sabme ua ∷
    idle flags ∷ idle flags ∷
    heard ua (poll 0) ∷ idle flags ∷
    idle flags ∷ idle flags ∷
    idle flags ∷ heard (poll 0) (reply 0) ∷
    idle flags ∷ idle (i 0 0) ∷
    heard (reply 0) (i 0 0) ∷ idle (i 1 0) ∷
    heard (i 0 0) (i 1 1) ∷ idle (i 2 0) ∷
    heard (i 1 0) (i 2 2) ∷ heard (i 0 0) (rr 1) ∷
    heard (i 2 0) (i 3 3) ∷ heard (i 1 1) (rr 2) ∷
    heard (rr 1) (i 4 3) ∷ heard (i 2 2) (rr 3) ∷
    heard (rr 2) (i 5 3) ∷ lost (i 3 3) flags ∷
    heard (rr 3) (i 6 3) ∷ lost (i 4 3) flags ∷
    idle (i 7 3) ∷ heard (i 5 3) (srej 3) ∷
    idle (i 8 3) ∷ heard (i 6 3) flags ∷
    heard (srej 3) (i 3 3) ∷ heard (i 7 3) (srej 4) ∷
    idle (i 9 3) ∷ heard (i 8 3) flags ∷
    heard (srej 4) (i 4 3) ∷ heard (i 3 3) (rr 4) ∷
    idle (i 10 3) ∷ heard (i 9 3) flags ∷
    heard (rr 4) (i 11 3) ∷ heard (i 4 3) (rr 10) ∷
    idle (i 12 3) ∷ heard (i 10 3) (rr 11) ∷
    heard (rr 10) (i 13 3) ∷ heard (i 11 3) (rr 12) ∷
    heard (rr 11) (i 14 3) ∷ heard (i 12 3) (rr 13) ∷
    heard (rr 12) flags ∷ heard (i 13 3) (rr 14) ∷
    heard (rr 13) flags ∷ heard (i 14 3) (rr 15) ∷
    heard (rr 14) flags ∷ idle flags ∷
    heard (rr 15) disc ∷ idle flags ∷
    idle flags ∷ idle flags ∷
    idle flags ∷ heard disc ua ∷
    idle flags ∷ idle flags ∷
    last_heard ua ∷ last ∷ []

-- Over a long delay: the answerer asks for segment 3 in turn 184, the twelve from it on go again from turn 204 on, and the run is done in turn 295.
pub record FarRej : Type 0 where
  pub asked : lines_from 184 1 (lines 296 (far false)) ≡ idle flags ∷ heard (i 4 0) (rej 3) ∷ []
  pub again :
      lines_from 204 12 (lines 296 (far false)) ≡
      heard (rej 3) (i 3 0) ∷ idle flags ∷
      idle (i 4 0) ∷ idle flags ∷
      idle (i 5 0) ∷ idle flags ∷
      idle (i 6 0) ∷ idle flags ∷
      idle (i 7 0) ∷ idle flags ∷
      idle (i 8 0) ∷ idle flags ∷
      idle (i 9 0) ∷ idle flags ∷
      idle (i 10 0) ∷ idle flags ∷
      idle (i 11 0) ∷ idle flags ∷
      idle (i 12 0) ∷ idle flags ∷
      idle (i 13 0) ∷ idle flags ∷
      idle (i 14 0) ∷ idle flags ∷ []
  pub done : lines_from 295 5 (lines 300 (far false)) ≡ last_heard ua ∷ last ∷ []

-- With SREJ segment 3 alone goes again in turn 204, and the run is done in turn 284.
pub record FarSrej : Type 0 where
  pub asked : lines_from 184 1 (lines 285 (far true)) ≡ idle flags ∷ heard (i 4 0) (srej 3) ∷ []
  pub again : lines_from 204 12 (lines 285 (far true)) ≡ heard (srej 3) (i 3 0) ∷ idle flags ∷ quiet 11
  pub done : lines_from 284 5 (lines 289 (far true)) ≡ last_heard ua ∷ last ∷ []

-- The answerer is busy in turns 10 to 14: it says so at once, takes what still arrives, and nothing is sent to it until it says that it is ready.
abbrev pub BusyForAWhile : Type 0
BusyForAWhile =
    lines 32 busy_for_a_while ≡
    idle odp ∷ idle mark ∷
    idle odp ∷ heard odp adp ∷
    heard adp xid_cmd ∷ heard odp adp ∷
    heard adp flags ∷ heard xid_cmd xid_rsp ∷
    heard xid_rsp sabme ∷ idle flags ∷
    idle flags ∷ heard sabme ua ∷
    heard ua (poll 0) ∷ idle flags ∷
    idle flags ∷ heard (poll 0) (reply 0) ∷
    heard (reply 0) (i 0 0) ∷ idle flags ∷
    idle (i 1 0) ∷ heard (i 0 0) (rr 1) ∷
    heard (rr 1) (i 2 0) ∷ heard (i 1 0) (rnr 2) ∷
    heard (rnr 2) flags ∷ heard (i 2 0) (rnr 3) ∷
    heard (rnr 3) flags ∷ idle flags ∷ []
    ++ quiet 2 ++
    idle flags ∷ idle (rr 3) ∷
    heard (rr 3) (i 3 0) ∷ idle flags ∷
    idle (i 4 0) ∷ heard (i 3 0) (rr 4) ∷
    heard (rr 4) (i 5 0) ∷ heard (i 4 0) (rr 5) ∷
    heard (rr 5) (i 6 0) ∷ heard (i 5 0) (rr 6) ∷
    heard (rr 6) (i 7 0) ∷ heard (i 6 0) (rr 7) ∷
    heard (rr 7) (i 8 0) ∷ heard (i 7 0) (rr 8) ∷
    heard (rr 8) (i 9 0) ∷ heard (i 8 0) (rr 9) ∷
    heard (rr 9) (i 10 0) ∷ heard (i 9 0) (rr 10) ∷
    heard (rr 10) (i 11 0) ∷ heard (i 10 0) (rr 11) ∷
    heard (rr 11) (i 12 0) ∷ heard (i 11 0) (rr 12) ∷
    heard (rr 12) (i 13 0) ∷ heard (i 12 0) (rr 13) ∷
    heard (rr 13) (i 14 0) ∷ heard (i 13 0) (rr 14) ∷
    heard (rr 14) flags ∷ heard (i 14 0) (rr 15) ∷
    heard (rr 15) disc ∷ idle flags ∷
    idle flags ∷ heard disc ua ∷
    last_heard ua ∷ last ∷ []

-- an end that waits for a busy one polls once a period, and the answer says that it still is
abbrev pub polled : ℕ → List Row
polled zero = []
polled (suc more) =
    idle (poll 1) ∷ idle flags ∷
    idle flags ∷ heard (poll 1) (busy_reply 0) ∷
    heard (busy_reply 0) flags ∷ idle flags ∷ []
    ++ quiet 19 ++ polled more

-- The answerer is busy from the start to turn 199, much longer than all tries take: each answer clears the count of tries.
abbrev pub BusyForLong : Type 0
BusyForLong =
    lines 206 busy_for_long ≡
    idle odp ∷ idle mark ∷
    idle odp ∷ heard odp adp ∷
    heard adp xid_cmd ∷ heard odp adp ∷
    heard adp flags ∷ heard xid_cmd xid_rsp ∷
    heard xid_rsp sabme ∷ idle flags ∷
    idle flags ∷ heard sabme ua ∷
    heard ua (poll 0) ∷ idle flags ∷
    idle flags ∷ heard (poll 0) (busy_reply 0) ∷
    heard (busy_reply 0) flags ∷ idle (i 0 0) ∷
    heard (i 0 0) (rr 1) ∷ idle flags ∷
    idle flags ∷ heard (rr 1) flags ∷ []
    ++ quiet 17 ++ polled 7 ++
    idle (poll 1) ∷ idle flags ∷
    idle flags ∷ heard (poll 1) (busy_reply 0) ∷
    heard (busy_reply 0) flags ∷ idle flags ∷ []
    ++ quiet 15 ++
    idle flags ∷ idle (rr 0) ∷
    heard (rr 0) (i 0 1) ∷ idle flags ∷
    idle flags ∷ heard (i 0 1) (rr 1) ∷
    heard (rr 1) disc ∷ idle flags ∷
    idle flags ∷ heard disc ua ∷
    last_heard ua ∷ last ∷ []
