-- Settings of worked pairs.
use Rattle.std.specs.Prelude.{◌≡◌, ℕ, true, is_some, List, [], ◌∷◌, length, replicate, Some}
use Rattle.shared_terms.specs.Both.{Both}
use Rattle.noise_script.specs.Script.{ScriptValue, delay_of, loses}
use Rattle.link_run.specs.Outcomes.{Done}
use Rattle.line_run.specs.Scripted.{link_of}
use Rattle.command_laws.specs.Worked.Made.{Way, Made, runs, all_turns}
use Rattle.command_laws.specs.Worked.RunTraces.{plain_run}
use Rattle.link_run.specs.Trace.{trace_text}
use Rattle.line_run.specs.Ends.{Left}
use Rattle.link_pair.specs.Pairs.Ends.{BothDone, PairRunsTo}
use Rattle.xid_params.specs.Terms.{default_offer}

-- a script without lines
abbrev pub no_lines : ScriptValue
no_lines = record {
  delay_orig = 1;
  delay_answ = 1;
  tries = 5;
  offer_orig = default_offer;
  offer_answ = default_offer;
  losses = [];
  hits = [];
  noises = [];
  breaks = [];
  pauses = [];
}

-- one octet each way, 61 and 62
abbrev pub one_octet_each : Both (List ℕ)
one_octet_each = record { orig = 97 ∷ []; answ = 98 ∷ [] }

-- 1,920 octets one way
abbrev pub fifteen_segments : Both (List ℕ)
fifteen_segments = record { orig = replicate 1920 1; answ = [] }

-- the line of a script as a way
abbrev pub way_of : ScriptValue → Way
way_of script = record { delay = delay_of script; loses = loses script }

abbrev pub first_made : Made
first_made = runs 100 (link_of no_lines one_octet_each) (way_of no_lines)

abbrev pub second_made : Made
second_made = runs 100 (link_of no_lines fifteen_segments) (way_of no_lines)

pub record EndsSo (m : Made) (turn : ℕ) : Type 0 where
  pub done : m.outcome ≡ Some Done
  pub made : is_some m.last ≡ true
  pub last : length m.turns ≡ turn

abbrev pub SecondRowEnds : Type 0
SecondRowEnds = EndsSo first_made 12 × EndsSo second_made 26

-- The pair of these files ends in these turns, and leaves these traces.
pub record PairEndsSo (files others : Both (List ℕ)) (first second : ℕ) (trace traces : List ℕ) : Type 0 where
  pub left : Left
  pub leaves : Left
  pub runs : PairRunsTo no_lines files others (BothDone first second) left leaves
  pub trace_is : left.trace ≡ trace
  pub traces_are : leaves.trace ≡ traces

-- the trace of two files of one octet each, alone, and that of 1,920 octets
abbrev pub first_trace : List ℕ
first_trace = trace_text (all_turns first_made)

abbrev pub second_trace : List ℕ
second_trace = trace_text (all_turns second_made)

-- the same as that of the worked run
abbrev pub FirstTraceIsKnown : Type 0
FirstTraceIsKnown = first_trace ≡ trace_text (all_turns plain_run)

-- Two links of one octet each way; and one such beside one of 1,920 octets.
abbrev pub RowsHold : Type 0
RowsHold = PairEndsSo one_octet_each one_octet_each 12 12 first_trace first_trace
    × PairEndsSo one_octet_each fifteen_segments 12 26 first_trace second_trace
