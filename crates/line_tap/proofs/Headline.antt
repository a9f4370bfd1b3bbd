-- From every answer to the headline, and to the answer that right inputs have.
use Rattle.line_tap.proofs.Cited.{arith, ◌≡◌, ◌⊎◌, ℕ, Bool, true, List, [], ◌∷◌, refl, last-only, Answers, turns_line, Status, TapEnd}
use Rattle.line_tap.proofs.Cited.{HasNoHeader, TapNames, recordings_of, IsRefused, Tapped, Ends, tap_job, FolderState, KeepsAll, KeepsEach}
use Rattle.line_tap.proofs.Cited.{OnlyOutputs, RefusesOwn, Mode}
use Rattle.std.proofs.Common.{is_some}
use Rattle.line_tap.specs.Answers.{stop_by}
use Rattle.line_tap.specs.Ends as ends
use Rattle.command_base.specs.declared.stop.Stop.TheVariants as stops
use Rattle.command_base.proofs.Jobs.{done-of, shared-of}
use Rattle.run_inputs.proofs.Answering.{stopped-so}
use Rattle.line_tap.specs.declared.limits.TheConstants.{LIMITS}
use Rattle.line_tap.specs.Outcomes.{EndsBy}
use Rattle.line_tap.specs.Headline.{Told, ToldBy, Headline}

pub keeps-each : (a b : FolderState) → OnlyOutputs a b [] → (names : List (List ℕ)) → KeepsEach a b names
keeps-each a b last [] = tt
keeps-each a b last (name ∷ names) = (last.names name tt, keeps-each a b last names)

-- ---- the headline

told-of : (old before new : FolderState) (n : TapNames) (end : TapEnd) → OnlyOutputs before new [] → Tapped LIMITS old before n end
    → Told old new n end
told-of old before new n end last e = grind (arith, keeps-each)

-- answers by which a tap itself ends
abbrev is_tap_end : Status → Bool
is_tap_end answer = is_some (stop_by answer)

-- the answer is that of the reading's end
own-ends : (words : List (List ℕ)) (old new : FolderState) (n : TapNames) (s t : Status) (a : Answers (tap_job n) words old new s)
    → is_tap_end t ≡ true → s ≡ t → EndsBy LIMITS old a.before n (stops.Own t)
own-ends words old new n s t a e f = grind (arith, stopped-so)

-- inputs aren't refused by these answers
not-refused : {P : Type 0} → (old before : FolderState) (n : TapNames) (answer : Status)
    → (RefusesOwn LIMITS old n.script 3 (recordings_of n) 1 answer → ⊥)
    → ((mode : Mode) (name : List ℕ) → HasNoHeader old name mode answer → ⊥)
    → (KeepsAll old before × IsRefused LIMITS old before n (stops.Own answer)) ⊎ P → P
not-refused old before n answer never none given = grind (arith)

told-by : (words : List (List ℕ)) (old new : FolderState) (n : TapNames) (s t : Status) (a : Answers (tap_job n) words old new s)
    → OnlyOutputs a.before new [] → s ≡ t → ToldBy old new n t
told-by words old new n s t a last e = grind (arith, done-of, told-of, not-refused, own-ends)

-- the headline holds of every answer
pub headline-of : (words : List (List ℕ)) (old new : FolderState) (n : TapNames) (s : Status) → Answers (tap_job n) words old new s
    → Headline old new n s
headline-of words old new n s a = record {
  shared = shared-of (tap_job n) words old new s a (λ e. e.0.0);
  told = told-by words old new n s s a (last-only turns_line words a.before new a.end s a.says) refl;
}
