-- From every answer to what the command promises.
use Rattle.signal_commands.proofs.Names.{◌∙◌, ℕ, ◌+◌, IsTrue, List, [], ◌++◌, length, Some, Result, sym, subst, arith, never-longer}
use Rattle.signal_commands.proofs.Names.{never-bad, content-same, IsDone, done-of, shared-of, done-unless-memory, Answers, IsRefusal}
use Rattle.signal_commands.proofs.Names.{end_status, Status, Stop, released-is_least, any-has-laws, LostIs, any_trellis, line_depth}
use Rattle.signal_commands.proofs.Names.{FolderState, octets_at, KeepsAll, OnlyOutputs, samples_in, is_long, is_other, is_cut, is_lost}
use Rattle.outside_calls.specs.Folder.{Said}
use Rattle.command_base.specs.Lines.{pieces_line}
use Rattle.command_base.proofs.Saying.{Said-Said}
use Rattle.recordings.specs.declared.rate.Rate.TheVariants as rates
use Rattle.signal_commands.specs.PickingUp.Ends.{IsFollowed, EndsOwn, pickup_job}
use Rattle.signal_commands.specs.PickingUp.Completes.{IsRecording, Completes}
use Rattle.signal_commands.specs.PickingUp.Headline.{ListsAll, Headline}

-- no file ever changes
pub refused-by : (old before : FolderState) (end : Result ℕ Stop) → OnlyOutputs old before [] → IsRefusal (end_status end)
    → KeepsAll old before
refused-by old before end only r name = only.names name tt

lists-of : (old before new : FolderState) (rec : List ℕ) → IsDone (pickup_job rec) old before new → ListsAll old new rec
lists-of old before new rec d = record {
  mode = d.ends.mode;
  content = d.ends.content;
  recording_is = d.ends.reads.read;
  whole = d.ends.followed.whole;
  not_lost = d.ends.followed.not_lost;
  pieces = d.ends.says.pieces;
  gives = d.ends.says.gives;
  nearest = released-is_least any_trellis 8 32 2
      (samples_in d.ends.content) d.ends.says.gives.labels any-has-laws d.ends.says.gives.released;
  lines = d.ends.says.lines;
  are_lines = d.ends.says.are_lines;
  said = subst (λ (count : ℕ). Said old new (d.ends.says.lines ++ pieces_line count)) d.ends.count_is
      (Said-Said old before new d.ends.says.lines (pieces_line d.done) d.ends.says.said d.said);
}

-- what the command promises holds of every answer
pub headline-of : (words : List (List ℕ)) (old new : FolderState) (rec : List ℕ) (s : Status) → Answers (pickup_job rec) words old new s
    → Headline old new rec s
headline-of words old new rec s a =
    record {
      shared = shared-of (pickup_job rec) words old new s a (λ e name. a.only.names name tt);
      lists = λ e. lists-of old a.before new rec (done-of (pickup_job rec) words old new s a e);
    }

-- a line is not lost and followed to its end at once
never-lost : (content : List ℕ) (symbol : ℕ) → IsFollowed content → LostIs any_trellis line_depth (samples_in content) (Some symbol) → ⊥
never-lost content symbol f lost = f.not_lost (symbol + 1) (omega (arith, lost.within)) lost.over

own-never : (old before : FolderState) (rec : List ℕ) (answer : Status) → IsTrue (old.tells rec) → IsRecording (octets_at old rec)
    → EndsOwn old before rec answer → ⊥
own-never old before rec answer told r (is_long e nothing longer) = never-longer (length (octets_at old rec)) r.within (longer told)
own-never old before rec answer told r (is_other at e nothing bad) = grind (arith, never-bad)
own-never old before rec answer told r (is_cut at e cut) = grind (arith, content-same)
own-never old before rec answer told r (is_lost role symbol e lost) =
    let same = content-same rates.Trellis r.mode lost.mode r.content lost.content (sym r.octets_are ∙ lost.reads.read told) in
    never-lost r.content symbol r.followed
    (subst (λ (xs : List ℕ). LostIs any_trellis line_depth (samples_in xs) (Some symbol)) (sym same) lost.lost)

-- and when it is done
pub completes-of : (words : List (List ℕ)) (old new : FolderState) (rec : List ℕ) (s : Status) → Answers (pickup_job rec) words old new s
    → Completes old new rec s
completes-of words old new rec s a sound told r =
    done-unless-memory (pickup_job rec) words old new s a sound (λ answer ends. own-never old a.before rec answer told r ends)
