-- From every answer to what the command promises.
use Rattle.frame_commands.proofs.Names.{ℕ, ◌≤◌, ◌<◌, List, [], ◌++◌, length, Result, subst, arith, shared-of, done-unless-memory, Answers}
use Rattle.frame_commands.proofs.Names.{Status, Stop, FramesNames, FolderState, octets_at, Said, OnlyOutputs, FILE_LIMIT}
use Rattle.command_base.specs.Lines.{pieces_line}
use Rattle.outside_calls.specs.Outputs.{KeepsAll}
use Rattle.command_base.specs.Status.{IsRefusal}
use Rattle.command_base.specs.Stops.{end_status}
use Rattle.command_base.proofs.Jobs.{IsDone, done-of}
use Rattle.command_base.proofs.Saying.{Said-Said}
use Rattle.frame_commands.specs.Listing.Ends.{frames_job}
use Rattle.frame_commands.specs.Listing.Completes.{Completes}
use Rattle.frame_commands.specs.Listing.Headline.{ListsAll, Headline}

-- no file ever changes
pub refused-by : (old before : FolderState) (end : Result ℕ Stop) → OnlyOutputs old before [] → IsRefusal (end_status end)
    → KeepsAll old before
refused-by old before end only r name = only.names name tt

lists-of : (old before new : FolderState) (n : FramesNames) → IsDone (frames_job n) old before new → ListsAll old new n
lists-of old before new n d = record {
  octets = d.ends.octets;
  read = d.ends.read;
  lines = d.ends.lines;
  are_lines = d.ends.are_lines;
  said = subst (λ (x : ℕ). Said old new (d.ends.lines ++ pieces_line x)) d.ends.count_is
      (Said-Said old before new d.ends.lines (pieces_line d.done) d.ends.said d.said);
}

-- what the command promises holds of every answer
pub headline-of : (words : List (List ℕ)) (old new : FolderState) (n : FramesNames) (s : Status) → Answers (frames_job n) words old new s
    → Headline old new n s
headline-of words old new n s a =
    record {
      shared = shared-of (frames_job n) words old new s a (λ e name. a.only.names name tt);
      lists = λ e. lists-of old a.before new n (done-of (frames_job n) words old new s a e);
    }

never-longer : (count : ℕ) → count ≤ 1048576 → FILE_LIMIT < count → ⊥
never-longer count within longer = omega (arith, within, longer)

-- and when it is done
pub completes-of : (words : List (List ℕ)) (old new : FolderState) (n : FramesNames) (s : Status) → Answers (frames_job n) words old new s
    → Completes old new n s
completes-of words old new n s a sound told within =
    done-unless-memory (frames_job n) words old new s a sound
    (λ answer ends. never-longer (length (octets_at old n.bits)) within (ends.2 told))
