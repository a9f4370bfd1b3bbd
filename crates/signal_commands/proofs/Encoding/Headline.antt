-- From every answer to what the command promises.
use Rattle.signal_commands.proofs.Names.{◌⊎◌, inl, inr, ℕ, List, [], length, ◌≤◌, ◌<◌, Result, Ok, Err, subst, arith, IsDone, refusal-own}
use Rattle.signal_commands.proofs.Names.{last-only, done-of, shared-of, done-unless-memory, Answers, IsRefusal, end_status, Status, Stop}
use Rattle.signal_commands.proofs.Names.{Own, Read, Write, HoldsFront-all, FolderState, octets_at, GoesOn, KeepsName, KeepsAll, OnlyOutputs}
use Rattle.signal_commands.proofs.Names.{FILE_LIMIT, LeavesPart, EncodeNames}
use Rattle.command_base.specs.Lines.{samples_line}
use Rattle.signal_commands.specs.Encoding.Ends.{Ends, encode_job}
use Rattle.signal_commands.specs.Encoding.Completes.{Completes}
use Rattle.signal_commands.specs.Encoding.Headline.{HoldsBeginning, HoldsWhole, Headline}
use Rattle.signal_commands.proofs.Encoding.Making.{front-part}

left-part : (old before : FolderState) (n : EncodeNames) → LeavesPart old before n → KeepsName old before n.rec
    ⊎ HoldsBeginning old before n
left-part old before n given = grind (arith)

left-by : (old before : FolderState) (n : EncodeNames) (end : Result ℕ Stop) → Ends old before n end → KeepsName old before n.rec
    ⊎ HoldsBeginning old before n
left-by old before n (Ok samples) w =
    left-part old before n (inr (record {
      recording = w.recording;
      samples = samples;
      records = w.records;
      rec = HoldsFront-all before n.rec w.recording w.rec;
    }))
left-by old before n (Err (Own answer)) e = inl (e.1 n.rec)
left-by old before n (Err (Read fault)) (inl kept) = inl kept
left-by old before n (Err (Read fault)) (inr front) = left-part old before n (inr (front-part old before n front))
left-by old before n (Err (Write fault)) e = left-part old before n e.1
left-by old before n other e = absurd e

-- a file that is too long is refused before the output is made
pub refused-by : (old before : FolderState) (n : EncodeNames) (end : Result ℕ Stop) → Ends old before n end → IsRefusal (end_status end)
    → KeepsAll old before
refused-by old before n end ends = refusal-own end (KeepsAll old before) (λ answer e r. (subst (Ends old before n) e ends).1)

left-later : (old before new : FolderState) (n : EncodeNames) → GoesOn old before → GoesOn before new → KeepsName before new n.rec
    → KeepsName old before n.rec ⊎ HoldsBeginning old before n → KeepsName old new n.rec ⊎ HoldsBeginning old new n
left-later old before new n g later k given = grind (arith)

whole-of : (old before new : FolderState) (n : EncodeNames) → OnlyOutputs before new [] → IsDone (encode_job n) old before new
    → HoldsWhole old new n
whole-of old before new n last d = grind (arith)

-- what the command promises holds of every answer
pub headline-of : (words : List (List ℕ)) (old new : FolderState) (n : EncodeNames) (s : Status) → Answers (encode_job n) words old new s
    → Headline old new n s
headline-of words old new n s a =
    let last : OnlyOutputs a.before new [] = last-only samples_line words a.before new a.end s a.says in
    record {
      shared = shared-of (encode_job n) words old new s a (λ e. absurd e.0);
      rec = left-later old a.before new n a.only.goes_on last.goes_on (last.names n.rec tt) (left-by old a.before n a.end a.ends.0);
      whole = λ e. whole-of old a.before new n last (done-of (encode_job n) words old new s a e);
    }

never-longer : (count : ℕ) → count ≤ 1048576 → FILE_LIMIT < count → ⊥
never-longer count within longer = omega (arith, within, longer)

-- and when it is done
pub completes-of : (words : List (List ℕ)) (old new : FolderState) (n : EncodeNames) (s : Status) → Answers (encode_job n) words old new s
    → Completes old new n s
completes-of words old new n s a sound told within =
    done-unless-memory (encode_job n) words old new s a sound
    (λ answer ends. never-longer (length (octets_at old n.file)) within (ends.0.2 told))
