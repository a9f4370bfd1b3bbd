-- From every answer to what the command promises.
use Rattle.signal_commands.proofs.Names.{◌≡◌, ◌⊎◌, ◌∙◌, inl, inr, ℕ, ◌+◌, List, [], length, take, drop, Some, None, Result, Ok, Err, refl}
use Rattle.signal_commands.proofs.Names.{sym, ap, subst, arith, append-nil, never-longer, never-bad, content-same, IsDone, refusal-own}
use Rattle.signal_commands.proofs.Names.{last-only, done-of, shared-of, done-unless-memory, Answers, ReadsRecording, IsRefusal, end_status}
use Rattle.signal_commands.proofs.Names.{RECORDING_LIMIT, Status, Stop, Own, Read, Write, Say, released-is_least, IsReleased, LostIs}
use Rattle.signal_commands.proofs.Names.{line_depth, HoldsFront-all, FolderState, octets_at, GoesOn, KeepsName, KeepsAll, HoldsFront}
use Rattle.signal_commands.proofs.Names.{OnlyOutputs, samples_in, Rate, tap_of, Mode, IsPrefixOf, Role, DecodesFront, SampleCut}
use Rattle.signal_commands.proofs.Names.{RecordingLost, EndsOwn, Carries, trellis_at, DecodeNames, Sample}
use Rattle.std.proofs.Common.{take-append-drop}
use Rattle.std.specs.Bool.{IsTrue}
use Rattle.outside_calls.proofs.Steps.{told_later}
use Rattle.exact_decoder.specs.Surviving.Survivors.{IsLeast}
use Rattle.command_base.specs.declared.status.Status.TheVariants.{BadRecording, TooLong, LineLost}
use Rattle.command_base.specs.declared.stop.Stop.TheVariants.{NoMemory}
use Rattle.command_base.specs.Inputs.{IsLonger}
use Rattle.command_base.specs.Lines.{octets_line}
use Rattle.command_base.proofs.Answering.{IsPlain}
use Rattle.command_base.proofs.Jobs.{last-plain}
use Rattle.recordings.specs.declared.rate.Rate.TheVariants as rates
use Rattle.signal_commands.specs.Decoding.Ends.{HeaderRefused, MayWrite, LeavesPart}
use Rattle.signal_commands.specs.Decoding.Ends.{Ends, decode_job}
use Rattle.signal_commands.specs.Decoding.Completes.{IsRecording, Completes}
use Rattle.signal_commands.specs.Decoding.Headline.{BeginNearest, HoldsBeginning, HoldsWhole, Headline}
use Rattle.signal_commands.proofs.Decoding.Rates.{code_at}

-- the output, or its beginning, once the line was said
abbrev Left : FolderState → FolderState → DecodeNames → Type 0
Left old new n = KeepsName old new n.file ⊎ HoldsBeginning old new n

-- labels that are released, and a least sequence, begin a nearest one
released-nearest : (rate : Rate) (samples : List Sample) (labels : List ℕ) → IsReleased (trellis_at rate) samples labels
    → BeginNearest rate samples labels
released-nearest rate samples labels h =
    let code = code_at rate in released-is_least (trellis_at rate) code.states code.labels code.steps samples labels code.laws h

least-nearest : (rate : Rate) (samples : List Sample) (labels : List ℕ) → IsLeast (trellis_at rate) samples labels
    → BeginNearest rate samples labels
least-nearest rate samples labels h = ([], subst (IsLeast (trellis_at rate) samples) (sym (append-nil labels)) h)

-- what such labels carry, and the output holds the beginning of
left-nearest : (old before : FolderState) (n : DecodeNames) (mode : Mode) (content : List ℕ) (samples : List Sample)
    (labels octets : List ℕ) → GoesOn old before → ReadsRecording old n.rec n.rate mode content
    → IsPrefixOf samples (samples_in content) → BeginNearest n.rate samples labels → Carries n.rate (tap_of mode) labels octets
    → HoldsFront before n.file octets → Left old before n
left-nearest old before n mode content samples labels octets g reads front nearest carries file = grind (arith, told_later)

all-of : (content : List ℕ) → IsPrefixOf (samples_in content) (samples_in content)
all-of content = ([], append-nil (samples_in content))

left-part : (old before : FolderState) (n : DecodeNames) → GoesOn old before → LeavesPart old before n → Left old before n
left-part old before n g (inl kept) = inl kept
left-part old before n g (inr w) = by w.may
  where
    by : MayWrite n.rate w.mode w.content w.octets → Left old before n
    by (inl m) = left-nearest old before n w.mode w.content (samples_in w.content) m.0 w.octets g w.reads (all-of w.content)
        (released-nearest n.rate (samples_in w.content) m.0 m.1) m.2 w.file
    by (inr m) = left-nearest old before n w.mode w.content (samples_in w.content) m.1.labels w.octets g w.reads (all-of w.content)
        (least-nearest n.rate (samples_in w.content) m.1.labels m.1.least.least) m.1.carried w.file

front-left : (old before : FolderState) (n : DecodeNames) → GoesOn old before → KeepsAll old before ⊎ DecodesFront old before n
    → Left old before n
front-left old before n g (inl kept) = inl (kept n.file)
front-left old before n g (inr w) =
    left-nearest old before n w.mode w.content w.first w.labels w.octets g w.reads w.front
    (released-nearest n.rate w.first w.labels w.released) w.carried (HoldsFront-all before n.file w.octets w.file)

lost-left : (old before : FolderState) (n : DecodeNames) (role : Role) (symbol : ℕ) → GoesOn old before
    → RecordingLost old before n role symbol → Left old before n
lost-left old before n role symbol g w =
    left-nearest old before n w.mode w.content (take (symbol + 1) (samples_in w.content)) w.labels w.octets g w.reads
    (drop (symbol + 1) (samples_in w.content), take-append-drop (symbol + 1) (samples_in w.content))
    (released-nearest n.rate (take (symbol + 1) (samples_in w.content)) w.labels w.released) w.carried
    (HoldsFront-all before n.file w.octets w.file)

bad-left : (old before : FolderState) (n : DecodeNames) (at : ℕ) → GoesOn old before → HeaderRefused old before n at
    ⊎ SampleCut old before n at → Left old before n
bad-left old before n at g (inl h) = inl (h.keeps n.file)
bad-left old before n at g (inr w) =
    left-nearest old before n w.mode w.content (samples_in w.content) w.labels w.octets g w.reads (all-of w.content)
    (released-nearest n.rate (samples_in w.content) w.labels w.released) w.carried (HoldsFront-all before n.file w.octets w.file)

-- the answers that the command has of its own
data OwnIs (old before : FolderState) (n : DecodeNames) (answer : Status) : Type 0 where
  is_long : answer ≡ TooLong 1 → KeepsAll old before → IsLonger old n.rec RECORDING_LIMIT → OwnIs old before n answer
  is_bad : (at : ℕ) → answer ≡ BadRecording at → HeaderRefused old before n at ⊎ SampleCut old before n at → OwnIs old before n answer
  is_lost : (role : Role) (symbol : ℕ) → answer ≡ LineLost role symbol → n.rate ≡ rates.Trellis → RecordingLost old before n role symbol
      → OwnIs old before n answer

own-is : (old before : FolderState) (n : DecodeNames) (answer : Status) → EndsOwn old before n answer → OwnIs old before n answer
own-is old before n (TooLong word) e = is_long (ap TooLong e.0) e.1 e.2
own-is old before n (BadRecording at) e = is_bad at refl e
own-is old before n (LineLost role symbol) e = is_lost role symbol refl e.0 e.1
own-is old before n other e = absurd e

own-left : (old before : FolderState) (n : DecodeNames) (answer : Status) → GoesOn old before → OwnIs old before n answer
    → Left old before n
own-left old before n answer g (is_long e keeps longer) = inl (keeps n.file)
own-left old before n answer g (is_bad at e bad) = bad-left old before n at g bad
own-left old before n answer g (is_lost role symbol e rate lost) = lost-left old before n role symbol g lost

left-by : (old before : FolderState) (n : DecodeNames) (end : Result ℕ Stop) → GoesOn old before → Ends old before n end → Left old before n
left-by old before n (Ok count) g w =
    left-nearest old before n w.mode w.content (samples_in w.content) w.finishes.labels w.octets g w.reads (all-of w.content)
    (least-nearest n.rate (samples_in w.content) w.finishes.labels w.finishes.least.least) w.finishes.carried
    (HoldsFront-all before n.file w.octets w.file)
left-by old before n (Err (Own answer)) g e = own-left old before n answer g (own-is old before n answer e)
left-by old before n (Err (Read fault)) g e = front-left old before n g e
left-by old before n (Err (Write fault)) g e = left-part old before n g e.1
left-by old before n (Err (Say fault)) g e = absurd e
left-by old before n (Err NoMemory) g e = inl (e.keeps n.file)

-- only a recording that is too long is refused
own-refused : (old before : FolderState) (n : DecodeNames) (answer : Status) → IsRefusal answer → OwnIs old before n answer
    → KeepsAll old before
own-refused old before n answer r given = grind (arith)

pub refused-by : (old before : FolderState) (n : DecodeNames) (end : Result ℕ Stop) → Ends old before n end → IsRefusal (end_status end)
    → KeepsAll old before
refused-by old before n end ends = grind (arith, refusal-own, own-refused, own-is)

left-later : (old before new : FolderState) (n : DecodeNames) → GoesOn old before → KeepsName before new n.file → Left old before n
    → Left old new n
left-later old before new n g k given = grind (arith, told_later)

whole-of : (old before new : FolderState) (n : DecodeNames) → GoesOn old before → OnlyOutputs before new []
    → IsDone (decode_job n) old before new → HoldsWhole old new n
whole-of old before new n on last d = grind (arith, told_later)

-- where the answer is that a line was lost, it was one of the trellis code
lost-rate : (old before : FolderState) (n : DecodeNames) (end : Result ℕ Stop) (role : Role) (symbol : ℕ) → Ends old before n end
    → end_status end ≡ LineLost role symbol → n.rate ≡ rates.Trellis
lost-rate old before n end role symbol ends e = grind (arith)

lost-plain : (role : Role) (symbol : ℕ) → IsPlain (LineLost role symbol)
lost-plain role symbol = record { write = λ e. cc; memory = λ e. cc }

-- what the command promises holds of every answer
pub headline-of : (words : List (List ℕ)) (old new : FolderState) (n : DecodeNames) (s : Status) → Answers (decode_job n) words old new s
    → Headline old new n s
headline-of words old new n s a =
    let last : OnlyOutputs a.before new [] = last-only octets_line words a.before new a.end s a.says in
    record {
      shared = shared-of (decode_job n) words old new s a (λ e. e.0.keeps);
      file = left-later old a.before new n a.only.goes_on (last.names n.file tt) (left-by old a.before n a.end a.only.goes_on a.ends.0);
      whole = λ e. whole-of old a.before new n a.only.goes_on last (done-of (decode_job n) words old new s a e);
      never_lost = λ role symbol rate e.
          let answer = last-plain octets_line words a.before new a.end s (LineLost role symbol) a.says e (lost-plain role symbol) in
          let own : n.rate ≡ rates.Trellis = lost-rate old a.before n a.end role symbol a.ends.0 answer in cc (sym rate ∙ own);
    }

-- a line is not lost and followed to its end at once
never-both : (rate : Rate) (content : List ℕ) (symbol : ℕ) → LostIs (trellis_at rate) line_depth (samples_in content) None
    → LostIs (trellis_at rate) line_depth (samples_in content) (Some symbol) → ⊥
never-both rate content symbol followed lost = followed (symbol + 1) (omega (arith, lost.within)) lost.over

own-never : (old before : FolderState) (n : DecodeNames) (answer : Status) → IsTrue (old.tells n.rec)
    → IsRecording n.rate (octets_at old n.rec) → OwnIs old before n answer → ⊥
own-never old before n answer told r (is_long e keeps longer) = never-longer (length (octets_at old n.rec)) r.within (longer told)
own-never old before n answer told r (is_bad at e (inl bad)) = grind (arith, never-bad)
own-never old before n answer told r (is_bad at e (inr cut)) = grind (arith, content-same)
own-never old before n answer told r (is_lost role symbol e rate lost) =
    let same = content-same n.rate r.mode lost.mode r.content lost.content (sym r.octets_are ∙ lost.reads.read told) in
    never-both n.rate r.content symbol (r.not_lost rate)
    (subst (λ (xs : List ℕ). LostIs (trellis_at n.rate) line_depth (samples_in xs) (Some symbol)) (sym same) lost.lost)

-- and when it is done
pub completes-of : (words : List (List ℕ)) (old new : FolderState) (n : DecodeNames) (s : Status) → Answers (decode_job n) words old new s
    → Completes old new n s
completes-of words old new n s a sound told r =
    done-unless-memory (decode_job n) words old new s a sound
    (λ answer ends. own-never old a.before n answer told r (own-is old a.before n answer ends.0))
