-- From every answer to what the command promises.
use Rattle.signal_commands.proofs.Names.{◌≡◌, ◌∙◌, ℕ, ◌+◌, ◌*◌, ◌≤◌, ◌<◌, IsTrue, List, [], ◌++◌, length, Result, ap, arith, option_map}
use Rattle.signal_commands.proofs.Names.{never-longer, never-bad, IsDone, done-of, shared-of, done-unless-memory, Answers, margin_line}
use Rattle.signal_commands.proofs.Names.{IsRefusal, end_status, Status, Stop, Measured, FolderState, octets_at, KeepsAll, OnlyOutputs}
use Rattle.signal_commands.proofs.Names.{header_of, samples_in, Mode, FILE_LIMIT, Measures, MarginNames}
use Rattle.std.proofs.Common.{nat_lt}
use Rattle.noise_bound.proofs.Margins.{sure-is-decoded}
use Rattle.recordings.specs.declared.rate.Rate.TheVariants as rates
use Rattle.signal_commands.specs.Margins.Ends.{EndsOwn, margin_job}
use Rattle.signal_commands.specs.Margins.Completes.{AreMeasurable, Completes}
use Rattle.signal_commands.specs.Margins.Headline.{MeasuresAll, Headline}

-- no file ever changes
pub refused-by : (old before : FolderState) (end : Result Measured Stop) → OnlyOutputs old before [] → IsRefusal (end_status end)
    → KeepsAll old before
refused-by old before end only r name = only.names name tt

measures-of : (old before new : FolderState) (n : MarginNames) → IsDone (margin_job n) old before new → MeasuresAll old new n
measures-of old before new n d =
    let m : Measures old n d.done = d.ends.0 in
    record {
      mode = m.mode;
      content = m.content;
      recording_is = m.reads.read;
      octets = m.octets;
      file_is = m.file_is;
      fits = m.fits;
      price = d.done.cost;
      costs = m.costs;
      said = d.said ∙ ap (option_map (λ (x : List ℕ). x ++ margin_line d.done.cost (nat_lt d.done.cost 10485760))) d.ends.1;
      decoded = λ low. (let r = sure-is-decoded m.mode m.octets (samples_in m.content) d.done.cost 128 m.costs low (omega arith) in
          record { not_lost = r.0; released = r.1 });
    }

-- what the command promises holds of every answer
pub headline-of : (words : List (List ℕ)) (old new : FolderState) (n : MarginNames) (s : Status) → Answers (margin_job n) words old new s
    → Headline old new n s
headline-of words old new n s a =
    record {
      shared = shared-of (margin_job n) words old new s a (λ e name. a.only.names name tt);
      measures = λ e. measures-of old a.before new n (done-of (margin_job n) words old new s a e);
    }

file-never-longer : (count : ℕ) → count ≤ 1048576 → FILE_LIMIT < count → ⊥
file-never-longer count within longer = omega (arith, within, longer)

behind-header : (mode : Mode) (content : List ℕ) → length (header_of mode ++ content) ≡ 8 + length content
behind-header mode content = grind (arith)

recorded-length : (recording octets : List ℕ) (r : AreMeasurable recording octets) → length recording ≡ 8 + 8 * length octets
recorded-length recording octets r = grind (arith, behind-header)

own-never : (old : FolderState) (n : MarginNames) (answer : Status) → IsTrue (old.tells n.rec) → IsTrue (old.tells n.file)
    → AreMeasurable (octets_at old n.rec) (octets_at old n.file) → EndsOwn old n answer → ⊥
own-never old n answer rec file r given = grind (arith, recorded-length, never-longer, file-never-longer, never-bad)

-- and when it is done
pub completes-of : (words : List (List ℕ)) (old new : FolderState) (n : MarginNames) (s : Status) → Answers (margin_job n) words old new s
    → Completes old new n s
completes-of words old new n s a sound rec file r =
    done-unless-memory (margin_job n) words old new s a sound (λ answer ends. own-never old n answer rec file r ends.0)
