-- From single steps to how the making of a recording ends.
use Rattle.signal_commands.proofs.Names.{◌≡◌, ◌≢◌, ◌∙◌, inl, inr, ℕ, ◌+◌, ◌*◌, Bool, true, IsTrue, List, [], ◌∷◌, ◌++◌, length, refl, sym}
use Rattle.signal_commands.proofs.Names.{subst, arith, rules, append-nil, append_assoc, none-of-inputs, ReadTo-kept, are_apart, IsWithin}
use Rattle.signal_commands.proofs.Names.{IsNotWithin, ReadTo, StopCounts, Stop, Holds-kept, Holds-more, HoldsFront-all, HoldsFront-more}
use Rattle.signal_commands.proofs.Names.{HoldsFront-longer, OnlyOutput-reads, OnlyOutput-writes, OnlyOutput-trans, KeepsName-trans}
use Rattle.signal_commands.proofs.Names.{FolderState, octets_at, OnlyReads, OnlyWrites, Appended, PartlyAppended, Holds, HoldsFront}
use Rattle.signal_commands.proofs.Names.{OnlyOutput, header_at, Rate, Trellis, Quarters, Mode, IsPrefixOf, FILE_LIMIT, WritesAll}
use Rattle.signal_commands.proofs.Names.{LeavesPart, Begun, RecordedTo, IsRecordingOf, RecorderStands, EncodeNames, Recorder}
use Rattle.std.proofs.Common.{false}
use Rattle.line_coding.proofs.Standing.{modulated}
use Rattle.rate_4800.proofs.Standing.{modulated as quarters-modulated}
use Rattle.signal_commands.specs.declared.encode.recorder.Recorder.TheVariants as recorders
use Rattle.recordings.specs.Recording.{samples_each}
use Rattle.outside_calls.specs.Outputs.{KeptOrEmpty}
use Rattle.command_base.proofs.Reading.{ReadTo-begins}
use Rattle.signal_commands.specs.Encoding.Words.{inputs_of, outputs_of}
use Rattle.signal_commands.specs.Encoding.Ends.{WritesPart, WritesFront, EndsBy}
use Rattle.signal_commands.proofs.Encoding.Longer.{goes_on}

file-apart : (n : EncodeNames) → are_apart (inputs_of n) (outputs_of n) ≡ true → n.file ≢ n.rec
file-apart n e same = (none-of-inputs (inputs_of n) (outputs_of n) e).0.0 (sym same)

-- what a recorder made stands behind the header
recorded-as : (rate : Rate) (mode : Mode) (kept : Recorder) (octets recorded : List ℕ) → RecorderStands rate mode kept octets recorded
    → IsRecordingOf rate mode octets (header_at rate mode ++ recorded) (samples_each rate * length octets)
recorded-as rate mode kept octets recorded s = grind (arith, modulated, quarters-modulated)

-- no octets are recorded as the header alone
nothing-recorded : (rate : Rate) (mode : Mode) → IsRecordingOf rate mode [] (header_at rate mode ++ []) 0
nothing-recorded Trellis mode = record {
  samples = [];
  modulated = record {
    line = [];
    quads = [];
    labels = [];
    end = 0;
    scrambled = record { lengths = refl; each = λ i within. absurd (omega (arith, within)) };
    in_fours = refl;
    are_quads = search rules;
    encoded = record { leads = refl; turned_is = refl; uncoded_is = refl };
    points = refl;
  };
  count_is = refl;
  recording_is = refl;
}
nothing-recorded Quarters mode = record {
  samples = [];
  modulated = record {
    line = [];
    turns = [];
    scrambled = record { lengths = refl; each = λ i within. absurd (omega (arith, within)) };
    in_twos = refl;
    are_turns = search rules;
    points = refl;
  };
  count_is = refl;
  recording_is = refl;
}

-- The output holds the beginning of a recording of octets with which the file begins: so it holds the beginning of the
-- file's recording.
part-of : (start now : FolderState) (n : EncodeNames) (octets recording : List ℕ) (samples : ℕ) → IsWithin start n.file FILE_LIMIT →
    (IsTrue (start.tells n.file) → IsPrefixOf octets (octets_at start n.file)) → IsRecordingOf n.rate n.mode octets recording samples
    → HoldsFront now n.rec recording → WritesPart start now n
part-of start now n octets recording samples within front recorded holds = by (start.tells n.file) refl
  where
    by : (told : Bool) → start.tells n.file ≡ told → WritesPart start now n
    by true e =
        let f = front e in
        let g = goes_on n.rate n.mode octets recording samples f.0 recorded in
        record {
          recording = g.whole;
          samples = g.samples;
          records = record { octets = octets ++ f.0; within = within; read = λ told. f.1; recorded = g.recorded };
          rec = HoldsFront-longer now n.rec recording g.whole holds g.front;
        }
    by false e = record {
      recording = recording;
      samples = samples;
      records = record { octets = octets; within = within; read = λ told. absurd (untold (sym e ∙ told)); recorded = recorded };
      rec = holds;
    }
      where
        untold : false ≡ true → ⊥
        untold h = cc

-- the output after a read
held-after : (old mid : FolderState) (name octets : List ℕ) → OnlyReads old mid → Holds old name octets → Holds mid name octets
held-after old mid name octets r holds = Holds-kept old mid name octets r.goes_on holds (r.names name)

-- what was recorded so far is left, also after a read
pub recorded-front : (start old mid : FolderState) (n : EncodeNames) (kept : Recorder) (at : ℕ) → RecordedTo start old n kept at
    → OnlyReads old mid → WritesFront start mid n
recorded-front start old mid n kept at r reads = record {
  octets = r.octets;
  within = r.read.within;
  front = ReadTo-begins start old n.file FILE_LIMIT at r.octets r.read;
  recording = header_at n.rate n.mode ++ r.recorded;
  samples = samples_each n.rate * length r.octets;
  recorded = recorded-as n.rate n.mode kept r.octets r.recorded r.stands;
  rec = held-after old mid n.rec (header_at n.rate n.mode ++ r.recorded) reads r.rec;
}

pub front-part : (start new : FolderState) (n : EncodeNames) → WritesFront start new n → WritesPart start new n
front-part start new n w =
    part-of start new n w.octets w.recording w.samples w.within w.front w.recorded (HoldsFront-all new n.rec w.recording w.rec)

-- a write failed, behind what the output held
write-part : (start mid new : FolderState) (n : EncodeNames) (octets held piece : List ℕ) (samples : ℕ) → IsWithin start n.file FILE_LIMIT
    → OnlyWrites mid new n.rec →
    (IsTrue (start.tells n.file) → IsPrefixOf octets (octets_at start n.file)) → IsRecordingOf n.rate n.mode octets (held ++ piece) samples
    → Holds mid n.rec held → PartlyAppended mid new n.rec piece → LeavesPart start new n
write-part start mid new n octets held piece samples within writes front recorded holds puts =
    inr (part-of start new n octets (held ++ piece) samples within front recorded
    (HoldsFront-more mid new n.rec held piece writes.goes_on holds puts))

-- the output was not made
pub create-part : (old mid new : FolderState) (n : EncodeNames) → IsWithin old n.file FILE_LIMIT → OnlyReads old mid
    → KeptOrEmpty mid new n.rec → LeavesPart old new n
create-part old mid new n within reads (inl k) = inl (KeepsName-trans old mid new n.rec reads.goes_on (reads.names n.rec) k)
create-part old mid new n within reads (inr empty) =
    inr (part-of old new n [] (header_at n.rate n.mode ++ []) 0 within (λ told. (octets_at old n.file, refl))
    (nothing-recorded n.rate n.mode) (λ told. ([], (header_at n.rate n.mode ++ [], refl), empty told)))

-- a piece more is recorded
pub recorded-more : (start old mid new : FolderState) (n : EncodeNames) (kept next : Recorder) (at count : ℕ) (piece made : List ℕ)
    (r : RecordedTo start old n kept at) → are_apart (inputs_of n) (outputs_of n) ≡ true →
    ReadTo start mid n.file FILE_LIMIT (at + count) (r.octets ++ piece)
    → RecorderStands n.rate n.mode next (r.octets ++ piece) (r.recorded ++ made) →
    OnlyReads old mid → OnlyWrites mid new n.rec → Appended mid new n.rec made → RecordedTo start new n next (at + count)
recorded-more start old mid new n kept next at count piece made r apart read stands reads writes puts = record {
  octets = r.octets ++ piece;
  recorded = r.recorded ++ made;
  stands = stands;
  read = ReadTo-kept start mid new n.file FILE_LIMIT (at + count) (r.octets ++ piece) read writes.goes_on
      (writes.names n.file (file-apart n apart));
  only = OnlyOutput-trans n.rec r.only (OnlyOutput-trans n.rec (OnlyOutput-reads n.rec reads) (OnlyOutput-writes n.rec writes));
  rec = subst (Holds new n.rec) (append_assoc (header_at n.rate n.mode) r.recorded made)
      (Holds-more mid new n.rec (header_at n.rate n.mode ++ r.recorded) made writes.goes_on (held-after old mid n.rec _ reads r.rec) puts);
}

-- a piece more was not wholly written
pub piece-part : (start old mid new : FolderState) (n : EncodeNames) (kept next : Recorder) (at count : ℕ) (piece made : List ℕ)
    (r : RecordedTo start old n kept at) → ReadTo start mid n.file FILE_LIMIT (at + count) (r.octets ++ piece)
    → RecorderStands n.rate n.mode next (r.octets ++ piece) (r.recorded ++ made) →
    OnlyReads old mid → OnlyWrites mid new n.rec → PartlyAppended mid new n.rec made → LeavesPart start new n
piece-part start old mid new n kept next at count piece made r read stands reads writes puts =
    write-part start mid new n (r.octets ++ piece) (header_at n.rate n.mode ++ r.recorded) made
    (samples_each n.rate * length (r.octets ++ piece)) r.read.within writes
    (ReadTo-begins start mid n.file FILE_LIMIT (at + count) (r.octets ++ piece) read)
    (subst (λ (xs : List ℕ). IsRecordingOf n.rate n.mode (r.octets ++ piece) xs (samples_each n.rate * length (r.octets ++ piece)))
    (sym (append_assoc (header_at n.rate n.mode) r.recorded made))
    (recorded-as n.rate n.mode next (r.octets ++ piece) (r.recorded ++ made) stands))
    (held-after old mid n.rec (header_at n.rate n.mode ++ r.recorded) reads r.rec) puts

-- the file is at its end
pub recorded-whole : (start old mid : FolderState) (n : EncodeNames) (kept : Recorder) (at : ℕ) (r : RecordedTo start old n kept at)
    → OnlyReads old mid → (IsTrue (start.tells n.file) → r.octets ++ [] ≡ octets_at start n.file) →
    WritesAll start mid n (samples_each n.rate * at)
recorded-whole start old mid n kept at r reads end = grind (arith, append-nil, recorded-as, held-after)

-- the header was not written
pub header-part : (start old new : FolderState) (n : EncodeNames) → Begun start old n → OnlyWrites old new n.rec
    → PartlyAppended old new n.rec (header_at n.rate n.mode) → LeavesPart start new n
header-part start old new n b writes puts =
    write-part start old new n [] [] (header_at n.rate n.mode) 0 b.within writes (λ told. (octets_at start n.file, refl))
    (nothing-recorded n.rate n.mode) b.empty puts

-- the file is too long, or no octet was read at its limit
pub not-begun : (old new : FolderState) (n : EncodeNames) (stop : Stop) → OnlyReads old new → IsNotWithin old new n.file FILE_LIMIT 2 stop
    → EndsBy old new n stop
not-begun old new n stop reads long = grind (arith)

-- what was counted then: a fault of the file, or nothing
pub refused-counts : (old new : FolderState) (n : EncodeNames) (stop : Stop) → IsNotWithin old new n.file FILE_LIMIT 2 stop
    → StopCounts old new (n.file ∷ []) (n.rec ∷ []) stop
refused-counts old new n stop why = grind (arith)

-- ---- the output alone is touched

pub writes-only : (old mid new : FolderState) (n : EncodeNames) → OnlyReads old mid → OnlyWrites mid new n.rec → OnlyOutput old new n.rec
writes-only old mid new n reads writes = grind (arith)

-- the header stands in the output, and nothing is recorded yet
pub recorded-none : (start old now : FolderState) (n : EncodeNames) (kept : Recorder) → Begun start old n
    → are_apart (inputs_of n) (outputs_of n) ≡ true → RecorderStands n.rate n.mode kept [] [] → OnlyWrites old now n.rec
    → Appended old now n.rec (header_at n.rate n.mode) → RecordedTo start now n kept 0
recorded-none start old now n kept b apart stands writes puts = grind (arith, file-apart, append-nil)

-- reading alone leaves it as it is
pub recorded-read : (start old mid : FolderState) (n : EncodeNames) (kept : Recorder) (at place : ℕ) → place ≡ at
    → RecordedTo start old n kept at → OnlyReads old mid → RecordedTo start mid n kept place
recorded-read start old mid n kept at place same r reads = grind (arith)
