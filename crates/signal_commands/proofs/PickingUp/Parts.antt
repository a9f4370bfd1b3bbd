-- From what was played to how the picking up of a recording ends.
use Rattle.signal_commands.proofs.Names.{arith, ◌≡◌, ◌≢◌, inl, inr, ℕ, ◌+◌, ◌%◌, List, [], ◌++◌, length, sym, subst, Option, None, GoesOnBy}
use Rattle.signal_commands.proofs.Names.{ReadsRecording, IsNotOpened, Stop, Own, Read, Say, heard, LostIs, any_trellis, line_depth}
use Rattle.signal_commands.proofs.Names.{FolderState, OnlyReads, samples_in-front, samples_in, HEADER, Mode, PicksUpAll, is_long, is_other}
use Rattle.signal_commands.proofs.Names.{is_lost, AreFollowed, SaysPieces, Playing, Plays, StopsPlay, Sample}
use Rattle.recordings.specs.declared.rate.Rate.TheVariants as rates
use Rattle.command_base.proofs.Hearing.{said-nothing, said-after}
use Rattle.signal_commands.specs.PickingUp.Ends.{SampleCut, PicksUpFront, EndsBy}
use Rattle.signal_commands.proofs.PickingUp.Playings.{followed-by, followed-longer, plays-lost, says-pieces, SaysCounted, says-counted}
use Rattle.signal_commands.proofs.PickingUp.Playings.{stops-longer}

-- a line that isn't lost, with all said that its samples give
pub not-lost : (start now : FolderState) (mode : Mode) (p : Playing) (samples : List Sample) → Plays start now mode p samples
    → p.reader.reading.decoder.lost ≡ None → LostIs any_trellis line_depth samples None
not-lost start now mode p samples h lost = grind (arith, plays-lost)

pub says-all : (start now : FolderState) (mode : Mode) (p : Playing) (samples : List Sample) → Plays start now mode p samples
    → p.reader.reading.decoder.lost ≡ None → p.reader.reading.decoder.pending ≡ []
    → SaysPieces start now mode samples
says-all start now mode p samples h lost taken = grind (arith, heard, says-pieces)

-- a read fails behind these samples
pub front-part : (start now : FolderState) (rec : List ℕ) (mode : Mode) (p : Playing) (content : List ℕ)
    → GoesOnBy start rec rates.Trellis mode content → Plays start now mode p (samples_in content) → p.reader.reading.decoder.lost ≡ None
    → p.reader.reading.decoder.pending ≡ [] → PicksUpFront start now rec
front-part start now rec mode p content w h lost taken =
    let s = samples_in-front content w.rest in
    let followed : AreFollowed (samples_in content) (samples_in content) =
    followed-by None (samples_in content) (not-lost start now mode p (samples_in content) h lost) in
    record {
      mode = mode;
      content = content ++ w.rest;
      reads = w.reads;
      first = samples_in content;
      followed = subst (λ (xs : List Sample). AreFollowed xs (samples_in content)) (sym s.1)
          (followed-longer (samples_in content) s.0 (samples_in content) followed);
      says = says-all start now mode p (samples_in content) h lost taken;
    }

-- the samples are not all played
pub stops-by : (start now : FolderState) (rec : List ℕ) (mode : Mode) (content : List ℕ) (stop : Stop)
    → GoesOnBy start rec rates.Trellis mode content → StopsPlay start now mode (samples_in content) stop → EndsBy start now rec stop
stops-by start now rec mode content (Own answer) w h =
    let s = samples_in-front content w.rest in
    let more : StopsPlay start now mode (samples_in (content ++ w.rest)) (Own answer) =
    subst (λ (xs : List Sample). StopsPlay start now mode xs (Own answer)) (sym s.1)
    (stops-longer start now mode (samples_in content) s.0 (Own answer) h) in
    is_lost more.0 more.1 more.2 (record {
      mode = mode;
      content = content ++ w.rest;
      reads = w.reads;
      role_is = more.3.role_is;
      lost = more.3.lost;
      says = more.3.says;
    })
stops-by start now rec mode content (Say fault) w h =
    let s = samples_in-front content w.rest in
    record {
      mode = mode;
      content = content ++ w.rest;
      reads = w.reads;
      first = h.first;
      followed = subst (λ (xs : List Sample). AreFollowed xs h.first) (sym s.1)
          (followed-longer (samples_in content) s.0 h.first h.followed);
      says = h.says;
    }
stops-by start now rec mode content other w never = grind (arith)

-- the last sample is cut
pub cut-by : (start now : FolderState) (rec : List ℕ) (mode : Mode) (p : Playing) (content : List ℕ) (at : ℕ)
    → ReadsRecording start rec rates.Trellis mode content → length content % 4 ≢ 0 → at + length content % 4 ≡ HEADER + length content
    → Plays start now mode p (samples_in content) → p.reader.reading.decoder.lost ≡ None → p.reader.reading.decoder.pending ≡ []
    → SampleCut start now rec at
cut-by start now rec mode p content at reads cut at_is h lost taken = record {
  mode = mode;
  content = content;
  reads = reads;
  cut = cut;
  at_is = at_is;
  not_lost = not-lost start now mode p (samples_in content) h lost;
  says = says-all start now mode p (samples_in content) h lost taken;
}

-- all of them are played
pub all-by : (start now : FolderState) (rec : List ℕ) (mode : Mode) (p : Playing) (content : List ℕ)
    → ReadsRecording start rec rates.Trellis mode content → length content % 4 ≡ 0 → Plays start now mode p (samples_in content)
    → p.reader.reading.decoder.lost ≡ None → p.reader.reading.decoder.pending ≡ [] → PicksUpAll start now rec p.listener.pieces
all-by start now rec mode p content reads whole h lost taken =
    let s : SaysCounted start now mode (samples_in content) p.listener.pieces =
    subst (λ (l : Option ℕ). SaysCounted start now mode (heard l (samples_in content)) p.listener.pieces) lost
    (says-counted start now mode p (samples_in content) h taken) in
    record {
      mode = mode;
      content = content;
      reads = reads;
      followed = record { whole = whole; not_lost = not-lost start now mode p (samples_in content) h lost };
      says = s.says;
      count_is = s.count_is;
    }

-- the recording is not opened
pub not-opened : (old new : FolderState) (rec : List ℕ) (stop : Stop) → OnlyReads old new → IsNotOpened old new rec rates.Trellis 1 stop
    → EndsBy old new rec stop
not-opened old new rec (Own answer) reads (inl long, stand) = is_long long.0 (said-after old old new [] reads (said-nothing old)) long.1
not-opened old new rec (Own answer) reads (inr bad, stand) = is_other bad.0 bad.1 (said-after old old new [] reads (said-nothing old)) bad.2
not-opened old new rec (Read fault) reads fails = inl (said-after old old new [] reads (said-nothing old))
not-opened old new rec other reads never = grind (arith)
