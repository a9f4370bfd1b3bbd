-- A file that was encoded is decoded.
use Rattle.command_laws.proofs.Names.{◌≡◌, ◌∙◌, inl, inr, ◌⊎◌, ℕ, ◌<◌, ◌≤◌, Bool, List, [], ◌∷◌, ◌++◌, length, slice_index, Some, None}
use Rattle.command_laws.proofs.Names.{refl, sym, ap, subst, arith, length-append, flat_map, content-same, IsSound, Status, Done, NoMemory}
use Rattle.command_laws.proofs.Names.{LostIs, AreOctets, octets-held, FolderState, octets_at, mode_number, sample_octets, samples_in, Rate}
use Rattle.command_laws.proofs.Names.{tap_of, Mode, trellis_at, DemodulatesAt, Sample}
use Rattle.std.proofs.Common.{append-nil}
use Rattle.frame_check.specs.Bits.{bits_of}
use Rattle.frame_check.proofs.BitLists.{length-bits_of, same_octets}
use Rattle.scramblers.proofs.Readings.{Descrambles_once}
use Rattle.exact_decoder.specs.Surviving.Survivors.{IsLeast}
use Rattle.outside_calls.specs.Folder.{held_at}
use Rattle.recordings.specs.Recording.{header_at}
use Rattle.signal_commands.specs.Encoding.Recorder.{IsRecordingOf}
use Rattle.signal_commands.specs.Encoding.Words.{EncodeNames}
use Rattle.signal_commands.specs.Encoding.Headline as encode
use Rattle.signal_commands.specs.Decoding.Words.{DecodeNames, inputs_of, outputs_of}
use Rattle.signal_commands.specs.Decoding.Rates.{line_at}
use Rattle.signal_commands.specs.Decoding.Headline as decode
use Rattle.signal_commands.specs.Decoding.Completes.{IsRecording, Completes}
use Rattle.command_laws.specs.Files.{AreOfFile, FilesComeBack}
use Rattle.command_laws.proofs.Sent.{SentLaws, IsSent, is-sent}

-- octets whose bits begin with those of others, with fewer than eight behind them, are these
whole-octets : (octets others : List ℕ) (rest : List Bool) → AreOctets octets → AreOctets others → bits_of octets ≡ bits_of others ++ rest
    → length rest < 8 → octets ≡ others
whole-octets octets others [] are also e few = same_octets octets others are also (e ∙ append-nil (bits_of others))
whole-octets octets others (bit ∷ rest) are also e few =
    absurd (omega (arith, ap length e, length-append (bits_of others) (bit ∷ rest), length-bits_of octets, length-bits_of others))

mode-same : (rate : Rate) (a b : Mode) → mode_number rate a ≡ mode_number rate b → a ≡ b
mode-same rate a b e = grind (arith)

-- a decoding of a recording of octets gives the octets
decoded-same : (rate : Rate) (mode : Mode) (octets recording others : List ℕ) (count : ℕ) → AreOctets octets
    → (h : IsRecordingOf rate mode octets recording count) → IsSent rate (tap_of mode) (bits_of octets) h.samples
    → decode.IsDecoding rate recording others → others ≡ octets
decoded-same rate mode octets recording others count are h sent d =
    let content : List ℕ = flat_map sample_octets h.samples in
    let whole : header_at rate mode ++ content ≡ header_at rate d.mode ++ d.content = sym h.recording_is ∙ d.recording_is in
    let same : content ≡ d.content = content-same rate mode d.mode content d.content whole in
    let alike : mode ≡ d.mode = mode-same rate mode d.mode (ap (λ (xs : List ℕ). slice_index xs 4) whole) in
    let heard : samples_in d.content ≡ h.samples = ap samples_in (sym same) ∙ sent.back.same in
    let least : IsLeast (trellis_at rate) h.samples d.labels = subst (λ (xs : List Sample). IsLeast (trellis_at rate) xs d.labels) heard
    d.nearest in
    let labels : d.labels ≡ sent.labels = sent.only.only d.labels least in
    let read : DemodulatesAt rate (tap_of mode) sent.labels d.carries.bits =
    subst (λ (xs : List ℕ). DemodulatesAt rate (tap_of mode) xs d.carries.bits) labels
    (subst (λ (it : Mode). DemodulatesAt rate (tap_of it) d.labels d.carries.bits) (sym alike) d.carries.read) in
    let bits : bits_of octets ≡ d.carries.bits =
    Descrambles_once (tap_of mode) (line_at rate sent.labels) (bits_of octets) d.carries.bits sent.carries read in
    sym (whole-octets octets others d.carries.whole.rest are d.carries.whole.small (bits ∙ d.carries.whole.bits_are) d.carries.whole.few)

-- such a recording is one that is decoded
is-recording : (rate : Rate) (mode : Mode) (octets recording : List ℕ) (count : ℕ) → length recording ≤ 8388616
    → (h : IsRecordingOf rate mode octets recording count) → IsSent rate (tap_of mode) (bits_of octets) h.samples
    → IsRecording rate recording
is-recording rate mode octets recording count short h sent = record {
  within = short;
  mode = mode;
  content = flat_map sample_octets h.samples;
  octets_are = h.recording_is;
  whole = omega (arith, sent.back.count);
  not_lost = λ e. subst (λ (xs : List Sample). LostIs (trellis_at rate) 128 xs None) (sym sent.back.same) (sent.kept e);
}

module _ (laws : SentLaws) (n : EncodeNames) (m : DecodeNames) (old mid was then : FolderState) (s : Status)
    (h : encode.Headline old mid n Done)
    (are : AreOfFile n m old mid was) (sound : IsSound was then (inputs_of m) (outputs_of m)) (d : decode.Headline was then m s) where
  abbrev Left : Type 0
  Left = ((s ≡ Done) × (held_at then m.file ≡ Some (octets_at old n.file))) ⊎ (s ≡ NoMemory)

  of-recording : (recording : List ℕ) (count : ℕ) → IsRecordingOf m.rate n.mode (octets_at old n.file) recording count
      → octets_at was m.rec ≡ recording → Completes was then m s → Left
  of-recording recording count r is completes =
      let sent = is-sent laws m.rate (tap_of n.mode) (bits_of (octets_at old n.file)) r.samples r.modulated in
      let right : IsRecording m.rate (octets_at was m.rec) =
      subst (λ (xs : List ℕ). IsRecording m.rate xs) (sym is)
      (is-recording m.rate n.mode (octets_at old n.file) recording count (subst (λ (xs : List ℕ). length xs ≤ 8388616) is are.rec_short) r
      sent) in
      elim (completes sound are.rec_given right) [
        | inl done ↦
            let left = (d.whole done).2 are.rec_given are.file_given in
            let decoded : decode.IsDecoding m.rate recording left.0 =
            subst (λ (xs : List ℕ). decode.IsDecoding m.rate xs left.0) is left.2 in
            inl (
              done,
              left.1 ∙ ap Some (decoded-same m.rate n.mode (octets_at old n.file) recording left.0 count are.file_octets r sent decoded),
            )
        | inr memory ↦ inr memory
      ]

  pub come-back : Completes was then m s → Left
  come-back completes =
      let whole = h.whole refl in
      let made = whole.2 are.file_told are.rec_told in
      let at_rate : IsRecordingOf m.rate n.mode (octets_at old n.file) made.0 whole.0 =
      subst (λ (rate : Rate). IsRecordingOf rate n.mode (octets_at old n.file) made.0 whole.0) are.rate_is made.1 in
      of-recording made.0 whole.0 at_rate (are.rec_is ∙ octets-held mid n.rec made.0 (made.2 are.rec_left)) completes

pub files-come-back : SentLaws → FilesComeBack
files-come-back laws n m old mid was then s h are sound d completes = come-back laws n m old mid was then s h are sound d completes
