-- From single steps to how the measuring of a recording ends.
use Rattle.signal_commands.proofs.Names.{◌≡◌, ◌≢◌, ◌∙◌, ℕ, ◌+◌, ◌*◌, ◌≤◌, ◌<◌, min, IsTrue, List, [], ◌∷◌, ◌++◌, length, take, sym, ap}
use Rattle.signal_commands.proofs.Names.{subst, arith, append-nil, append_assoc, length-take, take_all, reads-all, ReadTo-kept, ReadTo}
use Rattle.signal_commands.proofs.Names.{ReadBehind, RECORDING_LIMIT, Measured, MarginStands, OnlyReads-trans, FolderState, octets_at}
use Rattle.signal_commands.proofs.Names.{OnlyReads, samples_in-more, samples_in-append, header_of, sample_at, samples_in, HEADER, Mode}
use Rattle.signal_commands.proofs.Names.{FILE_LIMIT, Measures, Opened, MeasuredTo, MarginNames, Sample}
use Rattle.noise_bound.proofs.Margins.{measured}
use Rattle.recordings.specs.declared.rate.Rate.TheVariants as rates
use Rattle.command_base.specs.Recordings.{IsAtEnd}
use Rattle.command_base.proofs.Behind.{behind-more}
use Rattle.signal_commands.specs.Margins.Ends.{AreOpen, HasOtherLength}

-- ---- samples

-- two samples more of a piece
pub two-more-samples : (samples : List Sample) (recorded : List ℕ) (place : ℕ) (first second : Sample) → 8 * place + 8 ≤ length recorded
    → first ≡ sample_at recorded (2 * place) → second ≡ sample_at recorded (2 * place + 1)
    → ((samples ++ samples_in (take (4 * (2 * place)) recorded)) ++ first ∷ []) ++ second ∷ [] ≡ samples ++ samples_in
    (take (4 * (2 * (place + 1))) recorded)
two-more-samples samples recorded place first second within one two =
    let before : List Sample = samples_in (take (4 * (2 * place)) recorded) in
    let same : 4 * (2 * place + 1 + 1) ≡ 4 * (2 * (place + 1)) = omega arith in
    let inner : (before ++ first ∷ []) ++ second ∷ [] ≡ samples_in (take (4 * (2 * (place + 1))) recorded) =
    (λ i. (before ++ one i ∷ []) ++ two i ∷ [])
    ∙ ap (λ (xs : List Sample). xs ++ sample_at recorded (2 * place + 1) ∷ [])
    (sym (samples_in-more (2 * place) recorded (omega (arith, within))))
    ∙ sym (samples_in-more (2 * place + 1) recorded (omega (arith, within)))
    ∙ ap (λ (count : ℕ). samples_in (take count recorded)) same in
    ap (λ (xs : List Sample). xs ++ second ∷ []) (append_assoc samples before (first ∷ []))
    ∙ append_assoc samples (before ++ first ∷ []) (second ∷ [])
    ∙ ap (λ (xs : List Sample). samples ++ xs) inner

-- ---- how far it is measured

eight : (mode : Mode) → HEADER + 8 * 0 ≡ length (header_of mode ++ [])
eight mode = grind (arith)

-- nothing is measured yet
pub measured-none : (start now : FolderState) (n : MarginNames) (mode : Mode) (m : Measured) → Opened start now n mode
    → MarginStands mode m [] [] → MeasuredTo start now n mode m 0
measured-none start now n mode m o stands = grind (arith, eight, append-nil)

-- one piece more is
pub measured-more : (start old mid new : FolderState) (n : MarginNames) (mode : Mode) (m next : Measured) (at count read : ℕ)
    (piece recorded : List ℕ) → (h : MeasuredTo start old n mode m at) → OnlyReads old mid → OnlyReads mid new
    → ReadTo start mid n.file FILE_LIMIT (at + count) (h.octets ++ piece)
    → ReadTo start new n.rec RECORDING_LIMIT (HEADER + 8 * at + read) ((header_of mode ++ h.content) ++ recorded)
    → length recorded ≡ read → read ≡ 8 * count → MarginStands mode next (h.octets ++ piece) (samples_in h.content ++ samples_in recorded)
    → MeasuredTo start new n mode next (at + count)
measured-more start old mid new n mode m next at count read piece recorded h first second file rec long fits stands =
    let same : HEADER + 8 * at + read ≡ HEADER + 8 * (at + count) = omega (arith, fits) in
    record {
      opened = record { begins = h.opened.begins; reads = OnlyReads-trans h.opened.reads (OnlyReads-trans first second) };
      octets = h.octets ++ piece;
      content = h.content ++ recorded;
      stands = subst (λ (xs : List Sample). MarginStands mode next (h.octets ++ piece) xs)
          (sym (samples_in-append h.content recorded (omega (arith, h.rec.at_is)))) stands;
      file = ReadTo-kept start mid new n.file FILE_LIMIT (at + count) (h.octets ++ piece) file second.goes_on (second.names n.file);
      rec = subst (λ (place : ℕ). ReadBehind start new n.rec rates.Trellis mode (h.content ++ recorded) place) same
          (behind-more start new n.rec rates.Trellis mode h.content recorded (HEADER + 8 * at) read h.rec.at_is long rec);
    }

-- no octet was read where there was room: the input is at its end
pub ended : (start now : FolderState) (name : List ℕ) (limit at count room : ℕ) (octets piece : List ℕ)
    → ReadTo start now name limit (at + count) (octets ++ piece)
    → (count < room → IsTrue (start.tells name) → octets ++ piece ≡ octets_at start name) → count < room → count ≡ 0 → IsAtEnd start name at
ended start now name limit at count room octets piece r end few none told = grind (arith)

-- both inputs are at their ends
pub measures-all : (start now : FolderState) (n : MarginNames) (mode : Mode) (m : Measured) (at : ℕ) → MeasuredTo start now n mode m at
    → IsAtEnd start n.file at → IsAtEnd start n.rec (HEADER + 8 * at) → Measures start n m
measures-all start now n mode m at h file_end rec_end = record {
  mode = mode;
  content = h.content;
  reads = reads-all start now n.rec rates.Trellis mode h.content (HEADER + 8 * at) h.rec rec_end;
  octets = h.octets;
  within = h.file.within;
  file_is = λ told. h.file.front told ∙ take_all at (octets_at start n.file) (file_end told);
  fits = omega (arith, h.rec.at_is, h.file.count);
  costs = measured mode m h.octets (samples_in h.content) h.stands;
}

-- ---- one input ends before the other

-- an input has the octets that were read of it
has-read : (start now : FolderState) (name : List ℕ) (limit at : ℕ) (octets : List ℕ) → ReadTo start now name limit at octets
    → IsTrue (start.tells name) → at ≤ length (octets_at start name)
has-read start now name limit at octets r told = grind (arith, length-take)

lengths : (at count read rec file : ℕ) → at + count ≤ file → (count < 512 → file ≡ at + count) → 8 + 8 * at + read ≤ rec
    → (read < 4096 → rec ≡ 8 + 8 * at + read) → count ≤ 512 → read ≤ 4096 → read ≢ 8 * count
    → (rec ≢ 8 + 8 * file) × (8 + 8 * at + min read (8 * count) ≡ min rec (8 + 8 * file))
lengths at count read rec file file_has file_end rec_has rec_end few most other = grind (arith)

pub misfit : (start mid new : FolderState) (n : MarginNames) (mode : Mode) (at count read place : ℕ) (octets front piece recorded : List ℕ)
    → AreOpen start n mode → ReadTo start mid n.file FILE_LIMIT (at + count) (octets ++ piece)
    → (count < 512 → IsTrue (start.tells n.file) → octets ++ piece ≡ octets_at start n.file)
    → ReadTo start new n.rec RECORDING_LIMIT (8 + 8 * at + read) (front ++ recorded)
    → (read < 4096 → IsTrue (start.tells n.rec) → front ++ recorded ≡ octets_at start n.rec)
    → count ≤ 512 → read ≤ 4096 → read ≢ 8 * count → place ≡ 8 + 8 * at + min read (8 * count) → HasOtherLength start n place
misfit start mid new n mode at count read place octets front piece recorded begins file file_end rec rec_end few most other place_is =
    record {
      mode = mode;
      begins = begins;
      other = λ rec_told file_told. (both rec_told file_told).0;
      at_is = λ rec_told file_told. place_is ∙ (both rec_told file_told).1;
    }
  where
    both : IsTrue (start.tells n.rec) → IsTrue (start.tells n.file)
        → (length (octets_at start n.rec) ≢ 8 + 8 * length (octets_at start n.file))
        × (8 + 8 * at + min read (8 * count) ≡ min (length (octets_at start n.rec)) (8 + 8 * length (octets_at start n.file)))
    both rec_told file_told =
        lengths at count read (length (octets_at start n.rec)) (length (octets_at start n.file))
        (has-read start mid n.file FILE_LIMIT (at + count) (octets ++ piece) file file_told)
        (λ short. sym (file.count ∙ ap (λ (xs : List ℕ). length xs) (file_end short file_told)))
        (has-read start new n.rec RECORDING_LIMIT (8 + 8 * at + read) (front ++ recorded) rec rec_told)
        (λ short. sym (rec.count ∙ ap (λ (xs : List ℕ). length xs) (rec_end short rec_told))) few most other
