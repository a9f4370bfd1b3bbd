-- What holds at either rate.
use Rattle.signal_commands.proofs.Names.{◌≡◌, ◌∙◌, ℕ, ◌+◌, Bool, List, ◌++◌, length, take, drop, Some, refl, sym, ap, arith}
use Rattle.signal_commands.proofs.Names.{take-append_seam, flat_map-append, take-append-drop, length-take, flat_map, Decoding, heard}
use Rattle.signal_commands.proofs.Names.{IsReleased, LostIs, line_depth, low_bits, demodulated, Rate, tap_of, Mode, decoding_of, ReadsAt}
use Rattle.signal_commands.proofs.Names.{trellis_at, line_at, DemodulatesAt, RateReader, Sample, quads_of-take, quads_of}
use Rattle.trellis_tables.specs.Differential.Turned.{unturned}
use Rattle.trellis_tables.proofs.Turning.Inverses.{unturned-take}
use Rattle.exact_decoder.specs.Surviving.Trellises.{Trellis, HasLaws}
use Rattle.exact_decoder.proofs.Surviving.V32.{line-has-laws}
use Rattle.rate_4800.proofs.Standing.{demodulated as quarters-demodulated}
use Rattle.rate_4800.proofs.Reading.{quarters_have_laws, all-released}
use Rattle.recordings.specs.declared.rate.Rate.TheVariants as rates
use Rattle.signal_commands.specs.declared.decode.rate_reader.RateReader.TheVariants as readers

-- a code with its laws
pub record IsCode (code : Trellis Sample) : Type 0 where
  pub states : ℕ
  pub labels : ℕ
  pub steps : ℕ
  pub laws : HasLaws code states labels steps

pub code_at : (rate : Rate) → IsCode (trellis_at rate)
code_at rates.Trellis = record { states = 8; labels = 32; steps = 2; laws = line-has-laws }
code_at rates.Quarters = record { states = 1; labels = 4; steps = 1; laws = quarters_have_laws }

-- a line of four points is never lost
pub lost-at : (rate : Rate) (samples : List Sample) (symbol : ℕ) → LostIs (trellis_at rate) line_depth samples (Some symbol)
    → rate ≡ rates.Trellis
lost-at rates.Trellis samples symbol lost = refl
lost-at rates.Quarters samples symbol lost = grind (arith, all-released, length-take)

-- the bits of what labels are turned into begin those of more labels
turns-longer : (width : ℕ) (turns_of : List ℕ → List ℕ) → ((labels : List ℕ) (n : ℕ) → turns_of (take n labels) ≡ take n (turns_of labels))
    → (labels rest : List ℕ)
    → (more : List Bool) × (flat_map (low_bits width) (turns_of (labels ++ rest)) ≡ flat_map (low_bits width) (turns_of labels) ++ more)
turns-longer width turns_of stay labels rest =
    let all : List ℕ = turns_of (labels ++ rest) in
    let n : ℕ = length labels in
    let front : take n all ≡ turns_of labels = sym (stay (labels ++ rest) n) ∙ ap turns_of (take-append_seam labels rest) in
    let split : all ≡ turns_of labels ++ drop n all = sym (take-append-drop n all) ∙ ap (λ (xs : List ℕ). xs ++ drop n all) front in
    let bits : List ℕ → List Bool = flat_map (low_bits width) in
    (bits (drop n all), ap bits split ∙ flat_map-append (low_bits width) (turns_of labels) (drop n all))

-- and so do the scrambled bits
pub line-longer : (rate : Rate) (labels rest : List ℕ) → (more : List Bool) × (line_at rate (labels ++ rest) ≡ line_at rate labels ++ more)
line-longer rates.Trellis labels rest = turns-longer 4 quads_of quads_of-take labels rest
line-longer rates.Quarters labels rest = turns-longer 2 unturned unturned-take labels rest

-- the labels that were taken of a reader, and what they carry
pub record TakesLabels (rate : Rate) (mode : Mode) (d : Decoding) (samples : List Sample) (bits : List Bool) : Type 0 where
  pub labels : List ℕ
  pub lost : LostIs (trellis_at rate) line_depth samples d.lost
  pub released : IsReleased (trellis_at rate) (heard d.lost samples) (labels ++ d.pending)
  pub read : DemodulatesAt rate (tap_of mode) labels bits

pub takes-labels : (rate : Rate) (mode : Mode) (r : RateReader) (samples : List Sample) (bits : List Bool)
    → ReadsAt rate mode r samples bits → TakesLabels rate mode (decoding_of r) samples bits
takes-labels rates.Trellis mode (readers.Trellis r) samples bits h = record {
  labels = h.labels;
  lost = h.decoder.lost;
  released = h.decoder.released;
  read = demodulated mode r.demodulator h.labels bits h.demodulator;
}
takes-labels rates.Quarters mode (readers.Quarters r) samples bits h = record {
  labels = h.labels;
  lost = h.decoder.lost;
  released = h.decoder.released;
  read = quarters-demodulated mode r.demodulator h.labels bits h.demodulator;
}
takes-labels rates.Trellis mode (readers.Quarters r) samples bits h = absurd h
takes-labels rates.Quarters mode (readers.Trellis r) samples bits h = absurd h
