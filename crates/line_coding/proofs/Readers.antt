-- What a reader picks up.
use Rattle.line_coding.proofs.Names.{◌∙◌, ℕ, ◌≤◌, Bool, false, List, length, map, drop, sym, subst, arith, line_of, Demodulates}
use Rattle.line_coding.proofs.Names.{line_behind, tap_of, Descrambles, earlier, Mode, quads_of}
use Rattle.std.specs.List.{range_with_len}
use Rattle.std.proofs.lemmas.List.FromFn.{length-map-range_with_len, get_or-map-range_with_len}
use Rattle.frame_check.specs.Xor.{xor}
use Rattle.scramblers.specs.Stream.{bit_at_place}
use Rattle.line_coding.proofs.Standing.{demodulated}
use Rattle.line_coding.specs.Laws.{ReadersPickUp}
use Rattle.line_coding.proofs.Quads.{fours-drop}
use Rattle.line_coding.proofs.Late.{late}

-- the bits that a line is descrambled to
abbrev pub descrambled_at : ℕ → List Bool → ℕ → Bool
descrambled_at tap line i = xor (xor (bit_at_place line i) (earlier line i tap)) (earlier line i 23)

abbrev pub descrambled : ℕ → List Bool → List Bool
descrambled tap line = map (descrambled_at tap line) (range_with_len 0 (length line))

pub descrambles : (tap : ℕ) (line : List Bool) → Descrambles tap line (descrambled tap line)
descrambles tap line = record {
  lengths = length-map-range_with_len (descrambled_at tap line) 0 (length line);
  each = λ i within. get_or-map-range_with_len (descrambled_at tap line) 0 (length line) i i false within (omega arith);
}

pub tap-low : (mode : Mode) → tap_of mode ≤ 23
tap-low q0 = grind (arith)

pub readers_pick_up : ReadersPickUp
readers_pick_up mode depth m samples bits h =
    let labels : List ℕ = h.read.labels in
    let tap : ℕ = tap_of mode in
    let whole : Demodulates tap labels h.all = demodulated mode m.reading.demodulator labels h.all h.read.demodulator in
    let all : List Bool = descrambled tap (line_behind labels) in
    let behind : Descrambles tap (line_behind labels) all = descrambles tap (line_behind labels) in
    let part : Descrambles tap (drop 4 (line_of labels)) all =
    subst (λ (xs : List Bool). Descrambles tap xs all) (fours-drop 1 (quads_of labels)) behind in
    record {
      labels = labels;
      decoder = h.read.decoder;
      picked_up = record {
        all = all;
        descrambled = behind;
        bits_are = h.bits_are ∙ sym (late tap 4 (line_of labels) all h.all (tap-low mode) whole part);
      };
    }
