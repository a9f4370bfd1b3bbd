-- Labels after so many quarter turns carry what they carried.
use Rattle.line_coding.proofs.Names.{◌≡◌, ℕ, zero, suc, Bool, List, map, length, refl, ◌∙◌, ap, subst, length-map, flat_map, low_bits}
use Rattle.line_coding.proofs.Names.{Descrambles, turned_label}
use Rattle.std.specs.Prelude.{take}
use Rattle.std.proofs.lemmas.List.{take-map}
use Rattle.line_coding.specs.PickedUp.{IsPickedUp}
use Rattle.line_coding.proofs.Quads.{quads-turned}

abbrev pub labels_turned : ℕ → List ℕ → List ℕ
labels_turned zero labels = labels
labels_turned (suc turns) labels = map turned_label (labels_turned turns labels)

pub length-turned : (turns : ℕ) (labels : List ℕ) → length (labels_turned turns labels) ≡ length labels
length-turned zero labels = refl
length-turned (suc turns) labels = length-map (labels_turned turns labels) turned_label ∙ length-turned turns labels

pub take-turned : (turns n : ℕ) (labels : List ℕ) → take n (labels_turned turns labels) ≡ labels_turned turns (take n labels)
take-turned zero n labels = refl
take-turned (suc turns) n labels = take-map turned_label n (labels_turned turns labels) ∙ ap (map turned_label) (take-turned turns n labels)

pub unturned : (tap turns : ℕ) (labels : List ℕ) (bits : List Bool) → IsPickedUp tap (labels_turned turns labels) bits
    → IsPickedUp tap labels bits
unturned tap zero labels bits h = h
unturned tap (suc turns) labels bits h = unturned tap turns labels bits (record {
  all = h.all;
  descrambled = subst (λ (xs : List Bool). Descrambles tap xs h.all)
      (ap (flat_map (low_bits 4)) (quads-turned (labels_turned turns labels))) h.descrambled;
  bits_are = h.bits_are;
})
