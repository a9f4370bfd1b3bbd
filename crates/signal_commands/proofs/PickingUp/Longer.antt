-- Whatever samples follow, the pieces that the first ones give begin those that all give.
use Rattle.signal_commands.proofs.Names.{◌≡◌, ◌∙◌, ℕ, zero, suc, ◌≤◌, Bool, List, [], ◌∷◌, ◌++◌, length, take, drop, refl, sym, ap, subst}
use Rattle.signal_commands.proofs.Names.{arith, take-append_seam, flat_map-append, take-append-drop, flat_map, pieces-stay, Found}
use Rattle.signal_commands.proofs.Names.{pieces_of, stays-prefix, any_trellis, low_bits, picked_up_once, line_behind, IsPickedUp, tap_of}
use Rattle.signal_commands.proofs.Names.{Descrambles, Mode, quads_of-take, quads_of}
use Rattle.signal_commands.specs.PickingUp.Laws.{LaterPiecesStandBehind}
use Rattle.signal_commands.proofs.Decoding.Longer.{reads-on}

-- a list without its first elements begins a longer one without them
pub drop-front : {A : Type 0} (n : ℕ) (xs ys : List A) → (more : List A) × (drop n (xs ++ ys) ≡ drop n xs ++ more)
drop-front zero xs ys = (ys, refl)
drop-front (suc n) [] ys = (drop (suc n) ys, refl)
drop-front (suc n) (x ∷ xs) ys = drop-front n xs ys

-- the scrambled bits of labels begin those of more labels
line-longer : (labels rest : List ℕ) → (more : List Bool) × (line_behind (labels ++ rest) ≡ line_behind labels ++ more)
line-longer labels rest =
    let quads : List ℕ = quads_of (labels ++ rest) in
    let front : take (length labels) quads ≡ quads_of labels =
    sym (quads_of-take (labels ++ rest) (length labels)) ∙ ap quads_of (take-append_seam labels rest) in
    let all : quads ≡ quads_of labels ++ drop (length labels) quads =
    sym (take-append-drop (length labels) quads) ∙ ap (λ (xs : List ℕ). xs ++ drop (length labels) quads) front in
    let d = drop-front 1 (quads_of labels) (drop (length labels) quads) in
    let behind : drop 1 quads ≡ drop 1 (quads_of labels) ++ d.0 = ap (λ (xs : List ℕ). drop 1 xs) all ∙ d.1 in
    (flat_map (low_bits 4) d.0, ap (flat_map (low_bits 4)) behind ∙ flat_map-append (low_bits 4) (drop 1 (quads_of labels)) d.0)

-- and so do the bits that are picked up
pub bits-longer : (tap : ℕ) (labels rest : List ℕ) (bits : List Bool) → 1 ≤ tap → IsPickedUp tap labels bits → (more : List Bool)
    × IsPickedUp tap (labels ++ rest) (bits ++ more)
bits-longer tap labels rest bits low h =
    let l = line-longer labels rest in
    let b = reads-on tap (line_behind labels) l.0 h.all low h.descrambled in
    let d = drop-front 23 h.all b.0 in (
      d.0,
      record {
        all = h.all ++ b.0;
        descrambled = subst (λ xs. Descrambles tap xs (h.all ++ b.0)) (sym l.1) b.1;
        bits_are = ap (λ (xs : List Bool). xs ++ d.0) h.bits_are ∙ sym d.1;
      },
    )

pub tap-low : (mode : Mode) → 1 ≤ tap_of mode
tap-low mode = grind (arith)

-- and the pieces in them
pub later_stand_behind : LaterPiecesStandBehind
later_stand_behind mode samples more pieces later g k =
    let tap : ℕ = tap_of mode in
    let s = stays-prefix any_trellis samples more g.labels k.labels g.released k.released in
    let b = bits-longer tap g.labels s.0 g.bits (tap-low mode) g.picked_up in
    let same : k.bits ≡ g.bits ++ b.0 =
    picked_up_once tap k.labels k.bits (g.bits ++ b.0) k.picked_up (subst (λ (xs : List ℕ). IsPickedUp tap xs (g.bits ++ b.0)) s.1 b.1) in
    let added = pieces-stay g.bits b.0 in
    (added.0, ap (λ (xs : List Found). xs ++ added.0) g.pieces_are ∙ sym added.1.all ∙ ap pieces_of (sym same) ∙ sym k.pieces_are)
