-- Samples give one list of pieces.
use Rattle.signal_commands.proofs.Names.{◌≡◌, ◌∙◌, ℕ, Bool, List, drop, refl, sym, ap, subst, pieces_of, some-released, any-has-laws}
use Rattle.signal_commands.proofs.Names.{any_trellis, picked_up_once, descrambled, descrambles, IsPickedUp, line_behind, tap_of}
use Rattle.exact_decoder.proofs.Surviving.Fronts.{released-once}
use Rattle.signal_commands.specs.PickingUp.Laws.{SomePiecesAreGiven, PiecesAreGivenOnce}

pub some-pieces-are-given : SomePiecesAreGiven
some-pieces-are-given mode samples =
    let labels = some-released any_trellis 8 32 2 samples any-has-laws in
    let line : List Bool = line_behind labels.0 in
    let bits : List Bool = drop 23 (descrambled (tap_of mode) line) in (
      pieces_of bits,
      record {
        labels = labels.0;
        released = labels.1;
        bits = bits;
        picked_up = record { all = descrambled (tap_of mode) line; descrambled = descrambles (tap_of mode) line; bits_are = refl };
        pieces_are = refl;
      },
    )

pub pieces-are-given-once : PiecesAreGivenOnce
pieces-are-given-once mode samples pieces others g k =
    let labels : g.labels ≡ k.labels = released-once any_trellis samples g.labels k.labels g.released k.released in
    let bits : g.bits ≡ k.bits = picked_up_once (tap_of mode) k.labels g.bits k.bits
    (subst (λ (xs : List ℕ). IsPickedUp (tap_of mode) xs g.bits) labels g.picked_up) k.picked_up in
    g.pieces_are ∙ ap pieces_of bits ∙ sym k.pieces_are
