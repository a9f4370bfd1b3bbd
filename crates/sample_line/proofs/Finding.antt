-- What is found once one more bit was read.
use Rattle.sample_line.proofs.Names.{◌≡◌, inl, inr, ◌∙◌, ◌+◌, ℕ, Bool, List, [], ◌∷◌, ◌++◌, Option, Some}
use Rattle.sample_line.proofs.Names.{None, refl, sym, ap, subst, map, append-nil, append_assoc, map-append}
use Rattle.sample_line.proofs.Names.{option_to_list, Found, listed, pieces_of, wholes, Whole, Sight, sights_at, Check, Seen, Sent}
use Rattle.sample_line.proofs.Names.{PassTheCheck, FoundBetween, Tallies, PatternsAreTallied, PiecesAreTallied, Tally, Role}
use Rattle.detection.specs.Sights.{sights_of}
use Rattle.std.specs.Option.{option_map, option_map_or}
use Rattle.bit_stuffing.specs.declared.piece.Piece.{Piece}
use Rattle.bit_stuffing.specs.declared.piece.Piece.TheVariants.{Ragged, Aborted, TooLong, TooShort}
use Rattle.bit_stuffing.specs.Sent.{octets_if_whole}
use Rattle.sample_line.specs.Tallies.{TalliesBetween}
use Rattle.bit_stuffing.proofs.Sent.{wholes-append}

passing-append : (check : Check) (a b octets others : List (List ℕ)) → PassTheCheck check a octets → PassTheCheck check b others
    → PassTheCheck check (a ++ b) (octets ++ others)
passing-append check [] b octets others h k = subst (λ (xs : List (List ℕ)). PassTheCheck check b (xs ++ others)) (sym h) k
passing-append check (whole ∷ a) b octets others (inl h) k = inl (h.0, passing-append check a b octets others h.1 k)
passing-append check (whole ∷ a) b octets others (inr h) k =
    inr (h.0, h.1 ++ others, h.2, ap (λ (xs : List (List ℕ)). xs ++ others) h.3, passing-append check a b h.1 others h.4 k)

-- what passes of the whole piece that ends there
pub whole-passes : (check : Check) (found : Option Found) (whole : List ℕ) (octets : List (List ℕ))
    → option_map (λ (f : Found). f.piece) found ≡ Some Whole → whole ≡ option_map_or (λ (f : Found). f.octets) found []
    → PassTheCheck check (whole ∷ []) octets → PassTheCheck check (wholes (listed found)) octets
whole-passes check None whole octets e o h = absurd cc
whole-passes check (Some found) whole octets e o h =
    let piece : found.piece ≡ Whole = cc in
    subst (λ (p : Piece). PassTheCheck check (octets_if_whole p found.octets ++ []) octets) (sym piece)
    (subst (λ (xs : List ℕ). PassTheCheck check (xs ∷ []) octets) o h)

pub kinds-at : (place : ℕ) (seen : Option Seen) → map (λ (sight : Sight). sight.seen) (sights_at place seen) ≡ option_to_list seen
kinds-at place None = refl
kinds-at place (Some seen) = refl

-- more bits with which nothing ends

pub pieces-none : (check : Check) (sender : Role) (dlci : ℕ) (s : Sent) (bits later : List Bool) (octets : List (List ℕ))
    (patterns : List Seen) (tally : Tally) → pieces_of later ≡ pieces_of bits → Tallies sender dlci s octets patterns tally
    → PiecesAreTallied check sender dlci s bits later octets patterns tally
pieces-none check sender dlci s bits later octets patterns tally e h = record {
  pieces = [];
  pieces_are = e ∙ sym (append-nil (pieces_of bits));
  more = [];
  passes = refl;
  tallies = subst (λ (xs : List (List ℕ)). Tallies sender dlci s xs patterns tally) (sym (append-nil octets)) h;
}

pub patterns-none : (sender : Role) (dlci : ℕ) (s : Sent) (bits later : List Bool) (octets : List (List ℕ))
    (patterns : List Seen) (tally : Tally) → sights_of later ≡ sights_of bits → Tallies sender dlci s octets patterns tally
    → PatternsAreTallied sender dlci s bits later octets patterns tally
patterns-none sender dlci s bits later octets patterns tally e h = record {
  sights = [];
  sights_are = e ∙ sym (append-nil (sights_of bits));
  tallies = subst (λ (xs : List Seen). Tallies sender dlci s octets xs tally) (sym (append-nil patterns)) h;
}

-- more bits, and more behind them

pub pieces-then : (check : Check) (sender : Role) (dlci : ℕ) (s : Sent) (bits middle later : List Bool) (octets : List (List ℕ))
    (patterns : List Seen) (one other : Tally) → (h : PiecesAreTallied check sender dlci s bits middle octets patterns one)
    → PiecesAreTallied check sender dlci s middle later (octets ++ h.more) patterns other
    → PiecesAreTallied check sender dlci s bits later octets patterns other
pieces-then check sender dlci s bits middle later octets patterns one other h k = record {
  pieces = h.pieces ++ k.pieces;
  pieces_are = k.pieces_are ∙ ap (λ xs. xs ++ k.pieces) h.pieces_are ∙ append_assoc (pieces_of bits) h.pieces k.pieces;
  more = h.more ++ k.more;
  passes = subst (λ xs. PassTheCheck check xs (h.more ++ k.more)) (sym (wholes-append h.pieces k.pieces))
      (passing-append check (wholes h.pieces) (wholes k.pieces) h.more k.more h.passes k.passes);
  tallies = subst (λ (xs : List (List ℕ)). Tallies sender dlci s xs patterns other) (append_assoc octets h.more k.more) k.tallies;
}

pub patterns-then : (sender : Role) (dlci : ℕ) (s : Sent) (bits middle later : List Bool) (octets : List (List ℕ))
    (patterns : List Seen) (one other : Tally) → (h : PatternsAreTallied sender dlci s bits middle octets patterns one)
    → PatternsAreTallied sender dlci s middle later octets (patterns ++ map (λ (sight : Sight). sight.seen) h.sights) other
    → PatternsAreTallied sender dlci s bits later octets patterns other
patterns-then sender dlci s bits middle later octets patterns one other h k = record {
  sights = h.sights ++ k.sights;
  sights_are = k.sights_are ∙ ap (λ xs. xs ++ k.sights) h.sights_are ∙ append_assoc (sights_of bits) h.sights k.sights;
  tallies = subst (λ (xs : List Seen). Tallies sender dlci s octets xs other)
      (append_assoc patterns (map kind h.sights) (map kind k.sights)
      ∙ ap (λ (xs : List Seen). patterns ++ xs) (sym (map-append kind h.sights k.sights))) k.tallies;
}
  where
    kind : Sight → Seen
    kind sight = sight.seen

-- all that is found behind the earlier bits, with that of more bits
pub found-both : (check : Check) (sender : Role) (dlci : ℕ) (s : Sent) (earlier bits later : List Bool) (one middle other : Tally)
    → (h : TalliesBetween check sender dlci s earlier bits one)
    → (p : PatternsAreTallied sender dlci s bits later h.octets h.patterns middle)
    → PiecesAreTallied check sender dlci s bits later h.octets (h.patterns ++ map (λ (sight : Sight). sight.seen) p.sights) other
    → TalliesBetween check sender dlci s earlier later other
found-both check sender dlci s earlier bits later one middle other h p k = record {
  octets = h.octets ++ k.more;
  patterns = h.patterns ++ map kind p.sights;
  found = record {
    pieces = h.found.pieces ++ k.pieces;
    pieces_are = k.pieces_are ∙ ap (λ xs. xs ++ k.pieces) h.found.pieces_are ∙ append_assoc (pieces_of earlier) h.found.pieces k.pieces;
    octets_are = subst (λ xs. PassTheCheck check xs (h.octets ++ k.more)) (sym (wholes-append h.found.pieces k.pieces))
        (passing-append check (wholes h.found.pieces) (wholes k.pieces) h.octets k.more h.found.octets_are k.passes);
    sights = h.found.sights ++ p.sights;
    sights_are = p.sights_are ∙ ap (λ xs. xs ++ p.sights) h.found.sights_are ∙ append_assoc (sights_of earlier) h.found.sights p.sights;
    patterns_are = ap (λ xs. xs ++ map kind p.sights) h.found.patterns_are ∙ sym (map-append kind h.found.sights p.sights);
  };
  tallies = k.tallies;
}
  where
    kind : Sight → Seen
    kind sight = sight.seen

-- nothing is found behind the bits themselves
pub found-none : (check : Check) (bits : List Bool) → FoundBetween check bits bits [] []
found-none check bits = record {
  pieces = [];
  pieces_are = sym (append-nil (pieces_of bits));
  octets_are = refl;
  sights = [];
  sights_are = sym (append-nil (sights_of bits));
  patterns_are = refl;
}

-- where no whole piece ends nothing passes
pub none-passes : (check : Check) (found : Option Found) → (option_map (λ (f : Found). f.piece) found ≡ Some Whole → ⊥)
    → PassTheCheck check (wholes (listed found)) []
none-passes check None other = refl
none-passes check (Some found) other = go found.piece refl
  where
    go : (piece : Piece) → found.piece ≡ piece → PassTheCheck check (octets_if_whole piece found.octets ++ []) []
    go Whole e = absurd (other (ap Some e))
    go Ragged e = refl
    go Aborted e = refl
    go TooLong e = refl
    go TooShort e = refl
