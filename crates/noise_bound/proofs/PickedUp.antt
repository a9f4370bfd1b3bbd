-- Of what is picked up of a recording and of its turn one begins the other.
use Rattle.noise_bound.proofs.Names.{◌≡◌, ℕ, zero, suc, ◌+◌, ◌-◌, ◌<◌, ◌≤◌, inl, inr, Bool, false, List, [], ◌∷◌, ◌++◌, length, map, take}
use Rattle.noise_bound.proofs.Names.{drop, nat_lt, arith, length-append, append_assoc, refl, sym, ◌∙◌, ap, subst, cases_lt, nat_tests}
use Rattle.noise_bound.proofs.Names.{get_or_append_left, take_at, take-append-le, take-append-drop, take-map, length-take-le, flat_map}
use Rattle.noise_bound.proofs.Names.{at_any, low_bits, quads-turned, all_states_turn, line_behind, sure_of_any, IsNear, depends_on_three}
use Rattle.noise_bound.proofs.Names.{earlier, Mode, IsPrefixOf, quarter_turned, turned_label, Sample}
use Rattle.std.proofs.lemmas.List.{ext_get_or, get_or-take}
use Rattle.scramblers.specs.Mode.{tap_of}
use Rattle.scramblers.specs.Scrambles.{Descrambles}
use Rattle.line_coding.specs.PickedUp.{IsPickedUp}
use Rattle.line_coding.specs.MiddleReading.{Middle}
use Rattle.line_coding.specs.Laws.{ReadsMiddle}
use Rattle.line_coding.proofs.Readers.{readers_pick_up}
use Rattle.bit_stuffing.specs.Found.{pieces_of}
use Rattle.bit_stuffing.proofs.Sent.{pieces-stay}
use Rattle.noise_bound.specs.Turned.{OneBegins}
use Rattle.noise_bound.specs.Laws.{OnePickedUpBegins, OneListOfPiecesBegins, ReadersPiecesBegin}
use Rattle.noise_bound.proofs.Turned.{BothBegin, begin-from_any, near-turns, heard-begins}
use Rattle.noise_bound.proofs.Quads.{behind-grows}

-- the first bits of a line have the first bits of its output
earlier-front : (line more : List Bool) (i k : ℕ) → i < length line → earlier line i k ≡ earlier (line ++ more) i k
earlier-front line more i k within = elim (cases_lt i k) [
  | inl less ↦ grind (arith, nat_tests)
  | inr past ↦ let no : nat_lt i k ≡ false = grind (arith, nat_tests) in
      rw no (sym (get_or_append_left line more false (i - k) (omega arith)))
]

output-grows : (tap : ℕ) (line more output longer : List Bool) → Descrambles tap line output → Descrambles tap (line ++ more) longer
    → IsPrefixOf output longer
output-grows tap line more output longer d e =
    (drop (length output) longer, ap (λ k. k ++ drop (length output) longer) same ∙ take-append-drop (length output) longer)
  where
    total : length (line ++ more) ≡ length line + length more
    total = length-append {A = Bool} line more

    same : output ≡ take (length output) longer
    same = ext_get_or false output (take (length output) longer)
        (sym (length-take-le (length output) longer (omega (arith, total, d.lengths, e.lengths)))) (λ i within.
        let inside : i < length line = omega (arith, d.lengths) in
        depends_on_three tap line (line ++ more) output longer i i inside (omega (arith, total)) d e (earlier-front line more i 0 inside)
        (earlier-front line more i tap inside) (earlier-front line more i 23 inside)
        ∙ sym (get_or-take (length output) longer i false within))

drop-front : (n : ℕ) (a b : List Bool) → IsPrefixOf a b → IsPrefixOf (drop n a) (drop n b)
drop-front n a b (rest, e) = subst (λ k. IsPrefixOf (drop n a) (drop n k)) e (go n a rest)
  where
    go : (n : ℕ) (a rest : List Bool) → IsPrefixOf (drop n a) (drop n (a ++ rest))
    go zero a rest = (rest, refl)
    go (suc n) [] rest = (drop (suc n) rest, refl)
    go (suc n) (x ∷ a) rest = go n a rest

-- labels that begin others give bits that begin theirs
begins : (tap : ℕ) (a b : List ℕ) (bits longer : List Bool) → IsPickedUp tap a bits → IsPickedUp tap (a ++ b) longer
    → IsPrefixOf bits longer
begins tap a b bits longer h k =
    let line = behind-grows a b in
    let p = output-grows tap (line_behind a) line.0 h.all k.all h.descrambled
    (subst (λ (xs : List Bool). Descrambles tap xs k.all) (sym line.1) k.descrambled) in
    subst (λ xs. IsPrefixOf xs longer) (sym h.bits_are) (subst (IsPrefixOf (drop 23 h.all)) (sym k.bits_are) (drop-front 23 h.all k.all p))

-- turned labels give what these give
turned : (tap : ℕ) (labels : List ℕ) (bits : List Bool) → IsPickedUp tap labels bits → IsPickedUp tap (map turned_label labels) bits
turned tap labels bits h = record {
  all = h.all;
  descrambled = subst (λ (xs : List Bool). Descrambles tap xs h.all) (sym (ap (flat_map (low_bits 4)) (quads-turned labels))) h.descrambled;
  bits_are = h.bits_are;
}

unturned : (tap : ℕ) (labels : List ℕ) (bits : List Bool) → IsPickedUp tap (map turned_label labels) bits → IsPickedUp tap labels bits
unturned tap labels bits h = record {
  all = h.all;
  descrambled = subst (λ (xs : List Bool). Descrambles tap xs h.all) (ap (flat_map (low_bits 4)) (quads-turned labels)) h.descrambled;
  bits_are = h.bits_are;
}

-- the first of the longer
cut-at : (n : ℕ) (front labels : List ℕ) → n ≤ length front → IsPrefixOf front labels → take n labels ≡ take n front
cut-at n front labels within p = ap (take n) (sym p.1) ∙ take-append-le n front p.0 within

whole-at : (front labels : List ℕ) → IsPrefixOf front labels → take (length front) labels ≡ front
whole-at front labels p = ap (take (length front)) (sym p.1) ∙ take_at front p.0 (length front) refl

pub one-begins : (tap : ℕ) (labels front turned_front : List ℕ) (bits turned_bits : List Bool) → BothBegin labels front turned_front
    → IsPickedUp tap front bits → IsPickedUp tap turned_front turned_bits → OneBegins bits turned_bits
one-begins tap labels front turned_front bits turned_bits h mine theirs = elim (cases_lt (length front) (length turned_front)) [
  | inl less ↦
      let n = length front in
      let cut : take n turned_front ≡ map turned_label front =
      sym (cut-at n turned_front (map turned_label labels) (omega arith) h.turned_begins) ∙ take-map turned_label n labels
      ∙ ap (map turned_label) (whole-at front labels h.begins) in
      let joined : turned_front ≡ map turned_label front ++ drop n turned_front =
      sym (take-append-drop n turned_front) ∙ ap (λ k. k ++ drop n turned_front) cut in
      inl (begins tap (map turned_label front) (drop n turned_front) bits turned_bits (turned tap front bits mine)
      (subst (λ k. IsPickedUp tap k turned_bits) joined theirs))
  | inr more ↦
      let n = length turned_front in
      let cut : map turned_label (take n front) ≡ turned_front =
      ap (map turned_label) (sym (cut-at n front labels (omega arith) h.begins)) ∙ sym (take-map turned_label n labels)
      ∙ whole-at turned_front (map turned_label labels) h.turned_begins in
      let few : IsPickedUp tap (take n front) turned_bits =
      unturned tap (take n front) turned_bits (subst (λ k. IsPickedUp tap k turned_bits) (sym cut) theirs) in
      inr (begins tap (take n front) (drop n front) turned_bits bits few
      (subst (λ k. IsPickedUp tap k bits) (sym (take-append-drop n front)) mine))
]

-- the pieces of bits that begin others begin theirs
pieces-begin : (a b : List Bool) → IsPrefixOf a b → IsPrefixOf (pieces_of a) (pieces_of b)
pieces-begin a b (rest, e) = let p = pieces-stay a rest in (p.0, sym p.1.all ∙ ap pieces_of e)

one-of_pieces : (a b : List Bool) → OneBegins a b → OneBegins (pieces_of a) (pieces_of b)
one-of_pieces a b (inl p) = inl (pieces-begin a b p)
one-of_pieces a b (inr p) = inr (pieces-begin b a p)

pub one-picked-up-begins : OnePickedUpBegins
one-picked-up-begins tap labels front turned_front samples bits turned_bits h r mine theirs =
    one-begins tap labels front turned_front bits turned_bits (begin-from_any labels front turned_front samples h r) mine theirs

pub one-list-of-pieces-begins : OneListOfPiecesBegins
one-list-of-pieces-begins tap labels front turned_front samples bits turned_bits h r mine theirs =
    one-of_pieces bits turned_bits (one-picked-up-begins tap labels front turned_front samples bits turned_bits h r mine theirs)

-- what a reader took begins what was released
taken-begins : (labels : List ℕ) (samples : List Sample) (count : ℕ) (mode : Mode) (depth : ℕ) (m : Middle) (bits : List Bool)
    → IsNear sure_of_any at_any labels samples
    → (r : ReadsMiddle mode depth m (take count samples) bits) → IsPrefixOf r.labels labels
taken-begins labels samples count mode depth m bits h r =
    let pending = m.reading.decoder.pending in
    let p = heard-begins labels (r.labels ++ pending) samples count m.reading.decoder.lost h r.decoder.released in
    (pending ++ p.0, sym (append_assoc r.labels pending p.0) ∙ p.1)

pub readers-pieces-begin : ReadersPiecesBegin
readers-pieces-begin mode depth turned_depth count turned_count m other labels samples bits turned_bits h read turned_read =
    let mine = readers_pick_up mode depth m (take count samples) bits read in
    let theirs = readers_pick_up mode turned_depth other (take turned_count (map quarter_turned samples)) turned_bits turned_read in
    let near = near-turns sure_of_any at_any at_any labels samples all_states_turn h in
    let both : BothBegin labels mine.labels theirs.labels = record {
      begins = taken-begins labels samples count mode depth m bits h mine;
      turned_begins = taken-begins (map turned_label labels)
          (map quarter_turned samples) turned_count mode turned_depth other turned_bits near theirs;
    } in
    one-of_pieces bits turned_bits
    (one-begins (tap_of mode) labels mine.labels theirs.labels bits turned_bits both mine.picked_up theirs.picked_up)
