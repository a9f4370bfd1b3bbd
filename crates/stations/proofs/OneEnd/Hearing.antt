-- What is heard, one more bit at a time.
use Rattle.stations.proofs.Names.{◌≡◌, inl, inr, ◌∙◌, ℕ, ◌+◌, ◌-◌, ◌^◌, ◌<◌, ◌≤◌, Bool, false, List, [], ◌∷◌, ◌++◌, length, take, get_or}
use Rattle.stations.proofs.Names.{nat_eq, Option, None, refl, sym, ap, subst, arith, append_assoc, append-nil, length-append, cases_lt}
use Rattle.stations.proofs.Names.{take_more, take_all, take-append-le, length-replicate, lent_of, IsLent, EndsPattern, octet_bits, bits_of}
use Rattle.stations.proofs.Names.{Sixteen, SpellsFrame, Arrived, Frame, Seen, Role, EndsWith, IsQuiet, AreQuiet, IsFirst, IsHeard, filled}
use Rattle.stations.proofs.Names.{slot_octets}
use Rattle.std.proofs.Common.{◌/◌}
use Rattle.std.proofs.Common.{bit_and}
use Rattle.std.specs.Option.{option_map_or}
use Rattle.std.proofs.lemmas.Nat.{and_mask}
use Rattle.std.proofs.lemmas.List.{nil_from_length}
use Rattle.frame_check.proofs.BitLists.{length-low_bits, get_or-low_bits, bits_of-snoc}
use Rattle.bit_stuffing.specs.Found.{Found, found_at, listed, pieces_of}
use Rattle.bit_stuffing.proofs.Found.{lent-is, lent-once, pieces-more}
use Rattle.bit_stuffing.proofs.Sent.{pieces-stay}
use Rattle.detection.specs.Patterns.{IsSeen, seen_at}
use Rattle.detection.specs.Sights.{Sight, SightsAdded, sights_at, sights_of}
use Rattle.lapm_frames.specs.declared.arrived.Arrived.TheVariants as arrivals

-- ---- what ends with one bit

-- no frame has no octets
no-frame : (peer : Role) (frame : Frame) → SpellsFrame Sixteen peer 0 [] frame → ⊥
no-frame peer frame s = grind (arith)

pub frame-ends : (peer : Role) (bits : List Bool) (octets : List ℕ) (frame : Frame) → IsLent bits octets
    → SpellsFrame Sixteen peer 0 octets frame → EndsWith peer bits (arrivals.Frame frame)
frame-ends peer bits octets frame given s = grind (arith)

pub nothing-ends : (peer : Role) (bits : List Bool) (octets : List ℕ) → ((b : List Bool) (o : List ℕ) → IsLent b o → o ≡ lent_of b)
    → ((seen : Seen) → EndsPattern seen bits → ⊥)
    → IsLent bits octets → ((frame : Frame) → SpellsFrame Sixteen peer 0 octets frame → ⊥) → IsQuiet peer bits
nothing-ends peer bits octets one unseen lent none arrivals.Nothing e = e
nothing-ends peer bits octets one unseen lent none (arrivals.Pattern seen) e = unseen seen e
nothing-ends peer bits octets one unseen lent none (arrivals.Frame frame) e =
    let same : e.0 ≡ octets = one bits e.0 (inl e.1) ∙ sym (one bits octets lent) in
    none frame (subst (λ (o : List ℕ). SpellsFrame Sixteen peer 0 o frame) same e.2)

-- ---- what is heard of one bit more

quiet-more : (peer : Role) (earlier bits : List Bool) (bit : Bool) → AreQuiet peer earlier bits → IsQuiet peer (earlier ++ bits ++ bit ∷ [])
    → AreQuiet peer earlier (bits ++ bit ∷ [])
quiet-more peer earlier bits bit before now n low = elim (cases_lt n (length bits)) [
  | inl less ↦
      subst (λ (b : List Bool). IsQuiet peer (earlier ++ b)) (sym (take-append-le (n + 1) bits (bit ∷ []) (omega (arith, less))))
      (before n less)
  | inr more ↦
      subst (λ (b : List Bool). IsQuiet peer (earlier ++ b))
      (sym (take_all (n + 1) (bits ++ bit ∷ []) (omega (arith, more, length-append bits (bit ∷ [])))))
      (subst (IsQuiet peer) (append_assoc earlier bits (bit ∷ [])) now)
]

first-more : (peer : Role) (earlier bits : List Bool) (bit : Bool) (a : Arrived) → IsFirst peer earlier bits a
    → IsFirst peer earlier (bits ++ bit ∷ []) a
first-more peer earlier bits bit a f = record {
  quiet = f.quiet;
  last = f.last;
  rest = f.rest ++ bit ∷ [];
  bits_are = ap (λ (b : List Bool). b ++ bit ∷ []) f.bits_are ∙ append_assoc f.quiet (f.last ∷ f.rest) (bit ∷ []);
  before = f.before;
  ends = f.ends;
}

pub first-now : (peer : Role) (earlier bits : List Bool) (bit : Bool) (a : Arrived) → AreQuiet peer earlier bits
    → EndsWith peer (earlier ++ bits ++ bit ∷ []) a → IsFirst peer earlier (bits ++ bit ∷ []) a
first-now peer earlier bits bit a before now = record { quiet = bits; last = bit; rest = []; bits_are = refl; before = before; ends = now }

-- what was heard stays, where nothing ends with the next bit
pub heard-still : (peer : Role) (earlier bits : List Bool) (bit : Bool) (heard : Arrived) → IsHeard peer earlier bits heard
    → IsQuiet peer (earlier ++ bits ++ bit ∷ []) → IsHeard peer earlier (bits ++ bit ∷ []) heard
heard-still peer earlier bits bit heard h e = grind (arith, quiet-more, first-more)

-- and where it isn't nothing, whatever ends there
pub heard-before : (peer : Role) (earlier bits : List Bool) (bit : Bool) (heard : Arrived) → (heard ≡ arrivals.Nothing → ⊥)
    → IsHeard peer earlier bits heard → IsHeard peer earlier (bits ++ bit ∷ []) heard
heard-before peer earlier bits bit heard some h = grind (arith, first-more)

-- ---- what is heard of bits with which nothing ends

none-listed : (o : Option Found) → listed o ≡ [] → o ≡ None
none-listed q0 e = grind (arith)

none-seen : (place : ℕ) (o : Option Seen) → sights_at place o ≡ [] → o ≡ None
none-seen place q1 e = grind (arith)

-- where a list with two more behind it is as it was, neither has anything
neither : {A : Type 0} (front one two : List A) → (front ++ one) ++ two ≡ front → (one ≡ []) × (two ≡ [])
neither front one two e =
    let long = ap length e in
    let all = length-append (front ++ one) two in
    let before = length-append front one in
    (nil_from_length one (omega (arith, long, all, before)), nil_from_length two (omega (arith, long, all, before)))

-- no piece is found at the first of these bits, nor behind it
no-piece : (past : List Bool) (bit : Bool) (more : List Bool) → pieces_of (past ++ bit ∷ more) ≡ pieces_of past
    → (found_at (past ++ bit ∷ []) ≡ None) × (pieces_of ((past ++ bit ∷ []) ++ more) ≡ pieces_of (past ++ bit ∷ []))
no-piece past bit more e =
    let added = pieces-stay (past ++ bit ∷ []) more in
    let none = neither (pieces_of past) (listed (found_at (past ++ bit ∷ []))) added.0
    (ap (λ f. f ++ added.0) (sym (pieces-more past bit)) ∙ sym added.1.all ∙ ap pieces_of (append_assoc past (bit ∷ []) more) ∙ e) in (
      none-listed (found_at (past ++ bit ∷ [])) none.0,
      added.1.all ∙ ap (λ f. pieces_of (past ++ bit ∷ []) ++ f) none.1 ∙ append-nil (pieces_of (past ++ bit ∷ [])),
    )

-- what the laws of patterns say
pub record SightLaws : Type 0 where
  pub seen : (bits : List Bool) → IsSeen bits (seen_at bits)
  pub grow : (bits : List Bool) (bit : Bool)
      → sights_of (bits ++ bit ∷ []) ≡ sights_of bits ++ sights_at (length bits + 1) (seen_at (bits ++ bit ∷ []))
  pub stay : (bits more : List Bool) → (added : List Sight) × SightsAdded bits more added

-- and no pattern is seen
no-sight : SightLaws → (past : List Bool) (bit : Bool) (more : List Bool) → sights_of (past ++ bit ∷ more) ≡ sights_of past
    → (seen_at (past ++ bit ∷ []) ≡ None) × (sights_of ((past ++ bit ∷ []) ++ more) ≡ sights_of (past ++ bit ∷ []))
no-sight laws past bit more e =
    let added = laws.stay (past ++ bit ∷ []) more in
    let none = neither (sights_of past) (sights_at (length past + 1) (seen_at (past ++ bit ∷ []))) added.0
    (ap (λ s. s ++ added.0) (sym (laws.grow past bit)) ∙ sym added.1.all ∙ ap sights_of (append_assoc past (bit ∷ []) more) ∙ e) in (
      none-seen (length past + 1) (seen_at (past ++ bit ∷ [])) none.0,
      added.1.all ∙ ap (λ s. sights_of (past ++ bit ∷ []) ++ s) none.1 ∙ append-nil (sights_of (past ++ bit ∷ [])),
    )

-- where neither is found nothing ends
quiet-at : SightLaws → (peer : Role) (bits : List Bool) → found_at bits ≡ None → seen_at bits ≡ None → IsQuiet peer bits
quiet-at laws peer bits no_piece no_sight arrivals.Nothing e = e
quiet-at laws peer bits no_piece no_sight (arrivals.Pattern seen) e = subst (IsSeen bits) no_sight (laws.seen bits) seen e
quiet-at laws peer bits no_piece no_sight (arrivals.Frame frame) e =
    let none : e.0 ≡ [] =
    lent-once bits e.0 (lent_of bits) (inl e.1) (lent-is bits) ∙ ap (λ o. option_map_or (λ (f : Found). f.octets) o []) no_piece in
    no-frame peer frame (subst (λ (o : List ℕ). SpellsFrame Sixteen peer 0 o frame) none e.2)

-- bits that add no piece and no pattern leave what was heard
pub heard-quiet : SightLaws → (peer : Role) (earlier bits more : List Bool) (heard : Arrived)
    → pieces_of ((earlier ++ bits) ++ more) ≡ pieces_of (earlier ++ bits)
    → sights_of ((earlier ++ bits) ++ more) ≡ sights_of (earlier ++ bits)
    → IsHeard peer earlier bits heard → IsHeard peer earlier (bits ++ more) heard
heard-quiet laws peer earlier bits [] heard pieces sights h = grind (arith, append-nil)
heard-quiet laws peer earlier bits (bit ∷ more) heard pieces sights h =
    let same : (earlier ++ bits) ++ bit ∷ [] ≡ earlier ++ (bits ++ bit ∷ []) = append_assoc earlier bits (bit ∷ []) in
    let piece = no-piece (earlier ++ bits) bit more pieces in
    let sight = no-sight laws (earlier ++ bits) bit more sights in
    subst (λ (b : List Bool). IsHeard peer earlier b heard) (append_assoc bits (bit ∷ []) more)
    (heard-quiet laws peer earlier (bits ++ bit ∷ []) more heard
    (subst (λ (b : List Bool). pieces_of (b ++ more) ≡ pieces_of b) same piece.1)
    (subst (λ (b : List Bool). sights_of (b ++ more) ≡ sights_of b) same sight.1)
    (heard-still peer earlier bits bit heard h (quiet-at laws peer ((earlier ++ bits) ++ bit ∷ []) piece.0 sight.0)))

-- ---- bits of an octet, octets of a slot

pub bit-more : (bits : List Bool) (n i : ℕ) → i < 8
    → (bits ++ take i (octet_bits n)) ++ nat_eq (bit_and (n / 2 ^ i) 1) 1 ∷ [] ≡ bits ++ take (i + 1) (octet_bits n)
bit-more bits n i h =
    let within : i < length (octet_bits n) = omega (arith, length-low_bits 8 n) in
    let bit : get_or (octet_bits n) i false ≡ nat_eq (bit_and (n / 2 ^ i) 1) 1 =
    get_or-low_bits 8 n i false h ∙ ap (λ x. nat_eq x 1) (sym (and_mask (n / 2 ^ i) 1)) in
    append_assoc bits (take i (octet_bits n)) (nat_eq (bit_and (n / 2 ^ i) 1) 1 ∷ [])
    ∙ ap (λ xs. bits ++ xs) (sym (take_more (octet_bits n) i false within ∙ ap (λ b. take i (octet_bits n) ++ b ∷ []) bit))

pub octet-more : (bits : List Bool) (octets : List ℕ) (i : ℕ) → i < length octets
    → (bits ++ bits_of (take i octets)) ++ octet_bits (get_or octets i 0) ≡ bits ++ bits_of (take (i + 1) octets)
octet-more bits octets i h =
    append_assoc bits (bits_of (take i octets)) (octet_bits (get_or octets i 0))
    ∙ ap (λ xs. bits ++ xs) (sym (bits_of-snoc (take i octets) (get_or octets i 0)) ∙ sym (ap bits_of (take_more octets i 0 h)))

pub filled-length : (slot : List ℕ) → length slot ≤ slot_octets → length (filled slot) ≡ slot_octets
filled-length slot short = grind (arith, length-append, length-replicate)

pub append-again : (a b d : List Bool) → (a ++ b) ++ d ≡ a ++ (b ++ d)
append-again a b d = append_assoc a b d

-- all octets of a slot
pub slot-whole : (slot : List ℕ) → length slot ≤ slot_octets → take slot_octets (filled slot) ≡ filled slot
slot-whole slot short = take_all slot_octets (filled slot) (omega (arith, filled-length slot short))

-- an octet more of a slot, behind nothing
pub slot-more : (slot : List ℕ) (place octet : ℕ) → length slot ≤ slot_octets → place < slot_octets → octet ≡ get_or (filled slot) place 0
    → bits_of (take place (filled slot)) ++ octet_bits octet ≡ bits_of (take (place + 1) (filled slot))
slot-more slot place octet short low e =
    ap (λ o. bits_of (take place (filled slot)) ++ octet_bits o) e
    ∙ octet-more [] (filled slot) place (omega (arith, low, filled-length slot short))
