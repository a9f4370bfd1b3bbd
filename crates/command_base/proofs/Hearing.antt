-- What a listener heard, one more step at a time.
use Rattle.command_base.proofs.Names.{◌≡◌, ◌∙◌, ℕ, ◌+◌, ◌/◌, ◌%◌, ◌^◌, ◌<◌, Bool, false, List, [], ◌∷◌, ◌++◌, length, take, drop, get_or}
use Rattle.command_base.proofs.Names.{Result, Ok, Err, OnErr, nat_eq, bit_and, Some, None, refl, sym, ap, subst, arith, append-nil}
use Rattle.command_base.proofs.Names.{append_assoc, length-append, take-append-drop, Found, Piece, Listening, Hears, IsLine, AreLines}
use Rattle.command_base.proofs.Names.{SayFails, length-low_bits, low_bits, octet_bits, bits_of, CountsStand-trans, FolderState, OnlyReads}
use Rattle.command_base.proofs.Names.{OnlySays, CountsStand, Said, PartlySaid, FolderFault, Role}
use Rattle.std.proofs.lemmas.List.{take_more}
use Rattle.std.proofs.lemmas.Nat.{and_mask}
use Rattle.outside_calls.specs.declared.folder.FolderFault.TheVariants as folder
use Rattle.outside_calls.proofs.Steps.{GoesOn-refl}
use Rattle.frame_check.proofs.BitLists.{get_or-low_bits, bits_of-snoc, bits_of-append}
use Rattle.bit_stuffing.specs.Found.{found_at, pieces_of, listed, answer_of, lent_of}
use Rattle.bit_stuffing.specs.Deframer.{DeframerStands}
use Rattle.bit_stuffing.proofs.Found.{pieces-none, pieces-more}
use Rattle.command_base.proofs.Saying.{Said-Said, Said-PartlySaid, OnlySays-trans, on-ok-map, on-err-map, if-err-map}
use Rattle.command_base.specs.Heard.{Heard, PartlyHeard, LeftAt}
use Rattle.command_base.proofs.PieceLines.{AreLines-more}

-- what is found at the last of the bits, where a piece is answered there
pub record FoundThere (bits : List Bool) (piece : Piece) : Type 0 where
  pub found : Found
  pub found_is : found_at bits ≡ Some found
  pub piece_is : found.piece ≡ piece
  pub octets_are : found.octets ≡ lent_of bits

pub found-there : (bits : List Bool) (piece : Piece) → Some piece ≡ answer_of bits → FoundThere bits piece
found-there bits piece e = grind (arith)

nothing-there : (bits : List Bool) → None ≡ answer_of bits → found_at bits ≡ None
nothing-there bits e = grind (arith)

-- before the first bit
pub heard-nothing : (start : FolderState) (l : Listening) → DeframerStands l.deframer [] → l.pieces ≡ 0 → Said start start []
    → Heard start start l []
heard-nothing start l stands none said = grind (arith, pieces-none)

-- a bit at which no piece ends
pub pieces-same : (bits : List Bool) (bit : Bool) → None ≡ answer_of (bits ++ bit ∷ []) → pieces_of (bits ++ bit ∷ []) ≡ pieces_of bits
pieces-same bits bit none = grind (arith, pieces-more, listed, nothing-there, append-nil)

-- four bits have no part in the higher ones
pub low-four : (octet : ℕ) → low_bits 4 (octet % 16) ≡ low_bits 4 octet
low-four octet = grind (arith)

-- those of an octet are its low four and its high four
pub octet-fours : (octet : ℕ) → low_bits 4 (octet % 16) ++ low_bits 4 (octet / 16) ≡ octet_bits octet
octet-fours octet =
    let e4 : octet / 16 % 2 ≡ octet / 2 / 2 / 2 / 2 % 2 = omega arith in
    let e5 : octet / 16 / 2 % 2 ≡ octet / 2 / 2 / 2 / 2 / 2 % 2 = omega arith in
    let e6 : octet / 16 / 2 / 2 % 2 ≡ octet / 2 / 2 / 2 / 2 / 2 / 2 % 2 = omega arith in
    let e7 : octet / 16 / 2 / 2 / 2 % 2 ≡ octet / 2 / 2 / 2 / 2 / 2 / 2 / 2 % 2 = omega arith in
    ap (λ front. front ++ low_bits 4 (octet / 16)) (low-four octet) ∙ rw (e4, e5, e6, e7) refl

-- more bits with which no piece ends
pub heard-quiet : (start now : FolderState) (l next : Listening) (bits later : List Bool) → Heard start now l bits
    → DeframerStands next.deframer later → pieces_of later ≡ pieces_of bits → next.sender ≡ l.sender → next.pieces ≡ l.pieces
    → Heard start now next later
heard-quiet start now l next bits later h stands same sender pieces = grind (arith)

piece-more : (bits : List Bool) (bit : Bool) (piece : Piece) (f : FoundThere (bits ++ bit ∷ []) piece)
    → pieces_of (bits ++ bit ∷ []) ≡ pieces_of bits ++ f.found ∷ []
piece-more bits bit piece f = pieces-more bits bit ∙ ap (λ o. pieces_of bits ++ listed o) f.found_is

lines-more : (start now : FolderState) (l : Listening) (bits : List Bool) (bit : Bool) (piece : Piece) (line : List ℕ)
    (h : Heard start now l bits) (f : FoundThere (bits ++ bit ∷ []) piece) → IsLine l.sender f.found line →
    AreLines l.sender (pieces_of (bits ++ bit ∷ [])) (h.lines ++ line)
lines-more start now l bits bit piece line h f is =
    subst (λ (pieces : List Found). AreLines l.sender pieces (h.lines ++ line)) (sym (piece-more bits bit piece f))
    (AreLines-more l.sender (pieces_of bits) f.found h.lines line h.are_lines is)

-- a bit at which a piece ends, whose line was said
pub heard-some : (start now new : FolderState) (l next : Listening) (bits : List Bool) (bit : Bool) (piece : Piece) (line : List ℕ)
    → Heard start now l bits → (f : FoundThere (bits ++ bit ∷ []) piece) →
    IsLine l.sender f.found line → DeframerStands next.deframer (bits ++ bit ∷ []) → next.sender ≡ l.sender → next.pieces ≡ l.pieces + 1
    → Said now new line → Heard start new next (bits ++ bit ∷ [])
heard-some start now new l next bits bit piece line h f is stands sender pieces said = record {
  stands = stands;
  lines = h.lines ++ line;
  are_lines = subst (λ (role : Role). AreLines role (pieces_of (bits ++ bit ∷ [])) (h.lines ++ line)) (sym sender)
      (lines-more start now l bits bit piece line h f is);
  said = Said-Said start now new h.lines line h.said said;
  count = pieces ∙ ap (λ n. n + 1) h.count ∙ sym (length-append (pieces_of bits) (f.found ∷ []))
      ∙ sym (ap length (piece-more bits bit piece f));
}

-- and where the say failed: the listener stands for all of these bits
pub left-some : (start now new : FolderState) (l next : Listening) (bits : List Bool) (bit : Bool) (piece : Piece) (line : List ℕ)
    → Heard start now l bits → (f : FoundThere (bits ++ bit ∷ []) piece) →
    IsLine l.sender f.found line → DeframerStands next.deframer (bits ++ bit ∷ []) → next.sender ≡ l.sender → next.pieces ≡ l.pieces + 1
    → PartlySaid now new line → LeftAt start new next (bits ++ bit ∷ [])
left-some start now new l next bits bit piece line h f is stands sender pieces said = record {
  part = record {
    heard = bits ++ bit ∷ [];
    rest = [];
    bits_are = sym (append-nil (bits ++ bit ∷ []));
    lines = h.lines ++ line;
    are_lines = subst (λ (role : Role). AreLines role (pieces_of (bits ++ bit ∷ [])) (h.lines ++ line)) (sym sender)
        (lines-more start now l bits bit piece line h f is);
    said = Said-PartlySaid start now new h.lines line h.said said;
  };
  stands = stands;
  count = pieces ∙ ap (λ n. n + 1) h.count ∙ sym (length-append (pieces_of bits) (f.found ∷ []))
      ∙ sym (ap length (piece-more bits bit piece f));
}

-- of more bits too some were heard
pub partly-longer : (start now : FolderState) (sender : Role) (bits more all : List Bool) → bits ++ more ≡ all
    → PartlyHeard start now sender bits → PartlyHeard start now sender all
partly-longer start now sender bits more all e h = grind (arith, append_assoc)

-- a fault leaves the listener at some of more bits too
pub left-longer : (start now : FolderState) (l : Listening) (bits more all : List Bool) → bits ++ more ≡ all → LeftAt start now l bits
    → LeftAt start now l all
unfolding partly-longer
left-longer start now l bits more all e h =
    record { part = partly-longer start now l.sender bits more all e h.part; stands = h.stands; count = h.count }

-- the low bits of an octet up to a place, and one more
pub bit-more : (n count i : ℕ) → i < count
    → take i (low_bits count n) ++ nat_eq (bit_and (n / 2 ^ i) 1) 1 ∷ [] ≡ take (i + 1) (low_bits count n)
bit-more n count i h =
    let within : i < length (low_bits count n) = omega (arith, h, length-low_bits count n) in
    let bit : get_or (low_bits count n) i false ≡ nat_eq (bit_and (n / 2 ^ i) 1) 1 =
    get_or-low_bits count n i false h ∙ ap (λ x. nat_eq x 1) (sym (and_mask (n / 2 ^ i) 1)) in
    sym (take_more (low_bits count n) i false within ∙ ap (λ b. take i (low_bits count n) ++ b ∷ []) bit)

-- the octets up to a place, and one more
pub octet-more : (octets : List ℕ) (i : ℕ) → i < length octets
    → bits_of (take i octets) ++ octet_bits (get_or octets i 0) ≡ bits_of (take (i + 1) octets)
octet-more octets i h = sym (bits_of-snoc (take i octets) (get_or octets i 0)) ∙ sym (ap bits_of (take_more octets i 0 h))

pub octets-left : (octets : List ℕ) (i : ℕ) → bits_of (take i octets) ++ bits_of (drop i octets) ≡ bits_of octets
octets-left octets i = sym (bits_of-append (take i octets) (drop i octets)) ∙ ap bits_of (take-append-drop i octets)

-- nothing more is said
pub said-nothing : (f : FolderState) → Said f f []
said-nothing f = grind (arith, append-nil)

-- a read leaves what was said
pub said-after : (start old mid : FolderState) (lines : List ℕ) → OnlyReads old mid → Said start old lines → Said start mid lines
said-after start old mid lines r said = r.said ∙ said

pub heard-after : (start old mid : FolderState) (l : Listening) (bits : List Bool) → OnlyReads old mid → Heard start old l bits
    → Heard start mid l bits
heard-after start old mid l bits reads h = grind (arith, said-after)

-- ---- what becomes of a listener and of its folder

pub says-trans : (a b c : FolderState) → OnlySays a b → OnlySays b c → OnlySays a c
says-trans a b c p q = OnlySays-trans p q

says-none : (f : FolderState) → OnlySays f f
says-none f = record { goes_on = GoesOn-refl f; names = λ name told. refl; read_faults = λ name. refl }

-- bits with which no piece ends
pub hears-quiet : (f : FolderState) (l next : Listening) (bits : List Bool)
    → ((past : List Bool) → DeframerStands l.deframer past → DeframerStands next.deframer (past ++ bits))
    → ((past : List Bool) → DeframerStands l.deframer past → pieces_of (past ++ bits) ≡ pieces_of past)
    → next.sender ≡ l.sender → next.pieces ≡ l.pieces → Hears f f l next bits (Ok tt)
hears-quiet f l next bits stands quiet sender pieces = grind (arith, heard-quiet, says-none)

-- no bits at all
pub hears-none : (f : FolderState) (l : Listening) → Hears f f l l [] (Ok tt)
hears-none f l = grind (arith, hears-quiet, append-nil)

-- a fault behind calls that counted none
fails-later : (a b c : FolderState) (fault : FolderFault) → CountsStand a b → SayFails b c fault → SayFails a c fault
fails-later a b c fault stand fails = grind (arith)

-- bits behind bits
pub hears-on : (a b c : FolderState) (l m n : Listening) (front bits : List Bool) (r : Result (Unit {0}) FolderFault)
    → Hears a b l m front (Ok tt) → Hears b c m n bits r → Hears a c l n (front ++ bits) r
hears-on a b c l m n front bits r p q = record {
  ok = λ start past h. on-ok-map r (subst (λ (all : List Bool). Heard start c n all) (append_assoc past front bits))
      (q.ok start (past ++ front) (p.ok start past h));
  left = λ start past h. on-err-map r (subst (λ (all : List Bool). LeftAt start c n all) (append_assoc past front bits))
      (q.left start (past ++ front) (p.ok start past h));
  only = OnlySays-trans p.only q.only;
  fails = if-err-map r (λ fault. fails-later a b c fault p.stand) q.fails;
  stand = on-ok-map r (CountsStand-trans p.stand) q.stand;
  sender = q.sender ∙ p.sender;
}

-- a fault before the last bits
pub hears-part : (a b : FolderState) (l m : Listening) (bits rest : List Bool) (fault : FolderFault)
    → Hears a b l m bits (Err fault) → Hears a b l m (bits ++ rest) (Err fault)
hears-part a b l m bits rest fault h = record {
  ok = λ start past heard. tt;
  left = λ start past heard. left-longer start b m (past ++ bits) rest (past ++ (bits ++ rest)) (append_assoc past bits rest)
      (h.left start past heard);
  only = h.only;
  fails = h.fails;
  stand = tt;
  sender = h.sender;
}

-- of which bits a fault leaves a part, as the sender tells it that began
pub hears-partly : (a b : FolderState) (l m : Listening) (bits : List Bool) (r : Result (Unit {0}) FolderFault) → Hears a b l m bits r
    → (start : FolderState) (past : List Bool) → Heard start a l past → OnErr r (PartlyHeard start b l.sender (past ++ bits))
hears-partly a b l m bits r h start past heard =
    on-err-map r (λ left. subst (λ (role : Role). PartlyHeard start b role (past ++ bits)) h.sender left.part) (h.left start past heard)
