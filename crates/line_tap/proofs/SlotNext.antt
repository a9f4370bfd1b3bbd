-- The octets of one slot more, behind those of all slots before.
use Rattle.line_tap.proofs.Cited.{◌≡◌, ◌∙◌, ℕ, ◌+◌, ◌*◌, ◌≤◌, ◌<◌, List, [], ◌∷◌, ◌++◌, length, take, drop, arith, length-append, sym, ap}
use Rattle.line_tap.proofs.Cited.{subst, take-append_seam, drop-append_seam, take_all, length-take, Check, Sent, Wire, signals, ReadsOn}
use Rattle.line_tap.proofs.Cited.{ReadsNext, Slot, ReadsFor, ReaderStands, ReadsSlot, IsNext, carries, octets_of, HoldsNext, SlotReader}
use Rattle.line_tap.proofs.Cited.{Turn, samples_in, IsCodedAs, signal_of, Framing, Role, Sample}
use Rattle.line_tap.proofs.NextSlots.{samples-take, one-slot-more, piece_of, held-is-next, next-is-held}

-- ---- octets and samples

pub octets-next : (c : Wire) (n : ℕ) → octets_of c (n + 1) ≡ octets_of c n + 4 * c.symbols
octets-next c n = grind (arith)

pub count-next : (c : Wire) (n : ℕ) (body piece : List ℕ) → length body ≡ octets_of c n → length piece ≡ 4 * c.symbols
    → length (body ++ piece) ≡ octets_of c (n + 1)
count-next c n body piece h k = omega (arith, octets-next c n, length-append {A = ℕ} body piece, h, k)

piece-behind : (c : Wire) (n : ℕ) (body piece : List ℕ) → length body ≡ octets_of c n → length piece ≡ 4 * c.symbols
    → piece_of c n (body ++ piece) ≡ piece
piece-behind c n body piece h k =
    ap (λ m. take (4 * c.symbols) (drop m (body ++ piece))) (sym h) ∙ ap (take (4 * c.symbols)) (drop-append_seam body piece)
    ∙ take_all (4 * c.symbols) piece (omega (arith, k))

samples-before : (c : Wire) (n : ℕ) (body piece : List ℕ) → length body ≡ octets_of c n
    → take (c.symbols * n) (samples_in (body ++ piece)) ≡ samples_in body
samples-before c n body piece h =
    sym (samples-take (c.symbols * n) (body ++ piece) (omega (arith, h, length-append {A = ℕ} body piece)))
    ∙ ap (λ m. samples_in (take m (body ++ piece))) (sym h) ∙ ap samples_in (take-append_seam body piece)

pub samples-behind : (c : Wire) (n : ℕ) (body piece : List ℕ) → length body ≡ octets_of c n → length piece ≡ 4 * c.symbols
    → samples_in body ++ samples_in piece ≡ samples_in (body ++ piece)
samples-behind c n body piece h k =
    let count = count-next c n body piece h k in
    let all : take (c.symbols * (n + 1)) (samples_in (body ++ piece)) ≡ samples_in (body ++ piece) =
    sym (samples-take (c.symbols * (n + 1)) (body ++ piece) (omega (arith, count)))
    ∙ ap samples_in (take_all (4 * (c.symbols * (n + 1))) (body ++ piece) (omega (arith, count))) in
    ap (λ l. l ++ samples_in piece) (sym (samples-before c n body piece h))
    ∙ ap (λ p. take (c.symbols * n) (samples_in (body ++ piece)) ++ samples_in p) (sym (piece-behind c n body piece h k))
    ∙ sym (one-slot-more c n (body ++ piece) (omega (arith, count))) ∙ all

-- ---- what a reader takes for the next slot

next-of : (r : SlotReader) (c : Wire) (check : Check) (role : Role) (ts : List Turn) (body piece : List ℕ) (s : Sent)
    → ReadsFor r c check role ts → length body ≡ octets_of c (length ts) → length piece ≡ 4 * c.symbols
    → HoldsNext c check role ts (body ++ piece) s → IsNext r (signals c role ts) (samples_in body) (samples_in piece) s
next-of r c check role ts body piece s h count size k =
    let at-piece : IsNext r (signals c role ts) (take (c.symbols * length ts) (samples_in (body ++ piece))) (samples_in piece) s =
    subst (λ p. IsNext r (signals c role ts) (take (c.symbols * length ts) (samples_in (body ++ piece))) (samples_in p) s)
    (piece-behind c (length ts) body piece count size) (held-is-next r c check role ts (body ++ piece) s h k) in
    subst (λ (l : List Sample). IsNext r (signals c role ts) l (samples_in piece) s) (samples-before c (length ts) body piece count)
    at-piece

held-of : (r : SlotReader) (c : Wire) (check : Check) (role : Role) (ts : List Turn) (body piece : List ℕ) (s : Sent)
    → ReadsFor r c check role ts → length body ≡ octets_of c (length ts) → length piece ≡ 4 * c.symbols
    → IsNext r (signals c role ts) (samples_in body) (samples_in piece) s → HoldsNext c check role ts (body ++ piece) s
held-of r c check role ts body piece s h count size k =
    let whole : octets_of c (length ts + 1) ≤ length (body ++ piece) = omega (arith, count-next c (length ts) body piece count size) in
    next-is-held r c check role ts (body ++ piece) s h whole
    (subst (λ p. IsNext r (signals c role ts) (take (c.symbols * length ts) (samples_in (body ++ piece))) (samples_in p) s)
    (sym (piece-behind c (length ts) body piece count size))
    (subst (λ (l : List Sample). IsNext r (signals c role ts) l (samples_in piece) s)
    (sym (samples-before c (length ts) body piece count)) k))

-- where the reader takes none, the octets hold none
pub none-held : (r : SlotReader) (c : Wire) (check : Check) (role : Role) (ts : List Turn) (body piece : List ℕ)
    → ReadsOn r c check role ts body → length piece ≡ 4 * c.symbols
    → ((s : Sent) → IsNext r (signals c role ts) (samples_in body) (samples_in piece) s → ⊥)
    → (s : Sent) → HoldsNext c check role ts (body ++ piece) s → ⊥
none-held r c check role ts body piece h size none s k = none s (next-of r c check role ts body piece s h.reads h.count size k)

-- what it reads is what they hold
pub reads-next : (old new : SlotReader) (c : Wire) (check : Check) (role : Role) (ts : List Turn) (body piece : List ℕ) (slot : Slot)
    → ReadsOn old c check role ts body → length piece ≡ 4 * c.symbols
    → ReadsSlot old new (signals c role ts) (samples_in body) (samples_in piece) slot.labels slot.sent
    → ReadsNext new c check role ts (body ++ piece) slot
reads-next old new c check role ts body piece slot h size k = record {
  holds = held-of old c check role ts body piece slot.sent h.reads h.count size k.next;
  count = count-next c (length ts) body piece h.count size;
  symbols = k.symbols ∙ h.reads.symbols;
  framing = k.framing ∙ h.reads.framing;
  stands = subst (λ x. ReaderStands new (signals c role ts ++ x ∷ []) (samples_in (body ++ piece))) carried
      (subst (λ (l : List Sample). ReaderStands new (signals c role ts ++ carries old slot.sent ∷ []) l)
      (samples-behind c (length ts) body piece h.count size) k.stands);
  coded = subst (λ x. IsCodedAs role (4 * c.symbols) (signals c role ts) x slot.labels) carried
      (subst (λ n. IsCodedAs role (4 * n) (signals c role ts) (carries old slot.sent) slot.labels) h.reads.symbols
      (subst (λ r. IsCodedAs r (4 * old.symbols) (signals c role ts) (carries old slot.sent) slot.labels)
      (ap (λ (w : Framing). w.sender) h.reads.framing) k.coded));
}
  where
    carried : carries old slot.sent ≡ signal_of check role c.dlci slot.sent
    carried = ap (λ (w : Framing). signal_of w.check w.sender w.dlci slot.sent) h.reads.framing

-- less than a slot's octets hold none
pub short-held : (r : SlotReader) (c : Wire) (check : Check) (role : Role) (ts : List Turn) (body piece : List ℕ) (count : ℕ)
    → ReadsOn r c check role ts body → count < 4 * c.symbols → (s : Sent) → HoldsNext c check role ts (body ++ take count piece) s → ⊥
short-held r c check role ts body piece count h few s x = grind (arith, octets-next, length-append, length-take)
