-- What an end is handed by its user are octets, and so is what it then holds.
use Rattle.std.proofs.Common.{◌≡◌, ℕ, zero, suc, ◌<◌, Bool, true, false, cond, nat_le, List, [], ◌∷◌, ◌++◌, length, All, slice_get, arith}
use Rattle.std.proofs.Common.{refl, sym, subst, Option, Some, None}
use Rattle.std.specs.List.{concat}
use Rattle.std.proofs.lemmas.List.{length-take}
use Rattle.std.proofs.lemmas.List.Elements.{All-nil, All-cons, All-head, All-tail, All-push, All-take}
use Rattle.line_ends.proofs.Names.{Account, AreOctets, OwnBreaks, after_ask, after_break_asked, after_busy, after_given}
use Rattle.line_ends.proofs.Names.{takes_break, wants}
use Rattle.link_run.specs.End.{User, BreakLine, delivered, offered_at, offered_times, room_for, offered, is_busy, next_break, asked_at}
use Rattle.link_run.specs.End.{asked, served}
use Rattle.link_run.specs.Reading.{IsOffered, OffersWhatIsRead, OwnSegmentsStay}
use Rattle.line_ends.proofs.Words.{Octet, Owes}
use Rattle.line_ends.proofs.Saying.{AllOctets, IsReady}

-- the length of a break is an octet
abbrev pub IsOctetBreak : BreakLine → Type 0
IsOctetBreak line = line.length_octet < 256

-- An end was offered its user's file up to some place, and the breaks that it holds are octets.
pub record Holds (file : List ℕ) (a : Account) : Type 0 where
  pub offered : IsOffered file a
  pub own : AreOctets a.own_breaks.lengths
  pub owes : Owes a

pub append-left : (xs ys : List ℕ) → AreOctets (xs ++ ys) → AreOctets xs
append-left [] ys h = All-nil Octet
append-left (x ∷ xs) ys h = All-cons Octet x xs (All-head Octet x (xs ++ ys) h) (append-left xs ys (All-tail Octet x (xs ++ ys) h))

append-right : (xs ys : List ℕ) → AreOctets (xs ++ ys) → AreOctets ys
append-right [] ys h = h
append-right (x ∷ xs) ys h = append-right xs ys (All-tail Octet x (xs ++ ys) h)

each-octets : (ps : List (List ℕ)) → AreOctets (concat ps) → AllOctets ps
each-octets [] h = tt
each-octets (p ∷ ps) h = (append-left p (concat ps) h, each-octets ps (append-right p (concat ps) h))

-- so it is ready to speak
pub ready : (file : List ℕ) (a : Account) → Holds file a → IsReady file a
ready file a h = record {
  offer = h.offered.allowed;
  pieces = λ f. each-octets a.outgoing.pieces (subst AreOctets (sym h.offered.cut.begins) (All-take Octet _ file f));
  own = h.own;
  owes = h.owes;
}

pub record OfferLaws : Type 0 where
  pub next : OffersWhatIsRead
  pub own : OwnSegmentsStay

holds-delivered : (file : List ℕ) (a : Account) → Holds file a → Holds file (after_given (delivered a))
holds-delivered file a h = grind (arith)

offers-at : OfferLaws → (file : List ℕ) (a : Account) (w : Option ℕ) → wants a ≡ w → Holds file a → Holds file (offered_at file a w)
offers-at laws file a w e h = grind (arith, length-take)

offers-times : OfferLaws → (n : ℕ) (file : List ℕ) (a : Account) → Holds file a → Holds file (offered_times n file a)
offers-times laws zero file a h = h
offers-times laws (suc n) file a h = offers-times laws n file (offered_at file a (wants a)) (offers-at laws file a (wants a) refl h)

holds-busy : (file : List ℕ) (busy : Bool) (a : Account) → Holds file a → Holds file (after_busy busy a)
holds-busy file busy a h = grind (arith)

more-breaks : (turn l : ℕ) (b : OwnBreaks) → l < 256 → AreOctets b.lengths → AreOctets (after_ask turn l b).lengths
more-breaks turn l b s h = go (takes_break turn b)
  where
    go : (t : Bool) → AreOctets (cond t (record b { lengths = b.lengths ++ l ∷ []; brk = true; set = turn; count = 0 }) b).lengths
    go true = All-push Octet b.lengths l h s
    go false = h

asks : (file : List ℕ) (turn l : ℕ) (a : Account) → l < 256 → Holds file a → Holds file (after_break_asked turn l a)
asks file turn l a s h = grind (arith, more-breaks)

-- the break at an index
abbrev IfBreak : Option BreakLine → Type 0
IfBreak None = Unit {0}
IfBreak (Some b) = IsOctetBreak b

break-at : (breaks : List BreakLine) (n : ℕ) → All IsOctetBreak breaks → IfBreak (slice_get breaks n)
break-at [] n h = tt
break-at (b ∷ breaks) zero h = All-head IsOctetBreak b breaks h
break-at (b ∷ breaks) (suc n) h = break-at breaks n (All-tail IsOctetBreak b breaks h)

asks-at : (file : List ℕ) (turn : ℕ) (o : Option BreakLine) (a : Account) → IfBreak o → Holds file a → Holds file (asked_at turn o a)
asks-at file turn None a s h = h
asks-at file turn (Some b) a s h = go (nat_le b.turn turn)
  where
    go : (c : Bool) → Holds file (cond c (after_break_asked turn b.length_octet a) a)
    go true = asks file turn b.length_octet a s h
    go false = h

holds-asked : (file : List ℕ) (turn : ℕ) (released : Bool) (breaks : List BreakLine) (a : Account) → All IsOctetBreak breaks → Holds file a
    → Holds file (asked turn released breaks a)
holds-asked file turn true breaks a s h = h
holds-asked file turn false breaks a s h = asks-at file turn (next_break breaks a) a (break-at breaks (length a.own_breaks.lengths) s) h

pub holds-served : OfferLaws → (user : User) (turn : ℕ) (released : Bool) (a : Account) → All IsOctetBreak user.breaks → Holds user.file a
    → Holds user.file (served user turn released a).account
holds-served laws user turn released a o h =
    let given = after_given (delivered a) in
    let pieces = offers-times laws (room_for given) user.file given (holds-delivered user.file a h) in
    holds-asked user.file turn released user.breaks (after_busy (is_busy turn user.busy) (offered user.file given)) o
    (holds-busy user.file (is_busy turn user.busy) (offered user.file given) pieces)
