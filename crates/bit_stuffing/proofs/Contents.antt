-- Contents, one bit after another, and what a piece is.
use Rattle.std.proofs.lemmas.List.{length_push}
use Rattle.bit_stuffing.proofs.Names.{◌≡◌, ◌≢◌, ℕ, ◌+◌, ◌-◌, ◌≤◌, Bool, true, false, List, [], ◌∷◌, ◌++◌, length, take, arith, refl, sym}
use Rattle.bit_stuffing.proofs.Names.{◌∙◌, ap, subst, IsTrue, get_or, Some, false≢true, nat_tests, common_steps, take_more, drop-append-le}
use Rattle.bit_stuffing.proofs.Names.{take-append-le, drop_all, back, Gathering, Gathers, Lends, OpenedAt, IsFar, IsNear, Aborts, Closes}
use Rattle.bit_stuffing.proofs.Names.{content, IsWhole, Judged, EndsWhole, IsAnswer, Fits, Piece, Whole, Ragged, Aborted, TooLong, TooShort}
use Rattle.bit_stuffing.proofs.Openings.{opened-once, opened-was}
use Rattle.bit_stuffing.proofs.Between.{runs, take-length}
use Rattle.bit_stuffing.proofs.Gather.{not_whole}

eighth : (past : List Bool) → 8 ≤ length past → back past 8 ≡ get_or past (length past - 8) false
eighth past h = grind (arith, common_steps, nat_tests)

-- the content with one more bit of the line
content-more : (past : List Bool) (bit : Bool) (p : ℕ) → p + 8 ≤ length past
    → content (past ++ bit ∷ []) p ≡ content past p ++ back past 8 ∷ []
content-more past bit p h =
    let n : length (past ++ bit ∷ []) - 8 ≡ length past - 8 + 1 = omega (arith, length_push past bit) in
    let t : take (length past - 8 + 1) (past ++ bit ∷ []) ≡ take (length past - 8) past ++ back past 8 ∷ [] =
    take-append-le (length past - 8 + 1) past (bit ∷ []) (omega arith) ∙ take_more past (length past - 8) false (omega arith)
    ∙ ap (λ b. take (length past - 8) past ++ b ∷ []) (sym (eighth past (omega arith))) in
    grind (arith, drop-append-le, back, take-length)

content-first : (past : List Bool) (bit : Bool) (p : ℕ) → p + 8 ≡ length past + 1 → content (past ++ bit ∷ []) p ≡ []
content-first past bit p h =
    drop_all p (take (length (past ++ bit ∷ []) - 8) (past ++ bit ∷ []))
    (omega (arith, length_push past bit, take-length (past ++ bit ∷ []) (length (past ++ bit ∷ []) - 8) (omega arith)))

-- what stands between two flags has a zero behind each five ones
pub content-fits : (past : List Bool) (bit : Bool) (p : ℕ) → OpenedAt past p → p + 8 ≤ length past → Fits 5 (content (past ++ bit ∷ []) p)
content-fits past bit p o h =
    let n : length (past ++ bit ∷ []) - 8 ≡ p + (length past - 7 - p) = omega (arith, length_push past bit) in
    let t : take (p + (length past - 7 - p)) (past ++ bit ∷ []) ≡ take (p + (length past - 7 - p)) past =
    take-append-le (p + (length past - 7 - p)) past (bit ∷ []) (omega arith) in
    let r = runs past p o (length past - 7 - p) (omega arith) in
    rw (n, t) r.fits

-- gathered up to the bit before
abbrev pub GathersAt : Gathering → List Bool → Type 0
GathersAt g bits = (p : ℕ) → OpenedAt bits p → p + 8 ≤ length bits → Gathers g (content bits p)

-- gathered up to the last bit, from where the bits before were open
abbrev pub GathersNow : Gathering → List Bool → Bool → Type 0
GathersNow g past bit = (p : ℕ) → OpenedAt past p → p + 8 ≤ length (past ++ bit ∷ []) → Gathers g (content (past ++ bit ∷ []) p)

pub gathers-next : (past : List Bool) (bit : Bool) (g : Gathering) → GathersNow g past bit → GathersAt g (past ++ bit ∷ [])
gathers-next past bit g k p o behind = k p (opened-was past bit p (omega (arith, length_push past bit)) o) behind

pub gathers-within : (past : List Bool) (bit oldest : Bool) (g h : Gathering) → IsFar past → GathersAt g past → oldest ≡ back past 8
    → ((bits : List Bool) → Gathers g bits → Gathers h (bits ++ oldest ∷ [])) → GathersNow h past bit
gathers-within past bit oldest g h far k is more p was behind =
    let same : p ≡ far.opened = opened-once past p far.opened was far.is_opened in
    let room : p + 8 ≤ length past = omega (arith, far.far) in
    let c : content past p ++ oldest ∷ [] ≡ content (past ++ bit ∷ []) p = grind (arith, content, content-more) in
    subst (Gathers h) c (more (content past p) (k p was room))

pub gathers-outside : (past : List Bool) (bit : Bool) (h : Gathering) → IsNear past → Gathers h [] → GathersNow h past bit
gathers-outside past bit h near empty p was behind =
    subst (Gathers h) (sym (content-first past bit p (omega (arith, near p was, length_push past bit)))) empty

-- the flag that a piece closes
snoc-front : (a b : List Bool) (x y : Bool) → a ++ x ∷ [] ≡ b ++ y ∷ [] → a ≡ b
snoc-front [] [] x y e = refl
snoc-front [] (c ∷ b) x y e = let n : length (x ∷ []) ≡ length (c ∷ (b ++ y ∷ [])) = ap length e in
    absurd (omega (arith, n, length_push b y))
snoc-front (c ∷ a) [] x y e = let n : length (c ∷ (a ++ x ∷ [])) ≡ length (y ∷ []) = ap length e in
    absurd (omega (arith, n, length_push a x))
snoc-front (c ∷ a) (d ∷ b) x y e =
    let tail : a ++ x ∷ [] ≡ b ++ y ∷ [] = cc in
    let head : c ≡ d = cc in
    rw (head, snoc-front a b x y tail) refl

pub ends-closes : (past : List Bool) (bit : Bool) (octets : List ℕ) → EndsWhole (past ++ bit ∷ []) octets
    → (c : Closes past (past ++ bit ∷ [])) × IsWhole (content (past ++ bit ∷ []) c.opened) octets
ends-closes past bit octets w =
    let same : w.past ≡ past = sym (snoc-front past w.past bit w.last w.splits) in
    let closes : Closes past (past ++ bit ∷ []) = record {
      opened = w.closes.opened;
      is_opened = subst (λ l. OpenedAt l w.closes.opened) same w.closes.is_opened;
      closing = w.closes.closing;
      some = w.closes.some;
    } in
    (closes, w.whole)

pub none-lent : (past : List Bool) (bit : Bool) → (Closes past (past ++ bit ∷ []) → ⊥) → (other : List ℕ)
    → EndsWhole (past ++ bit ∷ []) other → ⊥
none-lent past bit shut other w = shut (ends-closes past bit other w).0

pub no_closing : (past : List Bool) (bit : Bool) → Aborts past (past ++ bit ∷ []) → Closes past (past ++ bit ∷ []) → ⊥
no_closing past bit a c = grind (arith)

-- closed by a flag, within which the content stands
pub closes-fits : (past : List Bool) (bit : Bool) (c : Closes past (past ++ bit ∷ [])) → Fits 5 (content (past ++ bit ∷ []) c.opened)
closes-fits past bit c = content-fits past bit c.opened c.is_opened (omega (arith, c.some, length_push past bit))

pub closes-gathers : (past : List Bool) (bit : Bool) (g : Gathering) → GathersNow g past bit → (c : Closes past (past ++ bit ∷ []))
    → Gathers g (content (past ++ bit ∷ []) c.opened)
closes-gathers past bit g k c = k c.opened c.is_opened (omega (arith, c.some))

pub piece-answer : (past : List Bool) (bit : Bool) (piece : Piece) (c : Closes past (past ++ bit ∷ []))
    → Judged (content (past ++ bit ∷ []) c.opened) piece → IsAnswer past bit (Some piece)
piece-answer past bit Whole c j = (c, j)
piece-answer past bit Ragged c j = (c, j)
piece-answer past bit TooLong c j = (c, j)
piece-answer past bit TooShort c j = (c, j)
piece-answer past bit Aborted c j = absurd j

-- where something else than a whole piece is closed, no whole one is
pub closes-other : (past : List Bool) (bit : Bool) (c : Closes past (past ++ bit ∷ [])) (piece : Piece)
    → Judged (content (past ++ bit ∷ []) c.opened) piece → piece ≢ Whole
    → (other : List ℕ) → EndsWhole (past ++ bit ∷ []) other → ⊥
closes-other past bit c piece j isnt other w =
    let d = ends-closes past bit other w in
    let same : d.0.opened ≡ c.opened = opened-once past d.0.opened c.opened d.0.is_opened c.is_opened in
    not_whole (content (past ++ bit ∷ []) c.opened) piece other j isnt (subst (λ p. IsWhole (content (past ++ bit ∷ []) p) other) same d.1)

-- what is lent behind a piece
pub piece-lent : (past : List Bool) (bit : Bool) (octets : List ℕ) (piece : Piece) (lent : Bool) (c : Closes past (past ++ bit ∷ []))
    → Judged (content (past ++ bit ∷ []) c.opened) piece
    → (piece ≡ Whole → IsWhole (content (past ++ bit ∷ []) c.opened) octets) → (IsTrue lent → piece ≡ Whole)
    → ((IsTrue lent → ⊥) → piece ≢ Whole) → Lends lent octets (past ++ bit ∷ [])
piece-lent past bit octets piece true c j whole is isnt =
    record { past = past; last = bit; splits = refl; closes = c; whole = whole (is refl) }
piece-lent past bit octets piece false c j whole is isnt = closes-other past bit c piece j (isnt false≢true)
