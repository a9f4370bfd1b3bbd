-- A line's parts are read, and what is read has them.
use Rattle.trace_audit.proofs.Cited.{◌≡◌, ℕ, ◌+◌, ◌-◌, ◌<◌, ◌≤◌, Bool, true, false, cond, List, [], ◌∷◌, ◌++◌, length, take, codes, decimal}
use Rattle.trace_audit.proofs.Cited.{Option, Some, None, refl, sym, ap, subst, ◌∙◌, arith, append_assoc, ◌⊎◌, inl, inr, length-append}
use Rattle.trace_audit.proofs.Cited.{append-nil, same_Some, option_map, option_and_then, IfSome, ◌==◌, bytes_eq, line_begins, break_word}
use Rattle.trace_audit.proofs.Cited.{Role, Originator, Answerer, behind, number_at, count_bound, IsHeard, IsSent, HasParts, behind_heard}
use Rattle.trace_audit.proofs.Cited.{behind_sent, chance_parts, LineText}
use Rattle.std.proofs.Math.Seq.{take-append_seam}
use Rattle.trace_audit.specs.Grammar.{IsChance, IsPlain}
use Rattle.trace_audit.specs.Reading.{before, heard_at, sent_at, role_at, ends_in, given_at, sent_and_given, reply_at, plain_line}
use Rattle.trace_audit.specs.Reading.{plain_at, body_at, behind_turn, line_in}
use Rattle.trace_audit.proofs.Fronts.{chained, mapped, behind-is}
use Rattle.trace_audit.proofs.Numbers.{number-reads, number-is}
use Rattle.trace_audit.proofs.Shapes.{Stops}
use Rattle.trace_audit.proofs.Frames.{same-bytes, heard-reads, heard-is, heard-short, sent-reads, sent-is, sent-short}

-- ---- a text without what stands behind its front

before-front : (front rest : List ℕ) → before (front ++ rest) rest ≡ front
before-front front rest =
    let e : length (front ++ rest) - length rest ≡ length front = omega (arith, length-append {A = ℕ} front rest) in
    ap (λ n. take n (front ++ rest)) e ∙ take-append_seam front rest

before-is : (text front rest : List ℕ) → text ≡ front ++ rest → before text rest ≡ front
before-is text front rest e = ap (λ t. before t rest) e ∙ before-front front rest

-- a front of few octets
abbrev pub IsFew : List ℕ → List ℕ → Type 0
IsFew text rest = (length rest ≤ length text) × (length text - length rest ≤ 96)

few : (text front rest : List ℕ) → text ≡ front ++ rest → length front ≤ 96 → IsFew text rest
few text front rest e h = grind (arith, length-append)

pub heard-few : (text rest : List ℕ) → behind_heard text ≡ Some rest → IsFew text rest
heard-few text rest e = let p = heard-is text rest e in few text p.0 rest p.2 (omega (arith, (heard-short p.0 p.1).1))

pub sent-few : (text rest : List ℕ) → behind_sent text ≡ Some rest → IsFew text rest
sent-few text rest e = let p = sent-is text rest e in few text p.0 rest p.2 (omega (arith, (sent-short p.0 p.1).1))

-- ---- what arrived and what was sent

heard-at-reads : (text rest : List ℕ) → IsHeard text → Stops rest → heard_at (text ++ rest) ≡ Some (text, rest)
heard-at-reads text rest h s =
    ap (option_map (λ (r : List ℕ). (before (text ++ rest) r, r))) (heard-reads text rest h s)
    ∙ ap (λ (f : List ℕ). Some (f, rest)) (before-front text rest)

sent-at-reads : (text rest : List ℕ) → IsSent text → Stops rest → sent_at (text ++ rest) ≡ Some (text, rest)
sent-at-reads text rest h s = grind (arith, sent-reads, before-front)

abbrev Pair : Type 0
Pair = List ℕ × List ℕ

heard-at-is : (text front rest : List ℕ) → heard_at text ≡ Some (front, rest) → IsHeard front × (text ≡ front ++ rest)
heard-at-is text front rest e =
    let m = mapped (λ (r : List ℕ). (before text r, r)) (behind_heard text) (front, rest) e in
    let p = heard-is text m.0 m.1 in
    let r : m.0 ≡ rest = ap (λ (q : Pair). q.1) m.2 in
    let f : p.0 ≡ front = sym (before-is text p.0 m.0 p.2) ∙ ap (λ (q : Pair). q.0) m.2 in
    (subst IsHeard f p.1, p.2 ∙ ap (λ t. t ++ m.0) f ∙ ap (λ t. front ++ t) r)

sent-at-is : (text front rest : List ℕ) → sent_at text ≡ Some (front, rest) → IsSent front × (text ≡ front ++ rest)
sent-at-is text front rest e =
    let m = mapped (λ (r : List ℕ). (before text r, r)) (behind_sent text) (front, rest) e in
    let p = sent-is text m.0 m.1 in
    let r : m.0 ≡ rest = ap (λ (q : Pair). q.1) m.2 in
    let f : p.0 ≡ front = sym (before-is text p.0 m.0 p.2) ∙ ap (λ (q : Pair). q.0) m.2 in
    (subst IsSent f p.1, p.2 ∙ ap (λ t. t ++ m.0) f ∙ ap (λ t. front ++ t) r)

-- ---- the break that was given

abbrev IsUnits : Option ℕ → Type 0
IsUnits given = IfSome given (λ units. units < 256)

given-reads : (given : Option ℕ) → IsUnits given → given_at (break_word given) ≡ Some given
given-reads None h = refl
given-reads (Some n) h =
    ap (λ t. option_and_then ends_in (number_at 256 t)) (sym (append-nil (decimal n)))
    ∙ ap (option_and_then ends_in) (number-reads 256 n [] h (omega arith) refl)

ends-is : (n : ℕ) (rest : List ℕ) (given : Option ℕ) → ends_in (n, rest) ≡ Some given → (rest ≡ []) × (Some n ≡ given)
ends-is n q1 given e = grind (arith)

given-is : (text : List ℕ) (given : Option ℕ) → given_at text ≡ Some given → IsUnits given × (text ≡ break_word given)
given-is [] given e = grind (arith)
given-is (x ∷ text) given e =
    let c = chained ends_in (option_and_then (number_at 256) (behind (codes " break=") (x ∷ text))) given e in
    let d = chained (number_at 256) (behind (codes " break=") (x ∷ text)) c.0 c.1 in
    let l = behind-is (codes " break=") (x ∷ text) d.0 d.1 in
    let p = number-is 256 d.0 c.0.0 c.0.1 d.2 in
    let r = ends-is c.0.0 c.0.1 given c.2 in
    let digits : d.0 ≡ decimal c.0.0 = p.1 ∙ ap (λ t. decimal c.0.0 ++ t) r.0 ∙ append-nil (decimal c.0.0) in
    subst (λ (o : Option ℕ). IsUnits o × (x ∷ text ≡ break_word o)) r.1 (p.0, l ∙ ap (λ t. codes " break=" ++ t) digits)

-- a number with something behind it is no break's
pub given-none : (text field : List ℕ) (n : ℕ) (rest : List ℕ) → (length text == 0) ≡ false → Some field ≡ behind (codes " break=") text
    → Some (n, rest) ≡ number_at 256 field → (length rest == 0) ≡ false → None ≡ given_at text
given-none q0 field n rest s b e m = grind (arith)

-- ---- the reply

reply-reads : (sent : List ℕ) (given : Option ℕ) → IsSent sent → IsUnits given
    → reply_at (codes " > " ++ (sent ++ break_word given)) ≡ Some (sent, given)
reply-reads sent given h k = grind (arith, sent-at-reads, given-reads)

abbrev Reply : Type 0
Reply = List ℕ × Option ℕ

reply-is : (text sent : List ℕ) (given : Option ℕ) → reply_at text ≡ Some (sent, given)
    → IsSent sent × IsUnits given × (text ≡ codes " > " ++ (sent ++ break_word given))
reply-is text sent given e =
    let c = chained sent_and_given (behind (codes " > ") text) (sent, given) e in
    let d = chained (λ (read : Pair). option_map (λ (g : Option ℕ). (read.0, g)) (given_at read.1)) (sent_at c.0) (sent, given) c.2 in
    let m = mapped (λ (g : Option ℕ). (d.0.0, g)) (given_at d.0.1) (sent, given) d.2 in
    let s = sent-at-is c.0 d.0.0 d.0.1 d.1 in
    let g = given-is d.0.1 m.0 m.1 in
    let is_sent : d.0.0 ≡ sent = ap (λ (q : Reply). q.0) m.2 in
    let is_given : m.0 ≡ given = ap (λ (q : Reply). q.1) m.2 in (
      subst IsSent is_sent s.0,
      subst IsUnits is_given g.0,
      behind-is (codes " > ") text c.0 c.1
          ∙ ap (λ t. codes " > " ++ t) (s.1 ∙ ap (λ t. t ++ d.0.1) is_sent ∙ ap (λ t. sent ++ t) (g.1 ∙ ap break_word is_given)),
    )

-- ---- the role

abbrev piece : Role → List ℕ
piece Originator = codes " orig "
piece Answerer = codes " answ "

role-reads : (role : Role) (rest : List ℕ) → role_at (piece role ++ rest) ≡ Some (role, rest)
role-reads role rest = grind (arith)

abbrev Roled : Type 0
Roled = Role × List ℕ

role-is : (text : List ℕ) (role : Role) (rest : List ℕ) → role_at text ≡ Some (role, rest) → text ≡ piece role ++ rest
role-is text role rest e = grind (arith, same_Some, behind-is)

begins-is : (turn : ℕ) (role : Role) (rest : List ℕ) → line_begins turn role ++ rest ≡ decimal turn ++ (piece role ++ rest)
begins-is turn role rest = grind (arith, append_assoc)

-- ---- the line

plain-reads : (turn : ℕ) (role : Role) (arrived sent : List ℕ) (given : Option ℕ) → IsHeard arrived → IsSent sent → IsUnits given
    → plain_at turn role (arrived ++ (codes " > " ++ (sent ++ break_word given))) ≡ Some (plain_line turn role arrived (sent, given))
plain-reads turn role arrived sent given h s g =
    ap (option_and_then (λ (read : Pair). option_map (plain_line turn role read.0) (reply_at read.1)))
    (heard-at-reads arrived (codes " > " ++ (sent ++ break_word given)) h refl)
    ∙ ap (option_map (plain_line turn role arrived)) (reply-reads sent given s g)

-- no other line reads as that of a chance match
no-chance : (turn : ℕ) (role : Role) (text : List ℕ) (t : LineText) → plain_at turn role text ≡ Some t → body_at turn role text ≡ Some t
no-chance turn role text t e = go (bytes_eq text (codes "chance")) refl
  where
    go : (b : Bool) → bytes_eq text (codes "chance") ≡ b → cond b (Some (chance_parts turn role)) (plain_at turn role text) ≡ Some t
    go true same = let n : None ≡ Some t = sym (ap (plain_at turn role) (same-bytes text (codes "chance") same)) ∙ e in absurd cc
    go false same = e

body-reads : (turn : ℕ) (role : Role) (rest : List ℕ) (t : LineText) → body_at turn role rest ≡ Some t → turn < count_bound
    → line_in (line_begins turn role ++ rest) ≡ Some t
body-reads turn role rest t e h = grind (arith, begins-is, number-reads, role-reads)

chance-line : (line : List ℕ) (t : LineText) → IsChance line t → t.turn < count_bound → line_in line ≡ Some t
chance-line line t c h =
    ap line_in c.line_is ∙ body-reads t.turn t.role (codes "chance") (chance_parts t.turn t.role) refl h
    ∙ (λ i. Some (record { turn = t.turn; role = t.role; arrived = sym c.arrived i; sent = sym c.sent i; given = sym c.given i }))

plain-line : (line : List ℕ) (t : LineText) → IsPlain line t → t.turn < count_bound → line_in line ≡ Some t
plain-line line t p h =
    let rest : List ℕ = t.arrived ++ (codes " > " ++ (t.sent ++ break_word t.given)) in
    ap line_in p.line_is
    ∙ body-reads t.turn t.role rest t
    (no-chance t.turn t.role rest t (plain-reads t.turn t.role t.arrived t.sent t.given p.arrived p.sent p.given)) h

-- what has parts is read as these
pub line-reads : (line : List ℕ) (t : LineText) → HasParts line t → line_in line ≡ Some t
line-reads line t h = elim h.parts [ inl c ↦ chance-line line t c h.turn | inr p ↦ plain-line line t p h.turn ]

-- what a body is
abbrev BodyIs : ℕ → Role → List ℕ → LineText → Type 0
BodyIs turn role rest t = (t.turn ≡ turn) × (t.role ≡ role)
    × (IsChance (line_begins t.turn t.role ++ rest) t ⊎ IsPlain (line_begins t.turn t.role ++ rest) t)

chance-body : (turn : ℕ) (role : Role) (rest : List ℕ) → rest ≡ codes "chance" → BodyIs turn role rest (chance_parts turn role)
chance-body turn role rest e = grind (arith)

plain-body : (turn : ℕ) (role : Role) (rest : List ℕ) (t : LineText) → plain_at turn role rest ≡ Some t → BodyIs turn role rest t
plain-body turn role rest t e =
    let c = chained (λ (read : Pair). option_map (plain_line turn role read.0) (reply_at read.1)) (heard_at rest) t e in
    let m = mapped (plain_line turn role c.0.0) (reply_at c.0.1) t c.2 in
    let h = heard-at-is rest c.0.0 c.0.1 c.1 in
    let r = reply-is c.0.1 m.0.0 m.0.1 m.1 in
    subst (BodyIs turn role rest) m.2 (
      refl,
      refl,
      inr (record {
        arrived = h.0;
        sent = r.0;
        given = r.1;
        line_is = ap (λ s. line_begins turn role ++ s) (h.1 ∙ ap (λ s. c.0.0 ++ s) r.2);
      }),
    )

body-is : (turn : ℕ) (role : Role) (rest : List ℕ) (t : LineText) → body_at turn role rest ≡ Some t → BodyIs turn role rest t
body-is turn role rest t e = go (bytes_eq rest (codes "chance")) refl e
  where
    go : (b : Bool) → bytes_eq rest (codes "chance") ≡ b → cond b (Some (chance_parts turn role)) (plain_at turn role rest) ≡ Some t
        → BodyIs turn role rest t
    go true same f =
        subst (BodyIs turn role rest) (same_Some (chance_parts turn role) t f)
        (chance-body turn role rest (same-bytes rest (codes "chance") same))
    go false same f = plain-body turn role rest t f

-- what is read has these parts
pub line-is : (line : List ℕ) (t : LineText) → length line ≤ 160 → line_in line ≡ Some t → HasParts line t
line-is line t short e =
    let c = chained behind_turn (number_at count_bound line) t e in
    let d = chained (λ (next : Roled). body_at c.0.0 next.0 next.1) (role_at c.0.1) t c.2 in
    let n = number-is count_bound line c.0.0 c.0.1 c.1 in
    let r = role-is c.0.1 d.0.0 d.0.1 d.1 in
    let b = body-is c.0.0 d.0.0 d.0.1 t d.2 in
    let whole : line_begins t.turn t.role ++ d.0.1 ≡ line =
    (λ i. line_begins (b.0 i) (b.1 i) ++ d.0.1) ∙ begins-is c.0.0 d.0.0 d.0.1 ∙ ap (λ s. decimal c.0.0 ++ s) (sym r) ∙ sym n.1 in
    record {
      short = short;
      turn = subst (λ k. k < count_bound) (sym b.0) n.0;
      parts = subst (λ s. IsChance s t ⊎ IsPlain s t) whole b.2;
    }

pub unread : (line : List ℕ) (t : LineText) → line_in line ≡ None → HasParts line t → ⊥
unread line t none h = let e : None ≡ Some t = sym none ∙ line-reads line t h in cc

-- a line has one reading
pub one-reading : (line : List ℕ) (a b : LineText) → HasParts line a → HasParts line b → a ≡ b
one-reading line a b h k = same_Some a b (sym (line-reads line a h) ∙ line-reads line b k)

-- parts stand for one line
sent-some : (sent : List ℕ) → IsSent sent → sent ≡ [] → ⊥
sent-some sent h e = omega (arith, (sent-short sent h).0, ap (λ (t : List ℕ). length t) e)

pub one-line : (a b : List ℕ) (t : LineText) → HasParts a t → HasParts b t → a ≡ b
one-line a b t h k = elim h.parts [
  | inl c ↦ elim k.parts [ inl d ↦ c.line_is ∙ sym d.line_is | inr p ↦ absurd (sent-some t.sent p.sent c.sent) ]
  | inr p ↦ elim k.parts [ inl d ↦ absurd (sent-some t.sent p.sent d.sent) | inr q ↦ p.line_is ∙ sym q.line_is ]
]
