-- What a reader takes for the next slot is the next slot that the recording holds, and the other way.
use Rattle.line_tap.proofs.Cited.{◌≡◌, ◌∙◌, ℕ, zero, suc, ◌+◌, ◌*◌, ◌≤◌, List, [], ◌∷◌, ◌++◌, length, take, drop, refl, sym, ap, arith}
use Rattle.line_tap.proofs.Cited.{common_steps, signal_bits, Check, Sent, Wire, signals, bits_of, IsNext, ReadsFor, carries, HoldsNext}
use Rattle.line_tap.proofs.Cited.{next_bits, octets_of, SlotReader, Turn, samples_in, sample_of, bits_behind, Role}
use Rattle.std.proofs.Math.Seq.{take-add}

pub samples-drop : (n : ℕ) (octets : List ℕ) → 4 * n ≤ length octets → samples_in (drop (4 * n) octets) ≡ drop n (samples_in octets)
samples-drop zero octets h = refl
samples-drop (suc n) [] h = absurd (omega (arith, h))
samples-drop (suc n) (a ∷ []) h = absurd (omega (arith, h))
samples-drop (suc n) (a ∷ b ∷ []) h = absurd (omega (arith, h))
samples-drop (suc n) (a ∷ b ∷ c ∷ []) h = absurd (omega (arith, h))
samples-drop (suc n) (a ∷ b ∷ c ∷ d ∷ octets) h =
    let four : 4 * suc n ≡ suc (suc (suc (suc (4 * n)))) = omega arith in
    ap (λ k. samples_in (drop k (a ∷ b ∷ c ∷ d ∷ octets))) four ∙ samples-drop n octets (omega (arith, h))

pub samples-take : (n : ℕ) (octets : List ℕ) → 4 * n ≤ length octets → samples_in (take (4 * n) octets) ≡ take n (samples_in octets)
samples-take zero octets h = refl
samples-take (suc n) [] h = absurd (omega (arith, h))
samples-take (suc n) (a ∷ []) h = absurd (omega (arith, h))
samples-take (suc n) (a ∷ b ∷ []) h = absurd (omega (arith, h))
samples-take (suc n) (a ∷ b ∷ c ∷ []) h = absurd (omega (arith, h))
samples-take (suc n) (a ∷ b ∷ c ∷ d ∷ octets) h =
    let four : 4 * suc n ≡ suc (suc (suc (suc (4 * n)))) = omega arith in
    ap (λ k. samples_in (take k (a ∷ b ∷ c ∷ d ∷ octets))) four
    ∙ ap (λ xs. sample_of a b c d ∷ xs) (samples-take n octets (omega (arith, h)))

-- the octets of the slot of the turn after so many
abbrev pub piece_of : Wire → ℕ → List ℕ → List ℕ
piece_of c turns body = take (4 * c.symbols) (drop (octets_of c turns) body)

pub one-slot-more : (c : Wire) (turns : ℕ) (body : List ℕ) → octets_of c (turns + 1) ≤ length body
    → take (c.symbols * (turns + 1)) (samples_in body) ≡ take (c.symbols * turns) (samples_in body) ++ samples_in (piece_of c turns body)
one-slot-more c turns body h =
    let n : ℕ = c.symbols * turns in
    let next : c.symbols * (turns + 1) ≡ n + c.symbols = mul-one c.symbols turns in
    let left : 4 * n ≤ length body = omega (arith, h, next) in
    let rest : 4 * c.symbols ≤ length (drop (4 * n) body) = rest-long (4 * n) (4 * c.symbols) body (omega (arith, h, next)) in
    ap (λ k. take k (samples_in body)) next ∙ take-add n c.symbols (samples_in body)
    ∙ ap (λ xs. take n (samples_in body) ++ take c.symbols xs) (sym (samples-drop n body left))
    ∙ ap (λ xs. take n (samples_in body) ++ xs) (sym (samples-take c.symbols (drop (4 * n) body) rest))
  where
    mul-one : (a b : ℕ) → a * (b + 1) ≡ a * b + a
    mul-one a b = grind (arith)

    rest-long : (i j : ℕ) (xs : List ℕ) → i + j ≤ length xs → j ≤ length (drop i xs)
    rest-long i j xs h = grind (arith, common_steps)

-- the same bits
same-bits : (r : SlotReader) (c : Wire) (check : Check) (role : Role) (ts : List Turn) (s : Sent) → ReadsFor r c check role ts
    → signal_bits (4 * r.symbols) (signals c role ts) ++ bits_behind (4 * r.symbols) (signals c role ts) (carries r s)
    ≡ bits_of c role ts ++ next_bits c check role ts s
same-bits r c check role ts s h = grind (arith)

pub held-is-next : (r : SlotReader) (c : Wire) (check : Check) (role : Role) (ts : List Turn) (body : List ℕ) (s : Sent)
    → ReadsFor r c check role ts → HoldsNext c check role ts body s
    → IsNext r (signals c role ts) (take (c.symbols * length ts) (samples_in body)) (samples_in (piece_of c (length ts) body)) s
held-is-next r c check role ts body s h k = grind (arith, same-bits, one-slot-more)

pub next-is-held : (r : SlotReader) (c : Wire) (check : Check) (role : Role) (ts : List Turn) (body : List ℕ) (s : Sent)
    → ReadsFor r c check role ts → octets_of c (length ts + 1) ≤ length body
    → IsNext r (signals c role ts) (take (c.symbols * length ts) (samples_in body)) (samples_in (piece_of c (length ts) body)) s
    → HoldsNext c check role ts body s
next-is-held r c check role ts body s h whole k = grind (arith, one-slot-more, same-bits)
