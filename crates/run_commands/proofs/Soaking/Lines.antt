-- Lines one behind another.
use Rattle.run_commands.proofs.Names.{◌≡◌, ◌∙◌, ℕ, zero, suc, ◌+◌, ◌*◌, ◌<◌, ◌≤◌, List, [], ◌∷◌, ◌++◌, length, refl, sym, ap, subst, arith}
use Rattle.run_commands.proofs.Names.{append_assoc, length-append, codes, decimal, text_of, role_in_turn, turn_lost, delay_line, noise_head}
use Rattle.run_commands.proofs.Names.{noise_line, lose_head, lose_line, soak_lines, Role, Originator, Answerer}
use Rattle.std.proofs.Common.{◌^◌}
use Rattle.std.proofs.lemmas.Fmt.{length-decimal-le}
use Rattle.run_commands.specs.Soaking.Text.{soak_text}

pub text-more : (lines : List (List ℕ)) (line : List ℕ) → text_of (lines ++ line ∷ []) ≡ text_of lines ++ (line ++ 10 ∷ [])
text-more [] line = refl
text-more (first ∷ lines) line =
    ap (λ t. first ++ 10 ∷ t) (text-more lines line) ∙ sym (append_assoc first (10 ∷ text_of lines) (line ++ 10 ∷ []))

pub lines-more : (seed n : ℕ) → soak_lines seed (n + 1) ≡ soak_lines seed n ++ lose_line (role_in_turn n) (turn_lost seed n) ∷ []
lines-more seed n = let e : n + 1 ≡ suc n = omega arith in rw e refl

-- with one more loss
pub loss-more : (seed n : ℕ) → text_of (soak_lines seed (n + 1)) ≡ text_of
    (soak_lines seed n) ++ (lose_line (role_in_turn n) (turn_lost seed n) ++ 10 ∷ [])
loss-more seed n = ap text_of (lines-more seed n) ∙ text-more (soak_lines seed n) (lose_line (role_in_turn n) (turn_lost seed n))

-- the lines before the losses
pub first-lines : (a b c : List ℕ) → ((a ++ 10 ∷ []) ++ (b ++ 10 ∷ [])) ++ (c ++ 10 ∷ []) ≡ text_of (a ∷ b ∷ c ∷ [])
first-lines a b c = ap (λ t. t ++ (c ++ 10 ∷ [])) (sym (text-more (a ∷ []) b)) ∙ sym (text-more (a ∷ b ∷ []) c)

-- A text isn't long.
head-short : (role : Role) → (length (lose_head role) ≤ 10) × (length (noise_head role) ≤ 28)
head-short role = grind (arith)

number-short : (n : ℕ) → n < 2 ^ 64 → length (decimal n) ≤ 20
number-short n h = length-decimal-le 20 n (omega arith) (omega (arith, h)) h

lose-short : (role : Role) (turn : ℕ) → turn < 2 ^ 64 → length (lose_line role turn ++ 10 ∷ []) ≤ 33
lose-short role turn h = grind (arith, length-append, head-short, number-short)

noise-short : (role : Role) (seed : ℕ) → seed < 2 ^ 64 → length (noise_line role seed ++ 10 ∷ []) ≤ 49
noise-short role seed h = grind (arith, length-append, head-short, number-short)

pub turn-small : (seed n : ℕ) → turn_lost seed n ≤ 439
turn-small seed n = omega arith

pub text-short : (seed n : ℕ) → seed < 2 ^ 64 → length (text_of (soak_lines seed n)) ≤ 108 + 33 * n
text-short seed zero h =
    let all : length (((delay_line ++ 10 ∷ []) ++ (noise_line Originator seed ++ 10 ∷ [])) ++ (noise_line Answerer
    seed ++ 10 ∷ [])) ≡ length (text_of (soak_lines seed 0))
    = ap (λ (t : List ℕ). length t) (first-lines delay_line (noise_line Originator seed) (noise_line Answerer seed)) in
    let two : length (((delay_line ++ 10 ∷ []) ++ (noise_line Originator seed ++ 10 ∷ [])) ++ (noise_line Answerer
    seed ++ 10 ∷ [])) ≡ length ((delay_line ++ 10 ∷ []) ++ (noise_line Originator seed ++ 10 ∷ [])) + length
    (noise_line Answerer seed ++ 10 ∷ [])
    = length-append {A = ℕ} ((delay_line ++ 10 ∷ []) ++ (noise_line Originator seed ++ 10 ∷ [])) (noise_line Answerer seed ++ 10 ∷ []) in
    let one : length ((delay_line ++ 10 ∷ []) ++ (noise_line Originator seed ++ 10 ∷ [])) ≡ 10 + length
    (noise_line Originator seed ++ 10 ∷ [])
    = length-append {A = ℕ} (delay_line ++ 10 ∷ []) (noise_line Originator seed ++ 10 ∷ []) in
    omega (arith, all, two, one, noise-short Originator seed h, noise-short Answerer seed h)
text-short seed (suc n) h =
    let e : n + 1 ≡ suc n = omega arith in
    let line : List ℕ = lose_line (role_in_turn n) (turn_lost seed n) ++ 10 ∷ [] in
    let more : length (text_of (soak_lines seed (n + 1))) ≡ length (text_of (soak_lines seed n)) + length line
    = ap (λ (t : List ℕ). length t) (loss-more seed n) ∙ length-append {A = ℕ} (text_of (soak_lines seed n)) line in
    let short : length line ≤ 33 = lose-short (role_in_turn n) (turn_lost seed n) (omega (arith, turn-small seed n)) in
    let before = text-short seed n h in
    let whole : length (text_of (soak_lines seed (n + 1))) ≤ 108 + 33 * (n + 1) = omega (arith, more, short, before) in
    subst (λ m. length (text_of (soak_lines seed m)) ≤ 108 + 33 * m) e whole

pub text-is : (seed : ℕ) → soak_text seed ≡ text_of (soak_lines seed 12)
unfolding soak_text
text-is seed = refl

pub whole-short : (seed : ℕ) → seed < 2 ^ 64 → length (soak_text seed) ≤ 504
whole-short seed h = rw (text-is seed) (text-short seed 12 h)

-- what is put behind a text piece by piece
pub three-pieces : (old first next new head number rest : List ℕ) → first ≡ old ++ head → next ≡ first ++ number → new ≡ next ++ rest
    → new ≡ old ++ (head ++ (number ++ rest))
three-pieces old first next new head number rest x y z = grind (arith, append_assoc)

-- the line of noise, and that of a loss
pub noise-put : (old new head : List ℕ) (role : Role) (seed : ℕ) → head ≡ noise_head role → new ≡ old ++ (head ++ (decimal seed ++ 10 ∷ []))
    → new ≡ old ++ (noise_line role seed ++ 10 ∷ [])
noise-put old new head role seed is e = grind (arith, append_assoc)

pub loss-put : (old new head : List ℕ) (role : Role) (turn : ℕ) → head ≡ lose_head role
    → new ≡ old ++ (head ++ (decimal turn ++ codes " 1\n")) → new ≡ old ++ (lose_line role turn ++ 10 ∷ [])
loss-put old new head role turn is e = grind (arith, append_assoc)
