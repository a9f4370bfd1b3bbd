-- The text of a soak spells its script.
use Rattle.run_commands.proofs.Names.{◌≡◌, ◌≢◌, ◌∙◌, ℕ, zero, suc, ◌<◌, ◌≤◌, Bool, true, false, nat_eq, List, [], ◌∷◌, ◌++◌, length, refl}
use Rattle.run_commands.proofs.Names.{sym, ap, subst, arith, nat_tests, codes, decimal, ScriptSpelling, role_in_turn, turn_lost, delay_line}
use Rattle.run_commands.proofs.Names.{noise_head, noise_line, lose_head, lose_line, Role, Originator, Answerer}
use Rattle.std.proofs.Common.{not, nat_le}
use Rattle.std.proofs.Common.{append-nil}
use Rattle.std.specs.List.{list_all}
use Rattle.std.proofs.lemmas.Bool.{and_parts}
use Rattle.std.proofs.lemmas.List.Folds.{list_all-append}
use Rattle.std.proofs.lemmas.Fmt.{decimal_nonempty, digits_value-decimal}
use Rattle.shared_terms.specs.Role.{role_word}
use Rattle.noise_script.specs.Lines.{words_of, without_return, is_in_word}
use Rattle.noise_script.specs.Numbers.{is_digit}
use Rattle.noise_script.specs.Forms.{IsNumber}
use Rattle.noise_script.specs.declared.entry.Loss.{Loss}
use Rattle.noise_script.specs.Noisy.{SaysDelays, SaysNoise, SaysLoss, EachSays, NoisyLinesSpell}
use Rattle.noise_script.proofs.Cuts.{is_no_blank, word-cut}
use Rattle.noise_script.proofs.Decimals.{at-most, both, numerals, IsSmall, is-number, number-all}
use Rattle.run_commands.specs.Soaking.Soak.{soak_noise, soak_loss, soak_losses, soak_script}
use Rattle.run_commands.specs.Soaking.Text.{lose_lines, soak_text}
use Rattle.run_commands.proofs.Soaking.Lines.{turn-small, text-is}

spells-number : (low high n : ℕ) → IsSmall n → low ≤ n → n ≤ high → IsNumber low high (decimal n) n
spells-number low high n h l m = grind (arith, is-number, digits_value-decimal, numerals)

abbrev is_other : ℕ → ℕ → Bool
is_other octet x = not (nat_eq x octet)

other-digit : (octet x : ℕ) → octet < 48 → is_digit x ≡ true → is_other octet x ≡ true
other-digit octet x l d = let low = at-most 48 x (and_parts (nat_le 48 x) (nat_le x 57) d).0 in grind (arith, nat_tests, l, low)

digit-no-blank : (x : ℕ) → is_digit x ≡ true → is_no_blank x ≡ true
digit-no-blank x d = let low = at-most 48 x (and_parts (nat_le 48 x) (nat_le x 57) d).0 in grind (arith, nat_tests, low)

all-joined : (test : ℕ → Bool) (xs ys : List ℕ) → list_all test xs ≡ true → list_all test ys ≡ true → list_all test (xs ++ ys) ≡ true
all-joined test xs ys h k = list_all-append test xs ys ∙ both (list_all test xs) (list_all test ys) h k

-- a line without returns is whole
returns-none : (xs : List ℕ) → list_all (is_other 13) xs ≡ true → without_return xs ≡ xs
returns-none [] h = refl
returns-none (x ∷ []) h = grind (arith)
returns-none (x ∷ y ∷ xs) h = ap (λ l. x ∷ l) (returns-none (y ∷ xs) (and_parts (is_other 13 x) (list_all (is_other 13) (y ∷ xs)) h).1)

some-digits : (n : ℕ) → IsSmall n → decimal n ≢ []
some-digits n h e = omega (arith, decimal_nonempty n h, ap (λ (l : List ℕ). length l) e)

number-words : (n : ℕ) → IsSmall n → (rest : List ℕ) → is_in_word rest ≡ false → words_of (decimal n ++ rest) ≡ decimal n ∷ words_of rest
number-words n h rest e = word-cut (decimal n) rest (some-digits n h) (number-all is_no_blank digit-no-blank n h) e

lose-words : (role : Role) (turn : ℕ) → IsSmall turn
    → words_of (lose_line role turn) ≡ codes "lose" ∷ role_word role ∷ decimal turn ∷ codes "1" ∷ []
lose-words role turn h = grind (arith, number-words)

last-words : (n : ℕ) → IsSmall n → words_of (decimal n) ≡ decimal n ∷ []
last-words n h = ap words_of (sym (append-nil (decimal n))) ∙ number-words n h [] refl

noise-words : (role : Role) (seed : ℕ) → IsSmall seed
    → words_of (noise_line role seed) ≡ codes "noise" ∷ role_word role ∷ codes "0" ∷ codes "4294967295" ∷ codes "500" ∷ decimal seed ∷ []
noise-words role seed h = grind (arith, last-words)

-- what each line says

delay-says : SaysDelays delay_line 3 5
delay-says = record {
  whole = record { no_feed = refl; no_return = refl };
  orig_word = codes "3";
  answ_word = codes "5";
  words = refl;
  orig_is = record { digits = refl; value_is = refl; not_below = omega arith; not_above = omega arith };
  answ_is = record { digits = refl; value_is = refl; not_below = omega arith; not_above = omega arith };
}

all-lose : (test : ℕ → Bool) → ((x : ℕ) → is_digit x ≡ true → test x ≡ true) → (role : Role) (turn : ℕ) → IsSmall turn
    → list_all test (lose_head role) ≡ true → list_all test (codes " 1") ≡ true
    → list_all test (lose_line role turn) ≡ true
all-lose test f role turn h a b = grind (arith, all-joined, number-all)

all-noise : (test : ℕ → Bool) → ((x : ℕ) → is_digit x ≡ true → test x ≡ true) → (role : Role) (seed : ℕ) → IsSmall seed
    → list_all test (noise_head role) ≡ true → list_all test (noise_line role seed) ≡ true
all-noise test f role seed h a = all-joined test (noise_head role) (decimal seed) a (number-all test f seed h)

heads-plain : (role : Role)
    → (list_all (is_other 10) (lose_head role) ≡ true) × (list_all (is_other 13) (lose_head role) ≡ true)
    × (list_all (is_other 10) (noise_head role) ≡ true) × (list_all (is_other 13) (noise_head role) ≡ true)
heads-plain role = grind (arith)

loss-says : (seed n : ℕ) → SaysLoss (lose_line (role_in_turn n) (turn_lost seed n)) (soak_loss seed n)
loss-says seed n =
    let role : Role = role_in_turn n in
    let turn : ℕ = turn_lost seed n in
    let few : turn ≤ 439 = turn-small seed n in
    let small : IsSmall turn = omega (arith, few) in
    let plain = heads-plain role in
    record {
      whole = record {
        no_feed = all-lose (is_other 10) (λ x d. other-digit 10 x (omega arith) d) role turn small plain.0 refl;
        no_return = returns-none (lose_line role turn)
            (all-lose (is_other 13) (λ x d. other-digit 13 x (omega arith) d) role turn small plain.1 refl);
      };
      from = decimal turn;
      count = codes "1";
      words = lose-words role turn small;
      from_is = spells-number 0 4294967295 turn small (omega arith) (omega (arith, few));
      count_is = record { digits = refl; value_is = refl; not_below = omega arith; not_above = omega arith };
    }

noise-says : (seed : ℕ) (role : Role) → IsSmall seed → SaysNoise (noise_line role seed) (soak_noise seed role)
noise-says seed role small =
    let plain = heads-plain role in
    record {
      whole = record {
        no_feed = all-noise (is_other 10) (λ x d. other-digit 10 x (omega arith) d) role seed small plain.2;
        no_return = returns-none (noise_line role seed)
            (all-noise (is_other 13) (λ x d. other-digit 13 x (omega arith) d) role seed small plain.3);
      };
      from = codes "0";
      count = codes "4294967295";
      amplitude = codes "500";
      seed = decimal seed;
      words = noise-words role seed small;
      from_is = record { digits = refl; value_is = refl; not_below = omega arith; not_above = omega arith };
      count_is = record { digits = refl; value_is = refl; not_below = omega arith; not_above = omega arith };
      amplitude_is = record { digits = refl; value_is = refl; not_below = omega arith; not_above = omega arith };
      seed_is = spells-number 0 18446744073709551615 seed small (omega arith) (omega (arith, small));
    }

one-more-says : (lines : List (List ℕ)) (losses : List Loss) (line : List ℕ) (loss : Loss) → EachSays SaysLoss lines losses
    → SaysLoss line loss → EachSays SaysLoss (lines ++ line ∷ []) (losses ++ loss ∷ [])
one-more-says [] [] line loss h s = (s, tt)
one-more-says [] (x ∷ xs) line loss h s = absurd h
one-more-says (l ∷ ls) [] line loss h s = absurd h
one-more-says (l ∷ ls) (x ∷ xs) line loss h s = (h.0, one-more-says ls xs line loss h.1 s)

losses-say : (seed n : ℕ) → EachSays SaysLoss (lose_lines seed n) (soak_losses seed n)
losses-say seed zero = tt
losses-say seed (suc n) = one-more-says (lose_lines seed n) (soak_losses seed n) (lose_line (role_in_turn n) (turn_lost seed n))
    (soak_loss seed n) (losses-say seed n) (loss-says seed n)

pub text-spells : NoisyLinesSpell → (seed : ℕ) → IsSmall seed → ScriptSpelling (soak_text seed) (soak_script seed)
unfolding soak_script
text-spells law seed small =
    subst (λ text. ScriptSpelling text (soak_script seed)) (sym (text-is seed))
    (law delay_line (noise_line Originator seed ∷ noise_line Answerer seed ∷ []) (lose_lines seed 12) 3 5
    (soak_noise seed Originator ∷ soak_noise seed Answerer ∷ []) (soak_losses seed 12)
    delay-says (noise-says seed Originator small, (noise-says seed Answerer small, tt)) (losses-say seed 12) (omega arith) (omega arith))
