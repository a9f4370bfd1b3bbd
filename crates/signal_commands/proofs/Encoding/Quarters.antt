-- What is sent at the second rate goes on by two bits.
use Rattle.signal_commands.proofs.Names.{◌≡◌, ◌∙◌, ℕ, ◌+◌, ◌*◌, ◌%◌, ◌<◌, ◌≤◌, Bool, List, [], ◌∷◌, ◌++◌, length, map, sum, refl, sym, ap}
use Rattle.signal_commands.proofs.Names.{subst, arith, append_assoc, map-append, All-push, low_bits, number, Scrambles-more, Scrambles}
use Rattle.signal_commands.proofs.Names.{Sample, turned-snoc}
use Rattle.frame_check.specs.Xor.{xor}
use Rattle.scramblers.specs.Stream.{earlier}
use Rattle.trellis_tables.specs.Differential.Turned.{turned}
use Rattle.rate_4800.specs.Code.{point_of}
use Rattle.rate_4800.specs.Modulates.{Modulates}
use Rattle.rate_4800.proofs.Twos.{twos-more}

-- what is sent for a bit
abbrev pub sent_for : ℕ → Bool → List Bool → Bool
sent_for tap bit line = xor (xor bit (earlier line (length line) tap)) (earlier line (length line) 23)

pub bit-lt : (b : Bool) → number b < 2
bit-lt b = grind (arith)

-- two bits as a number of quarter turns
abbrev turn_by : Bool → Bool → ℕ
turn_by a b = number a + 2 * number b

turn-bits : (a b : Bool) → low_bits 2 (turn_by a b) ≡ a ∷ b ∷ []
turn-bits a b = grind (arith)

-- one sample more
pub record OneLonger (tap : ℕ) (bits : List Bool) (samples : List Sample) : Type 0 where
  pub sample : Sample
  pub modulated : Modulates tap bits (samples ++ sample ∷ [])

pub two-more : (tap : ℕ) (bits : List Bool) (samples : List Sample) (a b : Bool) → 1 ≤ tap → Modulates tap bits samples
    → OneLonger tap (bits ++ a ∷ b ∷ []) samples
two-more tap bits samples a b low h =
    let a' = sent_for tap a h.line in
    let b' = sent_for tap b (h.line ++ a' ∷ []) in
    let one : Scrambles tap (bits ++ a ∷ []) (h.line ++ a' ∷ []) = Scrambles-more tap bits h.line a a' low h.scrambled refl in
    let two : Scrambles tap ((bits ++ a ∷ []) ++ b ∷ []) ((h.line ++ a' ∷ []) ++ b' ∷ []) = Scrambles-more tap _ _ b b' low one refl in
    let turn : ℕ = turn_by a' b' in
    let label : ℕ = (sum h.turns + turn) % 4 in
    record {
      sample = point_of label;
      modulated = record {
        line = h.line ++ a' ∷ b' ∷ [];
        turns = h.turns ++ turn ∷ [];
        scrambled = subst (λ (p : List Bool × List Bool). Scrambles tap p.0 p.1)
            (λ i. (append_assoc bits (a ∷ []) (b ∷ []) i, append_assoc h.line (a' ∷ []) (b' ∷ []) i)) two;
        in_twos = ap (λ xs. h.line ++ xs) (sym (turn-bits a' b')) ∙ twos-more h.line h.turns turn h.in_twos;
        are_turns = All-push (λ n. n < 4) h.turns turn h.are_turns (omega (arith, bit-lt a', bit-lt b'));
        points = ap (λ xs. xs ++ point_of label ∷ []) h.points ∙ sym (map-append point_of (turned h.turns) (label ∷ []))
            ∙ ap (λ labels. map point_of labels) (sym (turned-snoc h.turns turn));
      };
    }

-- eight elements behind a list, put there two by two
pub twos-behind : {X : Type 0} (xs : List X) (a b c d e f g h : X)
    → (((xs ++ a ∷ b ∷ []) ++ c ∷ d ∷ []) ++ e ∷ f ∷ []) ++ g ∷ h ∷ [] ≡ xs ++ a ∷ b ∷ c ∷ d ∷ e ∷ f ∷ g ∷ h ∷ []
twos-behind [] a b c d e f g h = refl
twos-behind (x ∷ xs) a b c d e f g h = ap (λ ys. x ∷ ys) (twos-behind xs a b c d e f g h)
