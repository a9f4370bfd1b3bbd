-- The scripts that say delays, noise and losses alone, by the words of their lines.
use Rattle.std.specs.Prelude.{◌≡◌, ℕ, ◌≤◌, true, List, [], ◌∷◌, ◌++◌, length, codes}
use Rattle.shared_terms.specs.Role.{role_word}
use Rattle.xid_params.specs.Terms.{default_offer}
use Rattle.noise_script.specs.declared.entry.Loss.{Loss}
use Rattle.noise_script.specs.declared.entry.Noise.{Noise}
use Rattle.noise_script.specs.Lines.{without_return, words_of}
use Rattle.noise_script.specs.Forms.{IsNumber}
use Rattle.noise_script.specs.Laws.{has_no_feed}
use Rattle.noise_script.specs.Script.{ScriptValue}
use Rattle.noise_script.specs.Grammar.{ScriptSpelling}

-- lines, each with its line feed
abbrev pub text_of : List (List ℕ) → List ℕ
text_of [] = []
text_of (line ∷ lines) = line ++ 10 ∷ text_of lines

-- no line feed stands in a line, and no carriage return at its end
pub record IsWhole (line : List ℕ) : Type 0 where
  pub no_feed : has_no_feed line ≡ true
  pub no_return : without_return line ≡ line

-- a line that says the delays
pub record SaysDelays (line : List ℕ) (orig answ : ℕ) : Type 0 where
  pub whole : IsWhole line
  pub orig_word : List ℕ
  pub answ_word : List ℕ
  pub words : words_of line ≡ codes "delay" ∷ orig_word ∷ answ_word ∷ []
  pub orig_is : IsNumber 1 60 orig_word orig
  pub answ_is : IsNumber 1 60 answ_word answ

-- a line that says noise
pub record SaysNoise (line : List ℕ) (noise : Noise) : Type 0 where
  pub whole : IsWhole line
  pub from : List ℕ
  pub count : List ℕ
  pub amplitude : List ℕ
  pub seed : List ℕ
  pub words : words_of line ≡ codes "noise" ∷ role_word noise.role ∷ from ∷ count ∷ amplitude ∷ seed ∷ []
  pub from_is : IsNumber 0 1099511627775 from noise.from
  pub count_is : IsNumber 1 4294967295 count noise.count
  pub amplitude_is : IsNumber 0 32767 amplitude noise.amplitude
  pub seed_is : IsNumber 0 18446744073709551615 seed noise.seed

-- a line that says a loss
pub record SaysLoss (line : List ℕ) (loss : Loss) : Type 0 where
  pub whole : IsWhole line
  pub from : List ℕ
  pub count : List ℕ
  pub words : words_of line ≡ codes "lose" ∷ role_word loss.role ∷ from ∷ count ∷ []
  pub from_is : IsNumber 0 4294967295 from loss.from
  pub count_is : IsNumber 1 4294967295 count loss.count

-- each line says its thing, in order
abbrev pub EachSays : {X : Type 0} → (List ℕ → X → Type 0) → List (List ℕ) → List X → Type 0
EachSays says [] [] = Unit {0}
EachSays says [] (x ∷ xs) = ⊥
EachSays says (line ∷ lines) [] = ⊥
EachSays says (line ∷ lines) (x ∷ xs) = says line x × EachSays says lines xs

-- what is said, and else what holds where nothing is said
abbrev pub noisy_script : ℕ → ℕ → List Noise → List Loss → ScriptValue
noisy_script orig answ noises losses = record {
  delay_orig = orig;
  delay_answ = answ;
  tries = 5;
  offer_orig = default_offer;
  offer_answ = default_offer;
  losses = losses;
  hits = [];
  noises = noises;
  breaks = [];
  pauses = [];
}

-- A line on delays, then lines on noise, then lines on losses spell the script that says just that.
abbrev pub NoisyLinesSpell : Type 0
NoisyLinesSpell = (delays : List ℕ) (noisy losing : List (List ℕ)) (orig answ : ℕ) (noises : List Noise) (losses : List Loss)
    → SaysDelays delays orig answ → EachSays SaysNoise noisy noises → EachSays SaysLoss losing losses → length noises ≤ 64
    → length losses ≤ 1024
    → ScriptSpelling (text_of (delays ∷ (noisy ++ losing))) (noisy_script orig answ noises losses)
