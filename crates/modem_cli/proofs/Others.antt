-- Words whose first one is none of some commands'.
use Rattle.std.proofs.Common.{◌≡◌, ◌∙◌, ℕ, Bool, true, false, List, [], ◌∷◌, ◌++◌, take, drop, if◌then◌else◌, refl}
use Rattle.std.specs.Str.{bytes_eq}
use Rattle.std.proofs.lemmas.Slice.Eq.{bytes_eq-Decides}
use Rattle.modem_cli.specs.Modem.{Asked, Nothing, Command, commands, asked_by}

-- the word is none of these commands'
abbrev pub IsNoWord : List Command → List ℕ → Type 0
IsNoWord [] first = Unit {0}
IsNoWord (it ∷ others) first = (first ≡ it.word → ⊥) × IsNoWord others first

unlike : (t : Bool) (a b c : Asked) → (t ≡ true → ⊥) → b ≡ c → (if t then a else b) ≡ c
unlike true a b c differs e = absurd (differs refl)
unlike false a b c differs e = e

behind : (rows more : List Command) (first : List ℕ) (words : List (List ℕ)) → IsNoWord rows first
    → asked_by (rows ++ more) first words ≡ asked_by more first words
behind [] more first words none = refl
behind (it ∷ others) more first words none =
    unlike (bytes_eq first it.word) _ _ _ (λ e. none.0 ((bytes_eq-Decides first it.word).0 e)) (behind others more first words none.1)

-- none of the last seven
pub others : (first : List ℕ) (words : List (List ℕ)) → IsNoWord (drop 8 commands) first → asked_by (drop 8 commands) first words ≡ Nothing
others first words none = behind (drop 8 commands) [] first words none

-- none of the first eight
pub later : (first : List ℕ) (words : List (List ℕ)) (a : Asked) → IsNoWord (take 8 commands) first
    → asked_by (drop 8 commands) first words ≡ a → asked_by commands first words ≡ a
later first words a none e = behind (take 8 commands) (drop 8 commands) first words none ∙ e
