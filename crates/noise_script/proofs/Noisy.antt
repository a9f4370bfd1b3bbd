-- Lines on delays, noise and losses spell their script.
use Rattle.noise_script.proofs.Names.{◌≡◌, ◌∙◌, ℕ, ◌+◌, ◌≤◌, ◌||◌, Bool, true, false, cond, List, [], ◌∷◌, ◌++◌, length, map, filter_map}
use Rattle.noise_script.proofs.Names.{refl, ap, arith, Option, None, cons_option, list_any, Kind, SpellsLine}
use Rattle.noise_script.proofs.Names.{Says, spelled, same_kind, standing, AreAllowed, loss_said, noise_said, script_of, lines_of, words_of}
use Rattle.noise_script.proofs.Names.{Entry, Noise, Form}
use Rattle.noise_script.specs.declared.entry.Loss.{Loss}
use Rattle.noise_script.specs.declared.entry.Entry.TheVariants as entries
use Rattle.noise_script.specs.declared.forms.Form.TheVariants as forms
use Rattle.noise_script.specs.Grammar.{nothing}
use Rattle.noise_script.specs.Noisy.{text_of, IsWhole, SaysDelays, SaysNoise, SaysLoss, EachSays, noisy_script, NoisyLinesSpell}
use Rattle.noise_script.proofs.Cuts.{line-cut}

-- what the lines say

abbrev noise_entries : List Noise → List Entry
noise_entries noises = map entries.Noise noises

abbrev loss_entries : List Loss → List Entry
loss_entries losses = map entries.Lose losses

abbrev all_entries : List Noise → List Loss → List Entry
all_entries noises losses = noise_entries noises ++ loss_entries losses

one-line : (line rest : List ℕ) (entry : Entry) (said : List Entry) → IsWhole line → SpellsLine (words_of line) entry
    → Says (lines_of rest) said → Says (lines_of (line ++ 10 ∷ rest)) (entry ∷ said)
one-line line rest entry said w s more = grind (arith, line-cut, spelled)

spells-delays : (line : List ℕ) (orig answ : ℕ) → SaysDelays line orig answ
    → SpellsLine (words_of line) (entries.Delay (record { orig = orig; answ = answ }))
spells-delays line orig answ s = grind (arith)

spells-noise : (line : List ℕ) (noise : Noise) → SaysNoise line noise → SpellsLine (words_of line) (entries.Noise noise)
spells-noise line noise s = grind (arith)

spells-loss : (line : List ℕ) (loss : Loss) → SaysLoss line loss → SpellsLine (words_of line) (entries.Lose loss)
spells-loss line loss s = record { rest = _; words_are = s.words; each = (refl, (s.from_is, (s.count_is, (refl, refl)))) }

losses-say : (losing : List (List ℕ)) (losses : List Loss) → EachSays SaysLoss losing losses
    → Says (lines_of (text_of losing)) (loss_entries losses)
losses-say [] [] s = nothing
losses-say [] (x ∷ xs) s = absurd s
losses-say (line ∷ losing) [] s = absurd s
losses-say (line ∷ losing) (loss ∷ losses) s = one-line _ _ _ _ s.0.whole (spells-loss _ _ s.0) (losses-say losing losses s.1)

noises-say : (noisy losing : List (List ℕ)) (noises : List Noise) (losses : List Loss) → EachSays SaysNoise noisy noises
    → EachSays SaysLoss losing losses
    → Says (lines_of (text_of (noisy ++ losing))) (all_entries noises losses)
noises-say [] losing [] losses s l = losses-say losing losses l
noises-say [] losing (x ∷ xs) losses s l = absurd s
noises-say (line ∷ noisy) losing [] losses s l = absurd s
noises-say (line ∷ noisy) losing (noise ∷ noises) losses s l =
    one-line _ _ _ _ s.0.whole (spells-noise _ _ s.0) (noises-say noisy losing noises losses s.1 l)

-- nothing else is said

none-said : {X : Type 0} (say : Entry → Option X) → ((noise : Noise) → say (entries.Noise noise) ≡ None)
    → ((loss : Loss) → say (entries.Lose loss) ≡ None)
    → (noises : List Noise) (losses : List Loss) → filter_map say (all_entries noises losses) ≡ []
none-said say n l [] [] = refl
none-said say n l [] (loss ∷ losses) = ap (λ o. cons_option o (filter_map say (loss_entries losses))) (l loss) ∙ none-said say n l [] losses
none-said say n l (noise ∷ noises) losses =
    ap (λ o. cons_option o (filter_map say (all_entries noises losses))) (n noise) ∙ none-said say n l noises losses

none-stands : (test : Entry → Bool) → ((noise : Noise) → test (entries.Noise noise) ≡ false)
    → ((loss : Loss) → test (entries.Lose loss) ≡ false)
    → (noises : List Noise) (losses : List Loss) → list_any test (all_entries noises losses) ≡ false
none-stands test n l [] [] = refl
none-stands test n l [] (loss ∷ losses) = ap (λ b. b || list_any test (loss_entries losses)) (l loss) ∙ none-stands test n l [] losses
none-stands test n l (noise ∷ noises) losses = grind (arith, none-stands test n l noises losses)

losses-are : (noises : List Noise) (losses : List Loss) → filter_map loss_said (all_entries noises losses) ≡ losses
losses-are [] [] = refl
losses-are [] (loss ∷ losses) = ap (λ l. loss ∷ l) (losses-are [] losses)
losses-are (noise ∷ noises) losses = losses-are noises losses

noises-are : (noises : List Noise) (losses : List Loss) → filter_map noise_said (all_entries noises losses) ≡ noises
noises-are [] [] = refl
noises-are [] (loss ∷ losses) = noises-are [] losses
noises-are (noise ∷ noises) losses = ap (λ l. noise ∷ l) (noises-are noises losses)

script-is : (orig answ : ℕ) (noises : List Noise) (losses : List Loss)
    → noisy_script orig answ noises losses ≡ script_of (entries.Delay (record { orig = orig; answ = answ }) ∷ all_entries noises losses)
script-is orig answ noises losses = grind (arith, losses-are, noises-are, none-said, none-stands)

-- and there is not too much

abbrev noise_kind : Kind
noise_kind = record { form = forms.Noise; role = None }

abbrev lose_kind : Kind
lose_kind = record { form = forms.Lose; role = None }

few-losses : (kind : Kind) (losses : List Loss) → standing kind (loss_entries losses) ≡ cond (same_kind kind lose_kind) (length losses) 0
few-losses kind losses = go (same_kind kind lose_kind) refl losses
  where
    go : (b : Bool) → same_kind kind lose_kind ≡ b → (losses : List Loss) → standing kind (loss_entries losses) ≡ cond b (length losses) 0
    go true e [] = refl
    go false e [] = refl
    go true e (loss ∷ losses) =
        ap (λ b. cond b 1 0 + standing kind (loss_entries losses)) e ∙ (let later = go true e losses in omega (arith, later))
    go false e (loss ∷ losses) =
        ap (λ b. cond b 1 0 + standing kind (loss_entries losses)) e ∙ (let later = go false e losses in omega (arith, later))

few-all : (kind : Kind) (noises : List Noise) (losses : List Loss)
    → standing kind (all_entries noises losses) ≡ cond (same_kind kind noise_kind) (length noises) 0 + cond (same_kind kind lose_kind)
    (length losses) 0
few-all kind noises losses = go (same_kind kind noise_kind) refl noises
  where
    go : (b : Bool) → same_kind kind noise_kind ≡ b → (noises : List Noise)
        → standing kind (all_entries noises losses) ≡ cond b (length noises) 0 + cond (same_kind kind lose_kind) (length losses) 0
    go true e [] = let l = few-losses kind losses in omega (arith, l)
    go false e [] = let l = few-losses kind losses in omega (arith, l)
    go true e (noise ∷ noises) =
        ap (λ b. cond b 1 0 + standing kind (all_entries noises losses)) e ∙ (let later = go true e noises in omega (arith, later))
    go false e (noise ∷ noises) =
        ap (λ b. cond b 1 0 + standing kind (all_entries noises losses)) e ∙ (let later = go false e noises in omega (arith, later))

allowed : (orig answ : ℕ) (noises : List Noise) (losses : List Loss) → length noises ≤ 64 → length losses ≤ 1024
    → AreAllowed (entries.Delay (record { orig = orig; answ = answ }) ∷ all_entries noises losses)
allowed orig answ noises losses n l kind = grind (arith, few-all)

pub noisy-lines-spell : NoisyLinesSpell
noisy-lines-spell delays noisy losing orig answ noises losses d n l few_noises few_losses = record {
  said = entries.Delay (record { orig = orig; answ = answ }) ∷ all_entries noises losses;
  says = one-line _ _ _ _ d.whole (spells-delays _ _ _ d) (noises-say _ _ _ _ n l);
  allowed = allowed orig answ _ _ few_noises few_losses;
  script_is = script-is _ _ _ _;
}
