-- Reading a text line by line.
use Rattle.noise_script.proofs.Names.{◌≡◌, inl, inr, ℕ, ◌+◌, ◌<◌, Bool, true, false, nat_le, List, [], ◌∷◌, ◌++◌, sym, ap, ◌∙◌, arith}
use Rattle.noise_script.proofs.Names.{append_assoc, length-append, leb-true, Holds, HoldsUpTo, row, form_of, kind_of, most, too_many}
use Rattle.noise_script.proofs.Names.{SpellsLine, Says, passed_over, spelled, standing, IsFaultOf, lines_of, words_of, is_passed_over}
use Rattle.noise_script.proofs.Names.{Draft, Entry, ScriptFault, Form, Cause}
use Rattle.std.proofs.lemmas.Bool.{leb-false}
use Rattle.noise_script.specs.declared.forms.Bound.{Bound}
use Rattle.noise_script.specs.declared.fault.ScriptFault.TheVariants as faults
use Rattle.noise_script.specs.Grammar.{nothing, IsTooMany}
use Rattle.noise_script.specs.Draft.{HoldsLine, IsLineFault}
use Rattle.noise_script.proofs.Entries.{allowed-none, allowed-more}

pub too-many : (said : List Entry) (words : List (List ℕ)) (entry : Entry) (form : Form) (bound : Bound) (cause : Cause) (full : Bool)
    → SpellsLine words entry → form ≡ form_of entry → full ≡ true
    → full ≡ nat_le (most (row (form_of entry)).bound) (standing (kind_of entry) said) → bound ≡ (row form).bound → cause ≡ too_many bound
    → IsTooMany said words cause
too-many said words entry form bound cause full s f t e b c = grind (arith, leb-true, too_many)

pub not-full : (said : List Entry) (entry : Entry) (full : Bool) → full ≡ false
    → full ≡ nat_le (most (row (form_of entry)).bound) (standing (kind_of entry) said)
    → standing (kind_of entry) said < most (row (form_of entry)).bound
not-full said entry full t e = leb-false _ _ (sym e ∙ t)

pub says-passed : {lines : List (List ℕ)} {said : List Entry} (line : List ℕ) → Says lines said → is_passed_over (words_of line) ≡ true
    → Says (lines ++ line ∷ []) said
says-passed line nothing p = passed_over p nothing
says-passed line (passed_over q s) p = passed_over q (says-passed line s p)
says-passed line (spelled q s) p = spelled q (says-passed line s p)

pub says-more : {lines : List (List ℕ)} {said : List Entry} (line : List ℕ) (entry : Entry) → Says lines said
    → SpellsLine (words_of line) entry → Says (lines ++ line ∷ []) (said ++ entry ∷ [])
says-more line entry nothing p = spelled p nothing
says-more line entry (passed_over q s) p = passed_over q (says-more line entry s p)
says-more line entry (spelled q s) p = spelled q (says-more line entry s p)

pub holds-none : (text : List ℕ) (draft : Draft) → Holds draft [] → HoldsUpTo text text 0 draft
holds-none text draft h = grind (arith, nothing, allowed-none)

pub regrouped : (before : List (List ℕ)) (line : List ℕ) (after : List (List ℕ)) → before ++ (line ∷ after) ≡ (before ++ line ∷ []) ++ after
regrouped before line after = sym (append_assoc before (line ∷ []) after)

pub holds-more : (text rest line behind : List ℕ) (number next : ℕ) (old new : Draft) (h : HoldsUpTo text rest number old)
    → lines_of rest ≡ line ∷ lines_of behind → next ≡ number + 1 → HoldsLine h.said (words_of line) new → HoldsUpTo text behind next new
holds-more text rest line behind number next old new h l n (inl p) = grind (arith, regrouped, length-append, says-passed)
holds-more text rest line behind number next old new h l n (inr (entry, s, few, holds)) = record {
  before = h.before ++ line ∷ [];
  lines_are = h.lines_are ∙ ap (λ ls. h.before ++ ls) l ∙ regrouped h.before line (lines_of behind);
  number_is = let long = length-append h.before (line ∷ []) in omega (arith, n, h.number_is, long);
  said = h.said ++ entry ∷ [];
  says = says-more line entry h.says s;
  allowed = allowed-more h.said entry h.allowed few;
  holds = holds;
}

pub fault-of : (text rest line behind : List ℕ) (number next : ℕ) (old : Draft) (fault : ScriptFault) (h : HoldsUpTo text rest number old)
    → lines_of rest ≡ line ∷ lines_of behind → next ≡ number + 1 → IsLineFault h.said (words_of line) next fault → IsFaultOf text fault
fault-of text rest line behind number next old fault h l n f = grind (arith)
