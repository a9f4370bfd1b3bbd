-- The lines of a text.
use Rattle.trace_audit.proofs.Cited.{◌≡◌, ◌≢◌, true, ℕ, List, [], ◌∷◌, ◌++◌, drop, refl, sym, ap, ◌∙◌, append_assoc, list_all, front_of}
use Rattle.trace_audit.proofs.Cited.{rest_of, is_no_feed, text_of, AreWhole, IsCut}
use Rattle.trace_audit.proofs.Fronts.{front-reads, rest-reads}

-- the text of lines, with the first line feed on its own
abbrev text-fed : (line : List ℕ) (lines : List (List ℕ)) → text_of (line ∷ lines) ≡ line ++ 10 ∷ text_of lines
text-fed line lines = append_assoc line (10 ∷ []) (text_of lines)

-- a text begins with its first line, and the others stand behind the line feed
pub first-front : (line : List ℕ) (lines : List (List ℕ)) → list_all is_no_feed line ≡ true
    → front_of is_no_feed (text_of (line ∷ lines)) ≡ line
first-front line lines h = ap (front_of is_no_feed) (text-fed line lines) ∙ front-reads is_no_feed line (10 ∷ text_of lines) h refl

pub first-rest : (line : List ℕ) (lines : List (List ℕ)) → list_all is_no_feed line ≡ true
    → rest_of is_no_feed (text_of (line ∷ lines)) ≡ 10 ∷ text_of lines
first-rest line lines h = ap (rest_of is_no_feed) (text-fed line lines) ∙ rest-reads is_no_feed line (10 ∷ text_of lines) h refl

-- a text that has a line isn't empty
pub first-some : (line : List ℕ) (lines : List (List ℕ)) → text_of (line ∷ lines) ≢ []
first-some [] lines e = absurd cc
first-some (x ∷ line) lines e = absurd cc

-- so it has one cut
one-cut-of : (lines others : List (List ℕ)) → AreWhole lines → AreWhole others → text_of lines ≡ text_of others → lines ≡ others
one-cut-of [] [] a b e = refl
one-cut-of [] (other ∷ others) a b e = absurd (first-some other others (sym e))
one-cut-of (line ∷ lines) [] a b e = absurd (first-some line lines e)
one-cut-of (line ∷ lines) (other ∷ others) a b e =
    let front : line ≡ other = sym (first-front line lines a.0) ∙ ap (front_of is_no_feed) e ∙ first-front other others b.0 in
    let rest : 10 ∷ text_of lines ≡ 10 ∷ text_of others =
    sym (first-rest line lines a.0) ∙ ap (rest_of is_no_feed) e ∙ first-rest other others b.0 in
    let more : lines ≡ others = one-cut-of lines others a.1 b.1 (ap (λ (t : List ℕ). drop 1 t) rest) in
    cc

pub one-cut : (text : List ℕ) (lines others : List (List ℕ)) → IsCut text lines → IsCut text others → lines ≡ others
one-cut text lines others a b = one-cut-of lines others a.whole b.whole (sym a.text_is ∙ b.text_is)
