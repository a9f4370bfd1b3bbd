-- The lines of a text, and the words of a line, by their octets.
use Rattle.std.specs.Prelude.{ℕ, Bool, true, false, not, ◌&&◌, ◌||◌, nat_eq, if◌then◌else◌, List, [], ◌∷◌}
use Rattle.std.specs.List.{onto_first}

-- the text goes on with that octet
abbrev pub begins_with : ℕ → List ℕ → Bool
begins_with octet [] = false
begins_with octet (first ∷ _) = nat_eq first octet

-- Lines end with a line feed, which the last may lack. One carriage return before a line feed is dropped; any other octet goes
-- on the line that it stands on.
abbrev pub lines_of : List ℕ → List (List ℕ)
lines_of [] = []
lines_of (octet ∷ text) =
    if nat_eq octet 10 then [] ∷ lines_of text
    else (if nat_eq octet 13 && begins_with 10 text then lines_of text
    else onto_first octet (lines_of text))

-- a space or a tab
abbrev pub is_blank : ℕ → Bool
is_blank octet = nat_eq octet 32 || nat_eq octet 9

-- the line goes on with a word's octet
abbrev pub is_in_word : List ℕ → Bool
is_in_word [] = false
is_in_word (octet ∷ _) = not (is_blank octet)

-- Words are separated by blanks: an octet that is none goes on the word behind it, where that begins at the next octet.
abbrev pub words_of : List ℕ → List (List ℕ)
words_of [] = []
words_of (octet ∷ line) =
    if is_blank octet then words_of line
    else (if is_in_word line then onto_first octet (words_of line)
    else (octet ∷ []) ∷ words_of line)

-- a line of these words is passed over: it has none, or the first begins with a number sign
abbrev pub is_passed_over : List (List ℕ) → Bool
is_passed_over [] = true
is_passed_over (first ∷ _) = begins_with 35 first

-- a line without the carriage return at its end
abbrev pub without_return : List ℕ → List ℕ
without_return [] = []
without_return (octet ∷ []) = if nat_eq octet 13 then [] else octet ∷ []
without_return (octet ∷ next ∷ line) = octet ∷ without_return (next ∷ line)
