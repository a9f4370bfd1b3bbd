-- What follows from the role of an end.
use Rattle.std.specs.Prelude.{ℕ, Bool, true, false, if◌then◌else◌, List, Option, Some, None, codes}
use Rattle.std.specs.Str.{bytes_eq}
use Rattle.shared_terms.specs.declared.role.Role.{Role}
use Rattle.shared_terms.specs.declared.role.Role.TheVariants.{Originator, Answerer}

-- the role of the other end
abbrev pub other : Role → Role
other Originator = Answerer
other Answerer = Originator

-- whether this is the end that called
abbrev pub is_originator : Role → Bool
is_originator Originator = true
is_originator Answerer = false

-- whether two roles are the same
abbrev pub same_role : Role → Role → Bool
same_role Originator Originator = true
same_role Originator Answerer = false
same_role Answerer Originator = false
same_role Answerer Answerer = true

-- the word that names the end
abbrev pub role_word : Role → List ℕ
role_word Originator = codes "orig"
role_word Answerer = codes "answ"

-- the end that a word names
abbrev pub role_named : List ℕ → Option Role
role_named word =
    if bytes_eq word (codes "orig") then Some Originator
    else if bytes_eq word (codes "answ") then Some Answerer
    else None
