-- The parts of a line, read from its front.
use Rattle.std.specs.Prelude.{ℕ, ◌-◌, if◌then◌else◌, List, [], ◌∷◌, length, take, codes, Option, Some, None}
use Rattle.std.specs.Option.{option_map, option_and_then}
use Rattle.std.specs.Str.{bytes_eq}
use Rattle.shared_terms.specs.declared.role.Role.{Role}
use Rattle.shared_terms.specs.declared.role.Role.TheVariants.{Originator, Answerer}
use Rattle.trace_audit.specs.declared.line.LineText.{LineText}
use Rattle.trace_audit.specs.Grammar.{count_bound}
use Rattle.trace_audit.specs.Cutting.{behind, number_at}
use Rattle.trace_audit.specs.Pieces.{behind_heard, behind_sent}

-- a text without what stands behind its front
abbrev pub before : List ℕ → List ℕ → List ℕ
before text rest = take (length text - length rest) text

-- what arrived or was sent, and what stands behind it
abbrev pub heard_at : List ℕ → Option (List ℕ × List ℕ)
heard_at text = option_map (λ rest. (before text rest, rest)) (behind_heard text)

abbrev pub sent_at : List ℕ → Option (List ℕ × List ℕ)
sent_at text = option_map (λ rest. (before text rest, rest)) (behind_sent text)

-- the role between two spaces, and what stands behind it
abbrev pub role_or : Option (List ℕ) → Option (List ℕ) → Option (Role × List ℕ)
role_or (Some rest) other = Some (Originator, rest)
role_or None other = option_map (λ rest. (Answerer, rest)) other

abbrev pub role_at : List ℕ → Option (Role × List ℕ)
role_at text = role_or (behind (codes " orig ") text) (behind (codes " answ ") text)

-- a number that ends the text
abbrev pub ends_in : ℕ × List ℕ → Option (Option ℕ)
ends_in (n, []) = Some (Some n)
ends_in (n, x ∷ rest) = None

-- the break that was given: none, or one by its length
abbrev pub given_at : List ℕ → Option (Option ℕ)
given_at [] = Some None
given_at (x ∷ text) = option_and_then ends_in (option_and_then (number_at 256) (behind (codes " break=") (x ∷ text)))

-- what was sent, and the break that was given
abbrev pub sent_and_given : List ℕ → Option (List ℕ × Option ℕ)
sent_and_given text = option_and_then (λ read. option_map (λ given. (read.0, given)) (given_at read.1)) (sent_at text)

abbrev pub reply_at : List ℕ → Option (List ℕ × Option ℕ)
reply_at text = option_and_then sent_and_given (behind (codes " > ") text)

-- the parts of a line of this turn and role
abbrev pub plain_line : ℕ → Role → List ℕ → List ℕ × Option ℕ → LineText
plain_line turn role arrived reply = record { turn = turn; role = role; arrived = arrived; sent = reply.0; given = reply.1 }

abbrev pub chance_parts : ℕ → Role → LineText
chance_parts turn role = record { turn = turn; role = role; arrived = codes "chance"; sent = []; given = None }

abbrev pub plain_at : ℕ → Role → List ℕ → Option LineText
plain_at turn role text = option_and_then (λ read. option_map (plain_line turn role read.0) (reply_at read.1)) (heard_at text)

abbrev pub body_at : ℕ → Role → List ℕ → Option LineText
body_at turn role text = if bytes_eq text (codes "chance") then Some (chance_parts turn role) else plain_at turn role text

abbrev pub behind_turn : ℕ × List ℕ → Option LineText
behind_turn read = option_and_then (λ next. body_at read.0 next.0 next.1) (role_at read.1)

-- the parts of a line of any length
abbrev pub line_in : List ℕ → Option LineText
line_in line = option_and_then behind_turn (number_at count_bound line)
