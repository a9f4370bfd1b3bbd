-- Numbers that are octets.
use Rattle.std.specs.Prelude.{ℕ, ◌<◌, List, All}

-- each number fits eight bits
abbrev pub AreOctets : List ℕ → Type 0
AreOctets octets = All (λ octet. octet < 256) octets
