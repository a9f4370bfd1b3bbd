-- Octets by their places, also behind the last.
use Rattle.std.proofs.Common.{ℕ, ◌<◌, zero, suc, List, [], ◌∷◌, lit<}
use Rattle.std.specs.Prelude.{slice_index}
use Rattle.std.proofs.lemmas.List.Elements.{All-head, All-tail}
use Rattle.frame_check.specs.Octets.{AreOctets}

abbrev pub AreSmall : List ℕ → Type 0
AreSmall octets = (i : ℕ) → slice_index octets i < 256

pub small : (octets : List ℕ) → AreOctets octets → AreSmall octets
small [] are i = lit< tt
small (octet ∷ octets) are zero = All-head (λ n. n < 256) octet octets are
small (octet ∷ octets) are (suc i) = small octets (All-tail (λ n. n < 256) octet octets are) i
