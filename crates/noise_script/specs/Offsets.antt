-- What the lines of a script add to the samples that an end sends.
use Rattle.std.specs.Prelude.{ℕ, ◌+◌, ◌-◌, ◌*◌, ◌/◌, ◌%◌, ◌≤◌, ◌&&◌, nat_lt, nat_le, Bool, if◌then◌else◌, ℤ, pos, neg_ℤ, ◌+ℤ◌, ◌-ℤ◌, ◌≤ℤ◌, List, [], ◌∷◌}
use Rattle.shared_terms.specs.declared.role.Role.{Role}
use Rattle.shared_terms.specs.declared.role.Role.TheVariants.{Originator, Answerer}
use Rattle.rand_pcg.specs.Lcg.{Lcg, advance, started, increment_of}
use Rattle.rand_pcg.specs.Pcg.{pcg32, multiplier_64}
use Rattle.noise_script.specs.declared.entry.Hit.{Hit}
use Rattle.noise_script.specs.declared.entry.Noise.{Noise}
use Rattle.noise_script.specs.declared.offset.Offset.{Offset}
use Rattle.shared_terms.specs.Role.{same_role}

-- the place is one of count places from that one on
abbrev pub covers : ℕ → ℕ → ℕ → Bool
covers from count place = nat_le from place && nat_lt place (from + count)

-- where neither count is 0: one of count places from that one on is one of most places from start on
abbrev pub meets : ℕ → ℕ → ℕ → ℕ → Bool
meets from count start most = if nat_le from start then nat_lt start (from + count) else nat_lt from (start + most)

-- no offset
abbrev pub nothing : Offset
nothing = record { re = pos 0; im = pos 0 }

abbrev pub plus : Offset → Offset → Offset
plus a b = record { re = a.re +ℤ b.re; im = a.im +ℤ b.im }

abbrev pub sum_of : List Offset → Offset
sum_of [] = nothing
sum_of (offset ∷ offsets) = plus offset (sum_of offsets)

-- what a hit line adds to a symbol of a role
abbrev pub hit_offset : Role → ℕ → Hit → Offset
hit_offset role symbol hit =
    if same_role hit.role role && covers hit.from hit.count symbol then record { re = hit.re; im = hit.im } else nothing

-- the stream of random words for the noise on what a role sends
abbrev pub stream_of : Role → ℕ
stream_of Originator = 54
stream_of Answerer = 55

-- the generator of this seed and stream, as many steps from its start
abbrev pub generator_at : ℕ → ℕ → ℕ → Lcg
generator_at seed stream place = advance 64 multiplier_64 place (started 64 multiplier_64 seed (increment_of 64 stream))

-- the word, counted from 0, that a generator gives
abbrev pub word_at : ℕ → ℕ → ℕ → ℕ
word_at seed stream place = (pcg32 (generator_at seed stream place)).0

-- a part of an offset, from half a word: at most amplitude from 0
abbrev pub drawn : ℕ → ℕ → ℤ
drawn amplitude half = pos (half % (2 * amplitude + 1)) -ℤ pos amplitude

-- the offset that a word of 32 bits gives: re by its low half, im by its high half
abbrev pub drawn_offset : ℕ → ℕ → Offset
drawn_offset amplitude word = record { re = drawn amplitude (word % 65536); im = drawn amplitude (word / 65536) }

-- what a noise line adds to a symbol of a role: its first symbol takes the word at 0
abbrev pub noise_offset : Role → ℕ → Noise → Offset
noise_offset role symbol noise =
    if same_role noise.role role && covers noise.from noise.count symbol
    then drawn_offset noise.amplitude (word_at noise.seed (stream_of noise.role) (symbol - noise.from))
    else nothing

-- neither part is farther from 0 than that
pub record IsWithin (most : ℕ) (offset : Offset) : Type 0 where
  pub re_low : neg_ℤ (pos most) ≤ℤ offset.re
  pub re_high : offset.re ≤ℤ pos most
  pub im_low : neg_ℤ (pos most) ≤ℤ offset.im
  pub im_high : offset.im ≤ℤ pos most

-- no part that a noise line draws is farther from 0 than 32767
abbrev pub IsQuiet : Noise → Type 0
IsQuiet noise = noise.amplitude ≤ 32767

abbrev pub AreQuiet : List Noise → Type 0
AreQuiet [] = Unit {0}
AreQuiet (noise ∷ noises) = IsQuiet noise × AreQuiet noises
