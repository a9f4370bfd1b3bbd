-- How a finder of flags goes on by four bits at once, as numbers.
use Rattle.std.specs.Prelude.{ℕ, ◌+◌, ◌*◌, ◌/◌, ◌%◌, not, if◌then◌else◌, nat_eq, nat_lt, min, Option, Some, None}
use Rattle.std.specs.Int.Bits.{bit_and}

-- where six of the bits are ones in a row: the first ones of each such six
abbrev pub six_ones : ℕ → ℕ
six_ones bits =
    let twos = bit_and bits (bits / 2) in
    let fours = bit_and twos (twos / 4) in
    bit_and fours (twos / 16)

-- the bits since the last flag behind four bits with which no flag ends, up to eight
abbrev pub since_none : Option ℕ → Option ℕ
since_none None = None
since_none (Some count) = Some (min count 4 + 4)

-- those where so many of four stand behind a flag, where it closes nothing
abbrev pub since_flag : Option ℕ → ℕ → Option (Option ℕ)
since_flag None behind = Some (Some behind)
since_flag (Some count) behind = if nat_lt (behind + 4) count then None else Some (Some behind)

-- those behind four bits, where six ones in a row stand at these places of twelve bits
abbrev pub since_ones : Option ℕ → ℕ → Option (Option ℕ)
since_ones since ones =
    let flags = ones / 4 % 16 in
    if not (nat_eq (bit_and ones (ones / 2)) 0) then None
    else (if nat_eq flags 0 then Some (since_none since)
    else (if nat_eq flags 1 then since_flag since 3
    else (if nat_eq flags 2 then since_flag since 2
    else (if nat_eq flags 4 then since_flag since 1 else since_flag since 0))))

-- those behind four bits that come behind the latest eight
abbrev pub since_four : ℕ → Option ℕ → ℕ → Option (Option ℕ)
since_four latest since four = since_ones since (six_ones (256 * four + latest))
