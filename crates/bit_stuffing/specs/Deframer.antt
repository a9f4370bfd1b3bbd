-- What a deframer keeps, and the bits for which it stands.
use Rattle.std.specs.Prelude.{◌≡◌, ℕ, ◌+◌, ◌-◌, ◌*◌, ◌/◌, ◌%◌, ◌^◌, ◌<◌, ◌≤◌, Bool, true, false, not, ◌&&◌, if◌then◌else◌, nat_eq, nat_lt}
use Rattle.std.specs.Prelude.{List, ◌++◌, length, take, drop, min, Option, Some, None}
use Rattle.std.specs.Int.{bit_at}
use Rattle.frame_check.specs.declared.sizes.TheConstants.{WHOLE}
use Rattle.frame_check.specs.Bits.{number, low_bits, octet_bits, bits_of}
use Rattle.bit_stuffing.specs.Flags.{bit_of, OpenedAt, FlagEndsAt, SevenOnesEndAt}
use Rattle.bit_stuffing.specs.Stuffing.{removed, room_after}
use Rattle.bit_stuffing.specs.Pieces.{content, EndsWhole}
use Rattle.bit_stuffing.specs.Found.{pieces_of}
use Rattle.frame_check.specs.Octets.{AreOctets}

-- the bit so many places back from the end, where ones stand before the first
abbrev pub back : List Bool → ℕ → Bool
back bits places = if nat_lt (length bits) places then true else bit_of bits (length bits - places)

-- an octet has the latest eight bits, the first one lowest
pub record HoldsLatest (latest : ℕ) (bits : List Bool) : Type 0 where
  pub low : latest < 256
  pub each : (place : ℕ) → place < 8 → bit_at latest place ≡ number (back bits (8 - place))

-- the number of bits behind the flag that is open, up to eight; none where no flag is open
abbrev pub CountsSince : Option ℕ → List Bool → Type 0
CountsSince None bits = (p : ℕ) → OpenedAt bits p → ⊥
CountsSince (Some count) bits = (p : ℕ) × OpenedAt bits p × (count ≡ min 8 (length bits - p))

-- what finds flags: the latest bits, and the bits since the flag that is open
pub record Finding : Type 0 where
  pub latest : ℕ
  pub since : Option ℕ

-- it stands for these bits
pub record Finds (finding : Finding) (bits : List Bool) : Type 0 where
  pub holds : HoldsLatest finding.latest bits
  pub counts : CountsSince finding.since bits

-- what is gathered of a content: whole octets and the low bits of another one, or no more than that there is too much
pub record Gathering : Type 0 where
  pub room : ℕ
  pub octets : List ℕ
  pub part : ℕ
  pub held : ℕ
  pub over : Bool

-- too many bits, or the octets and so many low bits of a part
abbrev pub KeepsBits : Bool → List ℕ → ℕ → ℕ → List Bool → Type 0
KeepsBits true octets part held kept = 8 * WHOLE < length kept
KeepsBits false octets part held kept = (kept ≡ bits_of octets ++ low_bits held part) × AreOctets octets

-- what is gathered of a line's bits
pub record Gathers (gathering : Gathering) (line : List Bool) : Type 0 where
  pub room_is : gathering.room ≡ room_after 5 line
  pub keeps : KeepsBits gathering.over gathering.octets gathering.part gathering.held (removed 5 line)

-- what a deframer keeps
pub record Kept : Type 0 where
  pub finding : Finding
  pub gathering : Gathering
  pub lent : Bool

-- whether the octets are those of a whole piece that the last bit closes
abbrev pub Lends : Bool → List ℕ → List Bool → Type 0
Lends true octets bits = EndsWhole bits octets
Lends false octets bits = (other : List ℕ) → EndsWhole bits other → ⊥

-- A deframer stands for the bits that were pushed. What it has gathered is the content so far, without the last eight bits: they may
-- yet be a flag.
pub record DeframerStands (deframer : Kept) (bits : List Bool) : Type 0 where
  pub finds : Finds deframer.finding bits
  pub gathers : (p : ℕ) → OpenedAt bits p → p + 8 ≤ length bits → Gathers deframer.gathering (content bits p)
  pub lends : Lends deframer.lent deframer.gathering.octets bits

-- Of these bits none that stands behind the others is the last of a flag or of seven ones.
pub record IsQuiet (past bits : List Bool) : Type 0 where
  pub no_flag : (n : ℕ) → length past < n → FlagEndsAt (past ++ bits) n → ⊥
  pub no_seven : (n : ℕ) → length past < n → SevenOnesEndAt (past ++ bits) n → ⊥

-- A finder goes on by these bits. Nothing ends with any of them, and where eight bits or more stand behind a flag then, it was open before.
pub record PassesBits (finding : Finding) (past bits : List Bool) : Type 0 where
  pub finds : Finds finding (past ++ bits)
  pub pieces : pieces_of (past ++ bits) ≡ pieces_of past
  pub closes : (octets : List ℕ) → EndsWhole (past ++ bits) octets → ⊥
  pub opened : (p : ℕ) → OpenedAt (past ++ bits) p → p + 8 ≤ length (past ++ bits) → OpenedAt past p

-- What is handed on as four bits more come in, of a content behind the flag that ends at this place: the low ones of these bits, so many.
-- Fewer than four of them begin it.
pub record LeavesFour (bits count : ℕ) (past : List Bool) (p : ℕ) : Type 0 where
  pub most : count ≤ 4
  pub few : count < 4 → drop p (take (length past - 4) past) ≡ low_bits count bits
  pub all : count ≡ 4 → (p + 8 ≤ length past) × (drop (length past - 8) past ≡ octet_bits bits)

-- Behind so many ones fewer than five, given as how many may still follow, no zero is due within the first ones of these bits or
-- behind them.
abbrev pub has_room : ℕ → ℕ → Bool
has_room room bits = not (nat_eq (bits % 2 ^ room) (2 ^ room - 1))

-- nor within an octet's bits or behind them
abbrev pub is_plain : ℕ → ℕ → Bool
is_plain room octet =
    has_room room octet &&
    (not (nat_eq (octet / 2 % 32) 31) && (not (nat_eq (octet / 4 % 32) 31) && not (nat_eq (octet / 8) 31)))

-- how many ones may still follow such an octet before a zero has to
abbrev pub room_behind_octet : ℕ → ℕ
room_behind_octet octet =
    if nat_lt octet 128 then 5 else (if nat_lt octet 192 then 4 else (if nat_lt octet 224 then 3 else (if nat_lt octet 240 then 2 else 1)))

-- and four bits that have room
abbrev pub room_behind_four : ℕ → ℕ
room_behind_four four = room_behind_octet (16 * (four % 16))
