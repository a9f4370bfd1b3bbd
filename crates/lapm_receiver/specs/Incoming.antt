-- What an end takes, as an account: all segments in order so far, those held, and what is to be asked for.
use Rattle.std.specs.Prelude.{◌≡◌, ℕ, ◌+◌, ◌-◌, ◌%◌, Bool, true, false, not, if◌then◌else◌, ◌||◌, nat_eq, nat_lt, List, [], ◌∷◌, ◌++◌, length, Option, Some, None, slice_index_or}
use Rattle.lapm_receiver.specs.Held.{Held, is_held, with_held, run_from, rest_from, missing_from, first_outside}
use Rattle.lapm_receiver.specs.declared.took.Took.{Took}
use Rattle.lapm_receiver.specs.declared.took.Took.TheVariants.{InOrder, Kept, Repeat, Gap}

-- what an end takes: the receiver's part of an account, with all segments taken in order so far
pub record Incoming : Type 0 where
  pub window : ℕ  -- 0 before the receiver is begun
  pub srej : Bool
  pub taken : List (List ℕ)
  pub given : ℕ  -- how many of them are delivered
  pub held : List Held  -- later ones
  pub asked : List ℕ  -- numbers asked for by SREJ
  pub rej : Bool  -- REJ is due
  pub gapped : Bool  -- it was due since the last InOrder
  pub owed : Bool  -- an acknowledgement is owed

-- new
abbrev pub not_begun : Incoming
not_begun = record { window = 0; srej = false; taken = []; given = 0; held = []; asked = []; rej = false; gapped = false; owed = false }

-- begin
abbrev pub begun : ℕ → Bool → Incoming
begun window srej = record not_begun { window = window; srej = srej }

-- the next number expected (nr: modulo 128)
abbrev pub next_expected : Incoming → ℕ
next_expected i = length i.taken

-- how far a received number lies behind the next one expected, modulo 128
abbrev pub offset : Incoming → ℕ → ℕ
offset i ns = (ns + 128 - next_expected i % 128) % 128

-- take: what an arrived segment is, by that distance
abbrev pub kind_at : Incoming → ℕ → Took
kind_at i o =
    if nat_eq o 0 then InOrder
    else if nat_lt o i.window then (if i.srej then (if is_held (next_expected i + o) i.held then Repeat else Kept) else Gap)
    else Repeat

-- a segment in order is taken, and each held one that follows without a gap
abbrev pub with_segment : List ℕ → Incoming → Incoming
with_segment info i = record i {
  taken = i.taken ++ (info ∷ run_from (next_expected i + 1) i.held);
  held = rest_from (next_expected i + 1) i.held;
  gapped = false;
  owed = true;
}

-- take: the part after a segment of this kind
abbrev pub after_kind : Took → ℕ → List ℕ → Incoming → Incoming
after_kind InOrder o info i = with_segment info i
after_kind Kept o info i = record i { held = with_held (record { number = next_expected i + o; info = info }) i.held }
after_kind Repeat o info i = record i { owed = true }
after_kind Gap o info i = record i { rej = i.rej || not i.gapped; gapped = true }

-- take
abbrev pub kind_of : ℕ → Incoming → Took
kind_of ns i = kind_at i (offset i ns)

abbrev pub after_take : ℕ → List ℕ → Incoming → Incoming
after_take ns info i = after_kind (kind_of ns i) (offset i ns) info i

-- ask (modulo 128): by SREJ the least missing number below the greatest held one that wasn't asked for, by REJ the next expected
abbrev pub asks : Incoming → Option ℕ
asks i = if i.srej then first_outside i.asked (missing_from (next_expected i) i.held) else if i.rej then Some (next_expected i) else None

-- asked, of that number
abbrev pub after_asked : ℕ → Incoming → Incoming
after_asked n i = if i.srej then record i { asked = i.asked ++ n ∷ [] } else record i { rej = false }

-- told
abbrev pub after_told : Incoming → Incoming
after_told i = record i { owed = false }

-- undelivered; deliver
abbrev pub undelivered : Incoming → ℕ
undelivered i = length i.taken - i.given

abbrev pub next_delivered : Incoming → Option (List ℕ)
next_delivered i = if nat_lt i.given (length i.taken) then Some (slice_index_or i.taken i.given []) else None

abbrev pub after_delivered : Incoming → Incoming
after_delivered i = if nat_lt i.given (length i.taken) then record i { given = i.given + 1 } else i

-- What was taken stays taken: a segment in order goes behind it, with what was held next, and nothing else changes it.
abbrev pub KeepsTaken : Type 0
KeepsTaken = (ns : ℕ) (info : List ℕ) (i : Incoming) → (more : List (List ℕ)) × ((after_take ns info i).taken ≡ i.taken ++ more)
