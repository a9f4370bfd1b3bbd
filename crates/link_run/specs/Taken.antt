-- What an end is given, by the frames that passed to it alone: by the numbers that their sender meant, with no window and no modulus.
use Rattle.std.specs.Prelude.{ℕ, zero, suc, ◌+◌, max, Bool, if◌then◌else◌, false, ◌||◌, nat_eq, List, [], ◌∷◌, ◌++◌, Option, Some}
use Rattle.std.specs.List.{concat}
use Rattle.shared_terms.specs.declared.role.Role.{Role}
use Rattle.shared_terms.specs.Role.{other}
use Rattle.shared_terms.specs.Both.{of}
use Rattle.lapm_frames.specs.declared.frame.Frame.{Frame}
use Rattle.lapm_frames.specs.declared.frame.Frame.TheVariants.{I}
use Rattle.lapm_frames.specs.declared.sent.Sent.TheVariants as slots
use Rattle.lapm_frames.specs.declared.heard.Heard.{Heard}
use Rattle.lapm_frames.specs.declared.heard.Heard.TheVariants.{Passed}
use Rattle.link_run.specs.Run.{Spoken, Turn}
use Rattle.link_run.specs.Carried.{sent_ago}

-- a segment that passed
pub record Segment : Type 0 where
  pub number : ℕ  -- the meant number
  pub info : List ℕ

-- the segment of an I frame
abbrev pub framed_segment : ℕ → Frame → List Segment
framed_segment number (I ns nr pf info) = (record { number = number; info = info }) ∷ []
framed_segment number frame = []

-- the segment that passed in what was heard of a slot
abbrev pub segment_in : Heard → Option Spoken → List Segment
segment_in (Passed (slots.Frame frame)) (Some slot) = framed_segment slot.number frame
segment_in heard slot = []

-- the segments that passed to a role in these turns, in order
abbrev pub segments_to : (Role → ℕ) → Role → List Turn → List Segment
segments_to delay role [] = []
segments_to delay role (t ∷ ts) = segments_to delay role ts ++ segment_in (of role t).heard (sent_ago (delay (other role)) (other role) ts)

-- a segment has that number
abbrev pub is_among : ℕ → List Segment → Bool
is_among n [] = false
is_among n (s ∷ ss) = nat_eq s.number n || is_among n ss

-- one more than the greatest number
abbrev pub beyond : List Segment → ℕ
beyond [] = 0
beyond (s ∷ ss) = max (s.number + 1) (beyond ss)

-- the least number missing from that one on, of so many
abbrev pub missing_from : ℕ → ℕ → List Segment → ℕ
missing_from zero n ss = n
missing_from (suc more) n ss = if is_among n ss then missing_from more (n + 1) ss else n

-- the least number missing
abbrev pub missing : List Segment → ℕ
missing ss = missing_from (beyond ss) 0 ss

-- a segment is kept where its number is the least one missing, or where SREJ was agreed; one that comes again is not
abbrev pub keeping : Bool → List Segment → Segment → List Segment
keeping srej ss s = if is_among s.number ss then ss else if srej || nat_eq s.number (missing ss) then ss ++ s ∷ [] else ss

-- those that are kept of all that come, behind these
abbrev pub kept : Bool → List Segment → List Segment → List Segment
kept srej ss [] = ss
kept srej ss (come ∷ later) = kept srej (keeping srej ss come) later

-- the information under a number, as it first came
abbrev pub info_of : ℕ → List Segment → List ℕ
info_of n [] = []
info_of n (s ∷ ss) = if nat_eq s.number n then s.info else info_of n ss

-- that under so many numbers
abbrev pub infos_from : ℕ → ℕ → List Segment → List (List ℕ)
infos_from zero n ss = []
infos_from (suc more) n ss = info_of n ss ∷ infos_from more (n + 1) ss

-- the octets of all numbers before the least one missing
abbrev pub octets_in : List Segment → List ℕ
octets_in ss = concat (infos_from (missing ss) 0 ss)

-- what a role's user was given in these turns
abbrev pub taken_octets : Bool → (Role → ℕ) → Role → List Turn → List ℕ
taken_octets srej delay role ts = octets_in (kept srej [] (segments_to delay role ts))
