-- The segments that a sender keeps.
use Rattle.std.specs.Prelude.{ℕ, ◌+◌, Bool, if◌then◌else◌, List, [], ◌∷◌, map}
use Rattle.lapm_sender.specs.declared.segments.Segment.{Segment}

-- the segments from the front on, and the numbers of those that alone are to be sent again
pub record Unacknowledged : Type 0 where
  pub room : ℕ
  pub front : ℕ
  pub kept : List (List ℕ)
  pub chosen : List ℕ

abbrev pub infos : List Segment → List (List ℕ)
infos segments = map (λ s. s.info) segments

abbrev pub is_marked : Segment → Bool
is_marked s = s.again

-- the numbers of those that are marked, where the first has this one
abbrev pub marked_from : ℕ → List Segment → List ℕ
marked_from n [] = []
marked_from n (s ∷ ss) = if s.again then n ∷ marked_from (n + 1) ss else marked_from (n + 1) ss
