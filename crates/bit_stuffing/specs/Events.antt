-- What a finder of flags answers at a bit.
use Rattle.std.specs.Prelude.{Bool, List, [], ◌∷◌, ◌++◌, Option, Some, None}
use Rattle.bit_stuffing.specs.Flags.{Aborts, Closes}
use Rattle.bit_stuffing.specs.declared.finder.Event.{Event}
use Rattle.bit_stuffing.specs.declared.finder.Event.TheVariants.{Aborted, Closed}

-- what is answered at the last of the bits past ++ bit
abbrev pub IsEvent : List Bool → Bool → Option Event → Type 0
IsEvent past bit None = (Aborts past (past ++ bit ∷ []) → ⊥) × (Closes past (past ++ bit ∷ []) → ⊥)
IsEvent past bit (Some Aborted) = Aborts past (past ++ bit ∷ [])
IsEvent past bit (Some Closed) = Closes past (past ++ bit ∷ [])
