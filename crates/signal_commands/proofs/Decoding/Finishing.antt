-- What a playback gives in the end.
use Rattle.signal_commands.proofs.Names.{arith, ℕ, Bool, List, ◌++◌, Rate, LabelsJoined, ReadToEnd, trellis_at, DemodulatesAt, Bits, Sample}
use Rattle.exact_decoder.specs.Surviving.Survivors.{IsFirstLeast}
use Rattle.signal_commands.specs.Decoding.Playing.{Finishes}
use Rattle.signal_commands.proofs.Decoding.Playings.{whole-joined}

-- the labels of the least sequence that were read so far are joined, and its last ones are read to the end
pub finishes : {D : Type 0} (rate : Rate) (tap : ℕ) (reads : D → List ℕ → List Bool → Type 0) (d : D) (waiting : Bits)
    (samples : List Sample) (labels tail before octets : List ℕ)
    → ((last : D) (all : List ℕ) (bits : List Bool) → reads last all bits → DemodulatesAt rate tap all bits)
    → IsFirstLeast (trellis_at rate) samples (labels ++ tail) → LabelsJoined reads d waiting labels before
    → (LabelsJoined reads d waiting labels before → ReadToEnd reads (labels ++ tail) octets) → Finishes rate tap samples octets
finishes rate tap reads d waiting samples labels tail before octets carries least joined to_end = grind (arith, whole-joined)
