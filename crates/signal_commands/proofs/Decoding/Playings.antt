-- A playback goes on.
use Rattle.signal_commands.proofs.Names.{ℕ, Bool, List, ◌++◌, arith, Decoding, heard, IsReleased, LostIs, line_depth, Rate, tap_of, Mode}
use Rattle.signal_commands.proofs.Names.{AreWholeOctets, Carries, OctetsJoined, decoding_of, Hears, trellis_at, Bits, Playback, Sample}
use Rattle.frame_check.proofs.BitLists.{length-low_bits}
use Rattle.signal_commands.proofs.Decoding.Rates.{takes-labels}

-- what waits is less than an octet
pub whole-joined : (waiting : Bits) (bits : List Bool) (octets : List ℕ) → OctetsJoined waiting bits octets → AreWholeOctets bits octets
whole-joined waiting bits octets j = grind (arith, length-low_bits)

-- the labels that a playback has taken carry its octets
pub record TakesOctets (rate : Rate) (mode : Mode) (d : Decoding) (samples : List Sample) (octets : List ℕ) : Type 0 where
  pub labels : List ℕ
  pub lost : LostIs (trellis_at rate) line_depth samples d.lost
  pub released : IsReleased (trellis_at rate) (heard d.lost samples) (labels ++ d.pending)
  pub carried : Carries rate (tap_of mode) labels octets

pub takes-octets : (rate : Rate) (mode : Mode) (p : Playback) (samples : List Sample) (octets : List ℕ) → Hears rate mode p samples octets
    → TakesOctets rate mode (decoding_of p.reader) samples octets
takes-octets rate mode p samples octets h =
    let t = takes-labels rate mode p.reader samples h.bits h.read in
    record {
      labels = t.labels;
      lost = t.lost;
      released = t.released;
      carried = record { bits = h.bits; read = t.read; whole = whole-joined p.joiner h.bits octets h.joined };
    }
