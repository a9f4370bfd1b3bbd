-- What can be sent fits a slot of the most symbols.
use Rattle.sample_line.proofs.Names.{ℕ, ◌<◌, ◌≤◌, length, arith, length-append, Check, Frame, Sent, IsCodable, Role}
use Rattle.std.proofs.Common.{lit≤}
use Rattle.frame_check.specs.declared.check.Check.TheVariants.{Sixteen, ThirtyTwo}
use Rattle.frame_check.specs.declared.sizes.TheConstants.{WHOLE, SLOT}
use Rattle.frame_check.specs.Division.{check_of, count_of}
use Rattle.frame_check.proofs.Checks.{length-check_of}
use Rattle.bit_stuffing.proofs.Sizes.{length-opening}
use Rattle.lapm_frames.specs.Frame.{spelled, IsFrame}
use Rattle.lapm_frames.specs.declared.sent.Sent.TheVariants as sent
use Rattle.lapm_frames.specs.Checked.{check_for, checked}
use Rattle.lapm_frames.proofs.Octets.{spelled-short}
use Rattle.lapm_frames.specs.Sendable.{IsSendable}

count-small : (check : Check) → count_of check ≤ 4
count-small Sixteen = lit≤ tt
count-small ThirtyTwo = lit≤ tt

checked-short : (check : Check) (sender : Role) (dlci : ℕ) (frame : Frame) → IsFrame frame
    → length (checked check sender dlci frame) ≤ WHOLE
checked-short check sender dlci frame h =
    let used : Check = check_for check frame in
    omega (
      arith,
      spelled-short frame sender dlci h,
      length-append (spelled frame sender dlci) (check_of used (spelled frame sender dlci)),
      length-check_of used (spelled frame sender dlci),
      count-small used,
    )

pub fits : (check : Check) (sender : Role) (dlci phase : ℕ) (s : Sent) → phase < 8 → IsSendable s → IsCodable check sender dlci SLOT phase s
fits check sender dlci phase sent.Mark low h = tt
fits check sender dlci phase sent.Odp low h = tt
fits check sender dlci phase sent.Adp low h = tt
fits check sender dlci phase sent.Flags low h = tt
fits check sender dlci phase (sent.Frame frame) low h =
    record {
      sendable = h;
      room = omega (arith, length-opening phase (checked check sender dlci frame) low, checked-short check sender dlci frame h.0);
    }
