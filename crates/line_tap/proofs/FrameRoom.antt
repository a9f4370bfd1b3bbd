-- Whether a frame fits a slot, by where it ends.
use Rattle.line_tap.proofs.Cited.{◌≡◌, ℕ, ◌-◌, ◌*◌, ◌%◌, ◌≤◌, Option, arith, IfSome, IfNone, next_phase, TAIL, slot_of, Check, IsSendable}
use Rattle.line_tap.proofs.Cited.{Frame, Sent, EndsAt, signal_of, IsCodable, Role}
use Rattle.lapm_frames.specs.declared.sent.Sent.TheVariants as sent
use Rattle.line_tap.specs.Seeking.{EndsBy}

pub frame-codable : (check : Check) (sender : Role) (dlci symbols phase : ℕ) (s : Sent) (frame : Frame) (end : ℕ) (next : Option ℕ)
    → s ≡ sent.Frame frame → IsSendable s → EndsBy check sender dlci phase s end → IfSome next (λ n. end ≤ 4 * (symbols - TAIL))
    → IfSome next (λ n. IsCodable check sender dlci symbols phase s)
frame-codable check sender dlci symbols phase s frame end next is sendable by fits = grind (arith)

pub frame-next : (check : Check) (sender : Role) (dlci symbols phase : ℕ) (s : Sent) (frame : Frame) (end : ℕ) (next : Option ℕ)
    → s ≡ sent.Frame frame → EndsAt check sender dlci phase s end → IfSome next (λ n. n ≡ (4 * symbols - end) % 8)
    → IfSome next (λ n. n ≡ next_phase (4 * symbols) phase (slot_of (4 * symbols) (signal_of check sender dlci s)))
frame-next check sender dlci symbols phase s frame end next is at e = grind (arith)

pub frame-none : (check : Check) (sender : Role) (dlci symbols phase : ℕ) (s : Sent) (frame : Frame) (end : ℕ) (next : Option ℕ)
    → s ≡ sent.Frame frame → EndsAt check sender dlci phase s end → IfNone next (end ≤ 4 * (symbols - TAIL) → ⊥)
    → IfNone next (IsCodable check sender dlci symbols phase s → ⊥)
frame-none check sender dlci symbols phase s frame end next is at none = grind (arith)
