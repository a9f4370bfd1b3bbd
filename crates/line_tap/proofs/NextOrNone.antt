-- Whether a recording holds a slot of the next turn, and which, can be told.
use Rattle.line_tap.proofs.Cited.{◌≡◌, inl, inr, ℕ, suc, ◌-◌, ◌*◌, ◌%◌, ◌<◌, ◌≤◌, Bool, List, [], ◌∷◌, length, arith, subst, Some, cases_lt}
use Rattle.line_tap.proofs.Cited.{All-nil, All-cons, All-head, All-tail, length-line_bits, opening, TAIL, AreOctets, Check, checked}
use Rattle.line_tap.proofs.Cited.{information_of, IsSendable, Frame, Sent, Modulates, Decided, Wire, HoldsNext, Turn, tap-some, mode_of}
use Rattle.line_tap.proofs.Cited.{IsCodable, tap_of, Role, Sample}
use Rattle.lapm_frames.specs.declared.sent.Sent.TheVariants as sent
use Rattle.sample_line.specs.Signals.{FrameFits}
use Rattle.line_run.proofs.Recordings.{recorded-some}
use Rattle.line_ends.proofs.Deciding.{both-decided, number-decided, list-decided, is-frame-decided}
use Rattle.line_tap.proofs.AmongFrames.{any-frame}
use Rattle.sample_line.proofs.Once.{modulates-once}

-- ---- numbers, lists, samples

at-most : (m n : ℕ) → Decided (m ≤ n)
at-most m n = elim (cases_lt n m) [ inl l ↦ inr (λ k. omega (arith, l, k)) | inr k ↦ inl k ]

same-sample : (a b : Sample) → Decided (a ≡ b)
same-sample a b = grind (arith)

-- ---- what can be coded

are-octets : (octets : List ℕ) → Decided (AreOctets octets)
are-octets [] = inl (All-nil (λ octet. octet < 256))
are-octets (x ∷ xs) = go (at-most (suc x) 256) (are-octets xs)
  where
    go : Decided (suc x ≤ 256) → Decided (AreOctets xs) → Decided (AreOctets (x ∷ xs))
    go (inl l) (inl are) = inl (All-cons (λ octet. octet < 256) x xs (omega (arith, l)) are)
    go (inl l) (inr n) = inr (λ k. n (All-tail (λ octet. octet < 256) x xs k))
    go (inr n) d = inr (λ k. n (omega (arith, All-head (λ octet. octet < 256) x xs k)))

is-sendable : (frame : Frame) → Decided (IsSendable (sent.Frame frame))
is-sendable frame = both-decided (is-frame-decided frame) (are-octets (information_of frame))

frame-fits : (check : Check) (sender : Role) (dlci symbols phase : ℕ) (frame : Frame)
    → Decided (FrameFits check sender dlci symbols phase frame)
frame-fits check sender dlci symbols phase frame =
    go (is-sendable frame) (at-most (length (opening phase (Some (checked check sender dlci frame)))) _)
  where
    go : Decided (IsSendable (sent.Frame frame))
        → Decided (length (opening phase (Some (checked check sender dlci frame))) ≤ 4 * (symbols - TAIL))
        → Decided (FrameFits check sender dlci symbols phase frame)
    go b d = grind (arith)

is-codable : (check : Check) (sender : Role) (dlci symbols phase : ℕ) (s : Sent) → Decided (IsCodable check sender dlci symbols phase s)
is-codable check sender dlci symbols phase sent.Mark = inl tt
is-codable check sender dlci symbols phase sent.Odp = inl tt
is-codable check sender dlci symbols phase sent.Adp = inl tt
is-codable check sender dlci symbols phase sent.Flags = inl tt
is-codable check sender dlci symbols phase (sent.Frame frame) = frame-fits check sender dlci symbols phase frame

-- ---- whether samples are those of some bits

in-fours : (tap : ℕ) (bits : List Bool) (samples : List Sample) → Modulates tap bits samples → length bits % 4 ≡ 0
in-fours tap bits samples h = grind (arith, length-line_bits)

are-made : (c : Wire) (role : Role) (bits : List Bool) (samples : List Sample) → Decided (Modulates (tap_of (mode_of role)) bits samples)
are-made c role bits samples = go (number-decided (length bits % 4) 0)
  where
    by : (points : List Sample) → Modulates (tap_of (mode_of role)) bits points → Decided (points ≡ samples)
        → Decided (Modulates (tap_of (mode_of role)) bits samples)
    by points h (inl e) = inl (subst (Modulates (tap_of (mode_of role)) bits) e h)
    by points h (inr n) = inr (λ k. n (modulates-once (tap_of (mode_of role)) bits points samples (tap-some role) h k))

    go : Decided (length bits % 4 ≡ 0) → Decided (Modulates (tap_of (mode_of role)) bits samples)
    go (inl e) =
        let made = (recorded-some c.script role bits e).1 in
        by made.points made.modulated (list-decided same-sample made.points samples)
    go (inr n) = inr (λ k. n (in-fours (tap_of (mode_of role)) bits samples k))

-- ---- so of each slot it can be told whether it is the next one,

is-next : (c : Wire) (check : Check) (role : Role) (ts : List Turn) (body : List ℕ) (s : Sent) → Decided (HoldsNext c check role ts body s)
is-next c check role ts body s = grind (arith, at-most, is-codable, are-made)

-- and whether one of all that an end may send is.
pub next-or-none : (c : Wire) (check : Check) (role : Role) (ts : List Turn) (body : List ℕ)
    → Decided ((s : Sent) × HoldsNext c check role ts body s)
next-or-none c check role ts body =
    go (is-next c check role ts body sent.Mark) (is-next c check role ts body sent.Odp) (is-next c check role ts body sent.Adp)
    (is-next c check role ts body sent.Flags)
    (any-frame (λ frame. HoldsNext c check role ts body (sent.Frame frame)) (λ frame h. h.codable.sendable)
    (λ frame. is-next c check role ts body (sent.Frame frame)))
  where
    none : (HoldsNext c check role ts body sent.Mark → ⊥) → (HoldsNext c check role ts body sent.Odp → ⊥)
        → (HoldsNext c check role ts body sent.Adp → ⊥) → (HoldsNext c check role ts body sent.Flags → ⊥)
        → ((frame : Frame) × HoldsNext c check role ts body (sent.Frame frame) → ⊥) → (s : Sent) → HoldsNext c check role ts body s → ⊥
    none m o a f g sent.Mark h = m h
    none m o a f g sent.Odp h = o h
    none m o a f g sent.Adp h = a h
    none m o a f g sent.Flags h = f h
    none m o a f g (sent.Frame frame) h = g (frame, h)

    go : Decided (HoldsNext c check role ts body sent.Mark) → Decided (HoldsNext c check role ts body sent.Odp)
        → Decided (HoldsNext c check role ts body sent.Adp) → Decided (HoldsNext c check role ts body sent.Flags)
        → Decided ((frame : Frame) × HoldsNext c check role ts body (sent.Frame frame))
        → Decided ((s : Sent) × HoldsNext c check role ts body s)
    go (inl h) o a f g = inl (sent.Mark, h)
    go (inr m) (inl h) a f g = inl (sent.Odp, h)
    go (inr m) (inr o) (inl h) f g = inl (sent.Adp, h)
    go (inr m) (inr o) (inr a) (inl h) g = inl (sent.Flags, h)
    go (inr m) (inr o) (inr a) (inr f) (inl h) = inl (sent.Frame h.0, h.1)
    go (inr m) (inr o) (inr a) (inr f) (inr g) = inr (λ h. none m o a f g h.0 h.1)
