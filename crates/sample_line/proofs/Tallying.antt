-- A tally once octets passed the check once more, or one more pattern was received.
use Rattle.sample_line.proofs.Names.{◌≡◌, inl, inr, ◌∙◌, ℕ, Bool, true, false, List, [], ◌∷◌, ◌++◌, ◌-◌, length, refl, sym, ap, subst}
use Rattle.sample_line.proofs.Names.{arith, get_or, length-append, get_or-append_right, get_or_append_left, Frame, Seen, Sent}
use Rattle.sample_line.proofs.Names.{IsSilent, IsWhatWasSent, Tallies, Tally, Silent, Role}
use Rattle.std.proofs.Common.{◌⊎◌}
use Rattle.std.specs.List.{All}
use Rattle.lapm_frames.specs.declared.fault.FrameFault.{FrameFault}
use Rattle.lapm_frames.specs.Frame.{FrameSpelling}
use Rattle.lapm_frames.specs.Fault.{FirstFault}
use Rattle.lapm_frames.proofs.Spellings.{frames-one}
use Rattle.lapm_frames.proofs.Exact.{never-both}
use Rattle.lapm_frames.specs.declared.seen.Seen.TheVariants as seen
use Rattle.lapm_frames.specs.declared.sent.Sent.TheVariants as sent
use Rattle.sample_line.specs.declared.tally.Tally.TheVariants.{AsSent, Other}
use Rattle.lapm_frames.specs.declared.heard.Heard.TheVariants as heard
use Rattle.sample_line.specs.Outcomes.{IsPattern}
use Rattle.sample_line.specs.Tallies.{carries, after_octets}

snoc-some : {X : Type 0} (xs : List X) (x : X) → xs ++ x ∷ [] ≡ [] → ⊥
snoc-some [] x e = absurd cc
snoc-some (y ∷ xs) x e = absurd cc

one-empty : {X : Type 0} (xs : List X) (x y : X) → xs ++ x ∷ [] ≡ y ∷ [] → (xs ≡ []) × (x ≡ y)
one-empty [] x y e = (refl, cc)
one-empty (z ∷ xs) x y e = absurd (snoc-some xs x cc)

All-last : {X : Type 0} (P : X → Type 0) (xs : List X) (x : X) → All P (xs ++ x ∷ []) → P x
All-last P xs x h =
    subst P (get_or-append_right xs (x ∷ []) (length xs) (length xs) x refl (omega arith) ∙ here)
    (h (length xs) x (omega (arith, length-append xs (x ∷ []))))
  where
    here : get_or (x ∷ []) (length xs - length xs) x ≡ x
    here = let z : length xs - length xs ≡ 0 = omega arith in rw z refl

All-front : {X : Type 0} (P : X → Type 0) (xs : List X) (x : X) → All P (xs ++ x ∷ []) → All P xs
All-front P xs x h k d low =
    subst P (get_or_append_left xs (x ∷ []) d k low) (h k d (omega (arith, low, length-append xs (x ∷ []))))

-- octets

-- the octets are those of the frame that was sent
abbrev pub SpellsSent : Role → ℕ → Sent → List ℕ → Type 0
SpellsSent sender dlci (sent.Frame frame) front = FrameSpelling frame sender dlci front
SpellsSent sender dlci s front = ⊥

only-front : (sender : Role) (dlci : ℕ) (s : Sent) (octets : List (List ℕ)) (patterns : List Seen) (front : List ℕ)
    → IsWhatWasSent sender dlci s (octets ++ front ∷ []) patterns → (octets ≡ []) × (patterns ≡ []) × SpellsSent sender dlci s front
only-front sender dlci sent.Mark octets patterns front w = absurd w
only-front sender dlci sent.Flags octets patterns front w = absurd w
only-front sender dlci sent.Odp octets patterns front w = absurd (snoc-some octets front w.0)
only-front sender dlci sent.Adp octets patterns front w = absurd (snoc-some octets front w.0)
only-front sender dlci (sent.Frame frame) octets patterns front w =
    let one = one-empty octets front w.0 w.2 in
    (one.0, w.3, subst (λ (xs : List ℕ). FrameSpelling frame sender dlci xs) (sym one.1) w.1)

first-front : (sender : Role) (dlci : ℕ) (s : Sent) (octets : List (List ℕ)) (patterns : List Seen) (front : List ℕ)
    → SpellsSent sender dlci s front → IsSilent octets patterns → IsWhatWasSent sender dlci s (octets ++ front ∷ []) patterns
first-front sender dlci sent.Mark octets patterns front h q = absurd h
first-front sender dlci sent.Flags octets patterns front h q = absurd h
first-front sender dlci sent.Odp octets patterns front h q = absurd h
first-front sender dlci sent.Adp octets patterns front h q = absurd h
first-front sender dlci (sent.Frame frame) octets patterns front h q =
    (front, h, ap (λ (xs : List (List ℕ)). xs ++ front ∷ []) q.0, q.1)

no-front : (sender : Role) (dlci : ℕ) (s : Sent) (patterns : List Seen) (front : List ℕ) → SpellsSent sender dlci s front
    → IsWhatWasSent sender dlci s [] patterns → ⊥
no-front sender dlci sent.Mark patterns front h w = h
no-front sender dlci sent.Flags patterns front h w = h
no-front sender dlci sent.Odp patterns front h w = h
no-front sender dlci sent.Adp patterns front h w = h
no-front sender dlci (sent.Frame frame) patterns front h w = none w.0 w.2
  where
    none : (own : List ℕ) → [] ≡ own ∷ [] → ⊥
    none own e = absurd cc

pub octets-more : (sender : Role) (dlci : ℕ) (s : Sent) (octets : List (List ℕ)) (patterns : List Seen) (front : List ℕ) (carried : Bool)
    (t : Tally)
    → (carried ≡ true → SpellsSent sender dlci s front) → (carried ≡ false → SpellsSent sender dlci s front → ⊥)
    → Tallies sender dlci s octets patterns t → Tallies sender dlci s (octets ++ front ∷ []) patterns (after_octets carried t)
octets-more sender dlci s octets patterns front true Silent sure never h =
    first-front sender dlci s octets patterns front (sure refl) h
octets-more sender dlci s octets patterns front false Silent sure never h =
    (λ q. snoc-some octets front q.0, λ w. never refl (only-front sender dlci s octets patterns front w).2)
octets-more sender dlci s octets patterns front carried AsSent sure never h = (
  λ q. snoc-some octets front q.0,
  λ w.
      let only = only-front sender dlci s octets patterns front w in
      no-front sender dlci s patterns front only.2
      (subst (λ (xs : List (List ℕ)). IsWhatWasSent sender dlci s xs patterns) only.0 h),
)
octets-more sender dlci s octets patterns front carried Other sure never h = (
  λ q. snoc-some octets front q.0,
  λ w.
      let only = only-front sender dlci s octets patterns front w in
      h.0 (only.0, only.1),
)

-- what of a whole piece is read as a frame, or refused

pub spells-sent : (sender : Role) (dlci : ℕ) (s : Sent) (frame : Frame) (front : List ℕ) → FrameSpelling frame sender dlci front
    → s ≡ sent.Frame frame → SpellsSent sender dlci s front
spells-sent sender dlci s frame front h e = subst (λ (z : Sent). SpellsSent sender dlci z front) (sym e) h

pub another-sent : (sender : Role) (dlci : ℕ) (s : Sent) (frame : Frame) (front : List ℕ) → FrameSpelling frame sender dlci front
    → (s ≡ sent.Frame frame → ⊥) → SpellsSent sender dlci s front → ⊥
another-sent sender dlci sent.Mark frame front h n own = own
another-sent sender dlci sent.Flags frame front h n own = own
another-sent sender dlci sent.Odp frame front h n own = own
another-sent sender dlci sent.Adp frame front h n own = own
another-sent sender dlci (sent.Frame other) frame front h n own = n (ap sent.Frame (frames-one other frame sender dlci front own h))

pub refused-sent : (sender : Role) (dlci : ℕ) (s : Sent) (fault : FrameFault) (front : List ℕ) → FirstFault sender dlci front fault
    → SpellsSent sender dlci s front → ⊥
refused-sent sender dlci sent.Mark fault front h own = own
refused-sent sender dlci sent.Flags fault front h own = own
refused-sent sender dlci sent.Odp fault front h own = own
refused-sent sender dlci sent.Adp fault front h own = own
refused-sent sender dlci (sent.Frame frame) fault front h own = never-both frame sender dlci front fault own h

-- patterns

carries-own : (p : Seen) (own : Seen) (s : Sent) → ((own ≡ seen.Odp) × (s ≡ sent.Odp)) ⊎ ((own ≡ seen.Adp) × (s ≡ sent.Adp)) → p ≡ own
    → carries s p ≡ true
carries-own p own s (inl q) e = rw (e, q.0, q.1) refl
carries-own p own s (inr q) e = rw (e, q.0, q.1) refl

some-before : (own : Seen) (octets : List (List ℕ)) (patterns : List Seen) (p : Seen) → IsPattern own octets (patterns ++ p ∷ [])
    → (patterns ≡ []) ⊎ IsPattern own octets patterns
some-before own octets [] p w = inl refl
some-before own octets (q ∷ patterns) p w = inr (w.0, (λ e. absurd cc), All-front (λ other. other ≡ own) (q ∷ patterns) p w.2)

last-pattern : (sender : Role) (dlci : ℕ) (s : Sent) (octets : List (List ℕ)) (patterns : List Seen) (p : Seen)
    → IsWhatWasSent sender dlci s octets (patterns ++ p ∷ [])
    → (carries s p ≡ true) × (octets ≡ []) × ((patterns ≡ []) ⊎ IsWhatWasSent sender dlci s octets patterns)
last-pattern sender dlci sent.Mark octets patterns p w = absurd w
last-pattern sender dlci sent.Flags octets patterns p w = absurd w
last-pattern sender dlci sent.Odp octets patterns p w = (
  carries-own p seen.Odp sent.Odp (inl (refl, refl)) (All-last (λ other. other ≡ seen.Odp) patterns p w.2),
  w.0,
  some-before seen.Odp octets patterns p w,
)
last-pattern sender dlci sent.Adp octets patterns p w = (
  carries-own p seen.Adp sent.Adp (inr (refl, refl)) (All-last (λ other. other ≡ seen.Adp) patterns p w.2),
  w.0,
  some-before seen.Adp octets patterns p w,
)
last-pattern sender dlci (sent.Frame frame) octets patterns p w = absurd (snoc-some patterns p w.3)

-- outcomes
