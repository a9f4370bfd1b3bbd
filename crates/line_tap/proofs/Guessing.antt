-- The bits that are read of a slot's samples are its bits, and what is taken for what was sent in it is what was sent.
use Rattle.line_tap.proofs.Cited.{◌≡◌, ◌∙◌, ℕ, ◌+◌, ◌*◌, ◌<◌, Bool, true, List, ◌++◌, map, Option, refl, sym, ap, subst, arith, map-append}
use Rattle.line_tap.proofs.Cited.{All-append, phase-low, phase_after, HEAD, TAIL, Signal, slots_of, Check, Frame, Sent, Demodulates}
use Rattle.line_tap.proofs.Cited.{Modulates, SlotsTellWhatWasSent, AreLabels, is_plain, plain_bits, IsGuess, FindsSent, carried}
use Rattle.line_tap.proofs.Cited.{same-behind, bits_behind, signal_of, IsCodable, Descrambles_once, Role, PointsDiffer, point_of, Sample}
use Rattle.lapm_frames.specs.declared.sent.Sent.TheVariants as sent
use Rattle.line_coding.specs.Demodulates.{line_of}
use Rattle.line_tap.proofs.Coding.{small, points-tell}

pub record GuessLaws : Type 0 where
  pub points : PointsDiffer
  pub tell : SlotsTellWhatWasSent

-- ---- the bits that points carry are those that were sent

pub same-bits : PointsDiffer → (tap : ℕ) (bits next read : List Bool) (samples others : List Sample) (labels more : List ℕ)
    → AreLabels labels samples → AreLabels more others → Demodulates tap (labels ++ more) (bits ++ read)
    → Modulates tap (bits ++ next) (samples ++ others) → read ≡ next
same-bits differ tap bits next read samples others labels more h k d m =
    let points : map point_of (labels ++ more) ≡ samples ++ others =
    map-append point_of labels more ∙ ap (λ xs. xs ++ map point_of more) h.1 ∙ ap (λ xs. samples ++ xs) k.1 in
    let same : m.labels ≡ labels ++ more =
    points-tell differ m.labels (labels ++ more) (small tap (bits ++ next) (samples ++ others) m)
    (All-append (λ label. label < 32) labels more h.0 k.0) (sym m.points ∙ sym points) in
    same-behind bits read next (Descrambles_once tap (line_of (labels ++ more)) (bits ++ read) (bits ++ next) d
    (subst (λ xs. Demodulates tap xs (bits ++ next)) same (carried tap (bits ++ next) (samples ++ others) m)))

-- ---- what is found in a flag slot

abbrev pub next_of : Check → Role → ℕ → ℕ → List Signal → Sent → List Bool
next_of check role dlci symbols sigs s = bits_behind (4 * symbols) sigs (signal_of check role dlci s)

abbrev pub phase_of : ℕ → List Signal → ℕ
phase_of symbols sigs = phase_after (4 * symbols) (slots_of (4 * symbols) sigs)

phase-few : (symbols : ℕ) (sigs : List Signal) → phase_of symbols sigs < 8
phase-few symbols sigs = phase-low (4 * symbols) 0 (slots_of (4 * symbols) sigs) (omega arith)

-- ---- so the guess is right

plain-next : (check : Check) (role : Role) (dlci symbols : ℕ) (sigs : List Signal) (s : Sent) → is_plain s ≡ true
    → next_of check role dlci symbols sigs s ≡ plain_bits (4 * symbols) s
plain-next check role dlci symbols sigs other e = grind (arith)

plain-codable : (check : Check) (role : Role) (dlci symbols phase : ℕ) (s : Sent) → is_plain s ≡ true
    → IsCodable check role dlci symbols phase s
plain-codable check role dlci symbols phase other e = grind (arith)

-- a guess by the bits alone
plain-right : GuessLaws → (check : Check) (role : Role) (dlci symbols : ℕ) (sigs : List Signal) (s guess : Sent) (read : List Bool)
    → HEAD + TAIL < symbols → dlci < 64 → IsCodable check role dlci symbols (phase_of symbols sigs) s
    → read ≡ next_of check role dlci symbols sigs s → is_plain guess ≡ true → read ≡ plain_bits (4 * symbols) guess → guess ≡ s
plain-right laws check role dlci symbols sigs s guess read long low codable e p b =
    laws.tell check role dlci symbols (phase_of symbols sigs) guess s low (phase-few symbols sigs) long
    (plain-codable check role dlci symbols (phase_of symbols sigs) guess p) codable
    (plain-next check role dlci symbols sigs guess p ∙ sym b ∙ e)

pub guess-right : GuessLaws → (check : Check) (role : Role) (dlci symbols : ℕ) (sigs : List Signal) (s guess : Sent) (found : Option Frame)
    (read : List Bool) → HEAD + TAIL < symbols → dlci < 64
    → IsCodable check role dlci symbols (phase_of symbols sigs) s → read ≡ next_of check role dlci symbols sigs s
    → FindsSent check role dlci symbols (phase_of symbols sigs) read found → IsGuess (4 * symbols) read found guess → guess ≡ s
guess-right laws check role dlci symbols sigs s sent.Mark found read long low codable e k g =
    plain-right laws check role dlci symbols sigs s sent.Mark read long low codable e refl g
guess-right laws check role dlci symbols sigs s sent.Odp found read long low codable e k g =
    plain-right laws check role dlci symbols sigs s sent.Odp read long low codable e refl g
guess-right laws check role dlci symbols sigs s sent.Adp found read long low codable e k g =
    plain-right laws check role dlci symbols sigs s sent.Adp read long low codable e refl g
guess-right laws check role dlci symbols sigs s sent.Flags found read long low codable e k g = grind (arith)
guess-right laws check role dlci symbols sigs s (sent.Frame frame) found read long low codable e k g = grind (arith)
