-- The bits of a slot tell what was sent in it.
use Rattle.line_run.proofs.Cited.{◌≡◌, ℕ, List, [], Some, None, refl, ap, subst, arith, Signal, FlagSlot, MarkSlot, PatternSlot, Check}
use Rattle.line_run.proofs.Cited.{spells, SpellsFrame, checked, IsSendable, Sent, SlotsTellWhatWasSent, signal_of, Role}
use Rattle.lapm_frames.proofs.Checking.{spells-one}
use Rattle.lapm_frames.specs.declared.sent.Sent.TheVariants as sent
use Rattle.detection.proofs.OneSignal.{one-signal}
use Rattle.line_run.proofs.Patterns.{ArePlain}
use Rattle.line_run.proofs.Fits.{codable-fits, codable-sendable, fit-slot, spelled-octets}

-- the octets that a signal carries
abbrev octets_in : Signal → List ℕ
octets_in (PatternSlot seen) = []
octets_in MarkSlot = []
octets_in (FlagSlot None) = []
octets_in (FlagSlot (Some octets)) = octets

signals-tell : (check : Check) (sender : Role) (dlci : ℕ) (s other : Sent) → IsSendable s → IsSendable other
    → signal_of check sender dlci s ≡ signal_of check sender dlci other → s ≡ other
signals-tell check sender dlci sent.Mark sent.Mark is others e = refl
signals-tell check sender dlci sent.Mark sent.Odp is others e = absurd cc
signals-tell check sender dlci sent.Mark sent.Adp is others e = absurd cc
signals-tell check sender dlci sent.Mark sent.Flags is others e = absurd cc
signals-tell check sender dlci sent.Mark (sent.Frame other) is others e = absurd cc
signals-tell check sender dlci sent.Odp sent.Mark is others e = absurd cc
signals-tell check sender dlci sent.Odp sent.Odp is others e = refl
signals-tell check sender dlci sent.Odp sent.Adp is others e = absurd cc
signals-tell check sender dlci sent.Odp sent.Flags is others e = absurd cc
signals-tell check sender dlci sent.Odp (sent.Frame other) is others e = absurd cc
signals-tell check sender dlci sent.Adp sent.Mark is others e = absurd cc
signals-tell check sender dlci sent.Adp sent.Odp is others e = absurd cc
signals-tell check sender dlci sent.Adp sent.Adp is others e = refl
signals-tell check sender dlci sent.Adp sent.Flags is others e = absurd cc
signals-tell check sender dlci sent.Adp (sent.Frame other) is others e = absurd cc
signals-tell check sender dlci sent.Flags sent.Mark is others e = absurd cc
signals-tell check sender dlci sent.Flags sent.Odp is others e = absurd cc
signals-tell check sender dlci sent.Flags sent.Adp is others e = absurd cc
signals-tell check sender dlci sent.Flags sent.Flags is others e = refl
signals-tell check sender dlci sent.Flags (sent.Frame other) is others e = absurd cc
signals-tell check sender dlci (sent.Frame frame) sent.Mark is others e = absurd cc
signals-tell check sender dlci (sent.Frame frame) sent.Odp is others e = absurd cc
signals-tell check sender dlci (sent.Frame frame) sent.Adp is others e = absurd cc
signals-tell check sender dlci (sent.Frame frame) sent.Flags is others e = absurd cc
signals-tell check sender dlci (sent.Frame frame) (sent.Frame other) is others e =
    let same : checked check sender dlci frame ≡ checked check sender dlci other = ap octets_in e in
    ap sent.Frame (spells-one check sender dlci (checked check sender dlci other) frame other
    (subst (λ (whole : List ℕ). SpellsFrame check sender dlci whole frame) same (spells check sender dlci frame is.0))
    (spells check sender dlci other others.0))

pub one-sent : ArePlain → SlotsTellWhatWasSent
one-sent plain check sender dlci symbols phase s other channel few long codable codable_other e =
    let is = codable-sendable check sender dlci symbols phase s codable in
    let others = codable-sendable check sender dlci symbols phase other codable_other in
    grind (arith, signals-tell, one-signal, fit-slot, codable-fits, spelled-octets)
