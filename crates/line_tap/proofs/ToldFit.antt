-- Slots that recordings tell fit one another.
use Rattle.line_tap.proofs.Cited.{◌*◌, List, [], ◌∷◌, arith, refl, sym, subst, Check, signals-more, AreFit, OneMoreFits, CodableFits}
use Rattle.line_tap.proofs.Cited.{CodableIsSendable, SpelledInOctets, signals, Tapping, line_of, terms_of, Tells, told, phase_behind}
use Rattle.line_tap.proofs.Cited.{check_by, Turn, signal_of, Role}

pub record FitLaws : Type 0 where
  pub more : OneMoreFits
  pub fits : CodableFits
  pub sendable : CodableIsSendable
  pub octets : SpelledInOctets

pub told-fit : FitLaws → (x : Tapping) (ts : List Turn) → Tells x ts → (role : Role)
    → AreFit (4 * (line_of x).symbols) 0 (signals (line_of x) role ts)
told-fit laws x [] h role = tt
told-fit laws x (t ∷ ts) h role =
    let s = h.0.sends role in
    let check : Check = check_by (terms_of x) in
    let codable = s.holds.codable in
    let octets = laws.octets check role 0 s.sent (omega arith)
    (laws.sendable check role 0 (line_of x).symbols (phase_behind (line_of x) role ts) s.sent codable) in
    subst (AreFit (4 * (line_of x).symbols) 0) (sym (signals-more (line_of x) role ts (told check s.sent) t (λ r n. refl) s.sent_is))
    (laws.more (4 * (line_of x).symbols) (signals (line_of x) role ts) (signal_of check role 0 s.sent) (told-fit laws x ts h.1 role)
    (laws.fits check role 0 (line_of x).symbols (phase_behind (line_of x) role ts) s.sent octets codable))
