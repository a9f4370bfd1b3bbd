use Rattle.std.proofs.Common.{ℕ, ℤ, ◌≤◌, ◌++◌, ◌≢◌, length, Some, subst, sym, ap, refl}
use Rattle.detection.specs.Reader.{ReaderStands}
use Rattle.gateway.specs.Given.{heard}
use Rattle.modem_c.specs.declared.codes.TheConstants.{EMPTY, WRONG_KIND}
use Rattle.modem_c.specs.declared.machine.Machine.{Machine}
use Rattle.modem_c.specs.Answered.{Answered}
use Rattle.modem_c.specs.Detectors.{Detects, Sights}
use Rattle.modem_c.specs.Led.{detector_in}
use Rattle.modem_c.proofs.CodesBack.{code_back, handed_on}
use Rattle.modem_c.proofs.detector.push.Goals as goal

pub returns-in-Detector-clause-sights : goal.returns-in-Detector-clause-sights
returns-in-Detector-clause-sights c = λ past start.
    subst (λ (code : ℤ). Sights past c.args.bits.now c.tell.new.read c.tell.new.kind code) (sym (code_back c.tell.result c.tell.type_inv))
    (c.tell.ensures.tells past c.args.bits.now
    (c.push-count.ensures.sees past (subst (λ (machine : Machine). Detects (Some machine) past) c.in-Detector.is start)))

pub returns-in-Detector-clause-answer : goal.returns-in-Detector-clause-answer
returns-in-Detector-clause-answer c =
    handed_on (λ m n code. Answered (detector_in m) m n code (λ _. (code ≢ EMPTY) × (code ≢ WRONG_KIND))) c.tell.result c.tell.type_inv
    (ap Some c.in-Detector.is) refl c.tell.ensures.code

pub returns-in-Detector-clause-detects : goal.returns-in-Detector-clause-detects
returns-in-Detector-clause-detects c = λ past start.
    subst (λ (n : ℕ). ReaderStands c.push-count.new.self.reader (past ++ heard n c.args.bits.now)) (sym c.tell.ensures.read)
    (c.push-count.ensures.stands past (subst (λ (machine : Machine). Detects (Some machine) past) c.in-Detector.is start))

pub returns-in-Detector-clause-read : goal.returns-in-Detector-clause-read
returns-in-Detector-clause-read c =
    subst (λ (n : ℕ). n ≤ length c.args.bits.now) (sym c.tell.ensures.read) c.push-count.ensures.within
