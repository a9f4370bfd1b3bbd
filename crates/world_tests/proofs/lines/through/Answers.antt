use Rattle.std.proofs.Common.{◌≡◌, ◌∙◌, ◌*◌, ℕ, Bool, List, [], ◌∷◌, ◌++◌, Result, Ok, Err, OnOk, sym, ap, subst}
use Rattle.frame_check.specs.declared.check.Check.{Check}
use Rattle.exact_decoder.specs.declared.decoder.Lost.{Lost}
use Rattle.shared_terms.specs.declared.role.Role.{Role}
use Rattle.detection.specs.Slots.{Signal}
use Rattle.lapm_frames.specs.declared.sent.Sent.{Sent}
use Rattle.noise_script.specs.Script.{ScriptValue}
use Rattle.lapm_frames.specs.declared.heard.Heard.{Heard}
use Rattle.sample_line.specs.Signals.{IsCodable, signal_of}
use Rattle.sample_line.specs.Line.{Kept, LineStands, Passes, size_of, sender_of}
use Rattle.sample_line.specs.Coder.{Coding, CoderStands, IsCodedAs, bits_in}
use Rattle.world_tests.proofs.lines.through.Goals as goal

goes-on : (line : Kept) (coder : Coding) (script : ScriptValue) (passed : List Signal) (signal : Signal) (check : Check) (dlci : ℕ)
    (loses : Bool)
    (s : Sent) (r : Result Heard Lost) → CoderStands coder (passed ++ signal ∷ [])
    → Passes line script passed signal check dlci loses s r
    → OnOk r ((all : List Signal) × LineStands line script all × CoderStands coder all)
goes-on line coder script passed signal check dlci loses s (Ok heard) k h = (passed ++ signal ∷ [], h.stands, k)
goes-on line coder script passed signal check dlci loses s (Err lost) k h = tt

pub code-requires-clause-codable : goal.code-requires-clause-codable
code-requires-clause-codable c =
    let coder : Coding = c.args.coder.now in
    subst (λ (m : ℕ). IsCodable c.args.coded coder.sender 0 m coder.writer.phase c.args.sent.now) (sym c.requires.coded)
    (c.all_fits.ensures c.args.coded coder.sender 0 coder.writer.phase c.args.sent.now c.requires.stands.2.writer.low c.requires.sendable)

pub pass-requires-clause-not_lost : goal.pass-requires-clause-not_lost
pass-requires-clause-not_lost c = c.requires.stands.1.not_lost

pub returns-clause-stands : goal.returns-clause-stands
returns-clause-stands c =
    let passed : List Signal = c.requires.stands.0 in
    let coder : Coding = c.args.coder.now in
    let line : Kept = c.args.line.now in
    let signal : Signal = signal_of c.args.coded coder.sender 0 c.args.sent.now in
    let same : bits_in coder ≡ size_of line = ap (λ m. 4 * m) (c.requires.coded ∙ sym c.requires.symbols) in
    let labels : IsCodedAs (sender_of line) (size_of line) passed signal c.code.new.labels =
    subst (λ (r : Role). IsCodedAs r (size_of line) passed signal c.code.new.labels) (sym c.requires.sender)
    (subst (λ (m : ℕ). IsCodedAs coder.sender m passed signal c.code.new.labels) same (c.code.ensures.labels passed c.requires.stands.2)) in
    goes-on c.pass.new.self c.code.new.self c.args.script.now passed signal c.args.judged 0 _ c.args.sent.now c.pass.result
    (c.code.ensures.stands passed c.requires.stands.2) (c.pass.ensures.passes passed signal c.requires.stands.1 labels)
