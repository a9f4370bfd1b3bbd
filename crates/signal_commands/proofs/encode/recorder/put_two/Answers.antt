use Rattle.signal_commands.proofs.Names.{◌∙◌, ℕ, Bool, List, [], ◌∷◌, ◌++◌, ap, subst, arith, bits_of, two-more, count-more, length-more}
use Rattle.signal_commands.proofs.Names.{Sample}
use Rattle.line_coding.specs.Modulates.{ModulatorStands}
use Rattle.recordings.proofs.Octets.{bits-more}
use Rattle.signal_commands.proofs.encode.recorder.put_two.Goals as goal

pub returns-clause-stands : goal.returns-clause-stands
returns-clause-stands g c = λ mode octets recorded s.
    let a : Sample = c.push-first.result in
    let b : Sample = c.push-second.result in
    let before : List Sample = s.samples ++ a ∷ [] in
    let one = c.push-first.ensures mode (bits_of octets) s.samples s.made in
    let two = c.push-second.ensures mode _ _ one in
    record {
      samples = before ++ b ∷ [];
      made = subst (λ (bits : List Bool). ModulatorStands mode c.push-second.new.self bits (before ++ b ∷ []))
          (bits-more octets c.args.octet (omega (arith, c.ranges.octet.fits))) two;
      recorded_is = ap (λ (xs : List ℕ). recorded ++ xs)
          (c.extend.ensures ∙ ap (λ (xs : List ℕ). c.args.out.now ++ xs) c.octets_of_two.ensures)
          ∙ two-more s.samples a b recorded c.args.out.now s.recorded_is;
      count = omega (arith, s.count, count-more s.samples a, count-more before b, length-more octets c.args.octet);
    }
