use Rattle.signal_commands.proofs.Names.{◌∙◌, ℕ, Bool, List, [], ◌∷◌, ◌++◌, ap, subst, arith, bits_of, two-more, count-more, length-more}
use Rattle.signal_commands.proofs.Names.{sample_octets, Sample}
use Rattle.rate_4800.specs.Modulates.{ModulatorStands}
use Rattle.recordings.proofs.Octets.{bits-by-twos}
use Rattle.signal_commands.proofs.encode.recorder.put_four.Goals as goal

pub returns-clause-stands : goal.returns-clause-stands
returns-clause-stands g c = λ mode octets recorded s.
    let w : Sample = c.push-first.result in
    let x : Sample = c.push-second.result in
    let y : Sample = c.push-third.result in
    let z : Sample = c.push-fourth.result in
    let one : List Sample = s.samples ++ w ∷ [] in
    let two : List Sample = one ++ x ∷ [] in
    let three : List Sample = two ++ y ∷ [] in
    let after = c.push-fourth.ensures mode _ _
    (c.push-third.ensures mode _ _ (c.push-second.ensures mode _ _ (c.push-first.ensures mode (bits_of octets) s.samples s.made))) in
    let out : List ℕ = c.args.out.now in
    let half : List ℕ = sample_octets w ++ sample_octets x in
    let begun = c.extend.ensures ∙ ap (λ (xs : List ℕ). out ++ xs) c.octets_of_two.ensures in
    let made = c.extend-2.ensures ∙ ap (λ (xs : List ℕ). xs ++ c.octets_of_two-2.result) begun
    ∙ ap (λ (xs : List ℕ). (out ++ half) ++ xs) c.octets_of_two-2.ensures in
    record {
      samples = three ++ z ∷ [];
      made = subst (λ (bits : List Bool). ModulatorStands mode c.push-fourth.new.self bits (three ++ z ∷ []))
          (bits-by-twos octets c.args.octet (omega (arith, c.ranges.octet.fits))) after;
      recorded_is = ap (λ (xs : List ℕ). recorded ++ xs) made
          ∙ two-more two y z recorded (out ++ half) (two-more s.samples w x recorded out s.recorded_is);
      count = omega (
        arith,
        s.count,
        count-more s.samples w,
        count-more one x,
        count-more two y,
        count-more three z,
        length-more octets c.args.octet,
      );
    }
