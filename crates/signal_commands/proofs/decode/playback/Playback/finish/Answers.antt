use Rattle.signal_commands.proofs.Names.{◌++◌, List, ℕ, subst, demodulated, tap_of, ReadsAt, ReadToEnd, RateReader}
use Rattle.line_coding.specs.Demodulates.{DemodulatorStands}
use Rattle.exact_decoder.specs.Surviving.V32.{at_beginning}
use Rattle.rate_4800.specs.Demodulates.{DemodulatorStands as QuarterDemodulatorStands}
use Rattle.rate_4800.proofs.Standing.{demodulated as quarters-demodulated}
use Rattle.recordings.specs.declared.rate.Rate.TheVariants as rates
use Rattle.signal_commands.proofs.Decoding.Finishing.{finishes}
use Rattle.signal_commands.proofs.decode.playback.Playback.finish.Goals as goal

pub returns-in-Trellis : goal.returns-in-Trellis
returns-in-Trellis c rates.Trellis mode samples before h =
    let octets : List ℕ = before ++ c.read_tail.result in
    let tail : List ℕ = c.finish-tail.result.0 in
    let f = c.finish-tail.ensures.least mode at_beginning samples h.bits
    (subst (λ (r : RateReader). ReadsAt rates.Trellis mode r samples h.bits) c.in-Trellis.is h.read) in
    finishes rates.Trellis (tap_of mode) (DemodulatorStands mode) c.finish-tail.result.1 c.args.self.joiner samples f.labels tail
    before octets (demodulated mode) f.least (record { bits = h.bits; read = f.read; joined = h.joined })
    (λ joined. subst (λ (xs : List ℕ). ReadToEnd (DemodulatorStands mode) (f.labels ++ xs) octets) c.as_slice.ensures.value
    (c.read_tail.ensures mode f.labels before joined))
returns-in-Trellis c rates.Quarters mode samples before h =
    absurd (subst (λ (r : RateReader). ReadsAt rates.Quarters mode r samples h.bits) c.in-Trellis.is h.read)

pub returns-in-Quarters : goal.returns-in-Quarters
returns-in-Quarters c rates.Quarters mode samples before h =
    let octets : List ℕ = before ++ c.read_tail-in-Quarters.result in
    let tail : List ℕ = c.finish-tail-in-Quarters.result.0 in
    let f = c.finish-tail-in-Quarters.ensures.least mode at_beginning samples h.bits
    (subst (λ (r : RateReader). ReadsAt rates.Quarters mode r samples h.bits) c.in-Quarters.is h.read) in
    finishes rates.Quarters (tap_of mode) (QuarterDemodulatorStands mode) c.finish-tail-in-Quarters.result.1 c.args.self.joiner samples
    f.labels tail before octets (quarters-demodulated mode) f.least (record { bits = h.bits; read = f.read; joined = h.joined })
    (λ joined. subst (λ (xs : List ℕ). ReadToEnd (QuarterDemodulatorStands mode) (f.labels ++ xs) octets)
    c.as_slice-in-Quarters.ensures.value (c.read_tail-in-Quarters.ensures mode f.labels before joined))
returns-in-Quarters c rates.Trellis mode samples before h =
    absurd (subst (λ (r : RateReader). ReadsAt rates.Trellis mode r samples h.bits) c.in-Quarters.is h.read)
