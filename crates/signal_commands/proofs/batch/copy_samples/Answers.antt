use Rattle.signal_commands.proofs.Names.{◌∙◌, ◌<◌, ◌*◌, ◌++◌, length, take, ap, arith, samples_in}
use Rattle.std.proofs.Common.{length-set}
use Rattle.std.proofs.lemmas.List.{take_more_set}
use Rattle.signal_commands.proofs.Batches.{one-copied, few-copied}
use Rattle.signal_commands.proofs.batch.copy_samples.Goals as goal

pub loop-place-preserved : goal.loop-place-preserved
loop-place-preserved c =
    let few = few-copied (length c.args.piece.now) c.args.at c.min-count.result c.min-count.ensures c.requires.within in
    let room : c.loop-place.place < length c.loop-place.samples =
    omega (arith, c.loop-place-test.true, few.1, c.loop-place.invariant.long) in
    record {
      long = length-set c.loop-place.samples c.loop-place.place c.sample_at.result ∙ c.loop-place.invariant.long;
      copied = ap (λ l. samples_in (take (4 * c.args.at) c.args.piece.now) ++ l)
          (take_more_set c.loop-place.samples c.loop-place.place c.sample_at.result room)
          ∙ one-copied c.args.piece.now c.args.at c.loop-place.place (take c.loop-place.place c.loop-place.samples) c.sample_at.result
          c.loop-place.invariant.copied (omega (arith, c.loop-place-test.true, few.0)) c.sample_at.ensures;
    }
