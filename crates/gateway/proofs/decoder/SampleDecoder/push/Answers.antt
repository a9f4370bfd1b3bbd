use Rattle.gateway.proofs.Names.{◌≡◌, ◌∙◌, ◌≤◌, ◌++◌, List, length, take, refl, subst, arith, length-take-le, HasDecoded, given, samples_in}
use Rattle.gateway.proofs.Names.{Sample}
use Rattle.gateway.proofs.Decoded.{some-more, decoded-given}
use Rattle.gateway.proofs.decoder.SampleDecoder.push.Goals as goal

pub loop-read-preserved : goal.loop-read-preserved
loop-read-preserved c =
    let i = c.loop-read.invariant in
    let copied = c.copy_samples-copied in
    let read = c.hear-read.result in
    let long : length (take copied.result copied.new.samples) ≡ copied.result =
    length-take-le copied.result copied.new.samples (omega (arith, copied.array_long, copied.ensures.few)) in
    let few : read ≤ copied.result = omega (arith, long, c.hear-read.ensures.within) in
    record {
      same = c.take_bits-written.ensures.length ∙ i.same;
      written = c.take_bits-written.ensures.next;
      within = omega (arith, copied.ensures.within, few);
      samples = omega (arith, c.hear-read.ensures.samples, i.samples);
      bits = c.take_bits-written.ensures.bits i.bits;
      decodes = λ line mode past before start.
          let parts = c.args.parts.now in
          let so_far = past ++ samples_in c.loop-read.read parts in
          let bits = before ++ given c.take_bits-written.result c.take_bits-written.new.bits in
          let old = i.decodes line mode past before start in
          let given_now = decoded-given line mode c.loop-read.self _ so_far (before ++ given c.loop-read.written c.loop-read.bits) bits old
          refl c.take_bits-written.ensures.lost (c.take_bits-written.ensures.reads line mode so_far before old.reads) in
          subst (λ (l : List Sample). HasDecoded line mode c.hear-read.new.self l bits)
          (some-more past parts c.loop-read.read copied.result read (take copied.result copied.new.samples) copied.ensures.samples few)
          (c.hear-read.ensures.decodes line mode so_far bits given_now);
    }
