use Rattle.signal_commands.proofs.Names.{◌∙◌, ◌≤◌, ◌+◌, ◌*◌, ◌/◌, ◌++◌, ℕ, List, length, take, sym, ap, subst, arith, append_assoc}
use Rattle.signal_commands.proofs.Names.{samples_in-all, samples_in-split, samples_in, Hears, Sample}
use Rattle.signal_commands.proofs.Batches.{some-more, some-heard}
use Rattle.signal_commands.proofs.decode.player.play_piece.Goals as goal

pub loop-at-preserved : goal.loop-at-preserved
loop-at-preserved c =
    let i = c.loop-at.invariant in
    let copied = c.copy_samples-count in
    let heard = c.in-Ok.heard in
    let given : 1 ≤ copied.result = copied.ensures.some (omega (arith, c.loop-at-test.true)) in
    let few = some-heard copied.result heard copied.new.samples (omega (arith, copied.array_long, copied.ensures.few))
    c.in-Ok.ensures.within c.in-Ok.ensures.some given in
    record {
      hears = λ rate mode samples before hears.
          subst (λ (xs : List Sample). Hears rate mode c.push_some.new.self xs (before ++ c.push_some.new.octets))
          (some-more samples c.args.piece.now c.loop-at.at copied.result heard (take copied.result copied.new.samples)
          copied.ensures.samples copied.ensures.within few.1)
          (c.in-Ok.ensures.hears rate mode _ before (i.hears rate mode samples before hears));
      not_lost = c.in-Ok.ensures.answer;
      all_taken = c.push_some.ensures.taken;
      count = omega (arith, i.count, c.in-Ok.ensures.count);
      room = omega (arith, i.room, c.push_some.ensures.room, few.0);
      within = omega (arith, copied.ensures.within, few.1);
    }

pub returns-in-Err-clause-plays : goal.returns-in-Err-clause-plays
returns-in-Err-clause-plays c rate mode samples before hears =
    let i = c.loop-at.invariant in
    let copied = c.copy_samples-count in
    let piece : List ℕ = c.args.piece.now in
    let upto : ℕ = 4 * (c.loop-at.at + copied.result) in
    let split = samples_in-split upto piece in
    record {
      heard = samples ++ samples_in (take upto piece);
      more = split.0;
      split = ap (λ (xs : List Sample). samples ++ xs) split.1 ∙ sym (append_assoc samples (samples_in (take upto piece)) split.0);
      hears = subst (λ (xs : List Sample). Hears rate mode c.push_some.new.self xs (before ++ c.push_some.new.octets))
          (append_assoc samples (samples_in (take (4 * c.loop-at.at) piece)) (take copied.result copied.new.samples)
          ∙ ap (λ xs. samples ++ xs) copied.ensures.samples)
          (c.in-Err.ensures.hears rate mode _ before (i.hears rate mode samples before hears));
      all_taken = c.push_some.ensures.taken;
      lost = c.in-Err.ensures.answer;
    }

pub returns-clause-plays : goal.returns-clause-plays
returns-clause-plays c rate mode samples before hears =
    let all : length c.args.piece.now / 4 ≤ c.loop-at.at = omega (arith, c.loop-at-test.false) in
    subst (λ (xs : List Sample). Hears rate mode c.loop-at.playback (samples ++ xs) (before ++ c.loop-at.octets))
    (samples_in-all c.loop-at.at c.args.piece.now all) (c.loop-at.invariant.hears rate mode samples before hears)
