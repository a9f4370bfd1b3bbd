use Rattle.line_world.proofs.Cited.{◌<◌, length, arith, sym, ◌∙◌, ap, subst, IsSendable, DelayedLine, SentSlot}
use Rattle.line_world.proofs.Passing.{puts-so, all-kept}
use Rattle.line_world.proofs.direction.DelayedLine.put.Goals as goal

pub returns-clause-stands : goal.returns-clause-stands
returns-clause-stands c = λ script passed way x h coded sent.
    let d : DelayedLine = c.args.self.now in
    let new : DelayedLine = record d { slots = c.push_back.new.self } in
    let slot : SentSlot = record { labels = c.args.labels; sent = c.args.sent } in
    let room : length d.slots.items < d.slots.capacity = omega (arith, c.requires.room, h.room) in
    let kept = all-kept d.slots.items slot d.slots.capacity room in
    puts-so d new script passed way slot x h coded (assumption (
      ap (λ b. b.items) c.push_back.ensures.items ∙ kept,
      ap (λ b. b.capacity) c.push_back.ensures.items,
    )) (sym sent) (subst IsSendable (sym sent) c.requires.sendable)
