use Rattle.line_world.proofs.Cited.{◌-◌, ◌<◌, ◌≤◌, length, drop, arith, refl, ◌∙◌, ap, subst, AreOnWay, Early, Due, DelayedLine, loses}
use Rattle.line_world.proofs.Cited.{size_of}
use Rattle.line_world.proofs.Passing.{same-count, Oldest, oldest, first-of, PassesAll, passes-oldest, numbered-by}
use Rattle.line_world.proofs.direction.DelayedLine.arrive.Goals as goal

pub returns-then-len-from-clause-arrives : goal.returns-then-len-from-clause-arrives
returns-then-len-from-clause-arrives c = λ passed way h.
    let d : DelayedLine = c.args.self.now in
    let count = same-count (size_of d.line) d.sender passed d.slots.items way h.slots in
    let less : length way < d.lag = omega (arith, c.if-len-from.true, c.len.ensures.len, c.from.ensures, count) in
    Early less refl h

pub overflow_sub-turn : goal.overflow_sub-turn
overflow_sub-turn c =
    let late = c.requires.late (omega (arith, c.if-len-from.false, c.len.ensures.len, c.from.ensures)) in
    omega (arith, late, c.from-in-Some.ensures)

pub returns-in-Some-clause-arrives : goal.returns-in-Some-clause-arrives
returns-in-Some-clause-arrives c = λ passed way h.
    let d : DelayedLine = c.args.self.now in
    let new : DelayedLine =
    record { line = c.hear.new.self; sender = d.sender; delay = d.delay; lag = d.lag; slots = c.pop_front.new.self } in
    let o : Oldest (size_of d.line) d.sender passed c.in-Some.slot (drop 1 d.slots.items) way =
    oldest (size_of d.line) d.sender passed c.in-Some.slot (drop 1 d.slots.items) way
    (subst (λ xs. AreOnWay (size_of d.line) d.sender passed xs way) (first-of d.slots.items c.in-Some.slot c.in-Some.ensures.value) h.slots)
    in
    let count = same-count (size_of d.line) d.sender passed d.slots.items way h.slots in
    let full : d.lag ≤ length way = omega (arith, c.if-len-from.false, c.len.ensures.len, c.from.ensures, count) in
    let number = c.args.turn - d.delay in
    let lost = c.loses-loses.ensures ∙ ap (λ n. loses c.args.script.now d.sender (c.args.turn - n)) c.from-in-Some.ensures in
    Due o.x o.rest o.way_is full
    (passes-oldest c.recordings_grow.ensures.once c.losses_stay.ensures.stays d new c.args.script.now passed way c.in-Some.slot
    (drop 1 d.slots.items) number c.args.check c.args.dlci c.hear.result o h
    (assumption (ap (λ b. b.items) c.in-Some.ensures.items, ap (λ b. b.capacity) c.in-Some.ensures.items))
    (subst (λ b. PassesAll d new c.in-Some.slot c.args.check c.args.script.now c.args.dlci b c.hear.result) lost
    (λ passed signal. c.hear.ensures.passes passed signal)))

pub returns-in-Some-clause-numbered : goal.returns-in-Some-clause-numbered
returns-in-Some-clause-numbered c =
    let w = c.requires.stands in
    let d : DelayedLine = c.args.self.now in
    let new : DelayedLine =
    record { line = c.hear.new.self; sender = d.sender; delay = d.delay; lag = d.lag; slots = c.pop_front.new.self } in
    let o : Oldest (size_of d.line) d.sender w.0 c.in-Some.slot (drop 1 d.slots.items) w.1 =
    oldest (size_of d.line) d.sender w.0 c.in-Some.slot (drop 1 d.slots.items) w.1
    (subst (λ xs. AreOnWay (size_of d.line) d.sender w.0 xs w.1) (first-of d.slots.items c.in-Some.slot c.in-Some.ensures.value) w.2.slots)
    in
    let lost = c.loses-loses.ensures ∙ ap (λ n. loses c.args.script.now d.sender (c.args.turn - n)) c.from-in-Some.ensures in
    numbered-by d new c.args.script.now w.0 w.1 c.in-Some.slot (drop 1 d.slots.items) (c.args.turn - d.delay) c.args.check c.args.dlci
    c.hear.result o w.2 (subst (λ b. PassesAll d new c.in-Some.slot c.args.check c.args.script.now c.args.dlci b c.hear.result) lost
    (λ passed signal. c.hear.ensures.passes passed signal))
