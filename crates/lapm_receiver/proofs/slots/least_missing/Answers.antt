use Rattle.lapm_receiver.proofs.Names.{◌≡◌, suc, ◌+◌, ◌-◌, ◌≤◌, true, false, length, drop, sym, ap, ◌∙◌, arith, is_some, slice_get}
use Rattle.lapm_receiver.proofs.Names.{any_held, info_at, missing_among}
use Rattle.std.proofs.lemmas.List.{drop_all}
use Rattle.lapm_receiver.proofs.Rows.{full-slot, found-slot, low-slot, last-slot, copied-some}
use Rattle.lapm_receiver.proofs.slots.least_missing.Goals as goal
use Rattle.lapm_receiver.proofs.slots.least_missing.Goals.{else-later-via-then-later+else-low-number, else-later-via-else-later}

pub loop-place-preserved-then-is_some : goal.loop-place-preserved-then-is_some
loop-place-preserved-then-is_some c =
    let is : c.loop-place.place ≡ suc (c.loop-place.place - 1) = omega (arith, c.loop-place-test.true) in
    let within : c.loop-place.place ≤ length c.args.ring.now.items = omega (arith, c.loop-place.auto.place, c.len-place.ensures.len) in
    let full : is_some (info_at (slice_get c.args.ring.now.items (c.loop-place.place - 1))) ≡ true =
    sym (ap (λ o. is_some o) c.info_in.ensures) ∙ copied-some c.info_in.result ∙ sym c.if-is_some.ensures in
    full-slot _ _ _ _ _ _ _ _ is c.loop-place.invariant c.loop-place-test.true within full

pub loop-place-preserved-then-low-number : goal.loop-place-preserved-then-low-number
loop-place-preserved-then-low-number c =
    let is : c.loop-place.place ≡ suc (c.loop-place.place - 1) = omega (arith, c.loop-place-test.true) in
    let within : c.loop-place.place ≤ length c.args.ring.now.items = omega (arith, c.loop-place.auto.place, c.len-place.ensures.len) in
    let empty : is_some (info_at (slice_get c.args.ring.now.items (c.loop-place.place - 1))) ≡ false =
    sym (ap (λ o. is_some o) c.info_in.ensures) ∙ copied-some c.info_in.result ∙ sym c.if-is_some.ensures in
    found-slot _ _ _ _ _ _ _ _ is c.loop-place.invariant c.loop-place-test.true within empty c.if-later.true c.if-low-number.true

pub loop-place-preserved : goal.loop-place-preserved
loop-place-preserved c =
    let is : c.loop-place.place ≡ suc (c.loop-place.place - 1) = omega (arith, c.loop-place-test.true) in
    let within : c.loop-place.place ≤ length c.args.ring.now.items = omega (arith, c.loop-place.auto.place, c.len-place.ensures.len) in
    let empty : is_some (info_at (slice_get c.args.ring.now.items (c.loop-place.place - 1))) ≡ false =
    sym (ap (λ o. is_some o) c.info_in.ensures) ∙ copied-some c.info_in.result ∙ sym c.if-is_some.ensures in
    elim c.else-later.branch [
      | else-later-via-then-later+else-low-number w ↦
          low-slot _ _ _ _ _ _ _ _ is c.loop-place.invariant c.loop-place-test.true within empty w.if-later.true w.if-low-number.false
      | else-later-via-else-later w ↦
          last-slot _ _ _ _ _ _ _ _ is c.loop-place.invariant c.loop-place-test.true within empty w.if-later.false
    ]

pub returns : goal.returns
returns c =
    let down : c.loop-place.place ≡ c.args.start = omega (arith, c.loop-place.invariant.above, c.loop-place-test.false) in
    let number : c.args.first + (c.loop-place.place - c.args.start) ≡ c.args.first = omega (arith, down) in
    c.loop-place.invariant.missing_is ∙ ap (λ n. missing_among c.args.low n (drop c.loop-place.place c.args.ring.now.items)) number
    ∙ ap (λ p. missing_among c.args.low c.args.first (drop p c.args.ring.now.items)) down

pub loop-place-init : goal.loop-place-init
loop-place-init c =
    let none = drop_all c.len-place.result c.args.ring.now.items (omega (arith, c.len-place.ensures.len)) in
    record {
      above = omega (arith, c.len-place.ensures.len, c.requires.within);
      later_is = sym (ap any_held none);
      missing_is = sym (ap (missing_among c.args.low (c.args.first + (c.len-place.result - c.args.start))) none);
    }
