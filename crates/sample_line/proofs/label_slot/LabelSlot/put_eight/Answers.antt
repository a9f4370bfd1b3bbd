use Rattle.sample_line.proofs.Names.{◌≡◌, ◌∙◌, ◌<◌, ◌+◌, ◌*◌, ◌/◌, ◌%◌, ◌^◌, ℕ, List, length, slice_index, slice_index_or, slice_set, inl}
use Rattle.sample_line.proofs.Names.{inr, sym, ap, subst, arith, length-set, cases_lt, get_or-set_same, get_or-set_other}
use Rattle.sample_line.proofs.Packing.{labels-count, label-read, eight-label}
use Rattle.sample_line.proofs.label_slot.LabelSlot.put_eight.Goals as goal

pub bounds-self-inside-group : goal.bounds-self-inside-group
bounds-self-inside-group c = omega (
  arith,
  c.requires.within,
  c.self.invariant,
  labels-count c.self.inside.count c.self.inside.quads c.self.inside.highs c.args.self.now c.self.view_is,
)

pub overflow_mul-quads : goal.overflow_mul-quads
overflow_mul-quads c = omega (
  arith,
  c.requires.within,
  c.self.invariant,
  labels-count c.self.inside.count c.self.inside.quads c.self.inside.highs c.args.self.now c.self.view_is,
)

pub overflow_add-quads : goal.overflow_add-quads
overflow_add-quads c = omega (
  arith,
  c.requires.within,
  c.self.invariant,
  c.loop-k-test.true,
  labels-count c.self.inside.count c.self.inside.quads c.self.inside.highs c.args.self.now c.self.view_is,
)

pub bounds-self-inside-group-in-loop-k : goal.bounds-self-inside-group-in-loop-k
bounds-self-inside-group-in-loop-k c = omega (
  arith,
  c.requires.within,
  c.self.invariant,
  c.loop-k-test.true,
  labels-count c.self.inside.count c.self.inside.quads c.self.inside.highs c.args.self.now c.self.view_is,
)

pub loop-k-preserved : goal.loop-k-preserved
loop-k-preserved c =
    let i = c.loop-k.invariant in
    let k : ℕ = c.loop-k.k in
    let group : ℕ = c.args.group in
    let place : ℕ = c.args.place in
    let out : List ℕ = c.loop-k.out in
    let quads : List ℕ = c.self.inside.quads in
    let highs : List ℕ = c.self.inside.highs in
    let label : ℕ = slice_index_or quads (4 * group + k / 2) 0 / 2 ^ (4 * (k % 2)) % 16 + 16 * (slice_index_or highs group 0 / 2 ^ k % 2) in
    let room : place + k < length out = omega (arith, i.long, c.loop-k-test.true, c.requires.room) in
    let small : label < 32 = omega arith in
    record {
      long = length-set out (place + k) label ∙ i.long;
      value = λ j low within. elim (cases_lt j k) [
        | inl before ↦ get_or-set_other out (place + k) (place + j) label 0 (λ e. omega (arith, e, before)) ∙ i.value j before within
        | inr not_before ↦
            let last : j ≡ k = omega (arith, low, not_before) in
            let here : 8 * group + k < c.self.inside.count = omega (
              arith,
              within,
              last,
              labels-count c.self.inside.count c.self.inside.quads c.self.inside.highs c.args.self.now c.self.view_is,
            ) in
            ap (λ (m : ℕ). slice_index (slice_set out (place + k) label) (place + m)) last
            ∙ get_or-set_same out (place + k) label 0 room
            ∙ eight-label quads highs group k c.loop-k-test.true
            ∙ sym (label-read c.self.inside.count quads highs (8 * group + k) here)
            ∙ ap (λ (l : List ℕ). slice_index l (8 * group + k)) c.self.view_is
            ∙ ap (λ (m : ℕ). slice_index c.args.self.now (8 * group + m)) (sym last)
      ];
      bound = λ j low. elim (cases_lt j k) [
        | inl before ↦ subst (λ (n : ℕ). n < 32)
            (sym (get_or-set_other out (place + k) (place + j) label 0 (λ e. omega (arith, e, before)))) (i.bound j before)
        | inr not_before ↦
            let last : j ≡ k = omega (arith, low, not_before) in
            subst (λ (n : ℕ). n < 32)
            (sym (ap (λ (m : ℕ). slice_index (slice_set out (place + k) label) (place + m)) last
            ∙ get_or-set_same out (place + k) label 0 room)) small
      ];
      before = λ j low. get_or-set_other out (place + k) j label 0 (λ e. omega (arith, e, low)) ∙ i.before j low;
    }
