use Rattle.std.proofs.Common.{◌≡◌, ◌∙◌, ◌+◌, ◌-◌, ◌++◌, take, drop, arith, sym, ap}
use Rattle.program_folders.proofs.transfer.copy_from.Goals as goal
use Rattle.program_folders.proofs.transfer.copy_from.Goals.{then-at-len, else-at-len}

pub returns-clause-front : goal.returns-clause-front
returns-clause-front c =
    let octets = c.args.octets.now in
    let start = c.if-at-len.start in
    let count = c.min-count.result in
    let run : start + count - start ≡ count = omega arith in
    let same : take count (drop start octets) ≡ take count (drop c.args.at octets) = elim c.if-at-len.branch [
      | then-at-len w ↦ ap (λ s. take count (drop s octets)) w.start-is
      | else-at-len w ↦
          let none : count ≡ 0 = omega (arith, c.min-count.ensures, w.start-is) in
          ap (λ n. take n (drop start octets)) none ∙ ap (λ n. take n (drop c.args.at octets)) (sym none)
    ] in
    ap (λ l. l ++ drop count c.args.buf.now) (c.copy_from_slice.ensures.after ∙ ap (λ n. take n (drop start octets)) run ∙ same)
