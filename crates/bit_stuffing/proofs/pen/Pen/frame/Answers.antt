use Rattle.bit_stuffing.proofs.Names.{Bool, ℕ, List, ◌≡◌, ◌+◌, ◌≤◌, ◌++◌, length, arith, ◌∙◌, ap, append_assoc, length-append, refl, sym}
use Rattle.bit_stuffing.proofs.Names.{Some, flag, written, framed, stuffed, room_behind, bits_of-append, bits_of}
use Rattle.bit_stuffing.proofs.Written.{next-fits, next-left, next-written, stuffed-front}
use Rattle.bit_stuffing.proofs.pen.Pen.frame.Goals as goal

three : (head information check : List ℕ) → bits_of (head ++ information ++ check) ≡ (bits_of head ++ bits_of information) ++ bits_of check
three head information check = grind (arith, bits_of-append)

-- how long the frame is with its flag
long : (head information check : List ℕ) (before most : ℕ) → before + length (framed (Some (head ++ information ++ check))) ≤ most
    → before + length (stuffed 5 ((bits_of head ++ bits_of information) ++ bits_of check)) + 8 ≤ most
long head information check before most h = grind (arith, three, length-append)

pub content-behind_head-requires-clause-fits : goal.content-behind_head-requires-clause-fits
content-behind_head-requires-clause-fits c =
    let h = bits_of c.args.head.now in
    let i = bits_of c.args.information.now in
    omega (
      arith,
      long c.args.head.now c.args.information.now c.args.check.now (length (written c.args.self.now c.args.out.now)) 10460 c.requires,
      stuffed-front 5 h i (omega arith),
      stuffed-front 5 (h ++ i) (bits_of c.args.check.now) (omega arith),
    )

pub content-behind_both-requires-clause-fits : goal.content-behind_both-requires-clause-fits
content-behind_both-requires-clause-fits c =
    let start = written c.args.self.now c.args.out.now in
    next-fits start _ (bits_of c.args.head.now) 5 c.content-behind_head.result (omega arith) c.content-behind_head.ensures.room
    c.content-behind_head.ensures.written (bits_of c.args.information.now) (bits_of c.args.check.now) 10460
    (omega (arith, long c.args.head.now c.args.information.now c.args.check.now (length start) 10460 c.requires))

-- What is written behind head and information, and how many ones may follow: then the rest of the frame fits, and is all of it.
module _ (start now next h i k : List Bool) (left right : ℕ) (left_is : left ≡ room_behind 5 h) (now_is : now ≡ start ++ stuffed 5 h)
    (next_is : next ≡ now ++ stuffed left i) (right_is : right ≡ room_behind left i) where
  all : (last : List Bool) → last ≡ next ++ stuffed right k → last ≡ start ++ stuffed 5 ((h ++ i) ++ k)
  all last last_is =
      next-written start next (h ++ i) 5 right (omega arith) (right_is ∙ next-left start now h 5 left (omega arith) left_is now_is i)
      (next-written start now h 5 left (omega arith) left_is now_is next i next_is) last k last_is

  fits : length start + length (stuffed 5 ((h ++ i) ++ k)) + 8 ≤ 10460 → length next + length (stuffed right k) + 8 ≤ 10460
  fits room =
      omega (
        arith,
        room,
        ap length (all (next ++ stuffed right k) refl),
        length-append {A = Bool} next (stuffed right k),
        length-append {A = Bool} start (stuffed 5 ((h ++ i) ++ k)),
      )

pub content-requires-clause-fits : goal.content-requires-clause-fits
content-requires-clause-fits c =
    let start = written c.args.self.now c.args.out.now in
    omega (
      arith,
      fits start _ _ (bits_of c.args.head.now) (bits_of c.args.information.now) (bits_of c.args.check.now) _ _
          c.content-behind_head.ensures.room c.content-behind_head.ensures.written
          c.content-behind_both.ensures.written c.content-behind_both.ensures.room
          (long c.args.head.now c.args.information.now c.args.check.now (length start) 10460 c.requires),
    )

pub octet-requires : goal.octet-requires
octet-requires c =
    let start = written c.args.self.now c.args.out.now in
    let now = written c.content-behind_both.new.self c.content-behind_both.new.out in
    omega (
      arith,
      ap length c.content.ensures.written,
      length-append {A = Bool} now (stuffed c.content-behind_both.result (bits_of c.args.check.now)),
      fits start _ _ (bits_of c.args.head.now) (bits_of c.args.information.now) (bits_of c.args.check.now) _ _
          c.content-behind_head.ensures.room c.content-behind_head.ensures.written
          c.content-behind_both.ensures.written c.content-behind_both.ensures.room
          (long c.args.head.now c.args.information.now c.args.check.now (length start) 10460 c.requires),
    )

pub returns : goal.returns
returns c =
    let start = written c.args.self.now c.args.out.now in
    let h = bits_of c.args.head.now in
    let i = bits_of c.args.information.now in
    let k = bits_of c.args.check.now in
    c.octet.ensures
    ∙ ap (λ t. t ++ flag) (all start _ _ h i k _ _ c.content-behind_head.ensures.room c.content-behind_head.ensures.written
    c.content-behind_both.ensures.written c.content-behind_both.ensures.room _ c.content.ensures.written)
    ∙ append_assoc start (stuffed 5 ((h ++ i) ++ k)) flag
    ∙ ap (λ t. start ++ (stuffed 5 t ++ flag)) (sym (three c.args.head.now c.args.information.now c.args.check.now))
