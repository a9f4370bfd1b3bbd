-- What each piece of a line is, and that it is read.
use Rattle.trace_audit.proofs.Cited.{◌≡◌, ℕ, ◌<◌, Bool, true, false, List, [], ◌++◌, codes, decimal, Option, Some, None, refl, sym, ap, ◌∙◌}
use Rattle.trace_audit.proofs.Cited.{arith, append_assoc, inl, inr, option_and_then, IfSome, BreakWord, Brk, Ack, kind_word, poll_word}
use Rattle.trace_audit.proofs.Cited.{number_word, is_digit, behind, first_of, behind_number, behind_labelled, Shape, Numbered, Supervisory}
use Rattle.trace_audit.proofs.Cited.{Commanding, Responding, Rejecting, Exchanging, Unnumbered, number_bound, count_bound, FrameWords}
use Rattle.trace_audit.proofs.Cited.{AreInRange, IsBreak, count_word, information_word, shape_text, behind_shape}
use Rattle.trace_audit.specs.Pieces.{behind_direction, behind_poll, behind_count, behind_break, behind_labelled_break, behind_information}
use Rattle.trace_audit.proofs.Fronts.{chained, either, behind-reads, behind-is, begins, chain2, chain3, chain4, join2, join3, join4}
use Rattle.trace_audit.proofs.Numbers.{behind-number-reads, behind-number-is, labelled-reads, labelled-is}

-- no digit goes on
abbrev pub Stops : List ℕ → Type 0
Stops rest = begins is_digit rest ≡ false

-- ---- the direction

pub direction-reads : (command : Bool) (rest : List ℕ) → behind_direction (kind_word command ++ rest) ≡ Some rest
direction-reads command rest = grind (arith)

pub direction-is : (text rest : List ℕ) → behind_direction text ≡ Some rest → (command : Bool) × (text ≡ kind_word command ++ rest)
direction-is text rest e = grind (arith, either, behind, behind-is)

-- ---- the poll or final bit

pub poll-reads : (pf : Bool) (rest : List ℕ) → behind_poll (poll_word pf ++ rest) ≡ Some rest
poll-reads pf rest = grind (arith)

pub poll-is : (text rest : List ℕ) → behind_poll text ≡ Some rest → (pf : Bool) × (text ≡ poll_word pf ++ rest)
poll-is text rest e = grind (arith, either, behind, behind-is)

poll-stops : (pf : Bool) (rest : List ℕ) → Stops (poll_word pf ++ rest)
poll-stops pf rest = grind (arith)

-- ---- numbers

count-reads : (n : ℕ) (rest : List ℕ) → n < count_bound → Stops rest → behind_count (count_word n ++ rest) ≡ Some rest
count-reads n rest h s = labelled-reads (codes " n=") count_bound n rest h (omega arith) s

count-is : (text rest : List ℕ) → behind_count text ≡ Some rest → (n : ℕ) × (n < count_bound) × (text ≡ count_word n ++ rest)
count-is text rest e = labelled-is (codes " n=") count_bound text rest e

-- ---- breaks

break-reads : (number units : ℕ) (rest : List ℕ) → number < 2 → units < 256 → Stops rest
    → behind_break ((decimal number ++ number_word (codes " ") units) ++ rest) ≡ Some rest
break-reads number units rest h k s =
    chain2 (behind_number 2) (behind_labelled (codes " ") 256) (behind_number 2) (behind_number 2) (decimal number)
    (number_word (codes " ") units) rest
    (behind-number-reads 2 number (number_word (codes " ") units ++ rest) h (omega arith) refl)
    (labelled-reads (codes " ") 256 units rest k (omega arith) s)

break-is : (text rest : List ℕ) → behind_break text ≡ Some rest
    → (number : ℕ) × (units : ℕ) × (number < 2) × (units < 256) × (text ≡ (decimal number ++ number_word (codes " ") units) ++ rest)
break-is text rest e =
    let c = chained (behind_labelled (codes " ") 256) (behind_number 2 text) rest e in
    let p = behind-number-is 2 text c.0 c.1 in
    let q = labelled-is (codes " ") 256 c.0 rest c.2 in
    (p.0, q.0, p.1, q.1, join2 text (decimal p.0) c.0 (number_word (codes " ") q.0) rest p.2 q.2)

labelled-break-is : (label text rest : List ℕ) → behind_labelled_break label text ≡ Some rest
    → (number : ℕ) × (units : ℕ) × (number < 2) × (units < 256)
    × (text ≡ (number_word label number ++ number_word (codes " ") units) ++ rest)
labelled-break-is label text rest e =
    let c = chained behind_break (behind label text) rest e in
    let p = break-is c.0 rest c.2 in (
      p.0,
      p.1,
      p.2,
      p.3,
      join2 text label c.0 (decimal p.0 ++ number_word (codes " ") p.1) rest (behind-is label text c.0 c.1) p.4
          ∙ ap (λ t. t ++ rest) (sym (append_assoc label (decimal p.0) (number_word (codes " ") p.1))),
    )

information-reads : (word : Option BreakWord) (n : ℕ) (rest : List ℕ) → IfSome word IsBreak → n < count_bound → Stops rest
    → behind_information (information_word word n ++ rest) ≡ Some rest
information-reads word n rest w h s = grind (arith, count-reads, break-reads)

-- what the information is, with the count for what has none
abbrev pub InformationIs : List ℕ → List ℕ → Type 0
InformationIs text rest =
    (word : Option BreakWord) × (n : ℕ) × IfSome word IsBreak × (n < count_bound) × (text ≡ information_word word n ++ rest)

information-is : (text rest : List ℕ) → behind_information text ≡ Some rest → InformationIs text rest
information-is text rest e =
    elim (either (behind_labelled_break (codes " brk ") text)
    (first_of (behind_labelled_break (codes " brkack ") text) (behind_count text)) rest e) [
      | inl a ↦ let p = labelled-break-is (codes " brk ") text rest a in (Some (Brk p.0 p.1), 0, (p.2, p.3), omega arith, p.4)
      | inr b ↦ elim (either (behind_labelled_break (codes " brkack ") text) (behind_count text) rest b) [
        | inl a ↦ let p = labelled-break-is (codes " brkack ") text rest a in (Some (Ack p.0 p.1), 0, (p.2, p.3), omega arith, p.4)
        | inr c ↦ let p = count-is text rest c in (None, p.0, tt, p.1, p.2)
      ]
    ]

-- ---- shapes

pub shape-reads : (shape : Shape) (w : FrameWords) (rest : List ℕ) → AreInRange w → Stops rest
    → behind_shape shape (shape_text shape w ++ rest) ≡ Some rest
shape-reads Numbered w rest r s =
    let ns = number_word (codes " s=") w.ns in
    let nr = number_word (codes " r=") w.nr in
    let n = count_word w.count in
    chain4 (behind_labelled (codes " s=") number_bound) (behind_labelled (codes " r=") number_bound) behind_poll behind_count
    ns nr (poll_word w.pf) n rest
    (labelled-reads (codes " s=") number_bound w.ns (nr ++ (poll_word w.pf ++ (n ++ rest))) r.ns (omega arith) refl)
    (labelled-reads (codes " r=") number_bound w.nr (poll_word w.pf ++ (n ++ rest)) r.nr (omega arith) (poll-stops w.pf (n ++ rest)))
    (poll-reads w.pf (n ++ rest))
    (count-reads w.count rest r.count s)
shape-reads Supervisory w rest r s =
    let nr = number_word (codes " r=") w.nr in
    chain3 behind_direction (behind_labelled (codes " r=") number_bound) behind_poll behind_poll (kind_word w.command) nr (poll_word w.pf)
    rest
    (direction-reads w.command (nr ++ (poll_word w.pf ++ rest)))
    (labelled-reads (codes " r=") number_bound w.nr (poll_word w.pf ++ rest) r.nr (omega arith) (poll-stops w.pf rest))
    (poll-reads w.pf rest)
shape-reads Commanding w rest r s = grind (arith, chain2, behind-reads, poll-reads)
shape-reads Responding w rest r s = grind (arith, chain2, behind-reads, poll-reads)
shape-reads Rejecting w rest r s = grind (arith, chain3, behind-reads, poll-reads, count-reads)
shape-reads Exchanging w rest r s = grind (arith, chain3, direction-reads, poll-reads, count-reads)
shape-reads Unnumbered w rest r s = grind (arith, chain3, direction-reads, poll-reads, information-reads)

-- words of a shape, whatever the name
abbrev pub ShapeIs : Shape → List ℕ → List ℕ → Type 0
ShapeIs shape text rest = (w : FrameWords) × AreInRange w × (text ≡ shape_text shape w ++ rest)

abbrev words : Bool → ℕ → ℕ → Bool → ℕ → Option BreakWord → FrameWords
words command ns nr pf n word = record { name = []; command = command; ns = ns; nr = nr; pf = pf; count = n; word = word }

within : (command : Bool) (ns nr : ℕ) (pf : Bool) (n : ℕ) (word : Option BreakWord) → ns < number_bound → nr < number_bound
    → n < count_bound
    → IfSome word IsBreak → AreInRange (words command ns nr pf n word)
within command ns nr pf n word a b c d = record { ns = a; nr = b; count = c; word = d }

pub shape-is : (shape : Shape) (text rest : List ℕ) → behind_shape shape text ≡ Some rest → ShapeIs shape text rest
shape-is Numbered text rest e =
    let c = chained behind_count
    (option_and_then behind_poll (option_and_then (behind_labelled (codes " r=") number_bound)
    (behind_labelled (codes " s=") number_bound text)))
    rest e in
    let d = chained behind_poll (option_and_then (behind_labelled (codes " r=") number_bound)
    (behind_labelled (codes " s=") number_bound text)) c.0 c.1 in
    let f = chained (behind_labelled (codes " r=") number_bound) (behind_labelled (codes " s=") number_bound text) d.0 d.1 in
    let n = count-is c.0 rest c.2 in
    let p = poll-is d.0 c.0 d.2 in
    let r = labelled-is (codes " r=") number_bound f.0 d.0 f.2 in
    let s = labelled-is (codes " s=") number_bound text f.0 f.1 in (
      words true s.0 r.0 p.0 n.0 None,
      within true s.0 r.0 p.0 n.0 None s.1 r.1 n.1 tt,
      join4 text (number_word (codes " s=") s.0) f.0 (number_word (codes " r=") r.0) d.0 (poll_word p.0) c.0 (count_word n.0) rest s.2 r.2
          p.1 n.2,
    )
shape-is Supervisory text rest e =
    let c = chained behind_poll (option_and_then (behind_labelled (codes " r=") number_bound) (behind_direction text)) rest e in
    let d = chained (behind_labelled (codes " r=") number_bound) (behind_direction text) c.0 c.1 in
    let p = poll-is c.0 rest c.2 in
    let r = labelled-is (codes " r=") number_bound d.0 c.0 d.2 in
    let k = direction-is text d.0 d.1 in (
      words k.0 0 r.0 p.0 0 None,
      within k.0 0 r.0 p.0 0 None (omega arith) r.1 (omega arith) tt,
      join3 text (kind_word k.0) d.0 (number_word (codes " r=") r.0) c.0 (poll_word p.0) rest k.1 r.2 p.1,
    )
shape-is Commanding text rest e =
    let c = chained behind_poll (behind (codes " cmd") text) rest e in
    let p = poll-is c.0 rest c.2 in (
      words true 0 0 p.0 0 None,
      within true 0 0 p.0 0 None (omega arith) (omega arith) (omega arith) tt,
      join2 text (kind_word true) c.0 (poll_word p.0) rest (behind-is (codes " cmd") text c.0 c.1) p.1,
    )
shape-is Responding text rest e =
    let c = chained behind_poll (behind (codes " rsp") text) rest e in
    let p = poll-is c.0 rest c.2 in (
      words false 0 0 p.0 0 None,
      within false 0 0 p.0 0 None (omega arith) (omega arith) (omega arith) tt,
      join2 text (kind_word false) c.0 (poll_word p.0) rest (behind-is (codes " rsp") text c.0 c.1) p.1,
    )
shape-is Rejecting text rest e =
    let c = chained behind_count (option_and_then behind_poll (behind (codes " rsp") text)) rest e in
    let d = chained behind_poll (behind (codes " rsp") text) c.0 c.1 in
    let n = count-is c.0 rest c.2 in
    let p = poll-is d.0 c.0 d.2 in (
      words false 0 0 p.0 n.0 None,
      within false 0 0 p.0 n.0 None (omega arith) (omega arith) n.1 tt,
      join3 text (kind_word false) d.0 (poll_word p.0) c.0 (count_word n.0) rest (behind-is (codes " rsp") text d.0 d.1) p.1 n.2,
    )
shape-is Exchanging text rest e =
    let c = chained behind_count (option_and_then behind_poll (behind_direction text)) rest e in
    let d = chained behind_poll (behind_direction text) c.0 c.1 in
    let n = count-is c.0 rest c.2 in
    let p = poll-is d.0 c.0 d.2 in
    let k = direction-is text d.0 d.1 in (
      words k.0 0 0 p.0 n.0 None,
      within k.0 0 0 p.0 n.0 None (omega arith) (omega arith) n.1 tt,
      join3 text (kind_word k.0) d.0 (poll_word p.0) c.0 (count_word n.0) rest k.1 p.1 n.2,
    )
shape-is Unnumbered text rest e =
    let c = chained behind_information (option_and_then behind_poll (behind_direction text)) rest e in
    let d = chained behind_poll (behind_direction text) c.0 c.1 in
    let i = information-is c.0 rest c.2 in
    let p = poll-is d.0 c.0 d.2 in
    let k = direction-is text d.0 d.1 in (
      words k.0 0 0 p.0 i.1 i.0,
      within k.0 0 0 p.0 i.1 i.0 (omega arith) (omega arith) i.3 i.2,
      join3 text (kind_word k.0) d.0 (poll_word p.0) c.0 (information_word i.0 i.1) rest k.1 p.1 i.4,
    )
