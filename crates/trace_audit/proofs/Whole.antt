-- No line feed stands in a line that is read.
use Rattle.trace_audit.proofs.Cited.{◌≡◌, ℕ, ◌<◌, Bool, true, false, List, [], ◌++◌, codes, decimal, refl, subst, sym, arith, ◌∙◌, Option}
use Rattle.trace_audit.proofs.Cited.{Some, None, inl, inr, and_parts, nat_tests, list_all, IfSome, nat_le, BreakWord, Brk, Ack}
use Rattle.trace_audit.proofs.Cited.{parts_of_kind, FrameKind, kind_word, poll_word, number_word, line_begins, break_word, at-most}
use Rattle.trace_audit.proofs.Cited.{is_digit, role_word, Role, Shape, Numbered, Supervisory, Commanding, Responding, Rejecting, Exchanging}
use Rattle.trace_audit.proofs.Cited.{Unnumbered, count_bound, FrameWords, AreInRange, IsBreak, count_word, information_word, shape_text}
use Rattle.trace_audit.proofs.Cited.{IsFrameText, IsSignal, IsHeard, IsSent, HasParts, LineText}
use Rattle.std.proofs.lemmas.List.Folds.{list_all-append}
use Rattle.noise_script.proofs.Decimals.{both, number-all}
use Rattle.trace_audit.proofs.Frames.{at-names}
use Rattle.trace_audit.specs.Cutting.{is_no_feed}

-- no line feed stands in these octets
abbrev pub IsWhole : List ℕ → Type 0
IsWhole line = list_all is_no_feed line ≡ true

joined : (xs ys : List ℕ) → IsWhole xs → IsWhole ys → IsWhole (xs ++ ys)
joined xs ys h k = list_all-append is_no_feed xs ys ∙ both (list_all is_no_feed xs) (list_all is_no_feed ys) h k

-- ---- numbers

no-feed : (x : ℕ) → is_digit x ≡ true → is_no_feed x ≡ true
no-feed x d = let low = at-most 48 x (and_parts (nat_le 48 x) (nat_le x 57) d).0 in grind (arith, nat_tests, low)

number : (n : ℕ) → n < count_bound → IsWhole (decimal n)
number n h = number-all is_no_feed no-feed n (omega (arith, h))

labelled : (label : List ℕ) (n : ℕ) → IsWhole label → n < count_bound → IsWhole (number_word label n)
labelled label n w h = joined label (decimal n) w (number n h)

-- ---- frames

kind : (command : Bool) → IsWhole (kind_word command)
kind command = grind (arith)

poll : (pf : Bool) → IsWhole (poll_word pf)
poll pf = grind (arith)

abbrev IsWholeName : List ℕ → Shape → Type 0
IsWholeName name shape = IsWhole name

whole-kind : (kind : FrameKind) → IsWhole (parts_of_kind kind).name
whole-kind q0 = grind (arith)

break-whole : (label : List ℕ) (number units : ℕ) → IsWhole label → number < 2 → units < 256
    → IsWhole (number_word label number ++ number_word (codes " ") units)
break-whole label number units w h k =
    joined (number_word label number) (number_word (codes " ") units) (labelled label number w (omega (arith, h)))
    (labelled (codes " ") units refl (omega (arith, k)))

information : (word : Option BreakWord) (n : ℕ) → IfSome word IsBreak → n < count_bound → IsWhole (information_word word n)
information None n w h = labelled (codes " n=") n refl h
information (Some (Brk number units)) n w h = break-whole (codes " brk ") number units refl w.0 w.1
information (Some (Ack number units)) n w h = break-whole (codes " brkack ") number units refl w.0 w.1

shape-whole : (shape : Shape) (w : FrameWords) → AreInRange w → IsWhole (shape_text shape w)
shape-whole Numbered w r =
    joined (number_word (codes " s=") w.ns) _ (labelled (codes " s=") w.ns refl (omega (arith, r.ns)))
    (joined (number_word (codes " r=") w.nr) _ (labelled (codes " r=") w.nr refl (omega (arith, r.nr)))
    (joined (poll_word w.pf) (count_word w.count) (poll w.pf) (labelled (codes " n=") w.count refl r.count)))
shape-whole Supervisory w r =
    joined (kind_word w.command) _ (kind w.command)
    (joined (number_word (codes " r=") w.nr) (poll_word w.pf) (labelled (codes " r=") w.nr refl (omega (arith, r.nr))) (poll w.pf))
shape-whole Commanding w r = joined (kind_word true) (poll_word w.pf) refl (poll w.pf)
shape-whole Responding w r = joined (kind_word false) (poll_word w.pf) refl (poll w.pf)
shape-whole Rejecting w r =
    joined (kind_word false) (poll_word w.pf ++ count_word w.count) refl
    (joined (poll_word w.pf) (count_word w.count) (poll w.pf) (labelled (codes " n=") w.count refl r.count))
shape-whole Exchanging w r =
    joined (kind_word w.command) _ (kind w.command)
    (joined (poll_word w.pf) (count_word w.count) (poll w.pf) (labelled (codes " n=") w.count refl r.count))
shape-whole Unnumbered w r = grind (arith, joined, kind, poll, information)

is-literal : (text word : List ℕ) → text ≡ word → IsWhole word → IsWhole text
is-literal text word e h = subst IsWhole (sym e) h

frame-whole : (text : List ℕ) → IsFrameText text → IsWhole text
frame-whole text f =
    is-literal text (f.words.name ++ shape_text f.shape f.words) f.text_is
    (joined f.words.name (shape_text f.shape f.words)
    (at-names IsWholeName whole-kind f.words.name f.shape f.named)
    (shape-whole f.shape f.words f.ranges))

signal-whole : (text : List ℕ) → IsSignal text → IsWhole text
signal-whole text given = grind (arith, is-literal, frame-whole)

heard-whole : (text : List ℕ) → IsHeard text → IsWhole text
heard-whole text given = grind (arith, is-literal, joined, signal-whole)

sent-whole : (text : List ℕ) → IsSent text → IsWhole text
sent-whole text given = grind (arith, is-literal, signal-whole)

given-whole : (given : Option ℕ) → IfSome given (λ units. units < 256) → IsWhole (break_word given)
given-whole None h = refl
given-whole (Some units) h = labelled (codes " break=") units refl (omega (arith, h))

-- ---- lines

role-whole : (role : Role) → IsWhole (role_word role)
role-whole role = grind (arith)

begins-whole : (turn : ℕ) (role : Role) → turn < count_bound → IsWhole (line_begins turn role)
begins-whole turn role h =
    joined (number_word [] turn ++ codes " " ++ role_word role) (codes " ")
    (joined (number_word [] turn ++ codes " ") (role_word role)
    (joined (number_word [] turn) (codes " ") (labelled [] turn refl h) refl) (role-whole role)) refl

pub parts-whole : (line : List ℕ) (t : LineText) → HasParts line t → IsWhole line
parts-whole line t h = elim h.parts [
  | inl c ↦ is-literal line (line_begins t.turn t.role ++ codes "chance") c.line_is
      (joined (line_begins t.turn t.role) (codes "chance") (begins-whole t.turn t.role h.turn) refl)
  | inr p ↦ is-literal line (line_begins t.turn t.role ++ (t.arrived ++ (codes " > " ++ (t.sent ++ break_word t.given)))) p.line_is
      (joined (line_begins t.turn t.role) (t.arrived ++ (codes " > " ++ (t.sent ++ break_word t.given))) (begins-whole t.turn t.role h.turn)
      (joined t.arrived (codes " > " ++ (t.sent ++ break_word t.given)) (heard-whole t.arrived p.arrived)
      (joined (codes " > ") (t.sent ++ break_word t.given) refl
      (joined t.sent (break_word t.given) (sent-whole t.sent p.sent) (given-whole t.given p.given)))))
]
