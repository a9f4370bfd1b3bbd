-- Texts of frames, and of what is sent and heard.
use Rattle.trace_audit.proofs.Cited.{◌≡◌, ℕ, ◌+◌, ◌<◌, ◌≤◌, Bool, true, false, cond, List, [], ◌∷◌, ◌++◌, length, codes, decimal, Option}
use Rattle.trace_audit.proofs.Cited.{Some, None, refl, sym, ap, subst, ◌∙◌, arith, append_assoc, inl, inr, length-append, length-decimal-le}
use Rattle.trace_audit.proofs.Cited.{bytes_eq-Decides, option_map, IfSome, bytes_eq, BreakWord, Brk, Ack, parts_of_kind, FrameKind}
use Rattle.trace_audit.proofs.Cited.{kind_word, poll_word, number_word, behind, first_of, front_of, rest_of, is_no_space, Shape, Numbered}
use Rattle.trace_audit.proofs.Cited.{Supervisory, Commanding, Responding, Rejecting, Exchanging, Unnumbered, count_bound, shape_named}
use Rattle.trace_audit.proofs.Cited.{FrameWords, AreInRange, IsBreak, count_word, information_word, shape_text, IsFrameText, IsSignal, odp}
use Rattle.trace_audit.proofs.Cited.{adp, frame, IsHeard, nothing, lost, passed, IsSent, mark, flags, none, signal, behind_shape}
use Rattle.trace_audit.proofs.Cited.{behind_heard, behind_sent}
use Rattle.lapm_frames.specs.Parts.{kinds, first_named}
use Rattle.trace_audit.specs.Pieces.{behind_frame, behind_signal, behind_lost}
use Rattle.trace_audit.specs.Grammar.{shape_of}
use Rattle.trace_audit.proofs.Fronts.{chained, either, behind-is, front-rest}
use Rattle.trace_audit.proofs.Shapes.{Stops, shape-reads, shape-is}
use Rattle.line_texts.proofs.Fits.{short-poll}

-- ---- names

pub same-bytes : (a b : List ℕ) → bytes_eq a b ≡ true → a ≡ b
same-bytes a b e = (bytes_eq-Decides a b).0 e

-- what holds of each kind with its name holds of the one that is found by a name
found : (Q : List ℕ → FrameKind → Type 0) (name : List ℕ) (among : List FrameKind) (shape : Shape)
    → ((kind : FrameKind) → Q (parts_of_kind kind).name kind)
    → option_map shape_of (first_named name among) ≡ Some shape → (kind : FrameKind) × Q name kind × (shape_of kind ≡ shape)
found Q name [] shape each e = absurd cc
found Q name (k ∷ among) shape each e =
    go (bytes_eq name (parts_of_kind k).name) refl e (found Q name among shape each)
  where
    go : (b : Bool) → bytes_eq name (parts_of_kind k).name ≡ b
        → option_map shape_of (cond b (Some k) (first_named name among)) ≡ Some shape
        → (option_map shape_of (first_named name among) ≡ Some shape → (kind : FrameKind) × Q name kind × (shape_of kind ≡ shape))
        → (kind : FrameKind) × Q name kind × (shape_of kind ≡ shape)
    go b same e rest = grind (arith, same-bytes)

-- what holds of each name with its shape
pub at-names : (P : List ℕ → Shape → Type 0) → ((kind : FrameKind) → P (parts_of_kind kind).name (shape_of kind))
    → (name : List ℕ) (shape : Shape) → shape_named name ≡ Some shape → P name shape
at-names P each name shape e =
    let f = found (λ n kind. P n (shape_of kind)) name kinds shape each e in subst (P name) f.2 f.1

-- a name begins nothing but a frame
abbrev BeginsFrame : List ℕ → Shape → Type 0
BeginsFrame name shape = (text : List ℕ)
    → (behind_frame (name ++ 32 ∷ text) ≡ behind_shape shape (32 ∷ text))
    × (behind_signal (name ++ 32 ∷ text) ≡ behind_frame (name ++ 32 ∷ text))
    × (behind_heard (name ++ 32 ∷ text) ≡ behind_frame (name ++ 32 ∷ text))
    × (behind_sent (name ++ 32 ∷ text) ≡ behind_frame (name ++ 32 ∷ text))

begins-kind : (kind : FrameKind) → BeginsFrame (parts_of_kind kind).name (shape_of kind)
begins-kind q0 text = grind (arith)

begins-frame : (name : List ℕ) (shape : Shape) → shape_named name ≡ Some shape → BeginsFrame name shape
begins-frame = at-names BeginsFrame begins-kind

abbrev IsShortName : List ℕ → Shape → Type 0
IsShortName name shape = (length name ≤ 5) × (1 ≤ length name)

short-kind : (kind : FrameKind) → IsShortName (parts_of_kind kind).name (shape_of kind)
short-kind q0 = grind (arith)

short-name : (name : List ℕ) (shape : Shape) → shape_named name ≡ Some shape → IsShortName name shape
short-name = at-names IsShortName short-kind

-- ---- frames

-- what stands behind the name begins with a space
spaced : (shape : Shape) (w : FrameWords) (rest : List ℕ) → (text : List ℕ) × (shape_text shape w ++ rest ≡ 32 ∷ text)
spaced Numbered w rest = (_, refl)
spaced Supervisory w rest = go w.command
  where
    go : (command : Bool) → (text : List ℕ)
        × ((kind_word command ++ (number_word (codes " r=") w.nr ++ poll_word w.pf)) ++ rest ≡ 32 ∷ text)
    go true = (_, refl)
    go false = (_, refl)
spaced Commanding w rest = (_, refl)
spaced Responding w rest = (_, refl)
spaced Rejecting w rest = (_, refl)
spaced Exchanging w rest = go w.command
  where
    go : (command : Bool) → (text : List ℕ) × ((kind_word command ++ (poll_word w.pf ++ count_word w.count)) ++ rest ≡ 32 ∷ text)
    go true = (_, refl)
    go false = (_, refl)
spaced Unnumbered w rest = go w.command
  where
    go : (command : Bool) → (text : List ℕ)
        × ((kind_word command ++ (poll_word w.pf ++ information_word w.word w.count)) ++ rest ≡ 32 ∷ text)
    go true = (_, refl)
    go false = (_, refl)

-- how a frame's text is read, by each reader that reads frames
pub record FrameReads (text rest : List ℕ) : Type 0 where
  pub frame : behind_frame (text ++ rest) ≡ Some rest
  pub signal : behind_signal (text ++ rest) ≡ Some rest
  pub heard : behind_heard (text ++ rest) ≡ Some rest
  pub sent : behind_sent (text ++ rest) ≡ Some rest

frame-reads : (text rest : List ℕ) → IsFrameText text → Stops rest → FrameReads text rest
frame-reads text rest f s =
    let w = f.words in
    let cut = spaced f.shape w rest in
    let whole : text ++ rest ≡ w.name ++ 32 ∷ cut.0 =
    ap (λ t. t ++ rest) f.text_is ∙ append_assoc w.name (shape_text f.shape w) rest ∙ ap (λ t. w.name ++ t) cut.1 in
    let b = begins-frame w.name f.shape f.named cut.0 in
    let reads : behind_frame (w.name ++ 32 ∷ cut.0) ≡ Some rest =
    b.0 ∙ ap (behind_shape f.shape) (sym cut.1) ∙ shape-reads f.shape w rest f.ranges s in
    record {
      frame = ap behind_frame whole ∙ reads;
      signal = ap behind_signal whole ∙ b.1 ∙ reads;
      heard = ap behind_heard whole ∙ b.2 ∙ reads;
      sent = ap behind_sent whole ∙ b.3 ∙ reads;
    }

-- what is read as a frame is one
abbrev pub Found : (List ℕ → Type 0) → List ℕ → List ℕ → Type 0
Found P text rest = (front : List ℕ) × P front × (text ≡ front ++ rest)

renamed : (shape : Shape) (name : List ℕ) (w : FrameWords) → shape_text shape (record w { name = name }) ≡ shape_text shape w
renamed shape name w = grind (arith)

frame-is : (text rest : List ℕ) → behind_frame text ≡ Some rest → Found IsFrameText text rest
frame-is text rest e =
    let name = front_of is_no_space text in
    let c = chained (λ shape. behind_shape shape (rest_of is_no_space text)) (shape_named name) rest e in
    let p = shape-is c.0 (rest_of is_no_space text) rest c.2 in
    let w = record p.0 { name = name } in
    let frame_text : IsFrameText (name ++ shape_text c.0 w) = record {
      words = w;
      shape = c.0;
      named = c.1;
      ranges = record { ns = p.1.ns; nr = p.1.nr; count = p.1.count; word = p.1.word };
      text_is = refl;
    } in (
      name ++ shape_text c.0 w,
      frame_text,
      sym (front-rest is_no_space text)
          ∙ ap (λ t. name ++ t) (p.2 ∙ ap (λ t. t ++ rest) (sym (renamed c.0 name p.0)))
          ∙ sym (append_assoc name (shape_text c.0 w) rest),
    )

-- ---- signals

pub signal-reads : (text rest : List ℕ) → IsSignal text → Stops rest → behind_signal (text ++ rest) ≡ Some rest
signal-reads text rest given s = grind (arith, frame-reads)

signal-is : (text rest : List ℕ) → behind_signal text ≡ Some rest → Found IsSignal text rest
signal-is text rest e = elim (either (behind (codes "odp") text) (first_of (behind (codes "adp") text) (behind_frame text)) rest e) [
  | inl a ↦ (codes "odp", odp refl, behind-is (codes "odp") text rest a)
  | inr b ↦ elim (either (behind (codes "adp") text) (behind_frame text) rest b) [
    | inl a ↦ (codes "adp", adp refl, behind-is (codes "adp") text rest a)
    | inr c ↦ let p = frame-is text rest c in (p.0, frame p.1, p.2)
  ]
]

-- ---- what arrives

heard-signal : (text rest : List ℕ) → IsSignal text → Stops rest → behind_heard (text ++ rest) ≡ Some rest
heard-signal text rest given s = grind (arith, frame-reads)

pub heard-reads : (text rest : List ℕ) → IsHeard text → Stops rest → behind_heard (text ++ rest) ≡ Some rest
heard-reads text rest given s = grind (arith, signal-reads, heard-signal)

pub heard-is : (text rest : List ℕ) → behind_heard text ≡ Some rest → Found IsHeard text rest
heard-is text rest e = elim (either (behind (codes "-") text) (first_of (behind_lost text) (behind_signal text)) rest e) [
  | inl a ↦ (codes "-", nothing refl, behind-is (codes "-") text rest a)
  | inr b ↦ elim (either (behind_lost text) (behind_signal text) rest b) [
    | inl a ↦
        let c = chained behind_signal (behind (codes "lost ") text) rest a in
        let p = signal-is c.0 rest c.2 in (
          codes "lost " ++ p.0,
          lost p.0 p.1 refl,
          behind-is (codes "lost ") text c.0 c.1 ∙ ap (λ t. codes "lost " ++ t) p.2 ∙ sym (append_assoc (codes "lost ") p.0 rest),
        )
    | inr c ↦ let p = signal-is text rest c in (p.0, passed p.1, p.2)
  ]
]

-- ---- what is sent

sent-signal : (text rest : List ℕ) → IsSignal text → Stops rest → behind_sent (text ++ rest) ≡ Some rest
sent-signal text rest given s = grind (arith, frame-reads)

pub sent-reads : (text rest : List ℕ) → IsSent text → Stops rest → behind_sent (text ++ rest) ≡ Some rest
sent-reads text rest given s = grind (arith, sent-signal)

pub sent-is : (text rest : List ℕ) → behind_sent text ≡ Some rest → Found IsSent text rest
sent-is text rest e =
    elim (either (behind (codes "mark") text)
    (first_of (behind (codes "flags") text) (first_of (behind (codes "none") text) (behind_signal text))) rest e) [
      | inl a ↦ (codes "mark", mark refl, behind-is (codes "mark") text rest a)
      | inr b ↦ elim (either (behind (codes "flags") text) (first_of (behind (codes "none") text) (behind_signal text)) rest b) [
        | inl a ↦ (codes "flags", flags refl, behind-is (codes "flags") text rest a)
        | inr c ↦ elim (either (behind (codes "none") text) (behind_signal text) rest c) [
          | inl a ↦ (codes "none", none refl, behind-is (codes "none") text rest a)
          | inr d ↦ let p = signal-is text rest d in (p.0, signal p.1, p.2)
        ]
      ]
    ]

-- ---- lengths

length-kind : (command : Bool) → length (kind_word command) ≤ 4
length-kind command = grind (arith)

length-number : (label : List ℕ) (n : ℕ) → n < count_bound → length (number_word label n) ≤ length label + 13
length-number label n h = omega (
  arith,
  length-append {A = ℕ} label (decimal n),
  length-decimal-le 13 n (omega arith) (omega (arith, h)) (omega (arith, h)),
)

length-break : (label : List ℕ) (number units : ℕ) → number < 2 → units < 256 → length label ≤ 8
    → length (number_word label number ++ number_word (codes " ") units) ≤ 35
length-break label number units h k l = omega (
  arith,
  length-append {A = ℕ} (number_word label number) (number_word (codes " ") units),
  length-number label number (omega (arith, h)),
  length-number (codes " ") units (omega (arith, k)),
)

length-information : (word : Option BreakWord) (n : ℕ) → IfSome word IsBreak → n < count_bound → length (information_word word n) ≤ 35
length-information None n w h = omega (arith, length-number (codes " n=") n h)
length-information (Some (Brk number units)) n w h = length-break (codes " brk ") number units w.0 w.1 (omega arith)
length-information (Some (Ack number units)) n w h = length-break (codes " brkack ") number units w.0 w.1 (omega arith)

two : (a b : List ℕ) (m n : ℕ) → length a ≤ m → length b ≤ n → length (a ++ b) ≤ m + n
two a b m n h k = omega (arith, length-append {A = ℕ} a b)

length-shape : (shape : Shape) (w : FrameWords) → AreInRange w → length (shape_text shape w) ≤ 52
length-shape Numbered w r =
    two (number_word (codes " s=") w.ns) (number_word (codes " r=") w.nr ++ (poll_word w.pf ++ count_word w.count)) 16 36
    (length-number (codes " s=") w.ns (omega (arith, r.ns)))
    (two (number_word (codes " r=") w.nr) (poll_word w.pf ++ count_word w.count) 16 20
    (length-number (codes " r=") w.nr (omega (arith, r.nr)))
    (two (poll_word w.pf) (count_word w.count) 4 16 (short-poll w.pf) (length-number (codes " n=") w.count r.count)))
length-shape Supervisory w r =
    let l = two (kind_word w.command) (number_word (codes " r=") w.nr ++ poll_word w.pf) 4 20 (length-kind w.command)
    (two (number_word (codes " r=") w.nr) (poll_word w.pf) 16 4 (length-number (codes " r=") w.nr (omega (arith, r.nr))) (short-poll w.pf))
    in
    omega (arith, l)
length-shape Commanding w r = let l = two (kind_word true) (poll_word w.pf) 4 4 (length-kind true) (short-poll w.pf) in omega (arith, l)
length-shape Responding w r = let l = two (kind_word false) (poll_word w.pf) 4 4 (length-kind false) (short-poll w.pf) in omega (arith, l)
length-shape Rejecting w r =
    let l = two (kind_word false) (poll_word w.pf ++ count_word w.count) 4 20 (length-kind false)
    (two (poll_word w.pf) (count_word w.count) 4 16 (short-poll w.pf) (length-number (codes " n=") w.count r.count)) in
    omega (arith, l)
length-shape Exchanging w r =
    let l = two (kind_word w.command) (poll_word w.pf ++ count_word w.count) 4 20 (length-kind w.command)
    (two (poll_word w.pf) (count_word w.count) 4 16 (short-poll w.pf) (length-number (codes " n=") w.count r.count)) in
    omega (arith, l)
length-shape Unnumbered w r = grind (arith, two, length-kind, short-poll, length-information)

-- a text has an octet, and not many
abbrev IsShort : ℕ → List ℕ → Type 0
IsShort most text = (1 ≤ length text) × (length text ≤ most)

literal : (text word : List ℕ) (most : ℕ) → text ≡ word → IsShort most word → IsShort most text
literal text word most e h = subst (IsShort most) (sym e) h

frame-short : (text : List ℕ) → IsFrameText text → IsShort 57 text
frame-short text f = grind (arith, short-name, length-append, length-shape, literal)

signal-short : (text : List ℕ) → IsSignal text → IsShort 57 text
signal-short text given = grind (arith, literal, frame-short)

pub heard-short : (text : List ℕ) → IsHeard text → IsShort 62 text
heard-short text given = grind (arith, literal, signal-short, length-append)

pub sent-short : (text : List ℕ) → IsSent text → IsShort 57 text
sent-short text given = grind (arith, literal, signal-short)
