-- How many octets of information the frames have that an end says: those of a segment that it was offered, or few.
use Rattle.link_run.proofs.Names.{◌≡◌, ℕ, zero, suc, ◌≤◌, Bool, List, [], ◌∷◌, length, slice_index_or, arith, Ok, Frame, Account, Said}
use Rattle.link_run.proofs.Names.{speak, frame_for, ready_frame, Steps, Ways, by-ways, linked-alike, tries-alike, Answer}
use Rattle.link_account.proofs.Names.{BreakWord}
use Rattle.lapm_frames.specs.Frame.{information_of}
use Rattle.break_signals.specs.Words.{spelled}
use Rattle.link_run.proofs.Knowing.{OnSent}

-- lists of at most so many octets
abbrev pub AllShort : ℕ → List (List ℕ) → Type 0
AllShort n [] = Unit {0}
AllShort n (p ∷ ps) = (length p ≤ n) × AllShort n ps

pub short-at : (n : ℕ) (ps : List (List ℕ)) (i : ℕ) → AllShort n ps → length (slice_index_or ps i []) ≤ n
short-at n [] i h = omega arith
short-at n (p ∷ ps) zero h = h.0
short-at n (p ∷ ps) (suc i) h = short-at n ps i h.1

abbrev pub ShortFrame : ℕ → Frame → Type 0
ShortFrame n frame = length (information_of frame) ≤ n

module _ (n : ℕ) (l : 23 ≤ n) where
  -- what is said, of at most n octets of information
  abbrev IsShort : Said → Type 0
  IsShort said = OnSent (ShortFrame n) said.sent

  answer : (d : Answer) (a : Account) → OnSent (ShortFrame n) (frame_for d a)
  answer d a = grind (arith)

  ready : (busy command pf : Bool) (nr : ℕ) → ShortFrame n (ready_frame busy command nr pf)
  ready busy command pf nr = grind (arith)

  word : (w : BreakWord) → length (spelled w) ≤ n
  word x = grind (arith)

  steps : (turn : ℕ) (special : Bool) (a : Account) → AllShort n a.outgoing.pieces → Steps IsShort turn special a
  steps turn special a h = grind (arith, answer, ready, short-at, word)

  ways : (turn : ℕ) (release : Bool) (a : Account) → AllShort n a.outgoing.pieces → Ways IsShort turn release a
  ways turn release a h = record {
    answers = λ alone d e. answer d a;
    flags = λ alone e. tt;
    mark = λ p r e. tt;
    odp = λ p r e. tt;
    xid = λ p r. tries-alike _ _ _ _ (λ w. l) tt;
    sabme = λ p. tries-alike _ _ _ _ (λ w. omega arith) tt;
    linked = λ p r. linked-alike _ _ a (λ count awaited w own. steps turn a.special _ h);
    releases = λ p r. tries-alike _ _ _ _ (λ w. omega arith) tt;
    disc = λ p. tries-alike _ _ _ _ (λ w. omega arith) tt;
  }

-- what an end says has at most n octets of information, where its segments have
pub said-short : (n : ℕ) → 23 ≤ n → (turn : ℕ) (release : Bool) (a : Account) (said : Said) → AllShort n a.outgoing.pieces
    → speak turn release a ≡ Ok said → OnSent (ShortFrame n) said.sent
said-short n l turn release a said h e = by-ways _ turn release a (ways n l turn release a h) said e
