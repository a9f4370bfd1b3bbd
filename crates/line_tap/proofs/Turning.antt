-- What a turn of a tap comes to, at each of its ways out.
use Rattle.line_tap.proofs.Cited.{◌≡◌, inl, inr, ℕ, ◌+◌, ◌*◌, ◌^◌, ◌<◌, ◌≤◌, IsTrue, List, [], ◌∷◌, ◌++◌, length, take, arith, min}
use Rattle.line_tap.proofs.Cited.{length-append, refl, sym, ◌∙◌, ap, subst, append-nil, None, Result, Ok, Err, length-take, HEAD, TAIL}
use Rattle.line_tap.proofs.Cited.{ReadTo, Stop, Heard, KeepsTaken, Left, Slot, IsIdle, EndsLine, Leaves, LastHears, IsFirstRefused}
use Rattle.line_tap.proofs.Cited.{TapNames, recording_of, inputs_of, outputs_of, AreReadTo, AreReadOut, HearsThese, HearsSo, InTurn}
use Rattle.line_tap.proofs.Cited.{silent_in, EndsInTurn, EndsReading, StopsInTurn, StopsReadingIn, IsBehind, IsReady, IsToGo, TapAfter}
use Rattle.line_tap.proofs.Cited.{GoesOnBy, going_in, Tapping, tapping, line_of, octets_of, Tells, left_of, added, AddsGot, Hearing, Tap}
use Rattle.line_tap.proofs.Cited.{chance_line, held_of, Turn, IsSilent, trace_text, turn_text, OnlyPuts-trans, OnlyPuts-one}
use Rattle.line_tap.proofs.Cited.{KeepsEach-reads, inputs-kept, AddPart-next, FolderState, OnlyReads, OnlyWrites, Appended, PartlyAppended}
use Rattle.line_tap.proofs.Cited.{octets_at, AreApartFrom, KeepsEach, OnlyPuts, header_of, HEADER, mode_of, Both, of, Role, Originator}
use Rattle.line_tap.proofs.Cited.{Answerer}
use Rattle.std.proofs.Common.{append_assoc}
use Rattle.outside_calls.specs.Folder.{GoesOn}
use Rattle.outside_calls.specs.Outputs.{AddEach, AddPart}
use Rattle.outside_calls.proofs.Steps.{GoesOn-trans, KeepsName-trans}
use Rattle.outside_calls.proofs.Putting.{OnlyPuts-reads, AddEach-kept}
use Rattle.outside_calls.proofs.Putting.{AddPart-longer}
use Rattle.line_run.specs.Sampled as lines
use Rattle.line_tap.specs.Ends as ends
use Rattle.line_tap.specs.declared.limits.TheConstants.{TAP_LIMIT}
use Rattle.line_tap.specs.declared.step.TapStep.{TapStep}
use Rattle.line_tap.specs.declared.step.TapStep.TheVariants.{Going, Done}
use Rattle.line_tap.specs.Tap.{HearsTurn, HasHeard, got_pieces}
use Rattle.line_tap.specs.Tap.{HasReadPieces, HaveRead}
use Rattle.line_tap.specs.Tap.{and_pieces, read_of}
use Rattle.line_tap.proofs.Longer.{tells-longer, got-more}
use Rattle.line_tap.proofs.HeardSo.{SameReading, few-turns}
use Rattle.line_tap.proofs.Going.{hears-so, goes-on}
use Rattle.line_tap.proofs.SlotNext.{octets-next}

-- ---- what was read stays read

kept-to : (start a b : FolderState) (name : List ℕ) (at : ℕ) (octets : List ℕ) → ReadTo start a name TAP_LIMIT at octets → GoesOn a b
    → KeepsEach a b (name ∷ []) → ReadTo start b name TAP_LIMIT at octets
kept-to start a b name at octets h on k = assumption (GoesOn-trans h.goes_on on, KeepsName-trans start a b name h.goes_on h.kept k.0)

kept-of : (a b : FolderState) (n : TapNames) → KeepsEach a b (inputs_of n) → (role : Role) → KeepsEach a b (recording_of role n ∷ [])
kept-of a b n k role = grind (arith)

pub read-later : (start a b : FolderState) (n : TapNames) (bodies : Both (List ℕ)) → AreApartFrom (inputs_of n) (outputs_of n)
    → OnlyPuts a b (outputs_of n) → AreReadTo start a n bodies → AreReadTo start b n bodies
read-later start a b n bodies apart only h role =
    kept-to start a b (recording_of role n) _ _ (h role) only.goes_on
    (kept-of a b n (inputs-kept a b (inputs_of n) (outputs_of n) apart.1 only.names) role)

pub read-still : (start a b : FolderState) (n : TapNames) (bodies : Both (List ℕ)) → OnlyReads a b → AreReadTo start a n bodies
    → AreReadTo start b n bodies
read-still start a b n bodies reads h role =
    kept-to start a b (recording_of role n) _ _ (h role) reads.goes_on (kept-of a b n (KeepsEach-reads a b (inputs_of n) reads) role)

-- ---- pieces that were read

-- so much was read of each recording in a call
pub record ReadsPieces (start a b : FolderState) (n : TapNames) (at : ℕ) (orig answ : ℕ) (of_orig of_answ : List ℕ) : Type 0 where
  pub reads_orig : (octets : List ℕ) → ReadTo start a n.rec_o TAP_LIMIT at octets
      → ReadTo start b n.rec_o TAP_LIMIT (at + orig) (octets ++ take orig of_orig)
  pub reads_answ : (octets : List ℕ) → ReadTo start a n.rec_a TAP_LIMIT at octets
      → ReadTo start b n.rec_a TAP_LIMIT (at + answ) (octets ++ take answ of_answ)
  pub end_orig : (octets : List ℕ) → ReadTo start a n.rec_o TAP_LIMIT at octets → orig < length of_orig → IsTrue (start.tells n.rec_o)
      → octets ++ take orig of_orig ≡ octets_at start n.rec_o
  pub end_answ : (octets : List ℕ) → ReadTo start a n.rec_a TAP_LIMIT at octets → answ < length of_answ → IsTrue (start.tells n.rec_a)
      → octets ++ take answ of_answ ≡ octets_at start n.rec_a
  pub few_orig : orig ≤ length of_orig
  pub few_answ : answ ≤ length of_answ

abbrev read_pieces_of : Both (List ℕ) → ℕ → ℕ → List ℕ → List ℕ → Both (List ℕ)
read_pieces_of bodies orig answ of_orig of_answ = and_pieces bodies (take orig of_orig) (take answ of_answ)

-- how long a body is with what was read of a piece
read-length : (body piece : List ℕ) (count : ℕ) → length (body ++ take count piece) ≡ length body + min count (length piece)
read-length body piece count = omega (arith, length-append {A = ℕ} body (take count piece), length-take count piece)

read-so : (start b : FolderState) (name header body piece : List ℕ) (at count : ℕ) → at ≡ HEADER + length body → count ≤ length piece
    → ReadTo start b name TAP_LIMIT (at + count) ((header ++ body) ++ take count piece)
    → ReadTo start b name TAP_LIMIT (HEADER + length (body ++ take count piece)) (header ++ (body ++ take count piece))
read-so start b name header body piece at count e few h = grind (arith, read-length, append_assoc)

pub read-on : (start a b : FolderState) (n : TapNames) (bodies : Both (List ℕ)) (at orig answ : ℕ) (of_orig of_answ : List ℕ)
    → at ≡ HEADER + length bodies.orig → at ≡ HEADER + length bodies.answ → AreReadTo start a n bodies
    → ReadsPieces start a b n at orig answ of_orig of_answ → AreReadTo start b n (read_pieces_of bodies orig answ of_orig of_answ)
read-on start a b n bodies at orig answ of_orig of_answ eo ea h r Originator =
    read-so start b n.rec_o (header_of (mode_of Originator)) bodies.orig of_orig at orig eo r.few_orig
    (r.reads_orig _ (subst (λ m. ReadTo start a n.rec_o TAP_LIMIT m (header_of (mode_of Originator) ++ bodies.orig)) (sym eo)
    (h Originator)))
read-on start a b n bodies at orig answ of_orig of_answ eo ea h r Answerer =
    read-so start b n.rec_a (header_of (mode_of Answerer)) bodies.answ of_answ at answ ea r.few_answ
    (r.reads_answ _ (subst (λ m. ReadTo start a n.rec_a TAP_LIMIT m (header_of (mode_of Answerer) ++ bodies.answ)) (sym ea) (h Answerer)))

out-so : (start a : FolderState) (name header body piece : List ℕ) (at count : ℕ) → at ≡ HEADER + length body
    → ((l : List ℕ) → ReadTo start a name TAP_LIMIT at l → count < length piece → IsTrue (start.tells name)
    → l ++ take count piece ≡ octets_at start name)
    → ReadTo start a name TAP_LIMIT (HEADER + length body) (header ++ body) → count < length piece → IsTrue (start.tells name)
    → header ++ (body ++ take count piece) ≡ octets_at start name
out-so start a name header body piece at count e ends h less told = grind (arith, append_assoc)

-- where less than a slot was read the recording was read to its end
pub read-out : (start a b : FolderState) (n : TapNames) (x : Tapping) (ts : List Turn) (at orig answ : ℕ) (of_orig of_answ : List ℕ)
    → at ≡ HEADER + length x.bodies.orig → at ≡ HEADER + length x.bodies.answ → AreReadTo start a n x.bodies
    → ReadsPieces start a b n at orig answ of_orig of_answ → ((role : Role) → length (of role x.bodies) ≡ octets_of (line_of x) (length ts))
    → length of_orig ≡ 4 * (line_of x).symbols → length of_answ ≡ 4 * (line_of x).symbols
    → AreReadOut start n (tapping x.script (read_pieces_of x.bodies orig answ of_orig of_answ)) ts
read-out start a b n x ts at orig answ of_orig of_answ eo ea h r count ro ra Originator less told =
    out-so start a n.rec_o (header_of (mode_of Originator)) x.bodies.orig of_orig at orig eo r.end_orig (h Originator) (omega (
      arith,
      less,
      r.few_orig,
      count Originator,
      ro,
      octets-next (line_of x) (length ts),
      read-length x.bodies.orig of_orig orig,
    )) told
read-out start a b n x ts at orig answ of_orig of_answ eo ea h r count ro ra Answerer less told =
    out-so start a n.rec_a (header_of (mode_of Answerer)) x.bodies.answ of_answ at answ ea r.end_answ (h Answerer) (omega (
      arith,
      less,
      r.few_answ,
      count Answerer,
      ra,
      octets-next (line_of x) (length ts),
      read-length x.bodies.answ of_answ answ,
    )) told

-- ---- what is left

-- what the turns left, and what this turn adds behind it
abbrev pub joined_left : Tapping → List Turn → Left → Left
joined_left x ts more = record {
  got = record {
    orig = (left_of x ts []).got.orig ++ more.got.orig;
    answ = (left_of x ts []).got.answ ++ more.got.answ;
  };
  trace = trace_text ts ++ more.trace;
}

-- nothing is added
abbrev pub nothing : List ℕ → Left
nothing text = record { got = record { orig = []; answ = [] }; trace = text }

pub leaves-none : (x : Tapping) (ts : List Turn) (text : List ℕ) → Leaves x ts (trace_text ts ++ text) (joined_left x ts (nothing text))
leaves-none x ts text = grind (arith, append-nil)

pub leaves-turn : KeepsTaken → (x : Tapping) (ts : List Turn) (t : Turn) (text : List ℕ)
    → Leaves x (t ∷ ts) (trace_text ts ++ text) (joined_left x ts (added x ts t text))
leaves-turn law x ts t text = grind (arith, got-more)

-- a text by another name
with-text : (x : Tapping) (ts : List Turn) (text others : List ℕ) (left : Left) → text ≡ others → Leaves x ts text left
    → Leaves x ts others left
with-text x ts text others left e h = record { got_is = h.got_is; trace_is = h.trace_is ∙ e }

-- ---- the line ends the reading

pub add-nothing : (a : FolderState) (n : TapNames) → AddEach a a (outputs_of n) (held_of (nothing []))
add-nothing a n = (inl (refl, λ told. refl), (inl (refl, λ told. refl), (inl (refl, λ told. refl), tt)))

pub loses-line : (start a : FolderState) (n : TapNames) (x : Tapping) (ts : List Turn) (role : Role) (symbol : ℕ) → Tells x ts
    → AreReadTo start a n x.bodies → EndsLine x ts (lines.LineLost role symbol) → EndsInTurn start a a n x ts (ends.LineLost role symbol)
loses-line start a n x ts role symbol tells read e = record {
  others = x.bodies;
  read = read;
  tells = tells;
  more = nothing [];
  ended = record {
    is = e;
    leaves = with-text x ts (trace_text ts ++ []) (trace_text ts) (joined_left x ts (nothing [])) (append-nil (trace_text ts))
        (leaves-none x ts []);
  };
  writes = add-nothing a n;
}

pub meets-chance : (start a b : FolderState) (n : TapNames) (x : Tapping) (ts : List Turn) (role : Role) (number : ℕ)
    → AreApartFrom (inputs_of n) (outputs_of n) → Tells x ts → AreReadTo start a n x.bodies → EndsLine x ts (lines.ChanceMatch role)
    → number ≡ length ts → OnlyWrites a b n.trace → Appended a b n.trace (chance_line number role)
    → EndsInTurn start a b n x ts (ends.ChanceMatch role number)
meets-chance start a b n x ts role number apart tells read e same w put = record {
  others = x.bodies;
  read = read-later start a b n x.bodies apart (OnlyPuts-one a b (n.got_o ∷ n.got_a ∷ []) n.trace [] w) read;
  tells = tells;
  more = nothing (chance_line (length ts) role);
  ended = (same, record { is = e; leaves = leaves-none x ts (chance_line (length ts) role) });
  writes = (
    inl (refl, w.names n.got_o (apart.0.0.1.0)),
    (inl (refl, w.names n.got_a (apart.0.1.0.0)), (inr (subst (λ m. Appended a b n.trace (chance_line m role)) same put), tt)),
  );
}

pub stops-at-chance : (start a b : FolderState) (n : TapNames) (x : Tapping) (ts : List Turn) (role : Role) (number : ℕ)
    → AreApartFrom (inputs_of n) (outputs_of n) → Tells x ts → AreReadTo start a n x.bodies → EndsLine x ts (lines.ChanceMatch role)
    → number ≡ length ts → OnlyWrites a b n.trace → PartlyAppended a b n.trace (chance_line number role) → StopsInTurn start a b n x ts
stops-at-chance start a b n x ts role number apart tells read e same w part = record {
  others = x.bodies;
  read = read-later start a b n x.bodies apart (OnlyPuts-one a b (n.got_o ∷ n.got_a ∷ []) n.trace [] w) read;
  tells = tells;
  more = nothing (chance_line (length ts) role);
  adds = inr (inr (record { role = role; ends = e; is = refl }));
  writes = inr (
    inl (refl, w.names n.got_o (apart.0.0.1.0)),
    inr (
      inl (refl, w.names n.got_a (apart.0.1.0.0)),
      inl (subst (λ m. PartlyAppended a b n.trace (chance_line m role)) same part, tt),
    ),
  );
}

-- ---- what both ends took isn't delivered, or a recording isn't read

pub adds-got : (x : Tapping) (ts : List Turn) (heard : Both Heard) → HearsThese x ts heard
    → AddsGot x ts (added x ts (silent_in x ts heard) [])
adds-got x ts heard h = record {
  turn = silent_in x ts heard;
  hears = hears-so x ts heard (record { orig = None; answ = None }) h;
  is = refl;
}

pub stops-delivering : (start a b : FolderState) (n : TapNames) (x : Tapping) (ts : List Turn) (heard : Both Heard)
    → AreApartFrom (inputs_of n) (outputs_of n) → Tells x ts → AreReadTo start a n x.bodies → HearsThese x ts heard
    → OnlyPuts a b (outputs_of n) → AddPart a b (outputs_of n) (got_pieces x ts heard) → StopsInTurn start a b n x ts
stops-delivering start a b n x ts heard apart tells read h only part = record {
  others = x.bodies;
  read = read-later start a b n x.bodies apart only read;
  tells = tells;
  more = added x ts (silent_in x ts heard) [];
  adds = inl (adds-got x ts heard h);
  writes = AddPart-longer a b (outputs_of n) (got_pieces x ts heard) ([] ∷ []) part;
}

pub stops-reading : (start a b c : FolderState) (n : TapNames) (x : Tapping) (ts : List Turn) (heard : Both Heard)
    → AreApartFrom (inputs_of n) (outputs_of n) → Tells x ts → AreReadTo start a n x.bodies → HearsThese x ts heard
    → OnlyPuts a b (outputs_of n) → AddEach a b (outputs_of n) (got_pieces x ts heard) → OnlyReads b c → StopsReadingIn start a c n x ts
stops-reading start a b c n x ts heard apart tells read h only put reads = record {
  others = x.bodies;
  read = read-still start b c n x.bodies reads (read-later start a b n x.bodies apart only read);
  tells = tells;
  more = added x ts (silent_in x ts heard) [];
  adds = adds-got x ts heard h;
  writes = AddEach-kept a b c (outputs_of n) (got_pieces x ts heard) only.goes_on put (KeepsEach-reads b c (outputs_of n) reads);
}

-- ---- both pieces were read

-- The turn was heard, what both ends took is delivered, and both pieces were read.
pub record HasPieces (tap : Tap) (start a b c : FolderState) (n : TapNames) (x : Tapping) (ts : List Turn) (h : Hearing) (counts : Both ℕ) :
    Type 0 where
  pub apart : AreApartFrom (inputs_of n) (outputs_of n)
  pub hears : HearsSo x ts h
  pub only : OnlyPuts a b (outputs_of n)
  pub put : AddEach a b (outputs_of n) (got_pieces x ts h.heard)
  pub reads : OnlyReads b c
  pub pieces : HasReadPieces tap start c n x ts h.heard counts

pub so-heard : (tap : Tap) (x : Tapping) (ts : List Turn) (h : Hearing) → HearsTurn tap x ts (Ok h) → HearsSo x ts h
so-heard tap x ts h k = record { hears = k.0.hears; orig = k.1; answ = k.2 }

-- by what the calls of a turn say up to there
pub has-pieces : (heard mid tap : Tap) (start a b c : FolderState) (n : TapNames) (x : Tapping) (ts : List Turn) (h : Hearing)
    (counts : Both ℕ) → AreApartFrom (inputs_of n) (outputs_of n) → AreReadTo start a n x.bodies → HearsTurn heard x ts (Ok h)
    → OnlyPuts a b (outputs_of n) → OnlyReads b c → (HasHeard heard x ts h.heard → AddEach a b (outputs_of n) (got_pieces x ts h.heard))
    → (HasHeard heard x ts h.heard → InTurn mid x ts h.heard)
    → (InTurn mid x ts h.heard → AreReadTo start b n x.bodies → HasReadPieces tap start c n x ts h.heard counts)
    → HasPieces tap start a b c n x ts h counts
has-pieces heard mid tap start a b c n x ts h counts apart read k only reads put stands pieces = record {
  apart = apart;
  hears = so-heard heard x ts h k;
  only = only;
  put = put k.0;
  reads = reads;
  pieces = pieces (stands k.0) (read-later start a b n x.bodies apart only read);
}

abbrev pub now_of : Tap → Tapping → Both ℕ → Tapping
now_of tap x counts = tapping x.script (read_of tap x counts)

has-count : (tap : Tap) (x : Tapping) (ts : List Turn) → IsBehind tap x ts → (role : Role)
    → length (of role x.bodies) ≡ octets_of (line_of x) (length ts)
has-count tap x ts h role = grind (arith)

at-count : (tap : Tap) (x : Tapping) (ts : List Turn) → IsBehind tap x ts → (body : List ℕ)
    → length body ≡ octets_of (line_of x) (length ts) → tap.at ≡ HEADER + length body
at-count tap x ts h body count = h.at ∙ ap (λ n. HEADER + n) (sym count)

pub read-turn : (old new : Tap) (x : Tapping) (ts : List Turn) (heard : Both Heard) → SameReading old new
    → new.orig.listener ≡ old.orig.listener → new.answ.listener ≡ old.answ.listener → new.lines ≡ old.lines → InTurn old x ts heard
    → InTurn new x ts heard
read-turn old new x ts heard same o a l h = grind (arith)

pub has-read-pieces : (old new : Tap) (start b c : FolderState) (n : TapNames) (x : Tapping) (ts : List Turn) (heard : Both Heard)
    (counts : Both ℕ) → InTurn old x ts heard → InTurn new x ts heard → new.at ≡ old.at → AreReadTo start b n x.bodies
    → ReadsPieces start b c n old.at counts.orig counts.answ new.orig.piece.items new.answ.piece.items
    → HasReadPieces new start c n x ts heard counts
has-read-pieces old new start b c n x ts heard counts h k same read p =
    let eo = at-count old x ts h.behind x.bodies.orig h.behind.orig.count in
    let ea = at-count old x ts h.behind x.bodies.answ h.behind.answ.count in
    record {
      turn = k;
      read = read-on start b c n x.bodies old.at counts.orig counts.answ new.orig.piece.items new.answ.piece.items eo ea read p;
      out = read-out start b c n x ts old.at counts.orig counts.answ new.orig.piece.items new.answ.piece.items eo ea read p
          (has-count old x ts h.behind) k.behind.orig_room k.behind.answ_room;
      few_orig = p.few_orig;
      few_answ = p.few_answ;
    }

hears-now : (tap : Tap) (x : Tapping) (ts : List Turn) (h : Hearing) (counts : Both ℕ) → HearsSo x ts h → HearsSo (now_of tap x counts) ts h
hears-now tap x ts h counts k = grind (arith)

tells-now : (tap : Tap) (x : Tapping) (ts : List Turn) (counts : Both ℕ) → Tells x ts → Tells (now_of tap x counts) ts
tells-now tap x ts counts h =
    tells-longer x (record { orig = take counts.orig tap.orig.piece.items; answ = take counts.answ tap.answ.piece.items }) ts h

goes-on-to : (a b c : FolderState) (n : TapNames) → OnlyPuts a b (outputs_of n) → OnlyReads b c → GoesOn a c
goes-on-to a b c n p r = GoesOn-trans p.goes_on r.goes_on

put-still : (tap : Tap) (start a b c : FolderState) (n : TapNames) (x : Tapping) (ts : List Turn) (h : Hearing) (counts : Both ℕ)
    → HasPieces tap start a b c n x ts h counts → AddEach a c (outputs_of n) (got_pieces x ts h.heard)
put-still tap start a b c n x ts h counts k = grind (arith)

-- ---- nothing was read

silent : (x : Tapping) (ts : List Turn) (heard : Both Heard) → IsSilent (silent_in x ts heard)
silent x ts heard b = grind (arith)

last-hears : (x : Tapping) (ts : List Turn) (h : Hearing) → HearsSo x ts h → LastHears x ts
last-hears x ts h k = record {
  last = silent_in x ts h.heard;
  hears = hears-so x ts h.heard (record { orig = None; answ = None }) k.hears;
  silent = silent x ts h.heard;
}

none-more : (tap : Tap) (x : Tapping) (ts : List Turn) (counts : Both ℕ) → IsBehind tap x ts → counts.orig ≡ 0 → counts.answ ≡ 0
    → (role : Role) → length (of role (read_of tap x counts)) ≤ octets_of (line_of x) (length ts)
none-more tap x ts counts h eo ea role = grind (arith, read-length)

-- ---- a slot is refused

some-more : (tap : Tap) (x : Tapping) (ts : List Turn) (counts : Both ℕ) → IsBehind tap x ts → counts.orig ≤ length tap.orig.piece.items
    → counts.answ ≤ length tap.answ.piece.items → (counts.orig ≡ 0 → counts.answ ≡ 0 → ⊥)
    → (side : Role) × (octets_of (line_of x) (length ts) < length (of side (read_of tap x counts)))
some-more tap x ts counts h fo fa some = grind (arith, read-length)

pub ends-badly : KeepsTaken → (tap : Tap) (start a b c : FolderState) (n : TapNames) (x : Tapping) (ts : List Turn) (h : Hearing)
    (counts : Both ℕ)
    (role : Role) (number : ℕ) → HasPieces tap start a b c n x ts h counts → (counts.orig ≡ 0 → counts.answ ≡ 0 → ⊥) → number ≡ length ts
    → IsFirstRefused (now_of tap x counts) ts role → EndsReading start a c n x ts (ends.BadTap role number)
unfolding last-hears
ends-badly law tap start a b c n x ts h counts role number k some same refused =
    let t : Turn = silent_in x ts h.heard in
    let y : Tapping = now_of tap x counts in (
      record {
        others = read_of tap x counts;
        read = k.pieces.read;
        tells = tells-now tap x ts counts k.pieces.turn.behind.tells;
        more = added x ts t [];
        ended = record {
          number = same;
          last = last-hears y ts h (hears-now tap x ts h counts k.hears);
          some = some-more tap x ts counts k.pieces.turn.behind k.pieces.few_orig k.pieces.few_answ some;
          refused = refused;
          leaves = with-text y (t ∷ ts) (trace_text ts ++ []) (trace_text ts) (joined_left y ts (added y ts t []))
              (append-nil (trace_text ts)) (leaves-turn law y ts t []);
        };
        writes = add-none a c n (added x ts t []) (put-still tap start a b c n x ts h counts k);
      },
      k.pieces.out,
    )
  where
    add-none : (a c : FolderState) (n : TapNames) (more : Left) → AddEach a c (outputs_of n) (more.got.orig ∷ more.got.answ ∷ [])
        → AddEach a c (outputs_of n) (more.got.orig ∷ more.got.answ ∷ [] ∷ [])
    add-none a c n more p = (p.0, (p.1.0, (inl (refl, p.1.1.0), tt)))

-- ---- both slots were read

pub to-go : (tap new : Tap) (x : Tapping) (ts : List Turn) (h : Hearing) (counts : Both ℕ) (slots : Both Slot)
    → InTurn tap x ts h.heard → HearsSo x ts h → HaveRead new (now_of tap x counts) ts slots → new.script ≡ tap.script → new.turn ≡ tap.turn
    → new.at ≡ tap.at → new.orig.listener ≡ tap.orig.listener → new.answ.listener ≡ tap.answ.listener → new.orig.piece ≡ tap.orig.piece
    → new.answ.piece ≡ tap.answ.piece → IsToGo new (now_of tap x counts) ts h slots
to-go tap new x ts h counts slots k so read script turn at lo la po pa = record {
  script_is = script ∙ k.behind.script_is;
  tells = tells-now tap x ts counts k.behind.tells;
  turn = turn ∙ k.behind.turn;
  at = at ∙ k.behind.at;
  hears = hears-now tap x ts h counts so;
  orig = rw lo k.orig;
  answ = rw la k.answ;
  read = read;
  orig_room = rw po k.behind.orig_room;
  answ_room = rw pa k.behind.answ_room;
}

module _ (tap : Tap) (start a b c d : FolderState) (n : TapNames) (x : Tapping) (ts : List Turn) (h : Hearing) (counts : Both ℕ)
    (k : HasPieces tap start a b c n x ts h counts) (w : OnlyWrites c d n.trace) where
  -- and the lines are written, or a part of them
  put-lines : (text : List ℕ) → Appended c d n.trace text → AddEach a d (outputs_of n) (held_of (added x ts (silent_in x ts h.heard) text))
  put-lines text put = grind (arith)

  part-lines : (text : List ℕ) → PartlyAppended c d n.trace text
      → AddPart a d (outputs_of n) (held_of (added x ts (silent_in x ts h.heard) text))
  part-lines text part =
      AddPart-next a c d (n.got_o ∷ n.got_a ∷ []) n.trace [] (got_pieces x ts h.heard) text tt k.apart.0 (goes-on-to a b c n k.only k.reads)
      (put-still tap start a b c n x ts h counts k) w part

  pub ends-whole : KeepsTaken → (turns : ℕ) → counts.orig ≡ 0 → counts.answ ≡ 0 → turns ≡ length ts + 1
      → Appended c d n.trace (turn_text (length ts) (silent_in x ts h.heard)) → EndsReading start a d n x ts (ends.IsDone turns)
  unfolding last-hears
  ends-whole law turns eo ea number put =
      let t : Turn = silent_in x ts h.heard in
      let y : Tapping = now_of tap x counts in (
        record {
          others = read_of tap x counts;
          read = read-later start c d n (read_of tap x counts) k.apart (OnlyPuts-one c d (n.got_o ∷ n.got_a ∷ []) n.trace [] w)
              k.pieces.read;
          tells = tells-now tap x ts counts k.pieces.turn.behind.tells;
          more = added x ts t (turn_text (length ts) t);
          ended = record {
            number = number;
            last = last-hears y ts h (hears-now tap x ts h counts k.hears);
            none = none-more tap x ts counts k.pieces.turn.behind eo ea;
            leaves = leaves-turn law y ts t (turn_text (length ts) t);
          };
          writes = put-lines (turn_text (length ts) t) put;
        },
        k.pieces.out,
      )

  pub stops-ending : counts.orig ≡ 0 → counts.answ ≡ 0 → PartlyAppended c d n.trace (turn_text (length ts) (silent_in x ts h.heard))
      → StopsInTurn start a d n x ts
  unfolding last-hears
  stops-ending eo ea part =
      let t : Turn = silent_in x ts h.heard in
      let y : Tapping = now_of tap x counts in
      record {
        others = read_of tap x counts;
        read = read-later start c d n (read_of tap x counts) k.apart (OnlyPuts-one c d (n.got_o ∷ n.got_a ∷ []) n.trace [] w) k.pieces.read;
        tells = tells-now tap x ts counts k.pieces.turn.behind.tells;
        more = added x ts t (turn_text (length ts) t);
        adds = inr (inl (
          record {
            turn = t;
            makes = inr (record {
              hears = (last-hears y ts h (hears-now tap x ts h counts k.hears)).hears;
              silent = silent x ts h.heard;
              none = none-more tap x ts counts k.pieces.turn.behind eo ea;
            });
            is = refl;
          },
          k.pieces.out,
        ));
        writes = part-lines (turn_text (length ts) t) part;
      }

  pub goes-on-by : (new : Tap) (slots : Both Slot)
      → TapAfter new (now_of tap x counts) (going_in (now_of tap x counts) ts h.heard slots ∷ ts)
      → Appended c d n.trace (turn_text (length ts) (going_in (now_of tap x counts) ts h.heard slots)) → GoesOnBy new start a d n x ts
  goes-on-by new slots after put = record {
    others = read_of tap x counts;
    read = read-later start c d n (read_of tap x counts) k.apart (OnlyPuts-one c d (n.got_o ∷ n.got_a ∷ []) n.trace [] w) k.pieces.read;
    turn = going_in (now_of tap x counts) ts h.heard slots;
    after = after;
    writes = put-lines (turn_text (length ts) (going_in (now_of tap x counts) ts h.heard slots)) put;
  }

  pub stops-going : (mid : Tap) (slots : Both Slot) → IsToGo mid (now_of tap x counts) ts h slots
      → PartlyAppended c d n.trace (turn_text (length ts) (going_in (now_of tap x counts) ts h.heard slots)) → StopsInTurn start a d n x ts
  stops-going mid slots go part =
      let y : Tapping = now_of tap x counts in
      let t : Turn = going_in y ts h.heard slots in
      record {
        others = read_of tap x counts;
        read = read-later start c d n (read_of tap x counts) k.apart (OnlyPuts-one c d (n.got_o ∷ n.got_a ∷ []) n.trace [] w) k.pieces.read;
        tells = tells-now tap x ts counts k.pieces.turn.behind.tells;
        more = added x ts t (turn_text (length ts) t);
        adds = inr (inl (record { turn = t; makes = inl (goes-on y ts mid h slots go); is = refl }, k.pieces.out));
        writes = part-lines (turn_text (length ts) t) part;
      }

-- a whole slot was read of each recording
pub whole-orig : (tap mid : Tap) (x : Tapping) (ts : List Turn) (h : Hearing) (counts : Both ℕ) (slots : Both Slot)
    → InTurn tap x ts h.heard → counts.orig ≤ length tap.orig.piece.items → IsToGo mid (now_of tap x counts) ts h slots
    → counts.orig ≡ length tap.orig.piece.items
whole-orig tap mid x ts h counts slots k few go = grind (arith, octets-next, read-length)

-- a piece has octets
pub some-octets : (tap new : Tap) (x : Tapping) (ts : List Turn) (heard : Both Heard) → HEAD + TAIL < (line_of x).symbols
    → InTurn tap x ts heard → new.orig.piece ≡ tap.orig.piece → 0 < length new.orig.piece.items
some-octets tap new x ts heard long k same = grind (arith)

-- the tap is ready for the next turn
pub ready-again : (old mid new : Tap) (x : Tapping) (t : Turn) (ts : List Turn) → IsReady old → TapAfter new x (t ∷ ts)
    → new.script ≡ old.script
    → IsIdle mid.orig.listener (old.turn + 1) → IsIdle mid.answ.listener (old.turn + 1) → new.orig.listener ≡ mid.orig.listener
    → new.answ.listener ≡ mid.answ.listener → new.turn ≡ old.turn + 1 → old.at < new.at → new.at ≤ TAP_LIMIT → IsReady new
ready-again old mid new x t ts h after script io ia lo la turn more within = grind (arith)

-- ---- what was touched, and counted

pub only-read : (a b c : FolderState) (n : TapNames) → OnlyPuts a b (outputs_of n) → OnlyReads b c → OnlyPuts a c (outputs_of n)
only-read a b c n p r = OnlyPuts-trans a b c (outputs_of n) p (OnlyPuts-reads b c (outputs_of n) r)

pub only-written : (a b c d : FolderState) (n : TapNames) → OnlyPuts a b (outputs_of n) → OnlyReads b c → OnlyWrites c d n.trace
    → OnlyPuts a d (outputs_of n)
only-written a b c d n p r w = grind (arith, only-read)

-- ---- what stands at each way out

-- an answer that isn't that the reading goes on
pub is-stopped : {stop : Stop} {P : Type 0} → ◌≡◌ {A = Result TapStep Stop} (Err stop) (Ok Going) → P
is-stopped e = absurd cc

pub is-done : {turns : ℕ} {P : Type 0} → ◌≡◌ {A = Result TapStep Stop} (Ok (Done turns)) (Ok Going) → P
is-done e = absurd cc

-- the place and the turn are those before the turn
pub within-still : (old new : Tap) → IsReady old → new.at ≡ old.at → new.at ≤ TAP_LIMIT
within-still old new h same = omega (arith, h.within, same)

pub early-still : (old new : Tap) → IsReady old → new.turn ≡ old.turn → new.turn < 2 ^ 40
early-still old new h same = subst (λ (n : ℕ). n < 2 ^ 40) (sym same) (few-turns old h)

-- the place moves on by a whole piece, and not past the limit
pub nearer-by : (old mid new : Tap) → mid.at ≡ old.at → 0 < length mid.orig.piece.items → new.at ≡ mid.at + length mid.orig.piece.items
    → old.at < new.at
nearer-by old mid new same some moved = omega (arith, same, some, moved)

pub within-by : (tap mid new : Tap) (before count : ℕ) → tap.at ≡ before → mid.at ≡ tap.at → mid.orig.piece ≡ tap.orig.piece
    → count ≡ length tap.orig.piece.items → before + count ≤ TAP_LIMIT → new.at ≡ mid.at + length mid.orig.piece.items → new.at ≤ TAP_LIMIT
within-by tap mid new before count first same piece whole within moved = grind (arith)
