-- What is received in a slot is what was sent in it.
use Rattle.line_run.proofs.Cited.{◌≡◌, ◌∙◌, ℕ, ◌+◌, ◌*◌, ◌<◌, ◌≤◌, Bool, true, false, List, [], ◌∷◌, ◌++◌, length, take, drop, map, refl}
use Rattle.line_run.proofs.Cited.{sym, ap, subst, arith, length-append, append-nil, append_assoc, mul_assoc, mul-suc, take-append_seam}
use Rattle.line_run.proofs.Cited.{length-drop, pieces-stay, Found, pieces_of, FoundIn, wholes, phase_after, slot_bits, Sight, seen_in}
use Rattle.line_run.proofs.Cited.{sights_of, Signal, signal_bits, slot_of, slots_of, IsReleased, line_trellis, Check, spells, SpellsFrame}
use Rattle.line_run.proofs.Cited.{check_for, checked, spelled, IsSendable, Frame, Heard, Chance, Seen, Sent, first-stay, four-each}
use Rattle.line_run.proofs.Cited.{Demodulates, AreFit, ChecksAgree, octets_in, patterns_in, unhindered, ScriptValue, recordings-grow}
use Rattle.line_run.proofs.Cited.{tap-some, slot-added, Kept, Passes, PassesSlot, bits_behind, sender_of, size_of, mode_of, IsOutcome}
use Rattle.line_run.proofs.Cited.{Receives, Records, signal_of, tap_of, Role, Sample}
use Rattle.std.proofs.Common.{replicate, Ok, Err, Result}
use Rattle.std.proofs.lemmas.List.{take-append-drop}
use Rattle.std.proofs.lemmas.List.Elements.{All-replicate}
use Rattle.scramblers.proofs.Readings.{Descrambles_once}
use Rattle.exact_decoder.proofs.Surviving.Least.{some-released}
use Rattle.exact_decoder.specs.declared.decoder.Lost.{Lost}
use Rattle.exact_decoder.proofs.Surviving.V32.{line-has-laws}
use Rattle.line_coding.specs.Demodulates.{line_of}
use Rattle.lapm_frames.specs.declared.seen.Seen.TheVariants as seen
use Rattle.frame_check.specs.Division.{with_check}
use Rattle.lapm_frames.specs.declared.sent.Sent.TheVariants as sent
use Rattle.sample_line.specs.Outcomes.{IsPattern}
use Rattle.sample_line.specs.Received.{PassTheCheck, FoundBetween, Gives}
use Rattle.sample_line.proofs.Once.{given-stays, outcome-once, received-once, same-behind}
use Rattle.line_run.proofs.Patterns.{AreSeen}
use Rattle.line_run.proofs.Fits.{fit-front, length-fit}
use Rattle.line_run.proofs.Settled.{Lags, LeavesTime, settled-all, settled-finds, slot-adds}
use Rattle.line_run.proofs.Following.{Follows, none-within}
use Rattle.line_run.proofs.Undisplaced.{carried}
use Rattle.bit_stuffing.proofs.Sent.{wholes-append}

-- the labels that the samples release carry the first of the bits
released-carry : (lag : ℕ) (script : ScriptValue) (sender : Role) (count : ℕ) (bits : List Bool) (samples : List Sample) (labels : List ℕ)
    → Follows lag script sender count → length bits ≤ 4 * count → Records script sender bits samples
    → IsReleased line_trellis samples labels → Demodulates (tap_of (mode_of sender)) labels (take (4 * length labels) bits)
released-carry lag script sender count bits samples labels follows few r released =
    let tap : ℕ = tap_of (mode_of sender) in
    let sent = follows.sent bits samples labels few r released in
    let first : take (length labels) r.modulated.labels ≡ labels = grind (arith, take-append_seam) in
    subst (λ (xs : List ℕ). Demodulates tap xs (take (4 * length labels) bits)) first
    (first-stay tap (length labels) r.modulated.labels bits (tap-some sender) (carried script sender bits samples r))

-- all but the last bits were read
lags : (lag : ℕ) (script : ScriptValue) (sender : Role) (count : ℕ) (bits read : List Bool) (samples : List Sample)
    → Follows lag script sender count → length bits ≤ 4 * count → Records script sender bits samples → Gives sender samples read
    → Lags lag bits read
lags lag script sender count bits read samples follows within r g =
    let tap : ℕ = tap_of (mode_of sender) in
    let labels : List ℕ = r.modulated.labels in
    let n : ℕ = length g.labels in
    let few = follows.few bits samples g.labels within r g.released in
    let same : take (4 * n) bits ≡ read =
    Descrambles_once tap (line_of g.labels) (take (4 * n) bits) read
    (released-carry lag script sender count bits samples g.labels follows within r g.released) g.read in
    record {
      rest = drop (4 * n) bits;
      goes_on = sym (take-append-drop (4 * n) bits) ∙ ap (λ xs. xs ++ drop (4 * n) bits) same;
      few = omega (arith, few, length-drop (4 * n) bits, four-each tap labels bits (carried script sender bits samples r));
    }

-- a frame has the same octets with either end's check, where these agree on it
same-checked : (check hearing : Check) (sender : Role) (dlci : ℕ) (frame : Frame) → check_for check frame ≡ check_for hearing frame
    → checked hearing sender dlci frame ≡ checked check sender dlci frame
same-checked check hearing sender dlci frame agree = ap (λ (kind : Check). with_check kind (spelled frame sender dlci)) (sym agree)

-- what a slot adds

slot-octets : (size start phase : ℕ) (behind : Bool) (check hearing : Check) (sender : Role) (dlci : ℕ) (s : Sent) (added : List Found)
    → IsSendable s → ChecksAgree check hearing s
    → FoundIn size start phase behind (slot_of size (signal_of check sender dlci s)) added
    → PassTheCheck hearing (wholes added) (octets_in sender dlci s)
slot-octets size start phase true check hearing sender dlci sent.Mark added is agree h = grind (arith)
slot-octets size start phase false check hearing sender dlci sent.Mark added is agree h = grind (arith)
slot-octets size start phase true check hearing sender dlci sent.Odp added is agree h = grind (arith)
slot-octets size start phase false check hearing sender dlci sent.Odp added is agree h = grind (arith)
slot-octets size start phase true check hearing sender dlci sent.Adp added is agree h = grind (arith)
slot-octets size start phase false check hearing sender dlci sent.Adp added is agree h = grind (arith)
slot-octets size start phase behind check hearing sender dlci sent.Flags added is agree h = grind (arith)
slot-octets size start phase behind check hearing sender dlci (sent.Frame frame) added is agree h =
    let s : SpellsFrame hearing sender dlci (checked check sender dlci frame) frame
    = subst (λ (whole : List ℕ). SpellsFrame hearing sender dlci whole frame) (same-checked check hearing sender dlci frame agree)
    (spells hearing sender dlci frame is.0) in grind (arith, spelled)

slot-patterns : (check : Check) (sender : Role) (dlci start : ℕ) (s : Sent)
    → map (λ (sight : Sight). sight.seen) (seen_in start (signal_of check sender dlci s)) ≡ patterns_in s
slot-patterns check sender dlci start s = grind (arith)

-- what is found in bits once more of them were read
pub record Grows (earlier later : List Bool) : Type 0 where
  pub pieces : List Found
  pub pieces_are : pieces_of later ≡ pieces_of earlier ++ pieces
  pub sights : List Sight
  pub sights_are : sights_of later ≡ sights_of earlier ++ sights

more-grows : (laws : AreSeen) (earlier more : List Bool) → Grows earlier (earlier ++ more)
more-grows laws earlier more =
    let pieces = pieces-stay earlier more in
    let sights = laws.stay earlier more in grind (arith)

-- what is found of a slot in the bits that were read up to its end and not before
found-sent : (laws : AreSeen) (lag : ℕ) (check hearing : Check) (sender : Role) (dlci size : ℕ) (passed : List Signal) (s : Sent)
    (earlier later : List Bool)
    → LeavesTime lag size → AreFit size 0 (passed ++ signal_of check sender dlci s ∷ []) → IsSendable s → ChecksAgree check hearing s
    → Lags lag (signal_bits size passed) earlier → Lags lag (signal_bits size (passed ++ signal_of check sender dlci s ∷ [])) later
    → Grows earlier later → FoundBetween hearing earlier later (octets_in sender dlci s) (patterns_in s)
found-sent laws lag check hearing sender dlci size passed s earlier later time fit is agree old new f =
    let signal : Signal = signal_of check sender dlci s in
    let a = slot-adds laws size passed signal time.long fit in
    let before = settled-finds laws lag (signal_bits size passed) earlier
    (settled-all laws lag size passed time (fit-front size 0 passed (signal ∷ []) fit)) old in
    let upto = settled-finds laws lag (signal_bits size (passed ++ signal ∷ [])) later
    (settled-all laws lag size (passed ++ signal ∷ []) time fit) new in
    let start : ℕ = length (signal_bits size passed) in
    let one_way : pieces_of (signal_bits size (passed ++ signal ∷ [])) ≡ pieces_of earlier ++ (before.added ++ a.added)
    = a.all ∙ ap (λ xs. xs ++ a.added) before.pieces ∙ append_assoc (pieces_of earlier) before.added a.added in
    let other_way : pieces_of (signal_bits size (passed ++ signal ∷ [])) ≡ pieces_of earlier ++ (f.pieces ++ upto.added)
    = upto.pieces ∙ ap (λ xs. xs ++ upto.added) f.pieces_are ∙ append_assoc (pieces_of earlier) f.pieces upto.added in
    let pieces : f.pieces ++ upto.added ≡ before.added ++ a.added = grind (arith, same-behind) in
    let whole : wholes f.pieces ≡ wholes a.added
    = sym (append-nil (wholes f.pieces)) ∙ ap (λ xs. wholes f.pieces ++ xs) (sym upto.none) ∙ sym (wholes-append f.pieces upto.added)
    ∙ ap wholes pieces
    ∙ wholes-append before.added a.added ∙ ap (λ xs. xs ++ wholes a.added) before.none in
    let sights : f.sights ≡ seen_in start signal = grind (arith, same-behind) in
    record {
      pieces = f.pieces;
      pieces_are = f.pieces_are;
      octets_are = grind (arith, slot-octets);
      sights = f.sights;
      sights_are = f.sights_are;
      patterns_are = sym (slot-patterns check sender dlci start s) ∙ ap (map (λ (sight : Sight). sight.seen)) (sym sights);
    }

-- the bits of slots, and of the slots before the last
bounds : (laws : AreSeen) (symbols : ℕ) (passed : List Signal) (signal : Signal) → 138 < symbols
    → AreFit (4 * symbols) 0 (passed ++ signal ∷ [])
    → (length (signal_bits (4 * symbols) passed) ≤ 4 * (symbols * (length passed + 1)))
    × (length (signal_bits (4 * symbols) (passed ++ signal ∷ [])) ≤ 4 * (symbols * (length passed + 1)))
bounds laws symbols passed signal long fit = grind (arith, length-fit, fit-front, length-append, mul_assoc, mul-suc)

-- slots that leave time are long enough for patterns
long-of : (lag symbols : ℕ) → LeavesTime lag (4 * symbols) → 138 < symbols
long-of lag symbols time = omega (arith, time.long)

pub received-sent : (laws : AreSeen) (lag : ℕ) (script : ScriptValue) (check hearing : Check) (sender : Role) (dlci symbols : ℕ)
    (passed : List Signal) (s : Sent)
    (before upto : List Sample) (octets : List (List ℕ)) (patterns : List Seen)
    → Follows lag script sender (symbols * (length passed + 1)) → LeavesTime lag (4 * symbols)
    → AreFit (4 * symbols) 0 (passed ++ signal_of check sender dlci s ∷ []) → IsSendable s → ChecksAgree check hearing s
    → Records script sender (signal_bits (4 * symbols) passed) before
    → Records script sender (signal_bits (4 * symbols) (passed ++ signal_of check sender dlci s ∷ [])) upto
    → Receives hearing sender before upto octets patterns
    → (octets ≡ octets_in sender dlci s) × (patterns ≡ patterns_in s)
received-sent laws lag script check hearing sender dlci symbols passed s before upto octets patterns follows time fit is agree old new r =
    let b = bounds laws symbols passed (signal_of check sender dlci s) (long-of lag symbols time) fit in
    received-once hearing sender before upto octets (octets_in sender dlci s) patterns (patterns_in s) r (record {
      earlier = r.earlier;
      later = r.later;
      gave = r.gave;
      gives = r.gives;
      found = found-sent laws lag check hearing sender dlci (4 * symbols) passed s r.earlier r.later time fit is agree
          (lags lag script sender (symbols * (length passed + 1))
          (signal_bits (4 * symbols) passed) r.earlier before follows b.0 old r.gave)
          (lags lag script sender (symbols * (length passed + 1))
          (signal_bits (4 * symbols) (passed ++ signal_of check sender dlci s ∷ [])) r.later upto follows b.1 new r.gives)
          (record { pieces = r.found.pieces; pieces_are = r.found.pieces_are; sights = r.found.sights; sights_are = r.found.sights_are });
    })

-- and it is received

gives-some : (lag : ℕ) (script : ScriptValue) (sender : Role) (count : ℕ) (bits : List Bool) (samples : List Sample)
    → Follows lag script sender count → length bits ≤ 4 * count → Records script sender bits samples → (read : List Bool)
    × Gives sender samples read
gives-some lag script sender count bits samples follows few r =
    let some = some-released line_trellis 8 32 2 samples line-has-laws in (
      take (4 * length some.0) bits,
      record {
        labels = some.0;
        released = some.1;
        read = released-carry lag script sender count bits samples some.0 follows few r some.1;
      },
    )

-- what is given goes on where the recording does
given-grows : (laws : AreSeen) (script : ScriptValue) (sender : Role) (bits more earlier later : List Bool) (before upto : List Sample)
    → Records script sender bits before → Records script sender (bits ++ more) upto → Gives sender before earlier → Gives sender upto later
    → Grows earlier later
given-grows laws script sender bits more earlier later before upto old new gave gives =
    let grown = recordings-grow script sender bits more before upto old new in
    let stays = given-stays sender before grown.0 earlier later gave (subst (λ (xs : List Sample). Gives sender xs later) grown.1 gives) in
    subst (λ (xs : List Bool). Grows earlier xs) (sym stays.1) (more-grows laws earlier stays.0)

given-received : (laws : AreSeen) (lag : ℕ) (script : ScriptValue) (check hearing : Check) (sender : Role) (dlci size : ℕ)
    (passed : List Signal) (s : Sent)
    (before upto : List Sample) (earlier later : List Bool)
    → (count : ℕ) → Follows lag script sender count → length (signal_bits size passed) ≤ 4 * count
    → length (signal_bits size (passed ++ signal_of check sender dlci s ∷ [])) ≤ 4 * count → LeavesTime lag size
    → AreFit size 0 (passed ++ signal_of check sender dlci s ∷ []) → IsSendable s → ChecksAgree check hearing s
    → Records script sender (signal_bits size passed) before
    → Records script sender (signal_bits size (passed ++ signal_of check sender dlci s ∷ [])) upto
    → Gives sender before earlier → Gives sender upto later
    → Receives hearing sender before upto (octets_in sender dlci s) (patterns_in s)
given-received laws lag script check hearing sender dlci size passed s before upto earlier later count follows few_before few_upto time fit
    is agree old new gave gives =
    let signal : Signal = signal_of check sender dlci s in
    let slot : List Bool = slot_bits size (phase_after size (slots_of size passed)) (slot_of size signal) in
    let joined : signal_bits size (passed ++ signal ∷ []) ≡ signal_bits size passed ++ slot = slot-added size passed signal in
    let added : Records script sender (signal_bits size passed ++ slot) upto = grind (arith) in
    record {
      earlier = earlier;
      later = later;
      gave = gave;
      gives = gives;
      found = found-sent laws lag check hearing sender dlci size passed s earlier later time fit is agree
          (lags lag script sender count (signal_bits size passed) earlier before follows few_before old gave)
          (lags lag script sender count (signal_bits size (passed ++ signal ∷ [])) later upto follows few_upto new gives)
          (given-grows laws script sender (signal_bits size passed) slot earlier later before upto old added gave gives);
    }

pub sent-received : (laws : AreSeen) (lag : ℕ) (script : ScriptValue) (check hearing : Check) (sender : Role) (dlci symbols : ℕ)
    (passed : List Signal) (s : Sent)
    (before upto : List Sample)
    → Follows lag script sender (symbols * (length passed + 1)) → LeavesTime lag (4 * symbols)
    → AreFit (4 * symbols) 0 (passed ++ signal_of check sender dlci s ∷ []) → IsSendable s → ChecksAgree check hearing s
    → Records script sender (signal_bits (4 * symbols) passed) before
    → Records script sender (signal_bits (4 * symbols) (passed ++ signal_of check sender dlci s ∷ [])) upto
    → Receives hearing sender before upto (octets_in sender dlci s) (patterns_in s)
sent-received laws lag script check hearing sender dlci symbols passed s before upto follows time fit is agree old new =
    let count : ℕ = symbols * (length passed + 1) in
    let b = bounds laws symbols passed (signal_of check sender dlci s) (long-of lag symbols time) fit in
    let earlier = gives-some lag script sender count (signal_bits (4 * symbols) passed) before follows b.0 old in
    let later = gives-some lag script sender count
    (signal_bits (4 * symbols) (passed ++ signal_of check sender dlci s ∷ [])) upto follows b.1 new in
    given-received laws lag script check hearing sender dlci
    (4 * symbols) passed s before upto earlier.0 later.0 count follows b.0 b.1 time fit is agree old new earlier.1 later.1

-- and has one outcome

all-nine : (pattern : Seen) → IsPattern pattern [] (replicate 9 pattern)
all-nine pattern = (refl, (λ e. absurd cc), All-replicate (λ other. other ≡ pattern) 9 pattern refl)

pub as-expected : (loses : Bool) (sender : Role) (dlci : ℕ) (s : Sent) → IsSendable s
    → IsOutcome loses sender dlci s (octets_in sender dlci s) (patterns_in s) (unhindered loses s)
as-expected loses sender dlci s is = grind (arith, all-nine, spelled)

pub heard-sent : (laws : AreSeen) (lag : ℕ) (line : Kept) (script : ScriptValue) (passed : List Signal) (signal : Signal)
    (check hearing : Check) (dlci : ℕ) (loses : Bool) (s : Sent) (heard : Heard)
    → Follows lag script (sender_of line) (line.symbols * (length passed + 1)) → LeavesTime lag (4 * line.symbols)
    → AreFit (size_of line) 0 (passed ++ signal ∷ [])
    → signal ≡ signal_of check (sender_of line) dlci s → IsSendable s → ChecksAgree check hearing s
    → PassesSlot line script passed signal hearing dlci loses s heard → heard ≡ unhindered loses s
heard-sent laws lag line script passed signal check hearing dlci loses s heard follows time fit e is agree p =
    let sender : Role = sender_of line in
    let fit_s : AreFit (size_of line) 0 (passed ++ signal_of check sender dlci s ∷ []) = grind (arith) in
    let recorded : Records script sender (signal_bits (size_of line) (passed ++ signal_of check sender dlci s ∷ [])) p.upto
    = subst (λ (x : Signal). Records script sender (signal_bits (size_of line) (passed ++ x ∷ [])) p.upto) e p.recorded in
    let same = received-sent laws lag script check hearing sender dlci line.symbols passed s p.before p.upto p.octets p.patterns
    follows time fit_s is agree p.recorded_before recorded p.received in
    outcome-once loses sender dlci s (octets_in sender dlci s) (patterns_in s) heard (unhindered loses s)
    (subst (λ (xs : List Seen). IsOutcome loses sender dlci s (octets_in sender dlci s) xs heard) same.1
    (subst (λ (xs : List (List ℕ)). IsOutcome loses sender dlci s xs p.patterns heard) same.0 p.outcome))
    (as-expected loses sender dlci s is)

pub never-chance : (loses : Bool) (s : Sent) → unhindered loses s ≡ Chance → ⊥
never-chance loses s e = grind (arith)

pub passes-sent : (laws : AreSeen) (lag : ℕ) (line : Kept) (script : ScriptValue) (passed : List Signal) (signal : Signal)
    (check hearing : Check) (dlci : ℕ) (loses : Bool) (s : Sent) (result : Result Heard Lost)
    → Follows lag script (sender_of line) (line.symbols * (length passed + 1)) → LeavesTime lag (4 * line.symbols)
    → AreFit (size_of line) 0 (passed ++ signal ∷ [])
    → signal ≡ signal_of check (sender_of line) dlci s → IsSendable s → ChecksAgree check hearing s
    → Passes line script passed signal hearing dlci loses s result → result ≡ Ok (unhindered loses s)
passes-sent laws lag line script passed signal check hearing dlci loses s (Ok heard) follows time fit e is agree p =
    ap (λ (h : Heard). let r : Result Heard Lost = Ok h in
    r) (heard-sent laws lag line script passed signal check hearing dlci loses s heard follows time fit e is agree p)
passes-sent laws lag line script passed signal check hearing dlci loses s (Err lost) follows time fit e is agree p =
    let size : ℕ = size_of line in
    let joined : signal_bits size (passed ++ signal ∷ []) ≡ signal_bits size passed ++ bits_behind size passed signal
    = slot-added size passed signal in
    let few = (bounds laws line.symbols passed signal (long-of lag line.symbols time) fit).1 in
    absurd (none-within lag (sender_of line) script (line.symbols * (length passed + 1)) (signal_bits size passed)
    (bits_behind size passed signal) lost.symbol follows
    (subst (λ (xs : List Bool). length xs ≤ 4 * (line.symbols * (length passed + 1))) joined few) p)
