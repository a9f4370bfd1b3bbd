-- Slots that pass, and slots that are put on the line.
use Rattle.line_world.proofs.Cited.{◌≡◌, ℕ, suc, ◌-◌, ◌*◌, ◌<◌, Bool, List, [], ◌∷◌, ◌++◌, length, map, drop, arith, length-append, refl}
use Rattle.line_world.proofs.Cited.{sym, ◌∙◌, ap, subst, Option, Some, None, Ok, Err, append-nil, append_assoc, slice_get, Signal}
use Rattle.line_world.proofs.Cited.{signal_bits, Lost, Check, IsSendable, Heard, Seen, Sent, Carried, carried_signal, AreOnWay, CodesNext}
use Rattle.line_world.proofs.Cited.{HeardBehind, PassesOldest, DelayedLine, SentSlot, IsNumbered, arrival, ScriptValue, loses, IsCodedAs}
use Rattle.line_world.proofs.Cited.{Kept, LineStands, size_of, bits_behind, IsOutcome, LosesAt, Records, Role, Sample}
use Rattle.std.proofs.Common.{◌%◌}
use Rattle.std.specs.Prelude.{Result, IfOk}
use Rattle.exact_decoder.specs.Surviving.Survivors.{LostIs}
use Rattle.exact_decoder.specs.Surviving.V32.{line_depth, line_trellis}
use Rattle.lapm_frames.specs.declared.sent.Sent.TheVariants as slots
use Rattle.sample_line.specs.Received.{Receives}
use Rattle.sample_line.specs.Path.{LosesWithin}
use Rattle.sample_line.specs.Line.{PassesSlot, Passes, sender_of, decoder_of}
use Rattle.sample_line.specs.Laws.{RecordedOnce}
use Rattle.sample_line.proofs.Once.{length-modulated}
use Rattle.sample_line.proofs.Passing.{line-heard, slot-added}
use Rattle.line_run.specs.Laws.{LossStays}
use Rattle.line_world.specs.Way.{IsOnWay, Stands}

-- as many slots as are said
pub same-count : (size : ℕ) (role : Role) (before : List Signal) (items : List SentSlot) (way : List Carried)
    → AreOnWay size role before items way → length items ≡ length way
same-count size role before [] [] h = refl
same-count size role before (slot ∷ items) (x ∷ way) h = ap suc (same-count size role (before ++ carried_signal role x ∷ []) items way h.1)
same-count size role before (slot ∷ items) [] h = absurd h
same-count size role before [] (x ∷ way) h = absurd h

-- the oldest one
pub record Oldest (size : ℕ) (role : Role) (passed : List Signal) (slot : SentSlot) (items : List SentSlot)
    (way : List Carried) : Type 0 where
  pub x : Carried
  pub rest : List Carried
  pub way_is : way ≡ x ∷ rest
  pub is : IsOnWay size role passed slot x
  pub others : AreOnWay size role (passed ++ carried_signal role x ∷ []) items rest

pub oldest : (size : ℕ) (role : Role) (passed : List Signal) (slot : SentSlot) (items : List SentSlot) (way : List Carried)
    → AreOnWay size role passed (slot ∷ items) way → Oldest size role passed slot items way
oldest size role passed slot items q5 h = grind (arith)

-- the front of a list that has one
pub first-of : (slots : List SentSlot) (slot : SentSlot) → Some slot ≡ slice_get slots 0 → slots ≡ slot ∷ drop 1 slots
first-of slots slot e = grind (arith)

-- a direction that the call has moved on
pub record MovesOn (d new : DelayedLine) (items : List SentSlot) : Type 0 where
  pub sender : new.sender ≡ d.sender
  pub lag : new.lag ≡ d.lag
  pub items_are : new.slots.items ≡ items
  pub capacity : new.slots.capacity ≡ d.slots.capacity
  pub from : sender_of new.line ≡ sender_of d.line
  pub symbols : new.line.symbols ≡ d.line.symbols

-- what the line makes of the oldest slot
heard-so : (once : RecordedOnce) (d new : DelayedLine) (script : ScriptValue) (passed : List Signal) (x : Carried) (slot : SentSlot)
    (items : List SentSlot) (rest : List Carried) (number : ℕ) (check : Check) (dlci : ℕ) (heard : Heard)
    → sender_of d.line ≡ d.sender → d.slots.capacity ≡ d.lag → IsOnWay (size_of d.line) d.sender passed slot x
    → AreOnWay (size_of d.line) d.sender (passed ++ carried_signal d.sender x ∷ []) items rest → MovesOn d new items
    → PassesSlot new.line script passed (carried_signal d.sender x) check dlci (loses script d.sender number) slot.sent heard
    → HeardBehind script d.sender (size_of d.line) dlci passed number check x heard
    × Stands new script (passed ++ carried_signal d.sender x ∷ []) rest
heard-so once d new script passed x slot items rest number check dlci heard own room is others m p = (behind, stands)
  where
    role : Role
    role = d.sender

    upto : List Signal
    upto = passed ++ carried_signal role x ∷ []

    size : size_of new.line ≡ size_of d.line
    size = ap (λ n. 4 * n) m.symbols

    from : sender_of new.line ≡ role
    from = m.from ∙ own

    placed : (l : List Signal) (samples : List Sample) → Records script (sender_of new.line) (signal_bits (size_of new.line) l) samples
        → Records script role (signal_bits (size_of d.line) l) samples
    placed l samples r = grind (arith, role, size, from)

    not-lost : LostIs line_trellis line_depth p.upto None
    not-lost =
        let l = line-heard script new.line upto p.stands in
        let same : l.0 ≡ p.upto = once script (sender_of new.line) (signal_bits (size_of new.line) upto) l.0 p.upto l.2 p.recorded in
        subst (λ (o : Option ℕ). LostIs line_trellis line_depth p.upto o) p.stands.not_lost
        (subst (λ xs. LostIs line_trellis line_depth xs (decoder_of new.line).lost) same l.3.lost)

    behind : HeardBehind script role (size_of d.line) dlci passed number check x heard
    behind = record {
      before = p.before;
      samples = p.upto;
      recorded_before = placed passed p.before p.recorded_before;
      recorded = placed upto p.upto p.recorded;
      not_lost = not-lost;
      octets = p.octets;
      patterns = p.patterns;
      received = subst (λ s. Receives check s p.before p.upto p.octets p.patterns) from p.received;
      outcome = subst (λ s. IsOutcome (loses script role number) role dlci s p.octets p.patterns heard) is.sent
          (subst (λ r. IsOutcome (loses script role number) r dlci slot.sent p.octets p.patterns heard) from p.outcome);
    }

    stands : Stands new script upto rest
    stands = grind (arith)

loses-so : (stay : LossStays) (d : DelayedLine) (script : ScriptValue) (passed : List Signal) (way : List Carried) (x : Carried)
    (slot : SentSlot) (symbol : ℕ) (line : Kept)
    → Stands d script passed way → IsOnWay (size_of d.line) d.sender passed slot x → sender_of line ≡ sender_of d.line
    → size_of line ≡ size_of d.line → LosesWithin (sender_of line) script (signal_bits (size_of line) passed)
    (bits_behind (size_of line) passed (carried_signal d.sender x)) symbol
    → LosesAt d.sender script (signal_bits (size_of d.line) (passed ++ carried_signal d.sender x ∷ [])) symbol
loses-so stay d script passed way x slot symbol line h is same size l = at
  where
    before : List Bool
    before = signal_bits (size_of d.line) passed

    bits : List Bool
    bits = bits_behind (size_of d.line) passed (carried_signal d.sender x)

    whole : length (before ++ bits) % 4 ≡ 0
    whole = let e = length-modulated _ (before ++ bits) _ is.coded.modulated in omega (arith, e)

    within : LosesWithin (sender_of line) script before bits symbol
    within = subst (λ n. LosesWithin (sender_of line) script (signal_bits n passed) (bits_behind n passed (carried_signal d.sender x))
        symbol) size l

    lost : LosesAt d.sender script (before ++ bits) symbol
    lost = subst (λ r. LosesAt r script (before ++ bits) symbol) (same ∙ h.sender)
        (stay (sender_of line) script before bits symbol whole within)

    at : LosesAt d.sender script (signal_bits (size_of d.line) (passed ++ carried_signal d.sender x ∷ [])) symbol
    at = subst (λ b. LosesAt d.sender script b symbol) (sym (slot-added (size_of d.line) passed (carried_signal d.sender x))) lost

-- what the line's call says, whatever passed before
abbrev pub PassesAll : DelayedLine → DelayedLine → SentSlot → Check → ScriptValue → ℕ → Bool → Result Heard Lost → Type 0
PassesAll d new slot check script dlci lost r =
    (passed : List Signal) (signal : Signal) → LineStands d.line script passed
    → IsCodedAs (sender_of d.line) (size_of d.line) passed signal slot.labels
    → Passes new.line script passed signal check dlci lost slot.sent r

passes-front : (d new : DelayedLine) (script : ScriptValue) (passed : List Signal) (way : List Carried) (slot : SentSlot)
    (items : List SentSlot)
    (number : ℕ) (check : Check) (dlci : ℕ) (r : Result Heard Lost) (o : Oldest (size_of d.line) d.sender passed slot items way)
    → Stands d script passed way → PassesAll d new slot check script dlci (loses script d.sender number) r
    → Passes new.line script passed (carried_signal d.sender o.x) check dlci (loses script d.sender number) slot.sent r
passes-front d new script passed way slot items number check dlci r o h p = grind (arith)

pub passes-oldest : (once : RecordedOnce) (stay : LossStays) (d new : DelayedLine) (script : ScriptValue) (passed : List Signal)
    (way : List Carried) (slot : SentSlot) (items : List SentSlot) (number : ℕ) (check : Check) (dlci : ℕ) (r : Result Heard Lost)
    → (o : Oldest (size_of d.line) d.sender passed slot items way)
    → Stands d script passed way → MovesOn d new items → PassesAll d new slot check script dlci (loses script d.sender number) r
    → PassesOldest d new script passed o.x o.rest number check dlci r
passes-oldest once stay d new script passed way slot items number check dlci r o h m p =
    go r (passes-front d new script passed way slot items number check dlci r o h p)
  where
    go : (r : Result Heard Lost)
        → Passes new.line script passed (carried_signal d.sender o.x) check dlci (loses script d.sender number) slot.sent r
        → PassesOldest d new script passed o.x o.rest number check dlci r
    go (Ok heard) q = heard-so once d new script passed o.x slot items o.rest number check dlci heard h.sender h.room o.is o.others m q
    go (Err lost) q = loses-so stay d script passed way o.x slot lost.symbol new.line h o.is m.from (ap (λ n. 4 * n) m.symbols) q

as-heard : (lost : Bool) (sender : Role) (dlci : ℕ) (s : Sent) (octets : List (List ℕ)) (patterns : List Seen) (heard : Heard)
    → IsSendable s → IsOutcome lost sender dlci s octets patterns heard → IsNumbered (arrival heard)
as-heard lost sender dlci s octets patterns other h o = grind (arith)

pub numbered-by : (d new : DelayedLine) (script : ScriptValue) (passed : List Signal) (way : List Carried) (slot : SentSlot)
    (items : List SentSlot)
    (number : ℕ) (check : Check) (dlci : ℕ) (r : Result Heard Lost) → (o : Oldest (size_of d.line) d.sender passed slot items way)
    → Stands d script passed way → PassesAll d new slot check script dlci (loses script d.sender number) r
    → IfOk r (λ heard. IsNumbered (arrival heard))
numbered-by d new script passed way slot items number check dlci r o h p =
    go r (passes-front d new script passed way slot items number check dlci r o h p)
  where
    go : (r : Result Heard Lost)
        → Passes new.line script passed (carried_signal d.sender o.x) check dlci (loses script d.sender number) slot.sent r
        → IfOk r (λ heard. IsNumbered (arrival heard))
    go r q = grind (arith, as-heard)

-- one more slot behind those on their way
pub behind : (size : ℕ) (role : Role) (before : List Signal) (items : List SentSlot) (way : List Carried) (slot : SentSlot) (x : Carried)
    → AreOnWay size role before items way → IsOnWay size role (before ++ map (carried_signal role) way) slot x
    → AreOnWay size role before (items ++ slot ∷ []) (way ++ x ∷ [])
behind size role before [] [] slot x h k = (subst (λ l. IsOnWay size role l slot x) (append-nil before) k, tt)
behind size role before (y ∷ items) (first ∷ way) slot x h k = (
  h.0,
  behind size role (before ++ carried_signal role first ∷ []) items way slot x h.1
      (subst (λ l. IsOnWay size role l slot x) (sym (append_assoc before (carried_signal role first ∷ []) (map (carried_signal role) way)))
      k),
)
behind size role before (y ∷ items) [] slot x h k = absurd h
behind size role before [] (first ∷ way) slot x h k = absurd h

-- where there is room nothing is pushed out
pub all-kept : (items : List SentSlot) (slot : SentSlot) (room : ℕ) → length items < room
    → drop (length (items ++ slot ∷ []) - room) (items ++ slot ∷ []) ≡ items ++ slot ∷ []
all-kept items slot room h = grind (arith, length-append)

-- a direction on which a slot was put
pub record IsPutOn (d new : DelayedLine) (items : List SentSlot) : Type 0 where
  pub sender : new.sender ≡ d.sender
  pub lag : new.lag ≡ d.lag
  pub items_are : new.slots.items ≡ items
  pub capacity : new.slots.capacity ≡ d.slots.capacity
  pub line : new.line ≡ d.line

pub puts-so : (d new : DelayedLine) (script : ScriptValue) (passed : List Signal) (way : List Carried) (slot : SentSlot) (x : Carried)
    → Stands d script passed way → CodesNext d passed way x slot.labels → IsPutOn d new (d.slots.items ++ slot ∷ [])
    → slot.sent ≡ x.spoken.sent → IsSendable x.spoken.sent → Stands new script passed (way ++ x ∷ [])
puts-so d new script passed way slot x h coded m sent sendable = record {
  line = subst (λ l. LineStands l script passed) (sym m.line) h.line;
  slots = subst (λ s. AreOnWay (size_of new.line) s passed new.slots.items (way ++ x ∷ [])) (sym m.sender)
      (subst (λ n. AreOnWay n d.sender passed new.slots.items (way ++ x ∷ [])) (sym (ap size_of m.line))
      (subst (λ xs. AreOnWay (size_of d.line) d.sender passed xs (way ++ x ∷ [])) (sym m.items_are)
      (behind (size_of d.line) d.sender passed d.slots.items way slot x h.slots
      (record { sent = sent; sendable = sendable; coded = coded }))));
  sender = ap sender_of m.line ∙ h.sender ∙ sym m.sender;
  room = m.capacity ∙ h.room ∙ sym m.lag;
}

-- before the first slot
pub starts : (d : DelayedLine) (script : ScriptValue) → LineStands d.line script [] → d.slots.items ≡ [] → sender_of d.line ≡ d.sender
    → d.slots.capacity ≡ d.lag → Stands d script [] []
starts d script stands items sender room = grind (arith)
