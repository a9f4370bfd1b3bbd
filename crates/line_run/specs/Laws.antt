-- Laws of lines whose symbols are not displaced, or faintly, up to some symbol.
use Rattle.std.specs.Prelude.{◌≡◌, ℕ, ◌+◌, ◌-◌, ◌*◌, ◌/◌, ◌%◌, ◌<◌, ◌≤◌, Bool, List, [], ◌∷◌, ◌++◌, length, All, true, Result, Ok, Some}
use Rattle.frame_check.specs.declared.check.Check.{Check}
use Rattle.symbol_map.specs.declared.sample.Sample.{Sample}
use Rattle.exact_decoder.specs.Surviving.Survivors.{LostIs}
use Rattle.exact_decoder.specs.Surviving.V32.{line_depth, line_trellis}
use Rattle.exact_decoder.specs.declared.decoder.Lost.{Lost}
use Rattle.bit_stuffing.specs.declared.slot_writer.TheConstants.{HEAD, TAIL}
use Rattle.bit_stuffing.specs.Slots.{AreSlots, phase_after, slot_bits}
use Rattle.lapm_frames.specs.declared.seen.Seen.{Seen}
use Rattle.detection.specs.Slots.{Signal, signal_bits, slots_of, slot_of}
use Rattle.shared_terms.specs.declared.role.Role.{Role}
use Rattle.lapm_frames.specs.declared.frame.Frame.{Frame}
use Rattle.lapm_frames.specs.Frame.{information_of}
use Rattle.lapm_frames.specs.declared.sent.Sent.{Sent}
use Rattle.lapm_frames.specs.declared.sent.Sent.TheVariants as sent
use Rattle.noise_script.specs.declared.entry.Hit.{Hit}
use Rattle.noise_script.specs.declared.entry.Noise.{Noise}
use Rattle.shared_terms.specs.Role.{same_role}
use Rattle.noise_script.specs.Script.{ScriptValue}
use Rattle.lapm_frames.specs.declared.heard.Heard.{Heard}
use Rattle.lapm_frames.specs.declared.heard.Heard.TheVariants as heard
use Rattle.lapm_frames.specs.Checked.{checked}
use Rattle.sample_line.specs.Signals.{signal_of, IsCodable}
use Rattle.lapm_frames.specs.Sendable.{IsSendable}
use Rattle.sample_line.specs.Recorded.{Records}
use Rattle.sample_line.specs.Received.{Receives}
use Rattle.sample_line.specs.Path.{LosesAt, LosesWithin}
use Rattle.sample_line.specs.Line.{Kept, Passes, PassesSlot, sender_of, size_of}
use Rattle.line_run.specs.Fitting.{Fits, AreFit, OfOctets}
use Rattle.line_run.specs.Unhindered.{ChecksAgree, DisplacesNoneBefore, octets_in, patterns_in, unhindered}
use Rattle.line_run.specs.Faint.{IsFaintBefore}

-- a script displaces no symbol before the first that its hit lines and noise lines for the role name
abbrev pub LaterLinesDisplaceNone : Type 0
LaterLinesDisplaceNone = (script : ScriptValue) (sender : Role) (count : ℕ)
    → All (λ (hit : Hit). same_role hit.role sender ≡ true → count ≤ hit.from) script.hits
    → All (λ (noise : Noise). same_role noise.role sender ≡ true → count ≤ noise.from) script.noises
    → DisplacesNoneBefore script sender count

-- and none at all where it has neither hit lines nor noise lines
abbrev pub EmptyScriptDisplacesNone : Type 0
EmptyScriptDisplacesNone = (script : ScriptValue) (sender : Role) (count : ℕ) → script.hits ≡ [] → script.noises ≡ []
    → DisplacesNoneBefore script sender count

-- slots that fit

abbrev pub FirstOnesFit : Type 0
FirstOnesFit = (size : ℕ) (before more : List Signal) → AreFit size 0 (before ++ more) → AreFit size 0 before

-- one more may follow where it fits, by the flag phase behind those before
abbrev pub OneMoreFits : Type 0
OneMoreFits = (size : ℕ) (before : List Signal) (signal : Signal)
    → AreFit size 0 before → Fits size (phase_after size (slots_of size before)) signal → AreFit size 0 (before ++ signal ∷ [])

abbrev pub SlotsThatFitAreSlots : Type 0
SlotsThatFitAreSlots = (size : ℕ) (signals : List Signal) → 4 * (HEAD + TAIL) < size → AreFit size 0 signals
    → AreSlots size 0 (slots_of size signals)

abbrev pub SlotsHaveSize : Type 0
SlotsHaveSize = (size : ℕ) (signals : List Signal) → 4 * (HEAD + TAIL) < size → AreFit size 0 signals
    → length (signal_bits size signals) ≡ size * length signals

-- what can be coded in slots of so many symbols fits them
abbrev pub CodableFits : Type 0
CodableFits = (check : Check) (sender : Role) (dlci symbols phase : ℕ) (s : Sent) → OfOctets (signal_of check sender dlci s)
    → IsCodable check sender dlci symbols phase s → Fits (4 * symbols) phase (signal_of check sender dlci s)

abbrev pub CodableIsSendable : Type 0
CodableIsSendable = (check : Check) (sender : Role) (dlci symbols phase : ℕ) (s : Sent) → IsCodable check sender dlci symbols phase s
    → IsSendable s

-- what can be sent is written in octets
abbrev pub SpelledInOctets : Type 0
SpelledInOctets = (check : Check) (sender : Role) (dlci : ℕ) (s : Sent) → dlci < 64 → IsSendable s
    → OfOctets (signal_of check sender dlci s)

-- a frame has at most seven octets besides its information: an address, two of control and four of check
abbrev pub FewOctetsBesidesInformation : Type 0
FewOctetsBesidesInformation = (check : Check) (sender : Role) (dlci : ℕ) (frame : Frame)
    → length (checked check sender dlci frame) ≤ 7 + length (information_of frame)

-- a frame with its check of at most so many octets can be coded at each flag phase, if there is room for the longest stuffing of so many
abbrev pub ShortIsCodable : Type 0
ShortIsCodable = (check : Check) (sender : Role) (dlci symbols phase most : ℕ) (frame : Frame) → phase < 8 → IsSendable (sent.Frame frame)
    → length (checked check sender dlci frame) ≤ most → 47 + 8 * most + 8 * most / 5 ≤ 4 * (symbols - TAIL)
    → IsCodable check sender dlci symbols phase (sent.Frame frame)

-- recordings

abbrev pub EachIsRecorded : Type 0
EachIsRecorded = (script : ScriptValue) (sender : Role) (bits : List Bool) → length bits % 4 ≡ 0
    → (samples : List Sample) × Records script sender bits samples

abbrev pub SlotsAreRecorded : Type 0
SlotsAreRecorded = (script : ScriptValue) (sender : Role) (symbols : ℕ) (signals : List Signal) → HEAD + TAIL < symbols
    → AreFit (4 * symbols) 0 signals
    → (samples : List Sample) × Records script sender (signal_bits (4 * symbols) signals) samples

-- a line that is lost within a slot is lost, with the same symbol, in the recording of the slot
abbrev pub LossStays : Type 0
LossStays = (sender : Role) (script : ScriptValue) (before bits : List Bool) (symbol : ℕ) → length (before ++ bits) % 4 ≡ 0
    → LosesWithin sender script before bits symbol → LosesAt sender script (before ++ bits) symbol

-- and in each recording that goes on from there
abbrev pub LossIsInEachRecording : Type 0
LossIsInEachRecording = (sender : Role) (script : ScriptValue) (before bits more : List Bool) (symbol : ℕ) (samples : List Sample)
    → LosesWithin sender script before bits symbol → Records script sender ((before ++ bits) ++ more) samples
    → LostIs line_trellis line_depth samples (Some symbol)

-- Lines up to the end of a slot, where this holds of a script, a sender, and how many of its first symbols it is said of. The slots have more
-- symbols than so many.

abbrev pub NeverLostWhere : (ScriptValue → Role → ℕ → Type 0) → Type 0
NeverLostWhere Holds = (sender : Role) (script : ScriptValue) (count : ℕ) (before bits : List Bool) (symbol : ℕ)
    → Holds script sender count → length (before ++ bits) ≤ 4 * count → LosesWithin sender script before bits symbol → ⊥

-- nothing but what was sent in a slot is received in it, and all of that is: the end that sends has one check, the end that hears another, which
-- agree on what is sent
abbrev pub ReceivedIsSentWhere : (ScriptValue → Role → ℕ → Type 0) → ℕ → Type 0
ReceivedIsSentWhere Holds most =
    (script : ScriptValue) (check hearing : Check) (sender : Role) (dlci symbols : ℕ) (passed : List Signal) (s : Sent)
    (before upto : List Sample) (octets : List (List ℕ)) (patterns : List Seen)
    → Holds script sender (symbols * (length passed + 1)) → most < symbols
    → AreFit (4 * symbols) 0 (passed ++ signal_of check sender dlci s ∷ []) → IsSendable s → ChecksAgree check hearing s
    → Records script sender (signal_bits (4 * symbols) passed) before
    → Records script sender (signal_bits (4 * symbols) (passed ++ signal_of check sender dlci s ∷ [])) upto
    → Receives hearing sender before upto octets patterns
    → (octets ≡ octets_in sender dlci s) × (patterns ≡ patterns_in s)

abbrev pub SentIsReceivedWhere : (ScriptValue → Role → ℕ → Type 0) → ℕ → Type 0
SentIsReceivedWhere Holds most =
    (script : ScriptValue) (check hearing : Check) (sender : Role) (dlci symbols : ℕ) (passed : List Signal) (s : Sent)
    (before upto : List Sample)
    → Holds script sender (symbols * (length passed + 1)) → most < symbols
    → AreFit (4 * symbols) 0 (passed ++ signal_of check sender dlci s ∷ []) → IsSendable s → ChecksAgree check hearing s
    → Records script sender (signal_bits (4 * symbols) passed) before
    → Records script sender (signal_bits (4 * symbols) (passed ++ signal_of check sender dlci s ∷ [])) upto
    → Receives hearing sender before upto (octets_in sender dlci s) (patterns_in s)

-- so it is what is heard
abbrev pub HeardIsSentWhere : (ScriptValue → Role → ℕ → Type 0) → ℕ → Type 0
HeardIsSentWhere Holds most = (line : Kept) (script : ScriptValue) (passed : List Signal) (signal : Signal) (check hearing : Check)
    (dlci : ℕ) (loses : Bool) (s : Sent) (h : Heard)
    → Holds script (sender_of line) (line.symbols * (length passed + 1)) → most < line.symbols
    → AreFit (size_of line) 0 (passed ++ signal ∷ [])
    → signal ≡ signal_of check (sender_of line) dlci s → IsSendable s → ChecksAgree check hearing s
    → PassesSlot line script passed signal hearing dlci loses s h → h ≡ unhindered loses s

-- which is never a chance match
abbrev pub NeverChance : Type 0
NeverChance = (loses : Bool) (s : Sent) → unhindered loses s ≡ heard.Chance → ⊥

-- and the slot does pass
abbrev pub PassesUnhinderedWhere : (ScriptValue → Role → ℕ → Type 0) → ℕ → Type 0
PassesUnhinderedWhere Holds most =
    (line : Kept) (script : ScriptValue) (passed : List Signal) (signal : Signal) (check hearing : Check) (dlci : ℕ) (loses : Bool)
    (s : Sent) (result : Result Heard Lost)
    → Holds script (sender_of line) (line.symbols * (length passed + 1)) → most < line.symbols
    → AreFit (size_of line) 0 (passed ++ signal ∷ [])
    → signal ≡ signal_of check (sender_of line) dlci s → IsSendable s → ChecksAgree check hearing s
    → Passes line script passed signal hearing dlci loses s result → result ≡ Ok (unhindered loses s)

-- where no symbol is displaced

abbrev pub NeverLost : Type 0
NeverLost = NeverLostWhere DisplacesNoneBefore

abbrev pub ReceivedIsSent : Type 0
ReceivedIsSent = ReceivedIsSentWhere DisplacesNoneBefore (HEAD + TAIL)

abbrev pub SentIsReceived : Type 0
SentIsReceived = SentIsReceivedWhere DisplacesNoneBefore (HEAD + TAIL)

abbrev pub HeardIsSent : Type 0
HeardIsSent = HeardIsSentWhere DisplacesNoneBefore (HEAD + TAIL)

abbrev pub PassesUnhindered : Type 0
PassesUnhindered = PassesUnhinderedWhere DisplacesNoneBefore (HEAD + TAIL)

-- And where noise is faint: what was sent may be behind by 126 symbols then, which carry 504 bits, and the last of the nine sights of a slot of
-- patterns ends with its bit 359. A slot of more than 215 symbols has 504 bits behind that one.

abbrev pub FaintNeverLost : Type 0
FaintNeverLost = NeverLostWhere IsFaintBefore

abbrev pub FaintReceivedIsSent : Type 0
FaintReceivedIsSent = ReceivedIsSentWhere IsFaintBefore 215

abbrev pub FaintSentIsReceived : Type 0
FaintSentIsReceived = SentIsReceivedWhere IsFaintBefore 215

abbrev pub FaintHeardIsSent : Type 0
FaintHeardIsSent = HeardIsSentWhere IsFaintBefore 215

abbrev pub FaintPassesUnhindered : Type 0
FaintPassesUnhindered = PassesUnhinderedWhere IsFaintBefore 215

-- nothing is fainter than what displaces no symbol
abbrev pub UndisplacedIsFaint : Type 0
UndisplacedIsFaint = (script : ScriptValue) (sender : Role) (count : ℕ) → DisplacesNoneBefore script sender count
    → IsFaintBefore script sender count

-- The bits of a slot tell what was sent in it, among all that can be coded at its size and flag phase with this check, by this sender on this channel.
abbrev pub SlotsTellWhatWasSent : Type 0
SlotsTellWhatWasSent = (check : Check) (sender : Role) (dlci symbols phase : ℕ) (s other : Sent) → dlci < 64 → phase < 8
    → HEAD + TAIL < symbols
    → IsCodable check sender dlci symbols phase s → IsCodable check sender dlci symbols phase other
    → slot_bits (4 * symbols) phase (slot_of (4 * symbols) (signal_of check sender dlci s)) ≡ slot_bits (4 * symbols) phase
    (slot_of (4 * symbols) (signal_of check sender dlci other))
    → s ≡ other
