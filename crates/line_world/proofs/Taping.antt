-- What tapes hold, as turns are recorded and as others are written.
use Rattle.line_world.proofs.Cited.{arith, ◌≡◌, ◌∙◌, ℕ, ◌+◌, ◌<◌, Bool, List, [], ◌∷◌, ◌++◌, length, take, Option, Some, Result, refl, sym}
use Rattle.line_world.proofs.Cited.{ap, subst, append-nil, append_assoc, take_more, line_bits, BitSlot, low_bits, Tapes, tapes_of, Wire}
use Rattle.line_world.proofs.Cited.{bits_of, wire_of, RunFault, HoldTapes, RecordsBits, KeepTapes, tape_names, HasSent, Turn, ScriptValue}
use Rattle.line_world.proofs.Cited.{HoldsPart-more, FolderState, GoesOn, KeepsName, OnlyWrites, Appended, PartlyAppended, Holds, KeepsEach}
use Rattle.line_world.proofs.Cited.{mode_of, Mode, Both, Role, Originator, Answerer, Sample}
use Rattle.std.proofs.Common.{slice_index_or}
use Rattle.std.proofs.lemmas.Grind.{flat_map-append}
use Rattle.line_coding.specs.declared.modulator.Modulator.{Modulator}
use Rattle.line_coding.specs.Modulates.{ModulatorStands}
use Rattle.recordings.specs.Recording.{header_of, sample_octets}
use Rattle.recordings.proofs.Octets.{sample-more}
use Rattle.line_run.specs.Recorded.{IsRecorded}
use Rattle.line_run.proofs.Bits.{bits-more}
use Rattle.line_world.specs.Tapes.{HoldsTape, HoldsTapePart}
use Rattle.line_world.specs.Taping.{TapeStands, KeepsTape, TakesSlot, TakeTurn}
use Rattle.line_world.specs.declared.tape.Tape.{Tape}

-- one sample more
pub records-more : (mode : Mode) (old new : Modulator) (bits more : List Bool) (octets made one : List ℕ) (x : Sample)
    → (r : RecordsBits mode old bits (octets ++ made)) → ModulatorStands mode new (bits ++ more) (r.samples ++ x ∷ [])
    → one ≡ sample_octets x → RecordsBits mode new (bits ++ more) (octets ++ (made ++ one))
records-more mode old new bits more octets made one x r stands e = grind (arith, append_assoc, sample-more)

pub quads-more : (quads : List ℕ) (i quad : ℕ) (bits : List Bool) → i < length quads → quad ≡ slice_index_or quads i 0
    → (bits ++ line_bits (take i quads)) ++ low_bits 4 quad ≡ bits ++ line_bits (take (i + 1) quads)
quads-more quads i quad bits within e =
    append_assoc bits (line_bits (take i quads)) (low_bits 4 quad)
    ∙ ap (λ x. bits ++ (line_bits (take i quads) ++ x)) (ap (low_bits 4) e ∙ sym (append-nil (low_bits 4 (slice_index_or quads i 0))))
    ∙ ap (λ x. bits ++ x) (sym (flat_map-append (low_bits 4) (take i quads) (slice_index_or quads i 0 ∷ [])))
    ∙ ap (λ x. bits ++ line_bits x) (sym (take_more quads i 0 within))

-- what a tape has recorded is recorded
pub is-recorded : (tape : Tape) (c : Wire) (role : Role) (ts : List Turn) (body : List ℕ) → TapeStands tape c role ts body
    → IsRecorded c role ts body
is-recorded tape c role ts body h = grind (arith)

-- the slot of one turn more
pub slot-recorded : (script : ScriptValue) (role : Role) (ts : List Turn) (t : Turn) (bits : BitSlot) (m : Modulator) (octets : List ℕ)
    → HasSent (Some bits) script role ts t → RecordsBits (mode_of role) m (bits_of (wire_of script) role ts ++ line_bits bits) octets
    → RecordsBits (mode_of role) m (bits_of (wire_of script) role (t ∷ ts)) octets
slot-recorded script role ts t bits m octets (slot, e, same) r =
    subst (λ x. RecordsBits (mode_of role) m x octets)
    (ap (λ x. bits_of (wire_of script) role ts ++ x) same ∙ sym (bits-more (wire_of script) role ts slot t (λ side n. refl) e)) r

pub takes-slot : (old tape : Tape) (a b : FolderState) (c : Wire) (role : Role) (ts : List Turn) (t : Turn) (piece : List ℕ)
    → tape.name.now ≡ old.name.now → OnlyWrites a b tape.name.now → (k : KeepsTape old a c role ts)
    → TapeStands tape c role (t ∷ ts) (k.body ++ piece) → Appended a b tape.name.now piece → KeepsTape tape b c role (t ∷ ts)
takes-slot old tape a b c role ts t piece name only k stands put = grind (arith, append_assoc)

pub takes-part : (old tape : Tape) (a b : FolderState) (c : Wire) (role : Role) (ts : List Turn) (t : Turn) (piece : List ℕ)
    → tape.name.now ≡ old.name.now → OnlyWrites a b tape.name.now → (k : KeepsTape old a c role ts)
    → TapeStands tape c role (t ∷ ts) (k.body ++ piece) → PartlyAppended a b tape.name.now piece → HoldsTapePart b tape.name.now c role ts t
takes-part old tape a b c role ts t piece name only k stands put = record {
  body = k.body;
  recorded = is-recorded old c role ts k.body k.stands;
  more = piece;
  recorded_more = is-recorded tape c role (t ∷ ts) (k.body ++ piece) stands;
  holds = HoldsPart-more a b tape.name.now (header_of (mode_of role) ++ k.body) piece only.goes_on
      (subst (λ n. Holds a n (header_of (mode_of role) ++ k.body)) (sym name) k.holds) put;
}

-- what is kept is held
pub keeps-holds : (tape : Tape) (f : FolderState) (c : Wire) (role : Role) (ts : List Turn) → KeepsTape tape f c role ts
    → HoldsTape f tape.name.now c role ts
keeps-holds tape f c role ts k = record { body = k.body; recorded = is-recorded tape c role ts k.body k.stands; holds = k.holds }

pub keep-holds : (tapes : Option (Both Tape)) (f : FolderState) (c : Wire) (ts : List Turn) → KeepTapes tapes f c ts
    → HoldTapes f (tape_names tapes) c ts
keep-holds tapes f c ts k = grind (arith, keeps-holds)

-- as other names are written it is kept
pub keeps-later : (tape : Tape) (a b : FolderState) (c : Wire) (role : Role) (ts : List Turn) → GoesOn a b
    → KeepsName a b tape.name.now → KeepsTape tape a c role ts → KeepsTape tape b c role ts
keeps-later tape a b c role ts on kept k = grind (arith)

pub keep-later : (tapes : Option (Both Tape)) (a b : FolderState) (c : Wire) (ts : List Turn) → GoesOn a b
    → KeepsEach a b (tapes_of (tape_names tapes)) → KeepTapes tapes a c ts → KeepTapes tapes b c ts
keep-later tapes a b c ts on kept k = grind (arith, keeps-later)

pub hold-later : (tapes : Tapes) (a b : FolderState) (c : Wire) (ts : List Turn) → GoesOn a b → KeepsEach a b (tapes_of tapes)
    → HoldTapes a tapes c ts → HoldTapes b tapes c ts
hold-later tapes a b c ts on kept h = grind (arith)

-- both tapes, once the originator's has its slot
pub both-take : (orig answ : Tape) (f : FolderState) (c : Wire) (ts : List Turn) (t : Turn) (result : Result Unit RunFault)
    → KeepsTape orig f c Originator (t ∷ ts) → TakesSlot answ f c Answerer ts t result
    → TakeTurn (Some (record { orig = orig; answ = answ })) f c ts t result
both-take orig answ f c ts t result k h = grind (arith, keeps-holds)
