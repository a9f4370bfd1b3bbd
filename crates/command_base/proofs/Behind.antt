-- A recording that is read on behind its header.
use Rattle.command_base.proofs.Names.{◌≡◌, ◌≢◌, ◌∙◌, ◌⊎◌, ℕ, ◌+◌, ◌%◌, ◌≤◌, ◌<◌, Bool, true, false, List, [], ◌++◌, IsTrue, length}
use Rattle.command_base.proofs.Names.{length-append, drop, refl, sym, ap, arith, append-nil, append_assoc, take_all, take-append-drop}
use Rattle.command_base.proofs.Names.{ReadTo, FolderState, octets_at, GoesOn, KeepsName, header_at, Rate, Mode}
use Rattle.recordings.specs.declared.header.TheConstants.{HEADER}
use Rattle.command_base.specs.declared.limits.TheConstants.{RECORDING_LIMIT}
use Rattle.command_base.specs.Recordings.{ReadsRecording, Opened, ReadBehind, IsAtEnd}

-- the header is read
pub behind-none : (start old now : FolderState) (name : List ℕ) (rate : Rate) (mode : Mode) → Opened start old name rate mode
    → GoesOn start now → KeepsName start now name → ReadBehind start now name rate mode [] HEADER
behind-none start old now name rate mode o on kept = grind (arith, append-nil)

-- one piece more is
pub behind-more : (start now : FolderState) (name : List ℕ) (rate : Rate) (mode : Mode) (content piece : List ℕ) (at count : ℕ)
    → at ≡ HEADER + length content → length piece ≡ count →
    ReadTo start now name RECORDING_LIMIT (at + count) ((header_at rate mode ++ content) ++ piece)
    → ReadBehind start now name rate mode (content ++ piece) (at + count)
behind-more start now name rate mode content piece at count at_is long r = grind (arith, length-append, append_assoc)

-- what was read stays read, as long as the recording is as it was
pub behind-kept : (start now later : FolderState) (name : List ℕ) (rate : Rate) (mode : Mode) (content : List ℕ) (at : ℕ)
    → ReadBehind start now name rate mode content at → GoesOn now later → KeepsName now later name
    → ReadBehind start later name rate mode content at
behind-kept start now later name rate mode content at b on kept = grind (arith)

-- fewer octets than there was room for, or none: the recording is at its end
pub at-end : (start now : FolderState) (name : List ℕ) (at count : ℕ) (octets piece : List ℕ)
    → ReadTo start now name RECORDING_LIMIT (at + count) (octets ++ piece) → count ≤ 4096 →
    (count < 4096 → IsTrue (start.tells name) → octets ++ piece ≡ octets_at start name) → (count % 4 ≢ 0) ⊎ (count ≡ 0)
    → IsAtEnd start name (at + count)
at-end start now name at count octets piece r few all end told = grind (arith)

-- then it is the header and what was read
pub reads-all : (start now : FolderState) (name : List ℕ) (rate : Rate) (mode : Mode) (content : List ℕ) (at : ℕ)
    → ReadBehind start now name rate mode content at → IsAtEnd start name at → ReadsRecording start name rate mode content
reads-all start now name rate mode content at b end = record {
  within = b.read.within;
  read = λ told. sym (b.read.front told ∙ take_all at (octets_at start name) (end told));
}

-- what stands in the recording behind what was read, where that is told
rest_of : Bool → List ℕ → List ℕ
rest_of true rest = rest
rest_of false rest = []

rest-told : (b : Bool) (rest : List ℕ) → IsTrue b → rest_of b rest ≡ rest
unfolding rest_of
rest-told true rest told = refl
rest-told false rest told = cc told

-- A recording that begins with what was read, and the rest of it.
pub record GoesOnBy (start : FolderState) (name : List ℕ) (rate : Rate) (mode : Mode) (content : List ℕ) : Type 0 where
  pub rest : List ℕ
  pub reads : ReadsRecording start name rate mode (content ++ rest)

pub reads-first : (start now : FolderState) (name : List ℕ) (rate : Rate) (mode : Mode) (content : List ℕ) (at : ℕ)
    → ReadBehind start now name rate mode content at → GoesOnBy start name rate mode content
reads-first start now name rate mode content at b =
    let octets : List ℕ = octets_at start name in
    let rest : List ℕ = rest_of (start.tells name) (drop at octets) in
    record {
      rest = rest;
      reads = record {
        within = b.read.within;
        read = λ told. sym (take-append-drop at octets) ∙ ap (λ (xs : List ℕ). xs ++ drop at octets) (sym (b.read.front told))
            ∙ append_assoc (header_at rate mode) content (drop at octets)
            ∙ ap (λ (xs : List ℕ). header_at rate mode ++ (content ++ xs)) (sym (rest-told (start.tells name) (drop at octets) told));
      };
    }
