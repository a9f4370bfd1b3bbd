-- From single steps to how a listing ends.
use Rattle.frame_commands.proofs.Names.{◌≡◌, ◌∙◌, inl, ℕ, ◌+◌, IsTrue, List, [], ◌++◌, refl, sym, ap, subst, Stop, Own, Say, HeardTo, Begun}
use Rattle.frame_commands.proofs.Names.{FramesNames, OnlyOutputs-reads, OnlyOutputs-says, OnlyOutputs-trans, FolderState, octets_at, Said}
use Rattle.frame_commands.proofs.Names.{FILE_LIMIT}
use Rattle.std.proofs.Common.{Bool, true, false, append-nil}
use Rattle.std.proofs.Common.{append_assoc}
use Rattle.shared_terms.specs.Prefix.{IsPrefixOf}
use Rattle.outside_calls.specs.Folder.{OnlyReads, OnlySays}
use Rattle.frame_check.specs.Bits.{bits_of}
use Rattle.frame_check.proofs.BitLists.{bits_of-append}
use Rattle.bit_stuffing.specs.Found.{pieces_of}
use Rattle.bit_stuffing.proofs.Sent.{pieces-stay}
use Rattle.shared_terms.specs.declared.role.Role.{Role}
use Rattle.command_base.specs.declared.stop.Stop.TheVariants.{Read, Write, NoMemory}
use Rattle.command_base.specs.Inputs.{IsNotWithin, ReadTo}
use Rattle.command_base.proofs.Reading.{ReadTo-none, ReadTo-kept, ReadTo-begins}
use Rattle.command_base.specs.Readings.{AreLines}
use Rattle.command_base.specs.Heard.{Listening, Heard, PartlyHeard}
use Rattle.command_base.proofs.Hearing.{said-after, heard-after}
use Rattle.frame_commands.specs.Listing.Ends.{SaysAll, AreFirst, SaysFirst, SaysPart, EndsBy}

-- Lines of the pieces in bits with which the bits of octets begin, where the file begins with these octets: so they are the
-- lines of the file's first pieces.
are-first : (start : FolderState) (n : FramesNames) (octets : List ℕ) (heard rest : List Bool) (lines : List ℕ)
    → (IsTrue (start.tells n.bits) → IsPrefixOf octets (octets_at start n.bits)) →
    bits_of octets ≡ heard ++ rest → AreLines n.sender (pieces_of heard) lines → AreFirst start n lines
are-first start n octets heard rest lines front bits are = by (start.tells n.bits) refl
  where
    first : (all : List ℕ) (more : List Bool) → (IsTrue (start.tells n.bits) → all ≡ octets_at start n.bits) → bits_of all ≡ heard ++ more
        → AreFirst start n lines
    first all more read e =
        let added = pieces-stay heard more in
        record {
          octets = all;
          read = read;
          told = pieces_of heard;
          rest = added.0;
          pieces_are = ap pieces_of e ∙ added.1.all;
          are_lines = are;
        }

    by : (told : Bool) → start.tells n.bits ≡ told → AreFirst start n lines
    by true e =
        let f = front e in
        first (octets ++ f.0) (rest ++ bits_of f.0) (λ told. f.1) (bits_of-append octets f.0 ∙ ap (λ xs. xs ++ bits_of f.0) bits
        ∙ append_assoc heard rest (bits_of f.0))
    by false e = first octets rest (λ told. absurd (untold (sym e ∙ told))) bits
      where
        untold : false ≡ true → ⊥
        untold h = cc

heard-first : (start old : FolderState) (n : FramesNames) (l : Listening) (at : ℕ) (h : HeardTo start old n l at)
    → AreFirst start n h.heard.lines
heard-first start old n l at h =
    are-first start n h.octets (bits_of h.octets) [] h.heard.lines (ReadTo-begins start old n.bits FILE_LIMIT at h.octets h.read)
    (sym (append-nil (bits_of h.octets)))
    (subst (λ (role : Role). AreLines role (pieces_of (bits_of h.octets)) h.heard.lines) h.sender_is h.heard.are_lines)

-- the lines of what was heard so far are said, also after a read
pub heard-part : (start old mid : FolderState) (n : FramesNames) (l : Listening) (at : ℕ) → HeardTo start old n l at → OnlyReads old mid
    → SaysFirst start mid n
heard-part start old mid n l at h reads =
    (h.heard.lines, heard-first start old n l at h, said-after start old mid h.heard.lines reads h.heard.said)

-- the file is too long, or no octet was read at its limit
pub not-begun : (old new : FolderState) (n : FramesNames) (stop : Stop) → Said old old [] → OnlyReads old new
    → IsNotWithin old new n.bits FILE_LIMIT 2 stop → EndsBy old new n stop
not-begun old new n (Own answer) nothing reads long = (long.0, reads.said ∙ nothing, long.1)
not-begun old new n (Read fault) nothing reads fails = inl (reads.said ∙ nothing)
not-begun old new n (Write fault) nothing reads never = never
not-begun old new n (Say fault) nothing reads never = absurd never
not-begun old new n NoMemory nothing reads never = never

-- a piece more was heard
pub heard-more : (start old mid new : FolderState) (n : FramesNames) (l next : Listening) (at count : ℕ) (piece : List ℕ)
    (h : HeardTo start old n l at) →
    ReadTo start mid n.bits FILE_LIMIT (at + count) (h.octets ++ piece) → OnlyReads old mid → OnlySays mid new → next.sender ≡ l.sender →
    ((start : FolderState) (bits : List Bool) → Heard start mid l bits → Heard start new next (bits ++ bits_of piece))
    → HeardTo start new n next (at + count)
heard-more start old mid new n l next at count piece h read reads says sender hears = record {
  octets = h.octets ++ piece;
  read = ReadTo-kept start mid new n.bits FILE_LIMIT (at + count) (h.octets ++ piece) read says.goes_on (says.names n.bits);
  sender_is = sender ∙ h.sender_is;
  heard = subst (λ (bits : List Bool). Heard start new next bits) (sym (bits_of-append h.octets piece))
      (hears start (bits_of h.octets) (heard-after start old mid l (bits_of h.octets) reads h.heard));
  only = OnlyOutputs-trans [] h.only (OnlyOutputs-trans [] (OnlyOutputs-reads [] reads) (OnlyOutputs-says [] says));
}

-- nothing more was heard at a read
pub heard-still : (start old mid : FolderState) (n : FramesNames) (l : Listening) (at : ℕ) → HeardTo start old n l at → OnlyReads old mid
    → HeardTo start mid n l at
heard-still start old mid n l at h reads = record {
  octets = h.octets;
  read = ReadTo-kept start old mid n.bits FILE_LIMIT at h.octets h.read reads.goes_on (reads.names n.bits);
  sender_is = h.sender_is;
  heard = heard-after start old mid l (bits_of h.octets) reads h.heard;
  only = OnlyOutputs-trans [] h.only (OnlyOutputs-reads [] reads);
}

-- a line of the next piece was not said
pub say-part : (start old mid new : FolderState) (n : FramesNames) (l : Listening) (at count : ℕ) (piece : List ℕ)
    (h : HeardTo start old n l at) →
    ReadTo start mid n.bits FILE_LIMIT (at + count) (h.octets ++ piece) → OnlyReads old mid →
    ((start : FolderState) (bits : List Bool) → Heard start mid l bits → PartlyHeard start new l.sender (bits ++ bits_of piece))
    → SaysPart start new n
say-part start old mid new n l at count piece h read reads hears =
    let partly : PartlyHeard start new l.sender (bits_of h.octets ++ bits_of piece) =
    hears start (bits_of h.octets) (heard-after start old mid l (bits_of h.octets) reads h.heard) in (
      partly.lines,
      are-first start n (h.octets ++ piece) partly.heard partly.rest partly.lines
          (ReadTo-begins start mid n.bits FILE_LIMIT (at + count) (h.octets ++ piece) read)
          (bits_of-append h.octets piece ∙ partly.bits_are)
          (subst (λ (role : Role). AreLines role (pieces_of partly.heard) partly.lines) h.sender_is partly.are_lines),
      partly.said,
    )

-- the file is at its end
pub heard-whole : (start old mid : FolderState) (n : FramesNames) (l : Listening) (at : ℕ) (h : HeardTo start old n l at)
    → OnlyReads old mid → (IsTrue (start.tells n.bits) → h.octets ++ [] ≡ octets_at start n.bits) →
    SaysAll start mid n l.pieces
heard-whole start old mid n l at h reads end = record {
  octets = h.octets;
  within = h.read.within;
  read = λ told. sym (append-nil h.octets) ∙ end told;
  lines = h.heard.lines;
  are_lines = subst (λ (role : Role). AreLines role (pieces_of (bits_of h.octets)) h.heard.lines) h.sender_is h.heard.are_lines;
  said = said-after start old mid h.heard.lines reads h.heard.said;
  count_is = h.heard.count;
}

-- before the first octet
pub heard-none-yet : (start old : FolderState) (n : FramesNames) (l : Listening) → Begun start old n → l.sender ≡ n.sender
    → ((start : FolderState) → Heard start start l []) → HeardTo start old n l 0
heard-none-yet start old n l b sender heard = record {
  octets = [];
  read = ReadTo-none start old n.bits FILE_LIMIT b.within b.reads.goes_on (b.reads.names n.bits);
  sender_is = sender;
  heard = heard-after start start old l [] b.reads (heard start);
  only = OnlyOutputs-reads [] b.reads;
}
