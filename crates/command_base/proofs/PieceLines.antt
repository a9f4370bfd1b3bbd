-- Lines of pieces, one more at a time.
use Rattle.command_base.proofs.Names.{arith, ◌≡◌, ◌∙◌, ℕ, List, [], ◌∷◌, ◌++◌, length, Result, Ok, Err, refl, sym, ap, append-nil}
use Rattle.command_base.proofs.Names.{append_assoc, Found, Piece, IsLine, AreLines, Role}
use Rattle.std.proofs.Common.{◌↔◌, IfOk}
use Rattle.frame_check.specs.declared.check.Check.TheVariants.{Sixteen}
use Rattle.lapm_frames.specs.declared.frame.Frame.{Frame}
use Rattle.lapm_frames.specs.declared.fault.CheckedFault.{CheckedFault}
use Rattle.lapm_frames.specs.declared.fault.CheckedFault.TheVariants as checks
use Rattle.lapm_frames.specs.Checked.{IsCheckedFault, SpellsFrame}
use Rattle.command_base.specs.Readings.{Reading, ReadsWhole, ReadsPiece, reading_of, reading_line}

-- what a whole piece of these octets is, by how it was read
pub whole-read : (sender : Role) (octets : List ℕ) (read : Result Frame CheckedFault) → IfOk read (SpellsFrame Sixteen sender 0 octets)
    → ((fault : CheckedFault) → (read ≡ Err fault) ↔ IsCheckedFault Sixteen sender 0 octets fault)
    → ReadsWhole sender octets (reading_of read (length octets))
whole-read sender octets (Ok frame) ok fault = ok
whole-read sender octets (Err (checks.Refused why)) ok fault = (fault (checks.Refused why)).0 refl
whole-read sender octets (Err checks.BadCheck) ok fault = ((fault checks.BadCheck).0 refl, refl)

-- the line of a piece of that kind and of these octets
pub line-of : (sender : Role) (found : Found) (piece : Piece) (octets : List ℕ) (reading : Reading) (line : List ℕ)
    → found.piece ≡ piece → found.octets ≡ octets → ReadsPiece sender piece octets reading → line ≡ reading_line reading
    → IsLine sender found line
line-of sender found piece octets reading line p o reads e = grind (arith)

-- the lines of one piece more
pub AreLines-more : (sender : Role) (pieces : List Found) (found : Found) (lines line : List ℕ)
    → AreLines sender pieces lines → IsLine sender found line → AreLines sender (pieces ++ found ∷ []) (lines ++ line)
AreLines-more sender [] found lines line e is =
    (is.reading, [], is.reads, ap (λ xs. xs ++ line) e ∙ is.line_is ∙ sym (append-nil (reading_line is.reading)), refl)
AreLines-more sender (first ∷ pieces) found lines line (one, rest, reads, e, more) is = (
  one,
  rest ++ line,
  reads,
  ap (λ xs. xs ++ line) e ∙ append_assoc (reading_line one) rest line,
  AreLines-more sender pieces found rest line more is,
)
