-- A frame with the check of 16 bits is read as itself.
use Rattle.command_laws.proofs.Names.{◌≡◌, ◌∙◌, ℕ, List, sym, ap, subst, Piece, Role}
use Rattle.frame_check.specs.declared.check.Check.TheVariants.{Sixteen}
use Rattle.frame_check.proofs.Checks.{fronts-one}
use Rattle.lapm_frames.specs.declared.frame.Frame.{Frame}
use Rattle.lapm_frames.specs.Frame.{FrameSpelling}
use Rattle.lapm_frames.specs.Checked.{check_heard, SpellsFrame}
use Rattle.lapm_frames.proofs.Exact.{never-both}
use Rattle.lapm_frames.proofs.Checking.{spells, spells-one}
use Rattle.command_base.specs.Readings.{Reading, ReadsWhole, ReadsPiece, reading_line}
use Rattle.command_laws.specs.Pickups.{FramesAreNamed}

read-so : (role : Role) (whole : List ℕ) (frame : Frame) (reading : Reading) → SpellsFrame Sixteen role 0 whole frame
    → ReadsWhole role whole reading → reading ≡ Reading.IsFrame frame
read-so role whole frame (Reading.IsFrame other) s t = ap Reading.IsFrame (spells-one Sixteen role 0 whole other frame t s)
read-so role whole frame (Reading.IsRefused fault) s t =
    absurd (never-both frame role 0 t.octets fault (subst (λ (xs : List ℕ). FrameSpelling frame role 0 xs)
    (fronts-one (check_heard Sixteen whole) s.octets t.octets whole s.passes t.passes) s.spelling) t.is_first)
read-so role whole frame (Reading.IsUnchecked count) s t = absurd (t.0 (record { octets = s.octets; checked = s.passes }))
read-so role whole frame Reading.IsRagged s t = absurd t
read-so role whole frame Reading.IsAborted s t = absurd t
read-so role whole frame Reading.IsTooLong s t = absurd t
read-so role whole frame Reading.IsTooShort s t = absurd t

pub frames-are-named : FramesAreNamed
frames-are-named role found frame line is whole octets l =
    let reads : ReadsWhole role found.octets l.reading = subst (λ (p : Piece). ReadsPiece role p found.octets l.reading) whole l.reads in
    let spelled : SpellsFrame Sixteen role 0 found.octets frame =
    subst (λ (xs : List ℕ). SpellsFrame Sixteen role 0 xs frame) (sym octets) (spells Sixteen role 0 frame is) in
    l.line_is ∙ ap reading_line (read-so role found.octets frame l.reading spelled reads)
