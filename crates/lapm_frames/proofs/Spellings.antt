-- A spelling is that of one frame: its octets give the frame back.
use Rattle.lapm_frames.proofs.Names.{◌≡◌, ℕ, List, sym, ◌∙◌, ap, control_octet, tail_octets, FrameSpelling, parts_of, Frame, Role}
use Rattle.lapm_frames.proofs.Forms.{frame_at, frame_at-parts}
use Rattle.lapm_frames.proofs.Beginnings.{spelling-has}

-- frames of one spelling are one frame
pub frames-one : (frame other : Frame) (sender : Role) (dlci : ℕ) (octets : List ℕ) → FrameSpelling frame sender dlci octets
    → FrameSpelling other sender dlci octets → frame ≡ other
frames-one frame other sender dlci octets h k =
    let p = spelling-has frame sender dlci (parts_of other).command (control_octet (parts_of other)) (tail_octets (parts_of other))
    (h.0, sym k.1 ∙ h.1) in
    sym (frame_at-parts frame)
    ∙ ap (λ b. frame_at b (control_octet (parts_of frame)) (tail_octets (parts_of frame))) p.0.command_is
    ∙ ap (λ n. frame_at (parts_of other).command n (tail_octets (parts_of frame))) p.0.control_is
    ∙ ap (frame_at (parts_of other).command (control_octet (parts_of other))) (sym p.1)
    ∙ frame_at-parts other
