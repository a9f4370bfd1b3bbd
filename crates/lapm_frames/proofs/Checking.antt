-- Frames with their check: the octets tell by which check they are judged, and are one frame or have one fault.
use Rattle.lapm_frames.proofs.Names.{Bool, true, false, ◌≡◌, ℕ, ◌-◌, ◌*◌, ◌%◌, nat_eq, if◌then◌else◌, is_some, List, length, take, Result}
use Rattle.lapm_frames.proofs.Names.{Ok, Err, refl, sym, ◌∙◌, ap, subst, arith, IfOk, IfErr, ◌↔◌, Sixteen, check_for, SpellsFrame}
use Rattle.lapm_frames.proofs.Names.{FirstFault, FrameSpelling, IsFrame, control_octet, spelled, parts_of, Refused, Frame, Role}
use Rattle.std.specs.Prelude.{slice_index_or}
use Rattle.std.proofs.lemmas.Bool.{ne_eqb}
use Rattle.frame_check.specs.declared.check.Check.{Check}
use Rattle.frame_check.specs.FrameCheck.{IsChecked, Passes}
use Rattle.frame_check.specs.Division.{with_check, count_of}
use Rattle.frame_check.proofs.Checks.{front-checked, fronts-one, with_check-is, with_check-one}
use Rattle.lapm_frames.specs.declared.fault.CheckedFault.{CheckedFault}
use Rattle.lapm_frames.specs.declared.fault.CheckedFault.TheVariants.{BadCheck}
use Rattle.lapm_frames.specs.Checked.{check_heard, checked, IsCheckedFault}
use Rattle.lapm_frames.proofs.Forms.{by_form}
use Rattle.lapm_frames.proofs.Controls.{three}
use Rattle.lapm_frames.proofs.Exact.{faults-one, never-both}
use Rattle.lapm_frames.proofs.Spellings.{frames-one}

-- the control octet of a frame tells its check
heard-control : (check : Check) (frame : Frame)
    → (if nat_eq (control_octet (parts_of frame) % 4) 3 then Sixteen else check) ≡ check_for check frame
heard-control check =
    by_form (λ parts. (if nat_eq (control_octet parts % 4) 3 then Sixteen else check) ≡ (if is_some parts.nr then check else Sixteen))
    (λ ns nr pf info. let even : nat_eq (2 * ns % 4) 3 ≡ false = ne_eqb (2 * ns % 4) 3 (λ e. omega (arith, e)) in rw even refl)
    (λ name control command nr pf k. rw k.odd refl)
    (λ name control command pf info k. rw (three control pf k.odd) refl)

-- octets with a frame in front have its check
pub kind-heard : (check kind : Check) (sender : Role) (dlci : ℕ) (frame : Frame)
    → check_heard check (with_check kind (spelled frame sender dlci)) ≡ check_for check frame
kind-heard check kind sender dlci frame = heard-control check frame

-- a frame's octets with its check spell it
pub spells : (check : Check) (sender : Role) (dlci : ℕ) (frame : Frame) → IsFrame frame
    → SpellsFrame check sender dlci (checked check sender dlci frame) frame
spells check sender dlci frame is = record {
  octets = spelled frame sender dlci;
  passes = subst (λ (kind : Check). IsChecked kind (spelled frame sender dlci) (checked check sender dlci frame))
      (sym (kind-heard check (check_for check frame) sender dlci frame))
      (with_check-is (check_for check frame) (spelled frame sender dlci));
  spelling = (is, refl);
}

-- and no others do
pub spelled-checked : (check : Check) (sender : Role) (dlci : ℕ) (whole : List ℕ) (frame : Frame)
    → SpellsFrame check sender dlci whole frame → whole ≡ checked check sender dlci frame
spelled-checked check sender dlci whole frame s =
    let used : Check = check_heard check whole in
    let is : whole ≡ with_check used (spelled frame sender dlci) =
    with_check-one used s.octets whole s.passes ∙ ap (with_check used) s.spelling.1 in
    let kind : used ≡ check_for check frame = ap (check_heard check) is ∙ kind-heard check used sender dlci frame in
    is ∙ ap (λ (k : Check). with_check k (spelled frame sender dlci)) kind

-- octets spell one frame
pub spells-one : (check : Check) (sender : Role) (dlci : ℕ) (whole : List ℕ) (frame other : Frame)
    → SpellsFrame check sender dlci whole frame → SpellsFrame check sender dlci whole other → frame ≡ other
spells-one check sender dlci whole frame other s t =
    frames-one frame other sender dlci t.octets
    (subst (λ (xs : List ℕ). FrameSpelling frame sender dlci xs)
    (fronts-one (check_heard check whole) s.octets t.octets whole s.passes t.passes) s.spelling) t.spelling

-- octets are a frame or have one fault, and never both

never-checked : (check : Check) (sender : Role) (dlci : ℕ) (whole : List ℕ) (frame : Frame) (fault : CheckedFault)
    → SpellsFrame check sender dlci whole frame → IsCheckedFault check sender dlci whole fault → ⊥
never-checked check sender dlci whole frame BadCheck s n = n (record { octets = s.octets; checked = s.passes })
never-checked check sender dlci whole frame (Refused fault) s t =
    never-both frame sender dlci t.octets fault
    (subst (λ (xs : List ℕ). FrameSpelling frame sender dlci xs)
    (fronts-one (check_heard check whole) s.octets t.octets whole s.passes t.passes) s.spelling) t.is_first

checked-fault-one : (check : Check) (sender : Role) (dlci : ℕ) (whole : List ℕ) (fault other : CheckedFault)
    → IsCheckedFault check sender dlci whole fault → IsCheckedFault check sender dlci whole other → fault ≡ other
checked-fault-one check sender dlci whole BadCheck BadCheck n m = refl
checked-fault-one check sender dlci whole BadCheck (Refused other) n t = absurd (n (record { octets = t.octets; checked = t.passes }))
checked-fault-one check sender dlci whole (Refused fault) BadCheck t n = absurd (n (record { octets = t.octets; checked = t.passes }))
checked-fault-one check sender dlci whole (Refused fault) (Refused other) s t =
    ap Refused (faults-one sender dlci t.octets fault other
    (subst (λ (xs : List ℕ). FirstFault sender dlci xs fault)
    (fronts-one (check_heard check whole) s.octets t.octets whole s.passes t.passes) s.is_first) t.is_first)

-- an answer that is right is the one answer

pub all-checked : (check : Check) (sender : Role) (dlci : ℕ) (whole : List ℕ) (r : Result Frame CheckedFault)
    → IfOk r (SpellsFrame check sender dlci whole) → IfErr r (IsCheckedFault check sender dlci whole)
    → (frame : Frame) → SpellsFrame check sender dlci whole frame → r ≡ Ok frame
all-checked check sender dlci whole (Ok found) ok err frame s = ap Ok (spells-one check sender dlci whole found frame ok s)
all-checked check sender dlci whole (Err fault) ok err frame s = absurd (never-checked check sender dlci whole frame fault s err)

pub all-checked-faults : (check : Check) (sender : Role) (dlci : ℕ) (whole : List ℕ) (r : Result Frame CheckedFault)
    → IfOk r (SpellsFrame check sender dlci whole) → IfErr r (IsCheckedFault check sender dlci whole)
    → (fault : CheckedFault) → (r ≡ Err fault) ↔ IsCheckedFault check sender dlci whole fault
all-checked-faults check sender dlci whole r ok err fault =
    ((λ e. subst (λ x. IfErr x (IsCheckedFault check sender dlci whole)) e err), back r ok err)
  where
    back : (r : Result Frame CheckedFault) → IfOk r (SpellsFrame check sender dlci whole) → IfErr r (IsCheckedFault check sender dlci whole)
        → IsCheckedFault check sender dlci whole fault → r ≡ Err fault
    back (Ok frame) ok err h = absurd (never-checked check sender dlci whole frame fault ok h)
    back (Err found) ok err h = ap Err (checked-fault-one check sender dlci whole found fault err h)

-- what is read in front of the check

pub front-is : (check used : Check) (whole front : List ℕ) (len : ℕ) → used ≡ check_heard check whole → Passes used whole
    → len ≡ count_of used → front ≡ take (length whole - len) whole → IsChecked (check_heard check whole) front whole
front-is check used whole front len heard p count cut =
    let there : p.octets ≡ front =
    front-checked used p.octets whole p.checked ∙ ap (λ n. take (length whole - n) whole) (sym count) ∙ sym cut in
    subst (λ (k : Check). IsChecked k front whole) heard (subst (λ (xs : List ℕ). IsChecked used xs whole) there p.checked)

-- the frame alone

-- ends that agreed on the check of 16 bits judge all octets by it
pub sixteen-heard : (whole : List ℕ) → check_heard Sixteen whole ≡ Sixteen
sixteen-heard whole = either (nat_eq (slice_index_or whole 1 0 % 4) 3)
  where
    either : (b : Bool) → (if b then Sixteen else Sixteen) ≡ Sixteen
    either true = refl
    either false = refl
