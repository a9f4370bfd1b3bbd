-- A decoder follows a line whose noise is faint.
use Rattle.line_run.proofs.Cited.{◌≡◌, ◌∙◌, ℕ, zero, suc, ◌+◌, ◌*◌, ◌<◌, ◌≤◌, Bool, true, false, ◌&&◌, List, [], ◌∷◌, length, map, refl}
use Rattle.line_run.proofs.Cited.{sym, ap, arith, Some, None, lost-once, line_depth, line_trellis, four-each, IsFaintBefore, squares_from}
use Rattle.line_run.proofs.Cited.{squares_of, UndisplacedIsFaint, DisplacesNoneBefore, length-points, ScriptValue, offset_of, mode_of}
use Rattle.line_run.proofs.Cited.{Records, displaced, displaced_from, saturated, tap_of, Role, point_of, Sample}
use Rattle.std.proofs.Common.{if◌then◌else◌}
use Rattle.std.proofs.Common.{ℤ, pos, neg_ℤ, ◌+ℤ◌, ◌-ℤ◌, ◌≤ℤ◌, int_lt, int_le, unsigned_abs}
use Rattle.std.proofs.lemmas.Bool.{and_parts}
use Rattle.std.proofs.lemmas.Int.{ints}
use Rattle.std.proofs.lemmas.Nat.{mul-le}
use Rattle.symbol_map.specs.Distance.{distance_of}
use Rattle.symbol_map.specs.Finite.{each_below, at_each}
use Rattle.trellis_tables.specs.Laws.{far_from}
use Rattle.trellis_tables.specs.Sequences.{Leads, cost}
use Rattle.trellis_tables.specs.Table.{next_state}
use Rattle.trellis_tables.proofs.Tables.{branch_of}
use Rattle.noise_bound.specs.Near.{only, sure, IsNear}
use Rattle.noise_bound.proofs.Near.{few-unreleased, never-lost, releases-near}
use Rattle.noise_script.specs.declared.offset.Offset.{Offset}
use Rattle.line_run.proofs.Following.{Follows, all-of}
use Rattle.line_run.proofs.Undisplaced.{carried}

-- a coordinate that fits 16 bits
abbrev Fits : ℤ → Type 0
Fits p = (neg_ℤ (pos 32768) ≤ℤ p) × (p ≤ℤ pos 32767)

-- a displaced coordinate is no farther from where it was than it was moved
held : (offset p : ℤ) → Fits p → unsigned_abs (p -ℤ saturated (offset +ℤ p)) ≤ unsigned_abs offset
held offset p (low, high) = by (int_lt (offset +ℤ p) (neg_ℤ (pos 32768))) (int_lt (pos 32767) (offset +ℤ p)) refl refl
  where
    by : (below above : Bool) → int_lt (offset +ℤ p) (neg_ℤ (pos 32768)) ≡ below → int_lt (pos 32767) (offset +ℤ p) ≡ above
        → unsigned_abs (p -ℤ (if below then neg_ℤ (pos 32768) else (if above then pos 32767 else (offset +ℤ p)))) ≤ unsigned_abs offset
    by true above e f = omega (arith, ints)
    by false true e f = omega (arith, ints)
    by false false e f = omega (arith, ints)

-- points fit
abbrev coordinate_fits : ℤ → Bool
coordinate_fits p = int_le (neg_ℤ (pos 32768)) p && int_le p (pos 32767)

coordinate : (p : ℤ) → coordinate_fits p ≡ true → Fits p
coordinate p h = let both = and_parts (int_le (neg_ℤ (pos 32768)) p) (int_le p (pos 32767)) h in
    (omega (arith, ints, both.0), omega (arith, ints, both.1))

abbrev point_fits : ℕ → Bool
point_fits label = coordinate_fits (point_of label).re && coordinate_fits (point_of label).im

fits_test : each_below 32 point_fits ≡ true
fits_test = refl

point-fits : (label : ℕ) → label < 32 → Fits (point_of label).re × Fits (point_of label).im
point-fits label low =
    let both = and_parts (coordinate_fits (point_of label).re) (coordinate_fits (point_of label).im)
    (at_each 32 point_fits fits_test label low) in
    (coordinate (point_of label).re both.0, coordinate (point_of label).im both.1)

moved : (offset : Offset) (point : Sample) → Fits point.re → Fits point.im → distance_of point (displaced offset point) ≤ squares_of offset
moved offset point re im =
    let a = held offset.re point.re re in
    let b = held offset.im point.im im in
    omega (
      arith,
      mul-le (unsigned_abs (point.re -ℤ saturated (offset.re +ℤ point.re))) (unsigned_abs (point.re -ℤ saturated (offset.re +ℤ point.re)))
          (unsigned_abs offset.re) (unsigned_abs offset.re) a a,
      mul-le (unsigned_abs (point.im -ℤ saturated (offset.im +ℤ point.im))) (unsigned_abs (point.im -ℤ saturated (offset.im +ℤ point.im)))
          (unsigned_abs offset.im) (unsigned_abs offset.im) b b,
    )

-- so labels cost no more against their displaced points than the squares of the offsets
moved-cost : (script : ScriptValue) (sender : Role) (symbol from to : ℕ) (labels : List ℕ) → Leads next_state from labels to
    → cost far_from labels (displaced_from script sender symbol (map point_of labels)) ≤ squares_from script sender symbol (length labels)
moved-cost script sender symbol from to [] l = omega arith
moved-cost script sender symbol from to (label ∷ labels) (mid, e, l) =
    let fits = point-fits label (branch_of from label mid e).in_labels in
    omega (
      arith,
      moved (offset_of script sender symbol) (point_of label) fits.0 fits.1,
      moved-cost script sender (symbol + 1) mid to labels l,
    )

squares-more : (script : ScriptValue) (sender : Role) (symbol n m : ℕ) → n ≤ m
    → squares_from script sender symbol n ≤ squares_from script sender symbol m
squares-more script sender symbol zero m h = omega arith
squares-more script sender symbol (suc n) zero h = absurd (omega arith)
squares-more script sender symbol (suc n) (suc m) h = omega (arith, squares-more script sender (symbol + 1) n m (omega arith))

length-displaced : (script : ScriptValue) (sender : Role) (symbol : ℕ) (points : List Sample)
    → length (displaced_from script sender symbol points) ≡ length points
length-displaced script sender symbol [] = refl
length-displaced script sender symbol (point ∷ points) = omega (arith, length-displaced script sender (symbol + 1) points)

-- what is recorded of faintly displaced symbols is near what was sent
recorded-near : (script : ScriptValue) (sender : Role) (count : ℕ) (bits : List Bool) (samples : List Sample)
    → IsFaintBefore script sender count → length bits ≤ 4 * count
    → (r : Records script sender bits samples) → IsNear sure (only 0) r.modulated.labels samples
recorded-near script sender count bits samples h few r =
    let labels : List ℕ = r.modulated.labels in
    let fours = four-each (tap_of (mode_of sender)) labels bits (carried script sender bits samples r) in
    let are : samples ≡ displaced_from script sender 0 (map point_of labels) =
    r.samples_are ∙ ap (displaced_from script sender 0) r.modulated.points in
    let long : length labels ≡ length samples =
    sym (ap length are ∙ length-displaced script sender 0 (map point_of labels) ∙ length-points labels) in
    let price : cost far_from labels samples ≡ cost far_from labels (displaced_from script sender 0 (map point_of labels)) =
    ap (cost far_from labels) are in
    record {
      end = r.modulated.end;
      sequence = record { code_sequence = record { from = 0; starts_there = refl; leads = r.modulated.encoded.leads }; same_length = long };
      near = omega (
        arith,
        price,
        moved-cost script sender 0 0 r.modulated.end labels r.modulated.encoded.leads,
        squares-more script sender 0 (length labels) count (omega (arith, few, fours)),
        h,
      );
    }

pub faint-followed : (script : ScriptValue) (sender : Role) (count : ℕ) → IsFaintBefore script sender count
    → Follows 504 script sender count
faint-followed script sender count h = record {
  sent = λ bits samples labels few r released.
      releases-near 0 (length samples) r.modulated.labels labels samples (recorded-near script sender count bits samples h few r)
      (all-of samples labels released);
  few = λ bits samples labels few r released.
      let near = recorded-near script sender count bits samples h few r in
      omega (
        arith,
        near.sequence.same_length,
        few-unreleased 0 (length samples) r.modulated.labels labels samples (omega arith) near (all-of samples labels released),
      );
  goes_on = λ bits symbol few l.
      let never = never-lost 0 line_depth l.recorded.modulated.labels l.samples
      (recorded-near script sender count bits l.samples h few l.recorded) (omega arith) in
      let both : Some symbol ≡ None = lost-once line_trellis line_depth l.samples (Some symbol) None l.lost never in
      absurd cc;
}

-- nothing is added where no symbol is displaced
none-added : (script : ScriptValue) (sender : Role) (symbol count most : ℕ) → symbol + count ≤ most → DisplacesNoneBefore script sender most
    → squares_from script sender symbol count ≡ 0
none-added script sender symbol zero most within h = refl
none-added script sender symbol (suc count) most within h =
    let here : squares_of (offset_of script sender symbol) ≡ 0 = ap squares_of (h symbol (omega arith)) in
    let rest : squares_from script sender (symbol + 1) count ≡ 0 = none-added script sender (symbol + 1) count most (omega arith) h in
    omega arith

pub undisplaced-is-faint : UndisplacedIsFaint
undisplaced-is-faint script sender count h = let none = none-added script sender 0 count count (omega arith) h in omega (arith, none)
