-- Samples that no line of a script displaces, up to some symbol.
use Rattle.line_run.proofs.Cited.{◌≡◌, ◌∙◌, ℕ, zero, suc, ◌+◌, ◌*◌, ◌-◌, ◌<◌, ◌≤◌, Bool, true, false, cond, ◌&&◌, All, List, [], ◌∷◌}
use Rattle.line_run.proofs.Cited.{length, map, refl, ap, arith, Some, None, All-head, All-nil, All-tail, lost-once, line_depth}
use Rattle.line_run.proofs.Cited.{line_trellis, comes-back, four-each, Demodulates, DisplacesNoneBefore, length-points, covers, ScriptValue}
use Rattle.line_run.proofs.Cited.{mode_of, LosesAt, Records, displaced, displaced_from, tap_of, same_role, Role, map_points, plus, point_of}
use Rattle.line_run.proofs.Cited.{Sample}
use Rattle.std.proofs.Common.{nat_le}
use Rattle.std.proofs.lemmas.Bool.Decides.{nat_tests}
use Rattle.std.proofs.lemmas.List.Elements.{All-same}
use Rattle.std.specs.Prelude.{ℤ, pos, ◌*ℤ◌, slice_index_or}
use Rattle.noise_bound.specs.Noiseless.{IsNoiseless}
use Rattle.noise_bound.proofs.Followed.{few-unreleased_at, never-lost, released-sent_at}
use Rattle.noise_script.specs.declared.entry.Hit.{Hit}
use Rattle.noise_script.specs.declared.entry.Noise.{Noise}
use Rattle.noise_script.specs.Offsets.{drawn_offset, nothing, hit_offset, noise_offset, stream_of, sum_of, word_at}
use Rattle.noise_script.specs.Offsets as offsets
use Rattle.line_run.proofs.Following.{Follows, all-of}

-- lines of a script that are for the other role, or for later symbols

quiet : {X : Type 0} (b : Bool) (from n symbol count : ℕ) (there none : X) → (b ≡ true → count ≤ from) → symbol < count
    → cond (b && covers from n symbol) there none ≡ none
quiet true from n symbol count there none late within =
    let least : count ≤ from = late refl in
    let before : nat_le from symbol ≡ false = grind (arith, nat_tests) in
    rw before refl
quiet false from n symbol count there none late within = refl

hits-none : (sender : Role) (symbol count : ℕ) (hits : List Hit) → symbol < count
    → All (λ (hit : Hit). same_role hit.role sender ≡ true → count ≤ hit.from) hits → sum_of (map (hit_offset sender symbol) hits) ≡ nothing
hits-none sender symbol count [] within h = refl
hits-none sender symbol count (hit ∷ hits) within h =
    let late : same_role hit.role sender ≡ true → count ≤ hit.from =
    All-head (λ (one : Hit). same_role one.role sender ≡ true → count ≤ one.from) hit hits h in
    let rest = hits-none sender symbol count hits within
    (All-tail (λ (one : Hit). same_role one.role sender ≡ true → count ≤ one.from) hit hits h) in
    ap (λ offset. offsets.plus (hit_offset sender symbol hit) offset) rest
    ∙ ap (λ offset. offsets.plus offset nothing)
    (quiet (same_role hit.role sender) hit.from hit.count symbol count (record { re = hit.re; im = hit.im }) nothing late within)

noises-none : (sender : Role) (symbol count : ℕ) (noises : List Noise) → symbol < count
    → All (λ (noise : Noise). same_role noise.role sender ≡ true → count ≤ noise.from) noises
    → sum_of (map (noise_offset sender symbol) noises) ≡ nothing
noises-none sender symbol count [] within h = refl
noises-none sender symbol count (noise ∷ noises) within h =
    let late : same_role noise.role sender ≡ true → count ≤ noise.from =
    All-head (λ (one : Noise). same_role one.role sender ≡ true → count ≤ one.from) noise noises h in
    let rest = noises-none sender symbol count noises within
    (All-tail (λ (one : Noise). same_role one.role sender ≡ true → count ≤ one.from) noise noises h) in
    ap (λ offset. offsets.plus (noise_offset sender symbol noise) offset) rest
    ∙ ap (λ offset. offsets.plus offset nothing)
    (quiet (same_role noise.role sender) noise.from noise.count symbol count
    (drawn_offset noise.amplitude (word_at noise.seed (stream_of noise.role) (symbol - noise.from))) nothing late within)

pub later-displace_none : (script : ScriptValue) (sender : Role) (count : ℕ)
    → All (λ (hit : Hit). same_role hit.role sender ≡ true → count ≤ hit.from) script.hits
    → All (λ (noise : Noise). same_role noise.role sender ≡ true → count ≤ noise.from) script.noises
    → DisplacesNoneBefore script sender count
later-displace_none script sender count hits noises symbol within =
    ap (λ offset. offsets.plus offset (sum_of (map (noise_offset sender symbol) script.noises)))
    (hits-none sender symbol count script.hits within hits)
    ∙ ap (offsets.plus nothing) (noises-none sender symbol count script.noises within noises)

pub empty-displaces_none : (script : ScriptValue) (sender : Role) (count : ℕ) → script.hits ≡ [] → script.noises ≡ []
    → DisplacesNoneBefore script sender count
empty-displaces_none script sender count hits noises = later-displace_none script sender count
    (All-same (λ (hit : Hit). same_role hit.role sender ≡ true → count ≤ hit.from) script.hits [] hits
    (All-nil (λ (hit : Hit). same_role hit.role sender ≡ true → count ≤ hit.from)))
    (All-same (λ (noise : Noise). same_role noise.role sender ≡ true → count ≤ noise.from) script.noises [] noises
    (All-nil (λ (noise : Noise). same_role noise.role sender ≡ true → count ≤ noise.from)))

-- points of the map stay where they are

abbrev at : ℤ × ℤ → Sample
at point = record { re = pos 2048 *ℤ point.0; im = pos 2048 *ℤ point.1 }

abbrev AllStay : List (ℤ × ℤ) → Type 0
AllStay [] = Unit {0}
AllStay (point ∷ points) = (displaced nothing (at point) ≡ at point) × AllStay points

all-stay : AllStay map_points
all-stay = (
  refl,
  (
    refl,
    (
      refl,
      (
        refl,
        (
          refl,
          (
            refl,
            (
              refl,
              (
                refl,
                (
                  refl,
                  (
                    refl,
                    (
                      refl,
                      (
                        refl,
                        (
                          refl,
                          (
                            refl,
                            (
                              refl,
                              (
                                refl,
                                (
                                  refl,
                                  (
                                    refl,
                                    (
                                      refl,
                                      (
                                        refl,
                                        (
                                          refl,
                                          (
                                            refl,
                                            (refl, (refl, (refl, (refl, (refl, (refl, (refl, (refl, (refl, (refl, tt)))))))))),
                                          ),
                                        ),
                                      ),
                                    ),
                                  ),
                                ),
                              ),
                            ),
                          ),
                        ),
                      ),
                    ),
                  ),
                ),
              ),
            ),
          ),
        ),
      ),
    ),
  ),
)

one-stays : (points : List (ℤ × ℤ)) (place : ℕ) → AllStay points
    → displaced nothing (at (slice_index_or points place (plus 0, plus 0))) ≡ at (slice_index_or points place (plus 0, plus 0))
one-stays [] place h = refl
one-stays (point ∷ points) zero h = h.0
one-stays (point ∷ points) (suc place) h = one-stays points place h.1

point-stays : (label : ℕ) → displaced nothing (point_of label) ≡ point_of label
point-stays label = one-stays map_points label all-stay

points-stay : (script : ScriptValue) (sender : Role) (count symbol : ℕ) (labels : List ℕ) → DisplacesNoneBefore script sender count
    → symbol + length labels ≤ count
    → displaced_from script sender symbol (map point_of labels) ≡ map point_of labels
points-stay script sender count symbol [] h few = refl
points-stay script sender count symbol (label ∷ labels) h few =
    ap (λ offset. displaced offset (point_of label) ∷ displaced_from script sender (symbol + 1) (map point_of labels))
    (h symbol (omega arith))
    ∙ ap (λ point. point ∷ displaced_from script sender (symbol + 1) (map point_of labels)) (point-stays label)
    ∙ ap (λ points. point_of label ∷ points) (points-stay script sender count (symbol + 1) labels h (omega arith))

-- the labels of a recording carry its bits
pub carried : (script : ScriptValue) (sender : Role) (bits : List Bool) (samples : List Sample) → (r : Records script sender bits samples)
    → Demodulates (tap_of (mode_of sender)) r.modulated.labels bits
carried script sender bits samples r =
    comes-back (tap_of (mode_of sender)) bits r.modulated.line r.modulated.quads r.modulated.labels r.modulated.end r.modulated.scrambled
    r.modulated.in_fours r.modulated.are_quads r.modulated.encoded

-- what is recorded of undisplaced symbols is without noise
pub recorded-noiseless : (script : ScriptValue) (sender : Role) (count : ℕ) (bits : List Bool) (samples : List Sample)
    → DisplacesNoneBefore script sender count → length bits ≤ 4 * count
    → (r : Records script sender bits samples) → IsNoiseless 0 r.modulated.labels samples
recorded-noiseless script sender count bits samples h few r =
    let fours = four-each (tap_of (mode_of sender)) r.modulated.labels bits (carried script sender bits samples r) in
    record {
      start_there = omega arith;
      end = r.modulated.end;
      leads = r.modulated.encoded.leads;
      exact = r.samples_are ∙ ap (displaced_from script sender 0) r.modulated.points
          ∙ points-stay script sender count 0 r.modulated.labels h (omega (arith, few, fours));
    }

none-at : (sender : Role) (script : ScriptValue) (count : ℕ) (bits : List Bool) (symbol : ℕ) → DisplacesNoneBefore script sender count
    → length bits ≤ 4 * count → LosesAt sender script bits symbol → ⊥
none-at sender script count bits symbol h few l =
    let never = never-lost 0 line_depth l.recorded.modulated.labels l.samples
    (recorded-noiseless script sender count bits l.samples h few l.recorded) (omega arith) in
    let both : Some symbol ≡ None = lost-once line_trellis line_depth l.samples (Some symbol) None l.lost never in
    absurd cc

-- so a decoder follows it
pub undisplaced-followed : (script : ScriptValue) (sender : Role) (count : ℕ) → DisplacesNoneBefore script sender count
    → Follows 96 script sender count
undisplaced-followed script sender count h = record {
  sent = λ bits samples labels few r released.
      released-sent_at 0 r.modulated.labels samples (length samples) labels (recorded-noiseless script sender count bits samples h few r)
      (all-of samples labels released);
  few = λ bits samples labels few r released.
      let noiseless = recorded-noiseless script sender count bits samples h few r in
      let long : length samples ≡ length r.modulated.labels = ap length noiseless.exact ∙ length-points r.modulated.labels in
      omega (
        arith,
        long,
        few-unreleased_at 0 r.modulated.labels samples (length samples) labels (omega arith) noiseless
            (all-of samples labels released),
      );
  goes_on = λ bits symbol few l. none-at sender script count bits symbol h few l;
}
