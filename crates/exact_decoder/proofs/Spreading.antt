-- How far sums are apart.
use Rattle.exact_decoder.proofs.Names.{◌≡◌, ℕ, zero, suc, ◌+◌, ◌-◌, ◌*◌, ◌^◌, ◌<◌, ◌≤◌, min, inl, inr, true, List, [], ◌∷◌, length, All}
use Rattle.exact_decoder.proofs.Names.{Option, Some, None, option_map, arith, length-append, refl, sym, ◌∙◌, ap, subst, min-le_left}
use Rattle.exact_decoder.proofs.Names.{min-eq_left, min-eq_right, cases_lt, same_Some, SteppedEach, Entry, branch_of, sum_of, sums_at}
use Rattle.exact_decoder.proofs.Names.{entry_at, new_sums_at, Decoding, IsSound, Kept, AllChosen, Stepped, Released, Enters, Chooses}
use Rattle.exact_decoder.proofs.Names.{Trellis, trellis_of, distance_of, Sample, Leads-front, IsBounded, StaysWithin, Reaches, Leads}
use Rattle.exact_decoder.proofs.Surviving.Snoc.{snoc_of}
use Rattle.exact_decoder.specs.Memory.{opened}
use Rattle.exact_decoder.specs.Decoder.{IsNearAfter, IsSpread}

-- an entry with the sum that stands
entered-some : {X : Type 0} (c : Trellis X) (d : X) (sums : ℕ → Option ℕ) (s m : ℕ) (entry : Option Entry)
    → option_map sum_of entry ≡ Some m → Chooses c d sums s (option_map branch_of entry) (option_map sum_of entry)
    → (e : Entry) × (entry ≡ Some e) × Enters c d sums s (branch_of e) m
entered-some c d sums s m entry e h = grind (arith, branch_of)

enters-at : (table : ℕ → ℕ → Option ℕ) (points : ℕ → Sample) (sample : Sample) (sums : List (Option ℕ)) (entries : List (Option Entry))
    (s m : ℕ) → AllChosen table points sample sums entries → new_sums_at entries s ≡ Some m
    → (e : Entry) × (entry_at entries s ≡ Some e) × Enters (trellis_of table points (λ s. true)) sample (sums_at sums) s (branch_of e) m
enters-at table points sample sums entries s m h e = entered-some (trellis_of table points (λ s. true)) sample _ _ _ _ e (h (λ s. true) s)

-- a branch into a state bounds its sum
sum-through : (table : ℕ → ℕ → Option ℕ) (points : ℕ → Sample) (sample : Sample) (sums : List (Option ℕ)) (entries : List (Option Entry))
    (mid label to m : ℕ) → AllChosen table points sample sums entries → table mid label ≡ Some to → sums_at sums mid ≡ Some m
    → (n : ℕ) × (new_sums_at entries to ≡ Some n) × (n ≤ m + distance_of (points label) sample)
sum-through table points sample sums entries mid label to m h b known = each (entry_at entries to) refl (h (λ s. true) to)
  where
    c : Trellis Sample
    c = trellis_of table points (λ s. true)

    by : Enters c sample (sums_at sums) to (record { before = mid; label = label }) (m + distance_of (points label) sample)
    by = record { leads = b; known = m; reached = known; sum_is = refl }

    each : (o : Option Entry) → entry_at entries to ≡ o → Chooses c sample (sums_at sums) to (option_map branch_of o) (option_map sum_of o)
        → (n : ℕ) × (new_sums_at entries to ≡ Some n) × (n ≤ m + distance_of (points label) sample)
    each None e k = absurd (k (record { before = mid; label = label }) (m + distance_of (points label) sample) by)
    each (Some f) e k = (
      f.sum,
      ap (option_map sum_of) e,
      elim (k.1 (record { before = mid; label = label })
          (m + distance_of (points label) sample) by) [ inl less ↦ omega arith | inr equal ↦ omega (arith, equal.0) ],
    )

-- one step more from a state
near-next : (table : ℕ → ℕ → Option ℕ) (points : ℕ → Sample) (sample : Sample) (old new : Kept) (steps from : ℕ)
    → Stepped table points sample old new → IsNearAfter table (sums_at old.sums) steps from
    → IsNearAfter table (sums_at new.sums) (steps + 1) from
near-next table points sample old new steps from p near path to l leads =
    let cut = snoc_of path steps l in
    let there = subst (λ x. Leads table from x to) cut.2 leads in
    let parts = Leads-front table from cut.0 cut.1 to there in
    let n : length cut.0 ≡ steps = omega (arith, l, ap length cut.2, length-append {A = ℕ} cut.0 (cut.1 ∷ [])) in
    let was = near cut.0 parts.0 n parts.1 in
    let now = sum-through table points sample old.sums p.entries parts.0 cut.1 to was.0 p.chosen parts.2 was.1 in (
      now.0 - p.lowered,
      p.sums to ∙ ap (option_map (λ n. n - p.lowered)) now.1,
      omega (arith, now.2, was.2, p.close parts.0 cut.1 to parts.2),
    )

-- the state of the least sum
near-least : (table : ℕ → ℕ → Option ℕ) (points : ℕ → Sample) (states labels : ℕ) (sample : Sample) (old new : Kept)
    → IsBounded table states labels → StaysWithin table states labels → Stepped table points sample old new → (from : ℕ) × (from < states)
    × IsNearAfter table (sums_at new.sums) 0 from
near-least table points states labels sample old new bounded within p =
    let e = enters-at table points sample old.sums p.entries p.lowest.0 p.lowered p.chosen p.lowest.1 in
    let in_table = bounded e.0.before e.0.label p.lowest.0 e.2.leads in grind (arith, here)
  where
    here : IsNearAfter table (sums_at new.sums) 0 p.lowest.0
    here [] to l leads = grind (arith)
    here (x ∷ path) to l leads = absurd (omega arith)

near-each : (table : ℕ → ℕ → Option ℕ) (points : ℕ → Sample) (states labels : ℕ) (sample : Sample) (old new : Kept) (n steps : ℕ)
    → IsBounded table states labels → StaysWithin table states labels → Stepped table points sample old new
    → IsSpread table states n (sums_at old.sums) → steps ≤ n + 1
    → (from : ℕ) × (from < states) × IsNearAfter table (sums_at new.sums) steps from
near-each table points states labels sample old new n zero bounded within p h l = near-least _ _ _ _ _ _ _ bounded within p
near-each table points states labels sample old new n (suc steps) bounded within p h l =
    let was = h.near steps (omega arith) in
    let one : steps + 1 ≡ suc steps = omega arith in (
      was.0,
      was.1,
      subst (λ k. IsNearAfter table (sums_at new.sums) k was.0) one (near-next _ _ _ _ _ _ _ p was.2),
    )

-- a sum after a step
sum-after : (table : ℕ → ℕ → Option ℕ) (points : ℕ → Sample) (sample : Sample) (old new : Kept) (n s m : ℕ)
    → Stepped table points sample old new → ((s m : ℕ) → sums_at old.sums s ≡ Some m → m ≤ n * 2 ^ 33) → sums_at new.sums s ≡ Some m
    → m ≤ (n + 1) * 2 ^ 33
sum-after table points sample old new n s m p small e = each (new_sums_at p.entries s) refl (sym (p.sums s) ∙ e)
  where
    each : (o : Option ℕ) → new_sums_at p.entries s ≡ o → option_map (λ n. n - p.lowered) o ≡ Some m → m ≤ (n + 1) * 2 ^ 33
    each None f g = absurd cc
    each (Some k) f g =
        let a = enters-at table points sample old.sums p.entries s k p.chosen f in grind (arith)

pub spread-next : (table : ℕ → ℕ → Option ℕ) (points : ℕ → Sample) (states labels reach : ℕ) (sample : Sample) (old new : Kept) (count : ℕ)
    → IsBounded table states labels → StaysWithin table states labels → Reaches table states labels reach
    → Stepped table points sample old new
    → IsSpread table states (min count reach) (sums_at old.sums) → IsSpread table states (min (count + 1) reach) (sums_at new.sums)
spread-next table points states labels reach sample old new count bounded within reaches p h = elim (cases_lt count reach) [
  | inl before ↦
      let was : min count reach ≡ count = min-eq_left (omega arith) in
      let now : min (count + 1) reach ≡ count + 1 = min-eq_left (omega arith) in
      let g = subst (λ n. IsSpread table states n (sums_at old.sums)) was h in
      subst (λ n. IsSpread table states n (sums_at new.sums)) (sym now) (record {
        small = λ s m e. sum-after table points sample old new count s m p g.small e;
        near = λ steps l. near-each table points states labels sample old new count steps bounded within p g l;
      })
  | inr after ↦
      let was : min count reach ≡ reach = min-eq_right (omega arith) in
      let now : min (count + 1) reach ≡ reach = min-eq_right (omega arith) in
      let g = subst (λ n. IsSpread table states n (sums_at old.sums)) was h in
      subst (λ n. IsSpread table states n (sums_at new.sums)) (sym now) (record {
        small = λ s m e. all g s m e;
        near = λ steps l. near-each table points states labels sample old new reach steps bounded within p g (omega arith);
      })
]
  where
    -- a state with a sum was entered
    entered : (s m : ℕ) (o : Option ℕ) → new_sums_at p.entries s ≡ o → option_map (λ n. n - p.lowered) o ≡ Some m → s < states
    entered s m None f e = absurd cc
    entered s m (Some k) f e =
        let a = enters-at table points sample old.sums p.entries s k p.chosen f in
        let i = bounded a.0.before a.0.label s a.2.leads in grind (arith)

    all : IsSpread table states reach (sums_at old.sums) → (s m : ℕ) → sums_at new.sums s ≡ Some m → m ≤ reach * 2 ^ 33
    all g s m e =
        let root = near-each table points states labels sample old new reach reach bounded within p g (omega arith) in
        let in_states : s < states = entered s m (new_sums_at p.entries s) refl (sym (p.sums s) ∙ e) in
        let path = reaches root.0 s root.1 in_states in
        let there = root.2 path.0 s path.1 path.2 in
        omega (arith, there.2, same_Some _ _ (sym there.1 ∙ e))

-- before the first sample
pub spread-start : (table : ℕ → ℕ → Option ℕ) (states reach start : ℕ) (sums : ℕ → Option ℕ) → start < states → sums start ≡ Some 0
    → ((s m : ℕ) → sums s ≡ Some m → m ≡ 0) → IsSpread table states (min 0 reach) sums
spread-start table states reach start sums within here zeros = record {
  small = λ s m e. omega (arith, zeros s m e);
  near = λ steps l. let none : 0 ≡ steps = omega (arith, min-le_left 0 reach) in
      (start, within, subst (λ k. IsNearAfter table sums k start) none first);
}
  where
    first : IsNearAfter table sums 0 start
    first [] to l leads = (0, subst (λ s. sums s ≡ Some 0) leads here, omega arith)
    first (x ∷ path) to l leads = absurd (omega arith)

-- what holds whatever was pushed
pub sound-next : (table : ℕ → ℕ → Option ℕ) (points : ℕ → Sample) (states labels reach depth : ℕ) (more : List Sample) (old new : Decoding)
    (between : Kept) (list : List ℕ) → IsSound table states labels reach depth old → old.count + length more ≤ 2 ^ 56
    → (opened old.memory).unreleased + length more ≤ depth + 1 → new.count ≡ old.count + length more
    → SteppedEach table points states reach more (opened old.memory) between → Released between (opened new.memory) list
    → new.pending ≡ list → All (λ label. label < labels) new.pending
    → (new.lost ≡ None → (opened new.memory).unreleased ≤ depth) → IsSound table states labels reach depth new
sound-next table points states labels reach depth more old new between list h few held count p r pending below room = record {
  low = h.low;
  high = h.high;
  few = omega (arith, count);
  spread = grind (arith, opened);
  room = room;
  few_unreleased = omega (arith, r.count, p.longer, held);
  few_pending = omega (arith, ap length pending, r.count, p.longer, held);
  pending_below = below;
}
