-- What survivors have in common with labels that survive at each of their places, from whatever states sequences start.
use Rattle.noise_bound.proofs.Names.{◌≡◌, ℕ, ◌+◌, ◌-◌, ◌*◌, ◌<◌, ◌≤◌, ◌⊎◌, inl, inr, Bool, true, List, [], ◌∷◌, ◌++◌, length, map, take}
use Rattle.noise_bound.proofs.Names.{drop, arith, length-append, append_assoc, refl, sym, ◌∙◌, ap, subst, cases_lt, map-append, take_at}
use Rattle.noise_bound.proofs.Names.{take-append-le, take-append-drop, length-take-le, take_all, IsSurvivor, IsReleased, IsSequence}
use Rattle.noise_bound.proofs.Names.{v32_code, IsPrefixOf, point_of, Sample, Leads-split, far_from, Leads, cost, next_state}
use Rattle.std.proofs.lemmas.List.{append-nil}
use Rattle.trellis_tables.specs.V32Laws.{v32_bounded, v32_within}
use Rattle.trellis_tables.proofs.Sequences.{Leads_once}
use Rattle.exact_decoder.specs.Surviving.Trellises.{Trellis}
use Rattle.exact_decoder.proofs.Surviving.Release.{survivor-one}
use Rattle.exact_decoder.proofs.Surviving.Bellman.{least_cost, sequence-more, survivor-front}
use Rattle.noise_bound.proofs.NoiselessCosts.{length-points, cost-append}
use Rattle.noise_bound.proofs.Meetings.{Parted, Meeting, meets, parted-now, parted-cost, behind-cost}
use Rattle.noise_bound.proofs.Detours.{other-end}

-- The labels are a sequence, of which each front is the survivor at its end.
pub record Survives (starts : ℕ → Bool) (own_from : ℕ) (samples : List Sample) (labels : List ℕ) : Type 0 where
  pub starts_there : starts own_from ≡ true
  pub end : ℕ
  pub leads : Leads next_state own_from labels end
  pub same_length : length labels ≡ length samples
  pub fronts : (n mid : ℕ) → n ≤ length labels → Leads next_state own_from (take n labels) mid
      → IsSurvivor (v32_code starts) (take n samples) (take n labels) mid

-- each survivor is near the labels' points, by how much two sequences differ that are apart for three times so many symbols
abbrev pub AreNear : (ℕ → Bool) → List Sample → List ℕ → ℕ → Type 0
AreNear starts samples labels k = (to : ℕ) (q : List ℕ) → IsSurvivor (v32_code starts) samples q to
    → cost far_from q (map point_of labels) < 16777216 + 8388608 * k

-- what a survivor begins with survives in the state in which the rest goes on
pub part-survives : {X : Type 0} (t : Trellis X) (samples more : List X) (front rest : List ℕ) (mid to : ℕ)
    → IsSequence t samples front mid → Leads t.next mid rest to → IsSurvivor t (samples ++ more) (front ++ rest) to
    → IsSurvivor t samples front mid
part-survives t samples [] front [] mid to q l s =
    let here = subst (λ k. IsSurvivor t k (front ++ []) to) (append-nil samples) s in
    let same = subst (λ k. IsSurvivor t samples k to) (append-nil front) here in
    subst (λ state. IsSurvivor t samples front state) (sym l) same
part-survives {X} t samples (y ∷ more) front [] mid to q l s =
    absurd (omega (arith, s.sequence.same_length, q.same_length, length-append {A = ℕ} front [], length-append {A = X} samples (y ∷ more)))
part-survives {X} t samples [] front (x ∷ rest) mid to q l s =
    absurd (omega (arith, s.sequence.same_length, q.same_length, length-append {A = ℕ} front (x ∷ rest), length-append {A = X} samples []))
part-survives t samples (y ∷ more) front (x ∷ rest) mid to q (m, e, l) s =
    let one = subst (λ k. IsSurvivor t k (front ++ x ∷ rest) to) (sym (append_assoc samples (y ∷ []) more)) s in
    let both = subst (λ k. IsSurvivor t ((samples ++ y ∷ []) ++ more) k to) (sym (append_assoc front (x ∷ []) rest)) one in
    let longer = part-survives t (samples ++ y ∷ []) more (front ++ x ∷ []) rest m to
    (sequence-more t samples y front mid x m q e) l both in
    survivor-front t samples y front x mid m q e longer

-- a sequence that isn't empty ends in one of the eight states
pub end-within : (from to : ℕ) (q : List ℕ) → 1 ≤ length q → Leads next_state from q to → to < 8
end-within from to [] h l = absurd (omega arith)
end-within from to (x ∷ []) h (m, e, l) = let b = v32_bounded from x m e in subst (λ state. state < 8) l (v32_within from x m b.0 b.1 e)
end-within from to (x ∷ y ∷ q) h (m, e, l) = end-within m to (y ∷ q) (omega arith) l

-- a survivor costs no more than another sequence to its end, which is near the labels
pub record Cheaper (starts : ℕ → Bool) (samples : List Sample) (labels q : List ℕ) : Type 0 where
  pub other : List ℕ
  pub same_length : length other ≡ length labels
  pub cheap : cost far_from other (map point_of labels) ≤ 75497472
  pub best : cost far_from q samples ≤ cost far_from other samples

pub cheaper : (starts : ℕ → Bool) (samples : List Sample) (labels q : List ℕ) (from end to : ℕ) → starts from ≡ true
    → Leads next_state from labels end → length labels ≡ length samples → 2 ≤ length labels
    → IsSurvivor (v32_code starts) samples q to → Cheaper starts samples labels q
cheaper starts samples labels q from end to there l long many s =
    let in_states = end-within s.sequence.code_sequence.from to q (omega (arith, s.sequence.same_length)) s.sequence.code_sequence.leads in
    let o = other-end from end to labels l many in_states in
    let another : IsSequence (v32_code starts) samples o.other to =
    record { code_sequence = record { from = from; starts_there = there; leads = o.leads }; same_length = o.same_length ∙ long } in
    record {
      other = o.other;
      same_length = o.same_length;
      cheap = o.cheap;
      best = least_cost (v32_code starts) samples q o.other (s.best o.other another);
    }

-- a survivor agrees with the labels up to the last state that both share
fronts-agree : (starts : ℕ → Bool) (samples : List Sample) (labels q : List ℕ) (from own_from to : ℕ)
    → (own : Survives starts own_from samples labels) → starts from ≡ true → Leads next_state from q to
    → IsSurvivor (v32_code starts) samples q to
    → (m : Meeting from q own_from labels) → m.front ≡ m.own_front
fronts-agree starts samples labels q from own_from to own there l s m =
    let n = length m.own_front in
    let total : length labels ≡ n + length m.own_rest = ap length m.own_joined ∙ length-append {A = ℕ} m.own_front m.own_rest in
    let part : take n labels ≡ m.own_front = ap (take n) m.own_joined ∙ take_at m.own_front m.own_rest n refl in
    let mine = own.fronts n m.mid (omega arith) (subst (λ k. Leads next_state own_from k m.mid) (sym part) m.own_leads) in
    let survives = subst (λ k. IsSurvivor (v32_code starts) (take n samples) k m.mid) part mine in
    let split = Leads-split next_state from m.front m.rest to (subst (λ k. Leads next_state from k to) m.joined l) in
    let same : split.0 ≡ m.mid = Leads_once next_state from m.front split.0 m.mid split.1 m.leads in
    let goes_on : Leads next_state m.mid m.rest to = subst (λ state. Leads next_state state m.rest to) same split.2 in
    let few : n ≤ length samples = omega (arith, own.same_length) in
    let sequence : IsSequence (v32_code starts) (take n samples) m.front m.mid =
    record {
      code_sequence = record { from = from; starts_there = there; leads = m.leads };
      same_length = m.same_length ∙ sym (length-take-le n samples few);
    } in
    let cut = subst (λ k. IsSurvivor (v32_code starts) k q to) (sym (take-append-drop n samples)) s in
    let whole = subst (λ k. IsSurvivor (v32_code starts) (take n samples ++ drop n samples) k to) m.joined cut in
    survivor-one (v32_code starts) (take n samples) m.front m.own_front m.mid
    (part-survives (v32_code starts) (take n samples) (drop n samples) m.front m.rest m.mid to sequence goes_on whole) survives

-- few symbols are behind that state
few-behind : (k from own_from : ℕ) (q labels : List ℕ) → cost far_from q (map point_of labels) < 16777216 + 8388608 * k
    → (m : Meeting from q own_from labels) → length m.rest ≤ 3 * k
few-behind k from own_from q labels near m = elim (cases_lt (3 * k) (length m.rest)) [ inr few ↦ few | inl more ↦ absurd (too-dear more) ]
  where
    too-dear : 3 * k < length m.rest → ⊥
    too-dear more =
        let joined : map point_of labels ≡ map point_of m.own_front ++ map point_of m.own_rest =
        ap (map point_of) m.own_joined ∙ map-append point_of m.own_front m.own_rest in
        let price = cost-append m.front m.rest (map point_of m.own_front) (map point_of m.own_rest)
        (m.same_length ∙ sym (length-points m.own_front)) in
        let whole : cost far_from q (map point_of labels) ≡ cost far_from (m.front ++ m.rest)
        (map point_of m.own_front ++ map point_of m.own_rest) =
        ap (λ k. cost far_from k (map point_of labels)) m.joined ∙ ap (cost far_from (m.front ++ m.rest)) joined in
        omega (arith, whole, price, behind-cost k m.mid m.rest m.own_rest m.behind more)

-- two sequences that never share a state are short
pub few-parted : (k from own_from : ℕ) (q labels : List ℕ) → cost far_from q (map point_of labels) < 16777216 + 8388608 * k
    → Parted from q own_from labels → length q ≤ 3 * k + 5
few-parted k from own_from q labels near p = elim (cases_lt (3 * k + 5) (length q)) [
  | inr few ↦ few
  | inl more ↦ absurd (omega (arith, parted-cost (k + 2) from own_from q labels p (omega arith)))
]

-- Where so many labels are all that a sequence may be apart from them, all but so many begin each survivor.
pub agrees : (starts : ℕ → Bool) (own_from : ℕ) (samples : List Sample) (labels q : List ℕ) (k most to : ℕ)
    → (own : Survives starts own_from samples labels) → AreNear starts samples labels k → 3 * k ≤ most
    → ((from : ℕ) → starts from ≡ true → Parted from q own_from labels → length labels ≤ most) → IsSurvivor (v32_code starts) samples q to
    → IsPrefixOf (take (length labels - most) labels) q
agrees starts own_from samples labels q k most to own near enough apart s =
    met (meets s.sequence.code_sequence.from own_from to own.end q labels s.sequence.code_sequence.leads own.leads
    (s.sequence.same_length ∙ sym own.same_length))
  where
    from-meeting : (m : Meeting s.sequence.code_sequence.from q own_from labels) → IsPrefixOf (take (length labels - most) labels) q
    from-meeting m =
        let n = length labels - most in
        let mine = m.own_front in
        let few = few-behind k s.sequence.code_sequence.from own_from q labels (near to q s) m in
        let total : length labels ≡ length mine + length m.own_rest = ap length m.own_joined ∙ length-append {A = ℕ} mine m.own_rest in
        let q_total : length q ≡ length m.front + length m.rest = ap length m.joined ∙ length-append {A = ℕ} m.front m.rest in
        let q_long : length q ≡ length labels = s.sequence.same_length ∙ sym own.same_length in
        let short : n ≤ length mine = omega (arith, m.same_length) in
        let part : take n labels ≡ take n mine = ap (take n) m.own_joined ∙ take-append-le n mine m.own_rest short in
        let q_is : q ≡ mine ++ m.rest =
        m.joined ∙ ap (λ f. f ++ m.rest)
        (fronts-agree starts samples labels q s.sequence.code_sequence.from own_from to own s.sequence.code_sequence.starts_there
        s.sequence.code_sequence.leads s m) in
        let cut : mine ≡ take n mine ++ drop n mine = sym (take-append-drop n mine) in (
          drop n mine ++ m.rest,
          sym (q_is ∙ ap (λ f. f ++ m.rest) cut ∙ append_assoc (take n mine) (drop n mine) m.rest
              ∙ ap (λ f. f ++ (drop n mine ++ m.rest)) (sym part)),
        )

    met : Parted s.sequence.code_sequence.from q own_from labels ⊎ Meeting s.sequence.code_sequence.from q own_from labels
        → IsPrefixOf (take (length labels - most) labels) q
    met (inl parted) =
        let few = apart s.sequence.code_sequence.from s.sequence.code_sequence.starts_there parted in
        let none : length labels - most ≡ 0 = omega arith in
        subst (λ n. IsPrefixOf (take n labels) q) (sym none) (q, refl)
    met (inr m) = from-meeting m

-- so all but so many are released
pub released-all_but : (starts : ℕ → Bool) (samples : List Sample) (labels front : List ℕ) (most : ℕ)
    → ((to : ℕ) (q : List ℕ) → IsSurvivor (v32_code starts) samples q to → IsPrefixOf (take (length labels - most) labels) q)
    → IsReleased (v32_code starts) samples front → length labels ≤ length front + most
released-all_but starts samples labels front most common r = grind (arith, length-append, length-take-le)

-- and all that is released is among them
pub released-begins : (starts : ℕ → Bool) (own_from : ℕ) (samples : List Sample) (labels front : List ℕ)
    → Survives starts own_from samples labels → IsReleased (v32_code starts) samples front → IsPrefixOf front labels
released-begins starts own_from samples labels front own r =
    let n = length labels in
    let all : take n labels ≡ labels = take_all n labels (omega arith) in
    let each : take n samples ≡ samples = take_all n samples (omega (arith, own.same_length)) in
    let last = own.fronts n own.end (omega arith) (subst (λ k. Leads next_state own_from k own.end) (sym all) own.leads) in
    r.common own.end labels
    (subst (λ k. IsSurvivor (v32_code starts) k labels own.end) each
    (subst (λ k. IsSurvivor (v32_code starts) (take n samples) k own.end) all last))

-- from one start no survivor is apart throughout
pub few-from_one : (starts : ℕ → Bool) (own_from : ℕ) (samples : List Sample) (labels front : List ℕ) (k : ℕ)
    → (own : Survives starts own_from samples labels) → ((from : ℕ) → starts from ≡ true → from ≡ own_from)
    → AreNear starts samples labels k
    → IsReleased (v32_code starts) samples front → length labels ≤ length front + 3 * k
few-from_one starts own_from samples labels front k own one near r =
    released-all_but starts samples labels front (3 * k)
    (λ to q s. agrees starts own_from samples labels q k (3 * k) to own near (omega arith)
    (λ from there p. absurd (parted-now from own_from q labels p (one from there))) s) r

-- from any starts one may be, for a while
pub few-from_any : (starts : ℕ → Bool) (own_from : ℕ) (samples : List Sample) (labels front : List ℕ) (k : ℕ)
    → Survives starts own_from samples labels → AreNear starts samples labels k
    → IsReleased (v32_code starts) samples front → length labels ≤ length front + (3 * k + 5)
few-from_any starts own_from samples labels front k own near r =
    released-all_but starts samples labels front (3 * k + 5)
    (λ to q s. agrees starts own_from samples labels q k (3 * k + 5) to own near (omega arith)
    (λ from there p. omega (arith, few-parted k from own_from q labels (near to q s) p, s.sequence.same_length, own.same_length)) s)
    r
