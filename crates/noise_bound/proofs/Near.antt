-- Survivors of samples that are near the points of a code sequence, and what they release.
use Rattle.noise_bound.proofs.Names.{◌≡◌, ℕ, ◌+◌, ◌*◌, ◌<◌, ◌≤◌, ◌⊎◌, inl, inr, Bool, true, List, ◌++◌, length, map, take, drop, arith}
use Rattle.noise_bound.proofs.Names.{append_assoc, None, sym, ◌∙◌, ap, subst, cases_lt, cases_eq, eqb-true, take-append-drop, take_all}
use Rattle.noise_bound.proofs.Names.{lost-once, Decoding, DecoderStands, heard, Beats, IsSurvivor, IsReleased, LostIs, IsSequence, v32_code}
use Rattle.noise_bound.proofs.Names.{apart_in_all, only, sure, sure_of_any, IsNear, IsPrefixOf, point_of, Sample, Leads-take, far_from}
use Rattle.noise_bound.proofs.Names.{Leads, cost, next_state}
use Rattle.std.proofs.Common.{length-take}
use Rattle.noise_bound.proofs.Agreeing.{Survives, AreNear, cheaper, released-begins, few-from_one, few-from_any}
use Rattle.noise_bound.proofs.Followed.{few-unreleased_of_any}
use Rattle.noise_bound.specs.NoisyLaws.{ReleasesNear, FewUnreleased, NeverLost, DecodesNear, ReleasesNearOfAny, FewUnreleasedOfAny}
use Rattle.noise_bound.specs.NoisyLaws.{NeverLostOfAny, DecodesNearOfAny, FewUnreleasedWithoutNoise}
use Rattle.noise_bound.proofs.Distances.{meeting-is-far, one-or-far, cost-is-distance}
use Rattle.noise_bound.proofs.NoisyCosts.{cost-over_others, distance-over_samples, cost-take, points-of_no-cost}

-- sequences that meet are one, or so far apart that no sample is near both
abbrev pub TellsApart : ℕ → (ℕ → Bool) → Type 0
TellsApart bound starts = (from own_from end : ℕ) (q labels : List ℕ) → starts from ≡ true → starts own_from ≡ true
    → length q ≡ length labels → Leads next_state from q end → Leads next_state own_from labels end
    → (q ≡ labels) ⊎ (4 * bound ≤ cost far_from q (map point_of labels))

pub tells-from_one : (start : ℕ) → TellsApart sure (only start)
tells-from_one start from own_from end q labels there own_there h p l =
    let first = subst (λ state. Leads next_state state q end) (eqb-true from start there) p in
    let second = subst (λ state. Leads next_state state labels end) (eqb-true own_from start own_there) l in
    let units : cost far_from q (map point_of labels) ≡ 4194304 * apart_in_all q labels =
    cost-is-distance start start end end q labels h first second in
    elim (one-or-far start end q labels h first second) [ inl one ↦ inl one | inr far ↦ inr (omega arith) ]

pub tells-from_any : (starts : ℕ → Bool) → TellsApart sure_of_any starts
tells-from_any starts from own_from end q labels there own_there h p l =
    let units : cost far_from q (map point_of labels) ≡ 4194304 * apart_in_all q labels =
    cost-is-distance from own_from end end q labels h p l in
    elim (cases_eq from own_from) [
      | inr differ ↦ let four = meeting-is-far from own_from end q labels differ h p l in inr (omega arith)
      | inl same ↦ elim (one-or-far own_from end q labels h
          (subst (λ state. Leads next_state state q end) same p) l) [ inl one ↦ inl one | inr far ↦ inr (omega arith) ]
    ]

-- labels that are near the samples survive
near-survives : (bound : ℕ) (starts : ℕ → Bool) (samples : List Sample) (labels : List ℕ) (from end : ℕ) → TellsApart bound starts
    → starts from ≡ true → Leads next_state from labels end → length labels ≡ length samples
    → cost far_from labels samples < bound → IsSurvivor (v32_code starts) samples labels end
near-survives bound starts samples labels from end tells there l long near = record {
  sequence = record { code_sequence = record { from = from; starts_there = there; leads = l }; same_length = long };
  best = λ other o. against other o
      (tells o.code_sequence.from from end other labels o.code_sequence.starts_there there (o.same_length
      ∙ sym long) o.code_sequence.leads l);
}
  where
    against : (other : List ℕ) → IsSequence (v32_code starts) samples other end → (other ≡ labels)
        ⊎ (4 * bound ≤ cost far_from other (map point_of labels)) → (other ≡ labels) ⊎ Beats far_from samples labels other
    against other o (inl one) = inl one
    against other o (inr far) = inr (inl (omega (arith, distance-over_samples other labels samples o.same_length long)))

-- what is near stays so at each of its places
pub near-front : (bound : ℕ) (starts : ℕ → Bool) (labels : List ℕ) (samples : List Sample) (n : ℕ) → IsNear bound starts labels samples
    → IsNear bound starts (take n labels) (take n samples)
near-front bound starts labels samples n h =
    let front = Leads-take next_state n h.sequence.code_sequence.from labels h.end h.sequence.code_sequence.leads in
    record {
      end = front.0;
      sequence = record {
        code_sequence = record {
          from = h.sequence.code_sequence.from;
          starts_there = h.sequence.code_sequence.starts_there;
          leads = front.1;
        };
        same_length = omega (arith, length-take n labels, length-take n samples, h.sequence.same_length);
      };
      near = omega (arith, cost-take n labels samples, h.near);
    }

fronts-of_near : (bound : ℕ) (starts : ℕ → Bool) (labels : List ℕ) (samples : List Sample) → TellsApart bound starts
    → (h : IsNear bound starts labels samples) → Survives starts h.sequence.code_sequence.from samples labels
fronts-of_near bound starts labels samples tells h = record {
  starts_there = h.sequence.code_sequence.starts_there;
  end = h.end;
  leads = h.sequence.code_sequence.leads;
  same_length = h.sequence.same_length;
  fronts = λ n mid within front.
      let part = near-front bound starts labels samples n h in
      near-survives bound starts (take n samples)
      (take n labels) h.sequence.code_sequence.from mid tells h.sequence.code_sequence.starts_there front part.sequence.same_length
      part.near;
}

-- survivors are near them, the nearer the less noise there is
near-all : (bound k : ℕ) (starts : ℕ → Bool) (labels : List ℕ) (samples : List Sample) → 301989888 + 6 * bound ≤ 16777216 + 8388608 * k
    → 2 ≤ length labels → IsNear bound starts labels samples → AreNear starts samples labels k
near-all bound k starts labels samples enough many h to q s =
    let c = cheaper starts samples labels q h.sequence.code_sequence.from h.end to h.sequence.code_sequence.starts_there
    h.sequence.code_sequence.leads h.sequence.same_length many s in
    let over = cost-over_others c.other labels samples (c.same_length ∙ h.sequence.same_length) h.sequence.same_length in
    let apart = distance-over_samples q labels samples s.sequence.same_length h.sequence.same_length in
    omega (arith, c.best, c.cheap, h.near)

-- what is released

released : (bound : ℕ) (starts : ℕ → Bool) (n : ℕ) (labels front : List ℕ) (samples : List Sample) → TellsApart bound starts
    → IsNear bound starts labels samples → IsReleased (v32_code starts) (take n samples) front → IsPrefixOf front labels
released bound starts n labels front samples tells h r =
    let part = near-front bound starts labels samples n h in
    let p = released-begins starts part.sequence.code_sequence.from (take n samples) (take n labels) front
    (fronts-of_near bound starts (take n labels) (take n samples) tells part) r in
    (p.0 ++ drop n labels, sym (append_assoc front p.0 (drop n labels)) ∙ ap (λ k. k ++ drop n labels) p.1 ∙ take-append-drop n labels)

pub releases-near : ReleasesNear
releases-near start n labels front samples h r = released sure (only start) n labels front samples (tells-from_one start) h r

pub releases-near_of_any : ReleasesNearOfAny
releases-near_of_any starts n labels front samples h r = released sure_of_any starts n labels front samples (tells-from_any starts) h r

few-of_one : (start : ℕ) (labels front : List ℕ) (samples : List Sample) → IsNear sure (only start) labels samples
    → IsReleased (v32_code (only start)) samples front → length labels ≤ length front + 126
few-of_one start labels front samples h r = elim (cases_lt (length labels) 2) [
  | inl few ↦ omega arith
  | inr many ↦
      few-from_one (only start) h.sequence.code_sequence.from samples labels front 42
      (fronts-of_near sure (only start) labels samples (tells-from_one start) h)
      (λ from there. eqb-true from start there ∙ sym (eqb-true h.sequence.code_sequence.from start h.sequence.code_sequence.starts_there))
      (near-all sure 42 (only start) labels samples (omega arith) many h) r
]

few-of_any : (starts : ℕ → Bool) (labels front : List ℕ) (samples : List Sample) → IsNear sure_of_any starts labels samples
    → IsReleased (v32_code starts) samples front → length labels ≤ length front + 116
few-of_any starts labels front samples h r = elim (cases_lt (length labels) 2) [
  | inl few ↦ omega arith
  | inr many ↦
      few-from_any starts h.sequence.code_sequence.from samples labels front 37
      (fronts-of_near sure_of_any starts labels samples (tells-from_any starts) h)
      (near-all sure_of_any 37 starts labels samples (omega arith) many h) r
]

-- the labels up to a place within the samples
long-front : (bound : ℕ) (starts : ℕ → Bool) (n : ℕ) (labels : List ℕ) (samples : List Sample) → n ≤ length samples
    → IsNear bound starts labels samples → length (take n labels) ≡ n
long-front bound starts n labels samples within h = omega (arith, length-take n labels, h.sequence.same_length)

pub few-unreleased : FewUnreleased
few-unreleased start n labels front samples within h r =
    omega (
      arith,
      long-front sure (only start) n labels samples within h,
      few-of_one start (take n labels) front (take n samples) (near-front sure (only start) labels samples n h) r,
    )

pub few-unreleased_any : FewUnreleasedOfAny
few-unreleased_any starts n labels front samples within h r =
    omega (
      arith,
      long-front sure_of_any starts n labels samples within h,
      few-of_any starts (take n labels) front (take n samples) (near-front sure_of_any starts labels samples n h) r,
    )

pub few-without_noise : FewUnreleasedWithoutNoise
few-without_noise starts n labels front samples within h r =
    let part = near-front 1 starts labels samples n h in
    let none : cost far_from (take n labels) (take n samples) ≡ 0 = omega (arith, part.near) in
    let exact = points-of_no-cost (take n labels) (take n samples) part.sequence.same_length none in
    omega (
      arith,
      long-front 1 starts n labels samples within h,
      few-unreleased_of_any starts part.sequence.code_sequence.from part.end
          (take n labels) front part.sequence.code_sequence.starts_there part.sequence.code_sequence.leads
          (subst (λ k. IsReleased (v32_code starts) k front) exact r),
    )

pub never-lost : NeverLost
never-lost start depth labels samples h deep n within o =
    omega (arith, o.over, few-unreleased start n labels o.front samples within h o.released)

pub never-lost_any : NeverLostOfAny
never-lost_any starts depth labels samples h deep n within o =
    omega (arith, o.over, few-unreleased_any starts n labels o.front samples within h o.released)

-- of a decoder

hears-all : (starts : ℕ → Bool) (depth : ℕ) (samples : List Sample) (taken : List ℕ) (d : Decoding)
    → LostIs (v32_code starts) depth samples None → DecoderStands next_state point_of starts depth d samples taken
    → (d.lost ≡ None) × IsReleased (v32_code starts) (take (length samples) samples) (taken ++ d.pending)
hears-all starts depth samples taken d never s =
    let runs : d.lost ≡ None = lost-once (v32_code starts) depth samples d.lost None s.lost never in
    let all : heard d.lost samples ≡ take (length samples) samples =
    ap (λ o. heard o samples) runs ∙ sym (take_all (length samples) samples (omega arith)) in
    (runs, subst (λ k. IsReleased (v32_code starts) k (taken ++ d.pending)) all s.released)

pub decodes-near : DecodesNear
decodes-near start depth labels taken samples d deep h s =
    let all = hears-all (only start) depth samples taken d (never-lost start depth labels samples h deep) s in
    record {
      never_lost = all.0;
      was_sent = releases-near start (length samples) labels (taken ++ d.pending) samples h all.1;
      few_to_come = omega (
        arith,
        h.sequence.same_length,
        few-unreleased start (length samples) labels (taken ++ d.pending) samples (omega arith) h all.1,
      );
    }

pub decodes-near_any : DecodesNearOfAny
decodes-near_any starts depth labels taken samples d deep h s =
    let all = hears-all starts depth samples taken d (never-lost_any starts depth labels samples h deep) s in
    record {
      never_lost = all.0;
      was_sent = releases-near_of_any starts (length samples) labels (taken ++ d.pending) samples h all.1;
      few_to_come = omega (
        arith,
        h.sequence.same_length,
        few-unreleased_any starts (length samples) labels (taken ++ d.pending) samples (omega arith) h all.1,
      );
    }
