-- Survivors of samples without noise, and what they release.
use Rattle.noise_bound.proofs.Names.{◌≡◌, ℕ, ◌+◌, ◌≤◌, ◌⊎◌, inl, inr, Bool, true, nat_eq, List, ◌++◌, length, map, take, drop, arith}
use Rattle.noise_bound.proofs.Names.{append_assoc, None, refl, sym, ◌∙◌, ap, subst, eq-eqb, cases_lt, cases_eq, eqb-true, take-map}
use Rattle.noise_bound.proofs.Names.{take_all, take-append-drop, length-take-le, lost-once, Decoding, DecoderStands, heard, IsOnlyLeast}
use Rattle.noise_bound.proofs.Names.{Beats, IsSurvivor, IsReleased, LostIs, IsSequence, v32_code, v32_from, IsPrefixOf, point_of, Sample}
use Rattle.noise_bound.proofs.Names.{Leads-take, far_from, Leads, cost, next_state}
use Rattle.noise_bound.specs.Noiseless.{IsNoiseless}
use Rattle.noise_bound.specs.NoiselessLaws.{Follows}
use Rattle.noise_bound.proofs.NoiselessCosts.{length-points, cost-own, no-cost-own}
use Rattle.noise_bound.proofs.Agreeing.{Survives, AreNear, cheaper, few-from_one, few-from_any}

-- sent labels survive at their end, from whatever states sequences start
pub sent-survives : (starts : ℕ → Bool) (from end : ℕ) (labels : List ℕ) → starts from ≡ true → Leads next_state from labels end
    → IsSurvivor (v32_code starts) (map point_of labels) labels end
sent-survives starts from end labels there l = record {
  sequence = record { code_sequence = record { from = from; starts_there = there; leads = l }; same_length = sym (length-points labels) };
  best = λ other o. against other o (cases_eq (cost far_from other (map point_of labels)) 0);
}
  where
    against : (other : List ℕ) → IsSequence (v32_code starts) (map point_of labels) other end
        → (cost far_from other (map point_of labels) ≡ 0) ⊎ (cost far_from other (map point_of labels) ≡ 0 → ⊥)
        → (other ≡ labels) ⊎ Beats far_from (map point_of labels) labels other
    against other o (inl none) =
        inl (no-cost-own o.code_sequence.from from end end other labels o.code_sequence.leads l (o.same_length ∙ length-points labels) none)
    against other o (inr some) = inr (inl (elim (cases_lt 0 (cost far_from other (map point_of labels))) [
      | inl more ↦ omega (arith, cost-own labels)
      | inr none_more ↦ let none : cost far_from other (map point_of labels) ≡ 0 = omega arith in absurd (some none)
    ]))

-- so do all their fronts
pub fronts-of_sent : (starts : ℕ → Bool) (from end : ℕ) (labels : List ℕ) → starts from ≡ true → Leads next_state from labels end
    → Survives starts from (map point_of labels) labels
fronts-of_sent starts from end labels there l = record {
  starts_there = there;
  end = end;
  leads = l;
  same_length = sym (length-points labels);
  fronts = λ n mid within front. subst (λ k. IsSurvivor (v32_code starts) k (take n labels) mid) (sym (take-map point_of n labels))
      (sent-survives starts from mid (take n labels) there front);
}

survives-from : (start end : ℕ) (labels : List ℕ) → Leads next_state start labels end
    → IsSurvivor (v32_from start) (map point_of labels) labels end
survives-from start end labels l = sent-survives (λ state. nat_eq state start) start end labels (eq-eqb start start refl) l

pub only-least : (start end : ℕ) (labels : List ℕ) → Leads next_state start labels end
    → IsOnlyLeast (v32_from start) (map point_of labels) labels
only-least start end labels l = record {
  least = record {
    end = end;
    sequence = (survives-from start end labels l).sequence;
    least = λ other other_end o. omega (arith, cost-own labels);
  };
  only = λ other h.
      let none : cost far_from other (map point_of labels) ≡ 0 =
      omega (arith, h.least labels end (survives-from start end labels l).sequence, cost-own labels) in
      no-cost-own h.sequence.code_sequence.from start h.end end other labels h.sequence.code_sequence.leads l
      (h.sequence.same_length ∙ length-points labels) none;
}

-- a survivor costs at most 18 against the points of sent labels
pub sent-near : (starts : ℕ → Bool) (from end : ℕ) (labels : List ℕ) → starts from ≡ true → Leads next_state from labels end
    → 2 ≤ length labels → AreNear starts (map point_of labels) labels 8
sent-near starts from end labels there l many to q s =
    let c = cheaper starts (map point_of labels) labels q from end to there l (sym (length-points labels)) many s in
    omega (arith, c.best, c.cheap)

-- what the sent labels' points release
pub released-sent : (start end : ℕ) (labels front : List ℕ) → Leads next_state start labels end
    → IsReleased (v32_from start) (map point_of labels) front → IsPrefixOf front labels
released-sent start end labels front l r = r.common end labels (survives-from start end labels l)

pub few-unreleased : (start end : ℕ) (labels front : List ℕ) → Leads next_state start labels end
    → IsReleased (v32_from start) (map point_of labels) front → length labels ≤ length front + 24
few-unreleased start end labels front l r = elim (cases_lt (length labels) 2) [
  | inl few ↦ omega arith
  | inr many ↦
      let one = eq-eqb start start refl in
      few-from_one (λ state. nat_eq state start) start (map point_of labels) labels front 8
      (fronts-of_sent (λ state. nat_eq state start) start end labels one l) (λ from there. eqb-true from start there)
      (sent-near (λ state. nat_eq state start) start end labels one l many) r
]

-- from any states at most 29 labels are unreleased
pub few-unreleased_of_any : (starts : ℕ → Bool) (from end : ℕ) (labels front : List ℕ) → starts from ≡ true
    → Leads next_state from labels end → IsReleased (v32_code starts) (map point_of labels) front → length labels ≤ length front + 29
few-unreleased_of_any starts from end labels front there l r = elim (cases_lt (length labels) 2) [
  | inl few ↦ omega arith
  | inr many ↦ few-from_any starts from (map point_of labels) labels front 8 (fronts-of_sent starts from end labels there l)
      (sent-near starts from end labels there l many) r
]

-- the same after the first n samples
pub released-sent_at : (start : ℕ) (labels : List ℕ) (samples : List Sample) (n : ℕ) (front : List ℕ) → IsNoiseless start labels samples
    → IsReleased (v32_from start) (take n samples) front → IsPrefixOf front labels
released-sent_at start labels samples n front h r =
    let part : take n samples ≡ map point_of (take n labels) = ap (take n) h.exact ∙ take-map point_of n labels in
    let l = Leads-take next_state n start labels h.end h.leads in
    let p = released-sent start l.0 (take n labels) front l.1 (subst (λ k. IsReleased (v32_from start) k front) part r) in
    (p.0 ++ drop n labels, sym (append_assoc front p.0 (drop n labels)) ∙ ap (λ k. k ++ drop n labels) p.1 ∙ take-append-drop n labels)

pub few-unreleased_at : (start : ℕ) (labels : List ℕ) (samples : List Sample) (n : ℕ) (front : List ℕ) → n ≤ length samples
    → IsNoiseless start labels samples → IsReleased (v32_from start) (take n samples) front → n ≤ length front + 24
few-unreleased_at start labels samples n front within h r =
    let part : take n samples ≡ map point_of (take n labels) = ap (take n) h.exact ∙ take-map point_of n labels in
    let l = Leads-take next_state n start labels h.end h.leads in
    let long : length samples ≡ length labels = ap length h.exact ∙ length-points labels in
    omega (
      arith,
      few-unreleased start l.0 (take n labels) front l.1 (subst (λ k. IsReleased (v32_from start) k front) part r),
      length-take-le n labels (omega arith),
    )

pub never-lost : (start depth : ℕ) (labels : List ℕ) (samples : List Sample) → IsNoiseless start labels samples → 24 ≤ depth
    → LostIs (v32_from start) depth samples None
never-lost start depth labels samples h deep n within o =
    omega (arith, o.over, few-unreleased_at start labels samples n o.front within h o.released)

-- of a decoder
pub follows : (start depth : ℕ) (labels taken : List ℕ) (samples : List Sample) (d : Decoding) → 24 ≤ depth
    → IsNoiseless start labels samples → DecoderStands next_state point_of (λ state. nat_eq state start) depth d samples taken
    → Follows d taken labels
follows start depth labels taken samples d deep h s =
    let runs : d.lost ≡ None = lost-once (v32_from start) depth samples d.lost None s.lost (never-lost start depth labels samples h deep) in
    let all : heard d.lost samples ≡ take (length samples) samples =
    ap (λ o. heard o samples) runs ∙ sym (take_all (length samples) samples (omega arith)) in
    let r = subst (λ k. IsReleased (v32_from start) k (taken ++ d.pending)) all s.released in
    let long : length samples ≡ length labels = ap length h.exact ∙ length-points labels in
    record {
      never_lost = runs;
      was_sent = released-sent_at start labels samples (length samples) (taken ++ d.pending) h r;
      few_to_come = omega (arith, few-unreleased_at start labels samples (length samples) (taken ++ d.pending) (omega arith) h r);
    }
