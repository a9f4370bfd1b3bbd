-- A decoder before its first sample.
use Rattle.exact_decoder.proofs.Names.{◌≡◌, ◌≢◌, ℕ, ◌<◌, ◌≤◌, nat_eq, nat_lt, inl, inr, Bool, true, if◌then◌else◌, List, [], ◌++◌}
use Rattle.exact_decoder.proofs.Names.{length, get_or, replicate, set, Option, Some, None, arith, refl, sym, ◌∙◌, ap, subst, cases_lt}
use Rattle.exact_decoder.proofs.Names.{lt-ltb, le-ltb, eqb-true, eqb-false, common_steps, length-replicate, sums_at, tail_at, Decoding}
use Rattle.exact_decoder.proofs.Names.{DecoderStands, heard, Kept, KeepsSurvivors, Keeps, IsReleased, LostIs, Trellis, trellis_of, Sample}
use Rattle.std.proofs.lemmas.Bool.Decides.{nat_tests}
use Rattle.exact_decoder.proofs.Surviving.Columns.{Keeps-start}
use Rattle.exact_decoder.specs.Memory.{opened}
use Rattle.exact_decoder.proofs.Pushed.{released-of}

pub get_or-replicate : {X : Type 0} (n i : ℕ) (x d : X) → i < n → get_or (replicate n x) i d ≡ x
get_or-replicate n i x d l = grind (arith, common_steps)

pub replicate-past : {X : Type 0} (n i : ℕ) (x d : X) → n ≤ i → get_or (replicate n x) i d ≡ d
replicate-past n i x d l = grind (arith, common_steps)

pub empty-tails : (n s : ℕ) → tail_at (replicate n []) s ≡ []
empty-tails n s = elim (cases_lt s n) [ inl l ↦ get_or-replicate n s [] [] l | inr l ↦ replicate-past n s [] [] l ]

-- the sums of a decoder that starts in one state
pub one_start : (states start : ℕ) → start < states → (s : ℕ)
    → sums_at (set (replicate states None) start (Some 0)) s ≡ (if nat_eq s start then Some 0 else None)
one_start states start h s = each (nat_eq s start) refl
  where
    other : (xs : List (Option ℕ)) (x : Option ℕ) (n i : ℕ) → i ≢ n → get_or (set xs n x) i None ≡ get_or xs i None
    other xs x n i l = grind (arith, common_steps)

    here : (xs : List (Option ℕ)) (x : Option ℕ) (n i : ℕ) → i ≡ n → n < length xs → get_or (set xs n x) i None ≡ x
    here xs x n i e l = grind (arith, common_steps)

    nowhere : sums_at (replicate states None) s ≡ None
    nowhere = elim (cases_lt s states) [ inl l ↦ get_or-replicate states s None None l | inr l ↦ replicate-past states s None None l ]

    each : (b : Bool) → nat_eq s start ≡ b → sums_at (set (replicate states None) start (Some 0)) s ≡ (if b then Some 0 else None)
    each b e = grind (arith, here, eqb-true, length-replicate, other, eqb-false, nowhere)

-- sums that are those of a start are zero
pub start-zero : (sums : List (Option ℕ)) (starts : ℕ → Bool) → ((s : ℕ) → sums_at sums s ≡ (if starts s then Some 0 else None)) → (s m : ℕ)
    → sums_at sums s ≡ Some m → m ≡ 0
start-zero sums starts h s m e = grind (arith)

abbrev pub start_sum : Bool → Option ℕ
start_sum b = if b then Some 0 else None

pub self_start : (s : ℕ) → start_sum (nat_eq s s) ≡ Some 0
self_start s = let e : nat_eq s s ≡ true = grind (arith, nat_tests) in rw e refl

pub start-reached : (states start : ℕ) → start < states → sums_at (set (replicate states None) start (Some 0)) start ≡ Some 0
start-reached states start h = one_start states start h start ∙ self_start start

pub start-small : (states start : ℕ) → start < states → (s m : ℕ) → sums_at (set (replicate states None) start (Some 0)) s ≡ Some m → m ≡ 0
start-small states start h = start-zero (set (replicate states None) start (Some 0)) (λ s. nat_eq s start) (one_start states start h)

-- the sums of a decoder that starts in any state
pub any_start : (states s : ℕ) → sums_at (replicate states (Some 0)) s ≡ (if nat_lt s states then Some 0 else None)
any_start states s = grind (arith, get_or-replicate, lt-ltb, replicate-past, le-ltb)

pub any-small : (states s m : ℕ) → sums_at (replicate states (Some 0)) s ≡ Some m → m ≡ 0
any-small states = start-zero (replicate states (Some 0)) (λ s. nat_lt s states) (any_start states)

-- what is kept before the first sample
abbrev pub start_kept : ℕ → List (Option ℕ) → Kept
start_kept states sums = record { sums = sums; tails = replicate states []; unreleased = 0 }

pub start-keeps : {X : Type 0} (c : Trellis X) (states first : ℕ) (sums : List (Option ℕ)) → c.starts first ≡ true
    → ((s : ℕ) → sums_at sums s ≡ (if c.starts s then Some 0 else None)) → KeepsSurvivors c (start_kept states sums) [] []
    × IsReleased c [] []
start-keeps {X} c states first sums there h = (
  record { base = 0; keeps = keeps; long = refl },
  released-of c [] 0 sums (replicate states []) [] keeps (inl (first, 0, h first ∙ ap start_sum there, empty-tails states first)),
)
  where
    keeps : Keeps c [] 0 (sums_at sums) (λ s. [] ++ tail_at (replicate states []) s)
    keeps = Keeps-start c (sums_at sums) (λ s. [] ++ tail_at (replicate states []) s) (λ s. empty-tails states s) h

pub start-stands : (table : ℕ → ℕ → Option ℕ) (points : ℕ → Sample) (starts : ℕ → Bool) (states depth first : ℕ) (sums : List (Option ℕ))
    (d : Decoding) → starts first ≡ true → ((s : ℕ) → sums_at sums s ≡ (if starts s then Some 0 else None))
    → opened d.memory ≡ start_kept states sums → d.count ≡ 0 → d.pending ≡ [] → d.lost ≡ None
    → DecoderStands table points starts depth d [] []
start-stands table points starts states depth first sums d there h kept count pending lost =
    let c = trellis_of table points starts in
    let k = start-keeps c states first sums there h in
    record {
      counted = count ∙ sym (ap (λ o. length (heard o [])) lost);
      lost = subst (LostIs c depth []) (sym lost) (λ n within o. let l = o.over in absurd (omega arith));
      released = subst (λ s. IsReleased c s ([] ++ d.pending)) (sym (ap (λ o. heard o []) lost))
          (subst (IsReleased c []) (sym pending) k.1);
      keeps = λ _. subst (λ p. KeepsSurvivors c (opened d.memory) [] p) (sym pending)
          (subst (λ v. KeepsSurvivors c v [] []) (sym kept) k.0);
    }
