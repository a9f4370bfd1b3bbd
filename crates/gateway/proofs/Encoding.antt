-- Bits that are read in twos and fours, and a sample that is put behind those that are given.
use Rattle.gateway.proofs.Names.{◌≡◌, ℕ, zero, suc, ◌+◌, ◌*◌, ◌%◌, ◌<◌, ◌≤◌, ℤ, pos, Bool, List, [], ◌∷◌, ◌++◌, length, get_or, set, nat_eq}
use Rattle.gateway.proofs.Names.{refl, arith, get_or-set_same, get_or-set_other, length-set, append_assoc, heard, samples_in, Sample}

pub heard-two : (bits : List ℕ) (at : ℕ) (c d : Bool) → nat_eq (get_or bits at 0 % 2) 1 ≡ c → nat_eq (get_or bits (at + 1) 0 % 2) 1 ≡ d
    → heard (at + 2) bits ≡ heard at bits ++ c ∷ d ∷ []
heard-two bits at c d ec ed = grind (arith, append_assoc)

pub heard-four : (bits : List ℕ) (at : ℕ) (c d e f : Bool) → nat_eq (get_or bits at 0 % 2) 1 ≡ c → nat_eq (get_or bits (at + 1) 0 % 2) 1 ≡ d
    → nat_eq (get_or bits (at + 2) 0 % 2) 1 ≡ e → nat_eq (get_or bits (at + 3) 0 % 2) 1 ≡ f
    → heard (at + 4) bits ≡ heard at bits ++ c ∷ d ∷ e ∷ f ∷ []
heard-four bits at c d e f ec ed ee ef = grind (arith, heard-two, append_assoc)

-- a part that is put behind the samples that are given changes none of them
samples-set : (k j : ℕ) (v : ℤ) (parts : List ℤ) → 2 * k ≤ j → samples_in k (set parts j v) ≡ samples_in k parts
samples-set zero j v parts le = refl
samples-set (suc k) j v parts le = λ i. samples-set k j v parts (omega arith) i ++ record {
  re = get_or-set_other parts j (2 * k) v (pos 0) (λ e. omega arith) i;
  im = get_or-set_other parts j (2 * k + 1) v (pos 0) (λ e. omega arith) i;
} ∷ []

pub samples-put : (parts : List ℤ) (k : ℕ) (s : Sample) → 2 * k + 1 < length parts
    → samples_in (k + 1) (set (set parts (2 * k) s.re) (2 * k + 1) s.im) ≡ samples_in k parts ++ s ∷ []
samples-put parts k s within = grind (arith, length-set, get_or-set_other, get_or-set_same, samples-set)
