-- The bits that octets say by their lowest, one after another.
use Rattle.gateway.proofs.Names.{ℕ, zero, suc, ◌+◌, ◌%◌, ◌≡◌, ◌<◌, ◌≤◌, ◌∷◌, ◌++◌, Bool, List, [], Option, None, nat_eq, get_or, length}
use Rattle.gateway.proofs.Names.{refl, ap, sym, append_assoc, ◌∙◌, arith, length-append, heard}
use Rattle.std.proofs.Common.{eq-or-lt_of_le}

pub length-heard : (k : ℕ) (octets : List ℕ) → length (heard k octets) ≡ k
length-heard zero octets = refl
length-heard (suc k) octets = grind (arith, length-append, length-heard k octets)

-- one bit more
pub heard-more : (past : List Bool) (octets : List ℕ) (k k' : ℕ) → k' ≡ suc k
    → (past ++ heard k octets) ++ nat_eq (get_or octets k 0 % 2) 1 ∷ [] ≡ past ++ heard k' octets
heard-more past octets k k' e = append_assoc past (heard k octets) _ ∙ (λ i. past ++ heard (sym e i) octets)

pub length-heard-behind : (past : List Bool) (octets : List ℕ) (k : ℕ) → length (past ++ heard k octets) ≡ length past + k
length-heard-behind past octets k = length-append past (heard k octets) ∙ ap (λ n. length past + n) (length-heard k octets)

-- what it does behind none of these bits, and not behind the next one, it does behind none of them
pub none_more : {X : Type 0} (does : List Bool → Option X) (past : List Bool) (bits : List ℕ) (k k' : ℕ) → k' ≡ suc k
    → ((n : ℕ) → 0 < n → n ≤ k → does (past ++ heard n bits) ≡ None) → does (past ++ heard k' bits) ≡ None
    → (n : ℕ) → 0 < n → n ≤ k' → does (past ++ heard n bits) ≡ None
none_more does past bits k k' e before last n low high = grind (arith, eq-or-lt_of_le, heard)
