-- One more parameter, and what is gathered and known of those before it.
use Rattle.xid_params.proofs.Names.{◌≡◌, ◌≢◌, ℕ, Bool, true, false, not, IsTrue, ◌&&◌, List, [], ◌∷◌, ◌++◌, length, nat_eq, cond, Option}
use Rattle.xid_params.proofs.Names.{Some, arith, refl, sym, ◌∙◌, ap, subst, false≢true, nat_tests, append-nil, IsRepeated, Stands}
use Rattle.xid_params.proofs.Names.{identifier_of, accepts, is_low, octets_of_bits, segments_of, stands_well, said, AreWell, Part, named}
use Rattle.xid_params.proofs.Names.{Given, Parameter, Functions, TxLength, RxLength, TxWindow, RxWindow}
use Rattle.xid_params.specs.Parameters.{has_bit}
use Rattle.xid_params.proofs.Lists.{named-append}

-- parameters are told apart by their identifiers

parameter_of : ℕ → Parameter
parameter_of n = cond (nat_eq n 3) Functions (cond (nat_eq n 5) TxLength (cond (nat_eq n 6) RxLength (cond (nat_eq n 7) TxWindow RxWindow)))

of-identifier : (p : Parameter) → parameter_of (identifier_of p) ≡ p
unfolding parameter_of
of-identifier q0 = grind (arith)

pub same-parameter : (p q : Parameter) → identifier_of p ≡ identifier_of q → p ≡ q
same-parameter p q e = sym (of-identifier p) ∙ ap parameter_of e ∙ of-identifier q

-- one more part among those with an identifier

pub named-other : (k : ℕ) (parts : List Part) (part : Part) → nat_eq part.identifier k ≡ false
    → named k (parts ++ part ∷ []) ≡ named k parts
named-other k parts part other = grind (arith, named-append, cond, append-nil)

pub named-first : (k : ℕ) (parts : List Part) (part : Part) → named k parts ≡ [] → nat_eq part.identifier k ≡ true
    → named k (parts ++ part ∷ []) ≡ part ∷ []
named-first k parts part none same = grind (arith, named-append, cond)

said-other : {A : Type 0} (read : List ℕ → A) (k : ℕ) (parts : List Part) (part : Part) (o : Option A) → nat_eq part.identifier k ≡ false
    → o ≡ said read (named k parts) → o ≡ said read (named k (parts ++ part ∷ []))
said-other read k parts part o other e = e ∙ ap (said read) (sym (named-other k parts part other))

said-first : {A : Type 0} (read : List ℕ → A) (k : ℕ) (parts : List Part) (part : Part) (a : A) → named k parts ≡ []
    → nat_eq part.identifier k ≡ true → a ≡ read part.value → (let o : Option A = Some a in o) ≡ said read (named k (parts ++ part ∷ []))
said-first read k parts part a none same e = ap Some e ∙ ap (said read) (sym (named-first k parts part none same))

-- what is gathered behind a parameter

pub stands-other : (given : Given) (parts : List Part) (part : Part) → ((p : Parameter) → part.identifier ≢ identifier_of p)
    → Stands given parts → Stands given (parts ++ part ∷ [])
stands-other given parts part none s =
    let apart : (p : Parameter) → nat_eq part.identifier (identifier_of p) ≡ false = λ p. (let h = none p in grind (arith, nat_tests)) in
    record {
      srej = said-other (has_bit 3) 3 parts part given.srej (apart Functions) s.srej;
      check32 = said-other (has_bit 17) 3 parts part given.check32 (apart Functions) s.check32;
      tx_len = said-other octets_of_bits 5 parts part given.tx_len (apart TxLength) s.tx_len;
      rx_len = said-other octets_of_bits 6 parts part given.rx_len (apart RxLength) s.rx_len;
      tx_window = said-other segments_of 7 parts part given.tx_window (apart TxWindow) s.tx_window;
      rx_window = said-other segments_of 8 parts part given.rx_window (apart RxWindow) s.rx_window;
    }

-- by the parameter that the code has come to
pub at-parameter : (p q : Parameter) (given : Given) (parts : List Part) (value : List ℕ) → p ≡ q
    → (named (identifier_of q) parts ≡ [] → Stands given (parts ++ record { identifier = identifier_of q; value = value } ∷ []))
    → named (identifier_of p) parts ≡ [] → Stands given (parts ++ record { identifier = identifier_of p; value = value } ∷ [])
at-parameter p q given parts value e h =
    subst (λ r. named (identifier_of r) parts ≡ [] → Stands given (parts ++ record { identifier = identifier_of r; value = value } ∷ []))
    (sym e) h

pub stands-functions : (given : Given) (parts : List Part) (value : List ℕ) (srej check32 : Bool) → Stands given parts
    → srej ≡ has_bit 3 value → check32 ≡ has_bit 17 value
    → named 3 parts ≡ [] → Stands (record given { srej = Some srej; check32 = Some check32 })
    (parts ++ record { identifier = 3; value = value } ∷ [])
stands-functions given parts value srej check32 s e f none = let part : Part = record { identifier = 3; value = value } in record {
  srej = said-first (has_bit 3) 3 parts part srej none refl e;
  check32 = said-first (has_bit 17) 3 parts part check32 none refl f;
  tx_len = said-other octets_of_bits 5 parts part given.tx_len refl s.tx_len;
  rx_len = said-other octets_of_bits 6 parts part given.rx_len refl s.rx_len;
  tx_window = said-other segments_of 7 parts part given.tx_window refl s.tx_window;
  rx_window = said-other segments_of 8 parts part given.rx_window refl s.rx_window;
}

pub stands-tx_length : (given : Given) (parts : List Part) (value : List ℕ) (len : ℕ) → Stands given parts → len ≡ octets_of_bits value
    → named 5 parts ≡ [] → Stands (record given { tx_len = Some len }) (parts ++ record { identifier = 5; value = value } ∷ [])
stands-tx_length given parts value len s e none = let part : Part = record { identifier = 5; value = value } in record {
  srej = said-other (has_bit 3) 3 parts part given.srej refl s.srej;
  check32 = said-other (has_bit 17) 3 parts part given.check32 refl s.check32;
  tx_len = said-first octets_of_bits 5 parts part len none refl e;
  rx_len = said-other octets_of_bits 6 parts part given.rx_len refl s.rx_len;
  tx_window = said-other segments_of 7 parts part given.tx_window refl s.tx_window;
  rx_window = said-other segments_of 8 parts part given.rx_window refl s.rx_window;
}

pub stands-rx_length : (given : Given) (parts : List Part) (value : List ℕ) (len : ℕ) → Stands given parts → len ≡ octets_of_bits value
    → named 6 parts ≡ [] → Stands (record given { rx_len = Some len }) (parts ++ record { identifier = 6; value = value } ∷ [])
stands-rx_length given parts value len s e none = let part : Part = record { identifier = 6; value = value } in record {
  srej = said-other (has_bit 3) 3 parts part given.srej refl s.srej;
  check32 = said-other (has_bit 17) 3 parts part given.check32 refl s.check32;
  tx_len = said-other octets_of_bits 5 parts part given.tx_len refl s.tx_len;
  rx_len = said-first octets_of_bits 6 parts part len none refl e;
  tx_window = said-other segments_of 7 parts part given.tx_window refl s.tx_window;
  rx_window = said-other segments_of 8 parts part given.rx_window refl s.rx_window;
}

pub stands-tx_window : (given : Given) (parts : List Part) (value : List ℕ) (window : ℕ) → Stands given parts → window ≡ segments_of value
    → named 7 parts ≡ [] → Stands (record given { tx_window = Some window }) (parts ++ record { identifier = 7; value = value } ∷ [])
stands-tx_window given parts value window s e none = let part : Part = record { identifier = 7; value = value } in record {
  srej = said-other (has_bit 3) 3 parts part given.srej refl s.srej;
  check32 = said-other (has_bit 17) 3 parts part given.check32 refl s.check32;
  tx_len = said-other octets_of_bits 5 parts part given.tx_len refl s.tx_len;
  rx_len = said-other octets_of_bits 6 parts part given.rx_len refl s.rx_len;
  tx_window = said-first segments_of 7 parts part window none refl e;
  rx_window = said-other segments_of 8 parts part given.rx_window refl s.rx_window;
}

pub stands-rx_window : (given : Given) (parts : List Part) (value : List ℕ) (window : ℕ) → Stands given parts → window ≡ segments_of value
    → named 8 parts ≡ [] → Stands (record given { rx_window = Some window }) (parts ++ record { identifier = 8; value = value } ∷ [])
stands-rx_window given parts value window s e none = let part : Part = record { identifier = 8; value = value } in record {
  srej = said-other (has_bit 3) 3 parts part given.srej refl s.srej;
  check32 = said-other (has_bit 17) 3 parts part given.check32 refl s.check32;
  tx_len = said-other octets_of_bits 5 parts part given.tx_len refl s.tx_len;
  rx_len = said-other octets_of_bits 6 parts part given.rx_len refl s.rx_len;
  tx_window = said-other segments_of 7 parts part given.tx_window refl s.tx_window;
  rx_window = said-first segments_of 8 parts part window none refl e;
}

-- a parameter that is not repeated has none of its identifier before it
pub not-repeated : (parts : List Part) (identifier : ℕ) (p : Parameter) → identifier ≡ identifier_of p → (IsRepeated parts identifier → ⊥)
    → named (identifier_of p) parts ≡ []
not-repeated parts identifier p e new = subst (λ k. named k parts ≡ []) e (go (named identifier parts) refl) where
  go : (found : List Part) → named identifier parts ≡ found → named identifier parts ≡ []
  go [] f = f
  go (x ∷ found) f = absurd
      (new (record { parameter = p; identifier_is = e; again = λ none. let bad : x ∷ found ≡ [] = sym f ∙ none in cc }))

-- parameters that stand well, and one more

pub and-left : (a b : Bool) → IsTrue (a && b) → IsTrue a
and-left q0 b h = grind (arith)

pub and-right : (a b : Bool) → IsTrue (a && b) → IsTrue b
and-right q0 b h = grind (arith)

pub and-both : (a b : Bool) → IsTrue a → IsTrue b → IsTrue (a && b)
and-both q0 b h k = grind (arith)

pub well-none : AreWell []
well-none = record { each = λ p. refl }

well-kept : (q : Parameter) (parts : List Part) (part : Part) → nat_eq part.identifier (identifier_of q) ≡ false → AreWell parts
    → IsTrue (stands_well q (named (identifier_of q) (parts ++ part ∷ [])))
well-kept q parts part other w = subst (λ ps. IsTrue (stands_well q ps)) (sym (named-other (identifier_of q) parts part other)) (w.each q)

pub well-other : (parts : List Part) (part : Part) → ((p : Parameter) → part.identifier ≢ identifier_of p) → AreWell parts
    → AreWell (parts ++ part ∷ [])
well-other parts part none w = record { each = λ q. well-kept q parts part (let h = none q in grind (arith, nat_tests)) w }

pub well-more : (parts : List Part) (part : Part) (p : Parameter) → part.identifier ≡ identifier_of p → named (identifier_of p) parts ≡ []
    → IsTrue (accepts p (length part.value)) → IsTrue (not (is_low p part.value)) → AreWell parts → AreWell (parts ++ part ∷ [])
well-more parts part p e none accepted high w = record { each = λ q. go q (nat_eq part.identifier (identifier_of q)) refl } where
  go : (q : Parameter) (b : Bool) → nat_eq part.identifier (identifier_of q) ≡ b
      → IsTrue (stands_well q (named (identifier_of q) (parts ++ part ∷ [])))
  go q false f = well-kept q parts part f w
  go q true f =
      let same : part.identifier ≡ identifier_of q = grind (arith, nat_tests) in
      let is : p ≡ q = same-parameter p q (sym e ∙ same) in
      subst (λ ps. IsTrue (stands_well q ps))
      (sym (named-first (identifier_of q) parts part (subst (λ r. named (identifier_of r) parts ≡ []) is none) f))
      (subst (λ r. IsTrue (accepts r (length part.value) && not (is_low r part.value))) is
      (and-both (accepts p (length part.value)) (not (is_low p part.value)) accepted high))

pub record StandsAlone (q : Parameter) (before : List Part) (part : Part) : Type 0 where
  pub first : before ≡ []
  pub accepted : IsTrue (accepts q (length part.value))
  pub high : IsTrue (not (is_low q part.value))

well-alone : (q : Parameter) (xs ys : List Part) (part : Part) → IsTrue (stands_well q (xs ++ part ∷ ys)) → StandsAlone q xs part
well-alone q [] [] part h =
    record {
      first = refl;
      accepted = and-left (accepts q (length part.value)) (not (is_low q part.value)) h;
      high = and-right (accepts q (length part.value)) (not (is_low q part.value)) h;
    }
well-alone q [] (y ∷ ys) part h = absurd (false≢true h)
well-alone q (x ∷ []) ys part h = absurd (false≢true h)
well-alone q (x ∷ z ∷ xs) ys part h = absurd (false≢true h)

-- a parameter among others that stand well
pub stands-alone : (parts before more : List Part) (part : Part) (q : Parameter) → AreWell parts → parts ≡ before ++ part ∷ more
    → part.identifier ≡ identifier_of q → StandsAlone q (named (identifier_of q) before) part
stands-alone parts before more part q w e is =
    let same : nat_eq part.identifier (identifier_of q) ≡ true = grind (arith, nat_tests) in
    well-alone q (named (identifier_of q) before) (named (identifier_of q) more) part
    (subst (λ ps. IsTrue (stands_well q ps))
    (ap (named (identifier_of q)) e ∙ named-append (identifier_of q) before (part ∷ more)
    ∙ ap (λ b. named (identifier_of q) before ++ cond b (part ∷ named (identifier_of q) more) (named (identifier_of q) more)) same)
    (w.each q))
