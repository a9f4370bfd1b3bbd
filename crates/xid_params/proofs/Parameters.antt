-- Group 80: its parameters as they are passed, their faults, and the first of these.
use Rattle.xid_params.proofs.Names.{◌≡◌, ℕ, suc, ◌+◌, ◌-◌, ◌<◌, ◌≤◌, ◌⊎◌, inl, inr, Bool, not, IsTrue, List, [], ◌∷◌, ◌++◌, length}
use Rattle.xid_params.proofs.Names.{append_assoc, length-append, arith, refl, sym, ◌∙◌, ap, subst, append-nil, flat_map-append, flat_map}
use Rattle.xid_params.proofs.Names.{place_of, IsRepeated, IsParameterWrong, ParameterHas, IsFirst, Stands, identifier_of, accepts, is_low}
use Rattle.xid_params.proofs.Names.{AreWell, ParametersSpell, Part, parameter_octets, named, XidFault, Format, Group, Length, Value}
use Rattle.xid_params.proofs.Names.{Repeated, Given, Offer, Parameter}
use Rattle.std.proofs.lemmas.Bool.{cases_lt}
use Rattle.xid_params.specs.Faults.{IsParameterCut, HasWrongLength, IsIdentifiedWrong}
use Rattle.xid_params.proofs.Lists.{parameter-free, cut-append, compare}
use Rattle.xid_params.proofs.Tables.{same-parameter, stands-alone}

-- what is known of the parameters that were passed
pub record ParametersPassed (content rest : List ℕ) (given : Given) : Type 0 where
  pub parts : List Part
  pub whole : content ≡ flat_map parameter_octets parts ++ rest
  pub stands : Stands given parts
  pub well : AreWell parts

-- True is not false.
pub true-and-false : (b : Bool) → IsTrue b → IsTrue (not b) → ⊥
true-and-false q0 h k = grind (arith)

pub fault-from : (parts : List Part) (identifier : ℕ) (tail : List ℕ) (at : ℕ) (fault : XidFault)
    → IsParameterWrong parts identifier tail at fault → at ≤ place_of fault
fault-from parts identifier tail at q4 w = grind (arith)

pub fault-to : (parts : List Part) (identifier : ℕ) (tail : List ℕ) (at : ℕ) (fault : XidFault)
    → IsParameterWrong parts identifier tail at fault → place_of fault ≤ at + 2
fault-to parts identifier tail at q4 w = grind (arith)

-- a cut parameter isn't whole
whole-not-cut : (tail value rest : List ℕ) → tail ≡ length value ∷ (value ++ rest) → IsParameterCut tail → ⊥
whole-not-cut [] value rest e h = cc
whole-not-cut (count ∷ more) value rest e h = grind (arith, length-append)

-- its length is that of the value
measured : (tail value rest : List ℕ) (identifier : ℕ) (q : Parameter) → tail ≡ length value ∷ (value ++ rest)
    → identifier ≡ identifier_of q → IsTrue (accepts q (length value)) → HasWrongLength identifier tail → ⊥
measured tail value rest identifier q e is accepted m = grind (arith, same-parameter, true-and-false, not)

-- nothing is wrong with a parameter among those that stand well
pub none-wrong : (parts before more : List Part) (part : Part) (identifier : ℕ) (tail rest : List ℕ) (at : ℕ) (fault : XidFault)
    → AreWell parts → parts ≡ before ++ part ∷ more → identifier ∷ tail ≡ parameter_octets part ++ rest
    → IsParameterWrong before identifier tail at fault → ⊥
none-wrong parts before more part identifier tail rest at (Repeated place) w e f (p, r) =
    let is : identifier ≡ part.identifier = cc in
    let alone = stands-alone parts before more part r.parameter w e (sym is ∙ r.identifier_is) in
    r.again (ap (λ k. named k before) r.identifier_is ∙ alone.first)
none-wrong parts before more part identifier tail rest at (Length place) w e f (p, inl cut) = grind (arith, whole-not-cut)
none-wrong parts before more part identifier tail rest at (Length place) w e f (p, inr m) =
    let is : identifier ≡ part.identifier = cc in
    let t : tail ≡ length part.value ∷ (part.value ++ rest) = cc in
    let alone = stands-alone parts before more part m.parameter w e (sym is ∙ m.identifier_is) in
    measured tail part.value rest identifier m.parameter t m.identifier_is alone.accepted m
none-wrong parts before more part identifier tail rest at (Value place) w e f (p, l) =
    let is : identifier ≡ part.identifier = cc in
    let t : tail ≡ length part.value ∷ (part.value ++ rest) = cc in
    let alone = stands-alone parts before more part l.parameter w e (sym is ∙ l.identifier_is) in
    let both : length l.value ∷ (l.value ++ l.rest) ≡ length part.value ∷ (part.value ++ rest) = sym l.tail_is ∙ t in
    let count : length l.value ≡ length part.value = cc in
    let octets : l.value ++ l.rest ≡ part.value ++ rest = cc in
    let same = (cut-append l.value part.value l.rest rest count octets).0 in
    true-and-false (is_low l.parameter part.value) (subst (λ v. IsTrue (is_low l.parameter v)) same l.low) alone.high
none-wrong parts before more part identifier tail rest at (Group place) w e f h = h
none-wrong parts before more part identifier tail rest at Format w e f h = h

-- a fault behind the parameters that were passed
pub record Behind (parts : List Part) (rest : List ℕ) (here q : ℕ) (fault : XidFault) : Type 0 where
  pub more : List Part
  pub identifier : ℕ
  pub tail : List ℕ
  pub rest_is : rest ≡ flat_map parameter_octets more ++ identifier ∷ tail
  pub at_is : q ≡ here + length (flat_map parameter_octets more)
  pub wrong : IsParameterWrong (parts ++ more) identifier tail q fault

-- faults stand behind the parameters that stand well
pub behind : (content rest : List ℕ) (parts : List Part) (start q : ℕ) (fault : XidFault) → AreWell parts
    → content ≡ flat_map parameter_octets parts ++ rest → ParameterHas content start q fault
    → Behind parts rest (start + length (flat_map parameter_octets parts)) q fault
behind content rest parts start q fault w e h =
    elim (compare parameter_octets parameter-free parts h.parts rest (h.identifier ∷ h.tail) (sym e ∙ h.whole)) [
      | inl g ↦ record {
        more = g.more;
        identifier = h.identifier;
        tail = h.tail;
        rest_is = g.rest_is;
        at_is =
            let split : flat_map parameter_octets h.parts ≡ flat_map parameter_octets parts ++ flat_map parameter_octets g.more =
            ap (flat_map parameter_octets) g.parts_are ∙ flat_map-append parameter_octets parts g.more in
            omega (arith, h.at_is, ap length split, length-append (flat_map parameter_octets parts) (flat_map parameter_octets g.more));
        wrong = subst (λ ps. IsParameterWrong ps h.identifier h.tail q fault) g.parts_are h.wrong;
      }
      | inr l ↦ absurd (none-wrong parts h.parts l.more l.next h.identifier h.tail
          (flat_map parameter_octets l.more ++ rest) q fault w l.parts_are l.rest_is h.wrong)
    ]

pub le-before : (f g at q : ℕ) → f ≤ g → at ≤ q → (f < g) ⊎ ((f ≡ g) × (at ≤ q))
le-before f g at q l m = elim (cases_lt f g) [ inl h ↦ inl h | inr h ↦ inr (omega arith, m) ]

first-more : (parts more : List Part) (identifier other_identifier : ℕ) (tail other_tail : List ℕ) (at q : ℕ) (fault other : XidFault)
    → IsParameterWrong parts identifier tail at fault
    → ((g : XidFault) → IsParameterWrong parts identifier tail at g → place_of fault ≤ place_of g)
    → identifier ∷ tail ≡ flat_map parameter_octets more ++ other_identifier ∷ other_tail → q ≡ at + length (flat_map parameter_octets more)
    → IsParameterWrong (parts ++ more) other_identifier other_tail q other
    → (place_of fault < place_of other) ⊎ ((place_of fault ≡ place_of other) × (at ≤ q))
first-more parts [] identifier other_identifier tail other_tail at q fault other wrong least rest_is at_is other_wrong =
    let i : other_identifier ≡ identifier = cc in
    let t : other_tail ≡ tail = cc in
    let n : q ≡ at = omega arith in
    let here : at ≤ q = omega arith in
    le-before (place_of fault) (place_of other) at q
    (least other (subst (λ m. IsParameterWrong parts identifier tail m other) n
    (subst (λ o. IsParameterWrong parts identifier o q other) t
    (subst (λ k. IsParameterWrong parts k other_tail q other) i
    (subst (λ ps. IsParameterWrong ps other_identifier other_tail q other) (append-nil parts) other_wrong))))) here
first-more parts (m ∷ ms) identifier other_identifier tail other_tail at q fault other wrong least rest_is at_is other_wrong =
    let to = fault-to parts identifier tail at fault wrong in
    let from = fault-from (parts ++ m ∷ ms) other_identifier other_tail q other other_wrong in
    le-before (place_of fault) (place_of other) at q (omega (arith, to, from, length-append {A = ℕ})) (omega arith)

place-within : (parts : List Part) (identifier : ℕ) (tail : List ℕ) (at : ℕ) (fault : XidFault) (end : ℕ)
    → IsParameterWrong parts identifier tail at fault → at + 1 + length tail ≤ end → place_of fault ≤ end
place-within parts identifier tail at q4 end w room = grind (arith)

-- The first fault stands at the parameter that comes next.
pub first-parameter : (content : List ℕ) (parts : List Part) (identifier : ℕ) (tail : List ℕ) (start at : ℕ) (fault : XidFault)
    → AreWell parts
    → content ≡ flat_map parameter_octets parts ++ identifier ∷ tail → at ≡ start + length (flat_map parameter_octets parts)
    → IsParameterWrong parts identifier tail at fault
    → ((other : XidFault) → IsParameterWrong parts identifier tail at other → place_of fault ≤ place_of other)
    → IsFirst (ParameterHas content start) fault
first-parameter content parts identifier tail start at fault w e at_is wrong least = record {
  at = at;
  here = record { parts = parts; identifier = identifier; tail = tail; whole = e; at_is = at_is; wrong = wrong };
  first = λ q other h.
      let b = behind content (identifier ∷ tail) parts start q other w e h in
      first-more parts b.more identifier b.identifier tail b.tail at q fault other wrong least b.rest_is
      (b.at_is ∙ ap (λ n. n + length (flat_map parameter_octets b.more)) (sym at_is)) b.wrong;
}

least-length : (parts : List Part) (identifier : ℕ) (tail : List ℕ) (at : ℕ) → (IsRepeated parts identifier → ⊥) → (other : XidFault)
    → IsParameterWrong parts identifier tail at other → at + 1 ≤ place_of other
least-length parts identifier tail at new q5 w = grind (arith)

least-value : (parts : List Part) (identifier : ℕ) (tail value rest : List ℕ) (q : Parameter) (at : ℕ) → (IsRepeated parts identifier → ⊥)
    → tail ≡ length value ∷ (value ++ rest) → identifier ≡ identifier_of q → IsTrue (accepts q (length value))
    → (other : XidFault) → IsParameterWrong parts identifier tail at other → at + 2 ≤ place_of other
least-value parts identifier tail value rest q at new e is accepted (Repeated place) (p, r) = absurd (new r)
least-value parts identifier tail value rest q at new e is accepted (Length place) (p, inl cut) = grind (arith, whole-not-cut)
least-value parts identifier tail value rest q at new e is accepted (Length place) (p, inr m) = grind (arith, measured)
least-value parts identifier tail value rest q at new e is accepted (Value place) (p, w) = omega arith
least-value parts identifier tail value rest q at new e is accepted (Group place) w = absurd w
least-value parts identifier tail value rest q at new e is accepted Format w = absurd w

-- where the next parameter begins
place-is : (content rest : List ℕ) (parts : List Part) (start : ℕ) → content ≡ flat_map parameter_octets parts ++ rest
    → start + (length content - length rest) ≡ start + length (flat_map parameter_octets parts)
place-is content rest parts start e = omega (arith, ap length e, length-append (flat_map parameter_octets parts) rest)

whole-tail : (identifier count : ℕ) (tail value after : List ℕ) → identifier ∷ tail ≡ identifier ∷ count ∷ (value ++ after)
    → tail ≡ count ∷ (value ++ after)
whole-tail identifier count tail value after e = cc

-- the exits of the loop, by what it knows there

repeated-first : (content tail : List ℕ) (given : Given) (identifier start : ℕ)
    → ((parts : List Part) → Stands given parts → IsRepeated parts identifier) → ParametersPassed content (identifier ∷ tail) given
    → IsFirst (ParameterHas content start) (Repeated (start + (length content - length (identifier ∷ tail))))
repeated-first content tail given identifier start r p =
    let at : ℕ = start + (length content - length (identifier ∷ tail)) in
    first-parameter content p.parts identifier tail start at (Repeated at) p.well p.whole
    (place-is content (identifier ∷ tail) p.parts start p.whole) (refl, r p.parts p.stands)
    (λ other w. fault-from p.parts identifier tail at other w)

pub repeated-exit : (content rest tail : List ℕ) (given : Given) (identifier start : ℕ) → rest ≡ identifier ∷ tail
    → ((parts : List Part) → Stands given parts → IsRepeated parts identifier) → ParametersPassed content rest given
    → IsFirst (ParameterHas content start) (Repeated (start + (length content - length rest)))
repeated-exit content rest tail given identifier start e r =
    subst (λ o. ParametersPassed content o given → IsFirst (ParameterHas content start) (Repeated (start + (length content - length o))))
    (sym e) (repeated-first content tail given identifier start r)

cut-first : (content tail : List ℕ) (given : Given) (identifier start : ℕ)
    → ((parts : List Part) → Stands given parts → IsRepeated parts identifier → ⊥) → IsParameterCut tail
    → ParametersPassed content (identifier ∷ tail) given
    → IsFirst (ParameterHas content start) (Length (start + (length content - length (identifier ∷ tail)) + 1))
cut-first content tail given identifier start new cut p =
    let at : ℕ = start + (length content - length (identifier ∷ tail)) in
    first-parameter content p.parts identifier tail start at (Length (at + 1)) p.well p.whole
    (place-is content (identifier ∷ tail) p.parts start p.whole) (refl, inl cut)
    (least-length p.parts identifier tail at (new p.parts p.stands))

pub cut-exit : (content rest tail : List ℕ) (given : Given) (identifier start : ℕ) → rest ≡ identifier ∷ tail
    → ((parts : List Part) → Stands given parts → IsRepeated parts identifier → ⊥) → IsParameterCut tail
    → ParametersPassed content rest given
    → IsFirst (ParameterHas content start) (Length (start + (length content - length rest) + 1))
cut-exit content rest tail given identifier start e new cut =
    subst (λ o. ParametersPassed content o given → IsFirst (ParameterHas content start) (Length (start + (length content - length o) + 1)))
    (sym e) (cut-first content tail given identifier start new cut)

identified-at : (content tail value after : List ℕ) (parts : List Part) (identifier start at : ℕ) (fault : XidFault) → AreWell parts
    → content ≡ flat_map parameter_octets parts ++ identifier ∷ tail → at ≡ start + length (flat_map parameter_octets parts)
    → (IsRepeated parts identifier → ⊥) → tail ≡ length value ∷ (value ++ after) → IsIdentifiedWrong identifier value at fault
    → IsFirst (ParameterHas content start) fault
identified-at content tail value after parts identifier start at (Length place) w e at_is new t_is t =
    first-parameter content parts identifier tail start at (Length place) w e at_is (
      t.wrong.0,
      inr (record {
        parameter = t.parameter;
        identifier_is = t.identifier_is;
        count = length value;
        rest = value ++ after;
        tail_is = t_is;
        refused = t.wrong.1;
      }),
    )
    (λ other h. let least = least-length parts identifier tail at new other h in let is : place ≡ at + 1 = t.wrong.0 in omega arith)
identified-at content tail value after parts identifier start at (Value place) w e at_is new t_is t =
    first-parameter content parts identifier tail start at (Value place) w e at_is (
      t.wrong.0,
      record {
        parameter = t.parameter;
        identifier_is = t.identifier_is;
        value = value;
        rest = after;
        tail_is = t_is;
        accepted = t.wrong.1;
        low = t.wrong.2;
      },
    )
    (λ other h. let least = least-value parts identifier tail value after t.parameter at new t_is t.identifier_is t.wrong.1 other h in
    let is : place ≡ at + 2 = t.wrong.0 in omega arith)
identified-at content tail value after parts identifier start at (Repeated place) w e at_is new t_is t = absurd t.wrong
identified-at content tail value after parts identifier start at (Group place) w e at_is new t_is t = absurd t.wrong
identified-at content tail value after parts identifier start at Format w e at_is new t_is t = absurd t.wrong

identified-first : (content tail value after : List ℕ) (given : Given) (identifier start : ℕ) (fault : XidFault)
    → identifier ∷ tail ≡ parameter_octets (record { identifier = identifier; value = value }) ++ after
    → ((parts : List Part) → Stands given parts → IsRepeated parts identifier → ⊥)
    → IsIdentifiedWrong identifier value (start + (length content - length (identifier ∷ tail))) fault
    → ParametersPassed content (identifier ∷ tail) given → IsFirst (ParameterHas content start) fault
identified-first content tail value after given identifier start fault e new t p =
    identified-at content tail value after p.parts identifier start
    (start + (length content - length (identifier ∷ tail))) fault p.well p.whole
    (place-is content (identifier ∷ tail) p.parts start p.whole) (new p.parts p.stands)
    (whole-tail identifier (length value) tail value after e) t

pub identified-exit : (content rest tail value after : List ℕ) (given : Given) (identifier start : ℕ) (fault : XidFault)
    → rest ≡ identifier ∷ tail → identifier ∷ tail ≡ parameter_octets (record { identifier = identifier; value = value }) ++ after
    → ((parts : List Part) → Stands given parts → IsRepeated parts identifier → ⊥)
    → IsIdentifiedWrong identifier value (start + (length content - length rest)) fault → ParametersPassed content rest given
    → IsFirst (ParameterHas content start) fault
identified-exit content rest tail value after given identifier start fault r e new =
    subst (λ o. IsIdentifiedWrong identifier value (start + (length content - length o)) fault → ParametersPassed content o given
    → IsFirst (ParameterHas content start) fault) (sym r) (identified-first content tail value after given identifier start fault e new)

-- behind a parameter that stands well
pub passed-more : (content rest tail value after : List ℕ) (given next : Given) (identifier : ℕ) → rest ≡ identifier ∷ tail
    → identifier ∷ tail ≡ parameter_octets (record { identifier = identifier; value = value }) ++ after
    → ((parts : List Part) → Stands given parts → IsRepeated parts identifier → ⊥)
    → ((parts : List Part) → Stands given parts → (IsRepeated parts identifier → ⊥)
    → Stands next (parts ++ record { identifier = identifier; value = value } ∷ []))
    → ((parts : List Part) → AreWell parts → (IsRepeated parts identifier → ⊥)
    → AreWell (parts ++ record { identifier = identifier; value = value } ∷ []))
    → ParametersPassed content rest given → ParametersPassed content after next
passed-more content rest tail value after given next identifier r e new s w p = let part : Part =
    record { identifier = identifier; value = value } in record {
      parts = p.parts ++ part ∷ [];
      whole = p.whole ∙ ap (λ o. flat_map parameter_octets p.parts ++ o) (r ∙ e)
          ∙ sym (append_assoc (flat_map parameter_octets p.parts) (parameter_octets part) after)
          ∙ ap (λ octets. octets ++ after)
          (ap (λ last. flat_map parameter_octets p.parts ++ last) (sym (append-nil (parameter_octets part)))
          ∙ sym (flat_map-append parameter_octets p.parts (part ∷ [])));
      stands = s p.parts p.stands (new p.parts p.stands);
      well = w p.parts p.well (new p.parts p.stands);
    }

-- a parameter that is whole
pub whole-room : (content rest tail value after : List ℕ) (given : Given) (identifier : ℕ) → rest ≡ identifier ∷ tail
    → identifier ∷ tail ≡ parameter_octets (record { identifier = identifier; value = value }) ++ after
    → ParametersPassed content rest given
    → (length content - length rest + 2 ≤ length content) × (length after < length rest)
whole-room content rest tail value after given identifier r e p =
    let counted : length content ≡ length (flat_map parameter_octets p.parts) + length rest =
    ap length p.whole ∙ length-append (flat_map parameter_octets p.parts) rest in
    let size : length rest ≡ suc (suc (length (value ++ after))) = ap length (r ∙ e) in
    (omega arith, omega (arith, length-append value after))

-- the content has no fault where it spells an offer
pub no-fault : (content : List ℕ) (offer : Offer) (start q : ℕ) (fault : XidFault) → ParametersSpell content offer
    → ParameterHas content start q fault → ⊥
no-fault content offer start q fault s h =
    let b = behind content [] s.parts start q fault s.well (s.whole ∙ sym (append-nil (flat_map parameter_octets s.parts))) h in
    absurd (omega (arith, ap length b.rest_is, length-append (flat_map parameter_octets b.more) (b.identifier ∷ b.tail)))

-- a fault stands within the content or right behind it
pub within : (content : List ℕ) (start q : ℕ) (fault : XidFault) → ParameterHas content start q fault
    → (place_of fault ≤ start + length content) × (q < start + length content)
within content start q fault h =
    let counted : length content ≡ length (flat_map parameter_octets h.parts) + suc (length h.tail) =
    ap length h.whole ∙ length-append (flat_map parameter_octets h.parts) (h.identifier ∷ h.tail) in
    (place-within h.parts h.identifier h.tail q fault (start + length content) h.wrong (omega (arith, h.at_is)), omega (arith, h.at_is))
