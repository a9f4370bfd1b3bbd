-- Groups as they are passed, the faults of a field, and the first of these.
use Rattle.xid_params.proofs.Names.{◌≡◌, ◌≢◌, ℕ, suc, ◌+◌, ◌-◌, ◌/◌, ◌%◌, ◌<◌, ◌≤◌, ◌⊎◌, inl, inr, true, false, List, [], ◌∷◌, ◌++◌, length}
use Rattle.xid_params.proofs.Names.{nat_eq, Option, Some, None, append_assoc, length-append, arith, refl, sym, ◌∙◌, ap, subst, nat_tests}
use Rattle.xid_params.proofs.Names.{append-nil, flat_map-append, flat_map, place_of, place_behind, IsGroupWrong, GroupHas, InnerHas, Has}
use Rattle.xid_params.proofs.Names.{IsFirst, FirstFault, ParameterHas, Offers, ParametersSpell, Part, group_octets, named, XidFault, Format}
use Rattle.xid_params.proofs.Names.{Group, Length, Value, Repeated, Offer}
use Rattle.xid_params.specs.Offers.{Passes}
use Rattle.xid_params.specs.Faults.{IsGroupCut, FormatHas}
use Rattle.xid_params.specs.Gathered.{IsOffered}
use Rattle.xid_params.proofs.Lists.{group-free, compare, named-append}
use Rattle.xid_params.proofs.Tables.{named-other, named-first}
use Rattle.xid_params.proofs.Parameters.{le-before, no-fault, within, fault-from}

-- what is known of the groups that were passed
pub record GroupsPassed (octets rest : List ℕ) (offered : Option Offer) : Type 0 where
  pub groups : List Part
  pub passes : Passes octets groups rest
  pub offers : Offers offered groups

-- one more group that is not group 80
pub offers-other : (offered : Option Offer) (groups : List Part) (part : Part) → nat_eq part.identifier 128 ≡ false → Offers offered groups
    → Offers offered (groups ++ part ∷ [])
offers-other None groups part other none = named-other 128 groups part other ∙ none
offers-other (Some offer) groups part other o =
    record { group = o.group; alone = named-other 128 groups part other ∙ o.alone; spells = o.spells }

-- one more group 80
pub offers-first : (groups : List Part) (part : Part) (offer : Offer) → named 128 groups ≡ [] → nat_eq part.identifier 128 ≡ true
    → ParametersSpell part.value offer → IsOffered (groups ++ part ∷ []) offer
offers-first groups part offer none same s = record { group = part; alone = named-first 128 groups part none same; spells = s }

-- group 80 among groups of which at most one is group 80
pub record IsSpelled (before : List Part) (part : Part) : Type 0 where
  pub first : named 128 before ≡ []
  pub offer : Offer
  pub spells : ParametersSpell part.value offer

alone-first : (xs ys : List Part) (part group : Part) → xs ++ part ∷ ys ≡ group ∷ [] → (xs ≡ []) × (part ≡ group)
alone-first [] ys part group e = (refl, cc)
alone-first (x ∷ []) ys part group e = let bad : part ∷ ys ≡ [] = cc in cc
alone-first (x ∷ y ∷ xs) ys part group e = let bad : y ∷ (xs ++ part ∷ ys) ≡ [] = cc in cc

none-first : (xs ys : List Part) (part : Part) → xs ++ part ∷ ys ≡ [] → ⊥
none-first [] ys part e = cc
none-first (x ∷ xs) ys part e = cc

named-among : (groups before more : List Part) (part : Part) → groups ≡ before ++ part ∷ more → part.identifier ≡ 128
    → named 128 groups ≡ named 128 before ++ part ∷ named 128 more
named-among groups before more part e is = grind (arith, nat_tests, named-append)

is-spelled : (offered : Option Offer) (groups before more : List Part) (part : Part) → Offers offered groups
    → groups ≡ before ++ part ∷ more → part.identifier ≡ 128 → IsSpelled before part
is-spelled None groups before more part none e is =
    absurd (none-first (named 128 before) (named 128 more) part (sym (named-among groups before more part e is) ∙ none))
is-spelled (Some offer) groups before more part o e is =
    let p = alone-first (named 128 before) (named 128 more) part o.group (sym (named-among groups before more part e is) ∙ o.alone) in
    record { first = p.0; offer = offer; spells = subst (λ g. ParametersSpell g.value offer) (sym p.1) o.spells }

-- a cut group isn't whole
pub whole-group : (tail value rest : List ℕ) → tail ≡ (length value / 256) ∷ (length value % 256) ∷ (value ++ rest) → IsGroupCut tail → ⊥
whole-group [] value rest e h = cc
whole-group (high ∷ []) value rest e h = let bad : [] ≡ (length value % 256) ∷ (value ++ rest) = cc in cc
whole-group (high ∷ low ∷ more) value rest e h = grind (arith, length-append)

-- nothing is wrong with the groups that were passed
group-none-wrong : (offered : Option Offer) (groups before more : List Part) (part : Part) (identifier : ℕ) (tail rest : List ℕ) (at : ℕ)
    (fault : XidFault)
    → Offers offered groups → groups ≡ before ++ part ∷ more → identifier ∷ tail ≡ group_octets part ++ rest
    → IsGroupWrong before identifier tail at fault → ⊥
group-none-wrong offered groups before more part identifier tail rest at (Group place) o e f (p, is, again) =
    let same : part.identifier ≡ 128 = cc in
    again (is-spelled offered groups before more part o e same).first
group-none-wrong offered groups before more part identifier tail rest at (Length place) o e f (p, cut) = grind (arith, whole-group)
group-none-wrong offered groups before more part identifier tail rest at (Value place) o e f h = h
group-none-wrong offered groups before more part identifier tail rest at (Repeated place) o e f h = h
group-none-wrong offered groups before more part identifier tail rest at Format o e f h = h

-- a fault behind the groups that were passed: of a group, or of a parameter
pub record BehindGroups (groups : List Part) (rest : List ℕ) (here q : ℕ) (fault : XidFault) : Type 0 where
  pub more : List Part
  pub identifier : ℕ
  pub tail : List ℕ
  pub rest_is : rest ≡ flat_map group_octets more ++ identifier ∷ tail
  pub no_end : identifier ≢ 255
  pub ends : named 255 more ≡ []
  pub at_is : q ≡ here + length (flat_map group_octets more)
  pub wrong : IsGroupWrong (groups ++ more) identifier tail q fault

pub record WithinGroups (rest : List ℕ) (here q : ℕ) (fault : XidFault) : Type 0 where
  pub more : List Part
  pub content : List ℕ
  pub after : List ℕ
  pub rest_is : rest ≡ flat_map group_octets more ++ (group_octets (record { identifier = 128; value = content }) ++ after)
  pub ends : named 255 more ≡ []
  pub inner : ParameterHas content (here + length (flat_map group_octets more) + 3) q fault

abbrev pub Further : List Part → List ℕ → ℕ → ℕ → XidFault → Type 0
Further groups rest here q fault = BehindGroups groups rest here q fault ⊎ WithinGroups rest here q fault

tail-same : (x : ℕ) (xs ys : List ℕ) → x ∷ xs ≡ x ∷ ys → xs ≡ ys
tail-same x xs ys e = cc

-- the places behind groups and more groups
pub place-more : (groups more : List Part) → place_behind (groups ++ more) ≡ place_behind groups + length (flat_map group_octets more)
place-more groups more = grind (arith, flat_map-append, length-append)

append-empty : (xs ys : List Part) → xs ++ ys ≡ [] → ys ≡ []
append-empty [] ys e = e
append-empty (x ∷ xs) ys e = cc

ends-more : (groups more all : List Part) → all ≡ groups ++ more → named 255 all ≡ [] → named 255 more ≡ []
ends-more groups more all e none = grind (arith, append-empty, named-append)

-- faults of groups stand behind the groups that were passed
group-further : (octets rest : List ℕ) (groups : List Part) (offered : Option Offer) (q : ℕ) (fault : XidFault) → Passes octets groups rest
    → Offers offered groups → GroupHas octets q fault → BehindGroups groups rest (place_behind groups) q fault
group-further octets rest groups offered q fault p o h =
    let both : flat_map group_octets groups ++ rest ≡ flat_map group_octets h.groups ++ h.identifier ∷ h.tail =
    tail-same 130 (flat_map group_octets groups ++ rest) (flat_map group_octets h.groups ++ h.identifier ∷ h.tail)
    (sym p.whole ∙ h.passes.whole) in
    elim (compare group_octets group-free groups h.groups rest (h.identifier ∷ h.tail) both) [
      | inl g ↦ record {
        more = g.more;
        identifier = h.identifier;
        tail = h.tail;
        rest_is = g.rest_is;
        no_end = h.no_end;
        ends = ends-more groups g.more h.groups g.parts_are h.passes.none_ends;
        at_is = h.at_is ∙ ap place_behind g.parts_are ∙ place-more groups g.more;
        wrong = subst (λ ps. IsGroupWrong ps h.identifier h.tail q fault) g.parts_are h.wrong;
      }
      | inr l ↦ absurd (group-none-wrong offered groups h.groups l.more l.next h.identifier h.tail
          (flat_map group_octets l.more ++ rest) q fault o l.parts_are l.rest_is h.wrong)
    ]

-- and so do faults of parameters
inner-further : (octets rest : List ℕ) (groups : List Part) (offered : Option Offer) (q : ℕ) (fault : XidFault) → Passes octets groups rest
    → Offers offered groups → InnerHas octets q fault → WithinGroups rest (place_behind groups) q fault
inner-further octets rest groups offered q fault p o h =
    let part : Part = record { identifier = 128; value = h.content } in
    let both : flat_map group_octets groups ++ rest ≡ flat_map group_octets h.groups ++ (group_octets part ++ h.rest) =
    tail-same 130 (flat_map group_octets groups ++ rest) (flat_map group_octets h.groups ++ (group_octets part ++ h.rest))
    (sym p.whole ∙ h.passes.whole) in
    elim (compare group_octets group-free groups h.groups rest (group_octets part ++ h.rest) both) [
      | inl g ↦ record {
        more = g.more;
        content = h.content;
        after = h.rest;
        rest_is = g.rest_is;
        ends = ends-more groups g.more h.groups g.parts_are h.passes.none_ends;
        inner = subst (λ n. ParameterHas h.content (n + 3) q fault) (ap place_behind g.parts_are ∙ place-more groups g.more) h.inner;
      }
      | inr l ↦
          let same = group-free.free part l.next h.rest (flat_map group_octets l.more ++ rest) l.rest_is in
          let s = is-spelled offered groups h.groups l.more l.next o l.parts_are (sym (ap (λ g. g.identifier) same.0)) in
          absurd (no-fault h.content s.offer (place_behind h.groups + 3) q fault
          (subst (λ g. ParametersSpell g.value s.offer) (sym same.0) s.spells) h.inner)
    ]

format-none : (octets groups rest : List ℕ) (q : ℕ) (fault : XidFault) → octets ≡ 130 ∷ rest → FormatHas octets q fault → ⊥
format-none q0 groups rest q fault e h = grind (arith)

pub further : (octets rest : List ℕ) (groups : List Part) (offered : Option Offer) (q : ℕ) (fault : XidFault) → Passes octets groups rest
    → Offers offered groups → Has octets q fault → Further groups rest (place_behind groups) q fault
further octets rest groups offered q fault p o (inl f) =
    absurd (format-none octets [] (flat_map group_octets groups ++ rest) q fault p.whole f)
further octets rest groups offered q fault p o (inr (inl g)) = inl (group-further octets rest groups offered q fault p o g)
further octets rest groups offered q fault p o (inr (inr i)) = inr (inner-further octets rest groups offered q fault p o i)

pub group-from : (groups : List Part) (identifier : ℕ) (tail : List ℕ) (at : ℕ) (fault : XidFault)
    → IsGroupWrong groups identifier tail at fault → at ≤ place_of fault
group-from groups identifier tail at q4 h = grind (arith)

group-to : (groups : List Part) (identifier : ℕ) (tail : List ℕ) (at : ℕ) (fault : XidFault) → IsGroupWrong groups identifier tail at fault
    → place_of fault ≤ at + 1
group-to groups identifier tail at q4 h = grind (arith)

-- a fault of a parameter stands behind the beginning of what group 80 contains
pub inner-from : (content : List ℕ) (start q : ℕ) (fault : XidFault) → ParameterHas content start q fault
    → (start ≤ q) × (q ≤ place_of fault)
inner-from content start q fault h = (omega (arith, h.at_is), fault-from h.parts h.identifier h.tail q fault h.wrong)

-- The first fault stands at the group that comes next.
group-before : (groups more : List Part) (identifier other_identifier : ℕ) (tail other_tail : List ℕ) (at q : ℕ) (fault other : XidFault)
    → IsGroupWrong groups identifier tail at fault
    → ((g : XidFault) → IsGroupWrong groups identifier tail at g → place_of fault ≤ place_of g)
    → identifier ∷ tail ≡ flat_map group_octets more ++ other_identifier ∷ other_tail → q ≡ at + length (flat_map group_octets more)
    → IsGroupWrong (groups ++ more) other_identifier other_tail q other
    → (place_of fault < place_of other) ⊎ ((place_of fault ≡ place_of other) × (at ≤ q))
group-before groups [] identifier other_identifier tail other_tail at q fault other wrong least rest_is at_is other_wrong =
    let i : other_identifier ≡ identifier = cc in
    let t : other_tail ≡ tail = cc in
    let n : q ≡ at = omega arith in
    let here : at ≤ q = omega arith in
    le-before (place_of fault) (place_of other) at q
    (least other (subst (λ m. IsGroupWrong groups identifier tail m other) n
    (subst (λ o. IsGroupWrong groups identifier o q other) t
    (subst (λ k. IsGroupWrong groups k other_tail q other) i
    (subst (λ ps. IsGroupWrong ps other_identifier other_tail q other) (append-nil groups) other_wrong))))) here
group-before groups (m ∷ ms) identifier other_identifier tail other_tail at q fault other wrong least rest_is at_is other_wrong =
    let to = group-to groups identifier tail at fault wrong in
    let from = group-from (groups ++ m ∷ ms) other_identifier other_tail q other other_wrong in
    le-before (place_of fault) (place_of other) at q (omega (arith, to, from, length-append {A = ℕ})) (omega arith)

first-group : (octets tail : List ℕ) (groups : List Part) (offered : Option Offer) (identifier at : ℕ) (fault : XidFault)
    → Passes octets groups (identifier ∷ tail) → Offers offered groups → identifier ≢ 255 → at ≡ place_behind groups
    → IsGroupWrong groups identifier tail at fault
    → ((g : XidFault) → IsGroupWrong groups identifier tail at g → place_of fault ≤ place_of g) → FirstFault octets fault
first-group octets tail groups offered identifier at fault p o no_end at_is wrong least = record {
  at = at;
  here = inr (inl (record {
    groups = groups;
    identifier = identifier;
    tail = tail;
    passes = p;
    no_end = no_end;
    at_is = at_is;
    wrong = wrong;
  }));
  first = λ q other h. elim (further octets (identifier ∷ tail) groups offered q other p o h) [
    | inl b ↦ group-before groups b.more identifier b.identifier tail b.tail at q fault other wrong least b.rest_is
        (b.at_is ∙ ap (λ n. n + length (flat_map group_octets b.more)) (sym at_is)) b.wrong
    | inr w ↦
        let to = group-to groups identifier tail at fault wrong in
        let from = inner-from w.content (place_behind groups + length (flat_map group_octets w.more) + 3) q other w.inner in
        le-before (place_of fault) (place_of other) at q (omega (arith, to, from.0, from.1)) (omega (arith, from.0))
  ];
}

least-group-length : (groups : List Part) (identifier : ℕ) (tail : List ℕ) (at : ℕ) → (identifier ≡ 128 → named 128 groups ≡ [])
    → (other : XidFault) → IsGroupWrong groups identifier tail at other → at + 1 ≤ place_of other
least-group-length groups identifier tail at new q5 h = grind (arith)

-- a group behind which nothing is wrong with itself
group-whole : (groups : List Part) (identifier : ℕ) (tail content after : List ℕ) (at : ℕ) (fault : XidFault)
    → (identifier ≡ 128 → named 128 groups ≡ []) → tail ≡ (length content / 256) ∷ (length content % 256) ∷ (content ++ after)
    → IsGroupWrong groups identifier tail at fault → ⊥
group-whole groups identifier tail content after at (Group place) new e (p, is, again) = again (new is)
group-whole groups identifier tail content after at (Length place) new e (p, cut) = whole-group tail content after e cut
group-whole groups identifier tail content after at (Value place) new e h = h
group-whole groups identifier tail content after at (Repeated place) new e h = h
group-whole groups identifier tail content after at Format new e h = h

group-tail : (identifier count low : ℕ) (tail rest : List ℕ) → identifier ∷ tail ≡ identifier ∷ count ∷ low ∷ rest
    → tail ≡ count ∷ low ∷ rest
group-tail identifier count low tail rest e = cc

-- behind the whole group 80
beyond : (more : List Part) (tail content after rest : List ℕ) (at q : ℕ) (first : Part)
    → 128 ∷ tail ≡ group_octets (record { identifier = 128; value = content }) ++ after
    → 128 ∷ tail ≡ flat_map group_octets (first ∷ more) ++ rest
    → at + length (flat_map group_octets (first ∷ more)) ≤ q → at + 3 + length content ≤ q
beyond more tail content after rest at q first e f room = grind (arith, append_assoc, length-append)

-- what the first fault of the parameters comes before
inner-before-group : (groups more : List Part) (tail content after other_tail : List ℕ) (at other_identifier q : ℕ) (fault other : XidFault)
    → named 128 groups ≡ [] → 128 ∷ tail ≡ group_octets (record { identifier = 128; value = content }) ++ after
    → (f : IsFirst (ParameterHas content (at + 3)) fault) → 128 ∷ tail ≡ flat_map group_octets more ++ other_identifier ∷ other_tail
    → q ≡ at + length (flat_map group_octets more) → IsGroupWrong (groups ++ more) other_identifier other_tail q other
    → (place_of fault < place_of other) ⊎ ((place_of fault ≡ place_of other) × (f.at ≤ q))
inner-before-group groups [] tail content after other_tail at other_identifier q fault other none e f rest_is at_is wrong =
    let i : other_identifier ≡ 128 = cc in
    let t : other_tail ≡ tail = cc in
    absurd (group-whole groups other_identifier other_tail content after q other (λ is. none)
    (t ∙ group-tail 128 (length content / 256) (length content % 256) tail (content ++ after) e)
    (subst (λ ps. IsGroupWrong ps other_identifier other_tail q other) (append-nil groups) wrong))
inner-before-group groups (m ∷ ms) tail content after other_tail at other_identifier q fault other none e f rest_is at_is wrong =
    let room = beyond ms tail content after (other_identifier ∷ other_tail) at q m e rest_is (omega arith) in
    let to = within content (at + 3) f.at fault f.here in
    let from = group-from (groups ++ m ∷ ms) other_identifier other_tail q other wrong in
    le-before (place_of fault) (place_of other) f.at q (omega (arith, room, to.0, from)) (omega (arith, room, to.1))

inner-before-inner : (more : List Part) (tail content after other_content other_after : List ℕ) (at q : ℕ) (fault other : XidFault)
    → 128 ∷ tail ≡ group_octets (record { identifier = 128; value = content }) ++ after
    → (f : IsFirst (ParameterHas content (at + 3)) fault)
    → 128 ∷ tail ≡ flat_map group_octets more ++ (group_octets (record { identifier = 128; value = other_content }) ++ other_after)
    → ParameterHas other_content (at + length (flat_map group_octets more) + 3) q other
    → (place_of fault < place_of other) ⊎ ((place_of fault ≡ place_of other) × (f.at ≤ q))
inner-before-inner [] tail content after other_content other_after at q fault other e f rest_is h =
    let part : Part = record { identifier = 128; value = content } in
    let other_part : Part = record { identifier = 128; value = other_content } in
    let same = group-free.free other_part part other_after after (sym rest_is ∙ e) in
    let value : other_content ≡ content = ap (λ g. g.value) same.0 in
    let start : at + 0 + 3 ≡ at + 3 = omega arith in
    f.first q other (subst (λ n. ParameterHas content n q other) start (subst (λ v. ParameterHas v (at + 0 + 3) q other) value h))
inner-before-inner (m ∷ ms) tail content after other_content other_after at q fault other e f rest_is h =
    let from = inner-from other_content (at + length (flat_map group_octets (m ∷ ms)) + 3) q other h in
    let room = beyond ms tail content after
    (group_octets (record { identifier = 128; value = other_content }) ++ other_after) at q m e rest_is (omega (arith, from.0)) in
    let to = within content (at + 3) f.at fault f.here in
    le-before (place_of fault) (place_of other) f.at q (omega (arith, room, to.0, from.1)) (omega (arith, room, to.1))

-- The first fault stands within the group 80 that comes next.
first-inner : (octets tail content after : List ℕ) (groups : List Part) (offered : Option Offer) (at : ℕ) (fault : XidFault)
    → Passes octets groups (128 ∷ tail) → Offers offered groups → at ≡ place_behind groups → named 128 groups ≡ []
    → 128 ∷ tail ≡ group_octets (record { identifier = 128; value = content }) ++ after → IsFirst (ParameterHas content (at + 3)) fault
    → FirstFault octets fault
first-inner octets tail content after groups offered at fault p o at_is none e f = record {
  at = f.at;
  here = inr (inr (record {
    groups = groups;
    content = content;
    rest = after;
    passes = record { whole = p.whole ∙ ap (λ rest. 130 ∷ (flat_map group_octets groups ++ rest)) e; none_ends = p.none_ends };
    inner = subst (λ n. ParameterHas content (n + 3) f.at fault) at_is f.here;
  }));
  first = λ q other h. elim (further octets (128 ∷ tail) groups offered q other p o h) [
    | inl b ↦ inner-before-group groups b.more tail content after b.tail at b.identifier q fault other none e f b.rest_is
        (b.at_is ∙ ap (λ n. n + length (flat_map group_octets b.more)) (sym at_is)) b.wrong
    | inr w ↦ inner-before-inner w.more tail content after w.content w.after at q fault other e f w.rest_is
        (subst (λ n. ParameterHas w.content (n + length (flat_map group_octets w.more) + 3) q other) (sym at_is) w.inner)
  ];
}

-- where the next group begins
group-place : (groups rest : List ℕ) (passed : List Part) → Passes (130 ∷ groups) passed rest
    → 1 + (length groups - length rest) ≡ place_behind passed
group-place groups rest passed p = omega (arith, ap length p.whole, length-append (flat_map group_octets passed) rest)

-- the exits of the loop, by what it knows there

second-first : (groups tail : List ℕ) (offered : Option Offer) (identifier : ℕ) → identifier ≢ 255
    → ((passed : List Part) → Offers offered passed → (identifier ≡ 128) × (named 128 passed ≢ []))
    → GroupsPassed (130 ∷ groups) (identifier ∷ tail) offered
    → FirstFault (130 ∷ groups) (Group (1 + (length groups - length (identifier ∷ tail))))
second-first groups tail offered identifier no_end second p =
    let at : ℕ = 1 + (length groups - length (identifier ∷ tail)) in
    first-group (130 ∷ groups) tail p.groups offered identifier at (Group at) p.passes p.offers no_end
    (group-place groups (identifier ∷ tail) p.groups p.passes) (refl, (second p.groups p.offers).0, (second p.groups p.offers).1)
    (λ other w. group-from p.groups identifier tail at other w)

pub second-exit : (groups rest tail : List ℕ) (offered : Option Offer) (identifier : ℕ) → (rest ≡ identifier ∷ tail) × (identifier ≢ 255)
    → ((passed : List Part) → Offers offered passed → (identifier ≡ 128) × (named 128 passed ≢ []))
    → GroupsPassed (130 ∷ groups) rest offered
    → FirstFault (130 ∷ groups) (Group (1 + (length groups - length rest)))
second-exit groups rest tail offered identifier e second =
    subst (λ o. GroupsPassed (130 ∷ groups) o offered → FirstFault (130 ∷ groups) (Group (1 + (length groups - length o)))) (sym e.0)
    (second-first groups tail offered identifier e.1 second)

cut-group-first : (groups tail : List ℕ) (offered : Option Offer) (identifier : ℕ) → identifier ≢ 255
    → ((passed : List Part) → Offers offered passed → identifier ≡ 128 → named 128 passed ≡ []) → IsGroupCut tail
    → GroupsPassed (130 ∷ groups) (identifier ∷ tail) offered
    → FirstFault (130 ∷ groups) (Length (1 + (length groups - length (identifier ∷ tail)) + 1))
cut-group-first groups tail offered identifier no_end first cut p =
    let at : ℕ = 1 + (length groups - length (identifier ∷ tail)) in
    first-group (130 ∷ groups) tail p.groups offered identifier at (Length (at + 1)) p.passes p.offers no_end
    (group-place groups (identifier ∷ tail) p.groups p.passes) (refl, cut)
    (least-group-length p.groups identifier tail at (first p.groups p.offers))

pub cut-group-exit : (groups rest tail : List ℕ) (offered : Option Offer) (identifier : ℕ) → (rest ≡ identifier ∷ tail) × (identifier ≢ 255)
    → ((passed : List Part) → Offers offered passed → identifier ≡ 128 → named 128 passed ≡ []) → IsGroupCut tail
    → GroupsPassed (130 ∷ groups) rest offered
    → FirstFault (130 ∷ groups) (Length (1 + (length groups - length rest) + 1))
cut-group-exit groups rest tail offered identifier e first cut =
    subst (λ o. GroupsPassed (130 ∷ groups) o offered → FirstFault (130 ∷ groups) (Length (1 + (length groups - length o) + 1))) (sym e.0)
    (cut-group-first groups tail offered identifier e.1 first cut)

inner-first : (groups tail content after : List ℕ) (offered : Option Offer) (identifier : ℕ) (fault : XidFault)
    → ((passed : List Part) → Offers offered passed → identifier ≡ 128 → named 128 passed ≡ [])
    → identifier ∷ tail ≡ group_octets (record { identifier = identifier; value = content }) ++ after
    → (identifier ≡ 128) × IsFirst (ParameterHas content (1 + (length groups - length (identifier ∷ tail)) + 3)) fault
    → GroupsPassed (130 ∷ groups) (identifier ∷ tail) offered → FirstFault (130 ∷ groups) fault
inner-first groups tail content after offered identifier fault first e (is, f) p =
    let at : ℕ = 1 + (length groups - length (identifier ∷ tail)) in
    let whole : 128 ∷ tail ≡ group_octets (record { identifier = 128; value = content }) ++ after =
    ap (λ t. 128 ∷ t) (group-tail identifier (length content / 256) (length content % 256) tail (content ++ after) e) in
    first-inner (130 ∷ groups) tail content after p.groups offered at fault
    (subst (λ i. Passes (130 ∷ groups) p.groups (i ∷ tail)) is p.passes) p.offers
    (group-place groups (identifier ∷ tail) p.groups p.passes) (first p.groups p.offers is) whole f

pub inner-exit : (groups rest tail content after : List ℕ) (offered : Option Offer) (identifier : ℕ) (fault : XidFault)
    → rest ≡ identifier ∷ tail → ((passed : List Part) → Offers offered passed → identifier ≡ 128 → named 128 passed ≡ [])
    → identifier ∷ tail ≡ group_octets (record { identifier = identifier; value = content }) ++ after
    → (identifier ≡ 128) × IsFirst (ParameterHas content (1 + (length groups - length rest) + 3)) fault
    → GroupsPassed (130 ∷ groups) rest offered → FirstFault (130 ∷ groups) fault
inner-exit groups rest tail content after offered identifier fault r first e =
    subst (λ o. (identifier ≡ 128) × IsFirst (ParameterHas content (1 + (length groups - length o) + 3)) fault
    → GroupsPassed (130 ∷ groups) o offered → FirstFault (130 ∷ groups) fault) (sym r)
    (inner-first groups tail content after offered identifier fault first e)

-- behind a group
pub groups-more : (groups rest tail content after : List ℕ) (offered next : Option Offer) (identifier : ℕ)
    → (rest ≡ identifier ∷ tail) × (identifier ≢ 255)
    → ((passed : List Part) → Offers offered passed → identifier ≡ 128 → named 128 passed ≡ [])
    → identifier ∷ tail ≡ group_octets (record { identifier = identifier; value = content }) ++ after
    → ((passed : List Part) → Offers offered passed → (identifier ≡ 128 → named 128 passed ≡ [])
    → Offers next (passed ++ record { identifier = identifier; value = content } ∷ []))
    → GroupsPassed (130 ∷ groups) rest offered → GroupsPassed (130 ∷ groups) after next
groups-more groups rest tail content after offered next identifier r first e more p = let part : Part =
    record { identifier = identifier; value = content } in record {
      groups = p.groups ++ part ∷ [];
      passes = record {
        whole = p.passes.whole ∙ ap (λ o. 130 ∷ o)
            (ap (λ o. flat_map group_octets p.groups ++ o) (r.0 ∙ e)
            ∙ sym (append_assoc (flat_map group_octets p.groups) (group_octets part) after)
            ∙ ap (λ octets. octets ++ after)
            (ap (λ last. flat_map group_octets p.groups ++ last) (sym (append-nil (group_octets part)))
            ∙ sym (flat_map-append group_octets p.groups (part ∷ []))));
        none_ends = (let other : nat_eq identifier 255 ≡ false = (let no_end = r.1 in grind (arith, nat_tests)) in
            named-other 255 p.groups part other ∙ p.passes.none_ends);
      };
      offers = more p.groups p.offers (first p.groups p.offers);
    }

-- a group that is whole
pub group-room : (groups rest tail content after : List ℕ) (offered : Option Offer) (identifier : ℕ) → rest ≡ identifier ∷ tail
    → identifier ∷ tail ≡ group_octets (record { identifier = identifier; value = content }) ++ after
    → GroupsPassed (130 ∷ groups) rest offered
    → (length groups - length rest + 3 + length content ≤ length groups) × (length after < length rest)
group-room groups rest tail content after offered identifier r e p =
    let counted : length (130 ∷ groups) ≡ suc (length (flat_map group_octets p.groups ++ rest)) = ap length p.passes.whole in
    let size : length rest ≡ suc (suc (suc (length (content ++ after)))) = ap length (r ∙ e) in (
      omega (arith, length-append content after, length-append (flat_map group_octets p.groups) rest),
      omega (arith, length-append content after),
    )
