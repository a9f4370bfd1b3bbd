use Rattle.stations.proofs.Names.{ℕ, Bool, List, ◌++◌, take, ap, sym, ◌∙◌, subst, arith, append-nil, ◌≡◌, HasHeard, octet_bits, bits_of}
use Rattle.stations.proofs.Names.{IsHeard, filled, slot_octets}
use Rattle.stations.proofs.OneEnd.Hearing.{append-again, slot-more, slot-whole}
use Rattle.stations.proofs.one_end.ear.hear_slot.Goals as goal

pub loop-place-init : goal.loop-place-init
loop-place-init c = record {
  stands = λ bits h. subst (λ (b : List Bool). HasHeard c.args.ear.now b) (sym (append-nil bits)) h;
  heard = λ bits h n low. absurd (omega (arith, low));
  numbers = tt;
}

pub loop-place-preserved : goal.loop-place-preserved
loop-place-preserved c =
    let place = c.loop-place.place in
    let all = filled c.args.slot.now in
    let front : List Bool = bits_of (take place all) in
    let i = c.loop-place.invariant in
    let more = slot-more c.args.slot.now place c.octet_at.result c.requires (omega (arith, c.loop-place-test.true)) c.octet_at.ensures in
    record {
      stands =
          λ bits h. subst (λ (b : List Bool). HasHeard c.hear_octet.new.ear b)
          (append-again bits front (octet_bits c.octet_at.result) ∙ ap (λ b. bits ++ b) more)
          (c.hear_octet.ensures.stands (bits ++ front) (i.stands bits h));
      heard = λ bits h. subst (λ (b : List Bool). IsHeard c.args.peer bits b c.hear_octet.new.heard) more
          (c.hear_octet.ensures.heard bits front (i.stands bits h) (i.heard bits h));
      numbers = c.hear_octet.ensures.numbers;
    }

pub octet_at-requires-clause-place : goal.octet_at-requires-clause-place
octet_at-requires-clause-place c = c.loop-place-test.true

pub octet_at-requires-clause-short : goal.octet_at-requires-clause-short
octet_at-requires-clause-short c = c.requires

pub hear_octet-requires : goal.hear_octet-requires
hear_octet-requires c = c.loop-place.invariant.numbers

pub returns : goal.returns
returns c =
    let all : c.loop-place.place ≡ slot_octets = omega (arith, c.loop-place-test.false, c.loop-place.auto.place-end) in
    record {
      stands = λ bits h. subst (λ (o : List ℕ). HasHeard c.loop-place.ear (bits ++ bits_of o))
          (ap (λ n. take n (filled c.args.slot.now)) all ∙ slot-whole c.args.slot.now c.requires) (c.loop-place.invariant.stands bits h);
      heard = λ bits h. subst (λ (o : List ℕ). IsHeard c.args.peer bits (bits_of o) c.loop-place.heard)
          (ap (λ n. take n (filled c.args.slot.now)) all ∙ slot-whole c.args.slot.now c.requires) (c.loop-place.invariant.heard bits h);
      numbers = c.loop-place.invariant.numbers;
    }
