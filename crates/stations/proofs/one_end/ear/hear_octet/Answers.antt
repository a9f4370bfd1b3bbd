use Rattle.stations.proofs.Names.{[], ◌≡◌, Bool, List, ◌++◌, take, subst, sym, arith, append-nil, HasHeard, octet_bits, IsHeard}
use Rattle.stations.proofs.OneEnd.Hearing.{append-again, bit-more, heard-quiet}
use Rattle.stations.proofs.one_end.ear.hear_octet.Goals as goal

pub returns-then-pass : goal.returns-then-pass
returns-then-pass c = record {
  stands = c.pass.ensures.stands c.if-pass.true;
  numbers = c.requires;
  heard = λ earlier bits h e.
      heard-quiet (record { seen = c.one_answer.ensures.exists; grow = c.sights_grow.ensures.more; stay = c.sights_stay.ensures })
      c.args.peer earlier bits (octet_bits c.args.octet) c.args.heard.now (c.pass.ensures.pieces c.if-pass.true (earlier ++ bits) h)
      (c.pass.ensures.sights c.if-pass.true (earlier ++ bits) h) e;
}

pub returns : goal.returns
returns c =
    let all : c.loop-place.place ≡ 8 = omega (arith, c.loop-place-test.false, c.loop-place.auto.place-end) in
    let i = c.loop-place.invariant in
    record {
      stands = λ bits h. subst (λ n. HasHeard c.loop-place.ear (bits ++ take n (octet_bits c.args.octet))) all (i.stands bits h);
      heard = λ earlier bits h e.
          subst (λ n. IsHeard c.args.peer earlier (bits ++ take n (octet_bits c.args.octet)) c.loop-place.heard) all
          (i.heard earlier bits h e);
      numbers = i.numbers;
    }

pub loop-place-init : goal.loop-place-init
loop-place-init c = record {
  stands = λ bits h.
      subst (λ e. HasHeard e (bits ++ [])) (sym (c.pass.ensures.stays c.if-pass.false))
      (subst (HasHeard c.args.ear.now) (sym (append-nil bits)) h);
  heard = λ earlier bits h e. subst (λ (b : List Bool). IsHeard c.args.peer earlier b c.args.heard.now) (sym (append-nil bits)) e;
  numbers = c.requires;
}

pub hear_bit-requires : goal.hear_bit-requires
hear_bit-requires c = c.loop-place.invariant.numbers

pub loop-place-preserved : goal.loop-place-preserved
loop-place-preserved c =
    let place = c.loop-place.place in
    let all : List Bool = octet_bits c.args.octet in
    let more = λ (bits : List Bool). bit-more bits c.args.octet place (omega (arith, c.loop-place-test.true)) in
    let i = c.loop-place.invariant in
    record {
      stands = λ bits h. subst (λ (b : List Bool). HasHeard c.hear_bit.new.ear b) (more bits)
          (c.hear_bit.ensures.stands (bits ++ take place all) (i.stands bits h));
      heard = λ earlier bits h e.
          let now : HasHeard c.loop-place.ear (earlier ++ (bits ++ take place all)) =
          subst (λ (b : List Bool). HasHeard c.loop-place.ear b) (append-again earlier bits (take place all))
          (i.stands (earlier ++ bits) h) in
          subst (λ (b : List Bool). IsHeard c.args.peer earlier b c.hear_bit.new.heard) (more bits)
          (c.hear_bit.ensures.heard earlier (bits ++ take place all) now (i.heard earlier bits h e));
      numbers = c.hear_bit.ensures.numbers;
    }
