use Rattle.exact_decoder.proofs.Names.{◌≡◌, ℕ, ◌+◌, ◌≤◌, ◌++◌, [], ◌∷◌, take, subst, arith, DecoderStands}
use Rattle.exact_decoder.proofs.decoder.Decoder.push.Goals as goal

only-one : (heard : ℕ) → heard ≤ 1 → (1 ≤ 1 → 1 ≤ heard) → heard ≡ 1
only-one heard few some = omega (arith, some (omega arith))

one-more : (old new heard : ℕ) → new ≤ old + heard → heard ≤ 1 → new ≤ old + 1
one-more old new heard count few = omega arith

pub returns-in-Ok : goal.returns-in-Ok
returns-in-Ok g c =
    let t = g.C.TrellisCode in
    record {
      stands = λ starts samples taken h.
          subst (λ n. DecoderStands t.table t.points starts g.row.DEPTH c.push_some.new.self (samples ++ take n (c.args.sample ∷ [])) taken)
          (only-one c.in-Ok.field-0 c.in-Ok.ensures.within c.in-Ok.ensures.some) (c.in-Ok.ensures.stands starts samples taken h);
      answer = c.in-Ok.ensures.answer;
      stays = c.push_some.ensures.stays;
      count = one-more _ _ c.in-Ok.field-0 c.in-Ok.ensures.count c.in-Ok.ensures.within;
    }

pub returns-in-Err : goal.returns-in-Err
returns-in-Err g c = record {
  stands = c.in-Err.ensures.stands;
  answer = c.in-Err.ensures.answer;
  stays = c.push_some.ensures.stays;
  count = c.in-Err.ensures.count;
}
