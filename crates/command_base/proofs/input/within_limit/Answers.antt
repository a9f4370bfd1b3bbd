use Rattle.command_base.proofs.Names.{◌≡◌, ℕ, ◌≤◌, List, length, drop, min, refl, arith, length-drop}
use Rattle.command_base.proofs.Reading.{reads-fail}
use Rattle.command_base.proofs.input.within_limit.Goals as goal

-- no octet stands at the limit
none-there : (octets : List ℕ) (limit count : ℕ) → count ≡ min 1 (length (drop limit octets)) → count ≡ 0 → length octets ≤ limit
none-there octets limit count is none = omega (arith, length-drop limit octets)

pub returns-in-Ok-eq0 : goal.returns-in-Ok-eq0
returns-in-Ok-eq0 g c = record {
  within = λ told. none-there _ c.args.limit c.in-Ok-eq0.field-0 (c.in-Ok-eq0.ensures.octets told).0 c.in-Ok-eq0.field-0-test;
  octets = c.in-Ok-eq0.ensures.told;
  refused = tt;
  reads = c.read_at.ensures.only;
  stand = c.in-Ok-eq0.ensures.stand;
}

pub returns-in-Ok : goal.returns-in-Ok
returns-in-Ok g c = record {
  within = tt;
  octets = tt;
  refused = (
    refl,
    λ told. omega (arith, (c.in-Ok.ensures.octets told).0, c.in-Ok.field-0-test.1, length-drop {A = ℕ}),
    c.in-Ok.ensures.stand,
  );
  reads = c.read_at.ensures.only;
  stand = tt;
}

pub returns-in-Err : goal.returns-in-Err
returns-in-Err g c = record {
  within = tt;
  octets = tt;
  refused = reads-fail (g.F.Folder.state c.args.folder.now) (g.F.Folder.state c.read_at.new.self) c.args.name.now c.in-Err.fault
      c.in-Err.ensures.cause c.in-Err.ensures.spared;
  reads = c.read_at.ensures.only;
  stand = tt;
}
