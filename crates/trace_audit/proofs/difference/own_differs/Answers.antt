use Rattle.trace_audit.proofs.Cited.{refl, sym, rules, not-false}
use denote.Enum.Bare.{same_true, differs_true}
use Rattle.shared_terms.specs.contracts.role.Role.{the_type}
use Rattle.trace_audit.proofs.Windows.{differ, same-octets, given-differs}
use Rattle.trace_audit.proofs.difference.own_differs.Goals as goal

pub returns-in_default : goal.returns-in_default
returns-in_default c = λ r. c.in_default.ensures.err refl r.0 r.1

pub unreachable-requires : goal.unreachable-requires
unreachable-requires c = c.in_default-read_text.ensures.err refl c.requires.read.0 c.requires.read.1

pub returns-then-right-other : goal.returns-then-right-other
returns-then-right-other c = record {
  right = c.in-Ok-read_text.right;
  other = c.in-Ok.other;
  right_is = c.in-Ok-read_text.ensures.ok;
  other_is = c.in-Ok.ensures.ok;
  differ = c.if-right-other.true;
}

pub returns-then-ne : goal.returns-then-ne
returns-then-ne c = record {
  right = c.in-Ok-read_text.right;
  other = c.in-Ok.other;
  right_is = c.in-Ok-read_text.ensures.ok;
  other_is = c.in-Ok.ensures.ok;
  differ = (c.if-right-other.false, differs_true the_type _ _ (sym c.if-ne.ensures));
}

pub returns-then-ne-2 : goal.returns-then-ne-2
returns-then-ne-2 c = record {
  right = c.in-Ok-read_text.right;
  other = c.in-Ok.other;
  right_is = c.in-Ok-read_text.ensures.ok;
  other_is = c.in-Ok.ensures.ok;
  differ = (
    c.if-right-other.false,
    same_true the_type (search rules) _ _ (not-false _ (sym c.if-ne.ensures)),
    differ _ _ (sym c.if-ne-2.ensures),
  );
}

pub returns-then-ne-3 : goal.returns-then-ne-3
returns-then-ne-3 c = record {
  right = c.in-Ok-read_text.right;
  other = c.in-Ok.other;
  right_is = c.in-Ok-read_text.ensures.ok;
  other_is = c.in-Ok.ensures.ok;
  differ = (
    c.if-right-other.false,
    same_true the_type (search rules) _ _ (not-false _ (sym c.if-ne.ensures)),
    same-octets _ _ (sym c.if-ne-2.ensures),
    differ _ _ (sym c.if-ne-3.ensures),
  );
}

pub returns-else-ne-3 : goal.returns-else-ne-3
returns-else-ne-3 c = record {
  right = c.in-Ok-read_text.right;
  other = c.in-Ok.other;
  right_is = c.in-Ok-read_text.ensures.ok;
  other_is = c.in-Ok.ensures.ok;
  differ =
      let turn = c.if-right-other.false in
      let role = same_true the_type (search rules) _ _ (not-false _ (sym c.if-ne.ensures)) in
      let arrived = same-octets _ _ (sym c.if-ne-2.ensures) in
      let sent = same-octets _ _ (sym c.if-ne-3.ensures) in (
        turn,
        role,
        arrived,
        sent,
        given-differs c.args.line.now c.args.own.now c.in-Ok-read_text.right c.in-Ok.other c.in-Ok-read_text.ensures.ok c.in-Ok.ensures.ok
            turn role arrived sent c.requires.other,
      );
}
