use Rattle.line_tap.proofs.Cited.{refl, sym, subst, rules, Check, Heard, both_sent_by, silent_in, line_of, terms_of, Tap, end_of, judged_by}
use Rattle.line_tap.proofs.Cited.{IsInLimits, Both, of, Originator, Answerer}
use Rattle.line_tap.proofs.HeardSo.{LoneLaws, are-due, are-few, listens-too, ends-by, checks-so, hears-these, behind-on}
use Rattle.line_tap.proofs.tapping.Tap.hear.Goals as goal

pub arrive-requires : goal.arrive-requires
arrive-requires c =
    let laws : LoneLaws = assumption in
    record {
      channel = search rules;
      few = are-few laws c.args.self.now c.requires;
      due =
          let r = c.requires in
          let b = r.after.behind in (
            line_of r.what,
            1,
            r.turns,
            both_sent_by 0 r.turns,
            r.after.lines,
            are-due laws r.what r.turns (subst IsInLimits b.script_is r.limits) b.tells,
            sym b.script_is,
            b.turn,
          );
    }

pub returns-in-Ok-clause-hears : goal.returns-in-Ok-clause-hears
returns-in-Ok-clause-hears c = λ x ts h.
    let laws : LoneLaws = assumption in
    let tap : Tap = c.args.self.now in
    let new : Tap = record tap {
      lines = c.arrive.new.self;
      orig = record tap.orig { listener = c.hear.new.self };
      answ = record tap.answ { listener = c.hear-in-Ok.new.self };
    } in
    let checks : Both Check = record { orig = c.check.result; answ = c.check-2.result } in
    let heard : Both Heard = c.in-Ok.heard in
    let arrives = c.in-Ok.ensures.arrives (line_of x) 1 ts (both_sent_by 0 ts) h.lines
    (are-due laws x ts (subst IsInLimits h.behind.script_is c.requires.limits) h.behind.tells) (sym h.behind.script_is) refl
    h.behind.turn in (
      record {
        behind = behind-on tap new x ts
            (record { script = refl; turn = refl; at = refl; orig = refl; answ = refl; orig_piece = refl; answ_piece = refl }) h.behind;
        hears = hears-these tap new x ts checks heard h c.check.ensures c.check-2.ensures arrives;
        orig = listens-too c.hear.new.self (terms_of x) Originator ts (silent_in x ts heard) refl
            (c.hear.ensures.stands (terms_of x) Originator _ _ _ _ h.orig);
        answ = listens-too c.hear-in-Ok.new.self (terms_of x) Answerer ts (silent_in x ts heard) refl
            (c.hear-in-Ok.ensures.stands (terms_of x) Answerer _ _ _ _ h.answ);
        lines = arrives.lines;
      },
      c.hear.ensures.given (terms_of x) Originator _ _ _ _ h.orig,
      c.hear-in-Ok.ensures.given (terms_of x) Answerer _ _ _ _ h.answ,
    )

pub returns-in-Ok-clause-orig : goal.returns-in-Ok-clause-orig
returns-in-Ok-clause-orig c = c.hear.ensures.idle c.args.self.now.turn c.requires.orig

pub returns-in-Ok-clause-answ : goal.returns-in-Ok-clause-answ
returns-in-Ok-clause-answ c = c.hear-in-Ok.ensures.idle c.args.self.now.turn c.requires.answ

pub returns-in-Err-clause-hears : goal.returns-in-Err-clause-hears
returns-in-Err-clause-hears c = λ x ts h.
    let laws : LoneLaws = assumption in
    let checks : Both Check = record { orig = c.check.result; answ = c.check-2.result } in
    ends-by (line_of x) ts (λ role. of role checks) (λ role. judged_by (terms_of x) role ts)
    (checks-so c.args.self.now x ts checks h c.check.ensures c.check-2.ensures) (end_of c.in-Err.end)
    (c.in-Err.ensures.arrives (line_of x) 1 ts (both_sent_by 0 ts) h.lines
    (are-due laws x ts (subst IsInLimits h.behind.script_is c.requires.limits) h.behind.tells) (sym h.behind.script_is) refl h.behind.turn)
