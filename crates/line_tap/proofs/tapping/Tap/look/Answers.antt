use Rattle.line_tap.proofs.Cited.{◌*◌, ◌≤◌, ◌++◌, take, List, ℕ, refl, sym, ◌∙◌, ap, subst, Check, slot_as, line_of, terms_of, check_by}
use Rattle.line_tap.proofs.Cited.{Originator, Answerer}
use Rattle.line_tap.proofs.ToldFit.{FitLaws, told-fit}
use Rattle.line_tap.proofs.Looking.{reads-too}
use Rattle.line_tap.proofs.tapping.Tap.look.Goals as goal

pub read-requires-clause-writer : goal.read-requires-clause-writer
read-requires-clause-writer c = let h = c.requires.stands in h.3.behind.orig.stands.in_step

pub read-requires-2-clause-writer : goal.read-requires-2-clause-writer
read-requires-2-clause-writer c = let h = c.requires.stands in h.3.behind.answ.stands.in_step

pub read-requires-clause-size : goal.read-requires-clause-size
read-requires-clause-size c = let h = c.requires.stands in c.args.self.now.orig.piece.ok.0 ∙ h.3.behind.orig_room
    ∙ ap (λ n. 4 * n) (sym h.3.behind.orig.reads.symbols)

pub read-requires-clause-count : goal.read-requires-clause-count
read-requires-clause-count c = subst (λ (n : ℕ). c.args.counts.now.orig ≤ n) (sym c.args.self.now.orig.piece.ok.0) c.requires.orig

pub read-requires-2-clause-size : goal.read-requires-2-clause-size
read-requires-2-clause-size c = let h = c.requires.stands in c.args.self.now.answ.piece.ok.0 ∙ h.3.behind.answ_room
    ∙ ap (λ n. 4 * n) (sym h.3.behind.answ.reads.symbols)

pub read-requires-2-clause-count : goal.read-requires-2-clause-count
read-requires-2-clause-count c = subst (λ (n : ℕ). c.args.counts.now.answ ≤ n) (sym c.args.self.now.answ.piece.ok.0) c.requires.answ

pub returns-in-None : goal.returns-in-None
returns-in-None c = record {
  looks = λ x ts heard h.
      let laws : FitLaws = assumption in
      c.in-None.ensures.none (line_of x) (check_by (terms_of x)) Originator ts x.bodies.orig h.behind.orig
      (told-fit laws x ts h.behind.tells Originator);
  orig = c.in-None.ensures.listener;
  answ = refl;
  orig_piece = c.in-None.ensures.piece;
  answ_piece = refl;
  turn = refl;
  at = refl;
  script = refl;
}

pub returns-in-Some-read : goal.returns-in-Some-read
returns-in-Some-read c = record {
  looks = λ x ts heard h.
      let check : Check = check_by (terms_of x) in
      let orig : List ℕ = x.bodies.orig ++ take c.args.counts.now.orig c.args.self.now.orig.piece.items in
      let answ : List ℕ = x.bodies.answ ++ take c.args.counts.now.answ c.args.self.now.answ.piece.items in
      record {
        orig = reads-too c.read.new.self.reader x check Originator ts orig (slot_as c.in-Some.sent c.read.new.labels)
            (c.in-Some.ensures.some (line_of x) check Originator ts x.bodies.orig h.behind.orig);
        answ = reads-too c.read-2.new.self.reader x check Answerer ts answ (slot_as c.in-Some-read.answ c.read-2.new.labels)
            (c.in-Some-read.ensures.some (line_of x) check Answerer ts x.bodies.answ h.behind.answ);
        lines = h.lines;
      };
  orig = c.in-Some.ensures.listener;
  answ = c.in-Some-read.ensures.listener;
  orig_piece = c.in-Some.ensures.piece;
  answ_piece = c.in-Some-read.ensures.piece;
  turn = refl;
  at = refl;
  script = refl;
}

pub returns-in-None-read : goal.returns-in-None-read
returns-in-None-read c = record {
  looks = λ x ts heard h.
      let laws : FitLaws = assumption in
      let check : Check = check_by (terms_of x) in
      let first = c.in-Some.ensures.some (line_of x) check Originator ts x.bodies.orig h.behind.orig in (
        (c.in-Some.sent, first.holds),
        c.in-None-read.ensures.none (line_of x) check Answerer ts x.bodies.answ h.behind.answ (told-fit laws x ts h.behind.tells Answerer),
      );
  orig = c.in-Some.ensures.listener;
  answ = c.in-None-read.ensures.listener;
  orig_piece = c.in-Some.ensures.piece;
  answ_piece = c.in-None-read.ensures.piece;
  turn = refl;
  at = refl;
  script = refl;
}
