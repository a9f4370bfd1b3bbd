use Rattle.line_tap.proofs.Cited.{arith, List, ℕ, ◌≤◌, ◌<◌, refl, sym, subst, Heard, named, InTurn, Tapping, Tap, Turn, Both}
use Rattle.line_tap.proofs.Turning.{has-read-pieces, read-turn}
use Rattle.line_tap.proofs.tapping.Tap.read.Given.{Over}
use Rattle.line_tap.proofs.tapping.Tap.read.Goals.{After-read_pieces}
use Rattle.line_tap.proofs.tapping.Tap.read.Goals as goal

pub read_pieces-requires : goal.read_pieces-requires
read_pieces-requires g c = c.requires

-- the tap with what was read, which is the same but for that
abbrev with-pieces : (g : Over) → After-read_pieces g → Tap
with-pieces g c = record c.args.self.now {
  orig = record c.args.self.now.orig { piece = c.read_pieces.new.orig };
  answ = record c.args.self.now.answ { piece = c.read_pieces.new.answ };
}

stands-with : (g : Over) (c : After-read_pieces g) (x : Tapping) (ts : List Turn) (heard : Both Heard) → InTurn c.args.self.now x ts heard
    → InTurn (with-pieces g c) x ts heard
stands-with g c x ts heard = grind (arith, read-turn)

pub returns-in-Ok : goal.returns-in-Ok
returns-in-Ok g c = record {
  pieces = λ start x ts heard h read.
      let m = (goal.at.returns-in-Ok g c).After-read_pieces in
      has-read-pieces c.args.self.now (with-pieces g m) start _ _ (named c.args.names.now) x ts heard c.in-Ok.counts h
      (stands-with g m x ts heard h) refl read (record {
        reads_orig = c.in-Ok.ensures.orig start;
        reads_answ = c.in-Ok.ensures.answ start;
        end_orig = λ octets k less. c.in-Ok.ensures.orig_end start octets k
            (subst (λ (n : ℕ). c.in-Ok.counts.orig < n) (sym c.read_pieces.new.orig.ok.0) less);
        end_answ = λ octets k less. c.in-Ok.ensures.answ_end start octets k
            (subst (λ (n : ℕ). c.in-Ok.counts.answ < n) (sym c.read_pieces.new.answ.ok.0) less);
        few_orig = subst (λ (n : ℕ). c.in-Ok.counts.orig ≤ n) c.read_pieces.new.orig.ok.0 c.in-Ok.ensures.orig_bound;
        few_answ = subst (λ (n : ℕ). c.in-Ok.counts.answ ≤ n) c.read_pieces.new.answ.ok.0 c.in-Ok.ensures.answ_bound;
      });
  stands = λ x ts heard h. stands-with g (goal.at.returns-in-Ok g c).After-read_pieces x ts heard h;
  orig_few = subst (λ (n : ℕ). c.in-Ok.counts.orig ≤ n) c.read_pieces.new.orig.ok.0 c.in-Ok.ensures.orig_bound;
  answ_few = subst (λ (n : ℕ). c.in-Ok.counts.answ ≤ n) c.read_pieces.new.answ.ok.0 c.in-Ok.ensures.answ_bound;
  within = c.in-Ok.ensures.orig_within;
  orig = refl;
  answ = refl;
  turn = refl;
  at = refl;
  script = refl;
  reads = c.in-Ok.ensures.reads;
  stand = c.in-Ok.ensures.stand;
  fails = tt;
}

pub returns-in-Err : goal.returns-in-Err
returns-in-Err g c = record {
  pieces = λ start x ts heard h read. tt;
  stands = λ x ts heard h. stands-with g (goal.at.returns-in-Err g c).After-read_pieces x ts heard h;
  orig_few = tt;
  answ_few = tt;
  within = tt;
  orig = refl;
  answ = refl;
  turn = refl;
  at = refl;
  script = refl;
  reads = c.in-Err.ensures.reads;
  stand = tt;
  fails = c.in-Err.ensures.fails;
}
