use Rattle.trace_audit.proofs.Cited.{◌≢◌, ℕ, List, [], ◌∷◌, sym, ◌∙◌, IsTrue, stop-earlier, OnlyReads-refl, OnlyReads-trans}
use Rattle.trace_audit.proofs.Cited.{CountsStand-refl, CountsStand-trans, FolderState, audited}
use Rattle.trace_audit.proofs.Windows.{empty, full}
use Rattle.trace_audit.proofs.Splitting.{midway-start, next, next-line, next-few, shorter, midway-on, all-compared, all-counted}
use Rattle.trace_audit.proofs.Splitting.{compared-later}
use Rattle.trace_audit.proofs.comparing.compare_text.Goals as goal

pub loop-rest-init : goal.loop-rest-init
loop-rest-init g c =
    let old : FolderState = g.F.Folder.state c.args.folder.now in
    record {
      midway = midway-start (IsTrue (old.tells c.args.trace.now)) (audited old c.args.trace.now) c.args.text.now c.requires.0
          c.args.comparison.now c.requires.1 c.requires.2 c.requires.3;
      reads = OnlyReads-refl old;
      stand = CountsStand-refl old;
    }

pub compare_line-requires : goal.compare_line-requires
compare_line-requires g c =
    let line : List ℕ = c.first_line.result.0.now in
    let behind : List ℕ = c.first_line.result.1.now in
    let some : c.loop-rest.rest.now ≢ [] = full c.loop-rest.rest.now (sym c.is_empty.ensures ∙ c.loop-rest-test.true) in
    let m = c.loop-rest.invariant.midway in
    record {
      lines = next-line _ _ _ _ _ _ m line behind (next _ _ _ _ _ _ m line behind some c.first_line.ensures.line c.first_line.ensures.rest);
      few = next-few _ _ _ _ _ _ m line behind (next _ _ _ _ _ _ m line behind some c.first_line.ensures.line c.first_line.ensures.rest);
    }

pub loop-rest-smaller : goal.loop-rest-smaller
loop-rest-smaller g c =
    let line : List ℕ = c.first_line.result.0.now in
    let behind : List ℕ = c.first_line.result.1.now in
    let some : c.loop-rest.rest.now ≢ [] = full c.loop-rest.rest.now (sym c.is_empty.ensures ∙ c.loop-rest-test.true) in
    let m = c.loop-rest.invariant.midway in
    shorter _ _ _ _ _ _ m line behind (next _ _ _ _ _ _ m line behind some c.first_line.ensures.line c.first_line.ensures.rest)

pub loop-rest-preserved : goal.loop-rest-preserved
loop-rest-preserved g c =
    let line : List ℕ = c.first_line.result.0.now in
    let behind : List ℕ = c.first_line.result.1.now in
    let some : c.loop-rest.rest.now ≢ [] = full c.loop-rest.rest.now (sym c.is_empty.ensures ∙ c.loop-rest-test.true) in
    let i = c.loop-rest.invariant in
    record {
      midway = midway-on _ _ _ _ _ _ i.midway line behind c.compare_line.new.comparison
          (next _ _ _ _ _ _ i.midway line behind some c.first_line.ensures.line c.first_line.ensures.rest)
          (compared-later _ _ c.args.trace.now c.loop-rest.comparison c.compare_line.new.comparison line i.reads
          c.in-Ok.ensures.compared)
          c.in-Ok.ensures.few;
      reads = OnlyReads-trans i.reads c.in-Ok.ensures.reads;
      stand = CountsStand-trans i.stand c.in-Ok.ensures.counts;
    }

pub returns-in-Err-clause-reads : goal.returns-in-Err-clause-reads
returns-in-Err-clause-reads g c = OnlyReads-trans c.loop-rest.invariant.reads c.in-Err.ensures.reads

pub returns-in-Err-clause-counts : goal.returns-in-Err-clause-counts
returns-in-Err-clause-counts g c =
    stop-earlier (g.F.Folder.state c.args.folder.now) (g.F.Folder.state c.loop-rest.folder) (g.F.Folder.state c.compare_line.new.folder)
    (c.args.trace.now ∷ []) [] c.in-Err.stop c.loop-rest.invariant.stand c.in-Err.ensures.counts

pub returns-clause-compared : goal.returns-clause-compared
returns-clause-compared g c =
    all-compared _ _ _ _ _ _ c.loop-rest.invariant.midway (empty c.loop-rest.rest.now (sym c.is_empty.ensures ∙ c.loop-rest-test.false))

pub returns-clause-few : goal.returns-clause-few
returns-clause-few g c =
    all-counted _ _ _ _ _ _ c.loop-rest.invariant.midway (empty c.loop-rest.rest.now (sym c.is_empty.ensures ∙ c.loop-rest-test.false))
