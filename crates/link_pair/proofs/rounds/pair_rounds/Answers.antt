use Rattle.link_pair.proofs.Names.{refl, ◌∙◌, subst, Ok, rules, Written, written, Comes, FaultEnds, HaveEnded, all_inputs, all_outputs}
use Rattle.link_pair.proofs.Names.{round_of, script_of, First, Second, ScriptValue, OnlyPuts-refl, OnlyPuts-trans, CountsStand-refl}
use Rattle.link_pair.proofs.Names.{CountsStand-trans, FolderState}
use Rattle.link_pair.proofs.Pairing.{few-rounds}
use Rattle.link_pair.proofs.Beginning.{begins, nearer, fault-ends, counts-later}
use Rattle.link_pair.proofs.rounds.pair_rounds.Goals as goal

pub loop-endings-init : goal.loop-endings-init
loop-endings-init g c =
    let n : Written = written c.args.names.now.first in
    let m : Written = written c.args.names.now.second in
    record {
      ready = begins c.args.pair.now _ n m c.requires.first c.requires.created;
      script_is = refl;
      only = OnlyPuts-refl _ (all_outputs n m);
      stand = CountsStand-refl _;
      came = g.met.F.Folder.came_none _;
    }

pub loop-endings-smaller : goal.loop-endings-smaller
loop-endings-smaller g c =
    let now : FolderState = g.F.Folder.state c.loop-endings.folder in
    let n : Written = written c.args.names.now.first in
    let m : Written = written c.args.names.now.second in
    let next : FolderState = g.F.Folder.state c.round.new.folder in
    let come = subst (λ o. Comes (script_of c.loop-endings.pair) (round_of c.loop-endings.pair) Second c.round.new.self next n m (Ok o))
    c.in-Ok-None.field-0-is c.in-Ok-None.ensures.comes in
    nearer _ _ (few-rounds c.pairs_have_few_rounds.ensures c.loop-endings.pair now n m First c.loop-endings.invariant.ready) come.1

pub loop-endings-preserved : goal.loop-endings-preserved
loop-endings-preserved g c =
    let old : FolderState = g.F.Folder.state c.args.folder.now in
    let now : FolderState = g.F.Folder.state c.loop-endings.folder in
    let next : FolderState = g.F.Folder.state c.round.new.folder in
    let n : Written = written c.args.names.now.first in
    let m : Written = written c.args.names.now.second in
    let come = subst (λ o. Comes (script_of c.loop-endings.pair) (round_of c.loop-endings.pair) Second c.round.new.self next n m (Ok o))
    c.in-Ok-None.field-0-is c.in-Ok-None.ensures.comes in
    record {
      ready = come.0;
      script_is = c.in-Ok-None.ensures.script ∙ c.loop-endings.invariant.script_is;
      only = OnlyPuts-trans old now next (all_outputs n m) c.loop-endings.invariant.only c.in-Ok-None.ensures.only;
      stand = CountsStand-trans c.loop-endings.invariant.stand c.in-Ok-None.ensures.counts;
      came = g.met.F.Folder.came_on _ _ _ c.loop-endings.invariant.came c.in-Ok-None.ensures.came;
    }

pub returns-in-Ok-Some : goal.returns-in-Ok-Some
returns-in-Ok-Some g c =
    let n : Written = written c.args.names.now.first in
    let m : Written = written c.args.names.now.second in
    record {
      ended =
          let next : FolderState = g.F.Folder.state c.round.new.folder in
          let come = subst (λ o. Comes (script_of c.loop-endings.pair) (round_of c.loop-endings.pair) Second c.round.new.self next n m
          (Ok o)) c.in-Ok-Some.field-0-is c.in-Ok-Some.ensures.comes in
          subst (λ (s : ScriptValue). HaveEnded s next n m c.in-Ok-Some.endings) c.loop-endings.invariant.script_is come.0;
      fault = search rules;
      only =
          OnlyPuts-trans (g.F.Folder.state c.args.folder.now) (g.F.Folder.state c.loop-endings.folder) (g.F.Folder.state c.round.new.folder)
          (all_outputs n m) c.loop-endings.invariant.only c.in-Ok-Some.ensures.only;
      came = g.met.F.Folder.came_on _ _ _ c.loop-endings.invariant.came c.in-Ok-Some.ensures.came;
      counts = CountsStand-trans c.loop-endings.invariant.stand c.in-Ok-Some.ensures.counts;
    }

pub returns-in-Err : goal.returns-in-Err
returns-in-Err g c =
    let n : Written = written c.args.names.now.first in
    let m : Written = written c.args.names.now.second in
    record {
      ended = search rules;
      fault =
          let next : FolderState = g.F.Folder.state c.round.new.folder in
          subst (λ (s : ScriptValue). FaultEnds s next n m c.in-Err.fault) c.loop-endings.invariant.script_is
          (fault-ends _ next n m _ c.in-Err.fault c.in-Err.ensures.comes);
      only =
          OnlyPuts-trans (g.F.Folder.state c.args.folder.now) (g.F.Folder.state c.loop-endings.folder) (g.F.Folder.state c.round.new.folder)
          (all_outputs n m) c.loop-endings.invariant.only c.in-Err.ensures.only;
      came = g.met.F.Folder.came_on _ _ _ c.loop-endings.invariant.came c.in-Err.ensures.came;
      counts =
          counts-later (g.F.Folder.state c.args.folder.now) (g.F.Folder.state c.loop-endings.folder) (g.F.Folder.state c.round.new.folder)
          (all_inputs n m) (all_outputs n m) c.in-Err.fault c.loop-endings.invariant.stand c.in-Err.ensures.counts;
    }
