use Rattle.line_world.proofs.Cited.{[], ◌∷◌, inl, inr, subst, rules, concat, outputs_of, written, deliveries, OnlyPuts-one, OnlyPuts-trans}
use Rattle.line_world.proofs.Cited.{KeepsEach-refl, AddEach-next, AddPart-longer, AddPart-next, GoesOn-refl, CountsStand-trans}
use Rattle.line_world.proofs.Cited.{FaultsStand-trans, Rose, no-fault}
use Rattle.stations.proofs.Standing.{counted-on}
use Rattle.line_world.proofs.link.Link.deliver.Goals as goal

pub returns-in-Err-clause-err : goal.returns-in-Err-clause-err
returns-in-Err-clause-err g c = λ files ends h.
    let start = g.F.Folder.state c.args.folder.now in
    let mid = g.F.Folder.state c.deliver.new.folder in
    let n = written c.args.names.now in
    AddPart-longer start mid (outputs_of n) (concat (deliveries ends.orig) ∷ []) (concat (deliveries ends.answ) ∷ [])
    (AddPart-next start start mid [] n.got_o (n.got_a ∷ n.trace ∷ []) [] (concat (deliveries ends.orig)) tt c.requires.apart
    (GoesOn-refl start) (KeepsEach-refl start (outputs_of n)) c.deliver.ensures.only (c.in-Err.ensures.err files.orig ends.orig h.orig))

pub returns-in-Err-deliver-clause-err : goal.returns-in-Err-deliver-clause-err
returns-in-Err-deliver-clause-err g c = λ files ends h.
    let start = g.F.Folder.state c.args.folder.now in
    let mid = g.F.Folder.state c.deliver.new.folder in
    let end = g.F.Folder.state c.deliver-2.new.folder in
    let n = written c.args.names.now in
    AddPart-next start mid end (n.got_o ∷ []) n.got_a (n.trace ∷ []) (concat (deliveries ends.orig) ∷ []) (concat (deliveries ends.answ))
    tt c.requires.apart c.deliver.ensures.only.goes_on
    (AddEach-next start start mid [] n.got_o (n.got_a ∷ n.trace ∷ []) [] (concat (deliveries ends.orig)) tt c.requires.apart
    (GoesOn-refl start) (KeepsEach-refl start (outputs_of n)) c.deliver.ensures.only (c.in-Ok.ensures.ok files.orig ends.orig h.orig))
    c.deliver-2.ensures.only (c.in-Err-deliver.ensures.err files.answ ends.answ h.answ)

pub returns-in-Err-clause-only : goal.returns-in-Err-clause-only
returns-in-Err-clause-only g c =
    let n = written c.args.names.now in
    OnlyPuts-one _ _ [] n.got_o (n.got_a ∷ n.trace ∷ []) c.deliver.ensures.only

pub returns-in-Err-deliver-clause-only : goal.returns-in-Err-deliver-clause-only
returns-in-Err-deliver-clause-only g c =
    let n = written c.args.names.now in
    OnlyPuts-trans _ _ _ (outputs_of n) (OnlyPuts-one _ _ [] n.got_o (n.got_a ∷ n.trace ∷ []) c.deliver.ensures.only)
    (OnlyPuts-one _ _ (n.got_o ∷ []) n.got_a (n.trace ∷ []) c.deliver-2.ensures.only)

pub returns-in-Err-clause-cause : goal.returns-in-Err-clause-cause
returns-in-Err-clause-cause g c = record {
  failed = λ e. inl (c.in-Err.ensures.cause.failed e);
  memory = λ e. c.in-Err.ensures.cause.memory e;
}

pub returns-in-Err-deliver-clause-cause : goal.returns-in-Err-deliver-clause-cause
returns-in-Err-deliver-clause-cause g c =
    let end = g.F.Folder.state c.deliver-2.new.folder in
    let name = (written c.args.names.now).got_a in
    record {
      failed = λ e. inr (inl (subst (λ before. Rose before (end.write_faults name)) (c.in-Ok.ensures.stand.faults.writes name)
          (c.in-Err-deliver.ensures.cause.failed e)));
      memory = λ e. subst (λ before. Rose before end.refusals) c.in-Ok.ensures.stand.refusals (c.in-Err-deliver.ensures.cause.memory e);
    }

pub returns-in-Err-deliver-clause-spared : goal.returns-in-Err-deliver-clause-spared
returns-in-Err-deliver-clause-spared g c = λ e. FaultsStand-trans c.in-Ok.ensures.stand.faults (c.in-Err-deliver.ensures.spared e)

pub returns-in-Err-clause-spared : goal.returns-in-Err-clause-spared
returns-in-Err-clause-spared g c = c.in-Err.ensures.spared

pub returns-in-Ok-deliver : goal.returns-in-Ok-deliver
returns-in-Ok-deliver g c =
    let n = written c.args.names.now in
    record {
      stands =
          λ files ends h. record {
            orig = c.in-Ok.ensures.stands files.orig ends.orig h.orig;
            answ = c.in-Ok-deliver.ensures.stands files.answ ends.answ h.answ;
          };
      delivered = record { orig = c.in-Ok.ensures.delivered; answ = c.in-Ok-deliver.ensures.delivered };
      counted =
          λ heard asked h. record {
            orig = counted-on _ _ c.deliver.ensures.takes_nothing c.deliver.ensures.breaks heard asked h.orig;
            answ = counted-on _ _ c.deliver-2.ensures.takes_nothing c.deliver-2.ensures.breaks heard asked h.answ;
          };
      ok = λ files ends h.
          let start = g.F.Folder.state c.args.folder.now in
          let mid = g.F.Folder.state c.deliver.new.folder in
          let end = g.F.Folder.state c.deliver-2.new.folder in
          AddEach-next start mid end (n.got_o ∷ []) n.got_a (n.trace ∷ []) (concat (deliveries ends.orig) ∷ [])
          (concat (deliveries ends.answ)) tt c.requires.apart c.deliver.ensures.only.goes_on
          (AddEach-next start start mid [] n.got_o (n.got_a ∷ n.trace ∷ []) [] (concat (deliveries ends.orig)) tt c.requires.apart
          (GoesOn-refl start) (KeepsEach-refl start (outputs_of n)) c.deliver.ensures.only (c.in-Ok.ensures.ok files.orig ends.orig h.orig))
          c.deliver-2.ensures.only (c.in-Ok-deliver.ensures.ok files.answ ends.answ h.answ);
      err = search rules;
      only =
          OnlyPuts-trans _ _ _ (outputs_of n) (OnlyPuts-one _ _ [] n.got_o (n.got_a ∷ n.trace ∷ []) c.deliver.ensures.only)
          (OnlyPuts-one _ _ (n.got_o ∷ []) n.got_a (n.trace ∷ []) c.deliver-2.ensures.only);
      cause = record { failed = λ e. no-fault e; memory = λ e. no-fault e };
      stand = CountsStand-trans c.in-Ok.ensures.stand c.in-Ok-deliver.ensures.stand;
      spared = λ e. no-fault e;
      came = g.met.F.Folder.came_on _ _ _ c.deliver.ensures.came c.deliver-2.ensures.came;
    }

pub returns-in-Err-deliver-clause-came : goal.returns-in-Err-deliver-clause-came
returns-in-Err-deliver-clause-came g c = g.met.F.Folder.came_on _ _ _ c.deliver.ensures.came c.deliver-2.ensures.came
