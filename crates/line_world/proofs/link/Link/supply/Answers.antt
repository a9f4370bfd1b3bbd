use Rattle.line_world.proofs.Cited.{inl, inr, subst, rules, arith, written, OnlyReads-trans, CountsStand-trans, FaultsStand-trans, Rose}
use Rattle.line_world.proofs.Cited.{no-fault, Supplies, file_limit}
use Rattle.line_world.proofs.Linking.{reads-later}
use Rattle.line_world.proofs.link.Link.supply.Goals as goal

pub returns-in-Err-clause-counted : goal.returns-in-Err-clause-counted
returns-in-Err-clause-counted g c = λ heard asked h. record { orig = c.supply.ensures.counted heard asked h.orig; answ = h.answ }

pub returns-in-Err-clause-cause : goal.returns-in-Err-clause-cause
returns-in-Err-clause-cause g c = record {
  failed = λ e. inl (c.in-Err.ensures.cause.failed e);
  memory = λ e. c.in-Err.ensures.cause.memory e;
}

pub returns-in-Err-clause-spared : goal.returns-in-Err-clause-spared
returns-in-Err-clause-spared g c = c.in-Err.ensures.spared

pub returns-in-Err-clause-idle : goal.returns-in-Err-clause-idle
returns-in-Err-clause-idle g c = λ h. record { orig = c.supply.ensures.idle h.orig; answ = h.answ }

pub returns-in-Err-clause-only : goal.returns-in-Err-clause-only
returns-in-Err-clause-only g c = c.supply.ensures.only

pub supply-requires-clause-limit : goal.supply-requires-clause-limit
supply-requires-clause-limit g c = omega arith

pub supply-requires-clause-stands : goal.supply-requires-clause-stands
supply-requires-clause-stands g c =
    let w = c.requires.stands in
    (w.0.orig, w.1.orig, w.2.orig, w.3.orig)

pub supply-requires-2-clause-limit : goal.supply-requires-2-clause-limit
supply-requires-2-clause-limit g c = omega arith

pub supply-requires-2-clause-stands : goal.supply-requires-2-clause-stands
supply-requires-2-clause-stands g c =
    let w = c.requires.stands in
    (w.0.answ, w.1.answ, w.2.answ, w.3.answ)

pub returns-in-Ok-supply : goal.returns-in-Ok-supply
returns-in-Ok-supply g c = record {
  stands = λ files ends h within.
      let n = written c.args.names.now in
      let orig : Supplies _ n.orig file_limit files.orig ends.orig c.supply.new.self =
      c.in-Ok.ensures.stands files.orig ends.orig h.orig within.orig in
      let answ : Supplies _ n.answ file_limit files.answ ends.answ c.supply-2.new.self =
      c.in-Ok-supply.ensures.stands files.answ ends.answ h.answ within.answ in
      record {
        others = record { orig = orig.others; answ = answ.others };
        orig = orig.reads_on;
        answ = reads-later _ _ n.answ file_limit files.answ ends.answ answ.others c.supply.ensures.only answ.reads_on;
        stands = record { orig = orig.stands; answ = answ.stands };
      };
  idle = λ h. record { orig = c.supply.ensures.idle h.orig; answ = c.supply-2.ensures.idle h.answ };
  counted =
      λ heard asked h. record { orig = c.supply.ensures.counted heard asked h.orig; answ = c.supply-2.ensures.counted heard asked h.answ };
  only = OnlyReads-trans c.supply.ensures.only c.supply-2.ensures.only;
  cause = record { failed = λ e. no-fault e; memory = λ e. no-fault e };
  stand = CountsStand-trans c.in-Ok.ensures.stand c.in-Ok-supply.ensures.stand;
  spared = λ e. no-fault e;
  came = g.met.F.Folder.came_on _ _ _ c.supply.ensures.came c.supply-2.ensures.came;
}

pub returns-in-Err-supply : goal.returns-in-Err-supply
returns-in-Err-supply g c = record {
  stands = search rules;
  idle = λ h. record { orig = c.supply.ensures.idle h.orig; answ = c.supply-2.ensures.idle h.answ };
  counted =
      λ heard asked h. record { orig = c.supply.ensures.counted heard asked h.orig; answ = c.supply-2.ensures.counted heard asked h.answ };
  only = OnlyReads-trans c.supply.ensures.only c.supply-2.ensures.only;
  cause =
      let end = g.F.Folder.state c.supply-2.new.folder in
      let name = (written c.args.names.now).answ in
      record {
        failed = λ e. inr (inl (subst (λ before. Rose before (end.read_faults name)) (c.in-Ok.ensures.stand.faults.reads name)
            (c.in-Err-supply.ensures.cause.failed e)));
        memory = λ e. subst (λ before. Rose before end.refusals) c.in-Ok.ensures.stand.refusals (c.in-Err-supply.ensures.cause.memory e);
      };
  stand = search rules;
  spared = λ e. FaultsStand-trans c.in-Ok.ensures.stand.faults (c.in-Err-supply.ensures.spared e);
  came = g.met.F.Folder.came_on _ _ _ c.supply.ensures.came c.supply-2.ensures.came;
}
