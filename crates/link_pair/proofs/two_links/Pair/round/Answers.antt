use Rattle.link_pair.proofs.Names.{subst, ◌∙◌, Ok, Written, written, Comes, round_of, script_of, First, Second, ScriptValue, OnlyPuts-trans}
use Rattle.link_pair.proofs.Names.{FolderState}
use Rattle.link_pair.specs.Pair.{inputs_in, outputs_in}
use Rattle.link_pair.proofs.Beginning.{counts-behind}
use Rattle.link_pair.proofs.two_links.Pair.round.Goals as goal

pub turn_of-requires-in-Ok-None-clause-ready : goal.turn_of-requires-in-Ok-None-clause-ready
turn_of-requires-in-Ok-None-clause-ready g c =
    let n : Written = written c.args.names.now.first in
    let m : Written = written c.args.names.now.second in
    let mid : FolderState = g.F.Folder.state c.turn_of.new.folder in
    (subst (λ o. Comes (script_of c.args.self.now) (round_of c.args.self.now) First c.turn_of.new.self mid n m (Ok o))
    c.in-Ok-None.field-0-is c.in-Ok-None.ensures.comes).0

pub returns-in-Ok-None : goal.returns-in-Ok-None
returns-in-Ok-None g c = record {
  comes =
      let n : Written = written c.args.names.now.first in
      let m : Written = written c.args.names.now.second in
      let mid : FolderState = g.F.Folder.state c.turn_of.new.folder in
      let end : FolderState = g.F.Folder.state c.turn_of-in-Ok-None.new.folder in
      let next = c.turn_of-in-Ok-None.new.self in
      let first = subst (λ o. Comes (script_of c.args.self.now) (round_of c.args.self.now) First c.turn_of.new.self mid n m (Ok o))
      c.in-Ok-None.field-0-is c.in-Ok-None.ensures.comes in
      subst (λ (s : ScriptValue). Comes s (round_of c.args.self.now) Second next end n m c.turn_of-in-Ok-None.result)
      c.turn_of.ensures.script
      (subst (λ round. Comes (script_of c.turn_of.new.self) round Second next end n m c.turn_of-in-Ok-None.result) first.1
      c.turn_of-in-Ok-None.ensures.comes);
  script = c.turn_of-in-Ok-None.ensures.script ∙ c.turn_of.ensures.script;
  only = OnlyPuts-trans _ _ _ (outputs_in c.args.names.now) c.turn_of.ensures.only c.turn_of-in-Ok-None.ensures.only;
  came = g.met.F.Folder.came_on _ _ _ c.turn_of.ensures.came c.turn_of-in-Ok-None.ensures.came;
  counts =
      counts-behind (g.F.Folder.state c.args.folder.now) (g.F.Folder.state c.turn_of.new.folder)
      (g.F.Folder.state c.turn_of-in-Ok-None.new.folder)
      (inputs_in c.args.names.now) (outputs_in c.args.names.now) c.turn_of-in-Ok-None.result c.in-Ok-None.ensures.counts
      c.turn_of-in-Ok-None.ensures.counts;
}

pub returns-in-Ok-Some-clause-comes : goal.returns-in-Ok-Some-clause-comes
returns-in-Ok-Some-clause-comes g c =
    let n : Written = written c.args.names.now.first in
    let m : Written = written c.args.names.now.second in
    let mid : FolderState = g.F.Folder.state c.turn_of.new.folder in
    subst (λ o. Comes (script_of c.args.self.now) (round_of c.args.self.now) First c.turn_of.new.self mid n m (Ok o))
    c.in-Ok-Some.field-0-is c.in-Ok-Some.ensures.comes
