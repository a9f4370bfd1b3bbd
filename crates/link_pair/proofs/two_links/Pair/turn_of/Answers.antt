use Rattle.link_pair.proofs.Names.{sym, subst, Ok, arith, Written, written, Awaits, Comes, FolderState}
use Rattle.link_pair.specs.Pair.{which}
use Rattle.link_pair.proofs.Beside.{first-apart, second-apart, only-first, only-second, first-counts, second-counts}
use Rattle.link_pair.proofs.Pairing.{PairLaws, pair-laws, first-ready, second-ready, few-rounds}
use Rattle.link_pair.proofs.Turning.{Leaves, first_moved, second_moved, comes-first, comes-second, fault-first, fault-second}
use Rattle.link_pair.proofs.two_links.Pair.turn_of.Goals as goal

-- ---- the first link's

pub turn-requires-clause-ready : goal.turn-requires-clause-ready
turn-requires-clause-ready g c =
    let laws : PairLaws =
    pair-laws c.scripts_make_links.ensures.delays c.slots_are_due.ensures.first c.slots_are_due.ensures.second
    c.pairs_have_few_rounds.ensures in
    let n : Written = written c.args.names.now.first in
    let m : Written = written c.args.names.now.second in
    let old : FolderState = g.F.Folder.state c.args.folder.now in
    let ready = subst (λ w. Awaits c.args.self.now old n m (which w)) c.in-First.is c.requires.ready in
    first-ready laws c.args.self.now old n m ready

pub turn-requires-clause-apart : goal.turn-requires-clause-apart
turn-requires-clause-apart g c = first-apart (written c.args.names.now.first) (written c.args.names.now.second) c.requires.apart

pub returns-in-Ok-clause-comes : goal.returns-in-Ok-clause-comes
returns-in-Ok-clause-comes g c =
    let laws : PairLaws =
    pair-laws c.scripts_make_links.ensures.delays c.slots_are_due.ensures.first c.slots_are_due.ensures.second
    c.pairs_have_few_rounds.ensures in
    let n : Written = written c.args.names.now.first in
    let m : Written = written c.args.names.now.second in
    let old : FolderState = g.F.Folder.state c.args.folder.now in
    let new : FolderState = g.F.Folder.state c.turn.new.folder in
    let around : Leaves old new n m n = record { apart = c.requires.apart; only = c.turn.ensures.only } in
    let ready = subst (λ w. Awaits c.args.self.now old n m (which w)) c.in-First.is c.requires.ready in
    let x = c.args.self.now in
    let h = c.turn.new.self in
    let l = c.turn.new.lines in
    let o = c.endings.result in
    subst (λ w. Comes x.script x.round (which w) (first_moved x h l) new n m (Ok o)) (sym c.in-First.is)
    (comes-first laws x h l old new n m ready around c.turn.ensures.channel o (sym c.endings.ensures) c.in-Ok.ensures.turn)

pub returns-in-Err-clause-comes : goal.returns-in-Err-clause-comes
returns-in-Err-clause-comes g c =
    let laws : PairLaws =
    pair-laws c.scripts_make_links.ensures.delays c.slots_are_due.ensures.first c.slots_are_due.ensures.second
    c.pairs_have_few_rounds.ensures in
    let n : Written = written c.args.names.now.first in
    let m : Written = written c.args.names.now.second in
    let old : FolderState = g.F.Folder.state c.args.folder.now in
    let new : FolderState = g.F.Folder.state c.turn.new.folder in
    let around : Leaves old new n m n = record { apart = c.requires.apart; only = c.turn.ensures.only } in
    let ready = subst (λ w. Awaits c.args.self.now old n m (which w)) c.in-First.is c.requires.ready in
    fault-first laws c.args.self.now c.turn.new.self c.turn.new.lines old new n m ready around c.in-Err.fault c.in-Err.ensures.turn

pub returns-in-Ok-clause-only : goal.returns-in-Ok-clause-only
returns-in-Ok-clause-only g c = only-first _ _ (written c.args.names.now.first) (written c.args.names.now.second) c.turn.ensures.only

pub returns-in-Err-clause-only : goal.returns-in-Err-clause-only
returns-in-Err-clause-only g c = only-first _ _ (written c.args.names.now.first) (written c.args.names.now.second) c.turn.ensures.only

pub returns-in-Err-clause-counts : goal.returns-in-Err-clause-counts
returns-in-Err-clause-counts g c =
    first-counts (g.F.Folder.state c.args.folder.now) (g.F.Folder.state c.turn.new.folder)
    (written c.args.names.now.first) (written c.args.names.now.second) c.in-Err.fault c.in-Err.ensures.counts

-- ---- the second link's

pub turn-requires-in-Second-clause-ready : goal.turn-requires-in-Second-clause-ready
turn-requires-in-Second-clause-ready g c =
    let laws : PairLaws =
    pair-laws c.scripts_make_links.ensures.delays c.slots_are_due.ensures.first c.slots_are_due.ensures.second
    c.pairs_have_few_rounds.ensures in
    let n : Written = written c.args.names.now.first in
    let m : Written = written c.args.names.now.second in
    let old : FolderState = g.F.Folder.state c.args.folder.now in
    let ready = subst (λ w. Awaits c.args.self.now old n m (which w)) c.in-Second.is c.requires.ready in
    second-ready laws c.args.self.now old n m ready

pub turn-requires-in-Second-clause-apart : goal.turn-requires-in-Second-clause-apart
turn-requires-in-Second-clause-apart g c = second-apart (written c.args.names.now.first) (written c.args.names.now.second) c.requires.apart

pub returns-in-Ok-turn-clause-comes : goal.returns-in-Ok-turn-clause-comes
returns-in-Ok-turn-clause-comes g c =
    let laws : PairLaws =
    pair-laws c.scripts_make_links.ensures.delays c.slots_are_due.ensures.first c.slots_are_due.ensures.second
    c.pairs_have_few_rounds.ensures in
    let n : Written = written c.args.names.now.first in
    let m : Written = written c.args.names.now.second in
    let old : FolderState = g.F.Folder.state c.args.folder.now in
    let new : FolderState = g.F.Folder.state c.turn-in-Second.new.folder in
    let around : Leaves old new n m m = record { apart = c.requires.apart; only = c.turn-in-Second.ensures.only } in
    let ready = subst (λ w. Awaits c.args.self.now old n m (which w)) c.in-Second.is c.requires.ready in
    let x = c.args.self.now in
    let h = c.turn-in-Second.new.self in
    let l = c.turn-in-Second.new.lines in
    let o = c.endings-in-Ok-turn.result in
    subst (λ w. Comes x.script x.round (which w) (second_moved x h l) new n m (Ok o)) (sym c.in-Second.is)
    (comes-second laws x h l old new n m ready around c.turn-in-Second.ensures.channel o (sym c.endings-in-Ok-turn.ensures)
    c.in-Ok-turn.ensures.turn)

pub returns-in-Err-turn-clause-comes : goal.returns-in-Err-turn-clause-comes
returns-in-Err-turn-clause-comes g c =
    let laws : PairLaws =
    pair-laws c.scripts_make_links.ensures.delays c.slots_are_due.ensures.first c.slots_are_due.ensures.second
    c.pairs_have_few_rounds.ensures in
    let n : Written = written c.args.names.now.first in
    let m : Written = written c.args.names.now.second in
    let old : FolderState = g.F.Folder.state c.args.folder.now in
    let new : FolderState = g.F.Folder.state c.turn-in-Second.new.folder in
    let around : Leaves old new n m m = record { apart = c.requires.apart; only = c.turn-in-Second.ensures.only } in
    let ready = subst (λ w. Awaits c.args.self.now old n m (which w)) c.in-Second.is c.requires.ready in
    fault-second laws c.args.self.now c.turn-in-Second.new.self c.turn-in-Second.new.lines old new n m ready around
    c.in-Err-turn.fault c.in-Err-turn.ensures.turn

pub returns-in-Ok-turn-clause-only : goal.returns-in-Ok-turn-clause-only
returns-in-Ok-turn-clause-only g c =
    only-second _ _ (written c.args.names.now.first) (written c.args.names.now.second) c.turn-in-Second.ensures.only

pub returns-in-Err-turn-clause-only : goal.returns-in-Err-turn-clause-only
returns-in-Err-turn-clause-only g c =
    only-second _ _ (written c.args.names.now.first) (written c.args.names.now.second) c.turn-in-Second.ensures.only

pub returns-in-Err-turn-clause-counts : goal.returns-in-Err-turn-clause-counts
returns-in-Err-turn-clause-counts g c =
    second-counts (g.F.Folder.state c.args.folder.now) (g.F.Folder.state c.turn-in-Second.new.folder)
    (written c.args.names.now.first) (written c.args.names.now.second) c.in-Err-turn.fault c.in-Err-turn.ensures.counts

pub overflow_add-self : goal.overflow_add-self
overflow_add-self g c =
    let n : Written = written c.args.names.now.first in
    let m : Written = written c.args.names.now.second in
    let few = few-rounds c.pairs_have_few_rounds.ensures c.args.self.now _ n m (which c.args.link) c.requires.ready in
    omega (arith, few)
