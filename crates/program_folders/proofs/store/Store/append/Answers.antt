use Rattle.std.proofs.Common.{rules, ◌≡◌, sym, ◌∙◌, ap, OnOk, subst, None}
use Rattle.std.specs.FinMap as finite
use Rattle.std.specs.Option.{option_map}
use Rattle.outside_calls.specs.Folder.{Files}
use Rattle.program_folders.specs.Store.{files_of}
use Rattle.program_folders.proofs.Stored.{grown_ok, grown_err, get-files_of, get-updates_other}
use Rattle.program_folders.proofs.store.Store.append.Goals as goal

pub returns-in-Some-clause-ok : goal.returns-in-Some-clause-ok
returns-in-Some-clause-ok c =
    rw (← c.self.view_is)
    (grown_ok c.self.inside.files
    (c.get_mut.follows.lender c.extend_from_slice.new.self) c.args.name.now c.args.piece.now c.in-Some.octets.now
    c.extend_from_slice.new.self c.extend_from_slice.result ((c.get_mut.follows.holds c.extend_from_slice.new.self).3 (search rules))
    (sym c.in-Some.ensures.value) c.extend_from_slice.ensures.items)

pub returns-in-Some-clause-err : goal.returns-in-Some-clause-err
returns-in-Some-clause-err c =
    rw (← c.self.view_is)
    (grown_err c.self.inside.files
    (c.get_mut.follows.lender c.extend_from_slice.new.self) c.args.name.now c.args.piece.now c.in-Some.octets.now
    c.extend_from_slice.new.self c.extend_from_slice.result ((c.get_mut.follows.holds c.extend_from_slice.new.self).3 (search rules))
    (sym c.in-Some.ensures.value) c.extend_from_slice.ensures.items)

pub returns-in-None-clause-ok : goal.returns-in-None-clause-ok
returns-in-None-clause-ok c =
    let absent : finite.get c.args.self.now c.args.name.now ≡ None =
    ap (λ m. finite.get m c.args.name.now) (sym c.self.view_is) ∙ get-files_of c.self.inside.files c.args.name.now
    ∙ ap (option_map (λ v. v.items)) (sym c.in-None.ensures.value) in
    let e : files_of c.get_mut.follows.lender-at-none.entries ≡ c.args.self.now =
    ap (λ m. files_of m.entries) c.get_mut.follows.holds-at-none ∙ c.self.view_is in
    let put : OnOk c.put.result (c.put.new.self ≡ finite.insert c.args.self.now c.args.name.now c.args.piece.now) =
    subst (λ (m : Files). OnOk c.put.result (c.put.new.self ≡ finite.insert m c.args.name.now c.args.piece.now)) e c.put.ensures.ok in
    rw absent put

pub returns-in-Some-clause-others : goal.returns-in-Some-clause-others
returns-in-Some-clause-others c =
    rw (← c.self.view_is)
    (get-updates_other c.self.inside.files
    (c.get_mut.follows.lender c.extend_from_slice.new.self) c.args.name.now c.extend_from_slice.new.self
    ((c.get_mut.follows.holds c.extend_from_slice.new.self).3 (search rules)))
