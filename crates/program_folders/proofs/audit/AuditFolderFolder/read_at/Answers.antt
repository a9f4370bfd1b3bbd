use Rattle.std.proofs.Common.{sym, subst, ◌∙◌, ap, List, ℕ, ◌-◌, min, length, take, drop, ◌++◌}
use Rattle.program_folders.specs.Audited.{Swallowed}
use Rattle.frame_check.specs.Octets.{AreOctets}
use Rattle.program_folders.proofs.Auditing.{reads-trace, reads-on-ok, only-reads, tells-trace, tells-inner}
use Rattle.program_folders.proofs.audit.AuditFolderFolder.read_at.Goals as goal

pub returns-then-eq-clause-octets : goal.returns-then-eq-clause-octets
returns-then-eq-clause-octets g c =
    let s = c.args.self.now in
    let n : Swallowed = record { got_o = s.got_o.now; got_a = s.got_a.now; trace = s.trace.now } in
    reads-trace n (g.F.Folder.state s.inner.now) s.text s.refusals c.args.name.now c.args.at c.args.buf.now c.copy_from.new.buf
    c.copy_from.result (sym c.eq.ensures ∙ c.if-eq.true)
    (c.copy_from.ensures.count ∙ ap (λ (xs : List ℕ). min (length c.args.buf.now) (length xs - c.args.at)) c.as_slice.ensures.items)
    (c.copy_from.ensures.front
    ∙ ap (λ (xs : List ℕ). take c.copy_from.result (drop c.args.at xs) ++ drop c.copy_from.result c.args.buf.now) c.as_slice.ensures.items)

pub returns-clause-octets : goal.returns-clause-octets
returns-clause-octets g c =
    let s = c.args.self.now in
    let n : Swallowed = record { got_o = s.got_o.now; got_a = s.got_a.now; trace = s.trace.now } in
    reads-on-ok n (g.F.Folder.state s.inner.now) s.text s.refusals c.args.name.now c.args.at c.args.buf.now c.read_at.new.buf
    c.read_at.result (sym c.eq.ensures ∙ c.if-eq.false) c.read_at.ensures.octets

pub returns-clause-only : goal.returns-clause-only
returns-clause-only g c =
    let s = c.args.self.now in
    let n : Swallowed = record { got_o = s.got_o.now; got_a = s.got_a.now; trace = s.trace.now } in
    only-reads n (g.F.Folder.state s.inner.now) (g.F.Folder.state c.read_at.new.self) s.text s.refusals c.read_at.ensures.only

pub returns-then-eq-clause-told : goal.returns-then-eq-clause-told
returns-then-eq-clause-told g c =
    let s = c.args.self.now in
    tells-trace (record { got_o = s.got_o.now; got_a = s.got_a.now; trace = s.trace.now }) (g.F.Folder.state s.inner.now) s.text s.refusals
    c.args.name.now (sym c.eq.ensures ∙ c.if-eq.true) (subst AreOctets c.as_slice.ensures.items c.copy_from.ensures.octets)

pub returns-clause-told : goal.returns-clause-told
returns-clause-told g c =
    let s = c.args.self.now in
    tells-inner (record { got_o = s.got_o.now; got_a = s.got_a.now; trace = s.trace.now }) (g.F.Folder.state s.inner.now) s.text s.refusals
    c.args.name.now c.read_at.result (sym c.eq.ensures ∙ c.if-eq.false) c.read_at.ensures.told
