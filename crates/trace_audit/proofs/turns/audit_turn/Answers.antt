use Rattle.trace_audit.proofs.Cited.{List, ℕ, [], sym, ◌∙◌, subst, rules, stop-earlier, Written, written, OnlyReads-trans}
use Rattle.trace_audit.proofs.Cited.{CountsStand-trans, IsCut, audit_inputs}
use Rattle.trace_audit.proofs.Running.{turn-few, turn-compared, trace-counts, files-counts, same-ok, no-ok}
use Rattle.trace_audit.proofs.turns.audit_turn.Goals as goal

pub compare_text-requires : goal.compare_text-requires
compare_text-requires g c =
    let n : Written = written c.args.names.now in
    let h = c.requires.compared in
    let m = c.in-Ok.ensures.made h.lines h.comes in (
      m.lines,
      c.as_slice.ensures.items ∙ m.text_is,
      m.are_lines,
      turn-few c.args.world.now c.make_turn.new.world _ _ n c.args.trace.now c.args.comparison.now
          (c.turns_are_few.ensures c.args.world.now c.requires.ready) h c.in-Ok.made.goes_on c.in-Ok.made.text m,
    )

pub returns-in-Err-compare_text-clause-reads : goal.returns-in-Err-compare_text-clause-reads
returns-in-Err-compare_text-clause-reads g c = OnlyReads-trans c.make_turn.ensures.reads c.compare_text.ensures.reads

pub returns-in-Err-compare_text-clause-counts : goal.returns-in-Err-compare_text-clause-counts
returns-in-Err-compare_text-clause-counts g c =
    let n : Written = written c.args.names.now in
    stop-earlier _ _ _ (audit_inputs n c.args.trace.now) [] c.in-Err-compare_text.stop c.in-Ok.ensures.counts
    (trace-counts _ _ n c.args.trace.now c.in-Err-compare_text.stop c.in-Err-compare_text.ensures.counts)

pub returns-in-Err-clause-ready : goal.returns-in-Err-clause-ready
returns-in-Err-clause-ready g c = λ e. no-ok e

pub returns-in-Err-clause-number : goal.returns-in-Err-clause-number
returns-in-Err-clause-number g c = λ e. no-ok e

pub returns-in-Err-clause-counts : goal.returns-in-Err-clause-counts
returns-in-Err-clause-counts g c =
    files-counts (g.F.Folder.state c.args.folder.now) (g.F.Folder.state c.make_turn.new.folder) (written c.args.names.now)
    c.args.trace.now c.in-Err.stop c.in-Err.ensures.counts

pub returns-in-Ok-compare_text : goal.returns-in-Ok-compare_text
returns-in-Ok-compare_text g c = record {
  compared =
      let n : Written = written c.args.names.now in
      let h = c.requires.compared in
      let m = c.in-Ok.ensures.made h.lines h.comes in
      turn-compared c.args.world.now c.make_turn.new.world _ _ n c.args.trace.now c.args.comparison.now
      (c.turns_are_few.ensures c.args.world.now c.requires.ready) h c.in-Ok.made.goes_on c.in-Ok.made.text m _
      c.compare_text.new.comparison c.requires.apart c.make_turn.ensures.reads c.compare_text.ensures.reads
      (λ before lines cut. c.in-Ok-compare_text.ensures.compared before lines
      (subst (λ (t : List ℕ). IsCut t lines) (sym c.as_slice.ensures.items) cut))
      (λ k lines cut. c.in-Ok-compare_text.ensures.few k lines (subst (λ (t : List ℕ). IsCut t lines) (sym c.as_slice.ensures.items) cut));
  script = search rules;
  ready = λ e. c.in-Ok.ensures.ready (same-ok e);
  number = λ e. c.in-Ok.ensures.number (same-ok e);
  stops = search rules;
  reads = OnlyReads-trans c.make_turn.ensures.reads c.compare_text.ensures.reads;
  counts = CountsStand-trans c.in-Ok.ensures.counts c.in-Ok-compare_text.ensures.counts;
}

pub returns-in-Err-compare_text-clause-ready : goal.returns-in-Err-compare_text-clause-ready
returns-in-Err-compare_text-clause-ready g c = λ e. no-ok e

pub returns-in-Err-compare_text-clause-number : goal.returns-in-Err-compare_text-clause-number
returns-in-Err-compare_text-clause-number g c = λ e. no-ok e
