use Rattle.signal_commands.proofs.Names.{◌∙◌, ℕ, List, [], ◌∷◌, sym, subst, arith, stop-earlier, OnlyOutput-writes, OnlyOutput-trans}
use Rattle.signal_commands.proofs.Names.{CountsStand-trans, FolderState, Appended, PartlyAppended, WritesAll, EncodeNames}
use Rattle.signal_commands.specs.Encoding.Words.{named}
use Rattle.signal_commands.proofs.Encoding.Making.{header-part, recorded-none}
use Rattle.signal_commands.proofs.encode.recording.record_file.Goals as goal

pub loop-count-init : goal.loop-count-init
loop-count-init g c =
    let old : FolderState = g.F.Folder.state c.args.folder.now in
    let now : FolderState = g.F.Folder.state c.append_output.new.folder in
    let n : EncodeNames = named c.args.names.now in
    record {
      within = omega arith;
      recorded = λ start b. recorded-none start old now n c.new-recorder.result b c.requires.apart c.new-recorder.ensures
          c.in-Ok.ensures.only
          (subst (λ (xs : List ℕ). Appended old now n.rec xs) (c.as_slice.ensures.items ∙ c.header_octets.ensures) c.in-Ok.ensures.ok);
      only = OnlyOutput-writes n.rec c.in-Ok.ensures.only;
      stand = c.in-Ok.ensures.stand;
    }

pub loop-count-preserved : goal.loop-count-preserved
loop-count-preserved g c =
    let before = c.loop-count.invariant in
    record {
      within = c.in-Ok-record_next.ensures.bound;
      recorded = λ start b. (c.in-Ok-record_next.ensures.ok start (before.recorded start b)).0;
      only = OnlyOutput-trans c.args.names.now.rec.now before.only c.in-Ok-record_next.ensures.only;
      stand = CountsStand-trans before.stand c.in-Ok-record_next.ensures.counts;
    }

pub record_next-requires-clause-apart : goal.record_next-requires-clause-apart
record_next-requires-clause-apart g c = c.requires.apart

pub record_next-requires-clause-within : goal.record_next-requires-clause-within
record_next-requires-clause-within g c = c.loop-count.invariant.within

pub returns-in-Err : goal.returns-in-Err
returns-in-Err g c = record {
  ends = λ start b.
      let old : FolderState = g.F.Folder.state c.args.folder.now in let new : FolderState = g.F.Folder.state c.append_output.new.folder in
      let n : EncodeNames = named c.args.names.now in (
        b.within,
        header-part start old new n b c.in-Err.ensures.only
            (subst (λ (xs : List ℕ). PartlyAppended old new n.rec xs) (c.as_slice.ensures.items
            ∙ c.header_octets.ensures) c.in-Err.ensures.err),
      );
  only = OnlyOutput-writes c.args.names.now.rec.now c.in-Err.ensures.only;
  counts = c.in-Err.ensures.fails;
}

pub returns-in-Ok-eq0 : goal.returns-in-Ok-eq0
returns-in-Ok-eq0 g c = record {
  ends = λ start b. subst (WritesAll start _ (named c.args.names.now)) (sym c.samples.ensures)
      ((c.in-Ok-eq0.ensures.ok start (c.loop-count.invariant.recorded start b)).1 c.in-Ok-eq0.field-0-test);
  only = OnlyOutput-trans c.args.names.now.rec.now c.loop-count.invariant.only c.in-Ok-eq0.ensures.only;
  counts = CountsStand-trans c.loop-count.invariant.stand c.in-Ok-eq0.ensures.counts;
}

pub returns-in-Err-record_next : goal.returns-in-Err-record_next
returns-in-Err-record_next g c = record {
  ends = λ start b. c.in-Err-record_next.ensures.err start (c.loop-count.invariant.recorded start b);
  only = OnlyOutput-trans c.args.names.now.rec.now c.loop-count.invariant.only c.in-Err-record_next.ensures.only;
  counts =
      stop-earlier (g.F.Folder.state c.args.folder.now) (g.F.Folder.state c.loop-count.folder) (g.F.Folder.state c.record_next.new.folder)
      (c.args.names.now.file.now ∷ []) (c.args.names.now.rec.now ∷ []) c.in-Err-record_next.fault c.loop-count.invariant.stand
      c.in-Err-record_next.ensures.counts;
}
