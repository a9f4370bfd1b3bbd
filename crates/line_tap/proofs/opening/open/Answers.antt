use Rattle.line_tap.proofs.Cited.{inl, inr, [], ◌∷◌, stop-earlier, ReadTo-kept, TapNames, named, inputs_of, OnlyReads-trans}
use Rattle.line_tap.proofs.Cited.{CountsStand-trans, FolderState, OnlyReads, Call}
use Rattle.command_base.proofs.Reading.{ReadTo-none}
use Rattle.line_tap.specs.declared.limits.TheConstants.{TAP_LIMIT, LIMITS}
use Rattle.line_tap.proofs.HeaderRead.{inputs-refused, both-read, header-read, orig-refused, answ-refused}
use Rattle.line_tap.proofs.opening.open.Goals as goal
use Rattle.run_inputs.proofs.Looking.{of-more}

pub returns-in-Err : goal.returns-in-Err
returns-in-Err g c = record {
  opened = tt;
  refused =
      inputs-refused LIMITS (g.F.Folder.state c.args.folder.now) (g.F.Folder.state c.open_inputs.new.folder) (named c.args.words.now)
      c.in-Err.stop c.in-Err.ensures.refused;
  reads = c.in-Err.ensures.reads;
  counts = c.in-Err.ensures.counts;
}

pub returns-in-Err-open_header : goal.returns-in-Err-open_header
returns-in-Err-open_header g c =
    let n : TapNames = named c.args.words.now in
    record {
      opened = tt;
      refused =
          let first = c.in-Ok.ensures.reads in
          orig-refused LIMITS _ _ n c.in-Ok.script c.in-Err-open_header.stop c.in-Ok.ensures.opened (c.in-Err-open_header.ensures.err _
          (ReadTo-none _ _ n.rec_o TAP_LIMIT c.in-Ok.ensures.opened.files.0 first.goes_on (first.names n.rec_o)))
          (stop-earlier _ _ _ (n.rec_o ∷ []) [] c.in-Err-open_header.stop (c.in-Ok.ensures.counts [])
          (c.in-Err-open_header.ensures.counts []));
      reads = OnlyReads-trans c.in-Ok.ensures.reads c.in-Err-open_header.ensures.reads;
      counts = λ outputs. stop-earlier _ _ _ (inputs_of n) outputs c.in-Err-open_header.stop (c.in-Ok.ensures.counts outputs)
          (of-more _ _ (n.rec_o ∷ []) (inputs_of n) outputs c.in-Err-open_header.stop
          (λ some. elim some [ inl rose ↦ inl rose | inr never ↦ absurd never ]) (c.in-Err-open_header.ensures.counts outputs));
    }

pub returns-in-Ok-open_header-2 : goal.returns-in-Ok-open_header-2
returns-in-Ok-open_header-2 g c = record {
  opened =
      let n : TapNames = named c.args.words.now in
      let old : FolderState = g.F.Folder.state c.args.folder.now in
      let n1 : FolderState = g.F.Folder.state c.open_inputs.new.folder in
      let n2 : FolderState = g.F.Folder.state c.open_header.new.folder in
      let first : OnlyReads old n1 = c.in-Ok.ensures.reads in
      let second : OnlyReads old n2 = OnlyReads-trans first c.in-Ok-open_header.ensures.reads in
      let third = c.in-Ok-open_header-2.ensures.reads in
      let orig = c.in-Ok-open_header.ensures.ok old
      (ReadTo-none old n1 n.rec_o TAP_LIMIT c.in-Ok.ensures.opened.files.0 first.goes_on (first.names n.rec_o)) in
      record {
        opens = c.in-Ok.ensures.opened;
        headers = both-read old _ n (ReadTo-kept old n2 _ n.rec_o TAP_LIMIT _ _ orig third.goes_on (third.names n.rec_o))
            (c.in-Ok-open_header-2.ensures.ok old
            (ReadTo-none old n2 n.rec_a TAP_LIMIT c.in-Ok.ensures.opened.files.1.0 second.goes_on (second.names n.rec_a)));
        reads = OnlyReads-trans second third;
        stand = CountsStand-trans (CountsStand-trans (c.in-Ok.ensures.counts []) c.in-Ok-open_header.ensures.stand)
            c.in-Ok-open_header-2.ensures.stand;
      };
  refused = tt;
  reads = OnlyReads-trans (OnlyReads-trans c.in-Ok.ensures.reads c.in-Ok-open_header.ensures.reads) c.in-Ok-open_header-2.ensures.reads;
  counts = λ outputs. CountsStand-trans (CountsStand-trans (c.in-Ok.ensures.counts outputs) c.in-Ok-open_header.ensures.stand)
      c.in-Ok-open_header-2.ensures.stand;
}

pub returns-in-Err-open_header-2 : goal.returns-in-Err-open_header-2
returns-in-Err-open_header-2 g c =
    let n : TapNames = named c.args.words.now in
    let old : FolderState = g.F.Folder.state c.args.folder.now in
    let n2 : FolderState = g.F.Folder.state c.open_header.new.folder in
    record {
      opened = tt;
      refused =
          let first = c.in-Ok.ensures.reads in
          let second : OnlyReads old n2 = OnlyReads-trans first c.in-Ok-open_header.ensures.reads in
          let orig = c.in-Ok-open_header.ensures.ok old
          (ReadTo-none old (g.F.Folder.state c.open_inputs.new.folder) n.rec_o TAP_LIMIT c.in-Ok.ensures.opened.files.0 first.goes_on
          (first.names n.rec_o)) in
          answ-refused LIMITS old _ n c.in-Ok.script c.in-Err-open_header-2.stop c.in-Ok.ensures.opened
          (header-read old n2 n.rec_o Call orig) (c.in-Err-open_header-2.ensures.err old
          (ReadTo-none old n2 n.rec_a TAP_LIMIT c.in-Ok.ensures.opened.files.1.0 second.goes_on (second.names n.rec_a)))
          (stop-earlier old n2 _ (n.rec_a ∷ []) [] c.in-Err-open_header-2.stop
          (CountsStand-trans (c.in-Ok.ensures.counts []) c.in-Ok-open_header.ensures.stand) (c.in-Err-open_header-2.ensures.counts []));
      reads =
          OnlyReads-trans (OnlyReads-trans c.in-Ok.ensures.reads c.in-Ok-open_header.ensures.reads) c.in-Err-open_header-2.ensures.reads;
      counts = λ outputs. stop-earlier old n2 _ (inputs_of n) outputs c.in-Err-open_header-2.stop
          (CountsStand-trans (c.in-Ok.ensures.counts outputs) c.in-Ok-open_header.ensures.stand)
          (of-more n2 _ (n.rec_a ∷ []) (inputs_of n) outputs c.in-Err-open_header-2.stop
          (λ some. elim some [ inl rose ↦ inr (inl rose) | inr never ↦ absurd never ]) (c.in-Err-open_header-2.ensures.counts outputs));
    }
