use Rattle.signal_commands.proofs.Names.{inr, ℕ, ◌++◌, List, length-append, subst, arith, reads-all, HoldsFront-more, Holds-more}
use Rattle.signal_commands.proofs.Names.{OnlyOutput-writes, FolderState, Appended, PartlyAppended, samples_in, IsFollowed, DecodeNames}
use Rattle.signal_commands.proofs.Names.{named}
use Rattle.signal_commands.proofs.Decoding.Parts.{followed}
use Rattle.signal_commands.proofs.decode.player.write_rest.Goals as goal

pub returns-in-Ok : goal.returns-in-Ok
returns-in-Ok g c = record {
  ends = λ start mode at h end.
      let n : DecodeNames = named c.args.names.now in
      let old : FolderState = g.F.Folder.state c.args.folder.now in
      let n2 : FolderState = g.F.Folder.state c.append_output.new.folder in
      let given : List ℕ = c.finish-octets.result in
      let fin = c.finish-octets.ensures n.rate mode (samples_in h.content) h.octets h.hears in
      let puts : Appended old n2 n.file given =
      subst (λ (xs : List ℕ). Appended old n2 n.file xs) c.as_slice.ensures.items c.in-Ok.ensures.ok in
      record {
        mode = mode;
        content = h.content;
        reads = reads-all start old n.rec n.rate mode h.content at h.behind end;
        followed = followed n.rate mode c.args.playback h.content h.octets h.whole h.hears c.requires.not_lost;
        octets = h.octets ++ given;
        finishes = fin;
        file = Holds-more old n2 n.file h.octets given c.append_output.ensures.only.goes_on h.file puts;
        count_is = omega (arith, h.written_is, length-append h.octets given, c.len.ensures.count);
      };
  only = OnlyOutput-writes c.args.names.now.file.now c.append_output.ensures.only;
  counts = c.in-Ok.ensures.stand;
}

pub returns-in-Err : goal.returns-in-Err
returns-in-Err g c = record {
  ends = λ start mode at h end.
      let n : DecodeNames = named c.args.names.now in
      let old : FolderState = g.F.Folder.state c.args.folder.now in
      let n2 : FolderState = g.F.Folder.state c.append_output.new.folder in
      let given : List ℕ = c.finish-octets.result in
      let fin = c.finish-octets.ensures n.rate mode (samples_in h.content) h.octets h.hears in
      let puts : PartlyAppended old n2 n.file given =
      subst (λ (xs : List ℕ). PartlyAppended old n2 n.file xs) c.as_slice.ensures.items c.in-Err.ensures.err in
      let whole : IsFollowed n.rate h.content =
      followed n.rate mode c.args.playback h.content h.octets h.whole h.hears c.requires.not_lost in (
        h.behind.read.within,
        inr (record {
          mode = mode;
          content = h.content;
          reads = reads-all start old n.rec n.rate mode h.content at h.behind end;
          octets = h.octets ++ given;
          may = inr (whole, fin);
          file = HoldsFront-more old n2 n.file h.octets given c.append_output.ensures.only.goes_on h.file puts;
        }),
      );
  only = OnlyOutput-writes c.args.names.now.file.now c.append_output.ensures.only;
  counts = c.in-Err.ensures.fails;
}
