use Rattle.signal_commands.proofs.Names.{inl, inr, [], ◌∷◌, refl, behind-none, reads-first, stop-earlier, end-earlier, HoldsFront-all}
use Rattle.signal_commands.proofs.Names.{OnlyOutput-writes, OnlyOutput-trans, KeepsName-trans, CountsStand-trans, FolderState, OnlyOutput}
use Rattle.signal_commands.proofs.Names.{HEADER, PlayedTo, DecodeNames, named}
use Rattle.outside_calls.proofs.Steps.{FaultsStand-refl}
use Rattle.outside_calls.proofs.OnlyOutputs.{OnlyOutput-refl}
use Rattle.signal_commands.proofs.Decoding.Parts.{hears-releases, part}
use Rattle.signal_commands.proofs.Decoding.Steps.{apart-names, only-of-reads, only-write}
use Rattle.signal_commands.proofs.decode.command.decode_file.Goals as goal

pub returns-in-Err : goal.returns-in-Err
returns-in-Err g c = record {
  ends = λ start o.
      record {
        keeps = o.reads.names;
        stand = o.stand;
        within = o.within;
        mode = c.args.mode;
        header = o.header;
      };
  only = OnlyOutput-refl (g.F.Folder.state c.args.folder.now) c.args.names.now.file.now;
  counts = FaultsStand-refl (g.F.Folder.state c.args.folder.now);
}

pub returns-in-Err-create_output : goal.returns-in-Err-create_output
returns-in-Err-create_output g c = record {
  ends = λ start o.
      let n : DecodeNames = named c.args.names.now in
      let now : FolderState = g.F.Folder.state c.create_output.new.folder in (
        o.within,
        elim c.in-Err-create_output.ensures.err [
          | inl keeps ↦ inl (KeepsName-trans start _ now n.file o.reads.goes_on (o.reads.names n.file) keeps)
          | inr holds ↦ inr (part start now n c.args.mode [] []
              (reads-first start _ n.rec n.rate c.args.mode [] HEADER
              (behind-none start _ _ n.rec n.rate c.args.mode o o.reads.goes_on (o.reads.names n.rec)))
              (hears-releases n.rate c.args.mode c.in-Ok.playback [] [] c.in-Ok.ensures.hears c.in-Ok.ensures.ready.all_taken)
              (HoldsFront-all now n.file [] holds))
        ],
      );
  only = OnlyOutput-writes c.args.names.now.file.now c.in-Err-create_output.ensures.only;
  counts = c.in-Err-create_output.ensures.fails;
}

pub returns-in-Ok-play_to_end : goal.returns-in-Ok-play_to_end
returns-in-Ok-play_to_end g c = record {
  ends = λ start o.
      let n : DecodeNames = named c.args.names.now in
      let now : FolderState = g.F.Folder.state c.create_output.new.folder in
      let only : OnlyOutput start now n.file =
      only-write start _ now n.file (only-of-reads start _ n.file o.reads) c.create_output.ensures.only in
      let begun : PlayedTo start now n c.args.mode c.in-Ok.playback HEADER 0 = record {
        content = [];
        octets = [];
        hears = c.in-Ok.ensures.hears;
        whole = refl;
        written_is = refl;
        behind = behind-none start _ now n.rec n.rate c.args.mode o only.goes_on (only.names n.rec (apart-names n c.requires.apart));
        only = only;
        file = c.in-Ok-create_output.ensures.ok;
      } in
      let all = c.in-Ok-play_to_end.ensures.ok start begun in
      c.write_rest.ensures.ends start c.args.mode all.0 all.1 all.2;
  only =
      OnlyOutput-trans c.args.names.now.file.now (OnlyOutput-writes c.args.names.now.file.now c.in-Ok-create_output.ensures.only)
      (OnlyOutput-trans c.args.names.now.file.now c.in-Ok-play_to_end.ensures.only c.write_rest.ensures.only);
  counts =
      end-earlier (g.F.Folder.state c.args.folder.now) (g.F.Folder.state c.play_to_end.new.folder)
      (g.F.Folder.state c.write_rest.new.folder) (c.args.names.now.rec.now ∷ []) (c.args.names.now.file.now ∷ []) c.write_rest.result
      (CountsStand-trans c.in-Ok-create_output.ensures.stand c.in-Ok-play_to_end.ensures.counts) c.write_rest.ensures.counts;
}

pub returns-in-Err-play_to_end : goal.returns-in-Err-play_to_end
returns-in-Err-play_to_end g c = record {
  ends = λ start o.
      let n : DecodeNames = named c.args.names.now in
      let now : FolderState = g.F.Folder.state c.create_output.new.folder in
      let only : OnlyOutput start now n.file =
      only-write start _ now n.file (only-of-reads start _ n.file o.reads) c.create_output.ensures.only in
      let begun : PlayedTo start now n c.args.mode c.in-Ok.playback HEADER 0 = record {
        content = [];
        octets = [];
        hears = c.in-Ok.ensures.hears;
        whole = refl;
        written_is = refl;
        behind = behind-none start _ now n.rec n.rate c.args.mode o only.goes_on (only.names n.rec (apart-names n c.requires.apart));
        only = only;
        file = c.in-Ok-create_output.ensures.ok;
      } in
      c.in-Err-play_to_end.ensures.err start begun;
  only =
      OnlyOutput-trans c.args.names.now.file.now (OnlyOutput-writes c.args.names.now.file.now c.in-Ok-create_output.ensures.only)
      c.in-Err-play_to_end.ensures.only;
  counts =
      stop-earlier (g.F.Folder.state c.args.folder.now) (g.F.Folder.state c.create_output.new.folder)
      (g.F.Folder.state c.play_to_end.new.folder) (c.args.names.now.rec.now ∷ [])
      (c.args.names.now.file.now ∷ []) c.in-Err-play_to_end.stop c.in-Ok-create_output.ensures.stand c.in-Err-play_to_end.ensures.counts;
}
