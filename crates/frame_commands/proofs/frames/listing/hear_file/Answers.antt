use Rattle.frame_commands.proofs.Names.{[], arith, named, OnlyOutputs-refl, OnlyOutputs-trans, CountsStand-refl, CountsStand-trans}
use Rattle.frame_commands.proofs.Names.{FolderState}
use Rattle.frame_commands.proofs.Listing.Listed.{heard-none-yet}
use Rattle.frame_commands.proofs.frames.listing.hear_file.Goals as goal

pub loop-listener-init : goal.loop-listener-init
loop-listener-init g c =
    let old : FolderState = g.F.Folder.state c.args.folder.now in
    record {
      within = omega arith;
      pieces = omega (arith, c.new-listener.ensures.pieces);
      heard = λ start b. heard-none-yet start old
          (named c.args.names.now) c.new-listener.result b c.new-listener.ensures.sender c.new-listener.ensures.heard;
      only = OnlyOutputs-refl old [];
      stand = CountsStand-refl old;
    }

pub loop-listener-preserved : goal.loop-listener-preserved
loop-listener-preserved g c = record {
  within = c.in-Ok.ensures.bound;
  pieces = c.in-Ok.ensures.pieces;
  heard = λ start b. c.in-Ok.ensures.ok start (c.loop-listener.invariant.heard start b);
  only = OnlyOutputs-trans [] c.loop-listener.invariant.only c.in-Ok.ensures.only;
  stand = CountsStand-trans c.loop-listener.invariant.stand c.in-Ok.ensures.counts;
}
