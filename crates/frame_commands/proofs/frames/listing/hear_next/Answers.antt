use Rattle.frame_commands.proofs.Names.{◌≡◌, inr, ℕ, ◌<◌, [], ◌++◌, IsTrue, subst, arith, Say, HeardTo, named, OnlyOutputs-reads}
use Rattle.frame_commands.proofs.Names.{OnlyOutputs-says, OnlyOutputs-trans, CountsStand-trans, octets_at}
use Rattle.std.proofs.Common.{◌∷◌, take}
use Rattle.command_base.proofs.Jobs.{stop-earlier}
use Rattle.frame_commands.proofs.Listing.Listed.{heard-part, heard-still, heard-more, heard-whole, say-part}
use Rattle.frame_commands.proofs.frames.listing.hear_next.Goals as goal

pub returns-in-Ok-eq0-clause-end : goal.returns-in-Ok-eq0-clause-end
returns-in-Ok-eq0-clause-end g c = λ start h zero.
    let end : (count : ℕ) → count ≡ 0
    → (count < 4096 → IsTrue (start.tells c.args.names.now.bits.now)
    → h.octets ++ take count c.read_piece.new.piece ≡ octets_at start c.args.names.now.bits.now) →
    IsTrue (start.tells c.args.names.now.bits.now) → h.octets ++ [] ≡ octets_at start c.args.names.now.bits.now =
    λ count e f told. (subst (λ (m : ℕ). m < 4096
    → h.octets ++ take m c.read_piece.new.piece ≡ octets_at start c.args.names.now.bits.now) e (λ few. f few told)) (omega arith) in
    heard-whole start (g.F.Folder.state c.args.folder.now) (g.F.Folder.state c.read_piece.new.folder)
    (named c.args.names.now) c.args.listener.now c.args.at h c.in-Ok-eq0.ensures.reads
    (end c.in-Ok-eq0.field-0 c.in-Ok-eq0.field-0-test (c.in-Ok-eq0.ensures.end start h.octets h.read))

pub returns-in-Err-clause-err : goal.returns-in-Err-clause-err
returns-in-Err-clause-err g c = λ start h. inr (
  h.read.within,
  heard-part start (g.F.Folder.state c.args.folder.now) (g.F.Folder.state c.read_piece.new.folder)
      (named c.args.names.now) c.args.listener.now c.args.at h c.in-Err.ensures.reads,
)

pub returns-in-Ok-hear-clause-ok : goal.returns-in-Ok-hear-clause-ok
returns-in-Ok-hear-clause-ok g c = λ start h.
    heard-more start (g.F.Folder.state c.args.folder.now) (g.F.Folder.state c.read_piece.new.folder) (g.F.Folder.state c.hear.new.folder)
    (named c.args.names.now) c.args.listener.now c.hear.new.self c.args.at c.in-Ok.count
    (take c.in-Ok.count c.read_piece.new.piece) h
    (c.in-Ok.ensures.more start h.octets h.read) c.in-Ok.ensures.reads c.in-Ok-hear.ensures.only c.in-Ok-hear.ensures.sender
    c.in-Ok-hear.ensures.ok

pub returns-in-Err-hear-clause-err : goal.returns-in-Err-hear-clause-err
returns-in-Err-hear-clause-err g c = λ start h. (
  h.read.within,
  say-part start (g.F.Folder.state c.args.folder.now) (g.F.Folder.state c.read_piece.new.folder) (g.F.Folder.state c.hear.new.folder)
      (named c.args.names.now) c.args.listener.now c.args.at c.in-Ok.count
      (take c.in-Ok.count c.read_piece.new.piece) h
      (c.in-Ok.ensures.more start h.octets h.read) c.in-Ok.ensures.reads c.in-Err-hear.ensures.err,
)

pub returns-in-Ok-eq0-clause-ok : goal.returns-in-Ok-eq0-clause-ok
returns-in-Ok-eq0-clause-ok g c = λ start h.
    let still = heard-still start (g.F.Folder.state c.args.folder.now) (g.F.Folder.state c.read_piece.new.folder)
    (named c.args.names.now) c.args.listener.now c.args.at h c.in-Ok-eq0.ensures.reads in
    subst (λ (n : ℕ). HeardTo start (g.F.Folder.state c.read_piece.new.folder) (named c.args.names.now) c.args.listener.now n) (omega arith)
    still

pub returns-in-Ok-eq0-clause-only : goal.returns-in-Ok-eq0-clause-only
returns-in-Ok-eq0-clause-only g c = OnlyOutputs-reads [] c.in-Ok-eq0.ensures.reads

pub returns-in-Err-clause-only : goal.returns-in-Err-clause-only
returns-in-Err-clause-only g c = OnlyOutputs-reads [] c.in-Err.ensures.reads

pub returns-in-Err-clause-counts : goal.returns-in-Err-clause-counts
returns-in-Err-clause-counts g c = c.in-Err.ensures.fails

pub returns-in-Ok-hear-clause-only : goal.returns-in-Ok-hear-clause-only
returns-in-Ok-hear-clause-only g c =
    OnlyOutputs-trans [] (OnlyOutputs-reads [] c.in-Ok.ensures.reads) (OnlyOutputs-says [] c.in-Ok-hear.ensures.only)

pub returns-in-Ok-hear-clause-counts : goal.returns-in-Ok-hear-clause-counts
returns-in-Ok-hear-clause-counts g c = CountsStand-trans c.in-Ok.ensures.stand c.in-Ok-hear.ensures.stand

pub returns-in-Err-hear-clause-only : goal.returns-in-Err-hear-clause-only
returns-in-Err-hear-clause-only g c =
    OnlyOutputs-trans [] (OnlyOutputs-reads [] c.in-Ok.ensures.reads) (OnlyOutputs-says [] c.in-Err-hear.ensures.only)

pub returns-in-Err-hear-clause-counts : goal.returns-in-Err-hear-clause-counts
returns-in-Err-hear-clause-counts g c =
    stop-earlier (g.F.Folder.state c.args.folder.now) (g.F.Folder.state c.read_piece.new.folder) (g.F.Folder.state c.hear.new.folder)
    (c.args.names.now.bits.now ∷ []) [] (Say c.in-Err-hear.fault) c.in-Ok.ensures.stand c.in-Err-hear.ensures.fails
