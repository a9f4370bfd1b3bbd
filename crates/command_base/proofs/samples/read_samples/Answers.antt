use Rattle.command_base.proofs.Names.{◌≡◌, ◌∙◌, ◌<◌, ℕ, List, ◌++◌, IsTrue, length, take, subst, arith, octets_at, header_at}
use Rattle.std.proofs.lemmas.List.{length-take}
use Rattle.command_base.proofs.Behind.{behind-more, at-end}
use Rattle.command_base.proofs.samples.read_samples.Goals as goal

pub returns-in-Ok-clause-more : goal.returns-in-Ok-clause-more
returns-in-Ok-clause-more g c start rate mode content b =
    let piece : List ℕ = take c.in-Ok.count c.read_piece.new.piece in
    let long : length piece ≡ c.in-Ok.count =
    length-take c.in-Ok.count c.read_piece.new.piece ∙ omega (arith, c.in-Ok.ensures.bound, c.read_piece.ensures.kept) in
    behind-more start (g.F.Folder.state c.read_piece.new.folder) c.args.name.now rate mode content piece c.args.at c.in-Ok.count b.at_is
    long (c.in-Ok.ensures.more start (header_at rate mode ++ content) b.read)

pub returns-in-Ok-clause-end : goal.returns-in-Ok-clause-end
returns-in-Ok-clause-end g c start rate mode content b =
    let octets : List ℕ = header_at rate mode ++ content in
    let piece : List ℕ = take c.in-Ok.count c.read_piece.new.piece in
    let all : c.in-Ok.count < 4096 → IsTrue (start.tells c.args.name.now) → octets ++ piece ≡ octets_at start c.args.name.now =
    subst (λ (size : ℕ). c.in-Ok.count < size → IsTrue (start.tells c.args.name.now)
    → octets ++ piece ≡ octets_at start c.args.name.now) c.requires.size (c.in-Ok.ensures.end start octets b.read) in
    at-end start (g.F.Folder.state c.read_piece.new.folder) c.args.name.now c.args.at c.in-Ok.count octets piece
    (c.in-Ok.ensures.more start octets b.read) (omega (arith, c.in-Ok.ensures.bound, c.requires.size)) all
