use Rattle.line_tap.proofs.Cited.{◌≡◌, ◌+◌, ◌≤◌, ◌<◌, ◌++◌, ℕ, List, length, take, drop, sym, ◌∙◌, subst, arith, take-append-le, take_all}
use Rattle.line_tap.proofs.Cited.{ReadTo, octets_at}
use Rattle.line_tap.specs.declared.limits.TheConstants.{TAP_LIMIT}
use Rattle.line_tap.proofs.pieces.read_into.Goals as goal

-- what a piece is that was read into the whole of a room
whole-piece : (room : ℕ) (piece before : List ℕ) → length piece ≡ room → piece ≡ take room (piece ++ drop (length piece) before)
whole-piece room piece before same =
    let few : room ≤ length piece = omega (arith, same) in
    let many : length piece ≤ room = omega (arith, same) in
    sym (take-append-le room piece (drop (length piece) before) few ∙ take_all room piece many)

pub returns-in-Ok-clause-more : goal.returns-in-Ok-clause-more
returns-in-Ok-clause-more g c = λ start octets h.
    subst (λ (piece : List ℕ). ReadTo start (g.F.Folder.state c.read_piece.new.folder) c.args.name.now TAP_LIMIT (c.args.at + c.in-Ok.count)
    (octets ++ take c.in-Ok.count piece))
    (whole-piece c.args.piece.now.len c.read_piece.new.piece c.args.piece.now.items (c.read_piece.ensures.kept ∙ c.deref_mut.ensures.len))
    (c.in-Ok.ensures.more start octets h)

pub returns-in-Ok-clause-end : goal.returns-in-Ok-clause-end
returns-in-Ok-clause-end g c = λ start octets h less told.
    subst (λ (piece : List ℕ). octets ++ take c.in-Ok.count piece ≡ octets_at start c.args.name.now)
    (whole-piece c.args.piece.now.len c.read_piece.new.piece c.args.piece.now.items (c.read_piece.ensures.kept ∙ c.deref_mut.ensures.len))
    (c.in-Ok.ensures.end start octets h (subst (λ (n : ℕ). c.in-Ok.count < n) (sym c.deref_mut.ensures.len) less) told)

pub returns-in-Ok-clause-bound : goal.returns-in-Ok-clause-bound
returns-in-Ok-clause-bound g c = subst (λ (n : ℕ). c.in-Ok.count ≤ n) c.deref_mut.ensures.len c.in-Ok.ensures.bound
