use Rattle.signal_commands.proofs.Names.{◌∙◌, ◌++◌, ◌∷◌, ℕ, List, [], sym, ap, subst, append_assoc, append-nil, bits_in, OctetsJoined}
use Rattle.signal_commands.proofs.decode.playback.join.Goals as goal

pub returns-in-Some-clause-joined : goal.returns-in-Some-clause-joined
returns-in-Some-clause-joined c before given j =
    let old : List ℕ = c.args.octets.now in
    subst (OctetsJoined c.push.new.self (before ++ bits_in c.args.bits))
    (append_assoc given old (c.in-Some.octet ∷ []) ∙ ap (λ (xs : List ℕ). given ++ xs) (sym c.push-in-Some.ensures))
    (c.in-Some.ensures.joined before (given ++ old) j)

pub returns-in_default-clause-joined : goal.returns-in_default-clause-joined
returns-in_default-clause-joined c before given j =
    subst (OctetsJoined c.push.new.self (before ++ bits_in c.args.bits)) (append-nil (given ++ c.args.octets.now))
    (c.in_default.ensures.joined before (given ++ c.args.octets.now) j)
