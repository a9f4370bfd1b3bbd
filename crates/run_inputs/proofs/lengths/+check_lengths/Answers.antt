use Rattle.run_inputs.proofs.Names.{◌≡◌, ◌+◌, ◌∷◌, map, ℕ, List, Bor, OnOk, ap, subst, sym, EndCounts, Stop, FolderState, AreWithin}
use Rattle.run_inputs.proofs.Names.{TellOctets, RefusesLengths}
use Rattle.command_base.proofs.Saying.{if-err-map}
use Rattle.run_inputs.proofs.Looking.{within-all, octets-all, refused-later, counts-later}
use Rattle.run_inputs.proofs.lengths.+check_lengths.Goals as goal

abbrev texts : List (Bor (List ℕ)) → List (List ℕ)
texts names = map (λ name. name.now) names

pub returns-in-Ok-clause-within : goal.returns-in-Ok-clause-within
returns-in-Ok-clause-within g t c =
    let old : FolderState = g.F.Folder.state c.args.folder.now in
    let mid : FolderState = g.F.Folder.state c.within_limit.new.folder in
    let name : List ℕ = c.in-Some.name.now.now in
    let names : List (List ℕ) = texts c.in-Some.others.now in
    let e : texts c.args.names.now ≡ name ∷ names = ap texts c.in-Some.ensures.cases.0 in
    subst (λ (all : List (List ℕ)). OnOk c.check_lengths.result (AreWithin c.args.limit old all)) (sym e)
    (within-all old mid name names c.args.limit c.check_lengths.result c.within_limit.ensures.reads c.in-Ok.ensures.within
    c.check_lengths.ensures.within)

pub returns-in-Ok-clause-octets : goal.returns-in-Ok-clause-octets
returns-in-Ok-clause-octets g t c =
    let old : FolderState = g.F.Folder.state c.args.folder.now in
    let mid : FolderState = g.F.Folder.state c.within_limit.new.folder in
    let name : List ℕ = c.in-Some.name.now.now in
    let names : List (List ℕ) = texts c.in-Some.others.now in
    let e : texts c.args.names.now ≡ name ∷ names = ap texts c.in-Some.ensures.cases.0 in
    subst (λ (all : List (List ℕ)). OnOk c.check_lengths.result (TellOctets old all)) (sym e)
    (octets-all old mid name names c.check_lengths.result c.within_limit.ensures.reads c.in-Ok.ensures.octets
    c.check_lengths.ensures.octets)

pub returns-in-Ok-clause-refused : goal.returns-in-Ok-clause-refused
returns-in-Ok-clause-refused g t c =
    let old : FolderState = g.F.Folder.state c.args.folder.now in
    let mid : FolderState = g.F.Folder.state c.within_limit.new.folder in
    let new : FolderState = g.F.Folder.state c.check_lengths.new.folder in
    let name : List ℕ = c.in-Some.name.now.now in
    let names : List (List ℕ) = texts c.in-Some.others.now in
    let e : texts c.args.names.now ≡ name ∷ names = ap texts c.in-Some.ensures.cases.0 in
    if-err-map {P = RefusesLengths c.args.limit mid new (c.args.word + 1) names} c.check_lengths.result
    (λ (stop : Stop) why. subst (λ (all : List (List ℕ)). RefusesLengths c.args.limit old new c.args.word all stop) (sym e)
    (refused-later old mid new name names c.args.limit c.args.word stop c.within_limit.ensures.reads c.in-Ok.ensures.stand
    c.in-Ok.ensures.within why))
    c.check_lengths.ensures.refused

pub returns-in-Ok-clause-counts : goal.returns-in-Ok-clause-counts
returns-in-Ok-clause-counts g t c = λ outputs.
    let old : FolderState = g.F.Folder.state c.args.folder.now in
    let mid : FolderState = g.F.Folder.state c.within_limit.new.folder in
    let new : FolderState = g.F.Folder.state c.check_lengths.new.folder in
    let name : List ℕ = c.in-Some.name.now.now in
    let names : List (List ℕ) = texts c.in-Some.others.now in
    let e : texts c.args.names.now ≡ name ∷ names = ap texts c.in-Some.ensures.cases.0 in
    subst (λ (all : List (List ℕ)). EndCounts old new all outputs c.check_lengths.result) (sym e)
    (counts-later old mid new name names outputs c.check_lengths.result c.in-Ok.ensures.stand (c.check_lengths.ensures.counts outputs))
