use Rattle.command_base.proofs.Names.{◌≡◌, ◌∙◌, [], ◌∷◌, map, ℕ, List, refl, ap, subst, sym, WriteFails, Holds-kept, OnlyOutputs-refl}
use Rattle.command_base.proofs.Names.{CountsStand-refl, CountsStand-trans, FolderState, CountsStand, AreApart, CreatesPart, OnlyOutputs}
use Rattle.command_base.proofs.Names.{FolderFault}
use Rattle.std.proofs.Common.{Bor}
use Rattle.std.proofs.lemmas.List.{nil_from_length}
use Rattle.outside_calls.specs.Outputs.{Creates}
use Rattle.command_base.proofs.Creating.{CreatesPart-first, CreatesPart-none, OnlyOutputs-first, OnlyOutputs-none, WriteFails-first}
use Rattle.command_base.proofs.Creating.{WriteFails-later}
use Rattle.command_base.proofs.Saying.{on-ok-map, on-err-map, if-err-map}
use Rattle.command_base.proofs.output.+create_outputs.Goals as goal

abbrev texts : List (Bor (List ℕ)) → List (List ℕ)
texts names = map (λ name. name.now) names

pub returns-in-None : goal.returns-in-None
returns-in-None g t c =
    let now : FolderState = g.F.Folder.state c.args.folder.now in
    let e : texts c.args.names.now ≡ [] = ap texts (nil_from_length c.args.names.now c.in-None.ensures.cases) in
    assumption (subst (Creates now) (sym e) tt, OnlyOutputs-refl now (texts c.args.names.now), refl {a = now.said}, CountsStand-refl now)

pub returns-in-Ok : goal.returns-in-Ok
returns-in-Ok g t c =
    let old : FolderState = g.F.Folder.state c.args.folder.now in let mid : FolderState = g.F.Folder.state c.create_output.new.folder in
    let new : FolderState = g.F.Folder.state c.create_outputs.new.folder in
    let name : List ℕ = c.in-Some.name.now.now in let names : List (List ℕ) = texts c.in-Some.others.now in
    let e : texts c.args.names.now ≡ name ∷ names = ap texts c.in-Some.ensures.cases.0 in
    let apart : AreApart (name ∷ names) = subst AreApart e c.requires in
    let first = c.create_output.ensures.only in
    let others = c.create_outputs.ensures.only in
    record {
      ok = on-ok-map {P = Creates new names} c.create_outputs.result (λ creates. subst (Creates new) (sym e)
          (Holds-kept mid new name [] others.goes_on c.in-Ok.ensures.ok (others.names name apart.0), creates)) c.create_outputs.ensures.ok;
      err = on-err-map {P = CreatesPart mid new names} c.create_outputs.result (λ part. subst (CreatesPart old new) (sym e)
          (CreatesPart-first old mid new name names apart.0 first c.in-Ok.ensures.ok others part)) c.create_outputs.ensures.err;
      only = subst (OnlyOutputs old new) (sym e) (OnlyOutputs-first old mid new name names first others);
      said = c.create_outputs.ensures.said ∙ first.said;
      fails = if-err-map {P = WriteFails mid new names} c.create_outputs.result (λ (fault : FolderFault) fails.
          subst (λ (all : List (List ℕ)). WriteFails old new all fault) (sym e)
          (WriteFails-later old mid new name names fault c.in-Ok.ensures.stand fails)) c.create_outputs.ensures.fails;
      stand = on-ok-map {P = CountsStand mid new} c.create_outputs.result (CountsStand-trans c.in-Ok.ensures.stand)
          c.create_outputs.ensures.stand;
    }

pub returns-in-Err : goal.returns-in-Err
returns-in-Err g t c =
    let old : FolderState = g.F.Folder.state c.args.folder.now in let new : FolderState = g.F.Folder.state c.create_output.new.folder in
    let name : List ℕ = c.in-Some.name.now.now in let names : List (List ℕ) = texts c.in-Some.others.now in
    let e : texts c.args.names.now ≡ name ∷ names = ap texts c.in-Some.ensures.cases.0 in
    let apart : AreApart (name ∷ names) = subst AreApart e c.requires in
    let first = c.create_output.ensures.only in
    record {
      ok = tt;
      err = subst (CreatesPart old new) (sym e) (CreatesPart-none old new name names apart.0 first c.in-Err.ensures.err);
      only = subst (OnlyOutputs old new) (sym e) (OnlyOutputs-none old new name names first);
      said = first.said;
      fails = subst (λ (all : List (List ℕ)). WriteFails old new all c.in-Err.fault) (sym e)
          (WriteFails-first old new name names c.in-Err.fault c.in-Err.ensures.fails);
      stand = tt;
    }
