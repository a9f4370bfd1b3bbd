-- What was taken stays.
use Rattle.lapm_receiver.proofs.Names.{◌≡◌, ℕ, ◌+◌, List, [], ◌∷◌, ◌++◌, refl, sym, run_from, after_kind, Kept}
use Rattle.std.proofs.Common.{append-nil}
use Rattle.lapm_receiver.specs.Incoming.{KeepsTaken, kind_of, offset, next_expected}
use Rattle.lapm_receiver.specs.declared.took.Took.{Took}
use Rattle.lapm_receiver.specs.declared.took.Took.TheVariants.{InOrder, Repeat, Gap}

pub keeps_taken_always : KeepsTaken
keeps_taken_always ns info i = go (kind_of ns i) (offset i ns)
  where
    go : (k : Took) (o : ℕ) → (more : List (List ℕ)) × ((after_kind k o info i).taken ≡ i.taken ++ more)
    go InOrder o = (info ∷ run_from (next_expected i + 1) i.held, refl)
    go Kept o = ([], sym (append-nil i.taken))
    go Repeat o = ([], sym (append-nil i.taken))
    go Gap o = ([], sym (append-nil i.taken))
