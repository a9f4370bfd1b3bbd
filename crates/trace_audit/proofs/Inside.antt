-- What the folder of an audit knows of files, and what it holds of a turn's lines.
use Rattle.trace_audit.proofs.Cited.{◌≡◌, ◌≢◌, ℕ, List, [], Some, sym, ◌∙◌, ap, take, Written, IsApart, KnowsFiles, FolderState, Both}
use Rattle.trace_audit.proofs.Cited.{held_by, file_limit}
use Rattle.std.proofs.Common.{IsTrue}
use Rattle.outside_calls.specs.Folder.{GoesOn, KeepsName, Appended, Adds}
use Rattle.outside_calls.specs.Outputs.{Holds}
use Rattle.outside_calls.proofs.Holding.{Holds-kept, Holds-more, Holds-add}
use Rattle.stations.specs.Station.{file_at}
use Rattle.program_folders.specs.Audited.{swallowed}
use Rattle.program_folders.proofs.Passed.{told-inside, told-outside, octets-inside, trace-told, trace-held}

module _ (f : FolderState) (n : Written) (text : List ℕ) (r : ℕ) (apart : IsApart n) where
  -- a file that the folder handed in tells is told, and one that is told is so by that folder
  file-inside : (name file : List ℕ) → name ≢ n.trace → (IsTrue (f.tells name) → file ≡ file_at f name file_limit)
      → IsTrue ((held_by f n text r).tells name) → file ≡ file_at (held_by f n text r) name file_limit
  file-inside name file t known told =
      known (told-inside f (swallowed n.got_o n.got_a n.trace) name t told)
      ∙ ap (λ (o : List ℕ). take file_limit o) (sym (octets-inside f (swallowed n.got_o n.got_a n.trace) text r name t))

  file-outside : (name file : List ℕ) → name ≢ n.got_o → name ≢ n.got_a → name ≢ n.trace
      → (IsTrue ((held_by f n text r).tells name) → file ≡ file_at (held_by f n text r) name file_limit)
      → IsTrue (f.tells name) → file ≡ file_at f name file_limit
  file-outside name file o a t known told =
      known (told-outside f (swallowed n.got_o n.got_a n.trace) name o a t told)
      ∙ ap (λ (o : List ℕ). take file_limit o) (octets-inside f (swallowed n.got_o n.got_a n.trace) text r name t)

  pub knows-inside : (files : Both (List ℕ)) → KnowsFiles f n files → KnowsFiles (held_by f n text r) n files
  knows-inside files k = record {
    within = k.within;
    orig = file-inside n.orig files.orig (λ e. apart.1.1.1.0.0 (sym e)) k.orig;
    answ = file-inside n.answ files.answ (λ e. apart.1.1.1.0.1.0 (sym e)) k.answ;
  }

  pub knows-outside : (files : Both (List ℕ)) → KnowsFiles (held_by f n text r) n files → KnowsFiles f n files
  knows-outside files k = record {
    within = k.within;
    orig = file-outside n.orig files.orig (λ e. apart.1.0.0 (sym e)) (λ e. apart.1.1.0.0 (sym e)) (λ e. apart.1.1.1.0.0 (sym e)) k.orig;
    answ = file-outside n.answ files.answ (λ e. apart.1.0.1.0 (sym e)) (λ e. apart.1.1.0.1.0 (sym e)) (λ e. apart.1.1.1.0.1.0 (sym e))
        k.answ;
  }

  -- the text that it holds is what the trace's name holds
  pub text-held : (held : List ℕ) → Holds (held_by f n text r) n.trace held → text ≡ held
  text-held held h =
      let told = trace-told f (swallowed n.got_o n.got_a n.trace) in
      let same : Some text ≡ Some held = sym (trace-held f (swallowed n.got_o n.got_a n.trace) text r) ∙ h told in
      cc

-- before a turn it holds nothing
pub held-none : (f : FolderState) (n : Written) (r : ℕ) → Holds (held_by f n [] r) n.trace []
held-none f n r told = trace-held f (swallowed n.got_o n.got_a n.trace) [] r

-- so after it that is its text which the turn added
module _ (old new : FolderState) (n : Written) (text : List ℕ) (r : ℕ) (apart : IsApart n)
    (on : GoesOn (held_by old n [] 0) (held_by new n text r)) where
  pub text-added : (added : List ℕ) → Adds (held_by old n [] 0) (held_by new n text r) n.trace added → text ≡ added
  text-added added adds =
      text-held new n text r apart added
      (Holds-add (held_by old n [] 0) (held_by new n text r) n.trace [] added on (held-none old n 0) adds)

  pub text-more : (added : List ℕ) → Appended (held_by old n [] 0) (held_by new n text r) n.trace added → text ≡ added
  text-more added put =
      text-held new n text r apart added
      (Holds-more (held_by old n [] 0) (held_by new n text r) n.trace [] added on (held-none old n 0) put)

  pub text-kept : KeepsName (held_by old n [] 0) (held_by new n text r) n.trace → text ≡ []
  text-kept kept =
      text-held new n text r apart []
      (Holds-kept (held_by old n [] 0) (held_by new n text r) n.trace [] on (held-none old n 0) kept)
