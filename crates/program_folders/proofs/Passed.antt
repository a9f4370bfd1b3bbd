-- What the folder of an audit tells of the folder handed in.
use Rattle.std.specs.Prelude.{◌≡◌, ◌≢◌, ℕ, IsTrue, List, [], Some, unwrap_or}
use Rattle.std.proofs.Common.{Bool, true, false, refl, ap}
use Rattle.std.specs.Str.{bytes_eq}
use Rattle.std.proofs.lemmas.Slice.Eq.{bytes_eq-Decides}
use Rattle.outside_calls.specs.Folder.{FolderState, held_at, octets_at}
use Rattle.program_folders.specs.Audited.{Swallowed, audit_tells, audit_state}
use Rattle.program_folders.proofs.Auditing.{told}
use Rattle.program_folders.proofs.Stored.{get-insert_same, get-insert_other}

-- ---- what it holds

-- another name than the trace's is told as by the folder handed in, and holds the same,
other-is : (a b : List ℕ) → a ≢ b → bytes_eq a b ≡ false
other-is a b apart = go (bytes_eq a b) refl
  where
    go : (t : Bool) → bytes_eq a b ≡ t → bytes_eq a b ≡ false
    go true e = absurd (apart ((bytes_eq-Decides a b).0 e))
    go false e = e

pub told-inside : (f : FolderState) (n : Swallowed) (name : List ℕ) → name ≢ n.trace → IsTrue (audit_tells f n name) → IsTrue (f.tells name)
told-inside f n name apart t = told n f name (other-is name n.trace apart) t

pub told-outside : (f : FolderState) (n : Swallowed) (name : List ℕ) → name ≢ n.got_o → name ≢ n.got_a → name ≢ n.trace
    → IsTrue (f.tells name) → IsTrue (audit_tells f n name)
told-outside f n name o a t told = rw (other-is name n.trace t, other-is name n.got_o o, other-is name n.got_a a) told

pub octets-inside : (f : FolderState) (n : Swallowed) (text : List ℕ) (r : ℕ) (name : List ℕ) → name ≢ n.trace
    → octets_at (audit_state f n text r) name ≡ octets_at f name
octets-inside f n text r name apart = ap (λ o. unwrap_or o []) (get-insert_other f.held n.trace text name apart)

-- and the trace's is told, and holds the text
pub trace-told : (f : FolderState) (n : Swallowed) → IsTrue (audit_tells f n n.trace)
trace-told f n = let e : bytes_eq n.trace n.trace ≡ true = (bytes_eq-Decides n.trace n.trace).1 refl in rw e refl

pub trace-held : (f : FolderState) (n : Swallowed) (text : List ℕ) (r : ℕ) → held_at (audit_state f n text r) n.trace ≡ Some text
trace-held f n text r = get-insert_same f.held n.trace text
