-- Segments that a receiver hands over, one after another.
use Rattle.line_tap.proofs.Cited.{◌≡◌, inl, inr, ℕ, zero, suc, ◌+◌, ◌≤◌, ◌<◌, Bool, true, false, cond, List, [], ◌∷◌, ◌++◌, length, drop}
use Rattle.line_tap.proofs.Cited.{arith, refl, sym, ◌∙◌, ap, subst, Some, None, false≢true, append_assoc, concat-append, concat, is_some}
use Rattle.line_tap.proofs.Cited.{Incoming, Taking, StandsIn, FolderState, Appended, PartlyAppended}
use Rattle.std.proofs.Common.{nat_lt}
use Rattle.std.proofs.lemmas.List.{append-nil}
use Rattle.std.specs.Prelude.{slice_index_or}
use Rattle.outside_calls.specs.Folder.{GoesOn, Adds}
use Rattle.lapm_receiver.specs.Incoming.{after_delivered, next_delivered}
use Rattle.stations.proofs.Handing.{adds-more, part-more, at-front}

past-end : (n : ℕ) (xs : List (List ℕ)) → length xs ≤ n → drop n xs ≡ []
past-end zero [] h = refl
past-end zero (x ∷ xs) h = absurd (omega (arith, h))
past-end (suc n) [] h = refl
past-end (suc n) (x ∷ xs) h = past-end n xs (omega (arith, h))

-- So many of the segments are delivered, and those that were when this began are handed over.
pub record Handing (start now : FolderState) (name : List ℕ) (r : Taking) (i : Incoming) : Type 0 where
  pub given : ℕ
  pub stands : StandsIn r (record i { given = given })
  pub front : List (List ℕ)
  pub split : drop i.given i.taken ≡ front ++ drop given i.taken
  pub put : Adds start now name (concat front)

pub handing-starts : (start : FolderState) (name : List ℕ) (r : Taking) (i : Incoming) → StandsIn r i → Handing start start name r i
handing-starts start name r i h = record { given = i.given; stands = h; front = []; split = refl; put = inl (refl, λ told. refl) }

-- what is handed over next, and what is left then
pub record Next (r : Taking) (i : Incoming) (given : ℕ) (segment : List ℕ) : Type 0 where
  pub first : drop given i.taken ≡ segment ∷ drop (given + 1) i.taken
  pub within : given < length i.taken

-- the receiver had one: it is the segment that it copied
pub next-is : (r : Taking) (i : Incoming) (given : ℕ) (segment : List ℕ) → true ≡ is_some (next_delivered (record i { given = given }))
    → ((s : List ℕ) → next_delivered (record i { given = given }) ≡ Some s → segment ≡ s) → Next r i given segment
next-is r i given segment some copies = go (nat_lt given (length i.taken)) refl
  where
    go : (b : Bool) → nat_lt given (length i.taken) ≡ b → Next r i given segment
    go false e = absurd (false≢true (sym (some ∙ ap (λ b. is_some (cond b (Some (slice_index_or i.taken given [])) None)) e)))
    go true e =
        let within : given < length i.taken = grind (arith) in
        let same : segment ≡ slice_index_or i.taken given [] =
        copies (slice_index_or i.taken given []) (ap (λ b. cond b (Some (slice_index_or i.taken given [])) None) e) in
        let next : suc given ≡ given + 1 = omega arith in
        record {
          first = at-front given i.taken within ∙ ap (λ n. slice_index_or i.taken given [] ∷ drop n i.taken) next
              ∙ ap (λ s. s ∷ drop (given + 1) i.taken) (sym same);
          within = within;
        }

pub after-one : (i : Incoming) (given : ℕ) → given < length i.taken
    → after_delivered (record i { given = given }) ≡ record i { given = given + 1 }
after-one i given within = grind (arith)

pub handing-next : (start now next : FolderState) (name segment : List ℕ) (r new : Taking) (i : Incoming) → GoesOn start now
    → (h : Handing start now name r i) → Next r i h.given segment → StandsIn new (after_delivered (record i { given = h.given }))
    → Appended now next name segment → Handing start next name new i
handing-next start now next name segment r new i on h n stands put = record {
  given = h.given + 1;
  stands = subst (StandsIn new) (after-one i h.given n.within) stands;
  front = h.front ++ segment ∷ [];
  split = h.split ∙ ap (λ l. h.front ++ l) n.first ∙ sym (append_assoc h.front (segment ∷ []) (drop (h.given + 1) i.taken));
  put = inr (subst (Appended start next name)
      (ap (λ l. concat h.front ++ l) (sym (append-nil segment)) ∙ sym (concat-append h.front (segment ∷ [])))
      (adds-more start now next name (concat h.front) segment on h.put put));
}

-- the receiver had none: all is handed over
pub handing-ends : (start now : FolderState) (name : List ℕ) (r : Taking) (i : Incoming) → (h : Handing start now name r i)
    → false ≡ is_some (next_delivered (record i { given = h.given }))
    → StandsIn r (record i { given = length i.taken }) × Adds start now name (concat (drop i.given i.taken))
handing-ends start now name r i h none = go (nat_lt h.given (length i.taken)) refl
  where
    go : (b : Bool) → nat_lt h.given (length i.taken) ≡ b
        → StandsIn r (record i { given = length i.taken }) × Adds start now name (concat (drop i.given i.taken))
    go true e = absurd (false≢true (none ∙ ap (λ b. is_some (cond b (Some (slice_index_or i.taken h.given [])) None)) e))
    go false e =
        let past : length i.taken ≤ h.given = grind (arith) in
        let same : h.given ≡ length i.taken = omega (arith, past, h.stands.given_within) in
        let all : drop i.given i.taken ≡ h.front =
        h.split ∙ ap (λ l. h.front ++ l) (past-end h.given i.taken past) ∙ append-nil h.front in (
          subst (λ n. StandsIn r (record i { given = n })) same h.stands,
          subst (λ l. Adds start now name (concat l)) (sym all) h.put,
        )

-- the folder took a part of the next one
pub handing-stops : (start now next : FolderState) (name segment : List ℕ) (r : Taking) (i : Incoming) → GoesOn start now
    → (h : Handing start now name r i) → Next r i h.given segment → PartlyAppended now next name segment
    → PartlyAppended start next name (concat (drop i.given i.taken))
handing-stops start now next name segment r i on h n part =
    let all : concat h.front ++ (segment ++ concat (drop (h.given + 1) i.taken)) ≡ concat (drop i.given i.taken) =
    sym (concat-append h.front (segment ∷ drop (h.given + 1) i.taken)) ∙ ap concat (ap (λ l. h.front ++ l) (sym n.first) ∙ sym h.split) in
    subst (PartlyAppended start next name) all
    (part-more start now next name (concat h.front) segment (concat (drop (h.given + 1) i.taken)) on h.put part)

-- one less is ready
pub fewer-ready : (old new : Taking) → new ≡ record old { ready = drop 1 old.ready } → true ≡ nat_lt 0 (length old.ready)
    → length new.ready < length old.ready
fewer-ready old new value some = grind (arith)
