-- Segments that an end hands over, one after another.
use Rattle.stations.proofs.Names.{◌≡◌, ◌⊎◌, inl, inr, ℕ, zero, suc, ◌+◌, ◌≤◌, ◌<◌, Bool, true, false, cond, nat_lt, IsTrue, List, [], ◌∷◌}
use Rattle.stations.proofs.Names.{◌++◌, length, drop, arith, refl, sym, ◌∙◌, ap, subst, Option, Some, None, false≢true, concat-append}
use Rattle.stations.proofs.Names.{concat, is_some, StandsFor, AnyEnd, Account, is_connected, deliveries, delivered, IsOffered, GoesOn-refl}
use Rattle.stations.proofs.Names.{told_later, octets-kept, FolderState, octets_at, GoesOn, OnlyWrites, Appended, PartlyAppended, Adds}
use Rattle.stations.proofs.Names.{Stands, Station}
use Rattle.std.proofs.lemmas.List.{append-nil, append_assoc}
use Rattle.std.specs.Prelude.{slice_index_or}
use Rattle.std.proofs.lemmas.List.{drop_all}
use Rattle.std.proofs.lemmas.Option.{none-some, same_Some}
use Rattle.shared_terms.specs.Prefix.{IsPrefixOf}
use Rattle.outside_calls.specs.Folder.{held_at}
use Rattle.outside_calls.proofs.Steps.{octets-held}
use Rattle.lapm_link.specs.declared.any_end.AnyEnd.TheVariants as ends
use Rattle.lapm_link.specs.declared.negotiating.Talk.{Talk}
use Rattle.lapm_link.specs.declared.negotiating.Talk.TheVariants as talks
use Rattle.link_account.specs.Account.{delivers, after_delivery}
use Rattle.stations.proofs.Standing.{as-offered}

-- ---- what a folder holds after several pieces

pub adds-more : (a b c : FolderState) (name xs ys : List ℕ) → GoesOn a b → Adds a b name xs → Appended b c name ys
    → Appended a c name (xs ++ ys)
adds-more a b c name xs ys on given h = grind (arith, octets-kept, octets-held, append_assoc)

pub part-more : (a b c : FolderState) (name xs ys rest : List ℕ) → GoesOn a b → Adds a b name xs → PartlyAppended b c name ys
    → PartlyAppended a c name (xs ++ (ys ++ rest))
part-more a b c name xs ys rest on k h = λ told. go k (h (told_later on name told)) told
  where
    go : Adds a b name xs
        → (held_at c name ≡ held_at b name) ⊎ ((part : List ℕ) × IsPrefixOf part ys × (held_at c name ≡ Some (octets_at b name ++ part)))
        → IsTrue (a.tells name) → (held_at c name ≡ held_at a name)
        ⊎ ((part : List ℕ) × IsPrefixOf part (xs ++ (ys ++ rest)) × (held_at c name ≡ Some (octets_at a name ++ part)))
    go (inl k) (inl e) told = inl (e ∙ k.1 told)
    go (inr k) (inl e) told = inr (xs, (ys ++ rest, refl), e ∙ k told)
    go (inl k) (inr p) told = inr (
      p.0,
      (
        p.1.0 ++ rest,
        sym (append_assoc p.0 p.1.0 rest) ∙ ap (λ l. l ++ rest) p.1.1
            ∙ ap (λ l. l ++ (ys ++ rest)) (sym k.0),
      ),
      p.2 ∙ ap (λ l. Some (l ++ p.0)) (octets-kept a b name k.1 told),
    )
    go (inr k) (inr p) told = inr (
      xs ++ p.0,
      (
        p.1.0 ++ rest,
        append_assoc xs p.0 (p.1.0 ++ rest)
            ∙ ap (λ l. xs ++ l) (sym (append_assoc p.0 p.1.0 rest) ∙ ap (λ l. l ++ rest) p.1.1),
      ),
      p.2 ∙ ap (λ l. Some (l ++ p.0)) (octets-held b name (octets_at a name ++ xs) (k told))
          ∙ ap Some (append_assoc (octets_at a name) xs p.0),
    )

pub writes-on : (a b c : FolderState) (name : List ℕ) → OnlyWrites a b name → OnlyWrites b c name → OnlyWrites a c name
writes-on a b c name h k = grind (arith)

-- ---- deliveries, one by one

pub at-front : (n : ℕ) (xs : List (List ℕ)) → n < length xs → drop n xs ≡ slice_index_or xs n [] ∷ drop (suc n) xs
at-front n [] h = absurd (omega (arith, h))
at-front zero (x ∷ xs) h = refl
at-front (suc n) (x ∷ xs) h = at-front n xs (omega (arith, h))

-- one more of its segments was handed over
abbrev handed-one : Account → Account
handed-one b = record b { incoming = record b.incoming { given = b.incoming.given + 1 } }

deliveries-of : (b : Account) → is_connected b.phase ≡ true → deliveries b ≡ drop b.incoming.given b.incoming.taken
deliveries-of b k = ap (λ c. cond c (drop b.incoming.given b.incoming.taken) []) k

delivered-of : (b : Account) → is_connected b.phase ≡ true
    → delivered b ≡ record b { incoming = record b.incoming { given = length b.incoming.taken } }
delivered-of b k = ap (λ c. cond c (record b { incoming = record b.incoming { given = length b.incoming.taken } }) b) k

after-of : (b : Account) → is_connected b.phase ≡ true → nat_lt b.incoming.given (length b.incoming.taken) ≡ true
    → after_delivery b ≡ handed-one b
after-of b k l = grind (arith)

pub record Hands (b : Account) (segment : List ℕ) : Type 0 where
  pub first : deliveries b ≡ segment ∷ deliveries (after_delivery b)
  pub rest : delivered (after_delivery b) ≡ delivered b

pub hands-next : (b : Account) (segment : List ℕ) → delivers b ≡ Some segment → Hands b segment
hands-next b segment e = go (is_connected b.phase) refl (nat_lt b.incoming.given (length b.incoming.taken)) refl e
  where
    go : (c : Bool) → is_connected b.phase ≡ c → (l : Bool) → nat_lt b.incoming.given (length b.incoming.taken) ≡ l
        → cond c (cond l (Some (slice_index_or b.incoming.taken b.incoming.given [])) None) None ≡ Some segment → Hands b segment
    go true k true l z =
        let within : b.incoming.given < length b.incoming.taken = grind (arith) in
        let next : suc b.incoming.given ≡ b.incoming.given + 1 = omega arith in
        let after = after-of b k l in
        record {
          first = deliveries-of b k ∙ at-front b.incoming.given b.incoming.taken within
              ∙ ap (λ x. x ∷ drop (suc b.incoming.given) b.incoming.taken) (same_Some _ _ z)
              ∙ ap (λ n. segment ∷ drop n b.incoming.taken) next
              ∙ ap (λ l. segment ∷ l) (sym (ap deliveries after ∙ deliveries-of (handed-one b) k));
          rest = ap delivered after ∙ delivered-of (handed-one b) k ∙ sym (delivered-of b k);
        }
    go true k false l z = absurd (none-some _ z)
    go false k l m z = absurd (none-some _ z)

given-within : (end : AnyEnd) (a : Account) → StandsFor end a → is_connected a.phase ≡ true → a.incoming.given ≤ length a.incoming.taken
given-within other a h e = grind (arith)

pub record HandsNone (b : Account) : Type 0 where
  pub none : deliveries b ≡ []
  pub same : delivered b ≡ b

pub hands-none : (end : AnyEnd) (b : Account) → StandsFor end b → is_some (delivers b) ≡ false → HandsNone b
hands-none end b h e = go (is_connected b.phase) refl (nat_lt b.incoming.given (length b.incoming.taken)) refl e
  where
    go : (c : Bool) → is_connected b.phase ≡ c → (l : Bool) → nat_lt b.incoming.given (length b.incoming.taken) ≡ l
        → is_some (cond c (cond l (Some (slice_index_or b.incoming.taken b.incoming.given [])) None) None) ≡ false → HandsNone b
    go true k true l z = absurd (false≢true (sym z))
    go true k false l z =
        let most = given-within end b h k in
        let least : length b.incoming.taken ≤ b.incoming.given = grind (arith) in
        let is : length b.incoming.taken ≡ b.incoming.given = omega (arith, most, least) in
        record {
          none = rw k (drop_all b.incoming.given b.incoming.taken least);
          same = rw k (ap (λ n. record b { incoming = record b.incoming { given = n } }) is);
        }
    go false k l m z = record { none = rw k refl; same = rw k refl }

pub delivery-offered : (file : List ℕ) (b : Account) → IsOffered file b → IsOffered file (after_delivery b)
delivery-offered file b h = grind (arith, as-offered)

delivery-breaks : (b : Account) → (after_delivery b).own_breaks ≡ b.own_breaks
delivery-breaks b = grind (arith)

-- ---- the loop

-- So many segments of this account were handed over: what is left is handed over next.
pub record Handing (start now : FolderState) (name : List ℕ) (s : Station) (file : List ℕ) (a : Account) : Type 0 where
  pub after : Account
  pub stands : Stands s file after
  pub same : delivered after ≡ delivered a
  pub done : List (List ℕ)
  pub all : deliveries a ≡ done ++ deliveries after
  pub wrote : Adds start now name (concat done)

pub handing-starts : (f : FolderState) (name : List ℕ) (s : Station) (file : List ℕ) (a : Account) → Stands s file a
    → Handing f f name s file a
handing-starts f name s file a h = record { after = a; stands = h; same = refl; done = []; all = refl; wrote = inl (refl, λ told. refl) }

pub handing-next : (start now next : FolderState) (name segment : List ℕ) (s new : Station) (file : List ℕ) (a : Account) → GoesOn start now
    → (h : Handing start now name s file a)
    → delivers h.after ≡ Some segment → StandsFor new.end (after_delivery h.after) → new.breaks ≡ s.breaks → Appended now next name segment
    → Handing start next name new file a
handing-next start now next name segment s new file a on h e end breaks put =
    let k = hands-next h.after segment e in
    record {
      after = after_delivery h.after;
      stands = assumption (
        breaks ∙ h.stands.breaks ∙ sym (ap (λ o. length o.lengths) (delivery-breaks h.after)),
        delivery-offered file h.after h.stands.offered,
      );
      same = k.rest ∙ h.same;
      done = h.done ++ segment ∷ [];
      all = h.all ∙ ap (λ l. h.done ++ l) k.first ∙ sym (append_assoc h.done (segment ∷ []) (deliveries (after_delivery h.after)));
      wrote = inr (subst (Appended start next name) (sym (concat-append h.done (segment ∷ [])
          ∙ ap (λ l. concat h.done ++ l) (append-nil segment))) (adds-more start now next name (concat h.done) segment on h.wrote put));
    }

pub handing-ends : (start now : FolderState) (name : List ℕ) (s new : Station) (file : List ℕ) (a : Account)
    → (h : Handing start now name s file a) → is_some (delivers h.after) ≡ false
    → StandsFor new.end (after_delivery h.after) → new.breaks ≡ s.breaks
    → Stands new file (delivered a) × Adds start now name (concat (deliveries a))
handing-ends start now name s new file a h e end breaks = grind (arith, hands-none, delivery-offered, append-nil)

pub handing-stops : (start now next : FolderState) (name segment : List ℕ) (s : Station) (file : List ℕ) (a : Account) → GoesOn start now
    → (h : Handing start now name s file a)
    → delivers h.after ≡ Some segment → PartlyAppended now next name segment → PartlyAppended start next name (concat (deliveries a))
handing-stops start now next name segment s file a on h e put =
    let k = hands-next h.after segment e in
    subst (PartlyAppended start next name) (sym (ap concat (h.all ∙ ap (λ l. h.done ++ l) k.first)
    ∙ concat-append h.done (segment ∷ deliveries (after_delivery h.after))))
    (part-more start now next name (concat h.done) segment (concat (deliveries (after_delivery h.after))) on h.wrote put)

pub some-of : {X : Type 0} (o : Option X) → true ≡ is_some o → (x : X) × (o ≡ Some x)
some-of o e = grind (arith)

-- the segment that was handed over
pub handed-segment : (end : AnyEnd) (out : List ℕ) (b : Account) → StandsFor end b → true ≡ is_some (delivers b)
    → ((a : Account) (segment : List ℕ) → StandsFor end a → delivers a ≡ Some segment → out ≡ segment) → delivers b ≡ Some out
handed-segment end out b h e is = let s = some-of (delivers b) e in s.1 ∙ ap Some (sym (is b s.0 h s.1))

pub writes-none : (f : FolderState) (name : List ℕ) → OnlyWrites f f name
writes-none f name = record { goes_on = GoesOn-refl f; names = λ other apart told. refl; said = refl; read_faults = λ other. refl }
