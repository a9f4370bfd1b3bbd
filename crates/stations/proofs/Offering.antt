-- Segments that are read and offered, one after another.
use Rattle.stations.proofs.Names.{◌≡◌, ◌⊎◌, inl, inr, ℕ, ◌+◌, ◌-◌, ◌*◌, ◌≤◌, ◌<◌, IsTrue, List, [], ◌++◌, length, take, drop, arith}
use Rattle.stations.proofs.Names.{length-append, refl, sym, ◌∙◌, ap, subst, Some, None, Err, take-append_seam, cases_lt, take_all}
use Rattle.stations.proofs.Names.{length-take, length-take-le, length-drop, IsErrOf, StandsFor, Outgoing, Account, wants, piece_at}
use Rattle.stations.proofs.Names.{offered_at, offered, SameSoFar, FolderState, FolderFault, Stands, file_at, Supplies, Supplying, Station}
use Rattle.std.proofs.lemmas.List.{append_assoc, take-take, drop-take}
use Rattle.std.specs.Prelude.{min, Result, Ok}
use Rattle.std.proofs.Math.Seq.{take-length}
use Rattle.link_account.specs.Account.{piece_size, after_offer}
use Rattle.link_run.specs.Reading.{with_segment, OffersWhatIsRead, SegmentsAreTold, OwnSegmentsStay}
use Rattle.link_run.specs.Laws.{OffersUntilNoneIsWanted}

-- as many octets as there are
take-min : (count room : ℕ) (rest : List ℕ) → count ≤ room → count ≤ length rest → (count ≡ room) ⊎ (count ≡ length rest)
    → take count rest ≡ take room rest
take-min count room rest up few (inl e) = ap (λ n. take n rest) e
take-min count room rest up few (inr e) = ap (λ n. take n rest) e ∙ take-length rest ∙ sym (take_all room rest (omega (arith, up, e)))

-- a segment of a file that ends at its limit
within-limit : (size at limit room : ℕ) (octets : List ℕ) → at ≤ limit → room ≤ size → room ≤ limit - at
    → (room ≡ size) ⊎ (room ≡ limit - at) → take size (drop at (take limit octets)) ≡ take room (drop at octets)
within-limit size at limit room octets low small few way = ap (take size) cut ∙ go way
  where
    rest : List ℕ
    rest = drop at octets

    cut : drop at (take limit octets) ≡ take (limit - at) rest
    cut = let e : limit ≡ at + (limit - at) = omega (arith, low) in ap (λ n. drop at (take n octets)) e ∙ drop-take at (limit - at) octets

    go : (room ≡ size) ⊎ (room ≡ limit - at) → take size (take (limit - at) rest) ≡ take room rest
    go (inl e) = take-take size (limit - at) rest (omega (arith, few, e)) ∙ ap (λ n. take n rest) (sym e)
    go (inr e) = take_all size (take (limit - at) rest) (omega (arith, length-take (limit - at) rest, small, e))
        ∙ ap (λ n. take n rest) (sym e)

pub read-segment : (octets before after behind : List ℕ) (size number at limit room count : ℕ) → at ≡ size * number → at ≤ limit
    → room ≤ size → room ≤ limit - at → (room ≡ size) ⊎ (room ≡ limit - at)
    → length before ≡ room → count ≡ min (length before) (length (drop at octets))
    → after ≡ take count (drop at octets) ++ drop count before → take count (after ++ behind) ≡ piece_at size (take limit octets) number
read-segment octets before after behind size number at limit room count e low small few way wide is put =
    ap (λ l. take count (l ++ behind)) put ∙ front ∙ take-min count room rest up reach (by-min (cases_lt room (length rest)))
    ∙ sym (within-limit size at limit room octets low small few way) ∙ ap (λ n. take size (drop n (take limit octets))) e
  where
    rest : List ℕ
    rest = drop at octets

    up : count ≤ room
    up = omega (arith, is, wide)

    reach : count ≤ length rest
    reach = omega (arith, is)

    by-min : (room < length rest) ⊎ (length rest ≤ room) → (count ≡ room) ⊎ (count ≡ length rest)
    by-min given = grind (arith)

    front : take count ((take count rest ++ drop count before) ++ behind) ≡ take count rest
    front =
        let k = length-take-le count rest reach in
        ap (take count) (append_assoc (take count rest) (drop count before) behind)
        ∙ subst (λ m. take m (take count rest ++ (drop count before ++ behind)) ≡ take count rest) k
        (take-append_seam (take count rest) (drop count before ++ behind))

-- ---- the loop

pub supplying-starts : (f : FolderState) (name : List ℕ) (limit : ℕ) (file : List ℕ) (a : Account) (s : Station) → Stands s file a
    → length file ≤ limit → Supplying f name limit file a s
supplying-starts f name limit file a s h short = grind (arith)

same-file : (o : Outgoing) (file : List ℕ) → SameSoFar o file file
same-file o file = record { front = refl; whole = λ e. refl }

-- no longer than the limit
with-length : (size n limit : ℕ) (piece file : List ℕ) → length file ≤ limit → size * n ≤ length file → length piece ≤ size
    → size * n + length piece ≤ limit → length (with_segment size n piece file) ≤ limit
with-length size n limit piece file short within small room = grind (arith, length-take-le, length-append, length-drop)

pub supplying-next : (reads : OffersWhatIsRead) (tells : SegmentsAreTold) (own : OwnSegmentsStay) (until : OffersUntilNoneIsWanted)
    (f : FolderState) (name : List ℕ) (limit : ℕ) (file : List ℕ) (a : Account) (s new : Station) (n size : ℕ) (piece : List ℕ)
    → (h : Supplying f name limit file a s) → Some n ≡ wants h.now → size ≡ piece_size h.now → length piece ≤ size
    → size * n + length piece ≤ limit
    → (IsTrue (f.tells name) → piece ≡ piece_at size (file_at f name limit) n) → StandsFor new.end (after_offer piece h.now)
    → new.breaks ≡ s.breaks → Supplying f name limit file a new
supplying-next reads tells own until f name limit file a s new n size piece h w is small room told end breaks =
    let e : wants h.now ≡ Some n = sym w in
    let short : length piece ≤ piece_size h.now = subst (λ m. length piece ≤ m) is small in
    let next = reads h.others h.now n piece h.stands.offered e short in
    let others = with_segment (piece_size h.now) n piece h.others in
    record {
      others = others;
      within = with-length (piece_size h.now) n limit piece h.others h.within next.within short
          (subst (λ m. m * n + length piece ≤ limit) is room);
      told = λ t same.
          let before : h.others ≡ file = h.told t same in
          let part : piece ≡ piece_at (piece_size h.now) h.others n = told t ∙ ap (λ m. piece_at m (file_at f name limit) n) is
          ∙ ap (λ l. piece_at (piece_size h.now) l n) (sym (before ∙ same)) in
          ap (λ p. with_segment (piece_size h.now) n p h.others) part ∙ own (piece_size h.now) n h.others ∙ before;
      now = after_offer piece h.now;
      stands = record { end = end; breaks = breaks ∙ h.stands.breaks; offered = next.offered };
      same = λ more g. let t = tells h.others more h.now n piece h.stands.offered e short g in h.same more t.same;
      leads = λ more g.
          let t = tells h.others more h.now n piece h.stands.offered e short g in
          let one : offered_at more h.now (wants h.now) ≡ after_offer piece h.now = ap (offered_at more h.now) e
          ∙ ap (λ p. after_offer p h.now) t.segment in
          let u = until more h.now in
          ap (offered more) (sym one) ∙ u.next ∙ h.leads more t.same;
    }

pub supplying-ends : (until : OffersUntilNoneIsWanted) (f : FolderState) (name : List ℕ) (limit : ℕ) (file : List ℕ) (a : Account)
    (s : Station) → (h : Supplying f name limit file a s) → None ≡ wants h.now → Supplies f name limit file a s
supplying-ends until f name limit file a s h w =
    let u = until h.others h.now in
    let all : h.now ≡ offered h.others a = sym (u.none (sym w)) ∙ h.leads h.others (same-file h.now.outgoing h.others) in
    record {
      others = h.others;
      reads_on = record { within = h.within; same = h.same h.others (same-file h.now.outgoing h.others); told = h.told };
      stands = subst (Stands s h.others) all h.stands;
    }

-- what is wanted lies within the limit
pub record WantsWithin (n size limit : ℕ) : Type 0 where
  pub within : size * n ≤ limit
  pub few : n ≤ limit

pub wants-within : (reads : OffersWhatIsRead) (f : FolderState) (name : List ℕ) (limit : ℕ) (file : List ℕ) (a : Account) (s : Station)
    (n size : ℕ) → (h : Supplying f name limit file a s) → Some n ≡ wants h.now → size ≡ piece_size h.now → WantsWithin n size limit
wants-within reads f name limit file a s n size h w is =
    let next = reads h.others h.now n [] h.stands.offered (sym w) (omega arith) in
    let within : piece_size h.now * n ≤ limit = omega (arith, next.within, h.within) in
    record { within = subst (λ m. m * n ≤ limit) (sym is) within; few = at-most (piece_size h.now) n limit next.some within }
  where
    at-most : (size n limit : ℕ) → 1 ≤ size → size * n ≤ limit → n ≤ limit
    at-most size n limit some h = let more : n ≤ size * n = grind arith in omega (arith, h, more)

-- a fault says the same of any result
pub as-err : (fault x : FolderFault) → IsErrOf {T = Unit {0}} {E = FolderFault} (Err fault) x
    → IsErrOf {T = ℕ} {E = FolderFault} (Err fault) x
as-err fault x e = grind (arith)

-- a call that was made has no fault
pub no-fault : {T P : Type 0} {x : T} {fault : FolderFault} → ◌≡◌ {A = Result T FolderFault} (Ok x) (Err fault) → P
no-fault e = absurd cc
