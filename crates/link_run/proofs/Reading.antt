-- What is offered is what was read, and files count in a run as far as they were read.
use Rattle.std.proofs.Common.{◌≡◌, ℕ, zero, suc, ◌+◌, ◌*◌, ◌<◌, ◌≤◌, Bool, true, false, cond, ◌&&◌, nat_lt, List, [], ◌∷◌, ◌++◌, length}
use Rattle.std.proofs.Common.{take, drop, arith, length-append, drop-drop, refl, sym, ◌∙◌, ap, subst, Option, Some, None}
use Rattle.link_account.proofs.Names.{false≢true, nat_tests, append-nil, take-append-drop, Role, Originator, Answerer, of, IsAllowed}
use Rattle.link_account.proofs.Names.{ReadsAllowed, KeepsTaken, Outgoing, with_piece, Account, wants, piece_size, after_offer, after_given}
use Rattle.link_account.proofs.Names.{after_busy, speak}
use Rattle.link_run.proofs.Names.{Accounts, BeginsUnoffered, GoingTurn, HearingStaysOffered, IsCut, IsOffered, Link, OffersWhatIsRead}
use Rattle.link_run.proofs.Names.{OwnSegmentsStay, RunsByWhatIsReadOn, RunsByWhatWasRead, SameSoFar, SegmentsAreTold, Served}
use Rattle.link_run.proofs.Names.{SpeakingStaysOffered, SpeaksAt, User, arrival, asked, delivered, deliveries, given_break, has_finished}
use Rattle.link_run.proofs.Names.{is_busy, is_released, offered, offered_at, offered_times, piece_at, room_for, said_at, served, served_at}
use Rattle.link_run.proofs.Names.{with_files, with_segment}
use Rattle.std.proofs.lemmas.List.{take_all, take-take, drop-take, length-take, length-take-le}
use Rattle.std.proofs.Math.Seq.{take-append_seam, drop-append_seam}
use Rattle.link_run.proofs.Keeping.{GoesOn, hears}
use Rattle.link_run.proofs.Speaking.{Speaks, speaks}
use Rattle.link_run.proofs.Cutting.{fresh-cuts, heard-cuts, spoken-cuts, delivered-cuts, offered-cuts-at, wants-are, piece-size-is}
use Rattle.link_run.proofs.Cutting.{piece-sizes, next-cut, as-cut, times-next}
use Rattle.link_run.proofs.Serving.{served-alone}
use Rattle.link_run.proofs.Running.{speaks-at}
use Rattle.link_run.proofs.Ending.{HasCut, cuts-kept, kept-heard, kept-run}
use Rattle.link_run.proofs.Taking.{Unoffered, IsUnoffered, unoffered-kept, delivered-out}
use Rattle.link_run.proofs.Running as running

pub begins_unoffered : BeginsUnoffered
begins_unoffered file setup h = fresh-cuts file setup h

heard-lengths : (a b : Account) → GoesOn a b → b.own_breaks.lengths ≡ a.own_breaks.lengths
heard-lengths a b x = grind (arith)

spoken-lengths : (release : Bool) (a b : Account) → Speaks release a b → b.own_breaks.lengths ≡ a.own_breaks.lengths
spoken-lengths release a b x = grind (arith)

pub hearing_stays_offered : ReadsAllowed → KeepsTaken → HearingStaysOffered
hearing_stays_offered reads keeps file turn arrived a b h e =
    let g = hears reads keeps turn arrived a b e in
    record { offered = heard-cuts file a b h g; breaks = heard-lengths a b g }

pub speaking_stays_offered : SpeakingStaysOffered
speaking_stays_offered file turn release a said h e =
    let g = speaks turn release a said e in
    record { offered = spoken-cuts file release a said.account h g; breaks = spoken-lengths release a said.account g }

-- ---- one segment

-- the part before a segment is as it was
front-stays : (size n : ℕ) (piece file : List ℕ) → size * n ≤ length file
    → take (size * n) (with_segment size n piece file) ≡ take (size * n) file
front-stays size n piece file h =
    let k = length-take-le (size * n) file h in
    let rest = piece ++ (cond (nat_lt (length piece) size) [] (drop (size * n + size) file)) in
    subst (λ m. take m (take (size * n) file ++ rest) ≡ take (size * n) file) k (take-append_seam (take (size * n) file) rest)

behind-front : (size n : ℕ) (piece file : List ℕ) → size * n ≤ length file
    → drop (size * n) (with_segment size n piece file) ≡ piece ++ (cond (nat_lt (length piece) size) [] (drop (size * n + size) file))
behind-front size n piece file h =
    let k = length-take-le (size * n) file h in
    let rest = piece ++ (cond (nat_lt (length piece) size) [] (drop (size * n + size) file)) in
    subst (λ m. drop m (take (size * n) file ++ rest) ≡ rest) k (drop-append_seam (take (size * n) file) rest)

-- the segment stands in its place
segment-stands : (size n : ℕ) (piece file : List ℕ) → size * n ≤ length file → length piece ≤ size
    → piece_at size (with_segment size n piece file) n ≡ piece
segment-stands size n piece file h short = ap (take size) (behind-front size n piece file h) ∙ go (nat_lt (length piece) size) refl
  where
    go : (b : Bool) → nat_lt (length piece) size ≡ b → take size (piece ++ cond b [] (drop (size * n + size) file)) ≡ piece
    go true e = ap (take size) (append-nil piece) ∙ take_all size piece short
    go false e =
        let k : length piece ≡ size = grind (arith, nat_tests) in
        subst (λ m. take m (piece ++ drop (size * n + size) file) ≡ piece) k (take-append_seam piece (drop (size * n + size) file))

pub own_segments_stay : OwnSegmentsStay
own_segments_stay size n file =
    ap (λ l. take (size * n) file ++ l) (go (nat_lt (length (piece_at size file n)) size) refl) ∙ take-append-drop (size * n) file
  where
    rest : List ℕ
    rest = drop (size * n) file

    go : (b : Bool) → nat_lt (length (piece_at size file n)) size ≡ b
        → piece_at size file n ++ cond b [] (drop (size * n + size) file) ≡ rest
    go true e =
        let less : length (take size rest) < size = grind (arith, nat_tests) in
        append-nil (take size rest) ∙ take_all size rest (omega (arith, less, length-take size rest))
    go false e = ap (λ l. take size rest ++ l) (sym (drop-drop size (size * n) file)) ∙ take-append-drop size rest

-- what is wanted
wants-open : (a : Account) (n : ℕ) → wants a ≡ Some n → a.outgoing.ended ≡ false
wants-open a n e = grind (arith)

pub offers_what_is_read : OffersWhatIsRead
offers_what_is_read file a n piece h e short =
    let w = wants-are a n e in
    let o = a.outgoing in
    let size = piece_size a in
    let is : size ≡ o.size = piece-size-is a w.linked in
    let some : 1 ≤ o.size = h.size w.linked in
    let reach : o.size * length o.pieces ≤ length file = h.cut.more (wants-open a n e) in
    let within : size * n ≤ length file = rw (is, w.number) reach in
    let g = with_segment size n piece file in
    let front : take (size * n) g ≡ take (size * n) file = front-stays size n piece file within in
    let at : take (o.size * length o.pieces) g ≡ take (o.size * length o.pieces) file = subst (λ m. take m g ≡ take m file)
    (ap (λ s. s * n) is ∙ ap (λ m. o.size * m) w.number) front in
    let stands : piece_at size g n ≡ piece = segment-stands size n piece file within short in
    let is-segment : piece ≡ take o.size (drop (o.size * length o.pieces) g) = sym (subst (λ s. take s (drop (s * n) g) ≡ piece) is stands)
    ∙ ap (λ m. take o.size (drop (o.size * m) g)) w.number in
    let cut : IsCut g o.size o.pieces o.ended = record {
      begins = h.cut.begins ∙ sym at;
      whole = λ z. absurd (false≢true (sym (wants-open a n e) ∙ z));
      more = λ z. omega (arith, reach, ap length at, length-take (o.size * length o.pieces) g, length-take (o.size * length o.pieces) file);
    } in
    record {
      some = subst (λ s. 1 ≤ s) (sym is) some;
      number = w.number;
      within = within;
      same = record { front = at; whole = λ z. absurd (false≢true (sym (wants-open a n e) ∙ z)) };
      offered = record {
        allowed = h.allowed;
        terms = h.terms;
        size = λ z. subst (λ m. 1 ≤ m) (sym (piece-sizes piece o)) some;
        cut = as-cut g o.size (with_piece piece o).size (with_piece piece o).pieces (with_piece piece o).pieces (with_piece piece o).ended
            (with_piece piece o).ended
            (piece-sizes piece o) refl refl (next-cut g o piece some cut is-segment);
      };
    }

-- what is read of another file that is the same up to the end of a segment
told : (file others : List ℕ) (size n : ℕ) (piece : List ℕ) (o : Outgoing) → o.size ≡ size → length o.pieces ≡ n → o.ended ≡ false
    → SameSoFar (with_piece piece o) file others → (piece_at size others n ≡ piece_at size file n) × SameSoFar o file others
told file others size n [] o is count going h =
    let e = h.whole refl in (ap (λ f. piece_at size f n) e, record { front = ap (take (o.size * length o.pieces)) e; whole = λ z. e })
told file others size n (x ∷ xs) o is count going h =
    let k = size * n in
    let next : o.size * length (o.pieces ++ (x ∷ xs) ∷ []) ≡ k + size = sym
    (times-next o.size (length o.pieces) (length (o.pieces ++ (x ∷ xs) ∷ [])) (length-append o.pieces ((x ∷ xs) ∷ [])))
    ∙ ap (λ s. s * length o.pieces + s) is ∙ ap (λ m. size * m + size) count in
    let up : take (k + size) others ≡ take (k + size) file = subst (λ m. take m others ≡ take m file) next h.front in
    let before : take k others ≡ take k file = sym (take-take k (k + size) others (omega arith)) ∙ ap (take k) up
    ∙ take-take k (k + size) file (omega arith) in
    let same : take (o.size * length o.pieces) others ≡ take (o.size * length o.pieces) file = subst (λ m. take m others ≡ take m file)
    (sym (ap (λ s. s * length o.pieces) is ∙ ap (λ m. size * m) count)) before in (
      sym (drop-take k size others) ∙ ap (drop k) up ∙ drop-take k size file,
      record { front = same; whole = λ z. absurd (false≢true (sym going ∙ z)) },
    )

pub segments_are_told : SegmentsAreTold
segments_are_told file others a n piece h e short same =
    let w = wants-are a n e in
    let o = a.outgoing in
    let size = piece_size a in
    let is : size ≡ o.size = piece-size-is a w.linked in
    let next = offers_what_is_read file a n piece h e short in
    let g = with_segment size n piece file in
    let t = told g others size n piece o (sym is) (sym w.number) (wants-open a n e) same in
    record {
      segment = t.0 ∙ segment-stands size n piece file next.within short;
      same = record { front = t.1.front ∙ next.same.front; whole = λ z. absurd (false≢true (sym (wants-open a n e) ∙ z)) };
    }

-- ---- whole runs

-- what was offered later has in it what was offered before
same-earlier : (file others : List ℕ) (o p : Outgoing) → o.size ≡ p.size → length o.pieces ≤ length p.pieces
    → (o.ended ≡ true → p.ended ≡ true) → SameSoFar p file others → SameSoFar o file others
same-earlier file others o p size fewer ended h = record {
  front = shorter (o.size * length o.pieces) (p.size * length p.pieces) others file
      (grows o.size p.size (length o.pieces) (length p.pieces) size fewer) h.front;
  whole = λ z. h.whole (ended z);
}
  where
    shorter : (m n : ℕ) (xs ys : List ℕ) → m ≤ n → take n xs ≡ take n ys → take m xs ≡ take m ys
    shorter m n xs ys l e = sym (take-take m n xs l) ∙ ap (take m) e ∙ take-take m n ys l

    grows : (s t m n : ℕ) → s ≡ t → m ≤ n → s * m ≤ t * n
    grows s t m n e l = rw e (grind arith)

-- a number of offers keeps the size, and offers no less
pub record Offers (a b : Account) : Type 0 where
  pub size : a.outgoing.size ≡ b.outgoing.size
  pub fewer : length a.outgoing.pieces ≤ length b.outgoing.pieces
  pub ended : a.outgoing.ended ≡ true → b.outgoing.ended ≡ true

none-less : (a : Account) → Offers a a
none-less a = record { size = refl; fewer = omega arith; ended = λ z. z }

then-offers : (a b c : Account) → Offers a b → Offers b c → Offers a c
then-offers a b c h k = record { size = h.size ∙ k.size; fewer = omega (arith, h.fewer, k.fewer); ended = λ z. k.ended (h.ended z) }

offers-piece : (piece : List ℕ) (a : Account) → a.outgoing.ended ≡ false → Offers a (after_offer piece a)
offers-piece [] a e = record { size = refl; fewer = omega arith; ended = λ z. refl }
offers-piece (x ∷ xs) a e = record {
  size = refl;
  fewer = omega
      (arith, length-append a.outgoing.pieces ((x ∷ xs) ∷ []));
  ended = λ z. absurd (false≢true (sym e ∙ z));
}

offers-at : (file : List ℕ) (a : Account) (w : Option ℕ) → wants a ≡ w → Offers a (offered_at file a w)
offers-at file a w e = grind (arith, none-less, offers-piece, wants-open)

offers-times : (n : ℕ) (file : List ℕ) (a : Account) → Offers a (offered_times n file a)
offers-times zero file a = none-less a
offers-times (suc n) file a =
    let b = offered_at file a (wants a) in
    then-offers a b (offered_times n file b) (offers-at file a (wants a) refl) (offers-times n file b)

-- the same is offered of a file that is the same up to there
offered-same : (n : ℕ) (file others : List ℕ) (a : Account) → IsOffered file a → SameSoFar (offered_times n file a).outgoing file others
    → offered_times n others a ≡ offered_times n file a
offered-same zero file others a h s = refl
offered-same (suc n) file others a h s = go (wants a) refl (λ b. offered-same n file others b) s
  where
    go : (w : Option ℕ) → wants a ≡ w → ((b : Account) → IsOffered file b → SameSoFar (offered_times n file b).outgoing file others
        → offered_times n others b ≡ offered_times n file b)
        → SameSoFar (offered_times n file (offered_at file a w)).outgoing file others
        → offered_times n others (offered_at others a w) ≡ offered_times n file (offered_at file a w)
    go None e ih s = ih a h s
    go (Some m) e ih s =
        let w = wants-are a m e in
        let p = piece_at (piece_size a) file m in
        let b = after_offer p a in
        let more = offers-times n file b in
        let now = same-earlier file others b.outgoing (offered_times n file b).outgoing more.size more.fewer more.ended s in
        let t = told file others (piece_size a) m p a.outgoing (sym (piece-size-is a w.linked)) (sym w.number) (wants-open a m e) now in
        ap (λ q. offered_times n others (after_offer q a)) t.0 ∙ ih b (offered-cuts-at file a (Some m) e h) s

-- what serving makes of such files
pub served-same : (u : User) (file others : List ℕ) (turn : ℕ) (released : Bool) (a : Account) → IsOffered file a
    → SameSoFar (served (record u { file = file }) turn released a).account.outgoing file others
    → served (record u { file = others }) turn released a ≡ served (record u { file = file }) turn released a
served-same u file others turn released a h s =
    let x = after_given (delivered a) in
    let d = delivered-cuts file a h in
    let g : IsOffered file x = record { allowed = d.allowed; terms = d.terms; size = d.size; cut = d.cut } in
    let out : (served (record u { file = file }) turn released a).account.outgoing ≡ (offered file x).outgoing = ap
    (λ (b : Account). b.outgoing) (served-alone (record u { file = file }) turn released a) in
    let now : SameSoFar (offered file x).outgoing file others = subst (λ o. SameSoFar o file others) out s in
    ap (λ (y : Account). record {
      segments = deliveries a;
      given = given_break a;
      account = asked turn released u.breaks
          (after_busy (is_busy turn u.busy) y);
    }) (offered-same (room_for x) file others x g now)

-- speaking offers nothing
pub same-spoken : (file others : List ℕ) (release : Bool) (a b : Account) → Speaks release a b → SameSoFar b.outgoing file others
    → SameSoFar a.outgoing file others
same-spoken file others release a b x s = grind (arith, same-earlier)

-- serving offers no less
pub same-served : (u : User) (file others : List ℕ) (turn : ℕ) (released : Bool) (a : Account)
    → SameSoFar (served u turn released a).account.outgoing file others → SameSoFar a.outgoing file others
same-served u file others turn released a s =
    let x = after_given (delivered a) in
    let out : (served u turn released a).account.outgoing ≡ (offered u.file x).outgoing = ap (λ (b : Account). b.outgoing)
    (served-alone u turn released a) in
    let more = offers-times (room_for x) u.file x in
    let at-x = same-earlier file others x.outgoing (offered u.file x).outgoing more.size more.fewer more.ended
    (subst (λ o. SameSoFar o file others) out s) in
    subst (λ o. SameSoFar o file others) (delivered-out a) at-x

-- an end that becomes Connected was offered nothing before
pub same-heard : (file others : List ℕ) (a b : Account) → Unoffered a → GoesOn a b → SameSoFar b.outgoing file others
    → SameSoFar a.outgoing file others
same-heard file others a b un x s = grind (arith, same-earlier)

pub runs_by_what_was_read : ReadsAllowed → KeepsTaken → RunsByWhatWasRead
runs_by_what_was_read reads keeps link files others [] ends allowed h same = h
runs_by_what_was_read reads keeps link files others (t ∷ ts) ends allowed h same = (
  h.0,
  runs_by_what_was_read reads keeps link files others ts h.0 allowed h.1 before,
  record { mid = mid; hearing = g.hearing; going = g.going; speaking = speaks-so },
)
  where
    old : Link
    old = with_files files link

    new : Link
    new = with_files others link

    g : GoingTurn old ts h.0 t ends
    g = h.2

    mid : Accounts
    mid = g.mid

    turn : ℕ
    turn = length ts

    is-allowed : (r : Role) → IsAllowed (of r old).setup.offer
    is-allowed r = grind (arith)

    cut : (r : Role) → IsOffered (of r old).user.file (of r mid)
    cut = kept-heard reads keeps (HasCut old) old (cuts-kept old is-allowed) turn h.0 t mid
        (kept-run reads keeps (HasCut old) old (cuts-kept old is-allowed) ts h.0 h.1) g.hearing

    unoffered : (r : Role) → Unoffered (of r h.0)
    unoffered = kept-run reads keeps IsUnoffered old (unoffered-kept old) ts h.0 h.1

    at-served : (r : Role) → SameSoFar (served_at old turn mid r).account.outgoing (of r files) (of r others)
    at-served r =
        let s = g.speaking r in
        same-spoken (of r files) (of r others) (running.told old turn mid r) (served_at old turn mid r).account s.said.account
        (speaks-at old turn mid r s.said s.says)
        (subst (λ (a : Account). SameSoFar a.outgoing (of r files) (of r others)) s.after_is (same r))

    before : (r : Role) → SameSoFar (of r h.0).outgoing (of r files) (of r others)
    before r =
        let e = g.hearing r in
        same-heard (of r files) (of r others) (of r h.0) (of r mid) (unoffered r)
        (hears reads keeps turn (arrival (of r t).heard) (of r h.0) (of r mid) e.hears)
        (same-served (of r old).user (of r files) (of r others) turn (is_released mid.orig.phase) (of r mid) (at-served r))

    served-so : (r : Role) → served_at new turn mid r ≡ served_at old turn mid r
    served-so Originator = served-same link.orig.user files.orig others.orig turn (is_released mid.orig.phase) mid.orig (cut Originator)
        (at-served Originator)
    served-so Answerer = served-same link.answ.user files.answ others.answ turn (is_released mid.orig.phase) mid.answ (cut Answerer)
        (at-served Answerer)

    says-so : (r : Role) → said_at new turn mid r ≡ said_at old turn mid r
    says-so Originator =
        ap (λ (s : Served). speak turn (has_finished link.orig.user turn s.account && has_finished link.answ.user turn
        (served_at new turn mid Answerer).account) s.account) (served-so Originator)
        ∙ ap (λ (s : Served). speak turn (has_finished link.orig.user turn
        (served_at old turn mid Originator).account && has_finished link.answ.user turn s.account)
        (served_at old turn mid Originator).account) (served-so Answerer)
    says-so Answerer = ap (λ (s : Served). speak turn false s.account) (served-so Answerer)

    speaks-so : (r : Role) → SpeaksAt (said_at new turn mid r) (of r t) (of r ends)
    speaks-so r = let s = g.speaking r in record { said = s.said; says = says-so r ∙ s.says; sent_is = s.sent_is; after_is = s.after_is }

pub runs_by_what_is_read_on : ReadsAllowed → KeepsTaken → RunsByWhatIsReadOn
runs_by_what_is_read_on reads keeps link files others ts ends t mid allowed h e same =
    runs_by_what_was_read reads keeps link files others ts ends allowed h before
  where
    unoffered : (r : Role) → Unoffered (of r ends)
    unoffered = kept-run reads keeps IsUnoffered (with_files files link) (unoffered-kept (with_files files link)) ts ends h

    before : (r : Role) → SameSoFar (of r ends).outgoing (of r files) (of r others)
    before r = same-heard (of r files) (of r others) (of r ends) (of r mid) (unoffered r)
        (hears reads keeps (length ts) (arrival (of r t).heard) (of r ends) (of r mid) (e r).hears)
        (subst (λ o. SameSoFar o (of r files) (of r others)) (delivered-out (of r mid)) (same r))
