-- What hearing and speaking make of the segments of an account: those offered, those taken, and how many are given.
use Rattle.gateway.proofs.Names.{arith, ◌≡◌, ◌∙◌, ◌⊎◌, inl, ℕ, Bool, true, false, List, [], ◌++◌, refl, sym, ap, Ok, Arrived, KeepsTaken}
use Rattle.gateway.proofs.Names.{Account, hear, Said, speak, linked-alike, tries-alike, has_begun, Phase, Detecting, Negotiating, Connected}
use Rattle.gateway.proofs.Names.{Releasing, Closed}
use Rattle.link_account.proofs.Names.{append-nil, Outgoing, Incoming, after_take, after_kind, kind_of, offset, Took}
use Rattle.link_account.proofs.Names.{trying}
use Rattle.lapm_receiver.specs.Incoming.{after_asked}
use Rattle.link_account.proofs.HearWays.{NumberKeeps, acked-keeps, acked_back-keeps, resumed-keeps}
use Rattle.link_account.proofs.SpeakWays.{next-keeps}
use Rattle.link_account.proofs.HearWays as hears
use Rattle.link_account.proofs.SpeakWays as speaks

pub record Lists : Type 0 where
  pub begun : Bool  -- it is Connected, or was
  pub pieces : List (List ℕ)
  pub taken : List (List ℕ)
  pub given : ℕ

abbrev pub lists : Account → Lists
lists a = record { begun = has_begun a.phase; pieces = a.outgoing.pieces; taken = a.incoming.taken; given = a.incoming.given }

-- segments are taken, or the end becomes Connected
abbrev GrowsTo : Account → Lists → Type 0
GrowsTo a l =
    ((more : List (List ℕ)) × (l ≡ record (lists a) { taken = a.incoming.taken ++ more }))
    ⊎ ((has_begun a.phase ≡ false) × (l ≡ record { begun = true; pieces = []; taken = []; given = 0 }))

abbrev pub Grows : Account → Account → Type 0
Grows a b = GrowsTo a (lists b)

same : (a : Account) {l : Lists} → l ≡ lists a → GrowsTo a l
same a e = inl ([], e ∙ ap (λ (l : List (List ℕ)). record (lists a) { taken = l }) (sym (append-nil a.incoming.taken)))

-- in another phase
moved : (a : Account) (p q : Phase) → a.phase ≡ q → has_begun q ≡ has_begun p → record (lists a) { begun = has_begun p } ≡ lists a
moved a p q e f = ap (λ (b : Bool). record (lists a) { begun = b }) (sym (ap has_begun e ∙ f))

-- ---- hearing

kind-given : (kind : Took) (o : ℕ) (info : List ℕ) (i : Incoming) → (after_kind kind o info i).given ≡ i.given
kind-given q0 o info i = grind (arith)

module _ (keeps : KeepsTaken) (turn : ℕ) (a : Account) where
  abbrev Hears : Arrived → Account → Type 0
  Hears x b = Grows a b

  -- a number leaves the pieces as they are
  numbered : (new : Outgoing) → NumberKeeps a.outgoing new → GrowsTo a (record (lists a) { pieces = new.pieces })
  numbered new k = same a (ap (λ (l : List (List ℕ)). record (lists a) { pieces = l }) k.pieces)

  segment : (ns : ℕ) (info : List ℕ)
      → GrowsTo a (record (lists a) { taken = (after_take ns info a.incoming).taken; given = (after_take ns info a.incoming).given })
  segment ns info = let more = keeps ns info a.incoming in inl (
    more.0,
    ap (λ (l : List (List ℕ)). record (lists a) { taken = l; given = (after_take ns info a.incoming).given }) more.1
        ∙ ap (λ (n : ℕ). record (lists a) { taken = a.incoming.taken ++ more.0; given = n })
        (kind-given (kind_of ns a.incoming) (offset a.incoming ns) info a.incoming),
  )

  connected : a.phase ≡ Connected → hears.ConnectedWays Hears turn a
  connected p = record {
    pattern = λ seen. same a refl;
    plain = λ frame f. same a refl;
    numbers = record {
      i = λ ns nr pf info n e. segment ns info;
      rr = λ command pf nr n final f e. numbered _ (resumed-keeps a.outgoing _ (acked-keeps final a.outgoing n));
      rej = λ command pf nr n final f e. numbered _ (resumed-keeps a.outgoing _ (acked_back-keeps final a.outgoing n));
      rnr = λ command pf nr n final f e. numbered _ (acked-keeps final a.outgoing n);
      srej = λ command pf nr n f e. same a refl;
    };
    sabme = λ pf n r. same a refl;
    disc = λ pf r. same a (moved a Closed Connected p refl);
    brk = λ command pf info number length_octet q. same a refl;
    brkack = λ command pf info number length_octet q. same a refl;
  }

  offered : (a.phase ≡ Detecting) ⊎ (a.phase ≡ Negotiating) → record (lists a) { begun = has_begun Negotiating } ≡ lists a
  offered given = grind (arith, moved)

  early : hears.EarlyWays Hears turn a
  early = grind (arith, same, moved, offered)

  pub grows-heard : (arrived : Arrived) (b : Account) → hear turn arrived a ≡ Ok b → Grows a b
  grows-heard arrived b e =
      hears.by-ways Hears turn a (record { nothing = same a refl; linked = connected; early = λ c. early }) arrived b e

-- ---- speaking

asked-in : (n : ℕ) (a : Account)
    → record (lists a) { taken = (after_asked n a.incoming).taken; given = (after_asked n a.incoming).given } ≡ lists a
asked-in n a = grind (arith)

module _ (turn : ℕ) (a : Account) where
  abbrev Keeps : Said → Type 0
  Keeps said = lists said.account ≡ lists a

  pub kept-spoken : (release : Bool) (said : Said) → speak turn release a ≡ Ok said → lists said.account ≡ lists a
  kept-spoken release said e = speaks.by-ways Keeps turn release a (record {
    answers = λ l d f. refl;
    flags = λ l f. refl;
    mark = λ p r f. refl;
    odp = λ p r l. refl;
    xid = λ p r. tries-alike Keeps turn _ a (λ w. refl) refl;
    sabme = λ p. tries-alike Keeps turn _ a (λ w. refl) refl;
    linked = λ p r. linked-alike Keeps turn a (λ count awaited w own. record {
      answers = λ d f. refl;
      final = λ n f. refl;
      poll = λ n q f. refl;
      segment = λ b u n f. ap (λ (l : List (List ℕ)). record (lists a) { pieces = l })
          (next-keeps (record a.outgoing { count = count; awaited = awaited })).pieces;
      brkack = λ b s word f. refl;
      brk = λ b s k word f. refl;
      tell = λ b n f. refl;
      rej = λ b n m f. asked-in m a;
      srej = λ b n s m f. asked-in m a;
      flags = λ i. refl;
    });
    releases = λ p r. let over = moved a Releasing Connected p refl in
        tries-alike Keeps turn _ (trying Releasing turn a) (λ w. over) over;
    disc = λ p. tries-alike Keeps turn _ a (λ w. refl) refl;
  }) said e
