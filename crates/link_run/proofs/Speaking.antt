-- What an end keeps as it speaks.
use Rattle.link_run.proofs.Names.{◌⊎◌, ◌≡◌, ℕ, Bool, true, ◌&&◌, List, arith, ◌≤◌, refl, Some, Ok, Err, after_asked, Role, Originator}
use Rattle.link_run.proofs.Names.{Frame, Terms, Incoming, LinkFault, Account, trying, Said, speak, is_originator, Tries, Ways, by-ways}
use Rattle.link_run.proofs.Names.{linked-alike, next-keeps, tries-alike, why-broken, WantsAnswers, Phase, Connected, Releasing}
use Rattle.link_run.proofs.Keeping.{Books, books, stage, standing}

-- what speaking doesn't change
pub record Ledger : Type 0 where
  pub books : Books
  pub size : ℕ
  pub taken : List (List ℕ)
  pub theirs : List ℕ
  pub terms : Terms
  pub phase : Phase

abbrev pub ledger : Account → Ledger
ledger a = record {
  books = books a;
  size = a.outgoing.size;
  taken = a.incoming.taken;
  theirs = a.their_breaks.lengths;
  terms = a.terms;
  phase = a.phase;
}

abbrev pub Keeps : Account → Said → Type 0
Keeps a said = ledger said.account ≡ ledger a

out-ledger : (a : Account) (ps : List (List ℕ)) (e : Bool) (s : ℕ) → ps ≡ a.outgoing.pieces → e ≡ a.outgoing.ended → s ≡ a.outgoing.size
    → record {
      books = record {
        setup = a.setup;
        pieces = ps;
        ended = e;
        given = a.incoming.given;
        told = a.breaks_told;
        lengths = a.own_breaks.lengths;
      };
      size = s;
      taken = a.incoming.taken;
      theirs = a.their_breaks.lengths;
      terms = a.terms;
      phase = a.phase;
    } ≡ ledger a
out-ledger a ps e s p q r = rw (p, q, r) refl

asked-in : (n : ℕ) (i : Incoming) → ((after_asked n i).given ≡ i.given) × ((after_asked n i).taken ≡ i.taken)
asked-in n i = grind (arith)

in-ledger : (a : Account) (g : ℕ) (t : List (List ℕ)) → g ≡ a.incoming.given → t ≡ a.incoming.taken
    → record {
      books = record {
        setup = a.setup;
        pieces = a.outgoing.pieces;
        ended = a.outgoing.ended;
        given = g;
        told = a.breaks_told;
        lengths = a.own_breaks.lengths;
      };
      size = a.outgoing.size;
      taken = t;
      theirs = a.their_breaks.lengths;
      terms = a.terms;
      phase = a.phase;
    } ≡ ledger a
in-ledger a g t p q = rw (p, q) refl

-- what an end is that has spoken: it is told to release, or nothing changes
pub data Speaks (release : Bool) (a b : Account) : Type 0 where
  Keeps_on : ledger b ≡ ledger a → Speaks release a b
  Releases : release ≡ true → a.setup.role ≡ Originator → a.phase ≡ Connected → ledger b ≡ record (ledger a) { phase = Releasing }
      → standing b ≡ standing a → Speaks release a b

module _ (turn : ℕ) (release : Bool) (a : Account) where
  abbrev P : Said → Type 0
  P said = Speaks release a said.account

  asked : (n : ℕ) → ledger (record a { incoming = after_asked n a.incoming }) ≡ ledger a
  asked n = let h = asked-in n a.incoming in in-ledger a (after_asked n a.incoming).given (after_asked n a.incoming).taken h.0 h.1

  tries : (frame : Frame) → Tries P turn frame a
  tries frame = tries-alike P turn frame a (λ w. Keeps_on refl) (Keeps_on refl)

  released-now : (role : Role) → a.setup.role ≡ role → (b : Bool) → release ≡ b → (b && is_originator role) ≡ true
      → (release ≡ true) × (a.setup.role ≡ Originator)
  released-now x e y f g = grind (arith)

  ways : Ways P turn release a
  ways = record {
    answers = λ alone d e. Keeps_on refl;
    flags = λ alone e. Keeps_on refl;
    mark = λ p r e. Keeps_on refl;
    odp = λ p r e. Keeps_on refl;
    xid = λ p r. tries _;
    sabme = λ p. tries _;
    linked = λ p r. linked-alike P turn a (λ count awaited w own. record {
      answers = λ d e. Keeps_on refl;
      final = λ n e. Keeps_on refl;
      poll = λ n r e. Keeps_on refl;
      segment = λ b u n e. let h = next-keeps (record a.outgoing { count = count; awaited = awaited }) in
          Keeps_on (out-ledger a _ _ _ h.pieces h.ended h.size);
      brkack = λ b s word e. Keeps_on refl;
      brk = λ b s k word e. Keeps_on refl;
      tell = λ b x e. Keeps_on refl;
      rej = λ b x n e. Keeps_on (asked n);
      srej = λ b x s n e. Keeps_on (asked n);
      flags = λ i. Keeps_on refl;
    });
    releases = λ p r. let k = released-now a.setup.role refl release refl r in
        tries-alike P turn _ (trying Releasing turn a) (λ w. Releases k.0 k.1 p refl refl) (Releases k.0 k.1 p refl refl);
    disc = λ p. tries _;
  }

pub speaks : (turn : ℕ) (release : Bool) (a : Account) (said : Said) → speak turn release a ≡ Ok said → Speaks release a said.account
speaks turn release a said e = by-ways _ turn release a (ways turn release a) said e

pub speaks-phase : (turn : ℕ) (release : Bool) (a : Account) (said : Said) → speak turn release a ≡ Ok said
    → (said.account.phase ≡ a.phase) ⊎ ((a.phase ≡ Connected) × (said.account.phase ≡ Releasing))
speaks-phase turn release a said e = go (speaks turn release a said e)
  where
    go : Speaks release a said.account → (said.account.phase ≡ a.phase) ⊎ ((a.phase ≡ Connected) × (said.account.phase ≡ Releasing))
    go x = grind (arith)

pub speaks-pieces : (turn : ℕ) (release : Bool) (a : Account) (said : Said) → speak turn release a ≡ Ok said
    → (said.account.outgoing.pieces ≡ a.outgoing.pieces) × (said.account.outgoing.size ≡ a.outgoing.size)
speaks-pieces turn release a said e = go (speaks turn release a said e)
  where
    go : Speaks release a said.account → (said.account.outgoing.pieces ≡ a.outgoing.pieces) × (said.account.outgoing.size ≡ a.outgoing.size)
    go x = grind (arith)

-- what stands in Releasing and Closed
pub stands-spoken : (turn : ℕ) (release : Bool) (a : Account) (said : Said) → 2 ≤ stage a.phase → speak turn release a ≡ Ok said
    → standing said.account ≡ standing a
stands-spoken turn release a said h e = grind (arith, by-ways)

pub breaks-for-want : (turn : ℕ) (release : Bool) (a : Account) (fault : LinkFault) → speak turn release a ≡ Err fault
    → WantsAnswers (Some fault)
breaks-for-want turn release a fault e = grind (arith, why-broken)
