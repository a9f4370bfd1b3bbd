-- What an end keeps of its books as it hears and speaks.
use Rattle.link_run.proofs.Names.{◌≡◌, ◌≢◌, ◌⊎◌, inl, inr, ℕ, ◌≤◌, Bool, false, List, [], ◌∷◌, ◌++◌, length, arith, refl, sym, ◌∙◌, ap}
use Rattle.link_run.proofs.Names.{subst, Option, Some, None, Ok, TheirBreaks, after_break, gives, with_given, NumberKeeps, acked-keeps}
use Rattle.link_run.proofs.Names.{acked_back-keeps, numbered_with, paused-keeps, resumed-keeps, false≢true, append-nil, is_connected, Role}
use Rattle.link_run.proofs.Names.{Originator, Answerer, Terms, agree, IsAllowed, ReadsAllowed, Outgoing, Incoming, after_take, after_kind}
use Rattle.link_run.proofs.Names.{kind_of, offset, KeepsTaken, Took, Arrived, Account, hear, on_nothing, trying, is_originator, size_for}
use Rattle.link_run.proofs.Names.{window_for, connected, has_begun, Phase, Closed, Connected, Negotiating, Releasing, Setup}
use Rattle.link_account.proofs.Names.{Offer}
use Rattle.link_account.proofs.Names.{OwnBreaks, after_answer, owing}
use Rattle.xid_params.specs.Terms.{default_offer}
use Rattle.link_account.proofs.HearWays.{Ways, by-ways}
use Rattle.lapm_sender.specs.Outgoing as outgoing
use Rattle.lapm_receiver.specs.Incoming as incoming
use Rattle.link_account.specs.declared.answer.Answer.TheVariants as answers

-- what neither hearing nor speaking changes
pub record Books : Type 0 where
  pub setup : Setup
  pub pieces : List (List ℕ)
  pub ended : Bool
  pub given : ℕ
  pub told : ℕ
  pub lengths : List ℕ

abbrev pub books : Account → Books
books a = record {
  setup = a.setup;
  pieces = a.outgoing.pieces;
  ended = a.outgoing.ended;
  given = a.incoming.given;
  told = a.breaks_told;
  lengths = a.own_breaks.lengths;
}

-- before it is Connected, then, releasing, closed
abbrev pub stage : Phase → ℕ
stage Connected = 1
stage Releasing = 2
stage Closed = 3
stage p = 0

pub stage-high : (p : Phase) → stage p ≤ 3
stage-high p = grind (arith)

pub linked-phase : (p : Phase) → stage p ≡ 1 → p ≡ Connected
linked-phase p e = grind (arith)

pub not-begun : (p : Phase) → stage p ≡ 0 → has_begun p ≡ false
not-begun p e = grind (arith)

pub unlinked-stage : (p : Phase) → is_connected p ≡ false → stage p ≢ 1
unlinked-stage p e = grind (arith)

abbrev pub AreTerms : Terms → Type 0
AreTerms t = (1 ≤ t.len_o) × (1 ≤ t.len_a)

-- an end that stays before or behind the same agreement
pub record Stays (a b : Account) : Type 0 where
  pub books_are : books b ≡ books a
  pub size : b.outgoing.size ≡ a.outgoing.size
  pub high : b.outgoing.high ≡ a.outgoing.high
  pub taken : List (List ℕ)
  pub taken_are : b.incoming.taken ≡ a.incoming.taken ++ taken
  pub theirs : List ℕ
  pub theirs_are : b.their_breaks.lengths ≡ a.their_breaks.lengths ++ theirs
  pub few : length theirs ≤ 1
  pub before : stage a.phase ≡ 0 → stage b.phase ≡ 0
  pub later : stage a.phase ≤ stage b.phase
  pub unreleased : stage b.phase ≡ 2 → stage a.phase ≡ 2
  pub hangs_up : stage b.phase ≡ 3 → a.setup.role ≡ Originator → 2 ≤ stage a.phase
  pub idle : stage b.phase ≢ 1 → (taken ≡ []) × (theirs ≡ [])
  pub terms : IsAllowed a.setup.offer → AreTerms a.terms → AreTerms b.terms

-- an end that becomes Connected
pub record Enters (a b : Account) : Type 0 where
  pub was : stage a.phase ≡ 0
  pub is : b.phase ≡ Connected
  pub setup : b.setup ≡ a.setup
  pub window : ℕ
  pub tries : ℕ
  pub polled : Bool
  pub outgoing_is : b.outgoing ≡ outgoing.begun window (size_for b.setup.role b.terms) tries polled
  pub back : ℕ
  pub srej : Bool
  pub incoming_is : b.incoming ≡ incoming.begun back srej
  pub own : b.own_breaks ≡ a.own_breaks
  pub their : b.their_breaks ≡ a.their_breaks
  pub told : b.breaks_told ≡ a.breaks_told
  pub terms : IsAllowed a.setup.offer → AreTerms a.terms → AreTerms b.terms

abbrev pub GoesOn : Account → Account → Type 0
GoesOn a b = Stays a b ⊎ Enters a b

-- nothing that counts changes
same : (a b : Account) → books b ≡ books a → (b.outgoing.size ≡ a.outgoing.size) × (b.outgoing.high ≡ a.outgoing.high)
    → b.incoming.taken ≡ a.incoming.taken → b.their_breaks.lengths ≡ a.their_breaks.lengths → stage b.phase ≡ stage a.phase
    → (IsAllowed a.setup.offer → AreTerms a.terms → AreTerms b.terms) → GoesOn a b
same a b books_are sent taken theirs phase terms = inl (record {
  books_are = books_are;
  size = sent.0;
  high = sent.1;
  taken = [];
  taken_are = taken ∙ sym (append-nil a.incoming.taken);
  theirs = [];
  theirs_are = theirs ∙ sym (append-nil a.their_breaks.lengths);
  few = omega arith;
  before = λ e. phase ∙ e;
  later = omega (arith, phase);
  unreleased = λ e. sym phase ∙ e;
  hangs_up = λ e o. omega (arith, e, phase);
  idle = λ h. (refl, refl);
  terms = terms;
})

-- the end is closed
closes : (a b : Account) → books b ≡ books a → (b.outgoing.size ≡ a.outgoing.size) × (b.outgoing.high ≡ a.outgoing.high)
    → b.incoming.taken ≡ a.incoming.taken → b.their_breaks.lengths ≡ a.their_breaks.lengths → 1 ≤ stage a.phase → stage b.phase ≡ 3
    → b.terms ≡ a.terms → (a.setup.role ≡ Originator → 2 ≤ stage a.phase) → GoesOn a b
closes a b books_are sent taken theirs from to terms hangs = inl (record {
  books_are = books_are;
  size = sent.0;
  high = sent.1;
  taken = [];
  taken_are = taken ∙ sym (append-nil a.incoming.taken);
  theirs = [];
  theirs_are = theirs ∙ sym (append-nil a.their_breaks.lengths);
  few = omega arith;
  before = λ e. omega (arith, e, from, to);
  later = omega (arith, to, from, stage-high a.phase);
  unreleased = λ e. omega (arith, e, to);
  hangs_up = λ e. hangs;
  idle = λ h. (refl, refl);
  terms = λ o t. subst AreTerms (sym terms) t;
})

-- terms that are agreed
agreed : (o a : Offer) → IsAllowed o → IsAllowed a → AreTerms (agree o a)
agreed o a h k = (omega (arith, h.tx_len_low, k.rx_len_low), omega (arith, k.tx_len_low, h.rx_len_low))

allowed-default : IsAllowed default_offer
allowed-default = grind (arith)

enters : (turn : ℕ) (a b : Account) → stage a.phase ≡ 0 → b.setup ≡ a.setup → b.own_breaks ≡ a.own_breaks → b.their_breaks ≡ a.their_breaks
    → b.breaks_told ≡ a.breaks_told → (IsAllowed a.setup.offer → AreTerms a.terms → AreTerms b.terms) → (f : Account → Account)
    → f (connected turn b) ≡ record (connected turn b) { owes = (f (connected turn b)).owes } → GoesOn a (f (connected turn b))
enters turn a b was setup own their told terms f e = subst (λ (c : Account). GoesOn a c) (sym e) (inr (record {
  was = was;
  is = refl;
  setup = setup;
  window = window_for b.setup.role b.terms;
  tries = b.setup.tries;
  polled = is_originator b.setup.role;
  outgoing_is = refl;
  back = (connected turn b).incoming.window;
  srej = b.terms.srej;
  incoming_is = refl;
  own = own;
  their = their;
  told = told;
  terms = terms;
}))

kept : (a : Account) → GoesOn a a
kept a = same a a refl (refl, refl) refl refl refl (λ o t. t)

out-books : (a : Account) (ps : List (List ℕ)) (e : Bool) → ps ≡ a.outgoing.pieces → e ≡ a.outgoing.ended
    → record {
      setup = a.setup;
      pieces = ps;
      ended = e;
      given = a.incoming.given;
      told = a.breaks_told;
      lengths = a.own_breaks.lengths;
    } ≡ books a
out-books a ps e p q = rw (p, q) refl

-- a number is heard
numbered : (a : Account) (new : Outgoing) (timer : Option ℕ) (reply urgent : Bool) → NumberKeeps a.outgoing new
    → GoesOn a (numbered_with a new a.incoming timer reply urgent)
numbered a new timer reply urgent k = grind (arith, same, out-books)

kind-given : (kind : Took) (o : ℕ) (info : List ℕ) (i : Incoming) → (after_kind kind o info i).given ≡ i.given
kind-given p o info i = grind (arith)

take-books : (a : Account) (ps : List (List ℕ)) (e : Bool) (g : ℕ) → ps ≡ a.outgoing.pieces → e ≡ a.outgoing.ended → g ≡ a.incoming.given
    → record { setup = a.setup; pieces = ps; ended = e; given = g; told = a.breaks_told; lengths = a.own_breaks.lengths } ≡ books a
take-books a ps e g p q r = rw (p, q, r) refl

segment : (keeps : KeepsTaken) (ns : ℕ) (info : List ℕ) (a : Account) (new : Outgoing) (timer : Option ℕ) (reply urgent : Bool)
    → a.phase ≡ Connected → NumberKeeps a.outgoing new → GoesOn a (numbered_with a new (after_take ns info a.incoming) timer reply urgent)
segment keeps ns info a new timer reply urgent e k =
    let more = keeps ns info a.incoming in
    inl (record {
      books_are = take-books a new.pieces new.ended (after_take ns info a.incoming).given k.pieces k.ended
          (kind-given (kind_of ns a.incoming) (offset a.incoming ns) info a.incoming);
      size = k.size;
      high = k.high;
      taken = more.0;
      taken_are = more.1;
      theirs = [];
      theirs_are = sym (append-nil a.their_breaks.lengths);
      few = omega arith;
      before = λ z. z;
      later = omega arith;
      unreleased = λ z. z;
      hangs_up = λ z o. omega (arith, z, ap stage e);
      idle = λ z. absurd (z (ap stage e));
      terms = λ o t. t;
    })

pub answer-lengths : (turn number : ℕ) (b : OwnBreaks) → (after_answer turn number b).lengths ≡ b.lengths
answer-lengths turn number b = grind (arith)

given-more : (o : Option ℕ) (lengths : List ℕ) → (more : List ℕ) × (with_given o lengths ≡ lengths ++ more) × (length more ≤ 1)
given-more None lengths = ([], sym (append-nil lengths), omega arith)
given-more (Some n) lengths = (n ∷ [], refl, omega arith)

their-word : (number length_octet : ℕ) (a : Account) → a.phase ≡ Connected
    → GoesOn a (record a { their_breaks = after_break number length_octet a.their_breaks })
their-word number length_octet a e =
    let more = given-more (gives number length_octet a.their_breaks) a.their_breaks.lengths in
    inl (record {
      books_are = refl;
      size = refl;
      high = refl;
      taken = [];
      taken_are = sym (append-nil a.incoming.taken);
      theirs = more.0;
      theirs_are = more.1;
      few = more.2;
      before = λ z. z;
      later = omega arith;
      unreleased = λ z. z;
      hangs_up = λ z o. omega (arith, z, ap stage e);
      idle = λ z. absurd (z (ap stage e));
      terms = λ o t. t;
    })

own-word : (turn number : ℕ) (a : Account) → GoesOn a (record a { own_breaks = after_answer turn number a.own_breaks })
own-word turn number a = grind (arith, same, answer-lengths)

answers-not : {r : Role} → r ≡ Answerer → r ≡ Originator → ⊥
answers-not a o = false≢true (ap is_originator (sym a ∙ o))

ways : (reads : ReadsAllowed) (keeps : KeepsTaken) (turn : ℕ) (a : Account) → Ways (λ x b. GoesOn a b) turn a
ways reads keeps turn a = record {
  nothing = same a (on_nothing a) refl (refl, refl) refl refl refl (λ o t. t);
  linked = λ e. record {
    pattern = λ seen. kept a;
    plain = λ frame p. kept a;
    numbers = record {
      i = λ ns nr pf info n m. segment keeps ns info a _ _ _ _ e (acked-keeps false a.outgoing n);
      rr = λ command pf nr n final f m. numbered a _ _ _ _ (resumed-keeps a.outgoing _ (acked-keeps final a.outgoing n));
      rej = λ command pf nr n final f m. numbered a _ _ _ _ (resumed-keeps a.outgoing _ (acked_back-keeps final a.outgoing n));
      rnr = λ command pf nr n final f m. numbered a _ _ _ _ (paused-keeps final a.outgoing n);
      srej = λ command pf nr n f m.
          numbered a _ _ _ _ (record { window = refl; size = refl; tries = refl; pieces = refl; ended = refl; high = refl });
    };
    sabme = λ pf n r. same a (owing (answers.Ua pf) a) refl (refl, refl) refl refl refl (λ o t. t);
    disc = λ pf r. closes a (owing (answers.Ua pf) (record a { phase = Closed })) refl (refl, refl) refl refl
        (omega (arith, ap stage e)) refl
        refl (λ o. absurd (answers-not r o));
    brk = λ command pf info number length_octet q. their-word number length_octet a e;
    brkack = λ command pf info number length_octet q. own-word turn number a;
  };
  early = λ c. record {
    ignores = λ x f. kept a;
    detects = λ p r. same a (trying Negotiating turn a) refl (refl, refl) refl refl (sym (ap stage p)) (λ o t. t);
    detected = λ p r. same a (owing answers.Adp a) refl (refl, refl) refl refl refl (λ o t. t);
    xid = λ p r pf info offer f. same a _ refl (refl, refl) refl refl
        (sym (elim p [ inl q ↦ ap stage q | inr q ↦ ap stage q ])) (λ o t. agreed offer a.setup.offer (reads info offer f) o);
    agrees = λ p r pf info offer f.
        same a _ refl (refl, refl) refl refl (sym (ap stage p)) (λ o t. agreed a.setup.offer offer o (reads info offer f));
    sabme_first = λ p r pf. enters turn a (record a { terms = agree default_offer a.setup.offer }) (ap stage p) refl refl refl refl
        (λ o t. agreed default_offer a.setup.offer allowed-default o) (owing (answers.Ua pf)) refl;
    sabme = λ p r pf. enters turn a a (ap stage p) refl refl refl refl (λ o t. t) (owing (answers.Ua pf)) refl;
    ua = λ p. enters turn a a (ap stage p) refl refl refl refl (λ o t. t) (λ b. b) refl;
    disc = λ p pf. same a (owing (answers.Dm pf) a) refl (refl, refl) refl refl refl (λ o t. t);
    closes = λ p frame f. closes a (record a { phase = Closed }) refl (refl, refl) refl refl (omega (arith, ap stage p)) refl refl
        (λ o. omega (arith, ap stage p));
  };
}

pub hears : (reads : ReadsAllowed) (keeps : KeepsTaken) (turn : ℕ) (arrived : Arrived) (a b : Account) → hear turn arrived a ≡ Ok b
    → GoesOn a b
hears reads keeps turn arrived a b e = by-ways (λ x b. GoesOn a b) turn a (ways reads keeps turn a) arrived b e

-- an originator that was told to release, or a closed end: nothing of this changes any more
pub record Standing : Type 0 where
  pub outgoing : Outgoing
  pub incoming : Incoming
  pub own_breaks : OwnBreaks
  pub their_breaks : TheirBreaks

abbrev pub standing : Account → Standing
standing a = record { outgoing = a.outgoing; incoming = a.incoming; own_breaks = a.own_breaks; their_breaks = a.their_breaks }

pub stands-heard : (turn : ℕ) (arrived : Arrived) (a b : Account) → 2 ≤ stage a.phase → hear turn arrived a ≡ Ok b → standing b ≡ standing a
stands-heard turn arrived a b h e = grind (arith, by-ways)
