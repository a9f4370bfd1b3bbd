-- What an end has handed to its user, between turns and once it has heard.
use Rattle.link_run.proofs.Names.{◌≡◌, ◌≢◌, ℕ, zero, suc, ◌+◌, ◌≤◌, Bool, List, length, arith, length-append, refl, ◌∙◌, Option, Account}
use Rattle.link_run.proofs.Names.{wants, after_given, after_busy, BreakLine, User, asked, delivered, is_busy, offered, offered_at}
use Rattle.link_run.proofs.Names.{offered_times, served}
use Rattle.link_run.proofs.Keeping.{stage, GoesOn}
use Rattle.link_run.proofs.Speaking.{Speaks}

-- all was handed over
pub record Handed (a : Account) : Type 0 where
  pub given : a.incoming.given ≡ length a.incoming.taken
  pub told : a.breaks_told ≡ length a.their_breaks.lengths

-- what was heard last may wait, where the end is Connected
pub record Waiting (a : Account) : Type 0 where
  pub given : a.incoming.given ≤ length a.incoming.taken
  pub told : a.breaks_told ≤ length a.their_breaks.lengths
  pub few : length a.their_breaks.lengths ≤ a.breaks_told + 1
  pub idle : stage a.phase ≢ 1 → Handed a

pub heard-waits : (a b : Account) → Handed a → GoesOn a b → Waiting b
heard-waits a b h given = grind (arith, length-append)

-- serving
pub offers-alone : (n : ℕ) (file : List ℕ) (a : Account)
    → offered_times n file a ≡ record a { outgoing = (offered_times n file a).outgoing }
offers-alone zero file a = refl
offers-alone (suc n) file a = offers-alone n file (offered_at file a (wants a)) ∙ go (wants a)
  where
    go : (w : Option ℕ) → record
        (offered_at file a w) { outgoing = (offered_times n file (offered_at file a w)).outgoing } ≡ record
        a { outgoing = (offered_times n file (offered_at file a w)).outgoing }
    go w = grind (arith)

pub asks-alone : (turn : ℕ) (released : Bool) (breaks : List BreakLine) (a : Account)
    → asked turn released breaks a ≡ record a { own_breaks = (asked turn released breaks a).own_breaks }
asks-alone turn released breaks a = grind (arith)

pub busy-alone : (busy : Bool) (a : Account) → after_busy busy a ≡ record a { owes = (after_busy busy a).owes }
busy-alone busy a = grind (arith)

-- what serving changes
pub served-alone : (u : User) (turn : ℕ) (released : Bool) (a : Account)
    → (served u turn released a).account ≡ record (delivered a) {
      breaks_told = length (delivered a).their_breaks.lengths;
      outgoing = (offered u.file (after_given (delivered a))).outgoing;
      owes = (after_busy (is_busy turn u.busy) (offered u.file (after_given (delivered a)))).owes;
      own_breaks = (served u turn released a).account.own_breaks;
    }
served-alone u turn released a = grind (arith, asks-alone, busy-alone, offers-alone)

-- delivering
pub record Delivers (a b : Account) : Type 0 where
  pub rest : b ≡ record a { incoming = record a.incoming { given = b.incoming.given } }
  pub given : b.incoming.given ≡ length a.incoming.taken

pub delivers : (a : Account) → Waiting a → Delivers a (delivered a)
delivers a w = grind (arith)

pub served-handed : (u : User) (turn : ℕ) (released : Bool) (a : Account) → Waiting a → Handed (served u turn released a).account
served-handed u turn released a w = grind (arith, served-alone)

pub spoken-handed : (release : Bool) (a b : Account) → Handed a → Speaks release a b → Handed b
spoken-handed release a b h x = grind (arith)
