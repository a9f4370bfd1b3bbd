-- What hearing makes of an end's breaks, of what it owes for the other end's, and of its urgent segment.
use Rattle.turn_losses.proofs.Names.{arith, ◌⊎◌, inl, ◌≡◌, ℕ, ◌+◌, ◌%◌, ◌&&◌, List, Bool, true, false, cond, nat_eq, refl, sym, ◌∙◌, ap, Ok}
use Rattle.turn_losses.proofs.Names.{by-linked, Ui, Arrived, BreakWord, Ack, word_in, OwnBreaks, waits, Account, is_connected, hear}
use Rattle.turn_losses.proofs.Names.{Connected, of_arrived, unlinked-connected, is_linked, is_final}
use Rattle.turn_losses.proofs.HeardNumber.{number-rows, plain-frame}
use Rattle.turn_losses.proofs.Words.{of_word, brk_of, ack_of, any_brk, pends_of}
use Rattle.lapm_frames.specs.declared.arrived.Arrived.TheVariants as arrivals

-- the break that waits is answered
abbrev pub answered_own : ℕ → OwnBreaks → OwnBreaks
answered_own turn o = record o { answered = o.answered + 1; brk = false; count = 0; rest = turn + 8 }

abbrev pub Unanswered : Arrived → OwnBreaks → Type 0
Unanswered arrived o = waits o ≡ true → of_arrived (of_word (ack_of (o.answered % 2))) arrived ≡ false

-- At a Connected end.
pub record BreakHeard (turn : ℕ) (arrived : Arrived) (a b : Account) : Type 0 where
  pub own : ((b.own_breaks ≡ a.own_breaks) × Unanswered arrived a.own_breaks)
      ⊎ ((waits a.own_breaks ≡ true) × (b.own_breaks ≡ answered_own turn a.own_breaks))
  pub asked : (n : ℕ) → of_arrived (of_word (brk_of n)) arrived ≡ true → pends_of n b.their_breaks.ack ≡ true
  pub kept : of_arrived (of_word any_brk) arrived ≡ false → b.their_breaks.ack ≡ a.their_breaks.ack
  pub special : b.special ≡ a.special
  pub urgent : b.wait.urgent ≡ true → (a.wait.urgent ≡ true) ⊎ (of_arrived is_final arrived ≡ true)

-- nothing of it changes
pub quiet-heard : (turn : ℕ) (arrived : Arrived) (a b : Account) → b.special ≡ a.special → b.own_breaks ≡ a.own_breaks
    → b.their_breaks ≡ a.their_breaks → ((f : BreakWord → Bool) → of_arrived (of_word f) arrived ≡ false)
    → (b.wait.urgent ≡ true → (a.wait.urgent ≡ true) ⊎ (of_arrived is_final arrived ≡ true)) → BreakHeard turn arrived a b
quiet-heard turn arrived a b s o t f u = record {
  special = s;
  own = inl (o, (λ w. f _));
  asked = λ n h. let wrong : true ≡ false = sym h ∙ f _ in cc;
  kept = λ h. ap (λ x. x.ack) t;
  urgent = u;
}

answer-heard : (turn : ℕ) (command pf : Bool) (info : List ℕ) (number length_octet : ℕ) (a : Account) → word_in info ≡ Ok
    (Ack number length_octet)
    → (w : Bool) → waits a.own_breaks ≡ w → (x : Bool) → nat_eq number (a.own_breaks.answered % 2) ≡ x
    → BreakHeard turn (arrivals.Frame (Ui command pf info)) a
    (record a { own_breaks = cond (w && x) (answered_own turn a.own_breaks) a.own_breaks })
answer-heard turn command pf info number length_octet a e w v x y = grind (arith)

pub break-heard : (arrived : Arrived) (turn : ℕ) (a mid : Account) → a.phase ≡ Connected → is_connected mid.phase ≡ true
    → hear turn arrived a ≡ Ok mid → BreakHeard turn arrived a mid
break-heard arrived turn a mid e c h =
    by-linked (λ x b. is_connected b.phase ≡ true → BreakHeard turn x a b) turn a
    (record {
      pattern = λ seen k. quiet-heard turn (arrivals.Pattern seen) a a refl refl refl (λ g. refl) (λ u. inl u);
      plain = λ frame p k. quiet-heard turn (arrivals.Frame frame) a a refl refl refl (plain-frame frame p).words (λ u. inl u);
      numbers = grind (arith, number-rows, quiet-heard);
      sabme = λ pf n r k. quiet-heard turn _ a _ refl refl refl (λ g. refl) (λ u. inl u);
      disc = λ pf r k. cc;
      brk = grind (arith);
      brkack = grind (arith, answer-heard, waits);
    }) (λ k. quiet-heard turn arrivals.Nothing a _ refl refl refl (λ g. refl) (λ u. inl u)) arrived mid e h c

-- An end that isn't Connected yet has no break, owes none an answer, and has nothing urgent; and it becomes Connected so.
pub record SameOld (arrived : Arrived) (a b : Account) : Type 0 where
  pub own : b.own_breaks ≡ a.own_breaks
  pub their : b.their_breaks ≡ a.their_breaks
  pub special : b.special ≡ a.special
  pub urgent : b.wait.urgent ≡ a.wait.urgent
  pub plain : is_connected b.phase ≡ true → ((f : BreakWord → Bool) → of_arrived (of_word f) arrived ≡ false)
      × (of_arrived is_final arrived ≡ false)

-- it isn't Connected after it either
unlinked-old : (arrived : Arrived) (a b : Account) → b.own_breaks ≡ a.own_breaks → b.their_breaks ≡ a.their_breaks → b.special ≡ a.special
    → b.wait.urgent ≡ a.wait.urgent → is_connected b.phase ≡ false → SameOld arrived a b
unlinked-old arrived a b o t s u n = grind (arith)

pub old-heard : (arrived : Arrived) (turn : ℕ) (a mid : Account) → is_linked a.phase ≡ false → hear turn arrived a ≡ Ok mid
    → SameOld arrived a mid
old-heard arrived turn a mid l h = grind (arith, unlinked-old, unlinked-connected)
