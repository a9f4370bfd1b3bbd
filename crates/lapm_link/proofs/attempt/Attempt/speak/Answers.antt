use Rattle.lapm_link.proofs.Names.{◌≡◌, ℕ, true, false, Ok, arith, sym, ◌∙◌, refl, nat_tests, Sent, TriesSo, Attempt, Account, u_try}
use Rattle.std.proofs.Common.{◌+◌, nat_eq}
use Rattle.lapm_frames.specs.declared.frame.Frame.{Frame}
use Rattle.link_account.specs.Speak.{tries_frame, trying_again}
use Rattle.lapm_link.specs.Attempt.{TriesOnce}
use Rattle.lapm_link.proofs.attempt.Attempt.speak.Goals as goal

-- at an expiry with tries left the frame is tried again
again : (turn : ℕ) (frame : Frame) (a : Account) (attempt : Attempt) (sent : Sent) → nat_eq turn (a.wait.try_set + a.setup.period) ≡ true
    → nat_eq a.wait.try_count a.setup.tries ≡ false → TriesOnce (tries_frame frame (trying_again turn a)) (trying_again turn a) attempt sent
    → TriesSo (u_try turn frame a) a attempt (Ok sent)
again turn frame a attempt sent e f h = rw (e, f) (record { sent_is = h.sent_is; tries = h.tries; rest_is = h.rest_is })

unspent : (left count tries : ℕ) → (left ≡ 0 → ⊥) → left + count ≡ tries → nat_eq count tries ≡ false
unspent left count tries some e = grind (arith, nat_tests)

pub returns-clause-tries : goal.returns-clause-tries
returns-clause-tries c = λ a h s f.
    again c.args.turn c.args.frame a _ _
    (rw (← h.set_is, ← s) (sym c.is_expired.ensures ∙ c.if-not-is_expired.false))
    (unspent c.args.self.now.left a.wait.try_count a.setup.tries c.if-self-eq0.false h.left_is)
    (c.once-2.ensures.tries (trying_again c.args.turn a) (record {
      due_is = refl;
      set_is = refl;
      left_is = omega (arith, h.left_is, c.if-self-eq0.false);
    }))
