use Rattle.lapm_link.proofs.Names.{◌≡◌, ℕ, Bool, Taking, Setup, is_originator, Terms}
use Rattle.lapm_sender.specs.Sending.{Sending, StandsOut}
use Rattle.lapm_sender.specs.Outgoing as outgoing
use Rattle.lapm_receiver.specs.Taking.{StandsIn}
use Rattle.lapm_receiver.specs.Incoming as incoming
use Rattle.shared_terms.specs.Role.{other}
use Rattle.link_account.specs.Account.{size_for, window_for}
use Rattle.lapm_link.proofs.unlinked.Unlinked.connect.Goals as goal

-- a sender that has begun by these terms
sends : (s : Sending) (setup setup' : Setup) (terms terms' : Terms) (window size : ℕ) (polled : Bool)
    → window ≡ window_for setup.role terms → size ≡ size_for setup.role terms → polled ≡ is_originator setup.role → setup ≡ setup'
    → terms ≡ terms'
    → StandsOut s (outgoing.begun window size setup.tries polled)
    → StandsOut s (outgoing.begun (window_for setup'.role terms') (size_for setup'.role terms') setup'.tries (is_originator setup'.role))
sends s setup setup' terms terms' window size polled w z p e f h = rw (← e, ← f, ← w, ← z, ← p) h

takes : (r : Taking) (setup setup' : Setup) (terms terms' : Terms) (window : ℕ)
    → window ≡ window_for (other setup.role) terms → setup ≡ setup' → terms ≡ terms'
    → StandsIn r (incoming.begun window terms.srej) → StandsIn r (incoming.begun (window_for (other setup'.role) terms') terms'.srej)
takes r setup setup' terms terms' window w e f h = rw (← e, ← f, ← w) h

pub returns-clause-links : goal.returns-clause-links
returns-clause-links c = λ a h t.
    c.new.ensures.links a _ _ h t
    (sends _ _ _ _ _ _ _ _ c.window_for-window.ensures c.size_for-size.ensures c.is_originator-originates.ensures h.setup_is t
    c.begin.ensures.stands)
    (takes _ _ _ _ _ _ (rw (← c.other.ensures) c.window_for-their_window.ensures) h.setup_is t c.begin-2.ensures.stands)
