-- What holds of all runs of one end against a peer's bits.
use Rattle.std.specs.Prelude.{◌≡◌, ℕ, Bool, List, length, Err}
use Rattle.shared_terms.specs.declared.role.Role.{Role}
use Rattle.lapm_frames.specs.declared.arrived.Arrived.{Arrived}
use Rattle.shared_terms.specs.declared.fault.LinkFault.{LinkFault}
use Rattle.shared_terms.specs.declared.fault.LinkFault.TheVariants.{BadAck, PeerReset, PeerRefused, NotDetected, Spent}
use Rattle.link_account.specs.Account.{Account}
use Rattle.link_account.specs.Hear.{hear}
use Rattle.link_run.specs.Alone.{LoneTurn, LoneBroken}
use Rattle.stations.specs.OneEnd.Heard.{IsHeard}
use Rattle.stations.specs.OneEnd.Peer.{Past, PeerRun, PeerTurn, Outcome, Broken, party_of}

-- One thing at most is heard in bits.
abbrev pub OneIsHeard : Type 0
OneIsHeard = (peer : Role) (earlier bits : List Bool) (a b : Arrived) → IsHeard peer earlier bits a → IsHeard peer earlier bits b → a ≡ b

-- An end's role, its user's file and the peer's slots have one run at most: these turns, and this account after them.
abbrev pub OnePeerRun : Type 0
OnePeerRun = (role : Role) (p q : Past) → PeerRun role p → PeerRun role q → p.file ≡ q.file → p.slots ≡ q.slots → p ≡ q

-- After a past one turn at most is made against a slot, in which the user is given these octets, and it comes to this.
abbrev pub OnePeerTurn : Type 0
OnePeerTurn = (role : Role) (p : Past) (slot : List ℕ) (t u : LoneTurn) (octets others : List ℕ) (outcome other : Outcome)
    → PeerTurn role p slot t octets outcome → PeerTurn role p slot u others other → (t ≡ u) × (octets ≡ others) × (outcome ≡ other)

-- the peer is at fault: what it acknowledges was never sent, it begins anew, or it refuses
abbrev pub IsPeers : LinkFault → Type 0
IsPeers (BadAck nr va high) = Unit {0}
IsPeers (PeerReset va vr) = Unit {0}
IsPeers PeerRefused = Unit {0}
IsPeers NotDetected = ⊥
IsPeers (Spent segment since) = ⊥

-- Where what is heard in a turn has the end give its link up, the turn comes to that, and the peer is at fault.
abbrev pub HearingBreaks : Type 0
HearingBreaks = (role : Role) (p : Past) (slot : List ℕ) (t : LoneTurn) (octets : List ℕ) (outcome : Outcome) (fault : LinkFault)
    → PeerTurn role p slot t octets outcome → hear (length p.turns) t.arrived p.account ≡ Err fault
    → (outcome ≡ Broken fault) × IsPeers fault

-- And where a turn comes to a fault of the peer's, it is what was heard that had the end give its link up;
abbrev pub PeersFaultsAreHeard : Type 0
PeersFaultsAreHeard = (role : Role) (p : Past) (slot : List ℕ) (t : LoneTurn) (octets : List ℕ) (fault : LinkFault)
    → PeerTurn role p slot t octets (Broken fault) → IsPeers fault → hear (length p.turns) t.arrived p.account ≡ Err fault

-- where to another one, the end heard well, and gave its link up when it was to speak.
abbrev pub OtherFaultsAreWants : Type 0
OtherFaultsAreWants = (role : Role) (p : Past) (slot : List ℕ) (t : LoneTurn) (octets : List ℕ) (fault : LinkFault)
    → PeerTurn role p slot t octets (Broken fault) → (IsPeers fault → ⊥)
    → (mid : Account) × LoneBroken (party_of role p.file) p.turns p.account t mid fault
