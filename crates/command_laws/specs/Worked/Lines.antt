-- Short words for the lines of a trace: what arrived at an end in a turn, and what it sent. I frames show the length of their
-- information, which is one octet in all of these.
use Rattle.std.specs.Prelude.{ℕ, zero, suc, true, false, List, [], ◌∷◌, Some, None}
use Rattle.lapm_frames.specs.declared.frame.Frame.TheVariants.{I, Rr, Rnr, Rej, Srej, Sabme, Disc, Ua, Ui, Xid}
use Rattle.lapm_frames.specs.declared.sent.Sent.{Sent}
use Rattle.lapm_frames.specs.declared.sent.Sent.TheVariants as slots
use Rattle.command_laws.specs.Worked.Runs.{Row}

abbrev pub odp : Sent
odp = slots.Odp

abbrev pub adp : Sent
adp = slots.Adp

abbrev pub mark : Sent
mark = slots.Mark

abbrev pub flags : Sent
flags = slots.Flags

abbrev pub xid_cmd : Sent
xid_cmd = slots.Frame (Xid true false (23 ∷ []))

abbrev pub xid_rsp : Sent
xid_rsp = slots.Frame (Xid false false (23 ∷ []))

abbrev pub sabme : Sent
sabme = slots.Frame (Sabme true)

abbrev pub disc : Sent
disc = slots.Frame (Disc true)

abbrev pub ua : Sent
ua = slots.Frame (Ua true)

-- N(S) and N(R)
abbrev pub i : ℕ → ℕ → Sent
i ns nr = slots.Frame (I ns nr false (1 ∷ []))

-- RR as a command with P = 1, as a response with F = 1, and as one with F = 0
abbrev pub poll : ℕ → Sent
poll nr = slots.Frame (Rr true nr true)

abbrev pub reply : ℕ → Sent
reply nr = slots.Frame (Rr false nr true)

abbrev pub rr : ℕ → Sent
rr nr = slots.Frame (Rr false nr false)

-- RNR as a response with F = 1, and as one with F = 0
abbrev pub busy_reply : ℕ → Sent
busy_reply nr = slots.Frame (Rnr false nr true)

abbrev pub rnr : ℕ → Sent
rnr nr = slots.Frame (Rnr false nr false)

abbrev pub rej : ℕ → Sent
rej nr = slots.Frame (Rej false nr false)

abbrev pub srej : ℕ → Sent
srej nr = slots.Frame (Srej false nr false)

-- a break's number and length
abbrev pub brk : ℕ → ℕ → Sent
brk number length_octet = slots.Frame (Ui true false (64 ∷ number ∷ length_octet ∷ []))

abbrev pub brkack : ℕ → ℕ → Sent
brkack number length_octet = slots.Frame (Ui true false (96 ∷ number ∷ length_octet ∷ []))

-- nothing arrived, and this was sent
abbrev pub idle : Sent → Row
idle sent = record { arrived = None; lost = false; sent = Some sent; given = None }

-- this arrived, and that was sent
abbrev pub heard : Sent → Sent → Row
heard arrived sent = record { arrived = Some arrived; lost = false; sent = Some sent; given = None }

-- this was lost on its way, and that was sent
abbrev pub lost : Sent → Sent → Row
lost arrived sent = record { arrived = Some arrived; lost = true; sent = Some sent; given = None }

-- the user was given a break of this length
abbrev pub giving : ℕ → Row → Row
giving length_octet row = record row { given = Some length_octet }

-- the last turn, in which nothing is sent
abbrev pub last : Row
last = record { arrived = None; lost = false; sent = None; given = None }

abbrev pub last_heard : Sent → Row
last_heard arrived = record { arrived = Some arrived; lost = false; sent = None; given = None }

-- so many turns in which nothing arrives and nothing but flags is sent
abbrev pub quiet : ℕ → List Row
quiet zero = []
quiet (suc turns) = idle flags ∷ idle flags ∷ quiet turns
