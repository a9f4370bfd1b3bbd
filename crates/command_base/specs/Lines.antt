-- The line that each answer says.
use Rattle.std.specs.Prelude.{ℕ, Bool, if◌then◌else◌, List, [], ◌∷◌, ◌++◌, codes, decimal, slice_index_or}
use Rattle.xid_params.specs.declared.fault.XidFault.{XidFault}
use Rattle.xid_params.specs.declared.fault.XidFault.TheVariants as xid
use Rattle.shared_terms.specs.declared.fault.LinkFault.{LinkFault}
use Rattle.shared_terms.specs.declared.fault.LinkFault.TheVariants.{BadAck, PeerReset, PeerRefused}
use Rattle.command_base.specs.declared.status.Status.{Status}
use Rattle.command_base.specs.declared.status.Status.TheVariants.{BadScript, BadRecording, BadHex, BadXid, TooLong, ReadFault, WriteFault, LineLost, NotDetected, LinkLost, ChanceMatch, NoMemory, PeerFault, AuditNo, BadTap, PairLinkLost, PairNotDetected}
use Rattle.shared_terms.specs.Role.{role_word}
use Rattle.shared_terms.specs.Cause.{cause_word}
use Rattle.shared_terms.specs.AuditCause.{audit_word}

-- why a field spells no offer
abbrev pub xid_words : XidFault → List ℕ
xid_words xid.Format = codes "format"
xid_words (xid.Group at) = codes "group" ++ codes " at " ++ decimal at
xid_words (xid.Length at) = codes "length" ++ codes " at " ++ decimal at
xid_words (xid.Value at) = codes "value" ++ codes " at " ++ decimal at
xid_words (xid.Repeated at) = codes "repeated" ++ codes " at " ++ decimal at

-- what an end can't take of its peer; that it has no answer is no fault of the peer, and has no words here
abbrev pub peer_words : LinkFault → List ℕ
peer_words (BadAck nr va high) = codes "bad ack nr " ++ decimal nr ++ codes " va " ++ decimal va ++ codes " high " ++ decimal high
peer_words (PeerReset va vr) = codes "reset va " ++ decimal va ++ codes " vr " ++ decimal vr
peer_words PeerRefused = codes "refused"
peer_words fault = []

-- ---- commands that are done

abbrev pub count_line : List ℕ → ℕ → List ℕ
count_line word number = word ++ codes " " ++ decimal number ++ codes "\n"

abbrev pub done_line : ℕ → List ℕ
done_line turn = count_line (codes "done") turn

abbrev pub samples_line : ℕ → List ℕ
samples_line samples = count_line (codes "samples") samples

abbrev pub octets_line : ℕ → List ℕ
octets_line octets = count_line (codes "octets") octets

abbrev pub pieces_line : ℕ → List ℕ
pieces_line pieces = count_line (codes "pieces") pieces

-- a tap of a line: how many turns its trace has
abbrev pub turns_line : ℕ → List ℕ
turns_line turns = count_line (codes "turns") turns

-- two links that are done, each with its last turn
abbrev pub both_done_line : ℕ → ℕ → List ℕ
both_done_line first second = codes "done " ++ decimal first ++ codes " " ++ decimal second ++ codes "\n"

-- a trace that is a run's, with the number of its lines
abbrev pub true_line : ℕ → List ℕ
true_line lines = codes "true " ++ decimal lines ++ codes " lines\n"

-- a soak that is done: its seed, the last turn, slots lost, and segments sent again
abbrev pub soak_line : ℕ → ℕ → ℕ → ℕ → List ℕ
soak_line seed turn lost again =
    codes "soak " ++ decimal seed ++ codes " done " ++ decimal turn ++ codes " lost " ++ decimal lost ++ codes " again " ++ decimal
    again ++ codes "\n"

-- octets that were held against a recording: what they cost, and 1 where that is so little that they are told for certain, else 0
abbrev pub margin_line : ℕ → Bool → List ℕ
margin_line cost sure = codes "cost " ++ decimal cost ++ (if sure then codes " sure 1\n" else codes " sure 0\n")

-- ---- how the program is used

-- words behind the first one
abbrev pub listed_behind : List (List ℕ) → List ℕ
listed_behind [] = []
listed_behind (word ∷ words) = codes ", " ++ word ++ listed_behind words

abbrev pub listed : List (List ℕ) → List ℕ
listed [] = []
listed (word ∷ words) = word ++ listed_behind words

abbrev pub usage_line : List (List ℕ) → List ℕ
usage_line commands = codes "usage: modem " ++ listed commands ++ codes "\n"

-- ---- other answers

abbrev pub too_long_line : List ℕ → List ℕ
too_long_line word = codes "too long: " ++ word ++ codes "\n"

-- the lines that say no word of the command line; those of Done and of Usage are said elsewhere
abbrev pub short_line : Status → List ℕ
short_line (BadScript line cause) = codes "bad script: line " ++ decimal line ++ codes ": " ++ cause_word cause ++ codes "\n"
short_line (BadRecording at) = codes "bad recording: at " ++ decimal at ++ codes "\n"
short_line (BadHex at) = codes "bad hex: at " ++ decimal at ++ codes "\n"
short_line (BadXid fault) = codes "bad xid: " ++ xid_words fault ++ codes "\n"
short_line ReadFault = codes "read fault\n"
short_line WriteFault = codes "write fault\n"
short_line (LineLost role symbol) = codes "line lost: " ++ role_word role ++ codes " symbol " ++ decimal symbol ++ codes "\n"
short_line (NotDetected turn) = codes "not detected: turn " ++ decimal turn ++ codes "\n"
short_line (LinkLost role segment turn) =
    codes "link lost: " ++ role_word role ++ codes " segment " ++ decimal segment ++ codes " turn " ++ decimal turn ++ codes "\n"
short_line (ChanceMatch role turn) = codes "chance match: " ++ role_word role ++ codes " turn " ++ decimal turn ++ codes "\n"
short_line NoMemory = codes "no memory\n"
short_line (PeerFault fault turn) = codes "peer fault: " ++ peer_words fault ++ codes " turn " ++ decimal turn ++ codes "\n"
short_line (AuditNo line cause) = codes "false line " ++ decimal line ++ codes ": " ++ audit_word cause ++ codes "\n"
short_line (BadTap role turn) = codes "bad tap: " ++ role_word role ++ codes " turn " ++ decimal turn ++ codes "\n"
short_line (PairLinkLost link role segment turn) =
    codes "link lost: link " ++ decimal link ++ codes " " ++ role_word role ++ codes " segment " ++ decimal segment ++ codes " turn "
    ++ decimal turn ++ codes "\n"
short_line (PairNotDetected link turn) = codes "not detected: link " ++ decimal link ++ codes " turn " ++ decimal turn ++ codes "\n"
short_line status = []

-- the line of an answer that is neither Done nor Usage, to these words
abbrev pub status_line : List (List ℕ) → Status → List ℕ
status_line words (TooLong word) = too_long_line (slice_index_or words word [])
status_line words status = short_line status
