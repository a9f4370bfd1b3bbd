-- What was sent in a script's run fits the slots of its line.
use Rattle.std.proofs.Common.{◌≡◌, ℕ, zero, suc, ◌*◌, List, [], ◌∷◌, ◌++◌, drop, arith, sym, subst, Some}
use Rattle.bit_stuffing.specs.Slots.{phase_after}
use Rattle.bit_stuffing.proofs.Fill.{phase-low}
use Rattle.line_ends.proofs.Names.{Accounts, AllSendable, AreFit, Both, Fits, GoingTurn, HeardIn, IsInLimits, IsSendable, LineRun, Role}
use Rattle.line_ends.proofs.Names.{ScriptValue, SlotsAreCodable, Spoken, Turn, link_of, longest_of, of, signal_in, signal_of, signals}
use Rattle.line_ends.proofs.Names.{slot_symbols, slots_of, spoken, wire_of}
use Rattle.line_run.proofs.Fits.{codable-fits, fit-front, fit-more, spelled-octets}

-- the symbols of a slot, and its bits
abbrev pub symbols_of : ScriptValue → ℕ
symbols_of script = slot_symbols (longest_of script)

abbrev pub bits_in : ScriptValue → ℕ
bits_in script = 4 * symbols_of script

-- one more slot
fits-one : (codable : SlotsAreCodable) (script : ScriptValue) (files : Both (List ℕ)) (ts : List Turn) (ends : Accounts) (t : Turn)
    (after : Accounts) → IsInLimits script
    → LineRun (wire_of script) (link_of script files) ts ends → HeardIn (wire_of script) ts t
    → GoingTurn (link_of script files) ts ends t after
    → (role : Role) → ((slot : Spoken) → (of role t).sent ≡ Some slot → IsSendable slot.sent)
    → AreFit (bits_in script) 0 (signals (wire_of script) role ts)
    → AreFit (bits_in script) 0 (signals (wire_of script) role (t ∷ ts))
fits-one codable script files ts ends t after h r k g role sendable fit =
    let size : ℕ = bits_in script in
    let before = signals (wire_of script) role ts in
    let slot : Spoken = spoken (g.speaking role).said in
    let e : (of role t).sent ≡ Some slot = (g.speaking role).sent_is in
    let is : IsSendable slot.sent = sendable slot e in
    let phase : ℕ = phase_after size (slots_of size before) in
    let can = codable (wire_of script) files ts ends t after h r k g role slot 0 phase
    (phase-low size 0 (slots_of size before) (omega arith)) e is in
    let fits : Fits size phase (signal_of slot.check role 0 slot.sent) = grind (arith, codable-fits, spelled-octets) in
    subst (λ o. AreFit size 0 (before ++ signal_in (wire_of script) role o)) (sym e)
    (fit-more size 0 before (signal_of slot.check role 0 slot.sent) fit fits)

-- and so all of them do
pub fits-all : (codable : SlotsAreCodable) (script : ScriptValue) (files : Both (List ℕ)) (ts : List Turn) (ends : Accounts)
    → IsInLimits script
    → LineRun (wire_of script) (link_of script files) ts ends → AllSendable ts → (role : Role)
    → AreFit (bits_in script) 0 (signals (wire_of script) role ts)
fits-all codable script files [] ends h r s role = tt
fits-all codable script files (t ∷ ts) ends h r s role =
    let before : LineRun (wire_of script) (link_of script files) ts r.run.0 = record { run = r.run.1; heard = r.heard.1 } in
    fits-one codable script files ts r.run.0 t ends h before r.heard.0 r.run.2 role (s.0 role)
    (fits-all codable script files ts r.run.0 h before s.1 role)

-- the first ones too
pub fits-before : (script : ScriptValue) (role : Role) (n : ℕ) (ts : List Turn)
    → AreFit (bits_in script) 0 (signals (wire_of script) role ts)
    → AreFit (bits_in script) 0 (signals (wire_of script) role (drop n ts))
fits-before script role zero ts h = h
fits-before script role (suc n) [] h = h
fits-before script role (suc n) (t ∷ ts) h =
    fits-before script role n ts (fit-front (bits_in script) 0 (signals (wire_of script) role ts)
    (signal_in (wire_of script) role (of role t).sent) h)
