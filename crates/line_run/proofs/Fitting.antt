-- What the ends of a script's link send fits the slots of its line.
use Rattle.line_run.proofs.Cited.{◌≡◌, ℕ, ◌+◌, ◌-◌, ◌*◌, ◌/◌, ◌<◌, ◌≤◌, length, arith, refl, Some, TAIL, Check, checked, information_of}
use Rattle.line_run.proofs.Cited.{IsSendable, Frame, Sent, FewOctetsBesidesInformation, ShortIsCodable, SlotsAreCodable, SlotsHaveRoom}
use Rattle.line_run.proofs.Cited.{link_of, longest_of, slot_symbols, SendsShort, delay_of, IsCodable, of, Role, Answerer, Originator}
use Rattle.std.proofs.Common.{max}
use Rattle.lapm_frames.specs.declared.sent.Sent.TheVariants as sent
use Rattle.line_run.proofs.Sampling.{samples_are_carried, one_is_carried}
use Rattle.line_run.proofs.Scripting.{scripts_may_play, scripts_have_delays}

pub slots_have_room : SlotsHaveRoom
slots_have_room script h = grind (arith)

-- a slot has room for the longest stuffing
room : (n most : ℕ) → most ≡ n + 7 → 47 + 8 * most + 8 * most / 5 ≤ 4 * (slot_symbols n - TAIL)
room n most e = omega (arith, e)

codable-in : (few : FewOctetsBesidesInformation) (short : ShortIsCodable) (check : Check) (role : Role) (dlci n phase : ℕ) (s : Sent)
    → phase < 8
    → ((frame : Frame) → s ≡ sent.Frame frame → length (information_of frame) ≤ n) → IsSendable s
    → IsCodable check role dlci (slot_symbols n) phase s
codable-in few short check role dlci n phase sent.Mark l f h = tt
codable-in few short check role dlci n phase sent.Odp l f h = tt
codable-in few short check role dlci n phase sent.Adp l f h = tt
codable-in few short check role dlci n phase sent.Flags l f h = tt
codable-in few short check role dlci n phase (sent.Frame frame) l f h =
    let most : length (checked check role dlci frame) ≤ n + 7 = omega (arith, few check role dlci frame, f frame refl) in
    short check role dlci (slot_symbols n) phase (n + 7) frame l h most (room n (n + 7) refl)

pub slots_are_codable : FewOctetsBesidesInformation → ShortIsCodable → SendsShort → SlotsAreCodable
slots_are_codable few short sends c files ts ends t after h r k g role slot dlci phase l e s =
    codable-in few short slot.check role dlci (longest_of c.script) phase slot.sent l (λ frame f. at-role role frame e f) s
  where
    all : (role : Role) (frame : Frame) → (of role t).sent ≡ Some slot → slot.sent ≡ sent.Frame frame
        → length (information_of frame) ≤ max 23 (of role (link_of c.script files)).setup.offer.tx_len
    all role frame e f =
        sends (link_of c.script files) (delay_of c.script) ts ends t after
        (record {
          may_play = scripts_may_play c.script files h;
          delays = scripts_have_delays c.script h;
          carried = samples_are_carried _ ts r.heard;
          run = r.run;
        }) (one_is_carried _ ts t k) g role slot frame e f

    at-role : (role : Role) (frame : Frame) → (of role t).sent ≡ Some slot → slot.sent ≡ sent.Frame frame
        → length (information_of frame) ≤ longest_of c.script
    at-role Originator frame e f = let n = all Originator frame e f in omega (arith, n)
    at-role Answerer frame e f = let n = all Answerer frame e f in omega (arith, n)
