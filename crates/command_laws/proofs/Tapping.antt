-- From a recorded run to the tap of its recordings.
use Rattle.command_laws.proofs.Names.{◌≡◌, ◌⊎◌, inl, inr, ◌∙◌, ℕ, ◌*◌, IsTrue, List, [], ◌∷◌, ◌++◌, Some, refl, sym, ap, subst, arith}
use Rattle.command_laws.proofs.Names.{NoMemory, slots_of, AreOctets, LineRun, signals, wire_of, link_of, tapping, Accounts, Turn}
use Rattle.command_laws.proofs.Names.{ScriptSpelling, BreaksAreOctets, ScriptValue, IsInLimits, delay_of, octets-held, FolderState}
use Rattle.command_laws.proofs.Names.{octets_at, header_of, mode_of, Both, of, Role, Originator, Answerer}
use Rattle.outside_calls.specs.Outputs.{Holds}
use Rattle.bit_stuffing.proofs.Fill.{phase-low}
use Rattle.link_run.specs.Laws.{agreed_srej}
use Rattle.link_run.specs.Taken.{taken_octets}
use Rattle.line_run.specs.Ends.{RunsLeaveWhatPassed}
use Rattle.line_run.specs.Recorded.{IsRecorded, Tapes}
use Rattle.line_run.specs.Scripted.{ScriptsMayPlay, ScriptsHaveDelays, SlotsAreCodable}
use Rattle.line_run.specs.Stream.{AllSendable}
use Rattle.line_ends.specs.Completes.{OctetsAreSendable}
use Rattle.line_tap.specs.Tapping.{phase_behind}
use Rattle.line_tap.specs.Ends.{TapOf, told_end}
use Rattle.line_tap.specs.Laws.{AreCoded, RecordingsTellRuns}
use Rattle.line_world.specs.Tapes.{HoldTapes}
use Rattle.line_tap.specs.Completes.{AreRight, Answered}
use Rattle.command_laws.specs.Taps.{LeftAlike, LeavesTheSame, TapsLeaveWhatRunsLeft}

-- the laws that it rests on
pub record TapLaws : Type 0 where
  pub tell : RecordingsTellRuns
  pub octets : OctetsAreSendable
  pub codable : SlotsAreCodable
  pub play : ScriptsMayPlay
  pub delays : ScriptsHaveDelays
  pub passed : RunsLeaveWhatPassed
  pub breaks : BreaksAreOctets

-- all that was sent could be coded where it stands
coded : SlotsAreCodable → (script : ScriptValue) (files : Both (List ℕ)) (ts : List Turn)
    (ends : Accounts) → IsInLimits script → LineRun (wire_of script) (link_of script files) ts ends → AllSendable ts → (role : Role)
    → AreCoded (wire_of script) role ts
coded codable script files [] ends limits r s role = tt
coded codable script files (t ∷ ts) ends limits r s role =
    let before : LineRun (wire_of script) (link_of script files) ts r.run.0 = record { run = r.run.1; heard = r.heard.1 } in (
      λ slot e. codable (wire_of script) files ts r.run.0 t ends limits before r.heard.0 r.run.2 role slot 0
          (phase_behind (wire_of script) role ts) (phase-low (4 * (wire_of script).symbols) 0
          (slots_of (4 * (wire_of script).symbols) (signals (wire_of script) role ts)) (omega arith)) e (s.0 role slot e),
      coded codable script files ts r.run.0 limits before s.1 role,
    )

-- a recording's octets, by what the folder behind the run holds
body-is : (new was : FolderState) (name other header body : List ℕ) → IsTrue (new.tells name) → Holds new name (header ++ body)
    → octets_at was other ≡ octets_at new name → octets_at was other ≡ header ++ body
body-is new was name other header body told holds same = same ∙ octets-held new name (header ++ body) (holds told)

alike : (f g : FolderState) (name other octets left : List ℕ) → octets ≡ left → Holds f name octets → Holds g other left
    → LeftAlike f name g other
alike f g name other octets left e a b tf tg = b tg ∙ ap Some (sym e) ∙ sym (a tf)

pub taps-leave : TapLaws → TapsLeaveWhatRunsLeft
taps-leave laws m tapes old new was then n end r is ran told of-run sound completes = by
    (completes sound ran.script bodies right (told_end end) ran.left tap)
  where
    hold : HoldTapes new (Some tapes) (wire_of ran.script) ran.run.turns
    hold = subst (λ (x : Tapes). HoldTapes new x (wire_of ran.script) ran.run.turns) is ran.taped

    bodies : Both (List ℕ)
    bodies = record { orig = hold.0.body; answ = hold.1.body }

    recorded : (role : Role) → IsRecorded (wire_of ran.script) role ran.run.turns (of role bodies)
    recorded Originator = hold.0.recorded
    recorded Answerer = hold.1.recorded

    spelled : ScriptSpelling (octets_at old m.script) ran.script
    spelled = ran.are_of.script_is told.script

    files : (role : Role) → AreOctets (of role ran.files)
    files Originator = subst AreOctets (sym (ran.are_of.orig_is told.orig)) (ran.are_of.orig_octets told.orig)
    files Answerer = subst AreOctets (sym (ran.are_of.answ_is told.answ)) (ran.are_of.answ_octets told.answ)

    sendable : AllSendable ran.run.turns
    sendable = laws.octets (wire_of ran.script) ran.files ran.run.turns ran.run.ends ran.limits
        (record { files_are = files; breaks_are = laws.breaks (octets_at old m.script) ran.script spelled }) ran.run.run

    tap : TapOf (tapping ran.script bodies) (told_end end) ran.left
    tap = laws.tell ran.script ran.files end ran.left bodies ran.limits ran.run
        (coded laws.codable ran.script ran.files ran.run.turns ran.run.ends ran.limits ran.run.run sendable) recorded

    right : AreRight was n ran.script bodies
    right = record {
      script_told = of-run.script_told;
      script_short = of-run.script_short;
      spelled = subst (λ (text : List ℕ). ScriptSpelling text ran.script) (sym of-run.script_is) spelled;
      orig_told = of-run.orig_told;
      orig_short = of-run.orig_short;
      orig_is = body-is new was tapes.orig n.rec_o (header_of (mode_of Originator)) hold.0.body of-run.orig_left hold.0.holds
          of-run.orig_is;
      answ_told = of-run.answ_told;
      answ_short = of-run.answ_short;
      answ_is = body-is new was tapes.answ n.rec_a (header_of (mode_of Answerer)) hold.1.body of-run.answ_left hold.1.holds of-run.answ_is;
    }

    passed : (role : Role) → of role ran.left.got ≡ taken_octets (agreed_srej (link_of ran.script ran.files)) (delay_of ran.script) role
        ran.heard
    passed role =
        laws.passed (wire_of ran.script) (link_of ran.script ran.files) end ran.left
        (record { may_play = laws.play ran.script ran.files ran.limits; delays = laws.delays ran.script ran.limits }) ran.run role
        ∙ ap (taken_octets (agreed_srej (link_of ran.script ran.files)) (delay_of ran.script) role) (sym ran.heard_is)

    by : Answered then n (told_end end) ran.left r ⊎ (r ≡ NoMemory) → LeavesTheSame m new then n end r ⊎ (r ≡ NoMemory)
    by (inr none) = inr none
    by (inl a) = inl (record {
      answer = a.answer;
      got_o = alike new then m.names.got_o n.got_o _ ran.left.got.orig (sym (passed Originator)) ran.got.got_o a.holds.0;
      got_a = alike new then m.names.got_a n.got_a _ ran.left.got.answ (sym (passed Answerer)) ran.got.got_a a.holds.1.0;
      trace = alike new then m.names.trace n.trace ran.left.trace ran.left.trace refl ran.trace a.holds.1.1.0;
    })
