-- Before the first turn, and what a turn's answer says of a run.
use Rattle.run_commands.proofs.Names.{◌≡◌, ◌∙◌, ℕ, ◌<◌, ◌≤◌, ◌+◌, List, [], ◌∷◌, length, take, refl, sym, subst, arith, stop-earlier}
use Rattle.run_commands.proofs.Names.{IsWithin, ReadFails, StopCounts, Stop, LoneHearingsDeliver, LoneSpeakingTakesNothing, GoesOn-trans}
use Rattle.run_commands.proofs.Names.{KeepsName-trans, CountsStand-trans, FolderState, octets_at, GoesOn, KeepsName, OnlyReads, CountsStand}
use Rattle.run_commands.proofs.Names.{KeepsAll, CreatesPart, Creates, AreNoneOf, OnlyOutputs, FolderFault, IsDone, Reached, Names}
use Rattle.run_commands.proofs.Names.{turn_names, inputs_of, outputs_of, FILE_LIMIT, Role, slot_octets, Past, Going, after, over}
use Rattle.run_commands.proofs.Names.{SingleAfter, file_limit, Makes, Single}
use Rattle.std.proofs.lemmas.List.{length-take}
use Rattle.link_account.specs.Account.{fresh}
use Rattle.stations.specs.Station.{file_at}
use Rattle.stations.specs.OneEnd.Peer.{setup_of}
use Rattle.stations.specs.OneEnd.Turn.{GoesOnBy}
use Rattle.command_base.specs.Inputs.{IsNotWithin}
use Rattle.outside_calls.specs.Outputs.{IsNoneOf}
use Rattle.command_base.proofs.Reading.{ReadTo-none, longer-earlier}
use Rattle.run_commands.specs.Peering.Ends.{RanTo, StopsCreating, EndsBy}
use Rattle.run_commands.specs.Peering.Turns.{IsBegun}
use Rattle.run_commands.proofs.Peering.Reaching.{Around, goes-on, ends-short}

-- the end's role is that of the words
pub goes-by : LoneHearingsDeliver → LoneSpeakingTakesNothing
    → (start mid next : FolderState) (n : Names) (old new : Single) (p : Past) (octets slot : List ℕ)
    → Around start mid next n p octets slot
    → old.role ≡ n.role → new.role ≡ old.role → CountsStand mid next → GoesOnBy new mid next (turn_names n) p slot
    → length slot ≡ slot_octets
    → Reached start next n new
goes-by hearing speaking start mid next n old new p octets slot a role same stand g full = by new.role (same ∙ role) g.makes g.single
  where
    by : (r : Role) → r ≡ n.role → (m : Makes r mid next (turn_names n) p slot Going)
        → SingleAfter new (after slot m.turn m.is.is.0 (over m.others p)) → Reached start next n new
    by r e m s =
        (subst (λ x. (k : Makes x mid next (turn_names n) p slot Going) → SingleAfter new (after slot k.turn k.is.is.0 (over k.others p))
        → Reached start next n new) (sym e)
        (λ k t. goes-on hearing speaking start mid next n new p octets slot a (same ∙ role) stand k t full)) m s

pub ends-short-by : LoneHearingsDeliver → LoneSpeakingTakesNothing
    → (start mid next : FolderState) (n : Names) (old new : Single) (p : Past) (octets slot : List ℕ) (turn : ℕ)
    → Around start mid next n p octets slot
    → turn ≡ length p.turns → SingleAfter old p → old.role ≡ n.role → new.role ≡ old.role → GoesOnBy new mid next (turn_names n) p slot
    → length slot < slot_octets → RanTo start next n (IsDone (turn + 1))
ends-short-by hearing speaking start mid next n old new p octets slot turn a number after-is role same g short = grind (arith, ends-short)

-- ---- the outputs are created

pub ends-creating : (begin mid now : FolderState) (n : Names) → IsBegun begin mid n → CreatesPart mid now (outputs_of n)
    → StopsCreating begin now n
ends-creating begin mid now n b c = grind (arith)

few : (octets : List ℕ) → length (take file_limit octets) ≤ file_limit
few octets = omega (arith, length-take file_limit octets)

pub reached-first : (begin mid now : FolderState) (n : Names) (s : Single) → IsBegun begin mid n
    → OnlyOutputs mid now (outputs_of n) → CountsStand mid now
    → Creates now (outputs_of n) → AreNoneOf (outputs_of n) (inputs_of n) → s.role ≡ n.role
    → ((file : List ℕ) → SingleAfter s (record { file = file; slots = []; turns = []; account = fresh (setup_of n.role) }))
    → Reached begin now n s
reached-first begin mid now n s b only stand c d role first = record {
  past = record { file = file_at now n.file file_limit; slots = []; turns = []; account = fresh (setup_of n.role) };
  after = first (file_at now n.file file_limit);
  role_is = role;
  octets = [];
  read = ReadTo-none begin now n.bits FILE_LIMIT b.bits_within on (kept n.bits (λ e. d.0.1.0 (sym e), (λ e. d.1.0.1.0 (sym e), tt)));
  slots_are = refl;
  file_within = b.file_within;
  file_kept = kept n.file (λ e. d.0.0 (sym e), (λ e. d.1.0.0 (sym e), tt));
  knows = record { within = few (octets_at now n.file); told = λ told. refl };
  holds = c;
  stand = CountsStand-trans b.stand stand;
}
  where
    on : GoesOn begin now
    on = GoesOn-trans b.reads.goes_on only.goes_on

    kept : (name : List ℕ) → IsNoneOf name (outputs_of n) → KeepsName begin now name
    kept name none = KeepsName-trans begin mid now name b.reads.goes_on (b.reads.names name) (only.names name none)

-- ---- the inputs are looked at

pub bits-refused : (old new : FolderState) (n : Names) (stop : Stop) → OnlyReads old new → IsNotWithin old new n.bits FILE_LIMIT 3 stop
    → EndsBy old new n stop
bits-refused old new n other reads why = grind (arith)

keeps-both : (old mid new : FolderState) → OnlyReads old mid → OnlyReads mid new → KeepsAll old new
keeps-both old mid new first reads name = KeepsName-trans old mid new name first.goes_on (first.names name) (reads.names name)

pub file-refused : (old mid new : FolderState) (n : Names) (stop : Stop) → OnlyReads old mid → CountsStand old mid → OnlyReads mid new
    → IsWithin old n.bits FILE_LIMIT → IsNotWithin mid new n.file FILE_LIMIT 2 stop → EndsBy old new n stop
file-refused old mid new n other first stand reads within why = grind (arith, keeps-both, longer-earlier, stop-earlier)

-- what was counted then: a fault of that input, or nothing
pub refused-counts : (old new : FolderState) (n : Names) (name : List ℕ) (word : ℕ) (stop : Stop)
    → ((fault : FolderFault) → ReadFails old new (name ∷ []) fault → ReadFails old new (inputs_of n) fault)
    → IsNotWithin old new name FILE_LIMIT word stop → StopCounts old new (inputs_of n) (outputs_of n) stop
refused-counts old new n name word other among why = grind (arith)
