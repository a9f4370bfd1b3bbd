-- The page of theorems: what the top call promises and answers, over the folder before and after it, by what the words ask for. A command has
-- a constructor of `Asked`, a row in `commands` for each of its words, and a row in `promise`. Words ask for `Nothing` exactly where their first
-- one is in no row of `commands`, or where those behind it don't give the names that its row asks for.
use Rattle.std.specs.Prelude.{ℕ, List, [], ◌∷◌, map, Option, if◌then◌else◌, codes}
use Rattle.std.specs.Option.{option_map_or}
use Rattle.std.specs.Str.{bytes_eq}
use Rattle.outside_calls.specs.Outputs.{KeepsAll}
use Rattle.recordings.specs.declared.rate.Rate.TheVariants.{Trellis, Quarters}
use Rattle.command_base.specs.declared.status.Status.TheVariants.{Usage}
use Rattle.command_base.specs.Lines.{usage_line}
use Rattle.command_base.specs.Promise.{Promise}
use Rattle.command_base.specs.Tells.{Tells}
use Rattle.run_commands.specs.Running.Promise.{RunNames, run_named, record_named, run_promise}
use Rattle.run_commands.specs.Soaking.Promise.{seed_named, soak_promise}
use Rattle.run_commands.specs.Peering.Promise.{PeerNames, peer_named, peer_promise}
use Rattle.signal_commands.specs.Encoding.Promise.{EncodeNames, encode_named, encode_promise}
use Rattle.signal_commands.specs.Decoding.Promise.{DecodeNames, decode_named, decode_promise}
use Rattle.signal_commands.specs.PickingUp.Promise.{recording_named, pickup_promise}
use Rattle.signal_commands.specs.Margins.Promise.{MarginNames, margin_named, margin_promise}
use Rattle.frame_commands.specs.Listing.Promise.{FramesNames, frames_named, frames_promise}
use Rattle.frame_commands.specs.Explaining.Promise.{digits_named, xid_promise}
use Rattle.link_pair.specs.Promise.{PairNames, pair_named, pair_promise}
use Rattle.line_tap.specs.Promise.{TapNames, tap_named, tap_promise}
use Rattle.trace_audit.specs.Promise.{AuditNames, audit_named, audit_promise}

-- What words ask for: a command, with the names that they give it, or nothing that there is.
pub data Asked : Type 0 where
  Run : RunNames → Asked
  Encode : EncodeNames → Asked
  Decode : DecodeNames → Asked
  Frames : FramesNames → Asked
  Xid : List ℕ → Asked
  Soak : ℕ → Asked
  Peer : PeerNames → Asked
  Pickup : List ℕ → Asked
  Margin : MarginNames → Asked
  Tap : TapNames → Asked
  Pair : PairNames → Asked
  Audit : AuditNames → Asked
  Nothing : Asked

-- A command's word, and what words ask for that stand behind it.
pub record Command : Type 0 where
  pub word : List ℕ
  pub asks : List (List ℕ) → Asked

-- words behind this one ask for the command that they name, where they give its names, else for nothing
abbrev pub command : {A : Type 0} → List ℕ → (A → Asked) → (List (List ℕ) → Option A) → Command
command word make names_of = record { word = word; asks = λ words. option_map_or make (names_of words) Nothing }

-- the commands that there are, in the order in which the usage line names them
abbrev pub commands : List Command
commands =
    command (codes "run") Run run_named
    ∷ command (codes "encode") Encode (encode_named Trellis)
    ∷ command (codes "decode") Decode (decode_named Trellis)
    ∷ command (codes "frames") Frames frames_named
    ∷ command (codes "xid") Xid digits_named
    ∷ command (codes "soak") Soak seed_named
    ∷ command (codes "peer") Peer peer_named
    ∷ command (codes "pickup") Pickup recording_named
    ∷ command (codes "margin") Margin margin_named
    ∷ command (codes "encode4") Encode (encode_named Quarters)
    ∷ command (codes "decode4") Decode (decode_named Quarters)
    ∷ command (codes "record") Run record_named
    ∷ command (codes "tap") Tap tap_named
    ∷ command (codes "pair") Pair pair_named
    ∷ command (codes "audit") Audit audit_named
    ∷ []

-- what words ask for that stand behind this first one: nothing, where it is no command's
abbrev pub asked_by : List Command → List ℕ → List (List ℕ) → Asked
asked_by [] first words = Nothing
asked_by (it ∷ others) first words = if bytes_eq first it.word then it.asks words else asked_by others first words

-- what words ask for
abbrev pub asked : List (List ℕ) → Asked
asked [] = Nothing
asked (first ∷ words) = asked_by commands first words

-- how the program is used
abbrev pub usage : List ℕ
usage = usage_line (map (λ it. it.word) commands)

-- what is promised to who asks for this; who asks for nothing is told the usage, and no file changes
abbrev pub promise : Asked → Promise
promise (Run n) = run_promise n
promise (Encode n) = encode_promise n
promise (Decode n) = decode_promise n
promise (Frames n) = frames_promise n
promise (Xid digits) = xid_promise digits
promise (Soak seed) = soak_promise seed
promise (Peer n) = peer_promise n
promise (Pickup rec) = pickup_promise rec
promise (Margin n) = margin_promise n
promise (Tap n) = tap_promise n
promise (Pair n) = pair_promise n
promise (Audit n) = audit_promise n
promise Nothing = record {
  Apart = Unit {0};
  Headline = λ old new s. KeepsAll old new;
  Answer = λ words old new s. Tells old new usage Usage s;
  Completes = λ old new s. Unit {0};
}
