-- For which samples a player stands, and how far a recording is played.
use Rattle.std.specs.Prelude.{◌≡◌, ℕ, ◌+◌, ◌*◌, ◌%◌, ◌≤◌, Bool, List, [], length, take, Some, None}
use Rattle.scramblers.specs.declared.mode.Mode.{Mode}
use Rattle.symbol_map.specs.declared.sample.Sample.{Sample}
use Rattle.shared_terms.specs.declared.role.Role.{Role}
use Rattle.outside_calls.specs.Folder.{FolderState}
use Rattle.exact_decoder.specs.Surviving.Survivors.{LostIs}
use Rattle.exact_decoder.specs.Surviving.V32.{any_trellis, line_depth}
use Rattle.command_base.specs.declared.status.Status.TheVariants.{LineLost}
use Rattle.command_base.specs.declared.stop.Stop.{Stop}
use Rattle.command_base.specs.declared.stop.Stop.TheVariants.{Own, Say}
use Rattle.outside_calls.specs.Outputs.{OnlyOutputs}
use Rattle.line_coding.specs.MiddleReading.{Middle, MiddleRead}
use Rattle.command_base.specs.Heard.{Listening, Heard}
use Rattle.recordings.specs.declared.rate.Rate.TheVariants as rates
use Rattle.recordings.specs.Samples.{samples_in}
use Rattle.command_base.specs.Recordings.{sender_of, hearer_of, ReadBehind}
use Rattle.signal_commands.specs.PickingUp.Gives.{AreFollowed, SaysPieces, SaysPart}

-- what a player keeps
pub record Playing : Type 0 where
  pub reader : Middle
  pub listener : Listening

abbrev pub playing_of : Middle → Listening → Playing
playing_of reader listener = record { reader = reader; listener = listener }

-- The samples are read from any state, and of the bits that they gave so far the lines of the pieces were said.
pub record Plays (start now : FolderState) (mode : Mode) (p : Playing) (samples : List Sample) : Type 0 where
  pub bits : List Bool
  pub read : MiddleRead mode line_depth p.reader samples bits
  pub heard : Heard start now p.listener bits
  pub sender_is : p.listener.sender ≡ sender_of mode

-- the line isn't lost, each released label is taken, and no more samples than that were pushed
pub record IsReady (p : Playing) (most : ℕ) : Type 0 where
  pub not_lost : p.reader.reading.decoder.lost ≡ None
  pub all_taken : p.reader.reading.decoder.pending ≡ []
  pub count : p.reader.reading.decoder.count ≤ most
  pub pieces : p.listener.pieces ≤ 516 * most

-- A line was not said, or not whole: it is one of the pieces that the first of these samples give.
pub record SaysSome (start now : FolderState) (mode : Mode) (samples : List Sample) : Type 0 where
  pub first : List Sample
  pub followed : AreFollowed samples first
  pub says : SaysPart start now mode first

-- The line is lost within these samples, and the lines were said of what they give up to there.
pub record LosesLine (start now : FolderState) (mode : Mode) (samples : List Sample) (role : Role) (symbol : ℕ) : Type 0 where
  pub role_is : role ≡ hearer_of mode
  pub lost : LostIs any_trellis line_depth samples (Some symbol)
  pub says : SaysPieces start now mode (take (symbol + 1) samples)

-- why not all of the samples are played
abbrev pub StopsPlay : FolderState → FolderState → Mode → List Sample → Stop → Type 0
StopsPlay start now mode samples (Own answer) =
    (role : Role) × (symbol : ℕ) × (answer ≡ LineLost role symbol) × LosesLine start now mode samples role symbol
StopsPlay start now mode samples (Say fault) = SaysSome start now mode samples
StopsPlay start now mode samples stop = ⊥

-- The octets behind the header, up to this place, are played.
pub record PlayedTo (start now : FolderState) (rec : List ℕ) (mode : Mode) (p : Playing) (at : ℕ) : Type 0 where
  pub content : List ℕ
  pub plays : Plays start now mode p (samples_in content)
  pub whole : length content % 4 ≡ 0
  pub behind : ReadBehind start now rec rates.Trellis mode content at
  pub only : OnlyOutputs start now []
