-- How far a file of bits was heard.
use Rattle.std.specs.Prelude.{◌≡◌, ℕ, List, []}
use Rattle.outside_calls.specs.Folder.{FolderState, OnlyReads}
use Rattle.frame_check.specs.Bits.{bits_of}
use Rattle.shared_terms.specs.declared.limits.TheConstants.{FILE_LIMIT}
use Rattle.command_base.specs.Inputs.{IsWithin, ReadTo}
use Rattle.outside_calls.specs.Outputs.{OnlyOutputs}
use Rattle.frame_commands.specs.Listing.Words.{FramesNames}
use Rattle.command_base.specs.Heard.{Listening, Heard}

-- The first octets of the file, so many, were heard.
pub record HeardTo (start now : FolderState) (n : FramesNames) (listener : Listening) (at : ℕ) : Type 0 where
  pub octets : List ℕ
  pub read : ReadTo start now n.bits FILE_LIMIT at octets
  pub sender_is : listener.sender ≡ n.sender
  pub heard : Heard start now listener (bits_of octets)
  pub only : OnlyOutputs start now []

-- The file is within its limit, and nothing was said.
pub record Begun (start now : FolderState) (n : FramesNames) : Type 0 where
  pub within : IsWithin start n.bits FILE_LIMIT
  pub reads : OnlyReads start now
