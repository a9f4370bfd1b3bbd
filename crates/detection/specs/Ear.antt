-- For which bits an ear stands.
use Rattle.std.specs.Prelude.{Bool, List}
use Rattle.bit_stuffing.specs.Deframer.{DeframerStands}
use Rattle.detection.specs.Reader.{ReaderStands}
use Rattle.detection.specs.declared.ear.Ear.{Ear}

-- both of its readers stand for these bits
pub record HasHeard (ear : Ear) (bits : List Bool) : Type 0 where
  pub deframer : DeframerStands ear.deframer bits
  pub reader : ReaderStands ear.reader bits
