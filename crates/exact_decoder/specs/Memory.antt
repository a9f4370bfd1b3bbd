-- What a decoder keeps of the survivors, sealed: how it is kept is this crate's own, and nothing that is said of a decoder elsewhere
-- turns on it.
use Rattle.exact_decoder.specs.Kept.{Kept}

pub data Memory : Type 0 where
  Sealed : Kept → Memory

-- no other crate unfolds this
unfoldable pub opened : Memory → Kept
opened (Sealed kept) = kept
