-- The word of each cause.
use Rattle.std.specs.Prelude.{ℕ, List, codes}
use Rattle.shared_terms.specs.declared.cause.Cause.{Cause}
use Rattle.shared_terms.specs.declared.cause.Cause.TheVariants.{Word, Count, Number, Range, Repeated, Limit}

abbrev pub cause_word : Cause → List ℕ
cause_word Word = codes "word"
cause_word Count = codes "count"
cause_word Number = codes "number"
cause_word Range = codes "range"
cause_word Repeated = codes "repeated"
cause_word Limit = codes "limit"
