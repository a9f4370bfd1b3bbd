-- Whole reads and writes, made of several.
use Rattle.std.proofs.Common.{◌≡◌, ℕ, ◌+◌, ◌-◌, ◌≤◌, List, ◌++◌, Option, arith, length, take, drop, sym, ap, ◌∙◌, subst, length-take-le}
use Rattle.std.proofs.Common.{take-append-drop}
use Rattle.std.proofs.Math.Seq.{take-add, take-append-add}
use Rattle.std.proofs.lemmas.List.{take-append-le, take-take}
use Rattle.std.specs.Io.KnownBytes.{Appends, Consumes, Keeps}
use Rattle.std.proofs.KnownBytes.{Appends-trans, Appends-kept, Consumes-trans}
use borrow.Rule.Slice.PartMut.{put_mid, post_of}
use Rattle.program_folders.specs.Transfer.{AppendsPart}

-- What was written is the piece up to there.
pub record WroteUpTo (old new : Option (List ℕ)) (piece : List ℕ) (written : ℕ) : Type 0 where
  pub within : written ≤ length piece
  pub appended : Appends old new (take written piece)

pub WroteUpTo-more : (old mid new : Option (List ℕ)) (piece : List ℕ) (written count : ℕ) → WroteUpTo old mid piece written
    → count ≤ length piece - written → Appends mid new (take count (take (length piece - written) (drop written piece)))
    → WroteUpTo old new piece (written + count)
WroteUpTo-more old mid new piece written count before fits now = record {
  within = omega (arith, before.within);
  appended = subst (Appends old new)
      (ap (λ l. take written piece ++ l) (take-take count (length piece - written) (drop written piece) fits)
      ∙ sym (take-add written count piece))
      (Appends-trans _ _ _ _ _ before.appended now);
}

pub WroteUpTo-part : (old mid new : Option (List ℕ)) (piece : List ℕ) (written : ℕ) → WroteUpTo old mid piece written → Keeps mid new
    → AppendsPart old new piece
WroteUpTo-part old mid new piece written before kept = (
  take written piece,
  (drop written piece, take-append-drop written piece),
  Appends-kept old mid new (take written piece) before.appended kept,
)

-- What the buffer's front has is what the reader gave.
pub record FilledUpTo (old new : Option (List ℕ)) (buf : List ℕ) (filled : ℕ) : Type 0 where
  pub within : filled ≤ length buf
  pub consumed : Consumes old new (take filled buf)

take-put_mid_more : (at k count : ℕ) (buf part : List ℕ) → at ≤ length buf → count ≤ length part
    → take (at + count) (put_mid at k buf part) ≡ take at buf ++ take count part
take-put_mid_more at k count buf part within fits =
    ap (λ n. take (n + count) (put_mid at k buf part)) (sym (length-take-le at buf within))
    ∙ take-append-add (take at buf) (part ++ post_of at k buf) count
    ∙ ap (λ l. take at buf ++ l) (take-append-le count part (post_of at k buf) fits)

pub FilledUpTo-more : (old mid new : Option (List ℕ)) (buf part : List ℕ) (filled k count : ℕ) → FilledUpTo old mid buf filled
    → count ≤ length part → filled + count ≤ length (put_mid filled k buf part) → Consumes mid new (take count part)
    → FilledUpTo old new (put_mid filled k buf part) (filled + count)
FilledUpTo-more old mid new buf part filled k count before fits within now = record {
  within = within;
  consumed = subst (Consumes old new) (sym (take-put_mid_more filled k count buf part before.within fits))
      (Consumes-trans _ _ _ _ _ before.consumed now);
}
