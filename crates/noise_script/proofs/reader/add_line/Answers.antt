use Rattle.noise_script.proofs.Names.{inr, refl, SpellsLine, words_of}
use Rattle.noise_script.proofs.Entries.{holds-more}
use Rattle.noise_script.proofs.Progress.{too-many, not-full}
use Rattle.noise_script.proofs.reader.add_line.Goals as goal

pub returns-then-is_full-clause-fault : goal.returns-then-is_full-clause-fault
returns-then-is_full-clause-fault c said h a =
    let spelled : SpellsLine (words_of c.args.line.now) c.in-Ok-Some.entry = rw c.in-Ok-Some.field-0-is at c.in-Ok-Some.ensures in (
      refl,
      inr (too-many _ _ _ _ _ _ _ spelled c.form.ensures c.if-is_full.true (c.is_full.ensures said h a) c.bound.ensures c.too_many.ensures),
    )

pub returns-clause-ok : goal.returns-clause-ok
returns-clause-ok c said h a =
    let spelled : SpellsLine (words_of c.args.line.now) c.in-Ok-Some.entry = rw c.in-Ok-Some.field-0-is at c.in-Ok-Some.ensures in
    let few = not-full said c.in-Ok-Some.entry c.is_full.result c.if-is_full.false (c.is_full.ensures said h a) in
    inr (c.in-Ok-Some.entry, spelled, few, holds-more c.args.draft.now c.add.new.self said c.in-Ok-Some.entry h c.in_ok-add.ensures few)
