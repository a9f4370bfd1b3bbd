use Rattle.std.proofs.Common.{◌≤◌, refl, ap, subst, Some, ◌∙◌}
use Rattle.std.proofs.lemmas.Bool.{false≢true}
use Rattle.outside_core.specs.Memory.{MemoryState}
use Rattle.command_tests.proofs.stage.noting.RanFolder.read_at.Goals as goal

-- A read goes on from the counts that stood before the file grew, and nothing is told.
pub returns-clause-only : goal.returns-clause-only
returns-clause-only c =
    let only = c.read_at.ensures.only in
    let grown = c.grow.ensures in
    let said = grown.said ∙ ap (λ (s : MemoryState). s.said) c.note.ensures in
    let reads = grown.reads ∙ ap (λ (s : MemoryState). s.read_faults) c.note.ensures in
    let writes = grown.writes ∙ ap (λ (s : MemoryState). s.write_faults) c.note.ensures in
    let refusals = grown.refusals ∙ ap (λ (s : MemoryState). s.refusals) c.note.ensures in
    record {
      goes_on = record {
        tells = λ name. refl;
        reads = λ name. subst (λ count. count ≤ c.read_at.new.self.read_faults) reads (only.goes_on.reads name);
        writes = λ name. subst (λ count. count ≤ c.read_at.new.self.write_faults) writes (only.goes_on.writes name);
        says = subst (λ count. count ≤ c.read_at.new.self.write_faults) writes only.goes_on.says;
        refused = subst (λ count. count ≤ c.read_at.new.self.refusals) refusals only.goes_on.refused;
      };
      names = λ name told. absurd (false≢true told);
      said = only.said ∙ ap Some said;
      write_faults = λ name. only.write_faults name ∙ writes;
      say_faults = only.say_faults ∙ writes;
    }
