use Rattle.run_commands.proofs.Names.{◌≡◌, ◌≤◌, ◌∙◌, ℕ, List, length, ap, sym, subst, arith, ScriptSpelling}
use Rattle.run_commands.specs.Soaking.Soak.{soak_script}
use Rattle.run_commands.specs.Soaking.Text.{soak_text}
use Rattle.run_commands.proofs.Soaking.Lines.{whole-short}
use Rattle.run_commands.proofs.Soaking.Spelling.{text-spells}
use Rattle.run_commands.proofs.soak.script.soak_script.Goals as goal

pub read_script-requires : goal.read_script-requires
read_script-requires c =
    let long : length c.in_ok-text.text.items ≡ length (soak_text c.args.seed) = ap (λ (l : List ℕ). length l) c.in_ok-text.ensures in
    let same : length c.deref.result.now ≡ length c.in_ok-text.text.items = ap (λ (l : List ℕ). length l) c.deref.ensures.value in
    let few : length (soak_text c.args.seed) ≤ 504 = whole-short c.args.seed c.ranges.seed.fits in
    omega (arith, long, same, few)

pub returns-in-Ok : goal.returns-in-Ok
returns-in-Ok c =
    let spelled : ScriptSpelling c.deref.result.now (soak_script c.args.seed)
    = subst (λ text. ScriptSpelling text (soak_script c.args.seed)) (sym (c.deref.ensures.value ∙ c.in_ok-text.ensures))
    (text-spells c.noisy_lines_spell.ensures c.args.seed c.ranges.seed.fits) in
    c.in-Ok.ensures.all (soak_script c.args.seed) spelled

pub unreachable-requires : goal.unreachable-requires
unreachable-requires c =
    let spelled : ScriptSpelling c.deref.result.now (soak_script c.args.seed)
    = subst (λ text. ScriptSpelling text (soak_script c.args.seed)) (sym (c.deref.ensures.value ∙ c.in_ok-text.ensures))
    (text-spells c.noisy_lines_spell.ensures c.args.seed c.ranges.seed.fits) in
    let none = sym c.in-Err-Line.field-0-is ∙ c.in-Err-Line.ensures.all (soak_script c.args.seed) spelled in
    absurd cc
