use Rattle.run_commands.proofs.Names.{◌≡◌, ◌++◌, ◌∙◌, sym, ap, arith, word_octets}
use Rattle.run_commands.specs.Soaking.Drawing.{drawn_octets}
use Rattle.run_commands.proofs.Soaking.DrawnWords.{drawn-none, drawn-more}
use Rattle.run_commands.proofs.soak.files.drawn_octets.Goals as goal

pub loop-place-init : goal.loop-place-init
loop-place-init c = c.new-octets.ensures.items ∙ sym (drawn-none c.args.seed c.args.from)

pub loop-place-preserved : goal.loop-place-preserved
loop-place-preserved c =
    c.in_ok-put_word.ensures ∙ ap (λ l. l ++ word_octets c.drawn_word.result) c.loop-place.invariant
    ∙ ap (λ w. drawn_octets c.args.seed c.args.from c.loop-place.place ++ word_octets w) c.drawn_word.ensures
    ∙ sym (drawn-more c.args.seed c.args.from c.loop-place.place)

pub returns : goal.returns
returns c =
    let all : c.loop-place.place ≡ c.args.count = omega (arith, c.loop-place-test.false, c.loop-place.auto.place-end) in
    c.loop-place.invariant ∙ ap (λ n. drawn_octets c.args.seed c.args.from n) all
