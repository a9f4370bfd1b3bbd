use Rattle.run_commands.proofs.Names.{◌≡◌, ◌++◌, ◌∷◌, ◌∙◌, [], sym, ap, arith, codes, text_of, role_in_turn, delay_line, noise_line}
use Rattle.run_commands.proofs.Names.{lose_line, soak_lines, Originator, Answerer}
use Rattle.run_commands.proofs.Soaking.Lines.{first-lines, loss-more, text-is}
use Rattle.run_commands.proofs.soak.script.soak_text.Goals as goal

pub loop-n-init : goal.loop-n-init
loop-n-init c =
    let first : c.put_octets.new.octets.items ≡ delay_line ++ 10 ∷ [] =
    c.in_ok-put_octets.ensures ∙ ap (λ l. l ++ codes "delay 3 5\n") c.new-text.ensures.items in
    let next : c.put_noise.new.text.items ≡ (delay_line ++ 10 ∷ []) ++ (noise_line Originator c.args.seed ++ 10 ∷ [])
    = c.in_ok-put_noise.ensures ∙ ap (λ l. l ++ (noise_line Originator c.args.seed ++ 10 ∷ [])) first in
    c.in_ok-put_noise-2.ensures ∙ ap (λ l. l ++ (noise_line Answerer c.args.seed ++ 10 ∷ [])) next
    ∙ first-lines delay_line (noise_line Originator c.args.seed) (noise_line Answerer c.args.seed)

pub loop-n-preserved : goal.loop-n-preserved
loop-n-preserved c =
    c.in_ok-put_loss.ensures ∙ ap (λ l. l ++ (lose_line c.role_in_turn.result c.turn_lost.result ++ 10 ∷ [])) c.loop-n.invariant
    ∙ ap (λ r. text_of (soak_lines c.args.seed c.loop-n.n) ++ (lose_line r c.turn_lost.result ++ 10 ∷ [])) c.role_in_turn.ensures
    ∙ ap (λ t. text_of (soak_lines c.args.seed c.loop-n.n) ++ (lose_line (role_in_turn c.loop-n.n) t ++ 10 ∷ [])) c.turn_lost.ensures
    ∙ sym (loss-more c.args.seed c.loop-n.n)

pub returns : goal.returns
returns c =
    let all : c.loop-n.n ≡ 12 = omega (arith, c.loop-n-test.false, c.loop-n.auto.n-end) in
    c.loop-n.invariant ∙ ap (λ n. text_of (soak_lines c.args.seed n)) all ∙ sym (text-is c.args.seed)
