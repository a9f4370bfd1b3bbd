use Rattle.std.proofs.Common.{◌++◌, codes, decimal, ap, ◌∙◌}
use Rattle.frame_commands.specs.Explaining.OfferLine.{flag_word}
use Rattle.frame_commands.proofs.xid.offer_line.offer_line.Goals as goal

pub returns : goal.returns
returns c =
    let tx-window = c.put.ensures.text ∙ (λ k. c.new-line.ensures k ++ codes "window tx=" ++ decimal (c.from.ensures k)) in
    let rx-window = c.put-2.ensures.text ∙ (λ k. tx-window k ++ codes " rx=" ++ decimal (c.from-2.ensures k)) in
    let tx-length = c.put-3.ensures.text ∙ (λ k. rx-window k ++ codes " length tx=" ++ decimal (c.from-3.ensures k)) in
    let rx-length = c.put-4.ensures.text ∙ (λ k. tx-length k ++ codes " rx=" ++ decimal (c.from-4.ensures k)) in
    let srej = c.put_flag.ensures.text ∙ ap (λ line. line ++ codes " srej=" ++ flag_word c.args.offer.now.srej) rx-length in
    let check = c.put_flag-2.ensures.text ∙ ap (λ line. line ++ codes " check32=" ++ flag_word c.args.offer.now.check32) srej in
    c.extend.ensures ∙ ap (λ line. line ++ codes "\n") check
