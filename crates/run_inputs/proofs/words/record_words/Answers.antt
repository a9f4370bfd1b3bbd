use Rattle.run_inputs.proofs.Names.{sym}
use Rattle.run_inputs.proofs.Places.{eight}
use Rattle.run_inputs.proofs.words.record_words.Goals as goal

pub returns-clause-names : goal.returns-clause-names
returns-clause-names c =
    let words = eight c.args.words.now c.orig-item.result c.answ-item.result c.script-item.result c.got_o-item.result c.got_a-item.result
    c.trace-item.result c.rec_o-item.result c.rec_a-item.result c.in-len8.len_at_least c.in-len8.len_below
    c.orig-item.is c.answ-item.is c.script-item.is c.got_o-item.is c.got_a-item.is c.trace-item.is c.rec_o-item.is c.rec_a-item.is in
    rw (
      words,
      sym c.as_str.ensures.value,
      sym c.as_str-2.ensures.value,
      sym c.as_str-3.ensures.value,
      sym c.as_str-4.ensures.value,
      sym c.as_str-5.ensures.value,
      sym c.as_str-script.ensures.value,
      sym c.as_str-rec_o.ensures.value,
      sym c.as_str-rec_a.ensures.value,
    ) c.apart.ensures.names
