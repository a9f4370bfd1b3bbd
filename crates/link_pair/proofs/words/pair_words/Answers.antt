use Rattle.link_pair.proofs.Names.{rules, ◌≡◌, Some, None, map, sym, subst, arith, nat_tests, named, names_of}
use Rattle.std.proofs.Common.{string_bytes}
use Rattle.link_pair.proofs.Reading.{none-few, none-many, listed}
use Rattle.link_pair.proofs.words.pair_words.Goals.{in_default-via-then-words-lt11, in_default-via-else-words-lt11+else-words-lt12}
use Rattle.link_pair.proofs.words.pair_words.Goals as goal

pub returns-in_default-clause-names : goal.returns-in_default-clause-names
returns-in_default-clause-names c = elim c.in_default.branch [
  | in_default-via-then-words-lt11 w ↦ sym (none-few string_bytes c.args.words.now (grind (arith, nat_tests)))
  | in_default-via-else-words-lt11+else-words-lt12 w ↦ sym (none-many string_bytes c.args.words.now (grind (arith, nat_tests)))
]

pub returns-then-not-are_apart-clause-names : goal.returns-then-not-are_apart-clause-names
returns-then-not-are_apart-clause-names c =
    let list = listed c.args.words.now c.orig_1-item.result c.answ_1-item.result c.orig_2-item.result c.answ_2-item.result
    c.script-item.result c.got_o_1-item.result c.got_a_1-item.result c.got_o_2-item.result c.got_a_2-item.result c.trace_1-item.result
    c.trace_2-item.result c.in-len11.len_at_least c.in-len11.len_below c.orig_1-item.is c.answ_1-item.is c.orig_2-item.is
    c.answ_2-item.is c.script-item.is c.got_o_1-item.is c.got_a_1-item.is c.got_o_2-item.is c.got_a_2-item.is c.trace_1-item.is
    c.trace_2-item.is in
    subst (λ ws. None ≡ names_of (map string_bytes ws)) (sym list) (search rules)

pub returns-clause-names : goal.returns-clause-names
returns-clause-names c =
    let list = listed c.args.words.now c.orig_1-item.result c.answ_1-item.result c.orig_2-item.result c.answ_2-item.result
    c.script-item.result c.got_o_1-item.result c.got_a_1-item.result c.got_o_2-item.result c.got_a_2-item.result c.trace_1-item.result
    c.trace_2-item.result c.in-len11.len_at_least c.in-len11.len_below c.orig_1-item.is c.answ_1-item.is c.orig_2-item.is
    c.answ_2-item.is c.script-item.is c.got_o_1-item.is c.got_a_1-item.is c.got_o_2-item.is c.got_a_2-item.is c.trace_1-item.is
    c.trace_2-item.is in
    subst (λ ws. Some (named
    (record {
      script = c.as_str-script.result;
      links = record {
        first = record {
          orig = c.as_str.result;
          answ = c.as_str-2.result;
          got_o = c.as_str-3.result;
          got_a = c.as_str-4.result;
          trace = c.as_str-5.result;
        };
        second = record {
          orig = c.as_str-6.result;
          answ = c.as_str-7.result;
          got_o = c.as_str-8.result;
          got_a = c.as_str-9.result;
          trace = c.as_str-10.result;
        };
      };
    })) ≡ names_of
    (map string_bytes ws)) (sym list) (search rules)
