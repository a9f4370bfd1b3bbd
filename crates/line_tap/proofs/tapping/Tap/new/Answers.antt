use Rattle.line_tap.proofs.Cited.{◌≡◌, ◌≤◌, true, [], arith, refl, sym, ◌∙◌, subst, None, Tapping, tapping, line_of, terms_of, no_octets}
use Rattle.line_tap.proofs.Cited.{Tap, agree, Terms}
use Rattle.std.proofs.lemmas.Result.{err_from_is_err_and}
use Rattle.line_tap.proofs.Beginning.{window-low, window-high, other-low, other-high, window-few, after-none}
use Rattle.line_tap.proofs.tapping.Tap.new.Goals as goal

pub returns-in_err-lines : goal.returns-in_err-lines
returns-in_err-lines c = record {
  script = let p = err_from_is_err_and c.from_residual.result c.from_residual.ensures.1 in rw p.1 tt;
  ready = let p = err_from_is_err_and c.from_residual.result c.from_residual.ensures.1 in rw p.1 tt;
  first = let p = err_from_is_err_and c.from_residual.result c.from_residual.ensures.1 in rw p.1 tt;
}

pub returns-in_err-orig-clause-script : goal.returns-in_err-orig-clause-script
returns-in_err-orig-clause-script c = let p = err_from_is_err_and c.from_residual-in_err-orig.result
    c.from_residual-in_err-orig.ensures.1 in rw p.1 tt

pub returns-in_err-orig-clause-ready : goal.returns-in_err-orig-clause-ready
returns-in_err-orig-clause-ready c = let p = err_from_is_err_and c.from_residual-in_err-orig.result
    c.from_residual-in_err-orig.ensures.1 in rw p.1 tt

pub returns-in_err-orig-clause-first : goal.returns-in_err-orig-clause-first
returns-in_err-orig-clause-first c = let p = err_from_is_err_and c.from_residual-in_err-orig.result
    c.from_residual-in_err-orig.ensures.1 in rw p.1 tt

pub returns-in_err-answ-clause-script : goal.returns-in_err-answ-clause-script
returns-in_err-answ-clause-script c = let p = err_from_is_err_and c.from_residual-in_err-answ.result
    c.from_residual-in_err-answ.ensures.1 in rw p.1 tt

pub returns-in_err-answ-clause-ready : goal.returns-in_err-answ-clause-ready
returns-in_err-answ-clause-ready c = let p = err_from_is_err_and c.from_residual-in_err-answ.result
    c.from_residual-in_err-answ.ensures.1 in rw p.1 tt

pub returns-in_err-answ-clause-first : goal.returns-in_err-answ-clause-first
returns-in_err-answ-clause-first c = let p = err_from_is_err_and c.from_residual-in_err-answ.result
    c.from_residual-in_err-answ.ensures.1 in rw p.1 tt

pub returns : goal.returns
returns c =
    let tap : Tap = record {
      script = c.args.script;
      lines = c.in_ok-lines.lines;
      orig = c.in_ok-orig.orig;
      answ = c.in_ok-answ.answ;
      at = 8;
      turn = 0;
    } in
    let x : Tapping = tapping c.args.script no_octets in
    let terms : c.agree-terms.result ≡ terms_of x = c.agree-terms.ensures
    ∙ (λ k. agree (c.offer.ensures.value k) (c.offer-2.ensures.value k)) in
    record {
      script = refl;
      ready =
          record {
            limits = c.is_in_limits.ensures;
            orig = c.in_ok-orig.ensures.idle;
            answ = c.in_ok-answ.ensures.idle;
            early = omega arith;
            within = omega arith;
            what = x;
            turns = [];
            after =
                after-none tap c.agree-terms.result x c.slot_symbols-symbols.result refl terms c.slot_symbols-symbols.ensures.value refl
                refl c.in_ok-orig.ensures.listens c.in_ok-answ.ensures.listens
                (c.in_ok-orig.ensures.reads (line_of x) (sym c.slot_symbols-symbols.ensures.value) refl)
                (c.in_ok-answ.ensures.reads (line_of x) (sym c.slot_symbols-symbols.ensures.value) refl) c.in_ok-orig.ensures.room
                c.in_ok-answ.ensures.room (c.in_ok-lines.ensures 0 (λ role turn. None));
          };
      first =
          after-none tap c.agree-terms.result x c.slot_symbols-symbols.result refl terms c.slot_symbols-symbols.ensures.value refl refl
          c.in_ok-orig.ensures.listens c.in_ok-answ.ensures.listens
          (c.in_ok-orig.ensures.reads (line_of x) (sym c.slot_symbols-symbols.ensures.value) refl)
          (c.in_ok-answ.ensures.reads (line_of x) (sym c.slot_symbols-symbols.ensures.value) refl) c.in_ok-orig.ensures.room
          c.in_ok-answ.ensures.room (c.in_ok-lines.ensures 0 (λ role turn. None));
    }

pub new-requires-2 : goal.new-requires-2
new-requires-2 c = record {
  window_low =
      subst (λ (t : Terms). 1 ≤ t.window_a) (sym c.agree-terms.ensures)
      (other-low c.offer.result c.offer-2.result c.offer.ensures.allowed c.offer-2.ensures.allowed);
  window_high =
      subst (λ (t : Terms). t.window_a ≤ 127) (sym c.agree-terms.ensures)
      (other-high c.offer.result c.offer-2.result c.offer.ensures.allowed c.offer-2.ensures.allowed);
  window_srej =
      subst (λ (t : Terms). t.srej ≡ true → t.window_a ≤ 64) (sym c.agree-terms.ensures) (window-few c.offer.result c.offer-2.result).1;
  low = c.slot_symbols-symbols.ensures.low;
  high = c.slot_symbols-symbols.ensures.high;
}

pub new-requires-3 : goal.new-requires-3
new-requires-3 c = record {
  window_low =
      subst (λ (t : Terms). 1 ≤ t.window_o) (sym c.agree-terms.ensures)
      (window-low c.offer.result c.offer-2.result c.offer.ensures.allowed c.offer-2.ensures.allowed);
  window_high =
      subst (λ (t : Terms). t.window_o ≤ 127) (sym c.agree-terms.ensures)
      (window-high c.offer.result c.offer-2.result c.offer.ensures.allowed c.offer-2.ensures.allowed);
  window_srej =
      subst (λ (t : Terms). t.srej ≡ true → t.window_o ≤ 64) (sym c.agree-terms.ensures) (window-few c.offer.result c.offer-2.result).0;
  low = c.slot_symbols-symbols.ensures.low;
  high = c.slot_symbols-symbols.ensures.high;
}
