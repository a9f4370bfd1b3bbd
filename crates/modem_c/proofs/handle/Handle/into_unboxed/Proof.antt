-- A null pointer is nothing, and any other one stays the same, with what it owns.
use Rattle.std.proofs.Common.{◌≡◌, List, [], ◌∷◌, ◌++◌, refl, sym, subst, lit<}
use mir.Val.{Val, vcons, vnil}
use base.Logic.{SProp, ent, emp, id⊢}
use base.Fml.{ftrue}
use prog.Wp.{WpFn}
use types.Kit.{‵, raw, ◌⊛◌, at_ret, ◌$◌, ◌∵◌, !, qed, by, move, keep, split, fsplit, fjoin, use0, use1, suffices}
use types.Run.{stop, fld, lit, of_opd, bin, no_more, and_then, first, branches, exec, returns, enter}
use types.ByLocal.{alloc_all, pass_all, free_all, look_at, get, get_in, sets, sets_last, env}
use types.Part.{agg, sub, whole}
use types.Match.{live}
use contract.Monad.{fact, fact_i}
use contract.Running.{tables}
use denote.Exit.{yes}
use denote.RattleType.{RattleType, owns}
use denote.Signature.{types_at, type_at, plain}
use denote.RawPtr.{Ptr, block_ptr, null_ptr, tests_null}
use denote.Steps.{nothing}
use denote.Triple.Walked.{Stays, stay_dropped, walk_of, Goes-dropped}
use Rattle.core.proofs.alloc.Shapes.{after}
use Rattle.core.proofs.option.Made.{Some-of, none_of}
use Rattle.std.specs.declared.option.Option.TheVariants.{None, Some}
use Rattle.std.proofs.raw_atomic.Walks.{proved_at, leaves}
use Rattle.modem_c.specs.Held.{heap}
use Rattle.modem_c.proofs.Pointers.{M', Hd, pointing, Unboxed, unboxed_in, handle_out, either}
use Rattle.modem_c.specs.contracts.handle.Handle.into_unboxed.{ended, clauses}
use Rattle.modem_c.specs.contracts.handle.Handle.into_unboxed.Key.{name as #self}
use Rattle.modem_c.proofs.handle.Handle.into_unboxed.Statement.{statement}
use Rattle.modem_c.proofs.handle.Handle.into_unboxed.Code as code

pub into_unboxed_spec : {M : Type 1} → statement M
into_unboxed_spec 𝓤 𝓛 𝓜 𝓡 wired =
    let H = 𝓛.H in let 𝓣 = tables 𝓤 H 𝓜 𝓡 𝓡.env in let En = ended in let c = clauses 𝓛 𝓜.mem 𝓡.returns in let fn = code.function in
    let U : RattleType = Unboxed M' in let stays : Stays En.signature.params En.kept = (stay_dropped (plain (λ _. Hd)) yes, tt) in
    proved_at 𝓛 En stays c 𝓜 𝓡 (Goes-dropped 𝓛 0 (plain (λ _. Hd)) yes (λ κs x f. refl), tt) #self fn (code.unfolded 𝓤 H 𝓜 𝓡 wired)
    (λ z are.
    let κs = z.0.0 in let it = z.0.3.0 in let Post : Val → SProp 𝓤 = (walk_of 𝓛 En stays c).post z in let Run : List Val
    → SProp 𝓤 = λ ws. WpFn 𝓤 H 𝓣.C 𝓣.Λ fn ws Post in let Out : RattleType = type_at En.signature.result κs in
    qed 𝓛 ((‵ ftrue ⊛ ‵ (owns (types_at En.signature.params κs) z.0.3 z.0.4)) ∷ raw ((c κs z.0.3).requires z.1) ∷ []) ∵ split ! $ move !
    (1 ∷ []) $ fsplit ! $
    handle_out ! it z.0.4.0 (λ ws. either ! heap it.at it.value
    -- at null
    (λ is empty. let w : Val = pointing null_ptr in let wss : z.0.4.0 ≡ w ∷ [] = subst (λ (p : Ptr). z.0.4.0 ≡ pointing p ∷ []) is ws in
    suffices ! (Run (w ∷ [])) (subst (λ (us : List Val). ent 𝓤 (Run (w ∷ [])) (Run us)) (sym (λ i. wss i ++ [])) (id⊢ 𝓤 (Run (w ∷ [])))) $
    enter ! 𝓣.C 𝓣.Λ fn (w ∷ []) Post $ alloc_all !
    (λ l. pass_all ! refl ((tt, (record { fits = lit< tt }, tt)), tt) $ let Ev = env fn.locals l in
    sets ! (of_opd ! (get_in ! (fld ! refl (stop !)) (sub ! 0 refl (whole !)))) refl (tt, record { fits = lit< tt }) $ sets !
    (bin ! (get ! refl) (lit ! tt) tt) refl (tt, tt) $ first ! $ branches ! (get ! refl)
    (λ _. sets_last ! (agg ! (and_then ! (lit ! tt) (no_more !))) refl (tt, (record { fits = lit< tt }, tt)) $ exec ! 𝓣.C 𝓣.Λ Ev
    (after 3 fn.body) (at_ret Ev Post) $ sets ! (of_opd ! (get ! refl)) refl (tt, (record { fits = lit< tt }, tt)) $
    use0 𝓛 (‵ (Out.own_val None (live 0 vnil ∷ []))) (none_of 𝓛 U) $ use0 𝓛 (raw (fact 𝓤 (it.value ≡ None)))
    (fact_i 𝓤 (it.value ≡ None) (emp 𝓤) empty) $ nothing ! $ nothing ! $ fjoin ! $
    returns ! (look_at ! 0 refl) $ free_all ! refl $ keep ! (4 ∷ 0 ∷ 2 ∷ 1 ∷ []) $ by !
    (leaves 𝓛 En stays c z (live 0 vnil) None (tt, tt) (tt, tt))) (λ wrong. absurd wrong)))
    -- at a block
    (λ b o y is full ok. let w : Val = pointing (block_ptr b o) in let wss : z.0.4.0 ≡ w ∷ [] = subst
    (λ (p : Ptr). z.0.4.0 ≡ pointing p ∷ []) is ws in
    let some : Val = live 1 (vcons w vnil) in let made : U.Denot = record { at = block_ptr b o; value = y } in
    suffices ! (Run (w ∷ [])) (subst (λ (us : List Val). ent 𝓤 (Run (w ∷ [])) (Run us)) (sym (λ i. wss i ++ [])) (id⊢ 𝓤 (Run (w ∷ [])))) $
    enter ! 𝓣.C 𝓣.Λ fn (w ∷ []) Post $ alloc_all ! (λ l. pass_all ! refl ((tt, (tt, tt)), tt) $ let Ev = env fn.locals l in
    sets ! (of_opd ! (get_in ! (fld ! refl (stop !)) (sub ! 0 refl (whole !)))) refl (tt, tt) $ sets !
    (bin ! (get ! refl) (lit ! tt) (tests_null (block_ptr b o) ok)) refl (tt, tt) $ first ! $ branches ! (get ! refl)
    (λ wrong. absurd wrong)
    (λ _. sets ! (of_opd ! (get ! refl)) refl (tt, tt) $ sets ! (agg ! (and_then ! (get ! refl) (no_more !))) refl (tt, (tt, tt)) $
    sets_last ! (agg ! (and_then ! (lit ! tt) (and_then ! (get ! refl) (no_more !)))) refl
    (tt, (record { fits = lit< tt }, ((tt, tt), tt))) $
    exec ! 𝓣.C 𝓣.Λ Ev (after 3 fn.body) (at_ret Ev Post) $ sets ! (of_opd ! (get ! refl)) refl
    (tt, (record { fits = lit< tt }, ((tt, tt), tt))) $ unboxed_in M' ! b o y $
    use1 𝓛 (‵ (Out.own_val (Some made) (some ∷ []))) (Some-of 𝓛 U made w) $ use0 𝓛 (raw (fact 𝓤 (it.value ≡ Some y)))
    (fact_i 𝓤 (it.value ≡ Some y) (emp 𝓤) full) $ nothing ! $ nothing ! $ fjoin ! $
    returns ! (look_at ! 0 refl) $ free_all ! refl $ keep ! (4 ∷ 0 ∷ 2 ∷ 1 ∷ []) $ by !
    (leaves 𝓛 En stays c z some (Some made) (tt, tt) (tt, tt)))))))
