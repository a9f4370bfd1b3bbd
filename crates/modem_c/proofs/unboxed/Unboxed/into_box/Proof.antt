-- The box is made again of its pointer and of the heap.
use Rattle.std.proofs.Common.{◌≡◌, List, [], ◌∷◌, ◌++◌, refl, sym, ap, subst}
use mir.Syntax.{Dict, a_type, tcons, tnil, dcons, dnil, impl}
use mir.Raw.{raw as bare}
use mir.Val.{Val, vptr}
use mir.MapTy.{inst_fn}
use base.Fraction.{full_share}
use base.Logic.{SProp, ent, emp, id⊢}
use base.Fml.{ftrue, flft}
use prog.Wp.{WpFn}
use types.Kit.{‵, raw, ◌⊛◌, some, later, at_ret, ◌$◌, ◌∵◌, !, qed, by, move, keep, drop, split, split3, join, fsplit3, fjoin, pick}
use types.Kit.{suffices, use0, use1, await, rewrite, feq_i}
use types.Run.{stop, fld, of_opd, no_more, and_then, first, blocks, exec, returns, enter}
use types.ByLocal.{alloc_all, pass_all, free_all, look_at, get, get_in, sets, lands_last, env}
use types.Part.{sub, whole}
use contract.Monad.{fact, fact_i}
use contract.BorrowLft.{◌⊑◌, ⊑_static}
use contract.Running.{tables}
use denote.Exit.{no, yes}
use denote.RattleType.{RattleType, owns}
use denote.Signature.{types_at, plain}
use denote.RawPtr.{block_ptr}
use denote.Steps.{nothing, only}
use denote.Param.{param, arg, layout, bounded}
use denote.Param.Laws.{Laws, arg_laws}
use denote.Param.NoDrop.{glues}
use denote.Triple.Clauses.{Lasts, lasts}
use denote.Triple.Spec.{triple_of}
use denote.Triple.Call.{calls_at_last}
use denote.Triple.Walked.{Stays, stay_dropped, walk_of, Goes-dropped}
use Rattle.core.proofs.alloc.Calls.{Goes-blank}
use Rattle.core.proofs.alloc.Shapes.{after}
use Rattle.core.proofs.atomic.Steps.{fm}
use Rattle.core.proofs.cell.Inside.{Good, one}
use Rattle.std_alloc.proofs.BoxSteps.Form as box
use Rattle.std_alloc.proofs.BoxSteps.Steps.{box_out, box_in}
use Rattle.std_alloc.specs.contracts.boxed.Box as boxed
use Rattle.std_alloc.specs.contracts.boxed.Box.from_raw as callee
use Rattle.std_alloc.proofs.boxed.Box.from_raw.Met.{met}
use Rattle.std.specs.contracts.impls.GlobalAllocator.TheImpl as heap
use Rattle.std.proofs.impls.GlobalAllocator.TheImpl.Met as allocates
use Rattle.std.proofs.alloc.Global.TheLaws as heap_laws
use Rattle.std.proofs.raw_atomic.Walks.{proved_at, leaves}
use Rattle.modem_c.proofs.Pointers.{Heap, Unboxed, pointing, with_heap_good, unboxed_out}
use Rattle.modem_c.specs.contracts.unboxed.Unboxed.into_box.{ended, clauses}
use Rattle.modem_c.specs.contracts.unboxed.Unboxed.into_box.Key.{name as #self}
use Rattle.modem_c.proofs.unboxed.Unboxed.into_box.Statement.{statement}
use Rattle.modem_c.proofs.unboxed.Unboxed.into_box.Code as code

pub into_box_spec : {M : Type 1} → statement M
unfolding Rattle.modem_c.proofs.Destruct++none.drop.Code.code
into_box_spec {M} 𝓤 𝓛 𝓜 𝓡 wired T L d glue =
    let H = 𝓛.H in let 𝓣 = tables 𝓤 H 𝓜 𝓡 𝓡.env in let R : RattleType = param 0 T in let A : RattleType = arg (bare (layout Heap)) no
    Heap in let LA : Laws A = arg_laws (bare (layout Heap)) no Heap heap_laws.the_row_laws refl in
    let En = ended T d in let c = clauses T d 𝓛 𝓜.mem 𝓡.returns in let dd : Dict = impl ("modem_c::Destruct++none::drop" ∷ [])
    (tcons (layout A) tnil) dnil in
    let E : box.Bx = record {
      row = T;
      laws = L;
      al = record { row = A; laws = LA; g = heap.ghosts; d = heap.dict; drops = dd };
    } in let fn = inst_fn
    (bounded (a_type ∷ []) (T, tt) (dcons d dnil)) code.function in
    let B : RattleType = boxed.the_row R Heap heap.ghosts in let U : RattleType = Unboxed R in let stays : Stays En.signature.params
    En.kept = (stay_dropped (plain (λ _. U)) no, (stay_dropped (plain (λ _. Heap)) yes, tt)) in
    proved_at 𝓛 En stays c 𝓜 𝓡 (
      Goes-blank 𝓛 1 (plain (λ _. U)) no (λ κs x f. tt),
      (Goes-dropped 𝓛 1 (plain (λ _. Heap)) yes (λ κs x f. refl), tt),
    ) (#self (bounded (a_type ∷ []) (T, tt) (dcons d dnil))) fn
    (code.unfolded 𝓤 H 𝓜 𝓡 wired (T, tt) d) (λ z are.
    let κs = z.0.0 in let qs = z.0.1 in let it = z.0.3.0 in let alloc = z.0.3.1.0 in let Post : Val
    → SProp 𝓤 = (walk_of 𝓛 En stays c).post z in let Run : List Val → SProp 𝓤 = λ ws. WpFn 𝓤 H 𝓣.C 𝓣.Λ fn ws Post in
    let toks = ‵ (flft κs.0 qs.0) ⊛ ‵ ftrue in let h = one (layout Heap) z.0.4.1.0
    ((heap_laws.the_row_laws.lawful 𝓛).typed alloc z.0.4.1.0 are.1.0) in
    qed 𝓛 ((toks ⊛ ‵ (owns (types_at En.signature.params κs) z.0.3 z.0.4)) ∷ raw ((c κs z.0.3).requires z.1) ∷ []) ∵ split ! $ split ! $
    move ! (2 ∷ []) $ fsplit3 ! $ unboxed_out R ! it z.0.4.0 (λ b o is ws.
    let w : Val = pointing (block_ptr b o) in let k = triple_of 𝓛 (callee.signature T A heap.ghosts heap.dict dd)
    (callee.spec T A heap.ghosts heap.dict dd 𝓛 𝓜.mem 𝓡.returns) in
    let y : k.Ghost = (
      ((κs.0, ([], tt)), (qs.0, (full_share, tt)), tt, (alloc, (block_ptr b o, tt)), (h.0 ∷ [], (vptr b o ∷ [], tt))),
      it.value,
    ) in
    -- the callee's lifetimes are that of T, and 'static for the heap
    let both = ‵ (flft κs.0 qs.0) ⊛ ‵ (flft [] full_share) ⊛ ‵ ftrue in
    rewrite ! 1 (λ (us : List Val). ‵ (Heap.own_val alloc us)) h.1 refl $ move ! (5 ∷ []) $ use1 𝓛 (raw (fact 𝓤 (κs.0 ⊑ T.lives)) ⊛ ‵ ftrue)
    (id⊢ 𝓤 _) $ split ! $ move ! (1 ∷ []) $ drop ! $
    use0 𝓛 (raw (fact 𝓤 ([] ⊑ A.lives))) (fact_i 𝓤 ([] ⊑ A.lives) (emp 𝓤) (⊑_static [])) $ move ! (0 ∷ 2 ∷ []) $ join ! $ move ! (1 ∷ []) $
    join ! $
    move ! (2 ∷ []) $ feq_i ! (List Val) (vptr b o ∷ []) (vptr b o ∷ []) refl $ fjoin ! $ move ! (2 ∷ 0 ∷ []) $ fjoin ! $
    use0 𝓛 (‵ (flft [] full_share)) (𝓛.lfts.lft-nil full_share) $ move ! (0 ∷ 4 ∷ []) $ join ! $ move ! (3 ∷ []) $ join ! $ join ! $ join !
    $ use1 𝓛 (raw (k.pre y)) (id⊢ 𝓤 _) $
    suffices ! (Run (w ∷ h.0 ∷ []))
    (subst (λ (us : List Val). ent 𝓤 (Run (w ∷ h.0 ∷ [])) (Run us)) (sym (λ i. ws i ++ (h.1 i ++ []))) (id⊢ 𝓤 (Run (w ∷ h.0 ∷ [])))) $
    enter ! 𝓣.C 𝓣.Λ fn (w ∷ h.0 ∷ []) Post $ alloc_all ! (λ l. pass_all ! refl ((tt, (tt, tt)), (h.2, tt)) $ let Ev = env fn.locals l in
    sets ! (of_opd ! (get_in ! (fld ! refl (stop !)) (sub ! 0 refl (whole !)))) refl (tt, tt) $ first ! $ blocks ! $
    calls_at_last ! (fm 𝓛 𝓜 𝓡) k (met 𝓤 𝓛 𝓜 𝓡 (code.calls-std_alloc::boxed::Box::from_raw 𝓡.env wired) T A L LA heap.ghosts heap.dict dd
    (allocates.passed 𝓡.env (code.calls-std_heap::GlobalAllocator::allocate 𝓡.env wired)
    (code.calls-std_heap::GlobalAllocator::deallocate 𝓡.env wired) (code.calls-std_heap::GlobalAllocator::grow 𝓡.env wired)
    (code.calls-std_heap::GlobalAllocator::shrink 𝓡.env wired) M 𝓤 𝓛 𝓜 𝓡)
    (glues "modem_c::Destruct++none::drop" 𝓡.env (code.calls-modem_c::Destruct++none::drop 𝓡.env wired) A LA M 𝓤 𝓛 𝓜 𝓡)) y
    (and_then ! (get ! refl) (and_then ! (get ! refl) (no_more !))) (λ u.
    let kept = callee.ended T A heap.ghosts heap.dict dd in
    use1 𝓛 (later (some (λ (r : B.Denot). (both ⊛ ‵ (B.own_val r (u ∷ []))) ⊛ some
    (λ (ls : Lasts kept y.0.0 y.0.3). ‵ (lasts kept y.0.0 y.0.3 ls) ⊛
    (raw (fact 𝓤 (r.value ≡ it.value)) ⊛ raw (fact 𝓤 (r.alloc ≡ alloc))))))) (id⊢ 𝓤 (k.post y u)) $
    await ! tt $ pick ! (λ r. split ! $ move ! (1 ∷ []) $ pick !
    (λ _. split3 ! $ drop ! $ move ! (2 ∷ []) $ split ! $ split3 ! $ move ! (1 ∷ []) $ drop ! $ join ! $ move ! (1 ∷ []) $
    box_out E ! r (u ∷ []) (λ b' o' h' e' us good. box_in E ! r b' o' r.value e' refl $ rewrite ! 0 (λ (xs : List Val). ‵ (B.own_val r xs))
    (sym us) refl $
    let fits : Good (layout B) u = subst (Good (layout B)) (sym (ap only us)) (with_heap_good b' o' h' good) in
    lands_last ! refl fits $ exec ! 𝓣.C 𝓣.Λ Ev (after 2 fn.body) (at_ret Ev Post) $ sets ! (of_opd ! (get ! refl)) refl fits $ nothing ! $
    nothing ! $ fjoin ! $ nothing ! $ fjoin ! $
    returns ! (look_at ! 0 refl) $ free_all ! refl $ keep ! (2 ∷ 0 ∷ 1 ∷ 3 ∷ []) $ by !
    (leaves 𝓛 En stays c z u r (tt, (tt, tt)) (tt, (tt, tt))))))))))
