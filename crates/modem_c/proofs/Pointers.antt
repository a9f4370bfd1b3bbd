-- A struct that is one pointer, as the machine has it: an `Unboxed`, which always leads to a block, and a `Handle`, which may be null.
-- Assumes `Logic`.
use Rattle.std.proofs.Common.{◌≡◌, ℕ, List, [], ◌∷◌, ◌++◌, refl, subst}
use seplogic.Ra.Ura.{Ura}
use mathlib.Core.Bool.{true, ◌&&◌}
use lib.Dec.{T}
use mir.Val.{Val, vptr, vstruct, vcons, vnil, of_list, has_ty, WT}
use mir.Raw.{raw as bare}
use base.Fraction.{full_share}
use base.Fml.{ftrue}
use base.Logic.{ent, guard, guard_i, never, never_e, via, fst∗, snd∗}
use types.Logic.{Logic, sem}
use types.Kit.{Item, Goal, Seq, Step, step, ‵, given, learn, use1, ◌$◌, drop, fsplit, fjoin, fpick, fpack, feq_i, feq_l}
use contract.Monad.{fact_use}
use denote.Memory.{lone}
use denote.RattleType.{RattleType, Valss}
use denote.Builtin.{RawPtr}
use denote.RawPtr.{Ptr, ptr_val, block_ptr, null_ptr, lies_at, in_a_block, Testable}
use denote.Steps.{nothing}
use denote.Param.{layout}
use denote.Struct.Struct.{within}
use denote.Struct.Owning.{shape}
use Rattle.core.proofs.cell.Inside.{Good}
use Rattle.std_alloc.proofs.ResultValues.{and_tt}
use Rattle.std.specs.declared.option.Option.{Option}
use Rattle.std.specs.declared.option.Option.TheVariants.{None, Some}
use Rattle.std.specs.declared.alloc.Global.{Global}
use Rattle.std.specs.Box.Ownership.{box_owns}
use Rattle.std.specs.contracts.alloc.Global as heap
use Rattle.std.proofs.GlobalToken.{dealloc_token-Testable}
use Rattle.modem_c.specs.Held.{chunk, held}
use Rattle.modem_c.specs.contracts.machine.Machine as machine
use Rattle.modem_c.specs.contracts.unboxed.Unboxed as unboxed
use Rattle.modem_c.specs.contracts.handle.Handle as handle

abbrev pub M' : RattleType
M' = machine.the_row

abbrev pub Heap : RattleType
Heap = heap.the_row

abbrev pub Hd : RattleType
Hd = handle.the_row

-- the struct
abbrev pub pointing : Ptr → Val
pointing p = vstruct (vcons (ptr_val p) vnil)

-- a pointer and the heap, as a box is and what `into_raw_with_allocator` answers: of its type where the heap is
abbrev pub with_heap : Val → Val → Val
with_heap p h = vstruct (vcons p (vcons h vnil))

pub with_heap_good : (b o : ℕ) (h : Val) → Good (layout Heap) h → T (has_ty (layout Heap) h && true) × WT (with_heap (vptr b o) h)
with_heap_good b o h good = (and_tt (has_ty (layout Heap) h) good.0, (tt, (good.1, tt)))

-- its values are the struct, where they are said in parts
pub put_together : (vs ps : List Val) (p : Ptr) → vs ≡ vstruct (of_list (ps ++ [])) ∷ [] → ps ≡ ptr_val p ∷ [] → vs ≡ pointing p ∷ []
put_together vs ps p all part = subst (λ (it : List Val). vs ≡ vstruct (of_list (it ++ [])) ∷ []) part all

module _ (T : RattleType) where
  abbrev pub Unboxed : RattleType
  Unboxed = unboxed.the_row T

  module _ {M : Type 1} {𝓤 : Ura M} {𝓛 : Logic 𝓤} {K : Type 0} {Γ : List (Item 𝓤)} {G : Goal 𝓤 𝓛.H} where
    -- an `Unboxed` is apart the struct and the box; its pointer isn't null, since no box lies there
    pub unboxed_out : K → (it : Unboxed.Denot) (vs : List Val)
        → ((b o : ℕ) → it.at ≡ block_ptr b o → vs ≡ pointing (block_ptr b o) ∷ []
        → Seq K 𝓛 (‵ (box_owns chunk T (block_ptr b o) it.value) ∷ Γ) G)
        → Seq K 𝓛 (‵ (Unboxed.own_val it vs) ∷ Γ) G
    unboxed_out t it vs rest =
        fsplit t $ fpick t (λ vss. fsplit t $ feq_l t (λ all. fsplit t $ feq_l t (λ part. drop t $
        in_a_block t it.at (λ p. box_owns chunk T p it.value) (fst∗ 𝓤 (never 𝓤) (sem 𝓛 (chunk (bare (lone T.mir)) null_ptr)))
        (λ b o is. rest b o is (subst (λ (p : Ptr). vs ≡ pointing p ∷ []) is (put_together vs vss.0 it.at all part))))))

    -- and together again
    pub unboxed_in : K → (b o : ℕ) (x : T.Denot)
        → Step K 𝓛 (‵ (Unboxed.own_val (record { at = block_ptr b o; value = x }) (pointing (block_ptr b o) ∷ [])) ∷ Γ) G
        (‵ (box_owns chunk T (block_ptr b o) x) ∷ Γ) G
    unboxed_in t b o x = step (λ s. let p : Ptr = block_ptr b o in
        nothing t $ feq_i t (List Val) (ptr_val p ∷ []) (ptr_val p ∷ []) refl $ fjoin t $ feq_i t (List Val) (pointing p ∷ [])
        (pointing p ∷ []) refl $ fjoin t $
        fpack t (Valss (RawPtr ∷ [])) (within (shape (unboxed.the_type T)) (p, tt) (pointing p ∷ [])) (ptr_val p ∷ [], tt) $ fjoin t $ s)

module _ {M : Type 1} {𝓤 : Ura M} {𝓛 : Logic 𝓤} {K : Type 0} {Γ : List (Item 𝓤)} {G : Goal 𝓤 𝓛.H} where
  -- the same of a handle
  pub handle_out : K → (it : Hd.Denot) (vs : List Val) → (vs ≡ pointing it.at ∷ [] → Seq K 𝓛 (‵ (held M' it.at it.value) ∷ Γ) G)
      → Seq K 𝓛 (‵ (Hd.own_val it vs) ∷ Γ) G
  handle_out t it vs rest =
      fsplit t $ fpick t (λ vss. fsplit t $ feq_l t
      (λ all. fsplit t $ feq_l t (λ part. drop t $ rest (put_together vs vss.0 it.at all part))))

  pub handle_in : K → (p : Ptr) (x : Option M'.Denot)
      → Step K 𝓛 (‵ (Hd.own_val (record { at = p; value = x }) (pointing p ∷ [])) ∷ Γ) G (‵ (held M' p x) ∷ Γ) G
  handle_in t p x = step (λ s.
      nothing t $ feq_i t (List Val) (ptr_val p ∷ []) (ptr_val p ∷ []) refl $ fjoin t $ feq_i t (List Val) (pointing p ∷ [])
      (pointing p ∷ []) refl $ fjoin t $
      fpack t (Valss (RawPtr ∷ [])) (within (shape handle.the_type) (p, tt) (pointing p ∷ [])) (ptr_val p ∷ [], tt) $ fjoin t $ s)

-- the right to free a block tells that its pointer may be compared with null
module _ {M : Type 1} {𝓤 : Ura M} (𝓛 : Logic 𝓤) (alloc : Global) (p : Ptr) (x : M'.Denot) where
  pub tested : ent 𝓤 (sem 𝓛 (box_owns chunk M' p x)) (guard 𝓤 (Testable p) (sem 𝓛 (box_owns chunk M' p x)))
  tested = fact_use 𝓤 (Testable p)
      (via 𝓤 _ (snd∗ 𝓤 (sem 𝓛 (lies_at M' full_share p x)) (sem 𝓛 (chunk (bare (lone M'.mir)) p)))
      (dealloc_token-Testable 𝓛 alloc (bare (lone M'.mir)) p)) (guard_i 𝓤 (Testable p) (sem 𝓛 (box_owns chunk M' p x)))

module _ {M : Type 1} {𝓤 : Ura M} {𝓛 : Logic 𝓤} {K : Type 0} {Γ : List (Item 𝓤)} {G : Goal 𝓤 𝓛.H} where
  -- a handle leads nowhere, at null, or to a box
  pub either : K → Global → (p : Ptr) (x : Option M'.Denot) → (p ≡ null_ptr → x ≡ None → Seq K 𝓛 Γ G)
      → ((b o : ℕ) (y : M'.Denot) → p ≡ block_ptr b o → x ≡ Some y → Testable (block_ptr b o)
      → Seq K 𝓛 (‵ (box_owns chunk M' (block_ptr b o) y) ∷ Γ) G) → Seq K 𝓛 (‵ (held M' p x) ∷ Γ) G
  either t alloc null_ptr None nowhere there = drop t $ nowhere refl refl
  either t alloc null_ptr (Some y) nowhere there = use1 𝓛 (given ⊥ (‵ ftrue)) (never_e 𝓤 _) $ learn t (λ wrong. absurd wrong)
  either t alloc (block_ptr b o) None nowhere there = use1 𝓛 (given ⊥ (‵ ftrue)) (never_e 𝓤 _) $ learn t (λ wrong. absurd wrong)
  either t alloc (block_ptr b o) (Some y) nowhere there =
      use1 𝓛 (given (Testable (block_ptr b o)) (‵ (box_owns chunk M' (block_ptr b o) y))) (tested 𝓛 alloc (block_ptr b o) y) $ learn t
      (λ ok. there b o y refl refl ok)
