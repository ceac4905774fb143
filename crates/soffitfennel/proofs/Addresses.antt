-- The machine values of an address beside an allocator, of which `Held` and `Handle` are made. Assumes `Logic`.
use Rattle.std.proofs.Common.{◌≡◌, ℕ, List, [], ◌∷◌, ◌++◌, refl, ◌∙◌, lit<, Option, None, Some}
use mathlib.Core.Bool.{true, ◌&&◌}
use lib.Dec.{T}
use seplogic.Ra.Ura.{Ura}
use mir.Syntax.{impl, tnil, dnil}
use mir.Raw.{raw as bare}
use mir.Val.{Val, vstruct, vcons, vnil, of_list, has_ty, WT}
use base.Fml.{Fml}
use base.Logic.{ent, guard, never, via, fst∗, snd∗, guard_i}
use types.Logic.{Logic, sem}
use types.Kit.{Item, Goal, Seq, Step, step, ‵, given, ◌$◌, move, drop, fsplit, fjoin, fpick, fpack, feq_i, feq_l}
use types.Kit.{learn, use1}
use contract.Monad.{fact_use}
use denote.RattleType.{RattleType, Valss}
use denote.Builtin.{RawPtr}
use denote.Memory.{lone}
use denote.RawPtr.{Ptr, Testable, block_ptr, null_ptr, ptr_val, in_a_block, lies_at}
use base.Fraction.{full_share}
use denote.Steps.{nothing}
use denote.Param.{layout}
use denote.Param.Laws.{Laws}
use denote.Struct.Struct.{Struct, within}
use Rattle.core.specs.declared.alloc.Allocator.{Ghosts}
use Rattle.core.proofs.alloc.Calls.{Al, handle_tells}
use Rattle.core.proofs.cell.Inside.{Good}
use Rattle.std.specs.declared.alloc.Global.{Global}
use Rattle.std.specs.contracts.impls.GlobalAllocator.TheImpl.{ghosts}
use Rattle.std.proofs.GlobalToken.{dealloc_token-Testable}
use Rattle.std_alloc.specs.Box.Ownership.{box_owns}
use Rattle.std_alloc.proofs.ResultValues.{and_tt}
use Rattle.soffitfennel.specs.OwningParts.{handle_owns}

-- a struct of two machine values
abbrev pub pair : Val → Val → Val
pair v w = vstruct (vcons v (vcons w vnil))

module _ (Z : RattleType) (L : Laws Z) (g : Ghosts Z.Denot) where
  -- an address and an allocator, by value
  abbrev pub Pair : RattleType
  Pair = Struct (record { name = []; args = []; types = []; fields = RawPtr ∷ Z ∷ [] })

  abbrev al : Al
  al = record { row = Z; laws = L; g = g; d = impl [] tnil dnil; drops = impl [] tnil dnil }

  pub pair_good : (p : Ptr) (h : Val) → Good (layout Z) h → T (has_ty (layout Z) h && true) × WT (pair (ptr_val p) h)
  pair_good (block_ptr b o) h fits = (and_tt (has_ty (layout Z) h) fits.0, (tt, (fits.1, tt)))
  pair_good null_ptr h fits =
      (and_tt (has_ty (layout Z) h) fits.0, (record { fits = lit< tt }, (fits.1, tt)))

  module _ {M : Type 1} {𝓤 : Ura M} {𝓛 : Logic 𝓤} {K : Type 0} {Γ : List (Item 𝓤)} {G : Goal 𝓤 𝓛.H} where
    -- it tells its machine value, and leaves the allocator
    pub pair_out : K → (p : Ptr) (a : Z.Denot) (vs : List Val)
        → ((h : Val) → vs ≡ pair (ptr_val p) h ∷ [] → Good (layout Z) h → Seq K 𝓛 (‵ (Z.own_val a (h ∷ [])) ∷ Γ) G)
        → Seq K 𝓛 (‵ (Pair.own_val (p, (a, tt)) vs) ∷ Γ) G
    pair_out t p a vs k =
        fpick t (λ vss. fsplit t $ feq_l t (λ ev. fsplit t $ feq_l t (λ ep. fsplit t $
        handle_tells al t a vss.1.0 (λ h ea fits. move t (1 ∷ []) $ drop t $
        k h (ev ∙ (λ i. vstruct (of_list (ep i ++ (ea i ++ []))) ∷ [])) fits))))

    pub pair_in : K → (p : Ptr) (a : Z.Denot) (h : Val)
        → Step K 𝓛 (‵ (Pair.own_val (p, (a, tt)) (pair (ptr_val p) h ∷ [])) ∷ Γ) G (‵ (Z.own_val a (h ∷ [])) ∷ Γ) G
    pair_in t p a h = step (λ s. let v : Val = pair (ptr_val p) h in
        nothing t $ move t (1 ∷ 0 ∷ []) $ fjoin t $ feq_i t (List Val) (ptr_val p ∷ []) (ptr_val p ∷ []) refl $
        fjoin t $ feq_i t (List Val) (v ∷ []) (v ∷ []) refl $ fjoin t $
        fpack t (Valss (RawPtr ∷ Z ∷ []))
        (within (record { name = []; args = []; types = []; fields = RawPtr ∷ Z ∷ [] }) (p, (a, tt)) (v ∷ []))
        (ptr_val p ∷ [], (h ∷ [], tt)) $ s)

-- what `Global` may free can be compared with null
module _ {M : Type 1} {𝓤 : Ura M} (𝓛 : Logic 𝓤) (R : RattleType) (a : Global) (p : Ptr) (x : R.Denot) where
  abbrev Boxed : Fml
  Boxed = box_owns (ghosts.dealloc_token a) R p x

  pub box_testable : ent 𝓤 (sem 𝓛 Boxed) (guard 𝓤 (Testable p) (sem 𝓛 Boxed))
  box_testable = fact_use 𝓤 (Testable p)
      (via 𝓤 _ (snd∗ 𝓤 (sem 𝓛 (lies_at R full_share p x)) (sem 𝓛 (ghosts.dealloc_token a (bare (lone R.mir)) p)))
      (dealloc_token-Testable 𝓛 a (bare (lone R.mir)) p)) (guard_i 𝓤 (Testable p) (sem 𝓛 Boxed))

module _ (R : RattleType) (a : Global) {M : Type 1} {𝓤 : Ura M} {𝓛 : Logic 𝓤} {K : Type 0} {Γ : List (Item 𝓤)}
    {G : Goal 𝓤 𝓛.H} where
  -- without a value the address is null, else a box is at it
  pub by_value : K → (p : Ptr) (x : Option R.Denot) → (p ≡ null_ptr → x ≡ None → Seq K 𝓛 Γ G)
      → ((b o : ℕ) (y : R.Denot) → p ≡ block_ptr b o → x ≡ Some y → Testable (block_ptr b o)
      → Seq K 𝓛 (‵ (box_owns (ghosts.dealloc_token a) R (block_ptr b o) y) ∷ Γ) G)
      → Seq K 𝓛 (‵ (handle_owns (ghosts.dealloc_token a) R p x) ∷ Γ) G
  by_value t p None none one = fpick t (λ e. drop t $ none e refl)
  by_value t p (Some y) none one =
      in_a_block t p (λ q. box_owns (ghosts.dealloc_token a) R q y)
      (fst∗ 𝓤 (never 𝓤) (sem 𝓛 (ghosts.dealloc_token a (bare (lone R.mir)) null_ptr))) (λ b o e.
      use1 𝓛 (given (Testable (block_ptr b o)) (‵ (box_owns (ghosts.dealloc_token a) R (block_ptr b o) y)))
      (box_testable 𝓛 R a (block_ptr b o) y) $ learn t (λ test. one b o y e refl test))
