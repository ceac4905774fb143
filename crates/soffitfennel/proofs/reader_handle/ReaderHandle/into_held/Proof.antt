-- `into_held` gives the address its type again, or finds null.
use Rattle.std.proofs.Common.{◌≡◌, List, [], ◌∷◌, ◌++◌, refl, sym, ap, ◌∙◌, subst, lit<, None, Some}
use mir.Val.{Val, vcons, vnil}
use base.Logic.{SProp, ent, emp, id⊢}
use base.Fml.{ftrue}
use prog.Wp.{WpFn}
use types.Kit.{‵, raw, ◌⊛◌, at_ret, ◌$◌, ◌∵◌, !, qed, by, move, keep, split, fsplit, fjoin, suffices, use0, use1}
use types.Run.{stop, fld, lit, of_opd, bin, no_more, and_then, first, branches, exec, returns, enter}
use types.Match.{live}
use types.ByLocal.{alloc_all, pass_all, free_all, look_at, get, get_in, sets, sets_last, env}
use types.Part.{agg, sub, whole}
use contract.Monad.{fact, fact_i}
use contract.Running.{tables}
use denote.Exit.{yes}
use denote.RattleType.{RattleType, owns}
use denote.Signature.{types_at, plain}
use denote.Param.{layout}
use denote.RawPtr.{Ptr, block_ptr, null_ptr, ptr_val, tests_null}
use denote.Steps.{nothing}
use denote.Triple.Walked.{Stays, stay_dropped, walk_of, Goes-dropped}
use Rattle.core.proofs.atomic.Steps.{Ptr-Good}
use Rattle.core.proofs.cell.Inside.{Good}
use Rattle.core.proofs.option.Made.{Some-of, none_of}
use Rattle.core.specs.contracts.option.Option as option
use Rattle.std_alloc.proofs.ResultValues.{and_tt}
use Rattle.std.proofs.raw_atomic.Walks.{proved_at, leaves}
use Rattle.std.specs.contracts.alloc.Global as heap
use Rattle.std.proofs.alloc.Global.TheLaws as heap_laws
use Rattle.std.specs.contracts.impls.GlobalAllocator.TheImpl.{ghosts}
use Rattle.soffitfennel.proofs.Addresses.{Pair, pair, by_value, pair_good, pair_in, pair_out}
use Rattle.soffitfennel.specs.contracts.held.Held as held
use Rattle.soffitfennel.specs.contracts.reader_handle.ReaderHandle as handle
use Rattle.t1_link.specs.contracts.reader_end.ReaderEnd as reader
use Rattle.soffitfennel.specs.contracts.reader_handle.ReaderHandle.into_held.{ended, clauses}
use Rattle.soffitfennel.specs.contracts.reader_handle.ReaderHandle.into_held.Key.{name as #self}
use Rattle.soffitfennel.proofs.reader_handle.ReaderHandle.into_held.Statement.{statement}
use Rattle.soffitfennel.proofs.reader_handle.ReaderHandle.into_held.Code as code

pub into_held_spec : {M : Type 1} → statement M
into_held_spec 𝓤 𝓛 𝓜 𝓡 wired =
    let 𝓣 = tables 𝓤 𝓛.H 𝓜 𝓡 𝓡.env in
    let R : RattleType = reader.the_row in
    let Z : RattleType = heap.the_row in
    let LZ = heap_laws.the_row_laws in
    let From : RattleType = handle.the_row in
    let To : RattleType = held.the_row R Z ghosts in
    let Out : RattleType = option.the_row To in
    let c = clauses 𝓛 𝓜.mem 𝓡.returns in
    let fn = code.function in
    let stayed : Stays (ended).signature.params (ended).kept = (stay_dropped (plain (λ _. From)) yes, tt) in
    proved_at 𝓛 ended stayed c 𝓜 𝓡 (Goes-dropped 𝓛 0 (plain (λ _. From)) yes (λ κs x f. refl), tt)
    #self fn (code.unfolded 𝓤 𝓛.H 𝓜 𝓡 wired) (λ z are.
    let v = z.0.3.0 in let a = v.alloc in
    let Post : Val → SProp 𝓤 = (walk_of 𝓛 ended stayed c).post z in
    let Run : List Val → SProp 𝓤 = λ ws. WpFn 𝓤 𝓛.H 𝓣.C 𝓣.Λ fn ws Post in
    qed 𝓛 ((‵ ftrue ⊛ ‵ (owns (types_at (ended).signature.params tt) z.0.3 z.0.4))
    ∷ raw ((c tt z.0.3).requires z.1) ∷ []) ∵
    split ! $ move ! (1 ∷ []) $ fsplit ! $ fsplit ! $
    use1 𝓛 (‵ ((Pair Z LZ ghosts).own_val (v.at, (a, tt)) z.0.4.0)) (id⊢ 𝓤 _) $
    pair_out Z LZ ghosts ! v.at a z.0.4.0 (λ h us fits. move ! (1 ∷ []) $
    by_value R a ! v.at v.value
    (λ null none.
    let w : Val = pair (ptr_val null_ptr) h in
    let ws : z.0.4.0 ≡ w ∷ [] = us ∙ ap (λ (p : Ptr). pair (ptr_val p) h ∷ []) null in
    let nothing_there : Val = live 0 vnil in
    let good : Good (layout Out) nothing_there = (tt, (record { fits = lit< tt }, tt)) in
    -- [the allocator; no other parameter; no token; no `requires`]
    suffices ! (Run (w ∷ []))
    (subst (λ (vs : List Val). ent 𝓤 (Run (w ∷ [])) (Run vs)) (sym (λ i. ws i ++ [])) (id⊢ 𝓤 (Run (w ∷ [])))) $
    enter ! 𝓣.C 𝓣.Λ fn (w ∷ []) Post $ alloc_all ! (λ l. pass_all ! refl (pair_good Z LZ ghosts null_ptr h fits, tt) $
    let Ev = env fn.locals l in
    sets ! (of_opd ! (get_in ! (fld ! refl (stop !)) (sub ! 0 refl (whole !)))) refl (Ptr-Good null_ptr) $
    sets ! (of_opd ! (get_in ! (fld ! refl (stop !)) (sub ! 1 refl (whole !)))) refl fits $
    sets ! (bin ! (get ! refl) (lit ! tt) tt) refl (tt, tt) $ first ! $ branches ! (get ! refl)
    (λ _. sets_last ! (agg ! (and_then ! (lit ! tt) (no_more !))) refl good $
    exec ! 𝓣.C 𝓣.Λ Ev code.Mir.t-5 (at_ret Ev Post) $ sets ! (of_opd ! (get ! refl)) refl good $
    use0 𝓛 (‵ (Out.own_val None (nothing_there ∷ []))) (none_of 𝓛 To) $
    use0 𝓛 (raw (fact 𝓤 (v.value ≡ None))) (fact_i 𝓤 (v.value ≡ None) (emp 𝓤) none) $
    nothing ! $ nothing ! $ fjoin ! $
    returns ! (look_at ! 0 refl) $ free_all ! refl $ keep ! (4 ∷ 0 ∷ 2 ∷ 1 ∷ []) $
    by ! (leaves 𝓛 ended stayed c z nothing_there None (tt, tt) (tt, tt)))
    (λ wrong. absurd wrong)))
    (λ b o x there some test.
    let w : Val = pair (ptr_val (block_ptr b o)) h in
    let ws : z.0.4.0 ≡ w ∷ [] = us ∙ ap (λ (p : Ptr). pair (ptr_val p) h ∷ []) there in
    let good = pair_good Z LZ ghosts (block_ptr b o) h fits in
    let out : Val = live 1 (vcons w vnil) in
    let out_good : Good (layout Out) out = (and_tt _ good.0, (record { fits = lit< tt }, (good.1, tt))) in
    let made : To.Denot = record { at = block_ptr b o; alloc = a; value = x } in
    -- [the memory; the allocator; no other parameter; no token; no `requires`]
    suffices ! (Run (w ∷ []))
    (subst (λ (vs : List Val). ent 𝓤 (Run (w ∷ [])) (Run vs)) (sym (λ i. ws i ++ [])) (id⊢ 𝓤 (Run (w ∷ [])))) $
    enter ! 𝓣.C 𝓣.Λ fn (w ∷ []) Post $ alloc_all ! (λ l. pass_all ! refl (good, tt) $
    let Ev = env fn.locals l in
    sets ! (of_opd ! (get_in ! (fld ! refl (stop !)) (sub ! 0 refl (whole !)))) refl (tt, tt) $
    sets ! (of_opd ! (get_in ! (fld ! refl (stop !)) (sub ! 1 refl (whole !)))) refl fits $
    sets ! (bin ! (get ! refl) (lit ! tt) (tests_null (block_ptr b o) test)) refl (tt, tt) $
    first ! $ branches ! (get ! refl)
    (λ wrong. absurd wrong)
    (λ _. sets ! (of_opd ! (get ! refl)) refl (tt, tt) $
    sets ! (agg ! (and_then ! (get ! refl) (and_then ! (get ! refl) (no_more !)))) refl good $
    sets_last ! (agg ! (and_then ! (lit ! tt) (and_then ! (get ! refl) (no_more !)))) refl out_good $
    exec ! 𝓣.C 𝓣.Λ Ev code.Mir.t-5 (at_ret Ev Post) $ sets ! (of_opd ! (get ! refl)) refl out_good $
    move ! (1 ∷ []) $ pair_in Z LZ ghosts ! (block_ptr b o) a h $ fjoin ! $
    use1 𝓛 (‵ (To.own_val made (w ∷ []))) (id⊢ 𝓤 _) $
    use1 𝓛 (‵ (Out.own_val (Some made) (out ∷ []))) (Some-of 𝓛 To made w) $
    use0 𝓛 (raw (fact 𝓤 (v.value ≡ Some x))) (fact_i 𝓤 (v.value ≡ Some x) (emp 𝓤) some) $
    nothing ! $ nothing ! $ fjoin ! $
    returns ! (look_at ! 0 refl) $ free_all ! refl $ keep ! (3 ∷ 0 ∷ 2 ∷ 1 ∷ []) $
    by ! (leaves 𝓛 ended stayed c z out (Some made) (tt, tt) (tt, tt)))))))
