-- `of` takes the pointer of a box, and all that the box owned.
use Rattle.call_handles.proofs.Steps.{◌≡◌, List, [], ◌∷◌, ◌++◌, refl, leaves, SProp, ent, id⊢, Lft, ftrue, flft, Val, vptr, fact, tables, WpFn, ‵, raw, ◌⊛◌, some, later, ◌$◌, ◌∵◌, !, qed, move, keep, drop, use0, use1, use2, split, join, fsplit, fjoin, fpack, feq_i, pick, await, by, enter, of_opd, no_more, and_then, returns, agg, alloc_all, pass_all, free_all, look_at, get, sets, Ptr, RawPtr, block_ptr, ptr_val, owns, types_at, plain, nothing, lasts, triple_of, Stays, walk_of, stay_dropped, framed}
use Rattle.call_handles.proofs.Types.{GlobalRow, ghosts, dict, GlobalArg, global_arg_laws, global_within}
use Rattle.std.proofs.Common.{sym, ap, ◌∙◌, subst}
use Rattle.std.proofs.raw_atomic.Walks.{proved_at}
use base.Fraction.{full_share}
use base.Logic.{emp, never, fst∗}
use mir.Syntax.{Dict, a_type, impl, tcons, tnil, dcons, dnil}
use mir.Raw.{raw as bare}
use mir.MapTy.{inst_fn}
use mir.Val.{vstruct, vcons, vnil, has_ty, WT}
use mathlib.Core.Bool.{true, ◌&&◌}
use lib.Dec.{T as Holds}
use contract.Monad.{fact_i}
use contract.BorrowLft.{◌⊑◌}
use types.Logic.{sem}
use types.Kit.{suffices, feq_l}
use types.ByLocal.{lands_as}
use denote.Exit.{no}
use denote.RattleType.{RattleType, Valss}
use denote.Param.{bounded, layout, param}
use denote.Param.NoDrop as none
use denote.RawPtr.{in_a_block, null_ptr}
use denote.Steps.{only}
use denote.Struct.Struct.{within}
use denote.Struct.Owning.{shape}
use denote.Triple.Call.{calls_at}
use denote.Triple.Clauses.{Lasts}
use Rattle.std.proofs.alloc.Calls.{Goes-blank}
use Rattle.std.specs.Box.Ownership.{box_owns}
use Rattle.std.specs.contracts.boxed.Box.{the_row as Box-row}
use Rattle.std.proofs.BoxSteps.Form as box
use Rattle.std.proofs.BoxSteps.Steps.{box_out, box_in}
use Rattle.std.specs.contracts.boxed.Box.into_raw as callee
use Rattle.std.proofs.boxed.Box.into_raw.Met.{met}
use Rattle.std.proofs.impls.GlobalAllocator.TheImpl.Met.{passed}
use Rattle.call_handles.proofs.OwnedSteps.{and_tt}
use Rattle.call_handles.specs.contracts.raw.Raw.{the_type as raw_type}
use Rattle.call_handles.specs.contracts.raw.Raw.of.{ended, clauses}
use Rattle.call_handles.specs.contracts.raw.Raw.of.Key.{name as #self}
use Rattle.call_handles.proofs.raw.Raw.of.Statement.{statement}
use Rattle.call_handles.proofs.raw.Raw.of.Code as code

abbrev dd : Dict
dd = impl ("call_handles::Destruct++none::drop" ∷ []) (tcons (layout GlobalArg) tnil) dnil

pub of_spec : {M : Type 1} → statement M
unfolding Rattle.call_handles.proofs.Destruct++none.drop.Code.code
of_spec {M} 𝓤 𝓛 𝓜 𝓡 wired T L dx glue =
    let R : RattleType = param 0 T in let B : RattleType = Box-row R GlobalRow ghosts in let c = clauses T dx 𝓛 𝓜.mem 𝓡.returns in let 𝓣 = tables 𝓤 𝓛.H 𝓜 𝓡 𝓡.env in
    let inst = bounded (a_type ∷ []) (T, tt) (dcons dx dnil) in let fn = inst_fn inst code.function in
    let hs : Stays (ended T dx).signature.params (ended T dx).kept = (stay_dropped (plain (λ _. B)) no, tt) in
    let E : box.Bx = record { row = T; laws = L; al = record { row = GlobalArg; laws = global_arg_laws; g = ghosts; d = dict; drops = dd } } in
    proved_at 𝓛 (ended T dx) hs c 𝓜 𝓡 (Goes-blank 𝓛 1 (plain (λ _. B)) no (λ κs x g. tt), tt) (#self inst) fn (code.unfolded 𝓤 𝓛.H 𝓜 𝓡 wired (T, tt) dx) (λ z are.
    let κs = z.0.0 in let qs = z.0.1 in let v = z.0.3.0 in let Post : Val → SProp 𝓤 = (walk_of 𝓛 (ended T dx) hs c).post z in let Run : List Val → SProp 𝓤 = λ ws. WpFn 𝓤 𝓛.H 𝓣.C 𝓣.Λ fn ws Post in
    let toks = ‵ (flft κs.0 qs.0) ⊛ ‵ ftrue in
    qed 𝓛 ((toks ⊛ ‵ (owns (types_at (ended T dx).signature.params κs) z.0.3 z.0.4)) ∷ (raw (fact 𝓤 (κs.0 ⊑ T.lives)) ⊛ ‵ ftrue) ∷ []) ∵ split ! $ move ! (1 ∷ []) $ fsplit ! $ box_out E ! v z.0.4.0 (λ b o h e ws fits. box_in E ! v b o v.value e refl $
    let w : Val = box.word E h b o in let κ : Lft = [] in let k = triple_of 𝓛 (callee.signature T GlobalArg ghosts dict dd dx) (callee.spec T GlobalArg ghosts dict dd dx 𝓛 𝓜.mem 𝓡.returns) in
    let fine : Holds (has_ty (layout GlobalArg) h && true) × WT w = (and_tt (has_ty (layout GlobalArg) h) fits.0, (tt, (fits.1, tt))) in
    let y : k.Ghost = (((κs.0, (κ, tt)), (qs.0, (full_share, tt)), tt, (v, tt), (w ∷ [], tt)), tt) in
    -- [the box; nothing; the tokens; the fact on T]
    fjoin ! $ move ! (1 ∷ []) $ split ! $ move ! (1 ∷ []) $ use0 𝓛 (‵ (flft κ full_share)) (𝓛.lfts.lft-nil full_share) $ join ! $ move ! (1 ∷ 0 ∷ []) $ join ! $ move ! (0 ∷ 1 ∷ []) $ join ! $
    move ! (1 ∷ []) $ split ! $ move ! (1 ∷ []) $ use0 𝓛 (raw (fact 𝓤 (κ ⊑ GlobalRow.lives))) (fact_i 𝓤 (κ ⊑ GlobalRow.lives) (emp 𝓤) (global_within κ)) $ join ! $ move ! (1 ∷ 0 ∷ []) $ join ! $
    move ! (1 ∷ 0 ∷ []) $ use2 𝓛 (raw (k.pre y)) (id⊢ 𝓤 _) $
    suffices ! (Run (w ∷ [])) (subst (λ (us : List Val). ent 𝓤 (Run (w ∷ [])) (Run us)) (sym (λ i. ws i ++ [])) (id⊢ 𝓤 (Run (w ∷ [])))) $
    enter ! 𝓣.C 𝓣.Λ fn (w ∷ []) Post $ alloc_all ! (λ l. pass_all ! refl (fine, tt) $ sets ! (of_opd ! (get ! refl)) refl fine $
    calls_at ! (framed 𝓤 𝓛.H 𝓜 𝓣) k (met 𝓤 𝓛 𝓜 𝓡 (code.calls-std_alloc::boxed::Box::into_raw 𝓡.env wired) T GlobalArg L global_arg_laws ghosts dict dd dx
    (passed 𝓡.env (code.calls-std_heap::GlobalAllocator::allocate 𝓡.env wired) (code.calls-std_heap::GlobalAllocator::deallocate 𝓡.env wired) (code.calls-std_heap::GlobalAllocator::grow 𝓡.env wired) (code.calls-std_heap::GlobalAllocator::shrink 𝓡.env wired) M 𝓤 𝓛 𝓜 𝓡)
    (none.glues "call_handles::Destruct++none::drop" 𝓡.env (code.calls-call_handles::Destruct++none::drop 𝓡.env wired) GlobalArg global_arg_laws M 𝓤 𝓛 𝓜 𝓡) glue) y (and_then ! (get ! refl) (no_more !)) (λ u.
    use1 𝓛 (later (some (λ (r : Ptr). ((‵ (flft κs.0 qs.0) ⊛ ‵ (flft κ full_share) ⊛ ‵ ftrue) ⊛ ‵ (RawPtr.own_val r (u ∷ []))) ⊛ some (λ (ls : Lasts (callee.ended T GlobalArg ghosts dict dd dx) (κs.0, (κ, tt)) y.0.3). ‵ (lasts (callee.ended T GlobalArg ghosts dict dd dx) (κs.0, (κ, tt)) y.0.3 ls) ⊛ ‵ (box_owns (ghosts.dealloc_token v.alloc) R r v.value))))) (id⊢ 𝓤 (k.post y u)) $
    await ! tt $ pick ! (λ r. split ! $ move ! (1 ∷ []) $ pick ! (λ ls. split ! $ drop ! $
    in_a_block ! r (λ p. box_owns (ghosts.dealloc_token v.alloc) R p v.value) (fst∗ 𝓤 (never 𝓤) (sem 𝓛 (ghosts.dealloc_token v.alloc (bare (layout T)) null_ptr))) (λ b' o' e'.
    move ! (1 ∷ []) $ split ! $ move ! (1 ∷ []) $ feq_l ! (λ eu.
    let made : Val = vstruct (vcons (vptr b' o') vnil) in
    lands_as ! (ap only eu ∙ ap ptr_val e') refl (tt, tt) $ sets ! (agg ! (and_then ! (get ! refl) (no_more !))) refl (tt, (tt, tt)) $
    -- [the tokens; the block]
    split ! $ move ! (1 ∷ []) $ split ! $ drop ! $ move ! (1 ∷ 0 ∷ []) $ join ! $ move ! (1 ∷ []) $
    nothing ! $ feq_i ! (List Val) (vptr b' o' ∷ []) (vptr b' o' ∷ []) refl $ fjoin ! $ feq_i ! (List Val) (made ∷ []) (made ∷ []) refl $ fjoin ! $
    fpack ! (Valss (RawPtr ∷ [])) (within (shape (raw_type R)) (block_ptr b' o', tt) (made ∷ [])) (vptr b' o' ∷ [], tt) $ fjoin ! $
    use0 𝓛 (raw (fact 𝓤 (v.value ≡ v.value))) (fact_i 𝓤 (v.value ≡ v.value) (emp 𝓤) refl) $ nothing ! $ nothing ! $ fjoin ! $
    returns ! (look_at ! 0 refl) $ free_all ! refl $ keep ! (3 ∷ 0 ∷ 2 ∷ 1 ∷ []) $
    by ! (leaves 𝓛 (ended T dx) hs c z made (record { at = block_ptr b' o'; value = v.value }) (tt, tt) (tt, tt))))))))))
