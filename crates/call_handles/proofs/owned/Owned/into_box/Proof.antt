-- `into_box` makes the box again, unless the pointer is null.
use Rattle.call_handles.proofs.Steps.{◌≡◌, List, [], ◌∷◌, refl, lit<, proved, leaves, SProp, ent, id⊢, Lft, ftrue, flft, Val, vptr, fact, tables, WpFn, Ura, Logic, Memory, Routine, Calls, Loops, Fun, FmC, Triple, Contract, ‵, raw, ◌⊛◌, some, later, at_ret, ◌$◌, ◌∵◌, !, qed, move, keep, drop, use0, use1, use2, split, join, fsplit, fjoin, pick, await, by, enter, of_opd, lit, bin, stop, fld, no_more, and_then, first, blocks, branches, skips, exec, returns, returns_within, agg, sub, whole, alloc_all, pass_all, free_all, look_at, get, get_in, sets, env, yes, Typed, Ptr, block_ptr, null_ptr, Testable, tests_null, owns, types_at, plain, nothing, heard, lasts, triple_of, Stays, walk_of, stay_dropped, Goes-dropped, framed}
use Rattle.call_handles.proofs.Types.{Global, GlobalRow, global_val, global_lowers, global_laws, global_within, Handle, HandleRow, handle_within, ghosts, dict, HandleArg, GlobalArg, handle_arg_laws, global_arg_laws}
use Rattle.std.proofs.Common.{sym, ap, subst}
use Rattle.std.specs.declared.option.Option.{Option}
use Rattle.std.specs.declared.option.Option.TheVariants.{None, Some}
use Rattle.std.specs.contracts.option.Option as OP
use base.Fraction.{full_share}
use base.Logic.{emp, via, fst∗, snd∗, never, never_e, sep}
use mir.Syntax.{Callee, Dict, a_type, impl, tcons, tnil, dcons, dnil}
use mir.Raw.{raw as bare}
use mir.Val.{of_list, has_ty, WT}
use lib.Dec.{T}
use contract.Monad.{fact_i, fact_use}
use contract.BorrowLft.{◌⊑◌}
use types.Logic.{sem}
use types.Match.{live}
use types.ByLocal.{lands_last}
use denote.RattleType.{RattleType}
use denote.Param.{bounded, layout}
use denote.Param.NoDrop as none
use denote.Triple.Call.{calls_at_last}
use denote.Triple.Clauses.{Lasts}
use Rattle.std.specs.Box.Ownership.{box_owns}
use Rattle.std.specs.contracts.boxed.Box.{the_row as Box-row}
use Rattle.std.proofs.BoxSteps.Form as box
use Rattle.std.proofs.BoxSteps.Steps.{box_out, box_in}
use Rattle.std.specs.contracts.boxed.Box.from_raw as callee
use Rattle.std.proofs.boxed.Box.from_raw.Symbol.{name as from-raw}
use Rattle.std.proofs.boxed.Box.from_raw.Met.{met}
use Rattle.std.proofs.alloc.Calls.{Goes-blank}
use Rattle.std.specs.Ptr.{points_to}
use types.Kit.{feq_i, rewrite}
use denote.Steps.{only}
use Rattle.std.proofs.impls.GlobalAllocator.TheImpl.Met.{passed}
use Rattle.std.proofs.GlobalToken.{dealloc_token-Testable}
use Rattle.std.proofs.option.Made.{Some-of, none_of}
use Rattle.call_handles.proofs.OwnedSteps.{and_tt}
use Rattle.call_handles.specs.Owned.{owned_or_null}
use Rattle.call_handles.specs.contracts.owned.Owned.{the_row as OwnedRow}
use Rattle.call_handles.proofs.owned.Owned.TheLaws.{lowers as owned_lowers, lowered}
use Rattle.call_handles.specs.contracts.owned.Owned.into_box as f
use Rattle.call_handles.proofs.owned.Owned.into_box.Statement.{statement}
use Rattle.call_handles.proofs.owned.Owned.into_box.Code as code

abbrev stayed : Stays f.ended.signature.params f.ended.kept
stayed = (stay_dropped _ yes, (stay_dropped _ yes, tt))

abbrev B : RattleType
B = Box-row HandleRow GlobalRow ghosts

abbrev dd : Dict
dd = impl ("call_handles::Destruct++none::drop" ∷ []) (tcons (layout GlobalArg) tnil) dnil

abbrev E : box.Bx
E = record { row = HandleArg; laws = handle_arg_laws; al = record { row = GlobalArg; laws = global_arg_laws; g = ghosts; d = dict; drops = dd } }

-- the call of `from_raw`, as the code has it
abbrev called : Callee
called = from-raw (bounded (a_type ∷ a_type ∷ []) (HandleArg, (GlobalArg, tt)) (dcons dict (dcons dd dnil)))

module _ {M : Type 1} {𝓤 : Ura M} (𝓛 : Logic 𝓤) (at_mem : Memory → SProp 𝓤) (run : Routine → Fun 𝓤) (C : Calls 𝓤 𝓛.H) (Λ : Loops 𝓤 𝓛.H) (fm : FmC 𝓤 𝓛.H 𝓛.laws C) where
  open 𝓛 use {H}

  abbrev k : Contract 𝓤
  k = triple_of 𝓛 (callee.signature HandleArg GlobalArg ghosts dict dd) (callee.spec HandleArg GlobalArg ghosts dict dd 𝓛 at_mem run)

  abbrev W : Contract 𝓤
  W = walk_of 𝓛 f.ended stayed (f.clauses 𝓛 at_mem run)

  abbrev bound : Ptr → Option Handle → Global → W.Ghost
  bound p x g = ((tt, tt, tt, (record { at = p; value = x }, (g, tt)), (lowered (record { at = p; value = x }) ∷ [], (global_val g ∷ [], tt))), tt)

  abbrev Post : Ptr → Option Handle → Global → Val → SProp 𝓤
  Post p x g = W.post (bound p x g)

  abbrev Runs : Ptr → Option Handle → Global → SProp 𝓤
  Runs p x g = WpFn 𝓤 H C Λ code.function (lowered (record { at = p; value = x }) ∷ global_val g ∷ []) (Post p x g)

  runs : Triple 𝓤 (C called) k → (p : Ptr) (x : Option Handle) (g : Global) → Typed GlobalRow.mir (global_val g ∷ []) → ent 𝓤 (sep 𝓤 (sem 𝓛 (owned_or_null p x)) (sem 𝓛 (GlobalRow.own_val g (global_val g ∷ [])))) (Runs p x g)
  runs known null_ptr None g fits =
      qed 𝓛 (‵ ftrue ∷ ‵ (GlobalRow.own_val g (global_val g ∷ [])) ∷ []) ∵ drop ! $ drop ! $
      enter ! C Λ code.function (lowered (record { at = null_ptr; value = None }) ∷ global_val g ∷ []) _ $ alloc_all ! (λ c. pass_all ! refl ((tt, (record { fits = lit< tt }, tt)), (fits.0, tt)) $
      sets ! (of_opd ! (get_in ! (fld ! refl (stop !)) (sub ! 0 refl (whole !)))) refl (tt, record { fits = lit< tt }) $ sets ! (of_opd ! (get ! refl)) refl (tt, record { fits = lit< tt }) $
      sets ! (bin ! (get ! refl) (lit ! tt) (tests_null null_ptr (lit< tt))) refl (tt, tt) $ first ! $ branches ! (get ! refl)
      (λ _. sets ! (agg ! (and_then ! (lit ! tt) (no_more !))) refl (tt, (record { fits = lit< tt }, tt)) $
      returns_within ! (Post null_ptr None g) refl (look_at ! 0 refl) $ free_all ! refl $
      use0 𝓛 (raw (fact 𝓤 (None ≡ None))) (fact_i 𝓤 (None ≡ None) (emp 𝓤) refl) $ use0 𝓛 (‵ ((OP.the_row B).own_val None (live 0 (of_list []) ∷ []))) (none_of 𝓛 B) $
      nothing ! $ nothing ! $ fjoin ! $ nothing ! $ fjoin ! $ nothing ! $
      by ! (leaves 𝓛 f.ended stayed (f.clauses 𝓛 at_mem run) (bound null_ptr None g) (live 0 (of_list [])) None (tt, (tt, tt)) (tt, (tt, tt))))
      (λ wrong. absurd wrong))
  runs known null_ptr (Some x) g fits = via 𝓤 (never 𝓤) (fst∗ 𝓤 (never 𝓤) (sem 𝓛 (GlobalRow.own_val g (global_val g ∷ [])))) (never_e 𝓤 _)
  runs known (block_ptr b o) None g fits = via 𝓤 (never 𝓤) (fst∗ 𝓤 (never 𝓤) (sem 𝓛 (GlobalRow.own_val g (global_val g ∷ [])))) (never_e 𝓤 _)
  runs known (block_ptr b o) (Some x) g fits =
      let p : Ptr = block_ptr b o in let Owns = box_owns (ghosts.dealloc_token g) HandleRow p x in let own_g = GlobalRow.own_val g (global_val g ∷ []) in
      fact_use 𝓤 (Testable p) (via 𝓤 (sem 𝓛 Owns) (fst∗ 𝓤 (sem 𝓛 Owns) (sem 𝓛 own_g)) (via 𝓤 (sem 𝓛 (ghosts.dealloc_token g (bare (layout HandleRow)) p)) (snd∗ 𝓤 (sem 𝓛 (points_to HandleRow p x)) (sem 𝓛 (ghosts.dealloc_token g (bare (layout HandleRow)) p))) (dealloc_token-Testable 𝓛 g (bare (layout HandleRow)) p))) (λ may.
      qed 𝓛 (‵ Owns ∷ ‵ own_g ∷ []) ∵
      enter ! C Λ code.function (lowered (record { at = p; value = Some x }) ∷ global_val g ∷ []) _ $ alloc_all ! (λ c. pass_all ! refl ((tt, (tt, tt)), (fits.0, tt)) $
      sets ! (of_opd ! (get_in ! (fld ! refl (stop !)) (sub ! 0 refl (whole !)))) refl (tt, tt) $ sets ! (of_opd ! (get ! refl)) refl (tt, tt) $
      sets ! (bin ! (get ! refl) (lit ! tt) (tests_null p may)) refl (tt, tt) $ first ! $ branches ! (get ! refl) (λ wrong. absurd wrong)
      (λ _. skips ! $ exec ! C Λ (env (code.function).locals c) code.Mir.t-5 (at_ret (env (code.function).locals c) (Post p (Some x) g)) $
      first ! $ blocks ! $ sets ! (of_opd ! (get ! refl)) refl fits.0 $ sets ! (of_opd ! (get ! refl)) refl (tt, tt) $ sets ! (of_opd ! (get ! refl)) refl (tt, tt) $
      let κ : Lft = [] in let y : k.Ghost = (((κ, (κ, tt)), (full_share, (full_share, tt)), tt, (g, (p, tt)), (global_val g ∷ [], (vptr b o ∷ [], tt))), x) in
      nothing ! $ feq_i ! (List Val) (vptr b o ∷ []) (vptr b o ∷ []) refl $ fjoin ! $ move ! (2 ∷ 0 ∷ []) $ fjoin ! $
      nothing ! $ use0 𝓛 (‵ (flft κ full_share)) (𝓛.lfts.lft-nil full_share) $ join ! $ use0 𝓛 (‵ (flft κ full_share)) (𝓛.lfts.lft-nil full_share) $ join ! $ join ! $ move ! (1 ∷ []) $
      use0 𝓛 (raw (fact 𝓤 (κ ⊑ GlobalRow.lives))) (fact_i 𝓤 (κ ⊑ GlobalRow.lives) (emp 𝓤) (global_within κ)) $ join ! $ use0 𝓛 (raw (fact 𝓤 (κ ⊑ HandleRow.lives))) (fact_i 𝓤 (κ ⊑ HandleRow.lives) (emp 𝓤) (handle_within κ)) $ join ! $
      move ! (1 ∷ 0 ∷ []) $ use2 𝓛 (raw (k.pre y)) (id⊢ 𝓤 _) $
      calls_at_last ! fm k known y (and_then ! (get ! refl) (and_then ! (get ! refl) (no_more !))) (λ u.
      use1 𝓛 (later (some (λ (r : B.Denot). ((‵ (flft κ full_share) ⊛ ‵ (flft κ full_share) ⊛ ‵ ftrue) ⊛ ‵ (B.own_val r (u ∷ []))) ⊛ some (λ (ls : Lasts (callee.ended HandleArg GlobalArg ghosts dict dd) (κ, (κ, tt)) y.0.3). ‵ (lasts (callee.ended HandleArg GlobalArg ghosts dict dd) (κ, (κ, tt)) y.0.3 ls) ⊛ (raw (fact 𝓤 (r.value ≡ x)) ⊛ raw (fact 𝓤 (r.alloc ≡ g))))))) (id⊢ 𝓤 (k.post y u)) $
      await ! tt $ pick ! (λ r. split ! $ move ! (1 ∷ []) $ pick ! (λ ls. split ! $ drop ! $ split ! $ heard ! (r.value ≡ x) (λ ev. drop ! $ split ! $ drop ! $
      box_out E ! r (u ∷ []) (λ b' o' h' e' us fits'. box_in E ! r b' o' r.value e' refl $ rewrite ! 0 (λ (xs : List Val). ‵ (B.own_val r xs)) (sym us) refl $
      let fine : T (has_ty (layout B) u) × WT u = subst (λ (w : Val). T (has_ty (layout B) w) × WT w) (sym (ap only us)) (and_tt (has_ty (layout GlobalRow) h') fits'.0, (tt, (fits'.1, tt))) in
      lands_last ! refl fine $ exec ! C Λ (env (code.function).locals c) code.Mir.t-6 (at_ret (env (code.function).locals c) (Post p (Some x) g)) $
      sets ! (of_opd ! (get ! refl)) refl fine $ sets ! (agg ! (and_then ! (lit ! tt) (and_then ! (get ! refl) (no_more !)))) refl (and_tt (has_ty (layout B) u) fine.0, (record { fits = lit< tt }, (fine.1, tt))) $
      use1 𝓛 (‵ ((OP.the_row B).own_val (Some r) (live 1 (of_list (u ∷ [])) ∷ []))) (Some-of 𝓛 B r u) $
      use0 𝓛 (raw (fact 𝓤 (Some x ≡ Some r.value))) (fact_i 𝓤 (Some x ≡ Some r.value) (emp 𝓤) (ap Some (sym ev))) $
      nothing ! $ nothing ! $ fjoin ! $ nothing ! $ fjoin ! $ nothing ! $
      returns ! (look_at ! 0 refl) $ free_all ! refl $ move ! (0 ∷ 1 ∷ 3 ∷ 2 ∷ []) $
      by ! (leaves 𝓛 f.ended stayed (f.clauses 𝓛 at_mem run) (bound p (Some x) g) (live 1 (of_list (u ∷ []))) (Some r) (tt, (tt, tt)) (tt, (tt, tt)))))))))))

pub into_box_spec : {M : Type 1} → statement M
unfolding Rattle.call_handles.proofs.Destruct++none.drop.Code.code
into_box_spec {M} 𝓤 𝓛 𝓜 𝓡 wired =
    let c = f.clauses 𝓛 𝓜.mem 𝓡.returns in let 𝓣 = tables 𝓤 𝓛.H 𝓜 𝓡 𝓡.env in
    proved 𝓛 f.ended stayed c 𝓜 𝓡 (Goes-blank 𝓛 0 (plain (λ _. OwnedRow)) yes (λ κs x g. tt), (Goes-dropped 𝓛 0 (plain (λ _. GlobalRow)) yes (λ κs x w. refl), tt))
    f.Key.name code.function (code.unfolded 𝓤 𝓛.H 𝓜 𝓡 wired) (λ κs. ((λ d. lowered d ∷ []), ((λ g. global_val g ∷ []), tt))) (λ κs. (owned_lowers.val_is, (global_lowers.val_is, tt))) (λ κs qs bounds a l are.
    qed 𝓛 ((‵ ftrue ⊛ ‵ (owns (types_at f.signature.params κs) a (lowered a.0 ∷ [], (global_val a.1.0 ∷ [], tt)))) ∷ ‵ ftrue ∷ []) ∵
    split ! $ drop ! $ fsplit ! $ fsplit ! $ drop ! $ move ! (1 ∷ []) $ fsplit ! $ move ! (2 ∷ 0 ∷ []) $ keep ! (0 ∷ 1 ∷ []) $
    by ! (runs 𝓛 𝓜.mem 𝓡.returns 𝓣.C 𝓣.Λ (framed 𝓤 𝓛.H 𝓜 𝓣) (met 𝓤 𝓛 𝓜 𝓡 (code.calls-std_alloc::boxed::Box::from_raw 𝓡.env wired) HandleArg GlobalArg handle_arg_laws global_arg_laws ghosts dict dd
    (passed 𝓡.env (code.calls-std_heap::GlobalAllocator::allocate 𝓡.env wired) (code.calls-std_heap::GlobalAllocator::deallocate 𝓡.env wired) (code.calls-std_heap::GlobalAllocator::grow 𝓡.env wired) (code.calls-std_heap::GlobalAllocator::shrink 𝓡.env wired) M 𝓤 𝓛 𝓜 𝓡)
    (none.glues "call_handles::Destruct++none::drop" 𝓡.env (code.calls-call_handles::Destruct++none::drop 𝓡.env wired) GlobalArg global_arg_laws M 𝓤 𝓛 𝓜 𝓡)) a.0.at a.0.value a.1.0 ((global_laws.lawful 𝓛).typed a.1.0 _ are.1.0)))
