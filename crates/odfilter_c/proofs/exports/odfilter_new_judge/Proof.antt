-- `new_judge` meets its contract: the addresses are tested one by one, and the call borrows what they point to.
use Rattle.odfilter_c.proofs.Steps.{ℕ, ◌<◌, [], ◌∷◌, refl, lit<, w32, proved, leaves, none, Ura, SProp, id⊢, ftrue, fsep, flft, Val, vint, vptr, Memory, Routine, WpFn, Calls, Loops, Fun, fact, tables, FmC, Logic, ‵, raw, ◌⊛◌, prop, Sq, ◌$◌, ◌∵◌, !, qed, move, keep, drop, use0, use1, use2, split, join, fsplit, fjoin, fpack, pick, await, by, enter, addr, stop, no_more, and_then, alloc_all, pass_all, free_all, get, through, sets, u32, yes, Typed, Is, shows, uint_Lawful, Ptr, RawPtr, block_ptr, null_ptr, ptr_val, Testable, rawptr_vals, rawptr_Tells, owns, types_at, plain, nothing, heard, peeks, Contract, Triple, calls_at_last, triple_of, Stays, walk_of, stay_dropped, Goes-dropped, framed, Global, GlobalRow, global_lowers, global_val, global_laws, Owned, HasNull, in_rest, trues, good, all_true, back, hold, unchanged, stands, tested, closes, inside, ends0}
use Rattle.odfilter_c.specs.Loans.{Loan, left_made, holds, borrowed_made, unless_null}
use Rattle.odfilter_c.specs.Exports.{borrowed_by_new_judge, left_by_new_judge}
use Rattle.handle_calls.specs.RowReports.{MakesJudge}
use Rattle.handle_calls.specs.contracts.calls.new_judge as g
use Rattle.handle_calls.proofs.calls.new_judge.Symbol.{name as #call}
use Rattle.handle_calls.proofs.calls.new_judge.Met.{met as met}
use Rattle.odfilter_c.specs.contracts.exports.odfilter_new_judge as f
use Rattle.odfilter_c.proofs.exports.odfilter_new_judge.Statement.{statement}
use base.Fml.{Fml, feq, fex}
use Rattle.odfilter_c.proofs.exports.odfilter_new_judge.Code as code

abbrev stayed : Stays f.ended.signature.params f.ended.kept
stayed = (stay_dropped _ yes, (stay_dropped _ yes, tt))

module _ {M : Type 1} {𝓤 : Ura M} (𝓛 : Logic 𝓤) (at_mem : Memory → SProp 𝓤) (run : Routine → Fun 𝓤) (C : Calls 𝓤 𝓛.H) (Λ : Loops 𝓤 𝓛.H) (fm : FmC 𝓤 𝓛.H 𝓛.laws C)
    (known : Triple 𝓤 (C #call) (triple_of 𝓛 g.signature (g.spec 𝓛 at_mem run))) (l : Loan) where
  open 𝓛 use {H}

  -- what the call borrows, and what it leaves
  abbrev Borrowed : Ptr → Fml
  Borrowed judge = borrowed_made l judge

  abbrev Left : Ptr → ℕ → Fml
  Left judge result = unless_null (judge ∷ [])
      (fsep (feq ℕ result 1) (Borrowed judge))
      (fex Owned (λ judge'.
      fsep (left_made l judge judge') (holds (MakesJudge judge' result))))

  abbrev G : Contract 𝓤
  G = triple_of 𝓛 g.signature (g.spec 𝓛 at_mem run)

  abbrev W : Contract 𝓤
  W = walk_of 𝓛 f.ended stayed (f.clauses 𝓛 at_mem run)

  abbrev bound : Global → Ptr → W.Ghost
  bound alloc judge = ((tt, tt, tt, (alloc, (judge, tt)), (global_val alloc ∷ [], (ptr_val judge ∷ [], tt))), l)

  abbrev Walk : Global → Ptr → Type 1
  Walk alloc judge = Sq 𝓛 (‵ (flft l.lifetime l.share) ∷ ‵ (Borrowed judge) ∷ ‵ (GlobalRow.own_val alloc (global_val alloc ∷ [])) ∷ []) (prop (WpFn 𝓤 H C Λ code.function (global_val alloc ∷ ptr_val judge ∷ []) (W.post (bound alloc judge))))

  ends : (alloc : Global) (judge : Ptr) (v : Val) (x : ℕ) → Sq 𝓛 (‵ (Left judge x) ∷ ‵ (u32.own_val x (v ∷ [])) ∷ ‵ (flft l.lifetime l.share) ∷ []) (prop (W.post (bound alloc judge) v))
  unfolding borrowed_by_new_judge left_by_new_judge
  ends alloc judge v x = move ! (2 ∷ 0 ∷ []) $ join ! $ move ! (1 ∷ []) $ use0 𝓛 (‵ (trues 2)) (all_true 𝓛 2) $ nothing ! $
      by ! (leaves 𝓛 f.ended stayed (f.clauses 𝓛 at_mem run) (bound alloc judge) v x (tt, (tt, tt)) (tt, (tt, tt)))

  -- with a null address nothing is called
  refused : (alloc : Global) (judge : Ptr) → Typed GlobalRow.mir (global_val alloc ∷ []) → Testable judge → HasNull (judge ∷ []) → Walk alloc judge
  refused alloc judge fits-alloc may-judge null =
      enter ! C Λ code.function (global_val alloc ∷ ptr_val judge ∷ []) _ $ alloc_all ! (λ c. pass_all ! refl (fits-alloc.0, ((good 𝓛 judge).0, tt)) $
      tested ! judge none (get ! refl) may-judge refl (tt, tt) refl refl (tt, record { fits = lit< tt }) refl (λ _. free_all ! refl $ unchanged ! (judge ∷ []) _ null (ends alloc judge (vint w32 1) 1)) (λ here-0.
      absurd (in_rest judge [] null here-0)))

  runs : (alloc : Global) (judge : Ptr) → Typed GlobalRow.mir (global_val alloc ∷ []) → Testable judge → Walk alloc judge
  runs alloc null_ptr fits-alloc may-judge = refused alloc null_ptr fits-alloc may-judge tt
  runs alloc (block_ptr b0 o0) fits-alloc may-judge =
      move ! (1 ∷ []) $ enter ! C Λ code.function (global_val alloc ∷ vptr b0 o0 ∷ []) _ $ alloc_all ! (λ c. pass_all ! refl (fits-alloc.0, ((good 𝓛 (block_ptr b0 o0)).0, tt)) $
      stands ! b0 o0 none (get ! refl) may-judge refl (tt, tt) refl $
      closes ! $ inside ! _ _ _ $
      sets ! (addr ! (through ! refl (stop !))) refl (tt, tt) $
      nothing ! $ move ! (1 ∷ 0 ∷ []) $ fjoin ! $ move ! (2 ∷ 0 ∷ []) $ fjoin ! $ nothing ! $ move ! (2 ∷ 0 ∷ []) $ join ! $ join ! $ nothing ! $ move ! (1 ∷ 0 ∷ []) $
      let z : G.Ghost = (((l.lifetime, tt), (l.share, tt), tt, (alloc, (record { ref_ptr = (b0, o0); ghost_name = l.made_name; now = l.made }, tt)), (global_val alloc ∷ [], (vptr b0 o0 ∷ [], tt))), tt) in
      use2 𝓛 (raw (G.pre z)) (id⊢ 𝓤 _) $ calls_at_last ! fm G known z (and_then ! (get ! refl) (and_then ! (get ! refl) (no_more !))) (λ v.
      use1 𝓛 (back 𝓛 g.ended (g.clauses 𝓛 at_mem run) z.0.0 z.0.3 z.1 l.lifetime l.share v) (id⊢ 𝓤 _) $
      await ! tt $ pick ! (λ x. split ! $ move ! (1 ∷ []) $ pick ! (λ ws. split ! $ move ! (1 ∷ []) $ heard ! (MakesJudge ws.1.0 x) (λ reports.
      fsplit ! $ drop ! $ fsplit ! $ move ! (1 ∷ []) $ drop ! $ move ! (1 ∷ []) $ split ! $ split ! $ move ! (2 ∷ []) $ peeks ! u32 (Is u32) (shows 𝓛 u32) x (v ∷ []) (λ is. let fine = ((uint_Lawful 𝓛 w32).typed x _ is).0 in
      ends0 ! C Λ _ fine fine refl refl refl refl $ free_all ! refl $ keep ! (3 ∷ 0 ∷ 1 ∷ []) $
      hold ! reports $ move ! (1 ∷ 0 ∷ []) $ fjoin ! $
      fpack ! Owned (λ judge'. fsep (left_made l (block_ptr b0 o0) judge') (holds (MakesJudge judge' x))) ws.1.0 $ ends alloc (block_ptr b0 o0) v x))))))

pub odfilter_new_judge_spec : {M : Type 1} → statement M
unfolding borrowed_by_new_judge
odfilter_new_judge_spec 𝓤 𝓛 𝓜 𝓡 wired =
    let c = f.clauses 𝓛 𝓜.mem 𝓡.returns in let 𝓣 = tables 𝓤 𝓛.H 𝓜 𝓡 𝓡.env in
    proved 𝓛 f.ended stayed c 𝓜 𝓡 (Goes-dropped 𝓛 0 (plain (λ _. GlobalRow)) yes (λ κs x w. refl), (Goes-dropped 𝓛 0 (plain (λ _. RawPtr)) yes (λ κs x w. refl), tt))
    f.Key.name code.function (code.unfolded 𝓤 𝓛.H 𝓜 𝓡 wired)
    (λ κs. ((λ g. global_val g ∷ []), (rawptr_vals, tt))) (λ κs. (global_lowers.val_is, (rawptr_Tells, tt))) (λ κs qs bounds a l are.
    qed 𝓛 ((‵ ftrue ⊛ ‵ (owns (types_at f.signature.params κs) a (global_val a.0 ∷ [], (rawptr_vals a.1.0, tt)))) ∷ (raw (fact 𝓤 (Testable a.1.0)) ⊛ (‵ (flft l.lifetime l.share) ⊛ ‵ (borrowed_by_new_judge l a.1.0))) ∷ []) ∵
    split ! $ drop ! $ fsplit ! $ move ! (1 ∷ []) $ drop ! $ move ! (1 ∷ []) $ split ! $ heard ! _ (λ may. split ! $
    runs 𝓛 𝓜.mem 𝓡.returns 𝓣.C 𝓣.Λ (framed 𝓤 𝓛.H 𝓜 𝓣) (met 𝓤 𝓛 𝓜 𝓡 (code.calls-handle_calls::calls::new_judge 𝓡.env wired)) l a.0 a.1.0 ((global_laws.lawful 𝓛).typed a.0 _ are.0) may))
