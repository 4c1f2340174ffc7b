-- `needs_moment` meets its contract: the addresses are tested one by one, and the call borrows what they point to.
use Rattle.odfilter_c.proofs.Steps.{ℕ, ◌<◌, [], ◌∷◌, refl, lit<, w32, proved, leaves, none, there_is, Ura, SProp, id⊢, fsep, flft, Val, vint, vptr, Memory, Routine, WpFn, Calls, Loops, Fun, fact, tables, FmC, Logic, ‵, raw, ◌⊛◌, prop, Sq, ◌$◌, ◌∵◌, !, qed, move, keep, drop, use0, use1, use2, split, join, fsplit, fjoin, fpack, pick, await, by, enter, of_opd, addr, stop, no_more, and_then, alloc_all, pass_all, free_all, get, through, sets, u32, yes, Is, shows, uint_Lawful, Ptr, RawPtr, block_ptr, null_ptr, ptr_val, Testable, rawptr_vals, rawptr_Tells, plain, nothing, heard, peeks, Contract, Triple, calls_at_last, on_entry, triple_of, Stays, walk_of, stay_dropped, Goes-dropped, framed, Answer, HasNull, in_rest, trues, good, all_true, back, hold, unchanged, stands, tested, closes, inside, ends0}
use Rattle.odfilter_c.specs.Loans.{Loan, left_answer, holds, borrowed_handle, borrowed_answer, unless_null}
use Rattle.odfilter_c.specs.Exports.{borrowed_by_needs_moment, left_by_needs_moment}
use Rattle.handle_calls.specs.RowReports.{ReportsNeed}
use Rattle.handle_calls.specs.contracts.calls.needs_moment as g
use Rattle.handle_calls.proofs.calls.needs_moment.Symbol.{name as #call}
use Rattle.handle_calls.proofs.calls.needs_moment.Met.{met as met}
use Rattle.odfilter_c.specs.contracts.exports.odfilter_needs_moment as f
use Rattle.odfilter_c.proofs.exports.odfilter_needs_moment.Statement.{statement}
use base.Fml.{Fml, feq, fex}
use Rattle.odfilter_c.proofs.exports.odfilter_needs_moment.Code as code

abbrev stayed : Stays f.ended.signature.params f.ended.kept
stayed = (stay_dropped _ yes, (stay_dropped _ yes, tt))

module _ {M : Type 1} {𝓤 : Ura M} (𝓛 : Logic 𝓤) (at_mem : Memory → SProp 𝓤) (run : Routine → Fun 𝓤) (C : Calls 𝓤 𝓛.H) (Λ : Loops 𝓤 𝓛.H) (fm : FmC 𝓤 𝓛.H 𝓛.laws C)
    (known : Triple 𝓤 (C #call) (triple_of 𝓛 g.signature (g.spec 𝓛 at_mem run))) (l : Loan) where
  open 𝓛 use {H}

  -- what the call borrows, and what it leaves
  abbrev Borrowed : Ptr → Ptr → Fml
  Borrowed filter answer = fsep (borrowed_handle l filter) (borrowed_answer l answer)

  abbrev Left : Ptr → Ptr → ℕ → Fml
  Left filter answer result = unless_null (filter ∷ answer ∷ [])
      (fsep (feq ℕ result 1) (Borrowed filter answer))
      (fex Answer (λ answer'.
      fsep (left_answer l answer answer') (holds (ReportsNeed l.handle answer' result))))

  abbrev G : Contract 𝓤
  G = triple_of 𝓛 g.signature (g.spec 𝓛 at_mem run)

  abbrev W : Contract 𝓤
  W = walk_of 𝓛 f.ended stayed (f.clauses 𝓛 at_mem run)

  abbrev bound : Ptr → Ptr → W.Ghost
  bound filter answer = ((tt, tt, tt, (filter, (answer, tt)), (ptr_val filter ∷ [], (ptr_val answer ∷ [], tt))), l)

  abbrev Walk : Ptr → Ptr → Type 1
  Walk filter answer = Sq 𝓛 (‵ (flft l.lifetime l.share) ∷ ‵ (Borrowed filter answer) ∷ []) (prop (WpFn 𝓤 H C Λ code.function (ptr_val filter ∷ ptr_val answer ∷ []) (W.post (bound filter answer))))

  ends : (filter : Ptr) (answer : Ptr) (v : Val) (x : ℕ) → Sq 𝓛 (‵ (Left filter answer x) ∷ ‵ (u32.own_val x (v ∷ [])) ∷ ‵ (flft l.lifetime l.share) ∷ []) (prop (W.post (bound filter answer) v))
  unfolding borrowed_by_needs_moment left_by_needs_moment
  ends filter answer v x = move ! (2 ∷ 0 ∷ []) $ join ! $ move ! (1 ∷ []) $ use0 𝓛 (‵ (trues 2)) (all_true 𝓛 2) $ nothing ! $
      by ! (leaves 𝓛 f.ended stayed (f.clauses 𝓛 at_mem run) (bound filter answer) v x (tt, (tt, tt)) (tt, (tt, tt)))

  -- with a null address nothing is called
  refused : (filter : Ptr) (answer : Ptr) → Testable filter → Testable answer → HasNull (filter ∷ answer ∷ []) → Walk filter answer
  refused filter answer may-filter may-answer null =
      enter ! C Λ code.function (ptr_val filter ∷ ptr_val answer ∷ []) _ $ alloc_all ! (λ c. pass_all ! refl ((good 𝓛 filter).0, ((good 𝓛 answer).0, tt)) $
      tested ! filter none (get ! refl) may-filter refl (tt, tt) refl refl (tt, record { fits = lit< tt }) refl (λ _. free_all ! refl $ unchanged ! (filter ∷ answer ∷ []) _ null (ends filter answer (vint w32 1) 1)) (λ here-0.
      tested ! answer (there_is _) (get ! refl) may-answer refl (tt, tt) refl refl (tt, record { fits = lit< tt }) refl (λ _. free_all ! refl $ unchanged ! (filter ∷ answer ∷ []) _ null (ends filter answer (vint w32 1) 1)) (λ here-1.
      absurd (in_rest answer [] (in_rest filter (answer ∷ []) null here-0) here-1))))

  runs : (filter : Ptr) (answer : Ptr) → Testable filter → Testable answer → Walk filter answer
  runs null_ptr answer may-filter may-answer = refused null_ptr answer may-filter may-answer tt
  runs (block_ptr b0 o0) null_ptr may-filter may-answer = refused (block_ptr b0 o0) null_ptr may-filter may-answer tt
  runs (block_ptr b0 o0) (block_ptr b1 o1) may-filter may-answer =
      move ! (1 ∷ []) $ fsplit ! $ move ! (1 ∷ []) $ enter ! C Λ code.function (vptr b0 o0 ∷ vptr b1 o1 ∷ []) _ $ alloc_all ! (λ c. pass_all ! refl ((good 𝓛 (block_ptr b0 o0)).0, ((good 𝓛 (block_ptr b1 o1)).0, tt)) $
      stands ! b0 o0 none (get ! refl) may-filter refl (tt, tt) refl $
      stands ! b1 o1 (there_is _) (get ! refl) may-answer refl (tt, tt) refl $
      closes ! $ inside ! _ _ _ $
      sets ! (of_opd ! (get ! refl)) refl (tt, tt) $ sets ! (addr ! (through ! refl (stop !))) refl (tt, tt) $
      sets ! (addr ! (through ! refl (stop !))) refl (tt, tt) $
      nothing ! $ move ! (1 ∷ 0 ∷ []) $ fjoin ! $ move ! (1 ∷ 0 ∷ []) $ fjoin ! $ nothing ! $ move ! (2 ∷ 0 ∷ []) $ join ! $ join ! $ nothing ! $ move ! (1 ∷ 0 ∷ []) $
      let z : G.Ghost = (((l.lifetime, tt), (l.share, tt), tt, (record { ref_ptr = (b0, o0); now = l.handle }, (record { ref_ptr = (b1, o1); ghost_name = l.answer_name; now = l.answer }, tt)), (vptr b0 o0 ∷ [], (vptr b1 o1 ∷ [], tt))), tt) in
      use2 𝓛 (raw (G.pre z)) (id⊢ 𝓤 _) $ calls_at_last ! fm G known z (and_then ! (get ! refl) (and_then ! (get ! refl) (no_more !))) (λ v.
      use1 𝓛 (back 𝓛 g.ended (g.clauses 𝓛 at_mem run) z.0.0 z.0.3 z.1 l.lifetime l.share v) (id⊢ 𝓤 _) $
      await ! tt $ pick ! (λ x. split ! $ move ! (1 ∷ []) $ pick ! (λ ws. split ! $ move ! (1 ∷ []) $ heard ! (ReportsNeed l.handle ws.1.0 x) (λ reports.
      fsplit ! $ drop ! $ fsplit ! $ move ! (1 ∷ []) $ drop ! $ move ! (1 ∷ []) $ split ! $ split ! $ move ! (2 ∷ []) $ peeks ! u32 (Is u32) (shows 𝓛 u32) x (v ∷ []) (λ is. let fine = ((uint_Lawful 𝓛 w32).typed x _ is).0 in
      ends0 ! C Λ _ fine fine refl refl refl refl $ free_all ! refl $ keep ! (3 ∷ 0 ∷ 1 ∷ []) $
      hold ! reports $ move ! (1 ∷ 0 ∷ []) $ fjoin ! $
      fpack ! Answer (λ answer'. fsep (left_answer l (block_ptr b1 o1) answer') (holds (ReportsNeed l.handle answer' x))) ws.1.0 $ ends (block_ptr b0 o0) (block_ptr b1 o1) v x))))))

pub odfilter_needs_moment_spec : {M : Type 1} → statement M
unfolding borrowed_by_needs_moment
odfilter_needs_moment_spec 𝓤 𝓛 𝓜 𝓡 wired =
    let c = f.clauses 𝓛 𝓜.mem 𝓡.returns in let 𝓣 = tables 𝓤 𝓛.H 𝓜 𝓡 𝓡.env in
    proved 𝓛 f.ended stayed c 𝓜 𝓡 (Goes-dropped 𝓛 0 (plain (λ _. RawPtr)) yes (λ κs x w. refl), (Goes-dropped 𝓛 0 (plain (λ _. RawPtr)) yes (λ κs x w. refl), tt))
    f.Key.name code.function (code.unfolded 𝓤 𝓛.H 𝓜 𝓡 wired)
    (λ κs. (rawptr_vals, (rawptr_vals, tt))) (λ κs. (rawptr_Tells, (rawptr_Tells, tt))) (λ κs qs bounds a l are.
    qed 𝓛 (raw (on_entry 𝓛 f.signature κs qs a (rawptr_vals a.0, (rawptr_vals a.1.0, tt))) ∷ (raw (fact 𝓤 (Testable a.0 × Testable a.1.0)) ⊛ (‵ (flft l.lifetime l.share) ⊛ ‵ (borrowed_by_needs_moment l a.0 a.1.0))) ∷ []) ∵
    drop ! $ split ! $ heard ! _ (λ may. split ! $
    runs 𝓛 𝓜.mem 𝓡.returns 𝓣.C 𝓣.Λ (framed 𝓤 𝓛.H 𝓜 𝓣) (met 𝓤 𝓛 𝓜 𝓡 (code.calls-handle_calls::calls::needs_moment 𝓡.env wired)) l a.0 a.1.0 may.0 may.1))
