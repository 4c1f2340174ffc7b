-- `judge_next` meets its contract: the addresses are tested one by one, and the call borrows what they point to.
use Rattle.odfilter_c.proofs.Steps.{◌≡◌, ℕ, ◌<◌, [], ◌∷◌, refl, lit<, w32, w64, proved, leaves, none, there_is, Ura, SProp, id⊢, fsep, flft, Val, vint, vptr, Memory, Routine, WpFn, Calls, Loops, Fun, fact, tables, FmC, Logic, ‵, raw, ◌⊛◌, prop, Sq, ◌$◌, ◌∵◌, !, qed, move, keep, drop, use0, use1, use2, split, join, fsplit, fjoin, pick, await, by, enter, of_opd, addr, stop, fld, no_more, and_then, branches, agg, sub, whole, alloc_all, pass_all, free_all, get, get_in, through, sets, u32, usize, yes, Typed, Is, shows, uint_Makes, uint_Lawful, Ptr, RawPtr, block_ptr, null_ptr, ptr_val, Testable, rawptr_vals, rawptr_Tells, slice_val, plain, nothing, owned, heard, peeks, Contract, Triple, calls_at_last, on_entry, triple_of, Stays, walk_of, stay_dropped, Goes-dropped, framed, Bytes, BytesRow, bytes_lowers, bytes_val, bytes_laws, Handle, Answer, HasNull, in_rest, trues, good, all_true, back, hold, unchanged, fpack2, compares, stands, tested, closes, hands, inside, ends1}
use Rattle.odfilter_c.specs.Loans.{Loan, left_judge, left_answer, of_bytes, holds, borrowed_judge, borrowed_bytes, borrowed_answer, unless_null}
use Rattle.odfilter_c.specs.JudgeExports.{borrowed_by_judge_next, left_by_judge_next}
use Rattle.handle_calls.specs.RowReports.{JudgesNext}
use Rattle.handle_calls.specs.contracts.calls.judge_next as g
use Rattle.handle_calls.proofs.calls.judge_next.Symbol.{name as #call}
use Rattle.handle_calls.proofs.calls.judge_next.Met.{met as met}
use Rattle.odfilter_c.specs.contracts.null_calls.judge_next_at_null as g-1
use Rattle.odfilter_c.proofs.null_calls.judge_next_at_null.Symbol.{name as #call-1}
use Rattle.odfilter_c.proofs.null_calls.judge_next_at_null.Met.{met as met-1}
use Rattle.odfilter_c.specs.contracts.judge_exports.odfilter_judge_next as f
use Rattle.odfilter_c.proofs.judge_exports.odfilter_judge_next.Statement.{statement}
use base.Fml.{Fml, feq, fex}
use Rattle.odfilter_c.proofs.judge_exports.odfilter_judge_next.Code as code

abbrev stayed : Stays f.ended.signature.params f.ended.kept
stayed = (stay_dropped _ yes, (stay_dropped _ yes, (stay_dropped _ yes, tt)))

module _ {M : Type 1} {𝓤 : Ura M} (𝓛 : Logic 𝓤) (at_mem : Memory → SProp 𝓤) (run : Routine → Fun 𝓤) (C : Calls 𝓤 𝓛.H) (Λ : Loops 𝓤 𝓛.H) (fm : FmC 𝓤 𝓛.H 𝓛.laws C)
    (known : Triple 𝓤 (C #call) (triple_of 𝓛 g.signature (g.spec 𝓛 at_mem run)))
    (known-1 : Triple 𝓤 (C #call-1) (triple_of 𝓛 g-1.signature (g-1.spec 𝓛 at_mem run))) (l : Loan) where
  open 𝓛 use {H}

  -- what the call borrows, and what it leaves
  abbrev Borrowed : Ptr → Bytes → Ptr → Fml
  Borrowed judge row answer = fsep (borrowed_judge l judge) (fsep (borrowed_bytes l row) (borrowed_answer l answer))

  abbrev Left : Ptr → Bytes → Ptr → ℕ → Fml
  Left judge row answer result = unless_null (judge ∷ answer ∷ [])
      (fsep (feq ℕ result 1) (Borrowed judge row answer))
      (fex Handle (λ judge'. fex Answer (λ answer'.
      fsep (left_judge l judge judge') (fsep (left_answer l answer answer')
      (holds (of_bytes row.at row.length l.bytes ((judge' ≡ l.judge) × ((answer' ≡ l.answer) × (result ≡ 1)))
      (λ bytes. JudgesNext l.judge judge' bytes answer' result)))))))

  abbrev G : Contract 𝓤
  G = triple_of 𝓛 g.signature (g.spec 𝓛 at_mem run)

  abbrev G-1 : Contract 𝓤
  G-1 = triple_of 𝓛 g-1.signature (g-1.spec 𝓛 at_mem run)

  abbrev W : Contract 𝓤
  W = walk_of 𝓛 f.ended stayed (f.clauses 𝓛 at_mem run)

  abbrev bound : Ptr → Bytes → Ptr → W.Ghost
  bound judge row answer = ((tt, tt, tt, (judge, (row, (answer, tt))), (ptr_val judge ∷ [], (bytes_val row ∷ [], (ptr_val answer ∷ [], tt)))), l)

  abbrev Walk : Ptr → Bytes → Ptr → Type 1
  Walk judge row answer = Sq 𝓛 (‵ (flft l.lifetime l.share) ∷ ‵ (Borrowed judge row answer) ∷ []) (prop (WpFn 𝓤 H C Λ code.function (ptr_val judge ∷ bytes_val row ∷ ptr_val answer ∷ []) (W.post (bound judge row answer))))

  ends : (judge : Ptr) (row : Bytes) (answer : Ptr) (v : Val) (x : ℕ) → Sq 𝓛 (‵ (Left judge row answer x) ∷ ‵ (u32.own_val x (v ∷ [])) ∷ ‵ (flft l.lifetime l.share) ∷ []) (prop (W.post (bound judge row answer) v))
  unfolding borrowed_by_judge_next left_by_judge_next
  ends judge row answer v x = move ! (2 ∷ 0 ∷ []) $ join ! $ move ! (1 ∷ []) $ use0 𝓛 (‵ (trues 3)) (all_true 𝓛 3) $ nothing ! $
      by ! (leaves 𝓛 f.ended stayed (f.clauses 𝓛 at_mem run) (bound judge row answer) v x (tt, (tt, (tt, tt))) (tt, (tt, (tt, tt))))

  -- with a null address nothing is called
  refused : (judge : Ptr) (row-at : Ptr) (row-length : ℕ) (answer : Ptr) → Typed BytesRow.mir (bytes_val (record { at = row-at; length = row-length }) ∷ []) → Testable judge → Testable row-at → Testable answer → HasNull (judge ∷ answer ∷ []) → Walk judge (record { at = row-at; length = row-length }) answer
  refused judge row-at row-length answer fits-row may-judge may-row may-answer null =
      enter ! C Λ code.function (ptr_val judge ∷ bytes_val (record { at = row-at; length = row-length }) ∷ ptr_val answer ∷ []) _ $ alloc_all ! (λ c. pass_all ! refl ((good 𝓛 judge).0, (fits-row.0, ((good 𝓛 answer).0, tt))) $
      tested ! judge none (get ! refl) may-judge refl (tt, tt) refl refl (tt, record { fits = lit< tt }) refl (λ _. free_all ! refl $ unchanged ! (judge ∷ answer ∷ []) _ null (ends judge (record { at = row-at; length = row-length }) answer (vint w32 1) 1)) (λ here-0.
      tested ! answer (there_is _) (get ! refl) may-answer refl (tt, tt) refl refl (tt, record { fits = lit< tt }) refl (λ _. free_all ! refl $ unchanged ! (judge ∷ answer ∷ []) _ null (ends judge (record { at = row-at; length = row-length }) answer (vint w32 1) 1)) (λ here-1.
      absurd (in_rest answer [] (in_rest judge (answer ∷ []) null here-0) here-1))))

  runs : (judge : Ptr) (row-at : Ptr) (row-length : ℕ) (answer : Ptr) → Typed BytesRow.mir (bytes_val (record { at = row-at; length = row-length }) ∷ []) → Testable judge → Testable row-at → Testable answer → Walk judge (record { at = row-at; length = row-length }) answer
  runs null_ptr row-at row-length answer fits-row may-judge may-row may-answer = refused null_ptr row-at row-length answer fits-row may-judge may-row may-answer tt
  runs (block_ptr b0 o0) row-at row-length null_ptr fits-row may-judge may-row may-answer = refused (block_ptr b0 o0) row-at row-length null_ptr fits-row may-judge may-row may-answer tt
  runs (block_ptr b0 o0) null_ptr row-length (block_ptr b2 o2) fits-row may-judge may-row may-answer =
      move ! (1 ∷ []) $ fsplit ! $ move ! (1 ∷ []) $ fsplit ! $ move ! (1 ∷ []) $ enter ! C Λ code.function (vptr b0 o0 ∷ bytes_val (record { at = null_ptr; length = row-length }) ∷ vptr b2 o2 ∷ []) _ $ alloc_all ! (λ c. pass_all ! refl ((good 𝓛 (block_ptr b0 o0)).0, (fits-row.0, ((good 𝓛 (block_ptr b2 o2)).0, tt))) $
      stands ! b0 o0 none (get ! refl) may-judge refl (tt, tt) refl $
      stands ! b2 o2 (there_is _) (get ! refl) may-answer refl (tt, tt) refl $
      compares ! null_ptr (there_is _) (get_in ! (fld ! refl (stop !)) (sub ! 0 refl (whole !))) may-row refl (tt, tt) $ closes ! $ branches ! (get ! refl) (λ _. hands ! _ _ $ inside ! _ _ _ $
      sets ! (of_opd ! (get ! refl)) refl (tt, tt) $ sets ! (addr ! (through ! refl (stop !))) refl (tt, tt) $
      sets ! (addr ! (through ! refl (stop !))) refl (tt, tt) $
      move ! (1 ∷ []) $ drop ! $ nothing ! $ move ! (1 ∷ 0 ∷ []) $ fjoin ! $ owned ! usize _ (uint_Makes 𝓛 w64) row-length _ (refl, fits-row.0.1.1.0.fits) $ fjoin ! $ move ! (1 ∷ 0 ∷ []) $ fjoin ! $ nothing ! $ move ! (2 ∷ 0 ∷ []) $ join ! $ join ! $ nothing ! $ move ! (1 ∷ 0 ∷ []) $
      let z : G-1.Ghost = (((l.lifetime, tt), (l.share, tt), tt, (record { ref_ptr = (b0, o0); ghost_name = l.judge_name; now = l.judge }, (row-length, (record { ref_ptr = (b2, o2); ghost_name = l.answer_name; now = l.answer }, tt))), (vptr b0 o0 ∷ [], (vint w64 row-length ∷ [], (vptr b2 o2 ∷ [], tt)))), tt) in
      use2 𝓛 (raw (G-1.pre z)) (id⊢ 𝓤 _) $ calls_at_last ! fm G-1 known-1 z (and_then ! (get ! refl) (and_then ! (get_in ! (fld ! refl (stop !)) (sub ! 1 refl (whole !))) (and_then ! (get ! refl) (no_more !)))) (λ v.
      use1 𝓛 (back 𝓛 g-1.ended (g-1.clauses 𝓛 at_mem run) z.0.0 z.0.3 z.1 l.lifetime l.share v) (id⊢ 𝓤 _) $
      await ! tt $ pick ! (λ x. split ! $ move ! (1 ∷ []) $ pick ! (λ ws. split ! $ move ! (1 ∷ []) $ heard ! (of_bytes null_ptr row-length l.bytes ((ws.0 ≡ l.judge) × ((ws.1.1.0 ≡ l.answer) × (x ≡ 1))) (λ bytes. JudgesNext l.judge ws.0 bytes ws.1.1.0 x)) (λ reports.
      fsplit ! $ move ! (1 ∷ []) $ fsplit ! $ drop ! $ fsplit ! $ move ! (1 ∷ []) $ drop ! $ move ! (2 ∷ []) $ split ! $ split ! $ move ! (2 ∷ []) $ peeks ! u32 (Is u32) (shows 𝓛 u32) x (v ∷ []) (λ is. let fine = ((uint_Lawful 𝓛 w32).typed x _ is).0 in
      ends1 ! C Λ _ _ fine fine fine refl refl refl refl refl refl $ free_all ! refl $ keep ! (3 ∷ 4 ∷ 0 ∷ 1 ∷ []) $
      hold ! reports $ move ! (1 ∷ 0 ∷ []) $ fjoin ! $ move ! (1 ∷ 0 ∷ []) $ fjoin ! $
      fpack2 ! Handle Answer (λ judge' answer'. fsep (left_judge l (block_ptr b0 o0) judge') (fsep (left_answer l (block_ptr b2 o2) answer') (holds (of_bytes null_ptr row-length l.bytes ((judge' ≡ l.judge) × ((answer' ≡ l.answer) × (x ≡ 1))) (λ bytes. JudgesNext l.judge judge' bytes answer' x))))) ws.0 ws.1.1.0 $ ends (block_ptr b0 o0) (record { at = null_ptr; length = row-length }) (block_ptr b2 o2) v x)))))) (λ wrong. absurd wrong))
  runs (block_ptr b0 o0) (block_ptr b1 o1) row-length (block_ptr b2 o2) fits-row may-judge may-row may-answer =
      move ! (1 ∷ []) $ fsplit ! $ move ! (1 ∷ []) $ fsplit ! $ move ! (1 ∷ []) $ enter ! C Λ code.function (vptr b0 o0 ∷ bytes_val (record { at = (block_ptr b1 o1); length = row-length }) ∷ vptr b2 o2 ∷ []) _ $ alloc_all ! (λ c. pass_all ! refl ((good 𝓛 (block_ptr b0 o0)).0, (fits-row.0, ((good 𝓛 (block_ptr b2 o2)).0, tt))) $
      stands ! b0 o0 none (get ! refl) may-judge refl (tt, tt) refl $
      stands ! b2 o2 (there_is _) (get ! refl) may-answer refl (tt, tt) refl $
      compares ! (block_ptr b1 o1) (there_is _) (get_in ! (fld ! refl (stop !)) (sub ! 0 refl (whole !))) may-row refl (tt, tt) $ closes ! $ branches ! (get ! refl) (λ wrong. absurd wrong) (λ _. hands ! _ _ $ inside ! _ _ _ $
      sets ! (of_opd ! (get ! refl)) refl (tt, tt) $ sets ! (addr ! (through ! refl (stop !))) refl (tt, tt) $
      sets ! (agg ! (and_then ! (get_in ! (fld ! refl (stop !)) (sub ! 0 refl (whole !))) (and_then ! (get_in ! (fld ! refl (stop !)) (sub ! 1 refl (whole !))) (no_more !)))) refl (tt, (tt, (fits-row.0.1.1.0, tt))) $
      sets ! (addr ! (through ! refl (stop !))) refl (tt, tt) $
      nothing ! $ move ! (1 ∷ 0 ∷ []) $ fjoin ! $ move ! (1 ∷ 0 ∷ []) $ fjoin ! $ move ! (1 ∷ 0 ∷ []) $ fjoin ! $ nothing ! $ move ! (2 ∷ 0 ∷ []) $ join ! $ join ! $ nothing ! $ move ! (1 ∷ 0 ∷ []) $
      let z : G.Ghost = (((l.lifetime, tt), (l.share, tt), tt, (record { ref_ptr = (b0, o0); ghost_name = l.judge_name; now = l.judge }, (record { ref_ptr = (b1, o1); now = l.bytes }, (record { ref_ptr = (b2, o2); ghost_name = l.answer_name; now = l.answer }, tt))), (vptr b0 o0 ∷ [], (slice_val (b1, o1) row-length ∷ [], (vptr b2 o2 ∷ [], tt)))), tt) in
      use2 𝓛 (raw (G.pre z)) (id⊢ 𝓤 _) $ calls_at_last ! fm G known z (and_then ! (get ! refl) (and_then ! (get ! refl) (and_then ! (get ! refl) (no_more !)))) (λ v.
      use1 𝓛 (back 𝓛 g.ended (g.clauses 𝓛 at_mem run) z.0.0 z.0.3 z.1 l.lifetime l.share v) (id⊢ 𝓤 _) $
      await ! tt $ pick ! (λ x. split ! $ move ! (1 ∷ []) $ pick ! (λ ws. split ! $ move ! (1 ∷ []) $ heard ! (of_bytes (block_ptr b1 o1) row-length l.bytes ((ws.0 ≡ l.judge) × ((ws.1.1.0 ≡ l.answer) × (x ≡ 1))) (λ bytes. JudgesNext l.judge ws.0 bytes ws.1.1.0 x)) (λ reports.
      fsplit ! $ move ! (1 ∷ []) $ fsplit ! $ drop ! $ fsplit ! $ move ! (1 ∷ []) $ drop ! $ move ! (2 ∷ []) $ split ! $ split ! $ move ! (2 ∷ []) $ peeks ! u32 (Is u32) (shows 𝓛 u32) x (v ∷ []) (λ is. let fine = ((uint_Lawful 𝓛 w32).typed x _ is).0 in
      ends1 ! C Λ _ _ fine fine fine refl refl refl refl refl refl $ free_all ! refl $ keep ! (3 ∷ 4 ∷ 0 ∷ 1 ∷ []) $
      hold ! reports $ move ! (1 ∷ 0 ∷ []) $ fjoin ! $ move ! (1 ∷ 0 ∷ []) $ fjoin ! $
      fpack2 ! Handle Answer (λ judge' answer'. fsep (left_judge l (block_ptr b0 o0) judge') (fsep (left_answer l (block_ptr b2 o2) answer') (holds (of_bytes (block_ptr b1 o1) row-length l.bytes ((judge' ≡ l.judge) × ((answer' ≡ l.answer) × (x ≡ 1))) (λ bytes. JudgesNext l.judge judge' bytes answer' x))))) ws.0 ws.1.1.0 $ ends (block_ptr b0 o0) (record { at = (block_ptr b1 o1); length = row-length }) (block_ptr b2 o2) v x)))))))

pub odfilter_judge_next_spec : {M : Type 1} → statement M
unfolding borrowed_by_judge_next
odfilter_judge_next_spec 𝓤 𝓛 𝓜 𝓡 wired =
    let c = f.clauses 𝓛 𝓜.mem 𝓡.returns in let 𝓣 = tables 𝓤 𝓛.H 𝓜 𝓡 𝓡.env in
    proved 𝓛 f.ended stayed c 𝓜 𝓡 (Goes-dropped 𝓛 0 (plain (λ _. RawPtr)) yes (λ κs x w. refl), (Goes-dropped 𝓛 0 (plain (λ _. BytesRow)) yes (λ κs x w. refl), (Goes-dropped 𝓛 0 (plain (λ _. RawPtr)) yes (λ κs x w. refl), tt)))
    f.Key.name code.function (code.unfolded 𝓤 𝓛.H 𝓜 𝓡 wired)
    (λ κs. (rawptr_vals, ((λ s. bytes_val s ∷ []), (rawptr_vals, tt)))) (λ κs. (rawptr_Tells, (bytes_lowers.val_is, (rawptr_Tells, tt)))) (λ κs qs bounds a l are.
    qed 𝓛 (raw (on_entry 𝓛 f.signature κs qs a (rawptr_vals a.0, (bytes_val a.1.0 ∷ [], (rawptr_vals a.1.1.0, tt)))) ∷ (raw (fact 𝓤 (Testable a.0 × Testable a.1.0.at × Testable a.1.1.0)) ⊛ (‵ (flft l.lifetime l.share) ⊛ ‵ (borrowed_by_judge_next l a.0 a.1.0 a.1.1.0))) ∷ []) ∵
    drop ! $ split ! $ heard ! _ (λ may. split ! $
    runs 𝓛 𝓜.mem 𝓡.returns 𝓣.C 𝓣.Λ (framed 𝓤 𝓛.H 𝓜 𝓣) (met 𝓤 𝓛 𝓜 𝓡 (code.calls-handle_calls::calls::judge_next 𝓡.env wired)) (met-1 𝓤 𝓛 𝓜 𝓡 (code.calls-odfilter_c::null_calls::judge_next_at_null 𝓡.env wired)) l a.0 a.1.0.at a.1.0.length a.1.1.0 ((bytes_laws.lawful 𝓛).typed a.1.0 _ are.1.0) may.0 may.1 may.2))
