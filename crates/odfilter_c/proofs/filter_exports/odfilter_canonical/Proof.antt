-- `canonical` meets its contract: the addresses are tested one by one, and the call borrows what they point to.
use Rattle.odfilter_c.proofs.Steps.{◌≡◌, ℕ, ◌<◌, List, [], ◌∷◌, refl, lit<, w32, w64, proved, leaves, none, there_is, Ura, SProp, id⊢, ftrue, fsep, flft, Val, vint, vptr, Memory, Routine, WpFn, Calls, Loops, Fun, fact, tables, FmC, Logic, ‵, raw, ◌⊛◌, prop, Sq, ◌$◌, ◌∵◌, !, qed, move, keep, drop, use0, use1, use2, split, join, fsplit, fjoin, pick, await, by, enter, of_opd, addr, stop, fld, no_more, and_then, branches, agg, sub, whole, alloc_all, pass_all, free_all, get, get_in, through, sets, u32, usize, yes, Typed, Is, shows, uint_Makes, uint_Lawful, Ptr, RawPtr, block_ptr, null_ptr, ptr_val, Testable, rawptr_vals, rawptr_Tells, slice_val, owns, types_at, plain, nothing, owned, heard, peeks, Contract, Triple, calls_at_last, triple_of, Stays, walk_of, stay_dropped, Goes-dropped, framed, Global, GlobalRow, global_lowers, global_val, global_laws, Buffer, BufferRow, buffer_lowers, buffer_val, buffer_laws, Answer, HasNull, in_rest, trues, good, all_true, back, hold, unchanged, fpack2, compares, stands, tested, closes, hands, inside, ends1}
use Rattle.odfilter_c.specs.Loans.{Loan, left_buffer, left_answer, of_buffer, holds, borrowed_handle, borrowed_buffer, borrowed_answer, unless_null}
use Rattle.odfilter_c.specs.FilterExports.{borrowed_by_canonical, left_by_canonical}
use Rattle.handle_calls.specs.Reports.{ReportsCanonical}
use Rattle.handle_calls.specs.contracts.calls.canonical as g
use Rattle.handle_calls.proofs.calls.canonical.Symbol.{name as #call}
use Rattle.handle_calls.proofs.calls.canonical.Met.{met as met}
use Rattle.odfilter_c.specs.contracts.length_calls.canonical_to_null as g-1
use Rattle.odfilter_c.proofs.length_calls.canonical_to_null.Symbol.{name as #call-1}
use Rattle.odfilter_c.proofs.length_calls.canonical_to_null.Met.{met as met-1}
use Rattle.odfilter_c.specs.contracts.filter_exports.odfilter_canonical as f
use Rattle.odfilter_c.proofs.filter_exports.odfilter_canonical.Statement.{statement}
use base.Fml.{Fml, feq, fex}
use Rattle.odfilter_c.proofs.filter_exports.odfilter_canonical.Code as code

abbrev stayed : Stays f.ended.signature.params f.ended.kept
stayed = (stay_dropped _ yes, (stay_dropped _ yes, (stay_dropped _ yes, (stay_dropped _ yes, tt))))

module _ {M : Type 1} {𝓤 : Ura M} (𝓛 : Logic 𝓤) (at_mem : Memory → SProp 𝓤) (run : Routine → Fun 𝓤) (C : Calls 𝓤 𝓛.H) (Λ : Loops 𝓤 𝓛.H) (fm : FmC 𝓤 𝓛.H 𝓛.laws C)
    (known : Triple 𝓤 (C #call) (triple_of 𝓛 g.signature (g.spec 𝓛 at_mem run)))
    (known-1 : Triple 𝓤 (C #call-1) (triple_of 𝓛 g-1.signature (g-1.spec 𝓛 at_mem run))) (l : Loan) where
  open 𝓛 use {H}

  -- what the call borrows, and what it leaves
  abbrev Borrowed : Ptr → Buffer → Ptr → Fml
  Borrowed filter text answer = fsep (borrowed_handle l filter) (fsep (borrowed_buffer l text) (borrowed_answer l answer))

  abbrev Left : Ptr → Buffer → Ptr → ℕ → Fml
  Left filter text answer result = unless_null (filter ∷ answer ∷ [])
      (fsep (feq ℕ result 1) (Borrowed filter text answer))
      (fex (List ℕ) (λ text'. fex Answer (λ answer'.
      fsep (left_buffer l text text') (fsep (left_answer l answer answer')
      (holds (of_buffer text.at text.length l.buffer text' ((answer' ≡ l.answer) × (result ≡ 1))
      (λ old new. ReportsCanonical l.handle old new answer' result)))))))

  abbrev G : Contract 𝓤
  G = triple_of 𝓛 g.signature (g.spec 𝓛 at_mem run)

  abbrev G-1 : Contract 𝓤
  G-1 = triple_of 𝓛 g-1.signature (g-1.spec 𝓛 at_mem run)

  abbrev W : Contract 𝓤
  W = walk_of 𝓛 f.ended stayed (f.clauses 𝓛 at_mem run)

  abbrev bound : Global → Ptr → Buffer → Ptr → W.Ghost
  bound alloc filter text answer = ((tt, tt, tt, (alloc, (filter, (text, (answer, tt)))), (global_val alloc ∷ [], (ptr_val filter ∷ [], (buffer_val text ∷ [], (ptr_val answer ∷ [], tt))))), l)

  abbrev Walk : Global → Ptr → Buffer → Ptr → Type 1
  Walk alloc filter text answer = Sq 𝓛 (‵ (flft l.lifetime l.share) ∷ ‵ (Borrowed filter text answer) ∷ ‵ (GlobalRow.own_val alloc (global_val alloc ∷ [])) ∷ []) (prop (WpFn 𝓤 H C Λ code.function (global_val alloc ∷ ptr_val filter ∷ buffer_val text ∷ ptr_val answer ∷ []) (W.post (bound alloc filter text answer))))

  ends : (alloc : Global) (filter : Ptr) (text : Buffer) (answer : Ptr) (v : Val) (x : ℕ) → Sq 𝓛 (‵ (Left filter text answer x) ∷ ‵ (u32.own_val x (v ∷ [])) ∷ ‵ (flft l.lifetime l.share) ∷ []) (prop (W.post (bound alloc filter text answer) v))
  unfolding borrowed_by_canonical left_by_canonical
  ends alloc filter text answer v x = move ! (2 ∷ 0 ∷ []) $ join ! $ move ! (1 ∷ []) $ use0 𝓛 (‵ (trues 4)) (all_true 𝓛 4) $ nothing ! $
      by ! (leaves 𝓛 f.ended stayed (f.clauses 𝓛 at_mem run) (bound alloc filter text answer) v x (tt, (tt, (tt, (tt, tt)))) (tt, (tt, (tt, (tt, tt)))))

  -- with a null address nothing is called
  refused : (alloc : Global) (filter : Ptr) (text-at : Ptr) (text-length : ℕ) (answer : Ptr) → Typed GlobalRow.mir (global_val alloc ∷ []) → Typed BufferRow.mir (buffer_val (record { at = text-at; length = text-length }) ∷ []) → Testable filter → Testable text-at → Testable answer → HasNull (filter ∷ answer ∷ []) → Walk alloc filter (record { at = text-at; length = text-length }) answer
  refused alloc filter text-at text-length answer fits-alloc fits-text may-filter may-text may-answer null =
      enter ! C Λ code.function (global_val alloc ∷ ptr_val filter ∷ buffer_val (record { at = text-at; length = text-length }) ∷ ptr_val answer ∷ []) _ $ alloc_all ! (λ c. pass_all ! refl (fits-alloc.0, ((good 𝓛 filter).0, (fits-text.0, ((good 𝓛 answer).0, tt)))) $
      tested ! filter none (get ! refl) may-filter refl (tt, tt) refl refl (tt, record { fits = lit< tt }) refl (λ _. free_all ! refl $ unchanged ! (filter ∷ answer ∷ []) _ null (ends alloc filter (record { at = text-at; length = text-length }) answer (vint w32 1) 1)) (λ here-0.
      tested ! answer (there_is _) (get ! refl) may-answer refl (tt, tt) refl refl (tt, record { fits = lit< tt }) refl (λ _. free_all ! refl $ unchanged ! (filter ∷ answer ∷ []) _ null (ends alloc filter (record { at = text-at; length = text-length }) answer (vint w32 1) 1)) (λ here-1.
      absurd (in_rest answer [] (in_rest filter (answer ∷ []) null here-0) here-1))))

  runs : (alloc : Global) (filter : Ptr) (text-at : Ptr) (text-length : ℕ) (answer : Ptr) → Typed GlobalRow.mir (global_val alloc ∷ []) → Typed BufferRow.mir (buffer_val (record { at = text-at; length = text-length }) ∷ []) → Testable filter → Testable text-at → Testable answer → Walk alloc filter (record { at = text-at; length = text-length }) answer
  runs alloc null_ptr text-at text-length answer fits-alloc fits-text may-filter may-text may-answer = refused alloc null_ptr text-at text-length answer fits-alloc fits-text may-filter may-text may-answer tt
  runs alloc (block_ptr b0 o0) text-at text-length null_ptr fits-alloc fits-text may-filter may-text may-answer = refused alloc (block_ptr b0 o0) text-at text-length null_ptr fits-alloc fits-text may-filter may-text may-answer tt
  runs alloc (block_ptr b0 o0) null_ptr text-length (block_ptr b2 o2) fits-alloc fits-text may-filter may-text may-answer =
      move ! (1 ∷ []) $ fsplit ! $ move ! (1 ∷ []) $ fsplit ! $ move ! (1 ∷ []) $ enter ! C Λ code.function (global_val alloc ∷ vptr b0 o0 ∷ buffer_val (record { at = null_ptr; length = text-length }) ∷ vptr b2 o2 ∷ []) _ $ alloc_all ! (λ c. pass_all ! refl (fits-alloc.0, ((good 𝓛 (block_ptr b0 o0)).0, (fits-text.0, ((good 𝓛 (block_ptr b2 o2)).0, tt)))) $
      stands ! b0 o0 none (get ! refl) may-filter refl (tt, tt) refl $
      stands ! b2 o2 (there_is _) (get ! refl) may-answer refl (tt, tt) refl $
      compares ! null_ptr (there_is _) (get_in ! (fld ! refl (stop !)) (sub ! 0 refl (whole !))) may-text refl (tt, tt) $ closes ! $ branches ! (get ! refl) (λ _. hands ! _ _ $ inside ! _ _ _ $
      sets ! (of_opd ! (get ! refl)) refl (tt, tt) $ sets ! (addr ! (through ! refl (stop !))) refl (tt, tt) $
      sets ! (addr ! (through ! refl (stop !))) refl (tt, tt) $
      move ! (1 ∷ []) $ drop ! $ nothing ! $ move ! (1 ∷ 0 ∷ []) $ fjoin ! $ owned ! usize _ (uint_Makes 𝓛 w64) text-length _ (refl, fits-text.0.1.1.0.fits) $ fjoin ! $ move ! (1 ∷ 0 ∷ []) $ fjoin ! $ move ! (2 ∷ 0 ∷ []) $ fjoin ! $ nothing ! $ move ! (2 ∷ 0 ∷ []) $ join ! $ join ! $ nothing ! $ move ! (1 ∷ 0 ∷ []) $
      let z : G-1.Ghost = (((l.lifetime, tt), (l.share, tt), tt, (alloc, (record { ref_ptr = (b0, o0); now = l.handle }, (text-length, (record { ref_ptr = (b2, o2); ghost_name = l.answer_name; now = l.answer }, tt)))), (global_val alloc ∷ [], (vptr b0 o0 ∷ [], (vint w64 text-length ∷ [], (vptr b2 o2 ∷ [], tt))))), tt) in
      use2 𝓛 (raw (G-1.pre z)) (id⊢ 𝓤 _) $ calls_at_last ! fm G-1 known-1 z (and_then ! (get ! refl) (and_then ! (get ! refl) (and_then ! (get_in ! (fld ! refl (stop !)) (sub ! 1 refl (whole !))) (and_then ! (get ! refl) (no_more !))))) (λ v.
      use1 𝓛 (back 𝓛 g-1.ended (g-1.clauses 𝓛 at_mem run) z.0.0 z.0.3 z.1 l.lifetime l.share v) (id⊢ 𝓤 _) $
      await ! tt $ pick ! (λ x. split ! $ move ! (1 ∷ []) $ pick ! (λ ws. split ! $ move ! (1 ∷ []) $ heard ! (of_buffer null_ptr text-length l.buffer [] ((ws.1.1.1.0 ≡ l.answer) × (x ≡ 1)) (λ old new. ReportsCanonical l.handle old new ws.1.1.1.0 x)) (λ reports.
      fsplit ! $ drop ! $ fsplit ! $ drop ! $ fsplit ! $ drop ! $ fsplit ! $ move ! (1 ∷ []) $ drop ! $ move ! (1 ∷ []) $ split ! $ split ! $ move ! (2 ∷ []) $ peeks ! u32 (Is u32) (shows 𝓛 u32) x (v ∷ []) (λ is. let fine = ((uint_Lawful 𝓛 w32).typed x _ is).0 in
      ends1 ! C Λ _ _ fine fine fine refl refl refl refl refl refl $ free_all ! refl $ keep ! (3 ∷ 0 ∷ 1 ∷ []) $
      hold ! reports $ move ! (1 ∷ 0 ∷ []) $ fjoin ! $ nothing ! $ fjoin ! $
      fpack2 ! (List ℕ) Answer (λ text' answer'. fsep (left_buffer l (record { at = null_ptr; length = text-length }) text') (fsep (left_answer l (block_ptr b2 o2) answer') (holds (of_buffer null_ptr text-length l.buffer text' ((answer' ≡ l.answer) × (x ≡ 1)) (λ old new. ReportsCanonical l.handle old new answer' x))))) [] ws.1.1.1.0 $ ends alloc (block_ptr b0 o0) (record { at = null_ptr; length = text-length }) (block_ptr b2 o2) v x)))))) (λ wrong. absurd wrong))
  runs alloc (block_ptr b0 o0) (block_ptr b1 o1) text-length (block_ptr b2 o2) fits-alloc fits-text may-filter may-text may-answer =
      move ! (1 ∷ []) $ fsplit ! $ move ! (1 ∷ []) $ fsplit ! $ move ! (1 ∷ []) $ enter ! C Λ code.function (global_val alloc ∷ vptr b0 o0 ∷ buffer_val (record { at = (block_ptr b1 o1); length = text-length }) ∷ vptr b2 o2 ∷ []) _ $ alloc_all ! (λ c. pass_all ! refl (fits-alloc.0, ((good 𝓛 (block_ptr b0 o0)).0, (fits-text.0, ((good 𝓛 (block_ptr b2 o2)).0, tt)))) $
      stands ! b0 o0 none (get ! refl) may-filter refl (tt, tt) refl $
      stands ! b2 o2 (there_is _) (get ! refl) may-answer refl (tt, tt) refl $
      compares ! (block_ptr b1 o1) (there_is _) (get_in ! (fld ! refl (stop !)) (sub ! 0 refl (whole !))) may-text refl (tt, tt) $ closes ! $ branches ! (get ! refl) (λ wrong. absurd wrong) (λ _. hands ! _ _ $ inside ! _ _ _ $
      sets ! (of_opd ! (get ! refl)) refl (tt, tt) $ sets ! (addr ! (through ! refl (stop !))) refl (tt, tt) $
      sets ! (agg ! (and_then ! (get_in ! (fld ! refl (stop !)) (sub ! 0 refl (whole !))) (and_then ! (get_in ! (fld ! refl (stop !)) (sub ! 1 refl (whole !))) (no_more !)))) refl (tt, (tt, (fits-text.0.1.1.0, tt))) $
      sets ! (addr ! (through ! refl (stop !))) refl (tt, tt) $
      nothing ! $ move ! (1 ∷ 0 ∷ []) $ fjoin ! $ move ! (1 ∷ 0 ∷ []) $ fjoin ! $ move ! (1 ∷ 0 ∷ []) $ fjoin ! $ move ! (2 ∷ 0 ∷ []) $ fjoin ! $ nothing ! $ move ! (2 ∷ 0 ∷ []) $ join ! $ join ! $ nothing ! $ move ! (1 ∷ 0 ∷ []) $
      let z : G.Ghost = (((l.lifetime, tt), (l.share, tt), tt, (alloc, (record { ref_ptr = (b0, o0); now = l.handle }, (record { ref_ptr = (b1, o1); ghost_name = l.buffer_name; now = l.buffer }, (record { ref_ptr = (b2, o2); ghost_name = l.answer_name; now = l.answer }, tt)))), (global_val alloc ∷ [], (vptr b0 o0 ∷ [], (slice_val (b1, o1) text-length ∷ [], (vptr b2 o2 ∷ [], tt))))), tt) in
      use2 𝓛 (raw (G.pre z)) (id⊢ 𝓤 _) $ calls_at_last ! fm G known z (and_then ! (get ! refl) (and_then ! (get ! refl) (and_then ! (get ! refl) (and_then ! (get ! refl) (no_more !))))) (λ v.
      use1 𝓛 (back 𝓛 g.ended (g.clauses 𝓛 at_mem run) z.0.0 z.0.3 z.1 l.lifetime l.share v) (id⊢ 𝓤 _) $
      await ! tt $ pick ! (λ x. split ! $ move ! (1 ∷ []) $ pick ! (λ ws. split ! $ move ! (1 ∷ []) $ heard ! (of_buffer (block_ptr b1 o1) text-length l.buffer ws.1.1.0 ((ws.1.1.1.0 ≡ l.answer) × (x ≡ 1)) (λ old new. ReportsCanonical l.handle old new ws.1.1.1.0 x)) (λ reports.
      fsplit ! $ drop ! $ fsplit ! $ drop ! $ fsplit ! $ move ! (1 ∷ []) $ fsplit ! $ move ! (1 ∷ []) $ drop ! $ move ! (2 ∷ []) $ split ! $ split ! $ move ! (2 ∷ []) $ peeks ! u32 (Is u32) (shows 𝓛 u32) x (v ∷ []) (λ is. let fine = ((uint_Lawful 𝓛 w32).typed x _ is).0 in
      ends1 ! C Λ _ _ fine fine fine refl refl refl refl refl refl $ free_all ! refl $ keep ! (3 ∷ 4 ∷ 0 ∷ 1 ∷ []) $
      hold ! reports $ move ! (1 ∷ 0 ∷ []) $ fjoin ! $ move ! (1 ∷ 0 ∷ []) $ fjoin ! $
      fpack2 ! (List ℕ) Answer (λ text' answer'. fsep (left_buffer l (record { at = (block_ptr b1 o1); length = text-length }) text') (fsep (left_answer l (block_ptr b2 o2) answer') (holds (of_buffer (block_ptr b1 o1) text-length l.buffer text' ((answer' ≡ l.answer) × (x ≡ 1)) (λ old new. ReportsCanonical l.handle old new answer' x))))) ws.1.1.0 ws.1.1.1.0 $ ends alloc (block_ptr b0 o0) (record { at = (block_ptr b1 o1); length = text-length }) (block_ptr b2 o2) v x)))))))

pub odfilter_canonical_spec : {M : Type 1} → statement M
unfolding borrowed_by_canonical
odfilter_canonical_spec 𝓤 𝓛 𝓜 𝓡 wired =
    let c = f.clauses 𝓛 𝓜.mem 𝓡.returns in let 𝓣 = tables 𝓤 𝓛.H 𝓜 𝓡 𝓡.env in
    proved 𝓛 f.ended stayed c 𝓜 𝓡 (Goes-dropped 𝓛 0 (plain (λ _. GlobalRow)) yes (λ κs x w. refl), (Goes-dropped 𝓛 0 (plain (λ _. RawPtr)) yes (λ κs x w. refl), (Goes-dropped 𝓛 0 (plain (λ _. BufferRow)) yes (λ κs x w. refl), (Goes-dropped 𝓛 0 (plain (λ _. RawPtr)) yes (λ κs x w. refl), tt))))
    f.Key.name code.function (code.unfolded 𝓤 𝓛.H 𝓜 𝓡 wired)
    (λ κs. ((λ g. global_val g ∷ []), (rawptr_vals, ((λ s. buffer_val s ∷ []), (rawptr_vals, tt))))) (λ κs. (global_lowers.val_is, (rawptr_Tells, (buffer_lowers.val_is, (rawptr_Tells, tt))))) (λ κs qs bounds a l are.
    qed 𝓛 ((‵ ftrue ⊛ ‵ (owns (types_at f.signature.params κs) a (global_val a.0 ∷ [], (rawptr_vals a.1.0, (buffer_val a.1.1.0 ∷ [], (rawptr_vals a.1.1.1.0, tt)))))) ∷ (raw (fact 𝓤 (Testable a.1.0 × Testable a.1.1.0.at × Testable a.1.1.1.0)) ⊛ (‵ (flft l.lifetime l.share) ⊛ ‵ (borrowed_by_canonical l a.1.0 a.1.1.0 a.1.1.1.0))) ∷ []) ∵
    split ! $ drop ! $ fsplit ! $ move ! (1 ∷ []) $ drop ! $ move ! (1 ∷ []) $ split ! $ heard ! _ (λ may. split ! $
    runs 𝓛 𝓜.mem 𝓡.returns 𝓣.C 𝓣.Λ (framed 𝓤 𝓛.H 𝓜 𝓣) (met 𝓤 𝓛 𝓜 𝓡 (code.calls-handle_calls::calls::canonical 𝓡.env wired)) (met-1 𝓤 𝓛 𝓜 𝓡 (code.calls-odfilter_c::length_calls::canonical_to_null 𝓡.env wired)) l a.0 a.1.0 a.1.1.0.at a.1.1.0.length a.1.1.1.0 ((global_laws.lawful 𝓛).typed a.0 _ are.0) ((buffer_laws.lawful 𝓛).typed a.1.1.0 _ are.1.1.0) may.0 may.1 may.2))
