-- `filter_lines` meets its contract: the addresses are tested one by one, and the call borrows what they point to.
use Rattle.odfilter_c.proofs.Steps.{◌≡◌, ℕ, ◌<◌, List, [], ◌∷◌, refl, lit<, w32, w64, proved, leaves, none, there_is, Ura, SProp, id⊢, fsep, flft, Val, vint, vptr, Memory, Routine, WpFn, Calls, Loops, Fun, fact, tables, FmC, Logic, ‵, raw, ◌⊛◌, prop, Sq, ◌$◌, ◌∵◌, !, qed, move, keep, drop, use0, use1, use2, split, join, fsplit, fjoin, pick, await, by, enter, of_opd, addr, stop, fld, no_more, and_then, branches, agg, sub, whole, alloc_all, pass_all, free_all, get, get_in, through, sets, u32, usize, yes, Typed, Is, shows, uint_Makes, uint_Lawful, Ptr, RawPtr, block_ptr, null_ptr, ptr_val, Testable, rawptr_vals, rawptr_Tells, slice_val, plain, nothing, owned, heard, peeks, Contract, Triple, calls_at_last, on_entry, triple_of, Stays, walk_of, stay_dropped, Goes-dropped, framed, Bytes, BytesRow, bytes_lowers, bytes_val, bytes_laws, Buffer, BufferRow, buffer_lowers, buffer_val, buffer_laws, Handle, Answer, HasNull, in_rest, trues, good, all_true, back, hold, unchanged, fpack3, compares, stands, tested, closes, hands, inside, ends2}
use Rattle.odfilter_c.specs.Loans.{Loan, left_judge, left_buffer, left_answer, of_bytes, of_buffer, holds, borrowed_handle, borrowed_judge, borrowed_bytes, borrowed_buffer, borrowed_answer, unless_null}
use Rattle.odfilter_c.specs.LineExports.{borrowed_by_filter_lines, left_by_filter_lines}
use Rattle.handle_calls.specs.RowReports.{FiltersLines}
use Rattle.handle_calls.specs.contracts.calls.filter_lines as g
use Rattle.handle_calls.proofs.calls.filter_lines.Symbol.{name as #call}
use Rattle.handle_calls.proofs.calls.filter_lines.Met.{met as met}
use Rattle.odfilter_c.specs.contracts.null_calls.filter_lines_at_null as g-1
use Rattle.odfilter_c.proofs.null_calls.filter_lines_at_null.Symbol.{name as #call-1}
use Rattle.odfilter_c.proofs.null_calls.filter_lines_at_null.Met.{met as met-1}
use Rattle.odfilter_c.specs.contracts.null_buffer_calls.filter_lines_to_null as g-2
use Rattle.odfilter_c.proofs.null_buffer_calls.filter_lines_to_null.Symbol.{name as #call-2}
use Rattle.odfilter_c.proofs.null_buffer_calls.filter_lines_to_null.Met.{met as met-2}
use Rattle.odfilter_c.specs.contracts.null_buffer_calls.filter_lines_to_null_at_null as g-3
use Rattle.odfilter_c.proofs.null_buffer_calls.filter_lines_to_null_at_null.Symbol.{name as #call-3}
use Rattle.odfilter_c.proofs.null_buffer_calls.filter_lines_to_null_at_null.Met.{met as met-3}
use Rattle.odfilter_c.specs.contracts.line_exports.odfilter_filter_lines as f
use Rattle.odfilter_c.proofs.line_exports.odfilter_filter_lines.Statement.{statement}
use base.Fml.{Fml, feq, fex}
use Rattle.odfilter_c.proofs.line_exports.odfilter_filter_lines.Code as code

abbrev stayed : Stays f.ended.signature.params f.ended.kept
stayed = (stay_dropped _ yes, (stay_dropped _ yes, (stay_dropped _ yes, (stay_dropped _ yes, (stay_dropped _ yes, tt)))))

module _ {M : Type 1} {𝓤 : Ura M} (𝓛 : Logic 𝓤) (at_mem : Memory → SProp 𝓤) (run : Routine → Fun 𝓤) (C : Calls 𝓤 𝓛.H) (Λ : Loops 𝓤 𝓛.H) (fm : FmC 𝓤 𝓛.H 𝓛.laws C)
    (known : Triple 𝓤 (C #call) (triple_of 𝓛 g.signature (g.spec 𝓛 at_mem run)))
    (known-1 : Triple 𝓤 (C #call-1) (triple_of 𝓛 g-1.signature (g-1.spec 𝓛 at_mem run)))
    (known-2 : Triple 𝓤 (C #call-2) (triple_of 𝓛 g-2.signature (g-2.spec 𝓛 at_mem run)))
    (known-3 : Triple 𝓤 (C #call-3) (triple_of 𝓛 g-3.signature (g-3.spec 𝓛 at_mem run))) (l : Loan) where
  open 𝓛 use {H}

  -- what the call borrows, and what it leaves
  abbrev Borrowed : Ptr → Ptr → Bytes → Buffer → Ptr → Fml
  Borrowed filter judge rows kept answer = fsep (borrowed_handle l filter) (fsep (borrowed_judge l judge) (fsep (borrowed_bytes l rows)
      (fsep (borrowed_buffer l kept) (borrowed_answer l answer))))

  abbrev Left : Ptr → Ptr → Bytes → Buffer → Ptr → ℕ → Fml
  Left filter judge rows kept answer result = unless_null (filter ∷ judge ∷ answer ∷ [])
      (fsep (feq ℕ result 1) (Borrowed filter judge rows kept answer))
      (fex Handle (λ judge'. fex (List ℕ) (λ kept'. fex Answer (λ answer'.
      fsep (left_judge l judge judge') (fsep (left_buffer l kept kept') (fsep (left_answer l answer answer')
      (holds (of_buffer kept.at kept.length l.buffer kept'
      ((judge' ≡ l.judge) × ((answer' ≡ l.answer) × (result ≡ 1)))
      (λ old new. of_bytes rows.at rows.length l.bytes
      ((judge' ≡ l.judge) × ((new ≡ old) × ((answer' ≡ l.answer) × (result ≡ 1))))
      (λ bytes. FiltersLines l.handle l.judge judge' bytes old new answer' result))))))))))

  abbrev G : Contract 𝓤
  G = triple_of 𝓛 g.signature (g.spec 𝓛 at_mem run)

  abbrev G-1 : Contract 𝓤
  G-1 = triple_of 𝓛 g-1.signature (g-1.spec 𝓛 at_mem run)

  abbrev G-2 : Contract 𝓤
  G-2 = triple_of 𝓛 g-2.signature (g-2.spec 𝓛 at_mem run)

  abbrev G-3 : Contract 𝓤
  G-3 = triple_of 𝓛 g-3.signature (g-3.spec 𝓛 at_mem run)

  abbrev W : Contract 𝓤
  W = walk_of 𝓛 f.ended stayed (f.clauses 𝓛 at_mem run)

  abbrev bound : Ptr → Ptr → Bytes → Buffer → Ptr → W.Ghost
  bound filter judge rows kept answer = ((tt, tt, tt, (filter, (judge, (rows, (kept, (answer, tt))))), (ptr_val filter ∷ [], (ptr_val judge ∷ [], (bytes_val rows ∷ [], (buffer_val kept ∷ [], (ptr_val answer ∷ [], tt)))))), l)

  abbrev Walk : Ptr → Ptr → Bytes → Buffer → Ptr → Type 1
  Walk filter judge rows kept answer = Sq 𝓛 (‵ (flft l.lifetime l.share) ∷ ‵ (Borrowed filter judge rows kept answer) ∷ []) (prop (WpFn 𝓤 H C Λ code.function (ptr_val filter ∷ ptr_val judge ∷ bytes_val rows ∷ buffer_val kept ∷ ptr_val answer ∷ []) (W.post (bound filter judge rows kept answer))))

  ends : (filter : Ptr) (judge : Ptr) (rows : Bytes) (kept : Buffer) (answer : Ptr) (v : Val) (x : ℕ) → Sq 𝓛 (‵ (Left filter judge rows kept answer x) ∷ ‵ (u32.own_val x (v ∷ [])) ∷ ‵ (flft l.lifetime l.share) ∷ []) (prop (W.post (bound filter judge rows kept answer) v))
  unfolding borrowed_by_filter_lines left_by_filter_lines
  ends filter judge rows kept answer v x = move ! (2 ∷ 0 ∷ []) $ join ! $ move ! (1 ∷ []) $ use0 𝓛 (‵ (trues 5)) (all_true 𝓛 5) $ nothing ! $
      by ! (leaves 𝓛 f.ended stayed (f.clauses 𝓛 at_mem run) (bound filter judge rows kept answer) v x (tt, (tt, (tt, (tt, (tt, tt))))) (tt, (tt, (tt, (tt, (tt, tt))))))

  -- with a null address nothing is called
  refused : (filter : Ptr) (judge : Ptr) (rows-at : Ptr) (rows-length : ℕ) (kept-at : Ptr) (kept-length : ℕ) (answer : Ptr) → Typed BytesRow.mir (bytes_val (record { at = rows-at; length = rows-length }) ∷ []) → Typed BufferRow.mir (buffer_val (record { at = kept-at; length = kept-length }) ∷ []) → Testable filter → Testable judge → Testable rows-at → Testable kept-at → Testable answer → HasNull (filter ∷ judge ∷ answer ∷ []) → Walk filter judge (record { at = rows-at; length = rows-length }) (record { at = kept-at; length = kept-length }) answer
  refused filter judge rows-at rows-length kept-at kept-length answer fits-rows fits-kept may-filter may-judge may-rows may-kept may-answer null =
      enter ! C Λ code.function (ptr_val filter ∷ ptr_val judge ∷ bytes_val (record { at = rows-at; length = rows-length }) ∷ buffer_val (record { at = kept-at; length = kept-length }) ∷ ptr_val answer ∷ []) _ $ alloc_all ! (λ c. pass_all ! refl ((good 𝓛 filter).0, ((good 𝓛 judge).0, (fits-rows.0, (fits-kept.0, ((good 𝓛 answer).0, tt))))) $
      tested ! filter none (get ! refl) may-filter refl (tt, tt) refl refl (tt, record { fits = lit< tt }) refl (λ _. free_all ! refl $ unchanged ! (filter ∷ judge ∷ answer ∷ []) _ null (ends filter judge (record { at = rows-at; length = rows-length }) (record { at = kept-at; length = kept-length }) answer (vint w32 1) 1)) (λ here-0.
      tested ! judge (there_is _) (get ! refl) may-judge refl (tt, tt) refl refl (tt, record { fits = lit< tt }) refl (λ _. free_all ! refl $ unchanged ! (filter ∷ judge ∷ answer ∷ []) _ null (ends filter judge (record { at = rows-at; length = rows-length }) (record { at = kept-at; length = kept-length }) answer (vint w32 1) 1)) (λ here-1.
      tested ! answer (there_is _) (get ! refl) may-answer refl (tt, tt) refl refl (tt, record { fits = lit< tt }) refl (λ _. free_all ! refl $ unchanged ! (filter ∷ judge ∷ answer ∷ []) _ null (ends filter judge (record { at = rows-at; length = rows-length }) (record { at = kept-at; length = kept-length }) answer (vint w32 1) 1)) (λ here-2.
      absurd (in_rest answer [] (in_rest judge (answer ∷ []) (in_rest filter (judge ∷ answer ∷ []) null here-0) here-1) here-2)))))

  runs : (filter : Ptr) (judge : Ptr) (rows-at : Ptr) (rows-length : ℕ) (kept-at : Ptr) (kept-length : ℕ) (answer : Ptr) → Typed BytesRow.mir (bytes_val (record { at = rows-at; length = rows-length }) ∷ []) → Typed BufferRow.mir (buffer_val (record { at = kept-at; length = kept-length }) ∷ []) → Testable filter → Testable judge → Testable rows-at → Testable kept-at → Testable answer → Walk filter judge (record { at = rows-at; length = rows-length }) (record { at = kept-at; length = kept-length }) answer
  runs null_ptr judge rows-at rows-length kept-at kept-length answer fits-rows fits-kept may-filter may-judge may-rows may-kept may-answer = refused null_ptr judge rows-at rows-length kept-at kept-length answer fits-rows fits-kept may-filter may-judge may-rows may-kept may-answer tt
  runs (block_ptr b0 o0) null_ptr rows-at rows-length kept-at kept-length answer fits-rows fits-kept may-filter may-judge may-rows may-kept may-answer = refused (block_ptr b0 o0) null_ptr rows-at rows-length kept-at kept-length answer fits-rows fits-kept may-filter may-judge may-rows may-kept may-answer tt
  runs (block_ptr b0 o0) (block_ptr b1 o1) rows-at rows-length kept-at kept-length null_ptr fits-rows fits-kept may-filter may-judge may-rows may-kept may-answer = refused (block_ptr b0 o0) (block_ptr b1 o1) rows-at rows-length kept-at kept-length null_ptr fits-rows fits-kept may-filter may-judge may-rows may-kept may-answer tt
  runs (block_ptr b0 o0) (block_ptr b1 o1) null_ptr rows-length null_ptr kept-length (block_ptr b4 o4) fits-rows fits-kept may-filter may-judge may-rows may-kept may-answer =
      move ! (1 ∷ []) $ fsplit ! $ move ! (1 ∷ []) $ fsplit ! $ move ! (1 ∷ []) $ fsplit ! $ move ! (1 ∷ []) $ fsplit ! $ move ! (1 ∷ []) $ enter ! C Λ code.function (vptr b0 o0 ∷ vptr b1 o1 ∷ bytes_val (record { at = null_ptr; length = rows-length }) ∷ buffer_val (record { at = null_ptr; length = kept-length }) ∷ vptr b4 o4 ∷ []) _ $ alloc_all ! (λ c. pass_all ! refl ((good 𝓛 (block_ptr b0 o0)).0, ((good 𝓛 (block_ptr b1 o1)).0, (fits-rows.0, (fits-kept.0, ((good 𝓛 (block_ptr b4 o4)).0, tt))))) $
      stands ! b0 o0 none (get ! refl) may-filter refl (tt, tt) refl $
      stands ! b1 o1 (there_is _) (get ! refl) may-judge refl (tt, tt) refl $
      stands ! b4 o4 (there_is _) (get ! refl) may-answer refl (tt, tt) refl $
      compares ! null_ptr (there_is _) (get_in ! (fld ! refl (stop !)) (sub ! 0 refl (whole !))) may-kept refl (tt, tt) $ closes ! $ branches ! (get ! refl) (λ _.
      compares ! null_ptr none (get_in ! (fld ! refl (stop !)) (sub ! 0 refl (whole !))) may-rows refl (tt, tt) $ hands ! _ _ $ branches ! (get ! refl) (λ _. hands ! _ _ $ inside ! _ _ _ $
      sets ! (of_opd ! (get ! refl)) refl (tt, tt) $ sets ! (addr ! (through ! refl (stop !))) refl (tt, tt) $
      sets ! (of_opd ! (get ! refl)) refl (tt, tt) $ sets ! (addr ! (through ! refl (stop !))) refl (tt, tt) $
      sets ! (addr ! (through ! refl (stop !))) refl (tt, tt) $
      move ! (1 ∷ []) $ drop ! $ move ! (1 ∷ []) $ drop ! $ nothing ! $ move ! (1 ∷ 0 ∷ []) $ fjoin ! $ owned ! usize _ (uint_Makes 𝓛 w64) kept-length _ (refl, fits-kept.0.1.1.0.fits) $ fjoin ! $ owned ! usize _ (uint_Makes 𝓛 w64) rows-length _ (refl, fits-rows.0.1.1.0.fits) $ fjoin ! $ move ! (1 ∷ 0 ∷ []) $ fjoin ! $ move ! (1 ∷ 0 ∷ []) $ fjoin ! $ nothing ! $ move ! (2 ∷ 0 ∷ []) $ join ! $ join ! $ nothing ! $ move ! (1 ∷ 0 ∷ []) $
      let z : G-3.Ghost = (((l.lifetime, tt), (l.share, tt), tt, (record { ref_ptr = (b0, o0); now = l.handle }, (record { ref_ptr = (b1, o1); ghost_name = l.judge_name; now = l.judge }, (rows-length, (kept-length, (record { ref_ptr = (b4, o4); ghost_name = l.answer_name; now = l.answer }, tt))))), (vptr b0 o0 ∷ [], (vptr b1 o1 ∷ [], (vint w64 rows-length ∷ [], (vint w64 kept-length ∷ [], (vptr b4 o4 ∷ [], tt)))))), tt) in
      use2 𝓛 (raw (G-3.pre z)) (id⊢ 𝓤 _) $ calls_at_last ! fm G-3 known-3 z (and_then ! (get ! refl) (and_then ! (get ! refl) (and_then ! (get_in ! (fld ! refl (stop !)) (sub ! 1 refl (whole !))) (and_then ! (get_in ! (fld ! refl (stop !)) (sub ! 1 refl (whole !))) (and_then ! (get ! refl) (no_more !)))))) (λ v.
      use1 𝓛 (back 𝓛 g-3.ended (g-3.clauses 𝓛 at_mem run) z.0.0 z.0.3 z.1 l.lifetime l.share v) (id⊢ 𝓤 _) $
      await ! tt $ pick ! (λ x. split ! $ move ! (1 ∷ []) $ pick ! (λ ws. split ! $ move ! (1 ∷ []) $ heard ! (of_buffer null_ptr kept-length l.buffer [] ((ws.1.0 ≡ l.judge) × ((ws.1.1.1.1.0 ≡ l.answer) × (x ≡ 1))) (λ old new. of_bytes null_ptr rows-length l.bytes ((ws.1.0 ≡ l.judge) × ((new ≡ old) × ((ws.1.1.1.1.0 ≡ l.answer) × (x ≡ 1)))) (λ bytes. FiltersLines l.handle l.judge ws.1.0 bytes old new ws.1.1.1.1.0 x))) (λ reports.
      fsplit ! $ drop ! $ fsplit ! $ move ! (1 ∷ []) $ fsplit ! $ drop ! $ fsplit ! $ drop ! $ fsplit ! $ move ! (1 ∷ []) $ drop ! $ move ! (2 ∷ []) $ split ! $ split ! $ move ! (2 ∷ []) $ peeks ! u32 (Is u32) (shows 𝓛 u32) x (v ∷ []) (λ is. let fine = ((uint_Lawful 𝓛 w32).typed x _ is).0 in
      ends2 ! C Λ _ _ _ fine fine fine fine refl refl refl refl refl refl refl refl $ free_all ! refl $ keep ! (3 ∷ 4 ∷ 0 ∷ 1 ∷ []) $
      hold ! reports $ move ! (1 ∷ 0 ∷ []) $ fjoin ! $ nothing ! $ fjoin ! $ move ! (1 ∷ 0 ∷ []) $ fjoin ! $
      fpack3 ! Handle (List ℕ) Answer (λ judge' kept' answer'. fsep (left_judge l (block_ptr b1 o1) judge') (fsep (left_buffer l (record { at = null_ptr; length = kept-length }) kept') (fsep (left_answer l (block_ptr b4 o4) answer') (holds (of_buffer null_ptr kept-length l.buffer kept' ((judge' ≡ l.judge) × ((answer' ≡ l.answer) × (x ≡ 1))) (λ old new. of_bytes null_ptr rows-length l.bytes ((judge' ≡ l.judge) × ((new ≡ old) × ((answer' ≡ l.answer) × (x ≡ 1)))) (λ bytes. FiltersLines l.handle l.judge judge' bytes old new answer' x))))))) ws.1.0 [] ws.1.1.1.1.0 $ ends (block_ptr b0 o0) (block_ptr b1 o1) (record { at = null_ptr; length = rows-length }) (record { at = null_ptr; length = kept-length }) (block_ptr b4 o4) v x)))))) (λ wrong. absurd wrong)) (λ wrong. absurd wrong))
  runs (block_ptr b0 o0) (block_ptr b1 o1) (block_ptr b2 o2) rows-length null_ptr kept-length (block_ptr b4 o4) fits-rows fits-kept may-filter may-judge may-rows may-kept may-answer =
      move ! (1 ∷ []) $ fsplit ! $ move ! (1 ∷ []) $ fsplit ! $ move ! (1 ∷ []) $ fsplit ! $ move ! (1 ∷ []) $ fsplit ! $ move ! (1 ∷ []) $ enter ! C Λ code.function (vptr b0 o0 ∷ vptr b1 o1 ∷ bytes_val (record { at = (block_ptr b2 o2); length = rows-length }) ∷ buffer_val (record { at = null_ptr; length = kept-length }) ∷ vptr b4 o4 ∷ []) _ $ alloc_all ! (λ c. pass_all ! refl ((good 𝓛 (block_ptr b0 o0)).0, ((good 𝓛 (block_ptr b1 o1)).0, (fits-rows.0, (fits-kept.0, ((good 𝓛 (block_ptr b4 o4)).0, tt))))) $
      stands ! b0 o0 none (get ! refl) may-filter refl (tt, tt) refl $
      stands ! b1 o1 (there_is _) (get ! refl) may-judge refl (tt, tt) refl $
      stands ! b4 o4 (there_is _) (get ! refl) may-answer refl (tt, tt) refl $
      compares ! null_ptr (there_is _) (get_in ! (fld ! refl (stop !)) (sub ! 0 refl (whole !))) may-kept refl (tt, tt) $ closes ! $ branches ! (get ! refl) (λ _.
      compares ! (block_ptr b2 o2) none (get_in ! (fld ! refl (stop !)) (sub ! 0 refl (whole !))) may-rows refl (tt, tt) $ hands ! _ _ $ branches ! (get ! refl) (λ wrong. absurd wrong) (λ _. hands ! _ _ $ inside ! _ _ _ $
      sets ! (of_opd ! (get ! refl)) refl (tt, tt) $ sets ! (addr ! (through ! refl (stop !))) refl (tt, tt) $
      sets ! (of_opd ! (get ! refl)) refl (tt, tt) $ sets ! (addr ! (through ! refl (stop !))) refl (tt, tt) $
      sets ! (agg ! (and_then ! (get_in ! (fld ! refl (stop !)) (sub ! 0 refl (whole !))) (and_then ! (get_in ! (fld ! refl (stop !)) (sub ! 1 refl (whole !))) (no_more !)))) refl (tt, (tt, (fits-rows.0.1.1.0, tt))) $
      sets ! (addr ! (through ! refl (stop !))) refl (tt, tt) $
      move ! (1 ∷ []) $ drop ! $ nothing ! $ move ! (1 ∷ 0 ∷ []) $ fjoin ! $ owned ! usize _ (uint_Makes 𝓛 w64) kept-length _ (refl, fits-kept.0.1.1.0.fits) $ fjoin ! $ move ! (1 ∷ 0 ∷ []) $ fjoin ! $ move ! (1 ∷ 0 ∷ []) $ fjoin ! $ move ! (1 ∷ 0 ∷ []) $ fjoin ! $ nothing ! $ move ! (2 ∷ 0 ∷ []) $ join ! $ join ! $ nothing ! $ move ! (1 ∷ 0 ∷ []) $
      let z : G-2.Ghost = (((l.lifetime, tt), (l.share, tt), tt, (record { ref_ptr = (b0, o0); now = l.handle }, (record { ref_ptr = (b1, o1); ghost_name = l.judge_name; now = l.judge }, (record { ref_ptr = (b2, o2); now = l.bytes }, (kept-length, (record { ref_ptr = (b4, o4); ghost_name = l.answer_name; now = l.answer }, tt))))), (vptr b0 o0 ∷ [], (vptr b1 o1 ∷ [], (slice_val (b2, o2) rows-length ∷ [], (vint w64 kept-length ∷ [], (vptr b4 o4 ∷ [], tt)))))), tt) in
      use2 𝓛 (raw (G-2.pre z)) (id⊢ 𝓤 _) $ calls_at_last ! fm G-2 known-2 z (and_then ! (get ! refl) (and_then ! (get ! refl) (and_then ! (get ! refl) (and_then ! (get_in ! (fld ! refl (stop !)) (sub ! 1 refl (whole !))) (and_then ! (get ! refl) (no_more !)))))) (λ v.
      use1 𝓛 (back 𝓛 g-2.ended (g-2.clauses 𝓛 at_mem run) z.0.0 z.0.3 z.1 l.lifetime l.share v) (id⊢ 𝓤 _) $
      await ! tt $ pick ! (λ x. split ! $ move ! (1 ∷ []) $ pick ! (λ ws. split ! $ move ! (1 ∷ []) $ heard ! (of_buffer null_ptr kept-length l.buffer [] ((ws.1.0 ≡ l.judge) × ((ws.1.1.1.1.0 ≡ l.answer) × (x ≡ 1))) (λ old new. of_bytes (block_ptr b2 o2) rows-length l.bytes ((ws.1.0 ≡ l.judge) × ((new ≡ old) × ((ws.1.1.1.1.0 ≡ l.answer) × (x ≡ 1)))) (λ bytes. FiltersLines l.handle l.judge ws.1.0 bytes old new ws.1.1.1.1.0 x))) (λ reports.
      fsplit ! $ drop ! $ fsplit ! $ move ! (1 ∷ []) $ fsplit ! $ drop ! $ fsplit ! $ drop ! $ fsplit ! $ move ! (1 ∷ []) $ drop ! $ move ! (2 ∷ []) $ split ! $ split ! $ move ! (2 ∷ []) $ peeks ! u32 (Is u32) (shows 𝓛 u32) x (v ∷ []) (λ is. let fine = ((uint_Lawful 𝓛 w32).typed x _ is).0 in
      ends2 ! C Λ _ _ _ fine fine fine fine refl refl refl refl refl refl refl refl $ free_all ! refl $ keep ! (3 ∷ 4 ∷ 0 ∷ 1 ∷ []) $
      hold ! reports $ move ! (1 ∷ 0 ∷ []) $ fjoin ! $ nothing ! $ fjoin ! $ move ! (1 ∷ 0 ∷ []) $ fjoin ! $
      fpack3 ! Handle (List ℕ) Answer (λ judge' kept' answer'. fsep (left_judge l (block_ptr b1 o1) judge') (fsep (left_buffer l (record { at = null_ptr; length = kept-length }) kept') (fsep (left_answer l (block_ptr b4 o4) answer') (holds (of_buffer null_ptr kept-length l.buffer kept' ((judge' ≡ l.judge) × ((answer' ≡ l.answer) × (x ≡ 1))) (λ old new. of_bytes (block_ptr b2 o2) rows-length l.bytes ((judge' ≡ l.judge) × ((new ≡ old) × ((answer' ≡ l.answer) × (x ≡ 1)))) (λ bytes. FiltersLines l.handle l.judge judge' bytes old new answer' x))))))) ws.1.0 [] ws.1.1.1.1.0 $ ends (block_ptr b0 o0) (block_ptr b1 o1) (record { at = (block_ptr b2 o2); length = rows-length }) (record { at = null_ptr; length = kept-length }) (block_ptr b4 o4) v x))))))) (λ wrong. absurd wrong))
  runs (block_ptr b0 o0) (block_ptr b1 o1) null_ptr rows-length (block_ptr b3 o3) kept-length (block_ptr b4 o4) fits-rows fits-kept may-filter may-judge may-rows may-kept may-answer =
      move ! (1 ∷ []) $ fsplit ! $ move ! (1 ∷ []) $ fsplit ! $ move ! (1 ∷ []) $ fsplit ! $ move ! (1 ∷ []) $ fsplit ! $ move ! (1 ∷ []) $ enter ! C Λ code.function (vptr b0 o0 ∷ vptr b1 o1 ∷ bytes_val (record { at = null_ptr; length = rows-length }) ∷ buffer_val (record { at = (block_ptr b3 o3); length = kept-length }) ∷ vptr b4 o4 ∷ []) _ $ alloc_all ! (λ c. pass_all ! refl ((good 𝓛 (block_ptr b0 o0)).0, ((good 𝓛 (block_ptr b1 o1)).0, (fits-rows.0, (fits-kept.0, ((good 𝓛 (block_ptr b4 o4)).0, tt))))) $
      stands ! b0 o0 none (get ! refl) may-filter refl (tt, tt) refl $
      stands ! b1 o1 (there_is _) (get ! refl) may-judge refl (tt, tt) refl $
      stands ! b4 o4 (there_is _) (get ! refl) may-answer refl (tt, tt) refl $
      compares ! (block_ptr b3 o3) (there_is _) (get_in ! (fld ! refl (stop !)) (sub ! 0 refl (whole !))) may-kept refl (tt, tt) $ closes ! $ branches ! (get ! refl) (λ wrong. absurd wrong) (λ _.
      compares ! null_ptr none (get_in ! (fld ! refl (stop !)) (sub ! 0 refl (whole !))) may-rows refl (tt, tt) $ hands ! _ _ $ branches ! (get ! refl) (λ _. hands ! _ _ $ inside ! _ _ _ $
      sets ! (of_opd ! (get ! refl)) refl (tt, tt) $ sets ! (addr ! (through ! refl (stop !))) refl (tt, tt) $
      sets ! (of_opd ! (get ! refl)) refl (tt, tt) $ sets ! (addr ! (through ! refl (stop !))) refl (tt, tt) $
      sets ! (agg ! (and_then ! (get_in ! (fld ! refl (stop !)) (sub ! 0 refl (whole !))) (and_then ! (get_in ! (fld ! refl (stop !)) (sub ! 1 refl (whole !))) (no_more !)))) refl (tt, (tt, (fits-kept.0.1.1.0, tt))) $
      sets ! (addr ! (through ! refl (stop !))) refl (tt, tt) $
      move ! (2 ∷ []) $ drop ! $ nothing ! $ move ! (1 ∷ 0 ∷ []) $ fjoin ! $ move ! (1 ∷ 0 ∷ []) $ fjoin ! $ owned ! usize _ (uint_Makes 𝓛 w64) rows-length _ (refl, fits-rows.0.1.1.0.fits) $ fjoin ! $ move ! (1 ∷ 0 ∷ []) $ fjoin ! $ move ! (1 ∷ 0 ∷ []) $ fjoin ! $ nothing ! $ move ! (2 ∷ 0 ∷ []) $ join ! $ join ! $ nothing ! $ move ! (1 ∷ 0 ∷ []) $
      let z : G-1.Ghost = (((l.lifetime, tt), (l.share, tt), tt, (record { ref_ptr = (b0, o0); now = l.handle }, (record { ref_ptr = (b1, o1); ghost_name = l.judge_name; now = l.judge }, (rows-length, (record { ref_ptr = (b3, o3); ghost_name = l.buffer_name; now = l.buffer }, (record { ref_ptr = (b4, o4); ghost_name = l.answer_name; now = l.answer }, tt))))), (vptr b0 o0 ∷ [], (vptr b1 o1 ∷ [], (vint w64 rows-length ∷ [], (slice_val (b3, o3) kept-length ∷ [], (vptr b4 o4 ∷ [], tt)))))), tt) in
      use2 𝓛 (raw (G-1.pre z)) (id⊢ 𝓤 _) $ calls_at_last ! fm G-1 known-1 z (and_then ! (get ! refl) (and_then ! (get ! refl) (and_then ! (get_in ! (fld ! refl (stop !)) (sub ! 1 refl (whole !))) (and_then ! (get ! refl) (and_then ! (get ! refl) (no_more !)))))) (λ v.
      use1 𝓛 (back 𝓛 g-1.ended (g-1.clauses 𝓛 at_mem run) z.0.0 z.0.3 z.1 l.lifetime l.share v) (id⊢ 𝓤 _) $
      await ! tt $ pick ! (λ x. split ! $ move ! (1 ∷ []) $ pick ! (λ ws. split ! $ move ! (1 ∷ []) $ heard ! (of_buffer (block_ptr b3 o3) kept-length l.buffer ws.1.1.1.0 ((ws.1.0 ≡ l.judge) × ((ws.1.1.1.1.0 ≡ l.answer) × (x ≡ 1))) (λ old new. of_bytes null_ptr rows-length l.bytes ((ws.1.0 ≡ l.judge) × ((new ≡ old) × ((ws.1.1.1.1.0 ≡ l.answer) × (x ≡ 1)))) (λ bytes. FiltersLines l.handle l.judge ws.1.0 bytes old new ws.1.1.1.1.0 x))) (λ reports.
      fsplit ! $ drop ! $ fsplit ! $ move ! (1 ∷ []) $ fsplit ! $ drop ! $ fsplit ! $ move ! (1 ∷ []) $ fsplit ! $ move ! (1 ∷ []) $ drop ! $ move ! (3 ∷ []) $ split ! $ split ! $ move ! (2 ∷ []) $ peeks ! u32 (Is u32) (shows 𝓛 u32) x (v ∷ []) (λ is. let fine = ((uint_Lawful 𝓛 w32).typed x _ is).0 in
      ends2 ! C Λ _ _ _ fine fine fine fine refl refl refl refl refl refl refl refl $ free_all ! refl $ keep ! (3 ∷ 4 ∷ 5 ∷ 0 ∷ 1 ∷ []) $
      hold ! reports $ move ! (1 ∷ 0 ∷ []) $ fjoin ! $ move ! (1 ∷ 0 ∷ []) $ fjoin ! $ move ! (1 ∷ 0 ∷ []) $ fjoin ! $
      fpack3 ! Handle (List ℕ) Answer (λ judge' kept' answer'. fsep (left_judge l (block_ptr b1 o1) judge') (fsep (left_buffer l (record { at = (block_ptr b3 o3); length = kept-length }) kept') (fsep (left_answer l (block_ptr b4 o4) answer') (holds (of_buffer (block_ptr b3 o3) kept-length l.buffer kept' ((judge' ≡ l.judge) × ((answer' ≡ l.answer) × (x ≡ 1))) (λ old new. of_bytes null_ptr rows-length l.bytes ((judge' ≡ l.judge) × ((new ≡ old) × ((answer' ≡ l.answer) × (x ≡ 1)))) (λ bytes. FiltersLines l.handle l.judge judge' bytes old new answer' x))))))) ws.1.0 ws.1.1.1.0 ws.1.1.1.1.0 $ ends (block_ptr b0 o0) (block_ptr b1 o1) (record { at = null_ptr; length = rows-length }) (record { at = (block_ptr b3 o3); length = kept-length }) (block_ptr b4 o4) v x)))))) (λ wrong. absurd wrong)))
  runs (block_ptr b0 o0) (block_ptr b1 o1) (block_ptr b2 o2) rows-length (block_ptr b3 o3) kept-length (block_ptr b4 o4) fits-rows fits-kept may-filter may-judge may-rows may-kept may-answer =
      move ! (1 ∷ []) $ fsplit ! $ move ! (1 ∷ []) $ fsplit ! $ move ! (1 ∷ []) $ fsplit ! $ move ! (1 ∷ []) $ fsplit ! $ move ! (1 ∷ []) $ enter ! C Λ code.function (vptr b0 o0 ∷ vptr b1 o1 ∷ bytes_val (record { at = (block_ptr b2 o2); length = rows-length }) ∷ buffer_val (record { at = (block_ptr b3 o3); length = kept-length }) ∷ vptr b4 o4 ∷ []) _ $ alloc_all ! (λ c. pass_all ! refl ((good 𝓛 (block_ptr b0 o0)).0, ((good 𝓛 (block_ptr b1 o1)).0, (fits-rows.0, (fits-kept.0, ((good 𝓛 (block_ptr b4 o4)).0, tt))))) $
      stands ! b0 o0 none (get ! refl) may-filter refl (tt, tt) refl $
      stands ! b1 o1 (there_is _) (get ! refl) may-judge refl (tt, tt) refl $
      stands ! b4 o4 (there_is _) (get ! refl) may-answer refl (tt, tt) refl $
      compares ! (block_ptr b3 o3) (there_is _) (get_in ! (fld ! refl (stop !)) (sub ! 0 refl (whole !))) may-kept refl (tt, tt) $ closes ! $ branches ! (get ! refl) (λ wrong. absurd wrong) (λ _.
      compares ! (block_ptr b2 o2) none (get_in ! (fld ! refl (stop !)) (sub ! 0 refl (whole !))) may-rows refl (tt, tt) $ hands ! _ _ $ branches ! (get ! refl) (λ wrong. absurd wrong) (λ _. hands ! _ _ $ inside ! _ _ _ $
      sets ! (of_opd ! (get ! refl)) refl (tt, tt) $ sets ! (addr ! (through ! refl (stop !))) refl (tt, tt) $
      sets ! (of_opd ! (get ! refl)) refl (tt, tt) $ sets ! (addr ! (through ! refl (stop !))) refl (tt, tt) $
      sets ! (agg ! (and_then ! (get_in ! (fld ! refl (stop !)) (sub ! 0 refl (whole !))) (and_then ! (get_in ! (fld ! refl (stop !)) (sub ! 1 refl (whole !))) (no_more !)))) refl (tt, (tt, (fits-rows.0.1.1.0, tt))) $
      sets ! (agg ! (and_then ! (get_in ! (fld ! refl (stop !)) (sub ! 0 refl (whole !))) (and_then ! (get_in ! (fld ! refl (stop !)) (sub ! 1 refl (whole !))) (no_more !)))) refl (tt, (tt, (fits-kept.0.1.1.0, tt))) $
      sets ! (addr ! (through ! refl (stop !))) refl (tt, tt) $
      nothing ! $ move ! (1 ∷ 0 ∷ []) $ fjoin ! $ move ! (1 ∷ 0 ∷ []) $ fjoin ! $ move ! (1 ∷ 0 ∷ []) $ fjoin ! $ move ! (1 ∷ 0 ∷ []) $ fjoin ! $ move ! (1 ∷ 0 ∷ []) $ fjoin ! $ nothing ! $ move ! (2 ∷ 0 ∷ []) $ join ! $ join ! $ nothing ! $ move ! (1 ∷ 0 ∷ []) $
      let z : G.Ghost = (((l.lifetime, tt), (l.share, tt), tt, (record { ref_ptr = (b0, o0); now = l.handle }, (record { ref_ptr = (b1, o1); ghost_name = l.judge_name; now = l.judge }, (record { ref_ptr = (b2, o2); now = l.bytes }, (record { ref_ptr = (b3, o3); ghost_name = l.buffer_name; now = l.buffer }, (record { ref_ptr = (b4, o4); ghost_name = l.answer_name; now = l.answer }, tt))))), (vptr b0 o0 ∷ [], (vptr b1 o1 ∷ [], (slice_val (b2, o2) rows-length ∷ [], (slice_val (b3, o3) kept-length ∷ [], (vptr b4 o4 ∷ [], tt)))))), tt) in
      use2 𝓛 (raw (G.pre z)) (id⊢ 𝓤 _) $ calls_at_last ! fm G known z (and_then ! (get ! refl) (and_then ! (get ! refl) (and_then ! (get ! refl) (and_then ! (get ! refl) (and_then ! (get ! refl) (no_more !)))))) (λ v.
      use1 𝓛 (back 𝓛 g.ended (g.clauses 𝓛 at_mem run) z.0.0 z.0.3 z.1 l.lifetime l.share v) (id⊢ 𝓤 _) $
      await ! tt $ pick ! (λ x. split ! $ move ! (1 ∷ []) $ pick ! (λ ws. split ! $ move ! (1 ∷ []) $ heard ! (of_buffer (block_ptr b3 o3) kept-length l.buffer ws.1.1.1.0 ((ws.1.0 ≡ l.judge) × ((ws.1.1.1.1.0 ≡ l.answer) × (x ≡ 1))) (λ old new. of_bytes (block_ptr b2 o2) rows-length l.bytes ((ws.1.0 ≡ l.judge) × ((new ≡ old) × ((ws.1.1.1.1.0 ≡ l.answer) × (x ≡ 1)))) (λ bytes. FiltersLines l.handle l.judge ws.1.0 bytes old new ws.1.1.1.1.0 x))) (λ reports.
      fsplit ! $ drop ! $ fsplit ! $ move ! (1 ∷ []) $ fsplit ! $ drop ! $ fsplit ! $ move ! (1 ∷ []) $ fsplit ! $ move ! (1 ∷ []) $ drop ! $ move ! (3 ∷ []) $ split ! $ split ! $ move ! (2 ∷ []) $ peeks ! u32 (Is u32) (shows 𝓛 u32) x (v ∷ []) (λ is. let fine = ((uint_Lawful 𝓛 w32).typed x _ is).0 in
      ends2 ! C Λ _ _ _ fine fine fine fine refl refl refl refl refl refl refl refl $ free_all ! refl $ keep ! (3 ∷ 4 ∷ 5 ∷ 0 ∷ 1 ∷ []) $
      hold ! reports $ move ! (1 ∷ 0 ∷ []) $ fjoin ! $ move ! (1 ∷ 0 ∷ []) $ fjoin ! $ move ! (1 ∷ 0 ∷ []) $ fjoin ! $
      fpack3 ! Handle (List ℕ) Answer (λ judge' kept' answer'. fsep (left_judge l (block_ptr b1 o1) judge') (fsep (left_buffer l (record { at = (block_ptr b3 o3); length = kept-length }) kept') (fsep (left_answer l (block_ptr b4 o4) answer') (holds (of_buffer (block_ptr b3 o3) kept-length l.buffer kept' ((judge' ≡ l.judge) × ((answer' ≡ l.answer) × (x ≡ 1))) (λ old new. of_bytes (block_ptr b2 o2) rows-length l.bytes ((judge' ≡ l.judge) × ((new ≡ old) × ((answer' ≡ l.answer) × (x ≡ 1)))) (λ bytes. FiltersLines l.handle l.judge judge' bytes old new answer' x))))))) ws.1.0 ws.1.1.1.0 ws.1.1.1.1.0 $ ends (block_ptr b0 o0) (block_ptr b1 o1) (record { at = (block_ptr b2 o2); length = rows-length }) (record { at = (block_ptr b3 o3); length = kept-length }) (block_ptr b4 o4) v x))))))))

pub odfilter_filter_lines_spec : {M : Type 1} → statement M
unfolding borrowed_by_filter_lines
odfilter_filter_lines_spec 𝓤 𝓛 𝓜 𝓡 wired =
    let c = f.clauses 𝓛 𝓜.mem 𝓡.returns in let 𝓣 = tables 𝓤 𝓛.H 𝓜 𝓡 𝓡.env in
    proved 𝓛 f.ended stayed c 𝓜 𝓡 (Goes-dropped 𝓛 0 (plain (λ _. RawPtr)) yes (λ κs x w. refl), (Goes-dropped 𝓛 0 (plain (λ _. RawPtr)) yes (λ κs x w. refl), (Goes-dropped 𝓛 0 (plain (λ _. BytesRow)) yes (λ κs x w. refl), (Goes-dropped 𝓛 0 (plain (λ _. BufferRow)) yes (λ κs x w. refl), (Goes-dropped 𝓛 0 (plain (λ _. RawPtr)) yes (λ κs x w. refl), tt)))))
    f.Key.name code.function (code.unfolded 𝓤 𝓛.H 𝓜 𝓡 wired)
    (λ κs. (rawptr_vals, (rawptr_vals, ((λ s. bytes_val s ∷ []), ((λ s. buffer_val s ∷ []), (rawptr_vals, tt)))))) (λ κs. (rawptr_Tells, (rawptr_Tells, (bytes_lowers.val_is, (buffer_lowers.val_is, (rawptr_Tells, tt)))))) (λ κs qs bounds a l are.
    qed 𝓛 (raw (on_entry 𝓛 f.signature κs qs a (rawptr_vals a.0, (rawptr_vals a.1.0, (bytes_val a.1.1.0 ∷ [], (buffer_val a.1.1.1.0 ∷ [], (rawptr_vals a.1.1.1.1.0, tt)))))) ∷ (raw (fact 𝓤 (Testable a.0 × Testable a.1.0 × Testable a.1.1.0.at × Testable a.1.1.1.0.at × Testable a.1.1.1.1.0)) ⊛ (‵ (flft l.lifetime l.share) ⊛ ‵ (borrowed_by_filter_lines l a.0 a.1.0 a.1.1.0 a.1.1.1.0 a.1.1.1.1.0))) ∷ []) ∵
    drop ! $ split ! $ heard ! _ (λ may. split ! $
    runs 𝓛 𝓜.mem 𝓡.returns 𝓣.C 𝓣.Λ (framed 𝓤 𝓛.H 𝓜 𝓣) (met 𝓤 𝓛 𝓜 𝓡 (code.calls-handle_calls::calls::filter_lines 𝓡.env wired)) (met-1 𝓤 𝓛 𝓜 𝓡 (code.calls-odfilter_c::null_calls::filter_lines_at_null 𝓡.env wired)) (met-2 𝓤 𝓛 𝓜 𝓡 (code.calls-odfilter_c::null_buffer_calls::filter_lines_to_null 𝓡.env wired)) (met-3 𝓤 𝓛 𝓜 𝓡 (code.calls-odfilter_c::null_buffer_calls::filter_lines_to_null_at_null 𝓡.env wired)) l a.0 a.1.0 a.1.1.0.at a.1.1.0.length a.1.1.1.0.at a.1.1.1.0.length a.1.1.1.1.0 ((bytes_laws.lawful 𝓛).typed a.1.1.0 _ are.1.1.0) ((buffer_laws.lawful 𝓛).typed a.1.1.1.0 _ are.1.1.1.0) may.0 may.1 may.2 may.3 may.4))
