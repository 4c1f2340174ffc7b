-- `check_url` meets its contract: the addresses are tested one by one, and the call borrows what they point to.
use Rattle.odfilter_c.proofs.Steps.{◌≡◌, ℕ, ◌<◌, List, [], ◌∷◌, refl, lit<, w32, w64, proved, leaves, none, there_is, Ura, SProp, id⊢, ftrue, fsep, flft, Val, vint, vptr, Memory, Routine, WpFn, Calls, Loops, Fun, fact, tables, FmC, Logic, ‵, raw, ◌⊛◌, prop, Sq, ◌$◌, ◌∵◌, !, qed, move, keep, drop, use0, use1, use2, split, join, fsplit, fjoin, pick, await, by, enter, of_opd, addr, stop, fld, no_more, and_then, branches, agg, sub, whole, alloc_all, pass_all, free_all, get, get_in, through, sets, u32, usize, yes, Typed, Is, shows, uint_Makes, uint_Lawful, Ptr, RawPtr, block_ptr, null_ptr, ptr_val, Testable, rawptr_vals, rawptr_Tells, slice_val, owns, types_at, plain, nothing, owned, heard, peeks, Contract, Triple, calls_at_last, triple_of, Stays, walk_of, stay_dropped, Goes-dropped, framed, Global, GlobalRow, global_lowers, global_val, global_laws, Bytes, BytesRow, bytes_lowers, bytes_val, bytes_laws, Buffer, BufferRow, buffer_lowers, buffer_val, buffer_laws, Owned, Answer, HasNull, in_rest, trues, good, all_true, back, hold, unchanged, fpack3, compares, stands, tested, closes, hands, inside, ends2}
use Rattle.odfilter_c.specs.Loans.{Loan, left_buffer, left_made, left_answer, of_bytes, of_buffer, holds, borrowed_handle, borrowed_bytes, borrowed_buffer, borrowed_made, borrowed_answer, unless_null}
use Rattle.odfilter_c.specs.FilterExports.{borrowed_by_check_url, left_by_check_url}
use Rattle.handle_calls.specs.UrlCalls.{ChecksUrl}
use Rattle.handle_calls.specs.contracts.calls.check_url as g
use Rattle.handle_calls.proofs.calls.check_url.Symbol.{name as #call}
use Rattle.handle_calls.proofs.calls.check_url.Met.{met as met}
use Rattle.odfilter_c.specs.contracts.null_calls.check_url_at_null as g-1
use Rattle.odfilter_c.proofs.null_calls.check_url_at_null.Symbol.{name as #call-1}
use Rattle.odfilter_c.proofs.null_calls.check_url_at_null.Met.{met as met-1}
use Rattle.odfilter_c.specs.contracts.null_buffer_calls.check_url_to_null as g-2
use Rattle.odfilter_c.proofs.null_buffer_calls.check_url_to_null.Symbol.{name as #call-2}
use Rattle.odfilter_c.proofs.null_buffer_calls.check_url_to_null.Met.{met as met-2}
use Rattle.odfilter_c.specs.contracts.null_buffer_calls.check_url_to_null_at_null as g-3
use Rattle.odfilter_c.proofs.null_buffer_calls.check_url_to_null_at_null.Symbol.{name as #call-3}
use Rattle.odfilter_c.proofs.null_buffer_calls.check_url_to_null_at_null.Met.{met as met-3}
use Rattle.odfilter_c.specs.contracts.filter_exports.odfilter_check_url as f
use Rattle.odfilter_c.proofs.filter_exports.odfilter_check_url.Statement.{statement}
use base.Fml.{Fml, feq, fex}
use Rattle.odfilter_c.proofs.filter_exports.odfilter_check_url.Code as code

abbrev stayed : Stays f.ended.signature.params f.ended.kept
stayed = (stay_dropped _ yes, (stay_dropped _ yes, (stay_dropped _ yes, (stay_dropped _ yes, (stay_dropped _ yes, (stay_dropped _ yes, tt))))))

module _ {M : Type 1} {𝓤 : Ura M} (𝓛 : Logic 𝓤) (at_mem : Memory → SProp 𝓤) (run : Routine → Fun 𝓤) (C : Calls 𝓤 𝓛.H) (Λ : Loops 𝓤 𝓛.H) (fm : FmC 𝓤 𝓛.H 𝓛.laws C)
    (known : Triple 𝓤 (C #call) (triple_of 𝓛 g.signature (g.spec 𝓛 at_mem run)))
    (known-1 : Triple 𝓤 (C #call-1) (triple_of 𝓛 g-1.signature (g-1.spec 𝓛 at_mem run)))
    (known-2 : Triple 𝓤 (C #call-2) (triple_of 𝓛 g-2.signature (g-2.spec 𝓛 at_mem run)))
    (known-3 : Triple 𝓤 (C #call-3) (triple_of 𝓛 g-3.signature (g-3.spec 𝓛 at_mem run))) (l : Loan) where
  open 𝓛 use {H}

  -- what the call borrows, and what it leaves
  abbrev Borrowed : Ptr → Bytes → Buffer → Ptr → Ptr → Fml
  Borrowed given query text made answer = fsep (borrowed_handle l given) (fsep (borrowed_bytes l query) (fsep (borrowed_buffer l text)
      (fsep (borrowed_made l made) (borrowed_answer l answer))))

  abbrev Left : Ptr → Bytes → Buffer → Ptr → Ptr → ℕ → Fml
  Left given query text made answer result = unless_null (given ∷ made ∷ answer ∷ [])
      (fsep (feq ℕ result 1) (Borrowed given query text made answer))
      (fex (List ℕ) (λ text'. fex Owned (λ made'. fex Answer (λ answer'.
      fsep (left_buffer l text text') (fsep (left_made l made made') (fsep (left_answer l answer answer')
      (holds (of_buffer text.at text.length l.buffer text'
      ((made' ≡ l.made) × ((answer' ≡ l.answer) × (result ≡ 1)))
      (λ old new. of_bytes query.at query.length l.bytes
      ((new ≡ old) × ((made' ≡ l.made) × ((answer' ≡ l.answer) × (result ≡ 1))))
      (λ bytes. ChecksUrl l.handle bytes old new made' answer' result))))))))))

  abbrev G : Contract 𝓤
  G = triple_of 𝓛 g.signature (g.spec 𝓛 at_mem run)

  abbrev G-1 : Contract 𝓤
  G-1 = triple_of 𝓛 g-1.signature (g-1.spec 𝓛 at_mem run)

  abbrev G-2 : Contract 𝓤
  G-2 = triple_of 𝓛 g-2.signature (g-2.spec 𝓛 at_mem run)

  abbrev G-3 : Contract 𝓤
  G-3 = triple_of 𝓛 g-3.signature (g-3.spec 𝓛 at_mem run)

  abbrev W : Contract 𝓤
  W = walk_of 𝓛 f.ended stayed (f.clauses 𝓛 at_mem run)

  abbrev bound : Global → Ptr → Bytes → Buffer → Ptr → Ptr → W.Ghost
  bound alloc given query text made answer = ((tt, tt, tt, (alloc, (given, (query, (text, (made, (answer, tt)))))), (global_val alloc ∷ [], (ptr_val given ∷ [], (bytes_val query ∷ [], (buffer_val text ∷ [], (ptr_val made ∷ [], (ptr_val answer ∷ [], tt))))))), l)

  abbrev Walk : Global → Ptr → Bytes → Buffer → Ptr → Ptr → Type 1
  Walk alloc given query text made answer = Sq 𝓛 (‵ (flft l.lifetime l.share) ∷ ‵ (Borrowed given query text made answer) ∷ ‵ (GlobalRow.own_val alloc (global_val alloc ∷ [])) ∷ []) (prop (WpFn 𝓤 H C Λ code.function (global_val alloc ∷ ptr_val given ∷ bytes_val query ∷ buffer_val text ∷ ptr_val made ∷ ptr_val answer ∷ []) (W.post (bound alloc given query text made answer))))

  ends : (alloc : Global) (given : Ptr) (query : Bytes) (text : Buffer) (made : Ptr) (answer : Ptr) (v : Val) (x : ℕ) → Sq 𝓛 (‵ (Left given query text made answer x) ∷ ‵ (u32.own_val x (v ∷ [])) ∷ ‵ (flft l.lifetime l.share) ∷ []) (prop (W.post (bound alloc given query text made answer) v))
  unfolding borrowed_by_check_url left_by_check_url
  ends alloc given query text made answer v x = move ! (2 ∷ 0 ∷ []) $ join ! $ move ! (1 ∷ []) $ use0 𝓛 (‵ (trues 6)) (all_true 𝓛 6) $ nothing ! $
      by ! (leaves 𝓛 f.ended stayed (f.clauses 𝓛 at_mem run) (bound alloc given query text made answer) v x (tt, (tt, (tt, (tt, (tt, (tt, tt)))))) (tt, (tt, (tt, (tt, (tt, (tt, tt)))))))

  -- with a null address nothing is called
  refused : (alloc : Global) (given : Ptr) (query-at : Ptr) (query-length : ℕ) (text-at : Ptr) (text-length : ℕ) (made : Ptr) (answer : Ptr) → Typed GlobalRow.mir (global_val alloc ∷ []) → Typed BytesRow.mir (bytes_val (record { at = query-at; length = query-length }) ∷ []) → Typed BufferRow.mir (buffer_val (record { at = text-at; length = text-length }) ∷ []) → Testable given → Testable query-at → Testable text-at → Testable made → Testable answer → HasNull (given ∷ made ∷ answer ∷ []) → Walk alloc given (record { at = query-at; length = query-length }) (record { at = text-at; length = text-length }) made answer
  refused alloc given query-at query-length text-at text-length made answer fits-alloc fits-query fits-text may-given may-query may-text may-made may-answer null =
      enter ! C Λ code.function (global_val alloc ∷ ptr_val given ∷ bytes_val (record { at = query-at; length = query-length }) ∷ buffer_val (record { at = text-at; length = text-length }) ∷ ptr_val made ∷ ptr_val answer ∷ []) _ $ alloc_all ! (λ c. pass_all ! refl (fits-alloc.0, ((good 𝓛 given).0, (fits-query.0, (fits-text.0, ((good 𝓛 made).0, ((good 𝓛 answer).0, tt)))))) $
      tested ! given none (get ! refl) may-given refl (tt, tt) refl refl (tt, record { fits = lit< tt }) refl (λ _. free_all ! refl $ unchanged ! (given ∷ made ∷ answer ∷ []) _ null (ends alloc given (record { at = query-at; length = query-length }) (record { at = text-at; length = text-length }) made answer (vint w32 1) 1)) (λ here-0.
      tested ! made (there_is _) (get ! refl) may-made refl (tt, tt) refl refl (tt, record { fits = lit< tt }) refl (λ _. free_all ! refl $ unchanged ! (given ∷ made ∷ answer ∷ []) _ null (ends alloc given (record { at = query-at; length = query-length }) (record { at = text-at; length = text-length }) made answer (vint w32 1) 1)) (λ here-1.
      tested ! answer (there_is _) (get ! refl) may-answer refl (tt, tt) refl refl (tt, record { fits = lit< tt }) refl (λ _. free_all ! refl $ unchanged ! (given ∷ made ∷ answer ∷ []) _ null (ends alloc given (record { at = query-at; length = query-length }) (record { at = text-at; length = text-length }) made answer (vint w32 1) 1)) (λ here-2.
      absurd (in_rest answer [] (in_rest made (answer ∷ []) (in_rest given (made ∷ answer ∷ []) null here-0) here-1) here-2)))))

  runs : (alloc : Global) (given : Ptr) (query-at : Ptr) (query-length : ℕ) (text-at : Ptr) (text-length : ℕ) (made : Ptr) (answer : Ptr) → Typed GlobalRow.mir (global_val alloc ∷ []) → Typed BytesRow.mir (bytes_val (record { at = query-at; length = query-length }) ∷ []) → Typed BufferRow.mir (buffer_val (record { at = text-at; length = text-length }) ∷ []) → Testable given → Testable query-at → Testable text-at → Testable made → Testable answer → Walk alloc given (record { at = query-at; length = query-length }) (record { at = text-at; length = text-length }) made answer
  runs alloc null_ptr query-at query-length text-at text-length made answer fits-alloc fits-query fits-text may-given may-query may-text may-made may-answer = refused alloc null_ptr query-at query-length text-at text-length made answer fits-alloc fits-query fits-text may-given may-query may-text may-made may-answer tt
  runs alloc (block_ptr b0 o0) query-at query-length text-at text-length null_ptr answer fits-alloc fits-query fits-text may-given may-query may-text may-made may-answer = refused alloc (block_ptr b0 o0) query-at query-length text-at text-length null_ptr answer fits-alloc fits-query fits-text may-given may-query may-text may-made may-answer tt
  runs alloc (block_ptr b0 o0) query-at query-length text-at text-length (block_ptr b3 o3) null_ptr fits-alloc fits-query fits-text may-given may-query may-text may-made may-answer = refused alloc (block_ptr b0 o0) query-at query-length text-at text-length (block_ptr b3 o3) null_ptr fits-alloc fits-query fits-text may-given may-query may-text may-made may-answer tt
  runs alloc (block_ptr b0 o0) null_ptr query-length null_ptr text-length (block_ptr b3 o3) (block_ptr b4 o4) fits-alloc fits-query fits-text may-given may-query may-text may-made may-answer =
      move ! (1 ∷ []) $ fsplit ! $ move ! (1 ∷ []) $ fsplit ! $ move ! (1 ∷ []) $ fsplit ! $ move ! (1 ∷ []) $ fsplit ! $ move ! (1 ∷ []) $ enter ! C Λ code.function (global_val alloc ∷ vptr b0 o0 ∷ bytes_val (record { at = null_ptr; length = query-length }) ∷ buffer_val (record { at = null_ptr; length = text-length }) ∷ vptr b3 o3 ∷ vptr b4 o4 ∷ []) _ $ alloc_all ! (λ c. pass_all ! refl (fits-alloc.0, ((good 𝓛 (block_ptr b0 o0)).0, (fits-query.0, (fits-text.0, ((good 𝓛 (block_ptr b3 o3)).0, ((good 𝓛 (block_ptr b4 o4)).0, tt)))))) $
      stands ! b0 o0 none (get ! refl) may-given refl (tt, tt) refl $
      stands ! b3 o3 (there_is _) (get ! refl) may-made refl (tt, tt) refl $
      stands ! b4 o4 (there_is _) (get ! refl) may-answer refl (tt, tt) refl $
      compares ! null_ptr (there_is _) (get_in ! (fld ! refl (stop !)) (sub ! 0 refl (whole !))) may-text refl (tt, tt) $ closes ! $ branches ! (get ! refl) (λ _.
      compares ! null_ptr none (get_in ! (fld ! refl (stop !)) (sub ! 0 refl (whole !))) may-query refl (tt, tt) $ hands ! _ _ $ branches ! (get ! refl) (λ _. hands ! _ _ $ inside ! _ _ _ $
      sets ! (of_opd ! (get ! refl)) refl (tt, tt) $ sets ! (addr ! (through ! refl (stop !))) refl (tt, tt) $
      sets ! (addr ! (through ! refl (stop !))) refl (tt, tt) $
      sets ! (addr ! (through ! refl (stop !))) refl (tt, tt) $
      move ! (2 ∷ []) $ drop ! $ move ! (2 ∷ []) $ drop ! $ nothing ! $ move ! (1 ∷ 0 ∷ []) $ fjoin ! $ move ! (1 ∷ 0 ∷ []) $ fjoin ! $ owned ! usize _ (uint_Makes 𝓛 w64) text-length _ (refl, fits-text.0.1.1.0.fits) $ fjoin ! $ owned ! usize _ (uint_Makes 𝓛 w64) query-length _ (refl, fits-query.0.1.1.0.fits) $ fjoin ! $ move ! (1 ∷ 0 ∷ []) $ fjoin ! $ move ! (2 ∷ 0 ∷ []) $ fjoin ! $ nothing ! $ move ! (2 ∷ 0 ∷ []) $ join ! $ join ! $ nothing ! $ move ! (1 ∷ 0 ∷ []) $
      let z : G-3.Ghost = (((l.lifetime, tt), (l.share, tt), tt, (alloc, (record { ref_ptr = (b0, o0); now = l.handle }, (query-length, (text-length, (record { ref_ptr = (b3, o3); ghost_name = l.made_name; now = l.made }, (record { ref_ptr = (b4, o4); ghost_name = l.answer_name; now = l.answer }, tt)))))), (global_val alloc ∷ [], (vptr b0 o0 ∷ [], (vint w64 query-length ∷ [], (vint w64 text-length ∷ [], (vptr b3 o3 ∷ [], (vptr b4 o4 ∷ [], tt))))))), tt) in
      use2 𝓛 (raw (G-3.pre z)) (id⊢ 𝓤 _) $ calls_at_last ! fm G-3 known-3 z (and_then ! (get ! refl) (and_then ! (get ! refl) (and_then ! (get_in ! (fld ! refl (stop !)) (sub ! 1 refl (whole !))) (and_then ! (get_in ! (fld ! refl (stop !)) (sub ! 1 refl (whole !))) (and_then ! (get ! refl) (and_then ! (get ! refl) (no_more !))))))) (λ v.
      use1 𝓛 (back 𝓛 g-3.ended (g-3.clauses 𝓛 at_mem run) z.0.0 z.0.3 z.1 l.lifetime l.share v) (id⊢ 𝓤 _) $
      await ! tt $ pick ! (λ x. split ! $ move ! (1 ∷ []) $ pick ! (λ ws. split ! $ move ! (1 ∷ []) $ heard ! (of_buffer null_ptr text-length l.buffer [] ((ws.1.1.1.1.0 ≡ l.made) × ((ws.1.1.1.1.1.0 ≡ l.answer) × (x ≡ 1))) (λ old new. of_bytes null_ptr query-length l.bytes ((new ≡ old) × ((ws.1.1.1.1.0 ≡ l.made) × ((ws.1.1.1.1.1.0 ≡ l.answer) × (x ≡ 1)))) (λ bytes. ChecksUrl l.handle bytes old new ws.1.1.1.1.0 ws.1.1.1.1.1.0 x))) (λ reports.
      fsplit ! $ drop ! $ fsplit ! $ drop ! $ fsplit ! $ drop ! $ fsplit ! $ drop ! $ fsplit ! $ move ! (1 ∷ []) $ fsplit ! $ move ! (1 ∷ []) $ drop ! $ move ! (2 ∷ []) $ split ! $ split ! $ move ! (2 ∷ []) $ peeks ! u32 (Is u32) (shows 𝓛 u32) x (v ∷ []) (λ is. let fine = ((uint_Lawful 𝓛 w32).typed x _ is).0 in
      ends2 ! C Λ _ _ _ fine fine fine fine refl refl refl refl refl refl refl refl $ free_all ! refl $ keep ! (3 ∷ 4 ∷ 0 ∷ 1 ∷ []) $
      hold ! reports $ move ! (1 ∷ 0 ∷ []) $ fjoin ! $ move ! (1 ∷ 0 ∷ []) $ fjoin ! $ nothing ! $ fjoin ! $
      fpack3 ! (List ℕ) Owned Answer (λ text' made' answer'. fsep (left_buffer l (record { at = null_ptr; length = text-length }) text') (fsep (left_made l (block_ptr b3 o3) made') (fsep (left_answer l (block_ptr b4 o4) answer') (holds (of_buffer null_ptr text-length l.buffer text' ((made' ≡ l.made) × ((answer' ≡ l.answer) × (x ≡ 1))) (λ old new. of_bytes null_ptr query-length l.bytes ((new ≡ old) × ((made' ≡ l.made) × ((answer' ≡ l.answer) × (x ≡ 1)))) (λ bytes. ChecksUrl l.handle bytes old new made' answer' x))))))) [] ws.1.1.1.1.0 ws.1.1.1.1.1.0 $ ends alloc (block_ptr b0 o0) (record { at = null_ptr; length = query-length }) (record { at = null_ptr; length = text-length }) (block_ptr b3 o3) (block_ptr b4 o4) v x)))))) (λ wrong. absurd wrong)) (λ wrong. absurd wrong))
  runs alloc (block_ptr b0 o0) (block_ptr b1 o1) query-length null_ptr text-length (block_ptr b3 o3) (block_ptr b4 o4) fits-alloc fits-query fits-text may-given may-query may-text may-made may-answer =
      move ! (1 ∷ []) $ fsplit ! $ move ! (1 ∷ []) $ fsplit ! $ move ! (1 ∷ []) $ fsplit ! $ move ! (1 ∷ []) $ fsplit ! $ move ! (1 ∷ []) $ enter ! C Λ code.function (global_val alloc ∷ vptr b0 o0 ∷ bytes_val (record { at = (block_ptr b1 o1); length = query-length }) ∷ buffer_val (record { at = null_ptr; length = text-length }) ∷ vptr b3 o3 ∷ vptr b4 o4 ∷ []) _ $ alloc_all ! (λ c. pass_all ! refl (fits-alloc.0, ((good 𝓛 (block_ptr b0 o0)).0, (fits-query.0, (fits-text.0, ((good 𝓛 (block_ptr b3 o3)).0, ((good 𝓛 (block_ptr b4 o4)).0, tt)))))) $
      stands ! b0 o0 none (get ! refl) may-given refl (tt, tt) refl $
      stands ! b3 o3 (there_is _) (get ! refl) may-made refl (tt, tt) refl $
      stands ! b4 o4 (there_is _) (get ! refl) may-answer refl (tt, tt) refl $
      compares ! null_ptr (there_is _) (get_in ! (fld ! refl (stop !)) (sub ! 0 refl (whole !))) may-text refl (tt, tt) $ closes ! $ branches ! (get ! refl) (λ _.
      compares ! (block_ptr b1 o1) none (get_in ! (fld ! refl (stop !)) (sub ! 0 refl (whole !))) may-query refl (tt, tt) $ hands ! _ _ $ branches ! (get ! refl) (λ wrong. absurd wrong) (λ _. hands ! _ _ $ inside ! _ _ _ $
      sets ! (of_opd ! (get ! refl)) refl (tt, tt) $ sets ! (addr ! (through ! refl (stop !))) refl (tt, tt) $
      sets ! (agg ! (and_then ! (get_in ! (fld ! refl (stop !)) (sub ! 0 refl (whole !))) (and_then ! (get_in ! (fld ! refl (stop !)) (sub ! 1 refl (whole !))) (no_more !)))) refl (tt, (tt, (fits-query.0.1.1.0, tt))) $
      sets ! (addr ! (through ! refl (stop !))) refl (tt, tt) $
      sets ! (addr ! (through ! refl (stop !))) refl (tt, tt) $
      move ! (2 ∷ []) $ drop ! $ nothing ! $ move ! (1 ∷ 0 ∷ []) $ fjoin ! $ move ! (1 ∷ 0 ∷ []) $ fjoin ! $ owned ! usize _ (uint_Makes 𝓛 w64) text-length _ (refl, fits-text.0.1.1.0.fits) $ fjoin ! $ move ! (1 ∷ 0 ∷ []) $ fjoin ! $ move ! (1 ∷ 0 ∷ []) $ fjoin ! $ move ! (2 ∷ 0 ∷ []) $ fjoin ! $ nothing ! $ move ! (2 ∷ 0 ∷ []) $ join ! $ join ! $ nothing ! $ move ! (1 ∷ 0 ∷ []) $
      let z : G-2.Ghost = (((l.lifetime, tt), (l.share, tt), tt, (alloc, (record { ref_ptr = (b0, o0); now = l.handle }, (record { ref_ptr = (b1, o1); now = l.bytes }, (text-length, (record { ref_ptr = (b3, o3); ghost_name = l.made_name; now = l.made }, (record { ref_ptr = (b4, o4); ghost_name = l.answer_name; now = l.answer }, tt)))))), (global_val alloc ∷ [], (vptr b0 o0 ∷ [], (slice_val (b1, o1) query-length ∷ [], (vint w64 text-length ∷ [], (vptr b3 o3 ∷ [], (vptr b4 o4 ∷ [], tt))))))), tt) in
      use2 𝓛 (raw (G-2.pre z)) (id⊢ 𝓤 _) $ calls_at_last ! fm G-2 known-2 z (and_then ! (get ! refl) (and_then ! (get ! refl) (and_then ! (get ! refl) (and_then ! (get_in ! (fld ! refl (stop !)) (sub ! 1 refl (whole !))) (and_then ! (get ! refl) (and_then ! (get ! refl) (no_more !))))))) (λ v.
      use1 𝓛 (back 𝓛 g-2.ended (g-2.clauses 𝓛 at_mem run) z.0.0 z.0.3 z.1 l.lifetime l.share v) (id⊢ 𝓤 _) $
      await ! tt $ pick ! (λ x. split ! $ move ! (1 ∷ []) $ pick ! (λ ws. split ! $ move ! (1 ∷ []) $ heard ! (of_buffer null_ptr text-length l.buffer [] ((ws.1.1.1.1.0 ≡ l.made) × ((ws.1.1.1.1.1.0 ≡ l.answer) × (x ≡ 1))) (λ old new. of_bytes (block_ptr b1 o1) query-length l.bytes ((new ≡ old) × ((ws.1.1.1.1.0 ≡ l.made) × ((ws.1.1.1.1.1.0 ≡ l.answer) × (x ≡ 1)))) (λ bytes. ChecksUrl l.handle bytes old new ws.1.1.1.1.0 ws.1.1.1.1.1.0 x))) (λ reports.
      fsplit ! $ drop ! $ fsplit ! $ drop ! $ fsplit ! $ drop ! $ fsplit ! $ drop ! $ fsplit ! $ move ! (1 ∷ []) $ fsplit ! $ move ! (1 ∷ []) $ drop ! $ move ! (2 ∷ []) $ split ! $ split ! $ move ! (2 ∷ []) $ peeks ! u32 (Is u32) (shows 𝓛 u32) x (v ∷ []) (λ is. let fine = ((uint_Lawful 𝓛 w32).typed x _ is).0 in
      ends2 ! C Λ _ _ _ fine fine fine fine refl refl refl refl refl refl refl refl $ free_all ! refl $ keep ! (3 ∷ 4 ∷ 0 ∷ 1 ∷ []) $
      hold ! reports $ move ! (1 ∷ 0 ∷ []) $ fjoin ! $ move ! (1 ∷ 0 ∷ []) $ fjoin ! $ nothing ! $ fjoin ! $
      fpack3 ! (List ℕ) Owned Answer (λ text' made' answer'. fsep (left_buffer l (record { at = null_ptr; length = text-length }) text') (fsep (left_made l (block_ptr b3 o3) made') (fsep (left_answer l (block_ptr b4 o4) answer') (holds (of_buffer null_ptr text-length l.buffer text' ((made' ≡ l.made) × ((answer' ≡ l.answer) × (x ≡ 1))) (λ old new. of_bytes (block_ptr b1 o1) query-length l.bytes ((new ≡ old) × ((made' ≡ l.made) × ((answer' ≡ l.answer) × (x ≡ 1)))) (λ bytes. ChecksUrl l.handle bytes old new made' answer' x))))))) [] ws.1.1.1.1.0 ws.1.1.1.1.1.0 $ ends alloc (block_ptr b0 o0) (record { at = (block_ptr b1 o1); length = query-length }) (record { at = null_ptr; length = text-length }) (block_ptr b3 o3) (block_ptr b4 o4) v x))))))) (λ wrong. absurd wrong))
  runs alloc (block_ptr b0 o0) null_ptr query-length (block_ptr b2 o2) text-length (block_ptr b3 o3) (block_ptr b4 o4) fits-alloc fits-query fits-text may-given may-query may-text may-made may-answer =
      move ! (1 ∷ []) $ fsplit ! $ move ! (1 ∷ []) $ fsplit ! $ move ! (1 ∷ []) $ fsplit ! $ move ! (1 ∷ []) $ fsplit ! $ move ! (1 ∷ []) $ enter ! C Λ code.function (global_val alloc ∷ vptr b0 o0 ∷ bytes_val (record { at = null_ptr; length = query-length }) ∷ buffer_val (record { at = (block_ptr b2 o2); length = text-length }) ∷ vptr b3 o3 ∷ vptr b4 o4 ∷ []) _ $ alloc_all ! (λ c. pass_all ! refl (fits-alloc.0, ((good 𝓛 (block_ptr b0 o0)).0, (fits-query.0, (fits-text.0, ((good 𝓛 (block_ptr b3 o3)).0, ((good 𝓛 (block_ptr b4 o4)).0, tt)))))) $
      stands ! b0 o0 none (get ! refl) may-given refl (tt, tt) refl $
      stands ! b3 o3 (there_is _) (get ! refl) may-made refl (tt, tt) refl $
      stands ! b4 o4 (there_is _) (get ! refl) may-answer refl (tt, tt) refl $
      compares ! (block_ptr b2 o2) (there_is _) (get_in ! (fld ! refl (stop !)) (sub ! 0 refl (whole !))) may-text refl (tt, tt) $ closes ! $ branches ! (get ! refl) (λ wrong. absurd wrong) (λ _.
      compares ! null_ptr none (get_in ! (fld ! refl (stop !)) (sub ! 0 refl (whole !))) may-query refl (tt, tt) $ hands ! _ _ $ branches ! (get ! refl) (λ _. hands ! _ _ $ inside ! _ _ _ $
      sets ! (of_opd ! (get ! refl)) refl (tt, tt) $ sets ! (addr ! (through ! refl (stop !))) refl (tt, tt) $
      sets ! (agg ! (and_then ! (get_in ! (fld ! refl (stop !)) (sub ! 0 refl (whole !))) (and_then ! (get_in ! (fld ! refl (stop !)) (sub ! 1 refl (whole !))) (no_more !)))) refl (tt, (tt, (fits-text.0.1.1.0, tt))) $
      sets ! (addr ! (through ! refl (stop !))) refl (tt, tt) $
      sets ! (addr ! (through ! refl (stop !))) refl (tt, tt) $
      move ! (3 ∷ []) $ drop ! $ nothing ! $ move ! (1 ∷ 0 ∷ []) $ fjoin ! $ move ! (1 ∷ 0 ∷ []) $ fjoin ! $ move ! (1 ∷ 0 ∷ []) $ fjoin ! $ owned ! usize _ (uint_Makes 𝓛 w64) query-length _ (refl, fits-query.0.1.1.0.fits) $ fjoin ! $ move ! (1 ∷ 0 ∷ []) $ fjoin ! $ move ! (2 ∷ 0 ∷ []) $ fjoin ! $ nothing ! $ move ! (2 ∷ 0 ∷ []) $ join ! $ join ! $ nothing ! $ move ! (1 ∷ 0 ∷ []) $
      let z : G-1.Ghost = (((l.lifetime, tt), (l.share, tt), tt, (alloc, (record { ref_ptr = (b0, o0); now = l.handle }, (query-length, (record { ref_ptr = (b2, o2); ghost_name = l.buffer_name; now = l.buffer }, (record { ref_ptr = (b3, o3); ghost_name = l.made_name; now = l.made }, (record { ref_ptr = (b4, o4); ghost_name = l.answer_name; now = l.answer }, tt)))))), (global_val alloc ∷ [], (vptr b0 o0 ∷ [], (vint w64 query-length ∷ [], (slice_val (b2, o2) text-length ∷ [], (vptr b3 o3 ∷ [], (vptr b4 o4 ∷ [], tt))))))), tt) in
      use2 𝓛 (raw (G-1.pre z)) (id⊢ 𝓤 _) $ calls_at_last ! fm G-1 known-1 z (and_then ! (get ! refl) (and_then ! (get ! refl) (and_then ! (get_in ! (fld ! refl (stop !)) (sub ! 1 refl (whole !))) (and_then ! (get ! refl) (and_then ! (get ! refl) (and_then ! (get ! refl) (no_more !))))))) (λ v.
      use1 𝓛 (back 𝓛 g-1.ended (g-1.clauses 𝓛 at_mem run) z.0.0 z.0.3 z.1 l.lifetime l.share v) (id⊢ 𝓤 _) $
      await ! tt $ pick ! (λ x. split ! $ move ! (1 ∷ []) $ pick ! (λ ws. split ! $ move ! (1 ∷ []) $ heard ! (of_buffer (block_ptr b2 o2) text-length l.buffer ws.1.1.1.0 ((ws.1.1.1.1.0 ≡ l.made) × ((ws.1.1.1.1.1.0 ≡ l.answer) × (x ≡ 1))) (λ old new. of_bytes null_ptr query-length l.bytes ((new ≡ old) × ((ws.1.1.1.1.0 ≡ l.made) × ((ws.1.1.1.1.1.0 ≡ l.answer) × (x ≡ 1)))) (λ bytes. ChecksUrl l.handle bytes old new ws.1.1.1.1.0 ws.1.1.1.1.1.0 x))) (λ reports.
      fsplit ! $ drop ! $ fsplit ! $ drop ! $ fsplit ! $ drop ! $ fsplit ! $ move ! (1 ∷ []) $ fsplit ! $ move ! (1 ∷ []) $ fsplit ! $ move ! (1 ∷ []) $ drop ! $ move ! (3 ∷ []) $ split ! $ split ! $ move ! (2 ∷ []) $ peeks ! u32 (Is u32) (shows 𝓛 u32) x (v ∷ []) (λ is. let fine = ((uint_Lawful 𝓛 w32).typed x _ is).0 in
      ends2 ! C Λ _ _ _ fine fine fine fine refl refl refl refl refl refl refl refl $ free_all ! refl $ keep ! (3 ∷ 4 ∷ 5 ∷ 0 ∷ 1 ∷ []) $
      hold ! reports $ move ! (1 ∷ 0 ∷ []) $ fjoin ! $ move ! (1 ∷ 0 ∷ []) $ fjoin ! $ move ! (1 ∷ 0 ∷ []) $ fjoin ! $
      fpack3 ! (List ℕ) Owned Answer (λ text' made' answer'. fsep (left_buffer l (record { at = (block_ptr b2 o2); length = text-length }) text') (fsep (left_made l (block_ptr b3 o3) made') (fsep (left_answer l (block_ptr b4 o4) answer') (holds (of_buffer (block_ptr b2 o2) text-length l.buffer text' ((made' ≡ l.made) × ((answer' ≡ l.answer) × (x ≡ 1))) (λ old new. of_bytes null_ptr query-length l.bytes ((new ≡ old) × ((made' ≡ l.made) × ((answer' ≡ l.answer) × (x ≡ 1)))) (λ bytes. ChecksUrl l.handle bytes old new made' answer' x))))))) ws.1.1.1.0 ws.1.1.1.1.0 ws.1.1.1.1.1.0 $ ends alloc (block_ptr b0 o0) (record { at = null_ptr; length = query-length }) (record { at = (block_ptr b2 o2); length = text-length }) (block_ptr b3 o3) (block_ptr b4 o4) v x)))))) (λ wrong. absurd wrong)))
  runs alloc (block_ptr b0 o0) (block_ptr b1 o1) query-length (block_ptr b2 o2) text-length (block_ptr b3 o3) (block_ptr b4 o4) fits-alloc fits-query fits-text may-given may-query may-text may-made may-answer =
      move ! (1 ∷ []) $ fsplit ! $ move ! (1 ∷ []) $ fsplit ! $ move ! (1 ∷ []) $ fsplit ! $ move ! (1 ∷ []) $ fsplit ! $ move ! (1 ∷ []) $ enter ! C Λ code.function (global_val alloc ∷ vptr b0 o0 ∷ bytes_val (record { at = (block_ptr b1 o1); length = query-length }) ∷ buffer_val (record { at = (block_ptr b2 o2); length = text-length }) ∷ vptr b3 o3 ∷ vptr b4 o4 ∷ []) _ $ alloc_all ! (λ c. pass_all ! refl (fits-alloc.0, ((good 𝓛 (block_ptr b0 o0)).0, (fits-query.0, (fits-text.0, ((good 𝓛 (block_ptr b3 o3)).0, ((good 𝓛 (block_ptr b4 o4)).0, tt)))))) $
      stands ! b0 o0 none (get ! refl) may-given refl (tt, tt) refl $
      stands ! b3 o3 (there_is _) (get ! refl) may-made refl (tt, tt) refl $
      stands ! b4 o4 (there_is _) (get ! refl) may-answer refl (tt, tt) refl $
      compares ! (block_ptr b2 o2) (there_is _) (get_in ! (fld ! refl (stop !)) (sub ! 0 refl (whole !))) may-text refl (tt, tt) $ closes ! $ branches ! (get ! refl) (λ wrong. absurd wrong) (λ _.
      compares ! (block_ptr b1 o1) none (get_in ! (fld ! refl (stop !)) (sub ! 0 refl (whole !))) may-query refl (tt, tt) $ hands ! _ _ $ branches ! (get ! refl) (λ wrong. absurd wrong) (λ _. hands ! _ _ $ inside ! _ _ _ $
      sets ! (of_opd ! (get ! refl)) refl (tt, tt) $ sets ! (addr ! (through ! refl (stop !))) refl (tt, tt) $
      sets ! (agg ! (and_then ! (get_in ! (fld ! refl (stop !)) (sub ! 0 refl (whole !))) (and_then ! (get_in ! (fld ! refl (stop !)) (sub ! 1 refl (whole !))) (no_more !)))) refl (tt, (tt, (fits-query.0.1.1.0, tt))) $
      sets ! (agg ! (and_then ! (get_in ! (fld ! refl (stop !)) (sub ! 0 refl (whole !))) (and_then ! (get_in ! (fld ! refl (stop !)) (sub ! 1 refl (whole !))) (no_more !)))) refl (tt, (tt, (fits-text.0.1.1.0, tt))) $
      sets ! (addr ! (through ! refl (stop !))) refl (tt, tt) $
      sets ! (addr ! (through ! refl (stop !))) refl (tt, tt) $
      nothing ! $ move ! (1 ∷ 0 ∷ []) $ fjoin ! $ move ! (1 ∷ 0 ∷ []) $ fjoin ! $ move ! (1 ∷ 0 ∷ []) $ fjoin ! $ move ! (1 ∷ 0 ∷ []) $ fjoin ! $ move ! (1 ∷ 0 ∷ []) $ fjoin ! $ move ! (2 ∷ 0 ∷ []) $ fjoin ! $ nothing ! $ move ! (2 ∷ 0 ∷ []) $ join ! $ join ! $ nothing ! $ move ! (1 ∷ 0 ∷ []) $
      let z : G.Ghost = (((l.lifetime, tt), (l.share, tt), tt, (alloc, (record { ref_ptr = (b0, o0); now = l.handle }, (record { ref_ptr = (b1, o1); now = l.bytes }, (record { ref_ptr = (b2, o2); ghost_name = l.buffer_name; now = l.buffer }, (record { ref_ptr = (b3, o3); ghost_name = l.made_name; now = l.made }, (record { ref_ptr = (b4, o4); ghost_name = l.answer_name; now = l.answer }, tt)))))), (global_val alloc ∷ [], (vptr b0 o0 ∷ [], (slice_val (b1, o1) query-length ∷ [], (slice_val (b2, o2) text-length ∷ [], (vptr b3 o3 ∷ [], (vptr b4 o4 ∷ [], tt))))))), tt) in
      use2 𝓛 (raw (G.pre z)) (id⊢ 𝓤 _) $ calls_at_last ! fm G known z (and_then ! (get ! refl) (and_then ! (get ! refl) (and_then ! (get ! refl) (and_then ! (get ! refl) (and_then ! (get ! refl) (and_then ! (get ! refl) (no_more !))))))) (λ v.
      use1 𝓛 (back 𝓛 g.ended (g.clauses 𝓛 at_mem run) z.0.0 z.0.3 z.1 l.lifetime l.share v) (id⊢ 𝓤 _) $
      await ! tt $ pick ! (λ x. split ! $ move ! (1 ∷ []) $ pick ! (λ ws. split ! $ move ! (1 ∷ []) $ heard ! (of_buffer (block_ptr b2 o2) text-length l.buffer ws.1.1.1.0 ((ws.1.1.1.1.0 ≡ l.made) × ((ws.1.1.1.1.1.0 ≡ l.answer) × (x ≡ 1))) (λ old new. of_bytes (block_ptr b1 o1) query-length l.bytes ((new ≡ old) × ((ws.1.1.1.1.0 ≡ l.made) × ((ws.1.1.1.1.1.0 ≡ l.answer) × (x ≡ 1)))) (λ bytes. ChecksUrl l.handle bytes old new ws.1.1.1.1.0 ws.1.1.1.1.1.0 x))) (λ reports.
      fsplit ! $ drop ! $ fsplit ! $ drop ! $ fsplit ! $ drop ! $ fsplit ! $ move ! (1 ∷ []) $ fsplit ! $ move ! (1 ∷ []) $ fsplit ! $ move ! (1 ∷ []) $ drop ! $ move ! (3 ∷ []) $ split ! $ split ! $ move ! (2 ∷ []) $ peeks ! u32 (Is u32) (shows 𝓛 u32) x (v ∷ []) (λ is. let fine = ((uint_Lawful 𝓛 w32).typed x _ is).0 in
      ends2 ! C Λ _ _ _ fine fine fine fine refl refl refl refl refl refl refl refl $ free_all ! refl $ keep ! (3 ∷ 4 ∷ 5 ∷ 0 ∷ 1 ∷ []) $
      hold ! reports $ move ! (1 ∷ 0 ∷ []) $ fjoin ! $ move ! (1 ∷ 0 ∷ []) $ fjoin ! $ move ! (1 ∷ 0 ∷ []) $ fjoin ! $
      fpack3 ! (List ℕ) Owned Answer (λ text' made' answer'. fsep (left_buffer l (record { at = (block_ptr b2 o2); length = text-length }) text') (fsep (left_made l (block_ptr b3 o3) made') (fsep (left_answer l (block_ptr b4 o4) answer') (holds (of_buffer (block_ptr b2 o2) text-length l.buffer text' ((made' ≡ l.made) × ((answer' ≡ l.answer) × (x ≡ 1))) (λ old new. of_bytes (block_ptr b1 o1) query-length l.bytes ((new ≡ old) × ((made' ≡ l.made) × ((answer' ≡ l.answer) × (x ≡ 1)))) (λ bytes. ChecksUrl l.handle bytes old new made' answer' x))))))) ws.1.1.1.0 ws.1.1.1.1.0 ws.1.1.1.1.1.0 $ ends alloc (block_ptr b0 o0) (record { at = (block_ptr b1 o1); length = query-length }) (record { at = (block_ptr b2 o2); length = text-length }) (block_ptr b3 o3) (block_ptr b4 o4) v x))))))))

pub odfilter_check_url_spec : {M : Type 1} → statement M
unfolding borrowed_by_check_url
odfilter_check_url_spec 𝓤 𝓛 𝓜 𝓡 wired =
    let c = f.clauses 𝓛 𝓜.mem 𝓡.returns in let 𝓣 = tables 𝓤 𝓛.H 𝓜 𝓡 𝓡.env in
    proved 𝓛 f.ended stayed c 𝓜 𝓡 (Goes-dropped 𝓛 0 (plain (λ _. GlobalRow)) yes (λ κs x w. refl), (Goes-dropped 𝓛 0 (plain (λ _. RawPtr)) yes (λ κs x w. refl), (Goes-dropped 𝓛 0 (plain (λ _. BytesRow)) yes (λ κs x w. refl), (Goes-dropped 𝓛 0 (plain (λ _. BufferRow)) yes (λ κs x w. refl), (Goes-dropped 𝓛 0 (plain (λ _. RawPtr)) yes (λ κs x w. refl), (Goes-dropped 𝓛 0 (plain (λ _. RawPtr)) yes (λ κs x w. refl), tt))))))
    f.Key.name code.function (code.unfolded 𝓤 𝓛.H 𝓜 𝓡 wired)
    (λ κs. ((λ g. global_val g ∷ []), (rawptr_vals, ((λ s. bytes_val s ∷ []), ((λ s. buffer_val s ∷ []), (rawptr_vals, (rawptr_vals, tt))))))) (λ κs. (global_lowers.val_is, (rawptr_Tells, (bytes_lowers.val_is, (buffer_lowers.val_is, (rawptr_Tells, (rawptr_Tells, tt))))))) (λ κs qs bounds a l are.
    qed 𝓛 ((‵ ftrue ⊛ ‵ (owns (types_at f.signature.params κs) a (global_val a.0 ∷ [], (rawptr_vals a.1.0, (bytes_val a.1.1.0 ∷ [], (buffer_val a.1.1.1.0 ∷ [], (rawptr_vals a.1.1.1.1.0, (rawptr_vals a.1.1.1.1.1.0, tt)))))))) ∷ (raw (fact 𝓤 (Testable a.1.0 × Testable a.1.1.0.at × Testable a.1.1.1.0.at × Testable a.1.1.1.1.0 × Testable a.1.1.1.1.1.0)) ⊛ (‵ (flft l.lifetime l.share) ⊛ ‵ (borrowed_by_check_url l a.1.0 a.1.1.0 a.1.1.1.0 a.1.1.1.1.0 a.1.1.1.1.1.0))) ∷ []) ∵
    split ! $ drop ! $ fsplit ! $ move ! (1 ∷ []) $ drop ! $ move ! (1 ∷ []) $ split ! $ heard ! _ (λ may. split ! $
    runs 𝓛 𝓜.mem 𝓡.returns 𝓣.C 𝓣.Λ (framed 𝓤 𝓛.H 𝓜 𝓣) (met 𝓤 𝓛 𝓜 𝓡 (code.calls-handle_calls::calls::check_url 𝓡.env wired)) (met-1 𝓤 𝓛 𝓜 𝓡 (code.calls-odfilter_c::null_calls::check_url_at_null 𝓡.env wired)) (met-2 𝓤 𝓛 𝓜 𝓡 (code.calls-odfilter_c::null_buffer_calls::check_url_to_null 𝓡.env wired)) (met-3 𝓤 𝓛 𝓜 𝓡 (code.calls-odfilter_c::null_buffer_calls::check_url_to_null_at_null 𝓡.env wired)) l a.0 a.1.0 a.1.1.0.at a.1.1.0.length a.1.1.1.0.at a.1.1.1.0.length a.1.1.1.1.0 a.1.1.1.1.1.0 ((global_laws.lawful 𝓛).typed a.0 _ are.0) ((bytes_laws.lawful 𝓛).typed a.1.1.0 _ are.1.1.0) ((buffer_laws.lawful 𝓛).typed a.1.1.1.0 _ are.1.1.1.0) may.0 may.1 may.2 may.3 may.4))
