-- `check_query` meets its contract: the addresses are tested one by one, and the call borrows what they point to.
use Rattle.odfilter_c.proofs.Steps.{◌≡◌, ℕ, ◌<◌, [], ◌∷◌, refl, lit<, w32, w64, proved, leaves, none, there_is, Ura, SProp, id⊢, ftrue, fsep, flft, Val, vint, vptr, Memory, Routine, WpFn, Calls, Loops, Fun, fact, tables, FmC, Logic, ‵, raw, ◌⊛◌, prop, Sq, ◌$◌, ◌∵◌, !, qed, move, keep, drop, use0, use1, use2, split, join, fsplit, fjoin, pick, await, by, enter, of_opd, addr, stop, fld, no_more, and_then, branches, agg, sub, whole, alloc_all, pass_all, free_all, get, get_in, through, sets, u32, usize, yes, Typed, Is, shows, uint_Makes, uint_Lawful, Ptr, RawPtr, block_ptr, null_ptr, ptr_val, Testable, rawptr_vals, rawptr_Tells, slice_val, owns, types_at, plain, nothing, owned, heard, peeks, Contract, Triple, calls_at_last, triple_of, Stays, walk_of, stay_dropped, Goes-dropped, framed, Global, GlobalRow, global_lowers, global_val, global_laws, Bytes, BytesRow, bytes_lowers, bytes_val, bytes_laws, Owned, Answer, HasNull, in_rest, trues, good, all_true, back, hold, unchanged, fpack2, compares, stands, tested, closes, hands, inside, ends1}
use Rattle.odfilter_c.specs.Loans.{Loan, left_made, left_answer, of_bytes, holds, borrowed_handle, borrowed_bytes, borrowed_made, borrowed_answer, unless_null}
use Rattle.odfilter_c.specs.Exports.{borrowed_by_check_query, left_by_check_query}
use Rattle.handle_calls.specs.Reports.{ChecksQuery}
use Rattle.handle_calls.specs.contracts.calls.check_query as g
use Rattle.handle_calls.proofs.calls.check_query.Symbol.{name as #call}
use Rattle.handle_calls.proofs.calls.check_query.Met.{met as met}
use Rattle.odfilter_c.specs.contracts.null_calls.check_query_at_null as g-1
use Rattle.odfilter_c.proofs.null_calls.check_query_at_null.Symbol.{name as #call-1}
use Rattle.odfilter_c.proofs.null_calls.check_query_at_null.Met.{met as met-1}
use Rattle.odfilter_c.specs.contracts.exports.odfilter_check_query as f
use Rattle.odfilter_c.proofs.exports.odfilter_check_query.Statement.{statement}
use base.Fml.{Fml, feq, fex}
use Rattle.odfilter_c.proofs.exports.odfilter_check_query.Code as code

abbrev stayed : Stays f.ended.signature.params f.ended.kept
stayed = (stay_dropped _ yes, (stay_dropped _ yes, (stay_dropped _ yes, (stay_dropped _ yes, (stay_dropped _ yes, tt)))))

module _ {M : Type 1} {𝓤 : Ura M} (𝓛 : Logic 𝓤) (at_mem : Memory → SProp 𝓤) (run : Routine → Fun 𝓤) (C : Calls 𝓤 𝓛.H) (Λ : Loops 𝓤 𝓛.H) (fm : FmC 𝓤 𝓛.H 𝓛.laws C)
    (known : Triple 𝓤 (C #call) (triple_of 𝓛 g.signature (g.spec 𝓛 at_mem run)))
    (known-1 : Triple 𝓤 (C #call-1) (triple_of 𝓛 g-1.signature (g-1.spec 𝓛 at_mem run))) (l : Loan) where
  open 𝓛 use {H}

  -- what the call borrows, and what it leaves
  abbrev Borrowed : Ptr → Bytes → Ptr → Ptr → Fml
  Borrowed given query made answer = fsep (borrowed_handle l given) (fsep (borrowed_bytes l query) (fsep (borrowed_made l made) (borrowed_answer l answer)))

  abbrev Left : Ptr → Bytes → Ptr → Ptr → ℕ → Fml
  Left given query made answer result = unless_null (given ∷ made ∷ answer ∷ [])
      (fsep (feq ℕ result 1) (Borrowed given query made answer))
      (fex Owned (λ made'. fex Answer (λ answer'.
      fsep (left_made l made made') (fsep (left_answer l answer answer')
      (holds (of_bytes query.at query.length l.bytes ((made' ≡ l.made) × ((answer' ≡ l.answer) × (result ≡ 1)))
      (λ bytes. ChecksQuery l.handle bytes made' answer' result)))))))

  abbrev G : Contract 𝓤
  G = triple_of 𝓛 g.signature (g.spec 𝓛 at_mem run)

  abbrev G-1 : Contract 𝓤
  G-1 = triple_of 𝓛 g-1.signature (g-1.spec 𝓛 at_mem run)

  abbrev W : Contract 𝓤
  W = walk_of 𝓛 f.ended stayed (f.clauses 𝓛 at_mem run)

  abbrev bound : Global → Ptr → Bytes → Ptr → Ptr → W.Ghost
  bound alloc given query made answer = ((tt, tt, tt, (alloc, (given, (query, (made, (answer, tt))))), (global_val alloc ∷ [], (ptr_val given ∷ [], (bytes_val query ∷ [], (ptr_val made ∷ [], (ptr_val answer ∷ [], tt)))))), l)

  abbrev Walk : Global → Ptr → Bytes → Ptr → Ptr → Type 1
  Walk alloc given query made answer = Sq 𝓛 (‵ (flft l.lifetime l.share) ∷ ‵ (Borrowed given query made answer) ∷ ‵ (GlobalRow.own_val alloc (global_val alloc ∷ [])) ∷ []) (prop (WpFn 𝓤 H C Λ code.function (global_val alloc ∷ ptr_val given ∷ bytes_val query ∷ ptr_val made ∷ ptr_val answer ∷ []) (W.post (bound alloc given query made answer))))

  ends : (alloc : Global) (given : Ptr) (query : Bytes) (made : Ptr) (answer : Ptr) (v : Val) (x : ℕ) → Sq 𝓛 (‵ (Left given query made answer x) ∷ ‵ (u32.own_val x (v ∷ [])) ∷ ‵ (flft l.lifetime l.share) ∷ []) (prop (W.post (bound alloc given query made answer) v))
  unfolding borrowed_by_check_query left_by_check_query
  ends alloc given query made answer v x = move ! (2 ∷ 0 ∷ []) $ join ! $ move ! (1 ∷ []) $ use0 𝓛 (‵ (trues 5)) (all_true 𝓛 5) $ nothing ! $
      by ! (leaves 𝓛 f.ended stayed (f.clauses 𝓛 at_mem run) (bound alloc given query made answer) v x (tt, (tt, (tt, (tt, (tt, tt))))) (tt, (tt, (tt, (tt, (tt, tt))))))

  -- with a null address nothing is called
  refused : (alloc : Global) (given : Ptr) (query-at : Ptr) (query-length : ℕ) (made : Ptr) (answer : Ptr) → Typed GlobalRow.mir (global_val alloc ∷ []) → Typed BytesRow.mir (bytes_val (record { at = query-at; length = query-length }) ∷ []) → Testable given → Testable query-at → Testable made → Testable answer → HasNull (given ∷ made ∷ answer ∷ []) → Walk alloc given (record { at = query-at; length = query-length }) made answer
  refused alloc given query-at query-length made answer fits-alloc fits-query may-given may-query may-made may-answer null =
      enter ! C Λ code.function (global_val alloc ∷ ptr_val given ∷ bytes_val (record { at = query-at; length = query-length }) ∷ ptr_val made ∷ ptr_val answer ∷ []) _ $ alloc_all ! (λ c. pass_all ! refl (fits-alloc.0, ((good 𝓛 given).0, (fits-query.0, ((good 𝓛 made).0, ((good 𝓛 answer).0, tt))))) $
      tested ! given none (get ! refl) may-given refl (tt, tt) refl refl (tt, record { fits = lit< tt }) refl (λ _. free_all ! refl $ unchanged ! (given ∷ made ∷ answer ∷ []) _ null (ends alloc given (record { at = query-at; length = query-length }) made answer (vint w32 1) 1)) (λ here-0.
      tested ! made (there_is _) (get ! refl) may-made refl (tt, tt) refl refl (tt, record { fits = lit< tt }) refl (λ _. free_all ! refl $ unchanged ! (given ∷ made ∷ answer ∷ []) _ null (ends alloc given (record { at = query-at; length = query-length }) made answer (vint w32 1) 1)) (λ here-1.
      tested ! answer (there_is _) (get ! refl) may-answer refl (tt, tt) refl refl (tt, record { fits = lit< tt }) refl (λ _. free_all ! refl $ unchanged ! (given ∷ made ∷ answer ∷ []) _ null (ends alloc given (record { at = query-at; length = query-length }) made answer (vint w32 1) 1)) (λ here-2.
      absurd (in_rest answer [] (in_rest made (answer ∷ []) (in_rest given (made ∷ answer ∷ []) null here-0) here-1) here-2)))))

  runs : (alloc : Global) (given : Ptr) (query-at : Ptr) (query-length : ℕ) (made : Ptr) (answer : Ptr) → Typed GlobalRow.mir (global_val alloc ∷ []) → Typed BytesRow.mir (bytes_val (record { at = query-at; length = query-length }) ∷ []) → Testable given → Testable query-at → Testable made → Testable answer → Walk alloc given (record { at = query-at; length = query-length }) made answer
  runs alloc null_ptr query-at query-length made answer fits-alloc fits-query may-given may-query may-made may-answer = refused alloc null_ptr query-at query-length made answer fits-alloc fits-query may-given may-query may-made may-answer tt
  runs alloc (block_ptr b0 o0) query-at query-length null_ptr answer fits-alloc fits-query may-given may-query may-made may-answer = refused alloc (block_ptr b0 o0) query-at query-length null_ptr answer fits-alloc fits-query may-given may-query may-made may-answer tt
  runs alloc (block_ptr b0 o0) query-at query-length (block_ptr b2 o2) null_ptr fits-alloc fits-query may-given may-query may-made may-answer = refused alloc (block_ptr b0 o0) query-at query-length (block_ptr b2 o2) null_ptr fits-alloc fits-query may-given may-query may-made may-answer tt
  runs alloc (block_ptr b0 o0) null_ptr query-length (block_ptr b2 o2) (block_ptr b3 o3) fits-alloc fits-query may-given may-query may-made may-answer =
      move ! (1 ∷ []) $ fsplit ! $ move ! (1 ∷ []) $ fsplit ! $ move ! (1 ∷ []) $ fsplit ! $ move ! (1 ∷ []) $ enter ! C Λ code.function (global_val alloc ∷ vptr b0 o0 ∷ bytes_val (record { at = null_ptr; length = query-length }) ∷ vptr b2 o2 ∷ vptr b3 o3 ∷ []) _ $ alloc_all ! (λ c. pass_all ! refl (fits-alloc.0, ((good 𝓛 (block_ptr b0 o0)).0, (fits-query.0, ((good 𝓛 (block_ptr b2 o2)).0, ((good 𝓛 (block_ptr b3 o3)).0, tt))))) $
      stands ! b0 o0 none (get ! refl) may-given refl (tt, tt) refl $
      stands ! b2 o2 (there_is _) (get ! refl) may-made refl (tt, tt) refl $
      stands ! b3 o3 (there_is _) (get ! refl) may-answer refl (tt, tt) refl $
      compares ! null_ptr (there_is _) (get_in ! (fld ! refl (stop !)) (sub ! 0 refl (whole !))) may-query refl (tt, tt) $ closes ! $ branches ! (get ! refl) (λ _. hands ! _ _ $ inside ! _ _ _ $
      sets ! (of_opd ! (get ! refl)) refl (tt, tt) $ sets ! (addr ! (through ! refl (stop !))) refl (tt, tt) $
      sets ! (addr ! (through ! refl (stop !))) refl (tt, tt) $
      sets ! (addr ! (through ! refl (stop !))) refl (tt, tt) $
      move ! (2 ∷ []) $ drop ! $ nothing ! $ move ! (1 ∷ 0 ∷ []) $ fjoin ! $ move ! (1 ∷ 0 ∷ []) $ fjoin ! $ owned ! usize _ (uint_Makes 𝓛 w64) query-length _ (refl, fits-query.0.1.1.0.fits) $ fjoin ! $ move ! (1 ∷ 0 ∷ []) $ fjoin ! $ move ! (2 ∷ 0 ∷ []) $ fjoin ! $ nothing ! $ move ! (2 ∷ 0 ∷ []) $ join ! $ join ! $ nothing ! $ move ! (1 ∷ 0 ∷ []) $
      let z : G-1.Ghost = (((l.lifetime, tt), (l.share, tt), tt, (alloc, (record { ref_ptr = (b0, o0); now = l.handle }, (query-length, (record { ref_ptr = (b2, o2); ghost_name = l.made_name; now = l.made }, (record { ref_ptr = (b3, o3); ghost_name = l.answer_name; now = l.answer }, tt))))), (global_val alloc ∷ [], (vptr b0 o0 ∷ [], (vint w64 query-length ∷ [], (vptr b2 o2 ∷ [], (vptr b3 o3 ∷ [], tt)))))), tt) in
      use2 𝓛 (raw (G-1.pre z)) (id⊢ 𝓤 _) $ calls_at_last ! fm G-1 known-1 z (and_then ! (get ! refl) (and_then ! (get ! refl) (and_then ! (get_in ! (fld ! refl (stop !)) (sub ! 1 refl (whole !))) (and_then ! (get ! refl) (and_then ! (get ! refl) (no_more !)))))) (λ v.
      use1 𝓛 (back 𝓛 g-1.ended (g-1.clauses 𝓛 at_mem run) z.0.0 z.0.3 z.1 l.lifetime l.share v) (id⊢ 𝓤 _) $
      await ! tt $ pick ! (λ x. split ! $ move ! (1 ∷ []) $ pick ! (λ ws. split ! $ move ! (1 ∷ []) $ heard ! (of_bytes null_ptr query-length l.bytes ((ws.1.1.1.0 ≡ l.made) × ((ws.1.1.1.1.0 ≡ l.answer) × (x ≡ 1))) (λ bytes. ChecksQuery l.handle bytes ws.1.1.1.0 ws.1.1.1.1.0 x)) (λ reports.
      fsplit ! $ drop ! $ fsplit ! $ drop ! $ fsplit ! $ drop ! $ fsplit ! $ move ! (1 ∷ []) $ fsplit ! $ move ! (1 ∷ []) $ drop ! $ move ! (2 ∷ []) $ split ! $ split ! $ move ! (2 ∷ []) $ peeks ! u32 (Is u32) (shows 𝓛 u32) x (v ∷ []) (λ is. let fine = ((uint_Lawful 𝓛 w32).typed x _ is).0 in
      ends1 ! C Λ _ _ fine fine fine refl refl refl refl refl refl $ free_all ! refl $ keep ! (3 ∷ 4 ∷ 0 ∷ 1 ∷ []) $
      hold ! reports $ move ! (1 ∷ 0 ∷ []) $ fjoin ! $ move ! (1 ∷ 0 ∷ []) $ fjoin ! $
      fpack2 ! Owned Answer (λ made' answer'. fsep (left_made l (block_ptr b2 o2) made') (fsep (left_answer l (block_ptr b3 o3) answer') (holds (of_bytes null_ptr query-length l.bytes ((made' ≡ l.made) × ((answer' ≡ l.answer) × (x ≡ 1))) (λ bytes. ChecksQuery l.handle bytes made' answer' x))))) ws.1.1.1.0 ws.1.1.1.1.0 $ ends alloc (block_ptr b0 o0) (record { at = null_ptr; length = query-length }) (block_ptr b2 o2) (block_ptr b3 o3) v x)))))) (λ wrong. absurd wrong))
  runs alloc (block_ptr b0 o0) (block_ptr b1 o1) query-length (block_ptr b2 o2) (block_ptr b3 o3) fits-alloc fits-query may-given may-query may-made may-answer =
      move ! (1 ∷ []) $ fsplit ! $ move ! (1 ∷ []) $ fsplit ! $ move ! (1 ∷ []) $ fsplit ! $ move ! (1 ∷ []) $ enter ! C Λ code.function (global_val alloc ∷ vptr b0 o0 ∷ bytes_val (record { at = (block_ptr b1 o1); length = query-length }) ∷ vptr b2 o2 ∷ vptr b3 o3 ∷ []) _ $ alloc_all ! (λ c. pass_all ! refl (fits-alloc.0, ((good 𝓛 (block_ptr b0 o0)).0, (fits-query.0, ((good 𝓛 (block_ptr b2 o2)).0, ((good 𝓛 (block_ptr b3 o3)).0, tt))))) $
      stands ! b0 o0 none (get ! refl) may-given refl (tt, tt) refl $
      stands ! b2 o2 (there_is _) (get ! refl) may-made refl (tt, tt) refl $
      stands ! b3 o3 (there_is _) (get ! refl) may-answer refl (tt, tt) refl $
      compares ! (block_ptr b1 o1) (there_is _) (get_in ! (fld ! refl (stop !)) (sub ! 0 refl (whole !))) may-query refl (tt, tt) $ closes ! $ branches ! (get ! refl) (λ wrong. absurd wrong) (λ _. hands ! _ _ $ inside ! _ _ _ $
      sets ! (of_opd ! (get ! refl)) refl (tt, tt) $ sets ! (addr ! (through ! refl (stop !))) refl (tt, tt) $
      sets ! (agg ! (and_then ! (get_in ! (fld ! refl (stop !)) (sub ! 0 refl (whole !))) (and_then ! (get_in ! (fld ! refl (stop !)) (sub ! 1 refl (whole !))) (no_more !)))) refl (tt, (tt, (fits-query.0.1.1.0, tt))) $
      sets ! (addr ! (through ! refl (stop !))) refl (tt, tt) $
      sets ! (addr ! (through ! refl (stop !))) refl (tt, tt) $
      nothing ! $ move ! (1 ∷ 0 ∷ []) $ fjoin ! $ move ! (1 ∷ 0 ∷ []) $ fjoin ! $ move ! (1 ∷ 0 ∷ []) $ fjoin ! $ move ! (1 ∷ 0 ∷ []) $ fjoin ! $ move ! (2 ∷ 0 ∷ []) $ fjoin ! $ nothing ! $ move ! (2 ∷ 0 ∷ []) $ join ! $ join ! $ nothing ! $ move ! (1 ∷ 0 ∷ []) $
      let z : G.Ghost = (((l.lifetime, tt), (l.share, tt), tt, (alloc, (record { ref_ptr = (b0, o0); now = l.handle }, (record { ref_ptr = (b1, o1); now = l.bytes }, (record { ref_ptr = (b2, o2); ghost_name = l.made_name; now = l.made }, (record { ref_ptr = (b3, o3); ghost_name = l.answer_name; now = l.answer }, tt))))), (global_val alloc ∷ [], (vptr b0 o0 ∷ [], (slice_val (b1, o1) query-length ∷ [], (vptr b2 o2 ∷ [], (vptr b3 o3 ∷ [], tt)))))), tt) in
      use2 𝓛 (raw (G.pre z)) (id⊢ 𝓤 _) $ calls_at_last ! fm G known z (and_then ! (get ! refl) (and_then ! (get ! refl) (and_then ! (get ! refl) (and_then ! (get ! refl) (and_then ! (get ! refl) (no_more !)))))) (λ v.
      use1 𝓛 (back 𝓛 g.ended (g.clauses 𝓛 at_mem run) z.0.0 z.0.3 z.1 l.lifetime l.share v) (id⊢ 𝓤 _) $
      await ! tt $ pick ! (λ x. split ! $ move ! (1 ∷ []) $ pick ! (λ ws. split ! $ move ! (1 ∷ []) $ heard ! (of_bytes (block_ptr b1 o1) query-length l.bytes ((ws.1.1.1.0 ≡ l.made) × ((ws.1.1.1.1.0 ≡ l.answer) × (x ≡ 1))) (λ bytes. ChecksQuery l.handle bytes ws.1.1.1.0 ws.1.1.1.1.0 x)) (λ reports.
      fsplit ! $ drop ! $ fsplit ! $ drop ! $ fsplit ! $ drop ! $ fsplit ! $ move ! (1 ∷ []) $ fsplit ! $ move ! (1 ∷ []) $ drop ! $ move ! (2 ∷ []) $ split ! $ split ! $ move ! (2 ∷ []) $ peeks ! u32 (Is u32) (shows 𝓛 u32) x (v ∷ []) (λ is. let fine = ((uint_Lawful 𝓛 w32).typed x _ is).0 in
      ends1 ! C Λ _ _ fine fine fine refl refl refl refl refl refl $ free_all ! refl $ keep ! (3 ∷ 4 ∷ 0 ∷ 1 ∷ []) $
      hold ! reports $ move ! (1 ∷ 0 ∷ []) $ fjoin ! $ move ! (1 ∷ 0 ∷ []) $ fjoin ! $
      fpack2 ! Owned Answer (λ made' answer'. fsep (left_made l (block_ptr b2 o2) made') (fsep (left_answer l (block_ptr b3 o3) answer') (holds (of_bytes (block_ptr b1 o1) query-length l.bytes ((made' ≡ l.made) × ((answer' ≡ l.answer) × (x ≡ 1))) (λ bytes. ChecksQuery l.handle bytes made' answer' x))))) ws.1.1.1.0 ws.1.1.1.1.0 $ ends alloc (block_ptr b0 o0) (record { at = (block_ptr b1 o1); length = query-length }) (block_ptr b2 o2) (block_ptr b3 o3) v x)))))))

pub odfilter_check_query_spec : {M : Type 1} → statement M
unfolding borrowed_by_check_query
odfilter_check_query_spec 𝓤 𝓛 𝓜 𝓡 wired =
    let c = f.clauses 𝓛 𝓜.mem 𝓡.returns in let 𝓣 = tables 𝓤 𝓛.H 𝓜 𝓡 𝓡.env in
    proved 𝓛 f.ended stayed c 𝓜 𝓡 (Goes-dropped 𝓛 0 (plain (λ _. GlobalRow)) yes (λ κs x w. refl), (Goes-dropped 𝓛 0 (plain (λ _. RawPtr)) yes (λ κs x w. refl), (Goes-dropped 𝓛 0 (plain (λ _. BytesRow)) yes (λ κs x w. refl), (Goes-dropped 𝓛 0 (plain (λ _. RawPtr)) yes (λ κs x w. refl), (Goes-dropped 𝓛 0 (plain (λ _. RawPtr)) yes (λ κs x w. refl), tt)))))
    f.Key.name code.function (code.unfolded 𝓤 𝓛.H 𝓜 𝓡 wired)
    (λ κs. ((λ g. global_val g ∷ []), (rawptr_vals, ((λ s. bytes_val s ∷ []), (rawptr_vals, (rawptr_vals, tt)))))) (λ κs. (global_lowers.val_is, (rawptr_Tells, (bytes_lowers.val_is, (rawptr_Tells, (rawptr_Tells, tt)))))) (λ κs qs bounds a l are.
    qed 𝓛 ((‵ ftrue ⊛ ‵ (owns (types_at f.signature.params κs) a (global_val a.0 ∷ [], (rawptr_vals a.1.0, (bytes_val a.1.1.0 ∷ [], (rawptr_vals a.1.1.1.0, (rawptr_vals a.1.1.1.1.0, tt))))))) ∷ (raw (fact 𝓤 (Testable a.1.0 × Testable a.1.1.0.at × Testable a.1.1.1.0 × Testable a.1.1.1.1.0)) ⊛ (‵ (flft l.lifetime l.share) ⊛ ‵ (borrowed_by_check_query l a.1.0 a.1.1.0 a.1.1.1.0 a.1.1.1.1.0))) ∷ []) ∵
    split ! $ drop ! $ fsplit ! $ move ! (1 ∷ []) $ drop ! $ move ! (1 ∷ []) $ split ! $ heard ! _ (λ may. split ! $
    runs 𝓛 𝓜.mem 𝓡.returns 𝓣.C 𝓣.Λ (framed 𝓤 𝓛.H 𝓜 𝓣) (met 𝓤 𝓛 𝓜 𝓡 (code.calls-handle_calls::calls::check_query 𝓡.env wired)) (met-1 𝓤 𝓛 𝓜 𝓡 (code.calls-odfilter_c::null_calls::check_query_at_null 𝓡.env wired)) l a.0 a.1.0 a.1.1.0.at a.1.1.0.length a.1.1.1.0 a.1.1.1.1.0 ((global_laws.lawful 𝓛).typed a.0 _ are.0) ((bytes_laws.lawful 𝓛).typed a.1.1.0 _ are.1.1.0) may.0 may.1 may.2 may.3))
