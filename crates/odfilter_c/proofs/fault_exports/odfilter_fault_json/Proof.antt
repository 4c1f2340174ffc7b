-- `fault_json` meets its contract: the addresses are tested one by one, and the call borrows what they point to.
use Rattle.odfilter_c.proofs.Steps.{◌≡◌, ℕ, ◌<◌, ◌^◌, List, [], ◌∷◌, refl, lit<, w32, w64, proved, leaves, none, there_is, Ura, SProp, id⊢, ftrue, fsep, flft, Val, vint, vptr, vnull, Memory, Routine, WpFn, Calls, Loops, Fun, fact, tables, FmC, Logic, ‵, raw, ◌⊛◌, prop, Sq, ◌$◌, ◌∵◌, !, qed, move, keep, drop, use0, use1, use2, split, join, fsplit, fjoin, pick, await, by, enter, of_opd, addr, stop, fld, no_more, and_then, branches, agg, sub, whole, alloc_all, pass_all, free_all, get, get_in, through, sets, u32, usize, yes, Typed, Is, shows, uint_Makes, uint_Lawful, uint_vals, uint_Tells, Ptr, RawPtr, block_ptr, null_ptr, ptr_val, Testable, rawptr_vals, rawptr_Tells, slice_val, owns, types_at, plain, nothing, owned, heard, peeks, Contract, Triple, calls_at_last, triple_of, Stays, walk_of, stay_dropped, Goes-dropped, framed, Global, GlobalRow, global_lowers, global_val, global_laws, Bytes, BytesRow, bytes_lowers, bytes_val, bytes_laws, Buffer, BufferRow, buffer_lowers, buffer_val, buffer_laws, Answer, HasNull, in_rest, trues, good, all_true, back, hold, unchanged, fpack2, compares, stands, tested, closes, hands, inside, ends3}
use Rattle.odfilter_c.specs.Loans.{Loan, left_buffer, left_answer, of_bytes, of_buffer, of_optional, holds, borrowed_fault, borrowed_handle, borrowed_bytes, borrowed_buffer, borrowed_answer, unless_null}
use Rattle.odfilter_c.specs.FaultExports.{borrowed_by_fault_json, left_by_fault_json}
use Rattle.report_calls.specs.Sentences.{ReportsSentenceFor, ReportsSentence}
use Rattle.report_calls.specs.contracts.calls.fault_json as g
use Rattle.report_calls.proofs.calls.fault_json.Symbol.{name as #call}
use Rattle.report_calls.proofs.calls.fault_json.Met.{met as met}
use Rattle.odfilter_c.specs.contracts.null_calls.fault_json_at_null as g-1
use Rattle.odfilter_c.proofs.null_calls.fault_json_at_null.Symbol.{name as #call-1}
use Rattle.odfilter_c.proofs.null_calls.fault_json_at_null.Met.{met as met-1}
use Rattle.odfilter_c.specs.contracts.length_calls.fault_json_to_null as g-2
use Rattle.odfilter_c.proofs.length_calls.fault_json_to_null.Symbol.{name as #call-2}
use Rattle.odfilter_c.proofs.length_calls.fault_json_to_null.Met.{met as met-2}
use Rattle.odfilter_c.specs.contracts.length_calls.fault_json_to_null_at_null as g-3
use Rattle.odfilter_c.proofs.length_calls.fault_json_to_null_at_null.Symbol.{name as #call-3}
use Rattle.odfilter_c.proofs.length_calls.fault_json_to_null_at_null.Met.{met as met-3}
use Rattle.report_calls.specs.contracts.calls.fault_json_alone as g-4
use Rattle.report_calls.proofs.calls.fault_json_alone.Symbol.{name as #call-4}
use Rattle.report_calls.proofs.calls.fault_json_alone.Met.{met as met-4}
use Rattle.odfilter_c.specs.contracts.null_calls.fault_json_alone_at_null as g-5
use Rattle.odfilter_c.proofs.null_calls.fault_json_alone_at_null.Symbol.{name as #call-5}
use Rattle.odfilter_c.proofs.null_calls.fault_json_alone_at_null.Met.{met as met-5}
use Rattle.odfilter_c.specs.contracts.length_calls.fault_json_alone_to_null as g-6
use Rattle.odfilter_c.proofs.length_calls.fault_json_alone_to_null.Symbol.{name as #call-6}
use Rattle.odfilter_c.proofs.length_calls.fault_json_alone_to_null.Met.{met as met-6}
use Rattle.odfilter_c.specs.contracts.length_calls.fault_json_alone_to_null_at_null as g-7
use Rattle.odfilter_c.proofs.length_calls.fault_json_alone_to_null_at_null.Symbol.{name as #call-7}
use Rattle.odfilter_c.proofs.length_calls.fault_json_alone_to_null_at_null.Met.{met as met-7}
use Rattle.odfilter_c.specs.contracts.fault_exports.odfilter_fault_json as f
use Rattle.odfilter_c.proofs.fault_exports.odfilter_fault_json.Statement.{statement}
use base.Fml.{Fml, feq, fex}
use Rattle.odfilter_c.proofs.fault_exports.odfilter_fault_json.Code as code

abbrev stayed : Stays f.ended.signature.params f.ended.kept
stayed = (stay_dropped _ yes, (stay_dropped _ yes, (stay_dropped _ yes, (stay_dropped _ yes, (stay_dropped _ yes, (stay_dropped _ yes, (stay_dropped _ yes, tt)))))))

module _ {M : Type 1} {𝓤 : Ura M} (𝓛 : Logic 𝓤) (at_mem : Memory → SProp 𝓤) (run : Routine → Fun 𝓤) (C : Calls 𝓤 𝓛.H) (Λ : Loops 𝓤 𝓛.H) (fm : FmC 𝓤 𝓛.H 𝓛.laws C)
    (known : Triple 𝓤 (C #call) (triple_of 𝓛 g.signature (g.spec 𝓛 at_mem run)))
    (known-1 : Triple 𝓤 (C #call-1) (triple_of 𝓛 g-1.signature (g-1.spec 𝓛 at_mem run)))
    (known-2 : Triple 𝓤 (C #call-2) (triple_of 𝓛 g-2.signature (g-2.spec 𝓛 at_mem run)))
    (known-3 : Triple 𝓤 (C #call-3) (triple_of 𝓛 g-3.signature (g-3.spec 𝓛 at_mem run)))
    (known-4 : Triple 𝓤 (C #call-4) (triple_of 𝓛 g-4.signature (g-4.spec 𝓛 at_mem run)))
    (known-5 : Triple 𝓤 (C #call-5) (triple_of 𝓛 g-5.signature (g-5.spec 𝓛 at_mem run)))
    (known-6 : Triple 𝓤 (C #call-6) (triple_of 𝓛 g-6.signature (g-6.spec 𝓛 at_mem run)))
    (known-7 : Triple 𝓤 (C #call-7) (triple_of 𝓛 g-7.signature (g-7.spec 𝓛 at_mem run))) (l : Loan) where
  open 𝓛 use {H}

  -- what the call borrows, and what it leaves
  abbrev Borrowed : Ptr → Bytes → Buffer → Ptr → Ptr → Fml
  Borrowed given text object fault answer = fsep (borrowed_handle l given) (fsep (borrowed_bytes l text) (fsep (borrowed_buffer l object)
      (fsep (borrowed_fault l fault) (borrowed_answer l answer))))

  abbrev Left : Ptr → ℕ → Bytes → Buffer → Ptr → Ptr → ℕ → Fml
  Left given status text object fault answer result = unless_null (fault ∷ answer ∷ [])
      (fsep (feq ℕ result 1) (Borrowed given text object fault answer))
      (fex (List ℕ) (λ object'. fex Answer (λ answer'.
      fsep (left_buffer l object object') (fsep (left_answer l answer answer')
      (holds (of_optional given
      (of_buffer object.at object.length l.buffer object' ((answer' ≡ l.answer) × (result ≡ 1))
      (λ old new. of_bytes text.at text.length l.bytes
      ((new ≡ old) × ((answer' ≡ l.answer) × (result ≡ 1)))
      (λ bytes. ReportsSentence status bytes old new l.fault answer' result)))
      (of_buffer object.at object.length l.buffer object' ((answer' ≡ l.answer) × (result ≡ 1))
      (λ old new. of_bytes text.at text.length l.bytes
      ((new ≡ old) × ((answer' ≡ l.answer) × (result ≡ 1)))
      (λ bytes. ReportsSentenceFor l.handle status bytes old new l.fault answer' result)))))))))

  abbrev G : Contract 𝓤
  G = triple_of 𝓛 g.signature (g.spec 𝓛 at_mem run)

  abbrev G-1 : Contract 𝓤
  G-1 = triple_of 𝓛 g-1.signature (g-1.spec 𝓛 at_mem run)

  abbrev G-2 : Contract 𝓤
  G-2 = triple_of 𝓛 g-2.signature (g-2.spec 𝓛 at_mem run)

  abbrev G-3 : Contract 𝓤
  G-3 = triple_of 𝓛 g-3.signature (g-3.spec 𝓛 at_mem run)

  abbrev G-4 : Contract 𝓤
  G-4 = triple_of 𝓛 g-4.signature (g-4.spec 𝓛 at_mem run)

  abbrev G-5 : Contract 𝓤
  G-5 = triple_of 𝓛 g-5.signature (g-5.spec 𝓛 at_mem run)

  abbrev G-6 : Contract 𝓤
  G-6 = triple_of 𝓛 g-6.signature (g-6.spec 𝓛 at_mem run)

  abbrev G-7 : Contract 𝓤
  G-7 = triple_of 𝓛 g-7.signature (g-7.spec 𝓛 at_mem run)

  abbrev W : Contract 𝓤
  W = walk_of 𝓛 f.ended stayed (f.clauses 𝓛 at_mem run)

  abbrev bound : Global → Ptr → ℕ → Bytes → Buffer → Ptr → Ptr → W.Ghost
  bound alloc given status text json fault answer = ((tt, tt, tt, (alloc, (given, (status, (text, (json, (fault, (answer, tt))))))), (global_val alloc ∷ [], (ptr_val given ∷ [], (vint w32 status ∷ [], (bytes_val text ∷ [], (buffer_val json ∷ [], (ptr_val fault ∷ [], (ptr_val answer ∷ [], tt)))))))), l)

  abbrev Walk : Global → Ptr → ℕ → Bytes → Buffer → Ptr → Ptr → Type 1
  Walk alloc given status text json fault answer = Sq 𝓛 (‵ (flft l.lifetime l.share) ∷ ‵ (Borrowed given text json fault answer) ∷ ‵ (GlobalRow.own_val alloc (global_val alloc ∷ [])) ∷ []) (prop (WpFn 𝓤 H C Λ code.function (global_val alloc ∷ ptr_val given ∷ vint w32 status ∷ bytes_val text ∷ buffer_val json ∷ ptr_val fault ∷ ptr_val answer ∷ []) (W.post (bound alloc given status text json fault answer))))

  ends : (alloc : Global) (given : Ptr) (status : ℕ) (text : Bytes) (json : Buffer) (fault : Ptr) (answer : Ptr) (v : Val) (x : ℕ) → Sq 𝓛 (‵ (Left given status text json fault answer x) ∷ ‵ (u32.own_val x (v ∷ [])) ∷ ‵ (flft l.lifetime l.share) ∷ []) (prop (W.post (bound alloc given status text json fault answer) v))
  unfolding borrowed_by_fault_json left_by_fault_json
  ends alloc given status text json fault answer v x = move ! (2 ∷ 0 ∷ []) $ join ! $ move ! (1 ∷ []) $ use0 𝓛 (‵ (trues 7)) (all_true 𝓛 7) $ nothing ! $
      by ! (leaves 𝓛 f.ended stayed (f.clauses 𝓛 at_mem run) (bound alloc given status text json fault answer) v x (tt, (tt, (tt, (tt, (tt, (tt, (tt, tt))))))) (tt, (tt, (tt, (tt, (tt, (tt, (tt, tt))))))))

  -- with a null address nothing is called
  refused : (alloc : Global) (given : Ptr) (status : ℕ) (text-at : Ptr) (text-length : ℕ) (json-at : Ptr) (json-length : ℕ) (fault : Ptr) (answer : Ptr) → Typed GlobalRow.mir (global_val alloc ∷ []) → status < 2 ^ 32 → Typed BytesRow.mir (bytes_val (record { at = text-at; length = text-length }) ∷ []) → Typed BufferRow.mir (buffer_val (record { at = json-at; length = json-length }) ∷ []) → Testable given → Testable text-at → Testable json-at → Testable fault → Testable answer → HasNull (fault ∷ answer ∷ []) → Walk alloc given status (record { at = text-at; length = text-length }) (record { at = json-at; length = json-length }) fault answer
  refused alloc given status text-at text-length json-at json-length fault answer fits-alloc fits-status fits-text fits-json may-given may-text may-json may-fault may-answer null =
      enter ! C Λ code.function (global_val alloc ∷ ptr_val given ∷ vint w32 status ∷ bytes_val (record { at = text-at; length = text-length }) ∷ buffer_val (record { at = json-at; length = json-length }) ∷ ptr_val fault ∷ ptr_val answer ∷ []) _ $ alloc_all ! (λ c. pass_all ! refl (fits-alloc.0, ((good 𝓛 given).0, ((tt, record { fits = fits-status }), (fits-text.0, (fits-json.0, ((good 𝓛 fault).0, ((good 𝓛 answer).0, tt))))))) $
      tested ! fault none (get ! refl) may-fault refl (tt, tt) refl refl (tt, record { fits = lit< tt }) refl (λ _. free_all ! refl $ unchanged ! (fault ∷ answer ∷ []) _ null (ends alloc given status (record { at = text-at; length = text-length }) (record { at = json-at; length = json-length }) fault answer (vint w32 1) 1)) (λ here-0.
      tested ! answer (there_is _) (get ! refl) may-answer refl (tt, tt) refl refl (tt, record { fits = lit< tt }) refl (λ _. free_all ! refl $ unchanged ! (fault ∷ answer ∷ []) _ null (ends alloc given status (record { at = text-at; length = text-length }) (record { at = json-at; length = json-length }) fault answer (vint w32 1) 1)) (λ here-1.
      absurd (in_rest answer [] (in_rest fault (answer ∷ []) null here-0) here-1))))

  -- the path 7
  path-7 : (alloc : Global) (status : ℕ) (text-length : ℕ) (json-length : ℕ) (b3 o3 : ℕ) (b4 o4 : ℕ) → Typed GlobalRow.mir (global_val alloc ∷ []) → status < 2 ^ 32 → Typed BytesRow.mir (bytes_val (record { at = null_ptr; length = text-length }) ∷ []) → Typed BufferRow.mir (buffer_val (record { at = null_ptr; length = json-length }) ∷ []) → Testable null_ptr → Testable null_ptr → Testable null_ptr → Testable (block_ptr b3 o3) → Testable (block_ptr b4 o4) → Walk alloc null_ptr status (record { at = null_ptr; length = text-length }) (record { at = null_ptr; length = json-length }) (block_ptr b3 o3) (block_ptr b4 o4)
  path-7 alloc status text-length json-length b3 o3 b4 o4 fits-alloc fits-status fits-text fits-json may-given may-text may-json may-fault may-answer =
      move ! (1 ∷ []) $ fsplit ! $ move ! (1 ∷ []) $ fsplit ! $ move ! (1 ∷ []) $ fsplit ! $ move ! (1 ∷ []) $ fsplit ! $ move ! (1 ∷ []) $ enter ! C Λ code.function (global_val alloc ∷ vnull ∷ vint w32 status ∷ bytes_val (record { at = null_ptr; length = text-length }) ∷ buffer_val (record { at = null_ptr; length = json-length }) ∷ vptr b3 o3 ∷ vptr b4 o4 ∷ []) _ $ alloc_all ! (λ c. pass_all ! refl (fits-alloc.0, ((good 𝓛 null_ptr).0, ((tt, record { fits = fits-status }), (fits-text.0, (fits-json.0, ((good 𝓛 (block_ptr b3 o3)).0, ((good 𝓛 (block_ptr b4 o4)).0, tt))))))) $
      stands ! b3 o3 none (get ! refl) may-fault refl (tt, tt) refl $
      stands ! b4 o4 (there_is _) (get ! refl) may-answer refl (tt, tt) refl $
      compares ! null_ptr (there_is _) (get ! refl) may-given refl (tt, tt) $ closes ! $ branches ! (get ! refl) (λ _.
      compares ! null_ptr none (get_in ! (fld ! refl (stop !)) (sub ! 0 refl (whole !))) may-json refl (tt, tt) $ hands ! _ _ $ branches ! (get ! refl) (λ _.
      compares ! null_ptr none (get_in ! (fld ! refl (stop !)) (sub ! 0 refl (whole !))) may-text refl (tt, tt) $ hands ! _ _ $ branches ! (get ! refl) (λ _. hands ! _ _ $ inside ! _ _ _ $
      sets ! (addr ! (through ! refl (stop !))) refl (tt, tt) $
      sets ! (addr ! (through ! refl (stop !))) refl (tt, tt) $
      move ! (4 ∷ []) $ drop ! $ move ! (2 ∷ []) $ drop ! $ move ! (2 ∷ []) $ drop ! $ nothing ! $ move ! (1 ∷ 0 ∷ []) $ fjoin ! $ move ! (1 ∷ 0 ∷ []) $ fjoin ! $ owned ! usize _ (uint_Makes 𝓛 w64) json-length _ (refl, fits-json.0.1.1.0.fits) $ fjoin ! $ owned ! usize _ (uint_Makes 𝓛 w64) text-length _ (refl, fits-text.0.1.1.0.fits) $ fjoin ! $ owned ! u32 _ (uint_Makes 𝓛 w32) status _ (refl, fits-status) $ fjoin ! $ move ! (2 ∷ 0 ∷ []) $ fjoin ! $ nothing ! $ move ! (2 ∷ 0 ∷ []) $ join ! $ join ! $ nothing ! $ move ! (1 ∷ 0 ∷ []) $
      let z : G-7.Ghost = (((l.lifetime, tt), (l.share, tt), tt, (alloc, (status, (text-length, (json-length, (record { ref_ptr = (b3, o3); now = l.fault }, (record { ref_ptr = (b4, o4); ghost_name = l.answer_name; now = l.answer }, tt)))))), (global_val alloc ∷ [], (vint w32 status ∷ [], (vint w64 text-length ∷ [], (vint w64 json-length ∷ [], (vptr b3 o3 ∷ [], (vptr b4 o4 ∷ [], tt))))))), tt) in
      use2 𝓛 (raw (G-7.pre z)) (id⊢ 𝓤 _) $ calls_at_last ! fm G-7 known-7 z (and_then ! (get ! refl) (and_then ! (get ! refl) (and_then ! (get_in ! (fld ! refl (stop !)) (sub ! 1 refl (whole !))) (and_then ! (get_in ! (fld ! refl (stop !)) (sub ! 1 refl (whole !))) (and_then ! (get ! refl) (and_then ! (get ! refl) (no_more !))))))) (λ v.
      use1 𝓛 (back 𝓛 g-7.ended (g-7.clauses 𝓛 at_mem run) z.0.0 z.0.3 z.1 l.lifetime l.share v) (id⊢ 𝓤 _) $
      await ! tt $ pick ! (λ x. split ! $ move ! (1 ∷ []) $ pick ! (λ ws. split ! $ move ! (1 ∷ []) $ heard ! (of_optional null_ptr (of_buffer null_ptr json-length l.buffer [] ((ws.1.1.1.1.1.0 ≡ l.answer) × (x ≡ 1)) (λ old new. of_bytes null_ptr text-length l.bytes ((new ≡ old) × ((ws.1.1.1.1.1.0 ≡ l.answer) × (x ≡ 1))) (λ bytes. ReportsSentence status bytes old new l.fault ws.1.1.1.1.1.0 x))) (of_buffer null_ptr json-length l.buffer [] ((ws.1.1.1.1.1.0 ≡ l.answer) × (x ≡ 1)) (λ old new. of_bytes null_ptr text-length l.bytes ((new ≡ old) × ((ws.1.1.1.1.1.0 ≡ l.answer) × (x ≡ 1))) (λ bytes. ReportsSentenceFor l.handle status bytes old new l.fault ws.1.1.1.1.1.0 x)))) (λ reports.
      fsplit ! $ drop ! $ fsplit ! $ drop ! $ fsplit ! $ drop ! $ fsplit ! $ drop ! $ fsplit ! $ drop ! $ fsplit ! $ move ! (1 ∷ []) $ drop ! $ move ! (1 ∷ []) $ split ! $ split ! $ move ! (2 ∷ []) $ peeks ! u32 (Is u32) (shows 𝓛 u32) x (v ∷ []) (λ is. let fine = ((uint_Lawful 𝓛 w32).typed x _ is).0 in
      ends3 ! C Λ _ _ _ _ fine fine fine fine fine refl refl refl refl refl refl refl refl refl refl $ free_all ! refl $ keep ! (3 ∷ 0 ∷ 1 ∷ []) $
      hold ! reports $ move ! (1 ∷ 0 ∷ []) $ fjoin ! $ nothing ! $ fjoin ! $
      fpack2 ! (List ℕ) Answer (λ json' answer'. fsep (left_buffer l (record { at = null_ptr; length = json-length }) json') (fsep (left_answer l (block_ptr b4 o4) answer') (holds (of_optional null_ptr (of_buffer null_ptr json-length l.buffer json' ((answer' ≡ l.answer) × (x ≡ 1)) (λ old new. of_bytes null_ptr text-length l.bytes ((new ≡ old) × ((answer' ≡ l.answer) × (x ≡ 1))) (λ bytes. ReportsSentence status bytes old new l.fault answer' x))) (of_buffer null_ptr json-length l.buffer json' ((answer' ≡ l.answer) × (x ≡ 1)) (λ old new. of_bytes null_ptr text-length l.bytes ((new ≡ old) × ((answer' ≡ l.answer) × (x ≡ 1))) (λ bytes. ReportsSentenceFor l.handle status bytes old new l.fault answer' x))))))) [] ws.1.1.1.1.1.0 $ ends alloc null_ptr status (record { at = null_ptr; length = text-length }) (record { at = null_ptr; length = json-length }) (block_ptr b3 o3) (block_ptr b4 o4) v x)))))) (λ wrong. absurd wrong)) (λ wrong. absurd wrong)) (λ wrong. absurd wrong))

  -- the path 6
  path-6 : (alloc : Global) (status : ℕ) (b1 o1 : ℕ) (text-length : ℕ) (json-length : ℕ) (b3 o3 : ℕ) (b4 o4 : ℕ) → Typed GlobalRow.mir (global_val alloc ∷ []) → status < 2 ^ 32 → Typed BytesRow.mir (bytes_val (record { at = (block_ptr b1 o1); length = text-length }) ∷ []) → Typed BufferRow.mir (buffer_val (record { at = null_ptr; length = json-length }) ∷ []) → Testable null_ptr → Testable (block_ptr b1 o1) → Testable null_ptr → Testable (block_ptr b3 o3) → Testable (block_ptr b4 o4) → Walk alloc null_ptr status (record { at = (block_ptr b1 o1); length = text-length }) (record { at = null_ptr; length = json-length }) (block_ptr b3 o3) (block_ptr b4 o4)
  path-6 alloc status b1 o1 text-length json-length b3 o3 b4 o4 fits-alloc fits-status fits-text fits-json may-given may-text may-json may-fault may-answer =
      move ! (1 ∷ []) $ fsplit ! $ move ! (1 ∷ []) $ fsplit ! $ move ! (1 ∷ []) $ fsplit ! $ move ! (1 ∷ []) $ fsplit ! $ move ! (1 ∷ []) $ enter ! C Λ code.function (global_val alloc ∷ vnull ∷ vint w32 status ∷ bytes_val (record { at = (block_ptr b1 o1); length = text-length }) ∷ buffer_val (record { at = null_ptr; length = json-length }) ∷ vptr b3 o3 ∷ vptr b4 o4 ∷ []) _ $ alloc_all ! (λ c. pass_all ! refl (fits-alloc.0, ((good 𝓛 null_ptr).0, ((tt, record { fits = fits-status }), (fits-text.0, (fits-json.0, ((good 𝓛 (block_ptr b3 o3)).0, ((good 𝓛 (block_ptr b4 o4)).0, tt))))))) $
      stands ! b3 o3 none (get ! refl) may-fault refl (tt, tt) refl $
      stands ! b4 o4 (there_is _) (get ! refl) may-answer refl (tt, tt) refl $
      compares ! null_ptr (there_is _) (get ! refl) may-given refl (tt, tt) $ closes ! $ branches ! (get ! refl) (λ _.
      compares ! null_ptr none (get_in ! (fld ! refl (stop !)) (sub ! 0 refl (whole !))) may-json refl (tt, tt) $ hands ! _ _ $ branches ! (get ! refl) (λ _.
      compares ! (block_ptr b1 o1) none (get_in ! (fld ! refl (stop !)) (sub ! 0 refl (whole !))) may-text refl (tt, tt) $ hands ! _ _ $ branches ! (get ! refl) (λ wrong. absurd wrong) (λ _. hands ! _ _ $ inside ! _ _ _ $
      sets ! (agg ! (and_then ! (get_in ! (fld ! refl (stop !)) (sub ! 0 refl (whole !))) (and_then ! (get_in ! (fld ! refl (stop !)) (sub ! 1 refl (whole !))) (no_more !)))) refl (tt, (tt, (fits-text.0.1.1.0, tt))) $
      sets ! (addr ! (through ! refl (stop !))) refl (tt, tt) $
      sets ! (addr ! (through ! refl (stop !))) refl (tt, tt) $
      move ! (4 ∷ []) $ drop ! $ move ! (2 ∷ []) $ drop ! $ nothing ! $ move ! (1 ∷ 0 ∷ []) $ fjoin ! $ move ! (1 ∷ 0 ∷ []) $ fjoin ! $ owned ! usize _ (uint_Makes 𝓛 w64) json-length _ (refl, fits-json.0.1.1.0.fits) $ fjoin ! $ move ! (1 ∷ 0 ∷ []) $ fjoin ! $ owned ! u32 _ (uint_Makes 𝓛 w32) status _ (refl, fits-status) $ fjoin ! $ move ! (2 ∷ 0 ∷ []) $ fjoin ! $ nothing ! $ move ! (2 ∷ 0 ∷ []) $ join ! $ join ! $ nothing ! $ move ! (1 ∷ 0 ∷ []) $
      let z : G-6.Ghost = (((l.lifetime, tt), (l.share, tt), tt, (alloc, (status, (record { ref_ptr = (b1, o1); now = l.bytes }, (json-length, (record { ref_ptr = (b3, o3); now = l.fault }, (record { ref_ptr = (b4, o4); ghost_name = l.answer_name; now = l.answer }, tt)))))), (global_val alloc ∷ [], (vint w32 status ∷ [], (slice_val (b1, o1) text-length ∷ [], (vint w64 json-length ∷ [], (vptr b3 o3 ∷ [], (vptr b4 o4 ∷ [], tt))))))), tt) in
      use2 𝓛 (raw (G-6.pre z)) (id⊢ 𝓤 _) $ calls_at_last ! fm G-6 known-6 z (and_then ! (get ! refl) (and_then ! (get ! refl) (and_then ! (get ! refl) (and_then ! (get_in ! (fld ! refl (stop !)) (sub ! 1 refl (whole !))) (and_then ! (get ! refl) (and_then ! (get ! refl) (no_more !))))))) (λ v.
      use1 𝓛 (back 𝓛 g-6.ended (g-6.clauses 𝓛 at_mem run) z.0.0 z.0.3 z.1 l.lifetime l.share v) (id⊢ 𝓤 _) $
      await ! tt $ pick ! (λ x. split ! $ move ! (1 ∷ []) $ pick ! (λ ws. split ! $ move ! (1 ∷ []) $ heard ! (of_optional null_ptr (of_buffer null_ptr json-length l.buffer [] ((ws.1.1.1.1.1.0 ≡ l.answer) × (x ≡ 1)) (λ old new. of_bytes (block_ptr b1 o1) text-length l.bytes ((new ≡ old) × ((ws.1.1.1.1.1.0 ≡ l.answer) × (x ≡ 1))) (λ bytes. ReportsSentence status bytes old new l.fault ws.1.1.1.1.1.0 x))) (of_buffer null_ptr json-length l.buffer [] ((ws.1.1.1.1.1.0 ≡ l.answer) × (x ≡ 1)) (λ old new. of_bytes (block_ptr b1 o1) text-length l.bytes ((new ≡ old) × ((ws.1.1.1.1.1.0 ≡ l.answer) × (x ≡ 1))) (λ bytes. ReportsSentenceFor l.handle status bytes old new l.fault ws.1.1.1.1.1.0 x)))) (λ reports.
      fsplit ! $ drop ! $ fsplit ! $ drop ! $ fsplit ! $ drop ! $ fsplit ! $ drop ! $ fsplit ! $ drop ! $ fsplit ! $ move ! (1 ∷ []) $ drop ! $ move ! (1 ∷ []) $ split ! $ split ! $ move ! (2 ∷ []) $ peeks ! u32 (Is u32) (shows 𝓛 u32) x (v ∷ []) (λ is. let fine = ((uint_Lawful 𝓛 w32).typed x _ is).0 in
      ends3 ! C Λ _ _ _ _ fine fine fine fine fine refl refl refl refl refl refl refl refl refl refl $ free_all ! refl $ keep ! (3 ∷ 0 ∷ 1 ∷ []) $
      hold ! reports $ move ! (1 ∷ 0 ∷ []) $ fjoin ! $ nothing ! $ fjoin ! $
      fpack2 ! (List ℕ) Answer (λ json' answer'. fsep (left_buffer l (record { at = null_ptr; length = json-length }) json') (fsep (left_answer l (block_ptr b4 o4) answer') (holds (of_optional null_ptr (of_buffer null_ptr json-length l.buffer json' ((answer' ≡ l.answer) × (x ≡ 1)) (λ old new. of_bytes (block_ptr b1 o1) text-length l.bytes ((new ≡ old) × ((answer' ≡ l.answer) × (x ≡ 1))) (λ bytes. ReportsSentence status bytes old new l.fault answer' x))) (of_buffer null_ptr json-length l.buffer json' ((answer' ≡ l.answer) × (x ≡ 1)) (λ old new. of_bytes (block_ptr b1 o1) text-length l.bytes ((new ≡ old) × ((answer' ≡ l.answer) × (x ≡ 1))) (λ bytes. ReportsSentenceFor l.handle status bytes old new l.fault answer' x))))))) [] ws.1.1.1.1.1.0 $ ends alloc null_ptr status (record { at = (block_ptr b1 o1); length = text-length }) (record { at = null_ptr; length = json-length }) (block_ptr b3 o3) (block_ptr b4 o4) v x))))))) (λ wrong. absurd wrong)) (λ wrong. absurd wrong))

  -- the path 5
  path-5 : (alloc : Global) (status : ℕ) (text-length : ℕ) (b2 o2 : ℕ) (json-length : ℕ) (b3 o3 : ℕ) (b4 o4 : ℕ) → Typed GlobalRow.mir (global_val alloc ∷ []) → status < 2 ^ 32 → Typed BytesRow.mir (bytes_val (record { at = null_ptr; length = text-length }) ∷ []) → Typed BufferRow.mir (buffer_val (record { at = (block_ptr b2 o2); length = json-length }) ∷ []) → Testable null_ptr → Testable null_ptr → Testable (block_ptr b2 o2) → Testable (block_ptr b3 o3) → Testable (block_ptr b4 o4) → Walk alloc null_ptr status (record { at = null_ptr; length = text-length }) (record { at = (block_ptr b2 o2); length = json-length }) (block_ptr b3 o3) (block_ptr b4 o4)
  path-5 alloc status text-length b2 o2 json-length b3 o3 b4 o4 fits-alloc fits-status fits-text fits-json may-given may-text may-json may-fault may-answer =
      move ! (1 ∷ []) $ fsplit ! $ move ! (1 ∷ []) $ fsplit ! $ move ! (1 ∷ []) $ fsplit ! $ move ! (1 ∷ []) $ fsplit ! $ move ! (1 ∷ []) $ enter ! C Λ code.function (global_val alloc ∷ vnull ∷ vint w32 status ∷ bytes_val (record { at = null_ptr; length = text-length }) ∷ buffer_val (record { at = (block_ptr b2 o2); length = json-length }) ∷ vptr b3 o3 ∷ vptr b4 o4 ∷ []) _ $ alloc_all ! (λ c. pass_all ! refl (fits-alloc.0, ((good 𝓛 null_ptr).0, ((tt, record { fits = fits-status }), (fits-text.0, (fits-json.0, ((good 𝓛 (block_ptr b3 o3)).0, ((good 𝓛 (block_ptr b4 o4)).0, tt))))))) $
      stands ! b3 o3 none (get ! refl) may-fault refl (tt, tt) refl $
      stands ! b4 o4 (there_is _) (get ! refl) may-answer refl (tt, tt) refl $
      compares ! null_ptr (there_is _) (get ! refl) may-given refl (tt, tt) $ closes ! $ branches ! (get ! refl) (λ _.
      compares ! (block_ptr b2 o2) none (get_in ! (fld ! refl (stop !)) (sub ! 0 refl (whole !))) may-json refl (tt, tt) $ hands ! _ _ $ branches ! (get ! refl) (λ wrong. absurd wrong) (λ _.
      compares ! null_ptr none (get_in ! (fld ! refl (stop !)) (sub ! 0 refl (whole !))) may-text refl (tt, tt) $ hands ! _ _ $ branches ! (get ! refl) (λ _. hands ! _ _ $ inside ! _ _ _ $
      sets ! (agg ! (and_then ! (get_in ! (fld ! refl (stop !)) (sub ! 0 refl (whole !))) (and_then ! (get_in ! (fld ! refl (stop !)) (sub ! 1 refl (whole !))) (no_more !)))) refl (tt, (tt, (fits-json.0.1.1.0, tt))) $
      sets ! (addr ! (through ! refl (stop !))) refl (tt, tt) $
      sets ! (addr ! (through ! refl (stop !))) refl (tt, tt) $
      move ! (4 ∷ []) $ drop ! $ move ! (3 ∷ []) $ drop ! $ nothing ! $ move ! (1 ∷ 0 ∷ []) $ fjoin ! $ move ! (1 ∷ 0 ∷ []) $ fjoin ! $ move ! (1 ∷ 0 ∷ []) $ fjoin ! $ owned ! usize _ (uint_Makes 𝓛 w64) text-length _ (refl, fits-text.0.1.1.0.fits) $ fjoin ! $ owned ! u32 _ (uint_Makes 𝓛 w32) status _ (refl, fits-status) $ fjoin ! $ move ! (2 ∷ 0 ∷ []) $ fjoin ! $ nothing ! $ move ! (2 ∷ 0 ∷ []) $ join ! $ join ! $ nothing ! $ move ! (1 ∷ 0 ∷ []) $
      let z : G-5.Ghost = (((l.lifetime, tt), (l.share, tt), tt, (alloc, (status, (text-length, (record { ref_ptr = (b2, o2); ghost_name = l.buffer_name; now = l.buffer }, (record { ref_ptr = (b3, o3); now = l.fault }, (record { ref_ptr = (b4, o4); ghost_name = l.answer_name; now = l.answer }, tt)))))), (global_val alloc ∷ [], (vint w32 status ∷ [], (vint w64 text-length ∷ [], (slice_val (b2, o2) json-length ∷ [], (vptr b3 o3 ∷ [], (vptr b4 o4 ∷ [], tt))))))), tt) in
      use2 𝓛 (raw (G-5.pre z)) (id⊢ 𝓤 _) $ calls_at_last ! fm G-5 known-5 z (and_then ! (get ! refl) (and_then ! (get ! refl) (and_then ! (get_in ! (fld ! refl (stop !)) (sub ! 1 refl (whole !))) (and_then ! (get ! refl) (and_then ! (get ! refl) (and_then ! (get ! refl) (no_more !))))))) (λ v.
      use1 𝓛 (back 𝓛 g-5.ended (g-5.clauses 𝓛 at_mem run) z.0.0 z.0.3 z.1 l.lifetime l.share v) (id⊢ 𝓤 _) $
      await ! tt $ pick ! (λ x. split ! $ move ! (1 ∷ []) $ pick ! (λ ws. split ! $ move ! (1 ∷ []) $ heard ! (of_optional null_ptr (of_buffer (block_ptr b2 o2) json-length l.buffer ws.1.1.1.0 ((ws.1.1.1.1.1.0 ≡ l.answer) × (x ≡ 1)) (λ old new. of_bytes null_ptr text-length l.bytes ((new ≡ old) × ((ws.1.1.1.1.1.0 ≡ l.answer) × (x ≡ 1))) (λ bytes. ReportsSentence status bytes old new l.fault ws.1.1.1.1.1.0 x))) (of_buffer (block_ptr b2 o2) json-length l.buffer ws.1.1.1.0 ((ws.1.1.1.1.1.0 ≡ l.answer) × (x ≡ 1)) (λ old new. of_bytes null_ptr text-length l.bytes ((new ≡ old) × ((ws.1.1.1.1.1.0 ≡ l.answer) × (x ≡ 1))) (λ bytes. ReportsSentenceFor l.handle status bytes old new l.fault ws.1.1.1.1.1.0 x)))) (λ reports.
      fsplit ! $ drop ! $ fsplit ! $ drop ! $ fsplit ! $ drop ! $ fsplit ! $ move ! (1 ∷ []) $ fsplit ! $ drop ! $ fsplit ! $ move ! (1 ∷ []) $ drop ! $ move ! (2 ∷ []) $ split ! $ split ! $ move ! (2 ∷ []) $ peeks ! u32 (Is u32) (shows 𝓛 u32) x (v ∷ []) (λ is. let fine = ((uint_Lawful 𝓛 w32).typed x _ is).0 in
      ends3 ! C Λ _ _ _ _ fine fine fine fine fine refl refl refl refl refl refl refl refl refl refl $ free_all ! refl $ keep ! (3 ∷ 4 ∷ 0 ∷ 1 ∷ []) $
      hold ! reports $ move ! (1 ∷ 0 ∷ []) $ fjoin ! $ move ! (1 ∷ 0 ∷ []) $ fjoin ! $
      fpack2 ! (List ℕ) Answer (λ json' answer'. fsep (left_buffer l (record { at = (block_ptr b2 o2); length = json-length }) json') (fsep (left_answer l (block_ptr b4 o4) answer') (holds (of_optional null_ptr (of_buffer (block_ptr b2 o2) json-length l.buffer json' ((answer' ≡ l.answer) × (x ≡ 1)) (λ old new. of_bytes null_ptr text-length l.bytes ((new ≡ old) × ((answer' ≡ l.answer) × (x ≡ 1))) (λ bytes. ReportsSentence status bytes old new l.fault answer' x))) (of_buffer (block_ptr b2 o2) json-length l.buffer json' ((answer' ≡ l.answer) × (x ≡ 1)) (λ old new. of_bytes null_ptr text-length l.bytes ((new ≡ old) × ((answer' ≡ l.answer) × (x ≡ 1))) (λ bytes. ReportsSentenceFor l.handle status bytes old new l.fault answer' x))))))) ws.1.1.1.0 ws.1.1.1.1.1.0 $ ends alloc null_ptr status (record { at = null_ptr; length = text-length }) (record { at = (block_ptr b2 o2); length = json-length }) (block_ptr b3 o3) (block_ptr b4 o4) v x)))))) (λ wrong. absurd wrong))) (λ wrong. absurd wrong))

  -- the path 4
  path-4 : (alloc : Global) (status : ℕ) (b1 o1 : ℕ) (text-length : ℕ) (b2 o2 : ℕ) (json-length : ℕ) (b3 o3 : ℕ) (b4 o4 : ℕ) → Typed GlobalRow.mir (global_val alloc ∷ []) → status < 2 ^ 32 → Typed BytesRow.mir (bytes_val (record { at = (block_ptr b1 o1); length = text-length }) ∷ []) → Typed BufferRow.mir (buffer_val (record { at = (block_ptr b2 o2); length = json-length }) ∷ []) → Testable null_ptr → Testable (block_ptr b1 o1) → Testable (block_ptr b2 o2) → Testable (block_ptr b3 o3) → Testable (block_ptr b4 o4) → Walk alloc null_ptr status (record { at = (block_ptr b1 o1); length = text-length }) (record { at = (block_ptr b2 o2); length = json-length }) (block_ptr b3 o3) (block_ptr b4 o4)
  path-4 alloc status b1 o1 text-length b2 o2 json-length b3 o3 b4 o4 fits-alloc fits-status fits-text fits-json may-given may-text may-json may-fault may-answer =
      move ! (1 ∷ []) $ fsplit ! $ move ! (1 ∷ []) $ fsplit ! $ move ! (1 ∷ []) $ fsplit ! $ move ! (1 ∷ []) $ fsplit ! $ move ! (1 ∷ []) $ enter ! C Λ code.function (global_val alloc ∷ vnull ∷ vint w32 status ∷ bytes_val (record { at = (block_ptr b1 o1); length = text-length }) ∷ buffer_val (record { at = (block_ptr b2 o2); length = json-length }) ∷ vptr b3 o3 ∷ vptr b4 o4 ∷ []) _ $ alloc_all ! (λ c. pass_all ! refl (fits-alloc.0, ((good 𝓛 null_ptr).0, ((tt, record { fits = fits-status }), (fits-text.0, (fits-json.0, ((good 𝓛 (block_ptr b3 o3)).0, ((good 𝓛 (block_ptr b4 o4)).0, tt))))))) $
      stands ! b3 o3 none (get ! refl) may-fault refl (tt, tt) refl $
      stands ! b4 o4 (there_is _) (get ! refl) may-answer refl (tt, tt) refl $
      compares ! null_ptr (there_is _) (get ! refl) may-given refl (tt, tt) $ closes ! $ branches ! (get ! refl) (λ _.
      compares ! (block_ptr b2 o2) none (get_in ! (fld ! refl (stop !)) (sub ! 0 refl (whole !))) may-json refl (tt, tt) $ hands ! _ _ $ branches ! (get ! refl) (λ wrong. absurd wrong) (λ _.
      compares ! (block_ptr b1 o1) none (get_in ! (fld ! refl (stop !)) (sub ! 0 refl (whole !))) may-text refl (tt, tt) $ hands ! _ _ $ branches ! (get ! refl) (λ wrong. absurd wrong) (λ _. hands ! _ _ $ inside ! _ _ _ $
      sets ! (agg ! (and_then ! (get_in ! (fld ! refl (stop !)) (sub ! 0 refl (whole !))) (and_then ! (get_in ! (fld ! refl (stop !)) (sub ! 1 refl (whole !))) (no_more !)))) refl (tt, (tt, (fits-text.0.1.1.0, tt))) $
      sets ! (agg ! (and_then ! (get_in ! (fld ! refl (stop !)) (sub ! 0 refl (whole !))) (and_then ! (get_in ! (fld ! refl (stop !)) (sub ! 1 refl (whole !))) (no_more !)))) refl (tt, (tt, (fits-json.0.1.1.0, tt))) $
      sets ! (addr ! (through ! refl (stop !))) refl (tt, tt) $
      sets ! (addr ! (through ! refl (stop !))) refl (tt, tt) $
      move ! (4 ∷ []) $ drop ! $ nothing ! $ move ! (1 ∷ 0 ∷ []) $ fjoin ! $ move ! (1 ∷ 0 ∷ []) $ fjoin ! $ move ! (1 ∷ 0 ∷ []) $ fjoin ! $ move ! (1 ∷ 0 ∷ []) $ fjoin ! $ owned ! u32 _ (uint_Makes 𝓛 w32) status _ (refl, fits-status) $ fjoin ! $ move ! (2 ∷ 0 ∷ []) $ fjoin ! $ nothing ! $ move ! (2 ∷ 0 ∷ []) $ join ! $ join ! $ nothing ! $ move ! (1 ∷ 0 ∷ []) $
      let z : G-4.Ghost = (((l.lifetime, tt), (l.share, tt), tt, (alloc, (status, (record { ref_ptr = (b1, o1); now = l.bytes }, (record { ref_ptr = (b2, o2); ghost_name = l.buffer_name; now = l.buffer }, (record { ref_ptr = (b3, o3); now = l.fault }, (record { ref_ptr = (b4, o4); ghost_name = l.answer_name; now = l.answer }, tt)))))), (global_val alloc ∷ [], (vint w32 status ∷ [], (slice_val (b1, o1) text-length ∷ [], (slice_val (b2, o2) json-length ∷ [], (vptr b3 o3 ∷ [], (vptr b4 o4 ∷ [], tt))))))), tt) in
      use2 𝓛 (raw (G-4.pre z)) (id⊢ 𝓤 _) $ calls_at_last ! fm G-4 known-4 z (and_then ! (get ! refl) (and_then ! (get ! refl) (and_then ! (get ! refl) (and_then ! (get ! refl) (and_then ! (get ! refl) (and_then ! (get ! refl) (no_more !))))))) (λ v.
      use1 𝓛 (back 𝓛 g-4.ended (g-4.clauses 𝓛 at_mem run) z.0.0 z.0.3 z.1 l.lifetime l.share v) (id⊢ 𝓤 _) $
      await ! tt $ pick ! (λ x. split ! $ move ! (1 ∷ []) $ pick ! (λ ws. split ! $ move ! (1 ∷ []) $ heard ! (of_optional null_ptr (of_buffer (block_ptr b2 o2) json-length l.buffer ws.1.1.1.0 ((ws.1.1.1.1.1.0 ≡ l.answer) × (x ≡ 1)) (λ old new. of_bytes (block_ptr b1 o1) text-length l.bytes ((new ≡ old) × ((ws.1.1.1.1.1.0 ≡ l.answer) × (x ≡ 1))) (λ bytes. ReportsSentence status bytes old new l.fault ws.1.1.1.1.1.0 x))) (of_buffer (block_ptr b2 o2) json-length l.buffer ws.1.1.1.0 ((ws.1.1.1.1.1.0 ≡ l.answer) × (x ≡ 1)) (λ old new. of_bytes (block_ptr b1 o1) text-length l.bytes ((new ≡ old) × ((ws.1.1.1.1.1.0 ≡ l.answer) × (x ≡ 1))) (λ bytes. ReportsSentenceFor l.handle status bytes old new l.fault ws.1.1.1.1.1.0 x)))) (λ reports.
      fsplit ! $ drop ! $ fsplit ! $ drop ! $ fsplit ! $ drop ! $ fsplit ! $ move ! (1 ∷ []) $ fsplit ! $ drop ! $ fsplit ! $ move ! (1 ∷ []) $ drop ! $ move ! (2 ∷ []) $ split ! $ split ! $ move ! (2 ∷ []) $ peeks ! u32 (Is u32) (shows 𝓛 u32) x (v ∷ []) (λ is. let fine = ((uint_Lawful 𝓛 w32).typed x _ is).0 in
      ends3 ! C Λ _ _ _ _ fine fine fine fine fine refl refl refl refl refl refl refl refl refl refl $ free_all ! refl $ keep ! (3 ∷ 4 ∷ 0 ∷ 1 ∷ []) $
      hold ! reports $ move ! (1 ∷ 0 ∷ []) $ fjoin ! $ move ! (1 ∷ 0 ∷ []) $ fjoin ! $
      fpack2 ! (List ℕ) Answer (λ json' answer'. fsep (left_buffer l (record { at = (block_ptr b2 o2); length = json-length }) json') (fsep (left_answer l (block_ptr b4 o4) answer') (holds (of_optional null_ptr (of_buffer (block_ptr b2 o2) json-length l.buffer json' ((answer' ≡ l.answer) × (x ≡ 1)) (λ old new. of_bytes (block_ptr b1 o1) text-length l.bytes ((new ≡ old) × ((answer' ≡ l.answer) × (x ≡ 1))) (λ bytes. ReportsSentence status bytes old new l.fault answer' x))) (of_buffer (block_ptr b2 o2) json-length l.buffer json' ((answer' ≡ l.answer) × (x ≡ 1)) (λ old new. of_bytes (block_ptr b1 o1) text-length l.bytes ((new ≡ old) × ((answer' ≡ l.answer) × (x ≡ 1))) (λ bytes. ReportsSentenceFor l.handle status bytes old new l.fault answer' x))))))) ws.1.1.1.0 ws.1.1.1.1.1.0 $ ends alloc null_ptr status (record { at = (block_ptr b1 o1); length = text-length }) (record { at = (block_ptr b2 o2); length = json-length }) (block_ptr b3 o3) (block_ptr b4 o4) v x)))))))) (λ wrong. absurd wrong))

  -- the path 3
  path-3 : (alloc : Global) (b0 o0 : ℕ) (status : ℕ) (text-length : ℕ) (json-length : ℕ) (b3 o3 : ℕ) (b4 o4 : ℕ) → Typed GlobalRow.mir (global_val alloc ∷ []) → status < 2 ^ 32 → Typed BytesRow.mir (bytes_val (record { at = null_ptr; length = text-length }) ∷ []) → Typed BufferRow.mir (buffer_val (record { at = null_ptr; length = json-length }) ∷ []) → Testable (block_ptr b0 o0) → Testable null_ptr → Testable null_ptr → Testable (block_ptr b3 o3) → Testable (block_ptr b4 o4) → Walk alloc (block_ptr b0 o0) status (record { at = null_ptr; length = text-length }) (record { at = null_ptr; length = json-length }) (block_ptr b3 o3) (block_ptr b4 o4)
  path-3 alloc b0 o0 status text-length json-length b3 o3 b4 o4 fits-alloc fits-status fits-text fits-json may-given may-text may-json may-fault may-answer =
      move ! (1 ∷ []) $ fsplit ! $ move ! (1 ∷ []) $ fsplit ! $ move ! (1 ∷ []) $ fsplit ! $ move ! (1 ∷ []) $ fsplit ! $ move ! (1 ∷ []) $ enter ! C Λ code.function (global_val alloc ∷ vptr b0 o0 ∷ vint w32 status ∷ bytes_val (record { at = null_ptr; length = text-length }) ∷ buffer_val (record { at = null_ptr; length = json-length }) ∷ vptr b3 o3 ∷ vptr b4 o4 ∷ []) _ $ alloc_all ! (λ c. pass_all ! refl (fits-alloc.0, ((good 𝓛 (block_ptr b0 o0)).0, ((tt, record { fits = fits-status }), (fits-text.0, (fits-json.0, ((good 𝓛 (block_ptr b3 o3)).0, ((good 𝓛 (block_ptr b4 o4)).0, tt))))))) $
      stands ! b3 o3 none (get ! refl) may-fault refl (tt, tt) refl $
      stands ! b4 o4 (there_is _) (get ! refl) may-answer refl (tt, tt) refl $
      compares ! (block_ptr b0 o0) (there_is _) (get ! refl) may-given refl (tt, tt) $ closes ! $ branches ! (get ! refl) (λ wrong. absurd wrong) (λ _.
      compares ! null_ptr none (get_in ! (fld ! refl (stop !)) (sub ! 0 refl (whole !))) may-json refl (tt, tt) $ hands ! _ _ $ branches ! (get ! refl) (λ _.
      compares ! null_ptr none (get_in ! (fld ! refl (stop !)) (sub ! 0 refl (whole !))) may-text refl (tt, tt) $ hands ! _ _ $ branches ! (get ! refl) (λ _. hands ! _ _ $ inside ! _ _ _ $
      sets ! (of_opd ! (get ! refl)) refl (tt, tt) $ sets ! (addr ! (through ! refl (stop !))) refl (tt, tt) $
      sets ! (addr ! (through ! refl (stop !))) refl (tt, tt) $
      sets ! (addr ! (through ! refl (stop !))) refl (tt, tt) $
      move ! (2 ∷ []) $ drop ! $ move ! (2 ∷ []) $ drop ! $ nothing ! $ move ! (1 ∷ 0 ∷ []) $ fjoin ! $ move ! (1 ∷ 0 ∷ []) $ fjoin ! $ owned ! usize _ (uint_Makes 𝓛 w64) json-length _ (refl, fits-json.0.1.1.0.fits) $ fjoin ! $ owned ! usize _ (uint_Makes 𝓛 w64) text-length _ (refl, fits-text.0.1.1.0.fits) $ fjoin ! $ owned ! u32 _ (uint_Makes 𝓛 w32) status _ (refl, fits-status) $ fjoin ! $ move ! (1 ∷ 0 ∷ []) $ fjoin ! $ move ! (2 ∷ 0 ∷ []) $ fjoin ! $ nothing ! $ move ! (2 ∷ 0 ∷ []) $ join ! $ join ! $ nothing ! $ move ! (1 ∷ 0 ∷ []) $
      let z : G-3.Ghost = (((l.lifetime, tt), (l.share, tt), tt, (alloc, (record { ref_ptr = (b0, o0); now = l.handle }, (status, (text-length, (json-length, (record { ref_ptr = (b3, o3); now = l.fault }, (record { ref_ptr = (b4, o4); ghost_name = l.answer_name; now = l.answer }, tt))))))), (global_val alloc ∷ [], (vptr b0 o0 ∷ [], (vint w32 status ∷ [], (vint w64 text-length ∷ [], (vint w64 json-length ∷ [], (vptr b3 o3 ∷ [], (vptr b4 o4 ∷ [], tt)))))))), tt) in
      use2 𝓛 (raw (G-3.pre z)) (id⊢ 𝓤 _) $ calls_at_last ! fm G-3 known-3 z (and_then ! (get ! refl) (and_then ! (get ! refl) (and_then ! (get ! refl) (and_then ! (get_in ! (fld ! refl (stop !)) (sub ! 1 refl (whole !))) (and_then ! (get_in ! (fld ! refl (stop !)) (sub ! 1 refl (whole !))) (and_then ! (get ! refl) (and_then ! (get ! refl) (no_more !)))))))) (λ v.
      use1 𝓛 (back 𝓛 g-3.ended (g-3.clauses 𝓛 at_mem run) z.0.0 z.0.3 z.1 l.lifetime l.share v) (id⊢ 𝓤 _) $
      await ! tt $ pick ! (λ x. split ! $ move ! (1 ∷ []) $ pick ! (λ ws. split ! $ move ! (1 ∷ []) $ heard ! (of_optional (block_ptr b0 o0) (of_buffer null_ptr json-length l.buffer [] ((ws.1.1.1.1.1.1.0 ≡ l.answer) × (x ≡ 1)) (λ old new. of_bytes null_ptr text-length l.bytes ((new ≡ old) × ((ws.1.1.1.1.1.1.0 ≡ l.answer) × (x ≡ 1))) (λ bytes. ReportsSentence status bytes old new l.fault ws.1.1.1.1.1.1.0 x))) (of_buffer null_ptr json-length l.buffer [] ((ws.1.1.1.1.1.1.0 ≡ l.answer) × (x ≡ 1)) (λ old new. of_bytes null_ptr text-length l.bytes ((new ≡ old) × ((ws.1.1.1.1.1.1.0 ≡ l.answer) × (x ≡ 1))) (λ bytes. ReportsSentenceFor l.handle status bytes old new l.fault ws.1.1.1.1.1.1.0 x)))) (λ reports.
      fsplit ! $ drop ! $ fsplit ! $ drop ! $ fsplit ! $ drop ! $ fsplit ! $ drop ! $ fsplit ! $ drop ! $ fsplit ! $ drop ! $ fsplit ! $ move ! (1 ∷ []) $ drop ! $ move ! (1 ∷ []) $ split ! $ split ! $ move ! (2 ∷ []) $ peeks ! u32 (Is u32) (shows 𝓛 u32) x (v ∷ []) (λ is. let fine = ((uint_Lawful 𝓛 w32).typed x _ is).0 in
      ends3 ! C Λ _ _ _ _ fine fine fine fine fine refl refl refl refl refl refl refl refl refl refl $ free_all ! refl $ keep ! (3 ∷ 0 ∷ 1 ∷ []) $
      hold ! reports $ move ! (1 ∷ 0 ∷ []) $ fjoin ! $ nothing ! $ fjoin ! $
      fpack2 ! (List ℕ) Answer (λ json' answer'. fsep (left_buffer l (record { at = null_ptr; length = json-length }) json') (fsep (left_answer l (block_ptr b4 o4) answer') (holds (of_optional (block_ptr b0 o0) (of_buffer null_ptr json-length l.buffer json' ((answer' ≡ l.answer) × (x ≡ 1)) (λ old new. of_bytes null_ptr text-length l.bytes ((new ≡ old) × ((answer' ≡ l.answer) × (x ≡ 1))) (λ bytes. ReportsSentence status bytes old new l.fault answer' x))) (of_buffer null_ptr json-length l.buffer json' ((answer' ≡ l.answer) × (x ≡ 1)) (λ old new. of_bytes null_ptr text-length l.bytes ((new ≡ old) × ((answer' ≡ l.answer) × (x ≡ 1))) (λ bytes. ReportsSentenceFor l.handle status bytes old new l.fault answer' x))))))) [] ws.1.1.1.1.1.1.0 $ ends alloc (block_ptr b0 o0) status (record { at = null_ptr; length = text-length }) (record { at = null_ptr; length = json-length }) (block_ptr b3 o3) (block_ptr b4 o4) v x)))))) (λ wrong. absurd wrong)) (λ wrong. absurd wrong)))

  -- the path 2
  path-2 : (alloc : Global) (b0 o0 : ℕ) (status : ℕ) (b1 o1 : ℕ) (text-length : ℕ) (json-length : ℕ) (b3 o3 : ℕ) (b4 o4 : ℕ) → Typed GlobalRow.mir (global_val alloc ∷ []) → status < 2 ^ 32 → Typed BytesRow.mir (bytes_val (record { at = (block_ptr b1 o1); length = text-length }) ∷ []) → Typed BufferRow.mir (buffer_val (record { at = null_ptr; length = json-length }) ∷ []) → Testable (block_ptr b0 o0) → Testable (block_ptr b1 o1) → Testable null_ptr → Testable (block_ptr b3 o3) → Testable (block_ptr b4 o4) → Walk alloc (block_ptr b0 o0) status (record { at = (block_ptr b1 o1); length = text-length }) (record { at = null_ptr; length = json-length }) (block_ptr b3 o3) (block_ptr b4 o4)
  path-2 alloc b0 o0 status b1 o1 text-length json-length b3 o3 b4 o4 fits-alloc fits-status fits-text fits-json may-given may-text may-json may-fault may-answer =
      move ! (1 ∷ []) $ fsplit ! $ move ! (1 ∷ []) $ fsplit ! $ move ! (1 ∷ []) $ fsplit ! $ move ! (1 ∷ []) $ fsplit ! $ move ! (1 ∷ []) $ enter ! C Λ code.function (global_val alloc ∷ vptr b0 o0 ∷ vint w32 status ∷ bytes_val (record { at = (block_ptr b1 o1); length = text-length }) ∷ buffer_val (record { at = null_ptr; length = json-length }) ∷ vptr b3 o3 ∷ vptr b4 o4 ∷ []) _ $ alloc_all ! (λ c. pass_all ! refl (fits-alloc.0, ((good 𝓛 (block_ptr b0 o0)).0, ((tt, record { fits = fits-status }), (fits-text.0, (fits-json.0, ((good 𝓛 (block_ptr b3 o3)).0, ((good 𝓛 (block_ptr b4 o4)).0, tt))))))) $
      stands ! b3 o3 none (get ! refl) may-fault refl (tt, tt) refl $
      stands ! b4 o4 (there_is _) (get ! refl) may-answer refl (tt, tt) refl $
      compares ! (block_ptr b0 o0) (there_is _) (get ! refl) may-given refl (tt, tt) $ closes ! $ branches ! (get ! refl) (λ wrong. absurd wrong) (λ _.
      compares ! null_ptr none (get_in ! (fld ! refl (stop !)) (sub ! 0 refl (whole !))) may-json refl (tt, tt) $ hands ! _ _ $ branches ! (get ! refl) (λ _.
      compares ! (block_ptr b1 o1) none (get_in ! (fld ! refl (stop !)) (sub ! 0 refl (whole !))) may-text refl (tt, tt) $ hands ! _ _ $ branches ! (get ! refl) (λ wrong. absurd wrong) (λ _. hands ! _ _ $ inside ! _ _ _ $
      sets ! (of_opd ! (get ! refl)) refl (tt, tt) $ sets ! (addr ! (through ! refl (stop !))) refl (tt, tt) $
      sets ! (agg ! (and_then ! (get_in ! (fld ! refl (stop !)) (sub ! 0 refl (whole !))) (and_then ! (get_in ! (fld ! refl (stop !)) (sub ! 1 refl (whole !))) (no_more !)))) refl (tt, (tt, (fits-text.0.1.1.0, tt))) $
      sets ! (addr ! (through ! refl (stop !))) refl (tt, tt) $
      sets ! (addr ! (through ! refl (stop !))) refl (tt, tt) $
      move ! (2 ∷ []) $ drop ! $ nothing ! $ move ! (1 ∷ 0 ∷ []) $ fjoin ! $ move ! (1 ∷ 0 ∷ []) $ fjoin ! $ owned ! usize _ (uint_Makes 𝓛 w64) json-length _ (refl, fits-json.0.1.1.0.fits) $ fjoin ! $ move ! (1 ∷ 0 ∷ []) $ fjoin ! $ owned ! u32 _ (uint_Makes 𝓛 w32) status _ (refl, fits-status) $ fjoin ! $ move ! (1 ∷ 0 ∷ []) $ fjoin ! $ move ! (2 ∷ 0 ∷ []) $ fjoin ! $ nothing ! $ move ! (2 ∷ 0 ∷ []) $ join ! $ join ! $ nothing ! $ move ! (1 ∷ 0 ∷ []) $
      let z : G-2.Ghost = (((l.lifetime, tt), (l.share, tt), tt, (alloc, (record { ref_ptr = (b0, o0); now = l.handle }, (status, (record { ref_ptr = (b1, o1); now = l.bytes }, (json-length, (record { ref_ptr = (b3, o3); now = l.fault }, (record { ref_ptr = (b4, o4); ghost_name = l.answer_name; now = l.answer }, tt))))))), (global_val alloc ∷ [], (vptr b0 o0 ∷ [], (vint w32 status ∷ [], (slice_val (b1, o1) text-length ∷ [], (vint w64 json-length ∷ [], (vptr b3 o3 ∷ [], (vptr b4 o4 ∷ [], tt)))))))), tt) in
      use2 𝓛 (raw (G-2.pre z)) (id⊢ 𝓤 _) $ calls_at_last ! fm G-2 known-2 z (and_then ! (get ! refl) (and_then ! (get ! refl) (and_then ! (get ! refl) (and_then ! (get ! refl) (and_then ! (get_in ! (fld ! refl (stop !)) (sub ! 1 refl (whole !))) (and_then ! (get ! refl) (and_then ! (get ! refl) (no_more !)))))))) (λ v.
      use1 𝓛 (back 𝓛 g-2.ended (g-2.clauses 𝓛 at_mem run) z.0.0 z.0.3 z.1 l.lifetime l.share v) (id⊢ 𝓤 _) $
      await ! tt $ pick ! (λ x. split ! $ move ! (1 ∷ []) $ pick ! (λ ws. split ! $ move ! (1 ∷ []) $ heard ! (of_optional (block_ptr b0 o0) (of_buffer null_ptr json-length l.buffer [] ((ws.1.1.1.1.1.1.0 ≡ l.answer) × (x ≡ 1)) (λ old new. of_bytes (block_ptr b1 o1) text-length l.bytes ((new ≡ old) × ((ws.1.1.1.1.1.1.0 ≡ l.answer) × (x ≡ 1))) (λ bytes. ReportsSentence status bytes old new l.fault ws.1.1.1.1.1.1.0 x))) (of_buffer null_ptr json-length l.buffer [] ((ws.1.1.1.1.1.1.0 ≡ l.answer) × (x ≡ 1)) (λ old new. of_bytes (block_ptr b1 o1) text-length l.bytes ((new ≡ old) × ((ws.1.1.1.1.1.1.0 ≡ l.answer) × (x ≡ 1))) (λ bytes. ReportsSentenceFor l.handle status bytes old new l.fault ws.1.1.1.1.1.1.0 x)))) (λ reports.
      fsplit ! $ drop ! $ fsplit ! $ drop ! $ fsplit ! $ drop ! $ fsplit ! $ drop ! $ fsplit ! $ drop ! $ fsplit ! $ drop ! $ fsplit ! $ move ! (1 ∷ []) $ drop ! $ move ! (1 ∷ []) $ split ! $ split ! $ move ! (2 ∷ []) $ peeks ! u32 (Is u32) (shows 𝓛 u32) x (v ∷ []) (λ is. let fine = ((uint_Lawful 𝓛 w32).typed x _ is).0 in
      ends3 ! C Λ _ _ _ _ fine fine fine fine fine refl refl refl refl refl refl refl refl refl refl $ free_all ! refl $ keep ! (3 ∷ 0 ∷ 1 ∷ []) $
      hold ! reports $ move ! (1 ∷ 0 ∷ []) $ fjoin ! $ nothing ! $ fjoin ! $
      fpack2 ! (List ℕ) Answer (λ json' answer'. fsep (left_buffer l (record { at = null_ptr; length = json-length }) json') (fsep (left_answer l (block_ptr b4 o4) answer') (holds (of_optional (block_ptr b0 o0) (of_buffer null_ptr json-length l.buffer json' ((answer' ≡ l.answer) × (x ≡ 1)) (λ old new. of_bytes (block_ptr b1 o1) text-length l.bytes ((new ≡ old) × ((answer' ≡ l.answer) × (x ≡ 1))) (λ bytes. ReportsSentence status bytes old new l.fault answer' x))) (of_buffer null_ptr json-length l.buffer json' ((answer' ≡ l.answer) × (x ≡ 1)) (λ old new. of_bytes (block_ptr b1 o1) text-length l.bytes ((new ≡ old) × ((answer' ≡ l.answer) × (x ≡ 1))) (λ bytes. ReportsSentenceFor l.handle status bytes old new l.fault answer' x))))))) [] ws.1.1.1.1.1.1.0 $ ends alloc (block_ptr b0 o0) status (record { at = (block_ptr b1 o1); length = text-length }) (record { at = null_ptr; length = json-length }) (block_ptr b3 o3) (block_ptr b4 o4) v x))))))) (λ wrong. absurd wrong)))

  -- the path 1
  path-1 : (alloc : Global) (b0 o0 : ℕ) (status : ℕ) (text-length : ℕ) (b2 o2 : ℕ) (json-length : ℕ) (b3 o3 : ℕ) (b4 o4 : ℕ) → Typed GlobalRow.mir (global_val alloc ∷ []) → status < 2 ^ 32 → Typed BytesRow.mir (bytes_val (record { at = null_ptr; length = text-length }) ∷ []) → Typed BufferRow.mir (buffer_val (record { at = (block_ptr b2 o2); length = json-length }) ∷ []) → Testable (block_ptr b0 o0) → Testable null_ptr → Testable (block_ptr b2 o2) → Testable (block_ptr b3 o3) → Testable (block_ptr b4 o4) → Walk alloc (block_ptr b0 o0) status (record { at = null_ptr; length = text-length }) (record { at = (block_ptr b2 o2); length = json-length }) (block_ptr b3 o3) (block_ptr b4 o4)
  path-1 alloc b0 o0 status text-length b2 o2 json-length b3 o3 b4 o4 fits-alloc fits-status fits-text fits-json may-given may-text may-json may-fault may-answer =
      move ! (1 ∷ []) $ fsplit ! $ move ! (1 ∷ []) $ fsplit ! $ move ! (1 ∷ []) $ fsplit ! $ move ! (1 ∷ []) $ fsplit ! $ move ! (1 ∷ []) $ enter ! C Λ code.function (global_val alloc ∷ vptr b0 o0 ∷ vint w32 status ∷ bytes_val (record { at = null_ptr; length = text-length }) ∷ buffer_val (record { at = (block_ptr b2 o2); length = json-length }) ∷ vptr b3 o3 ∷ vptr b4 o4 ∷ []) _ $ alloc_all ! (λ c. pass_all ! refl (fits-alloc.0, ((good 𝓛 (block_ptr b0 o0)).0, ((tt, record { fits = fits-status }), (fits-text.0, (fits-json.0, ((good 𝓛 (block_ptr b3 o3)).0, ((good 𝓛 (block_ptr b4 o4)).0, tt))))))) $
      stands ! b3 o3 none (get ! refl) may-fault refl (tt, tt) refl $
      stands ! b4 o4 (there_is _) (get ! refl) may-answer refl (tt, tt) refl $
      compares ! (block_ptr b0 o0) (there_is _) (get ! refl) may-given refl (tt, tt) $ closes ! $ branches ! (get ! refl) (λ wrong. absurd wrong) (λ _.
      compares ! (block_ptr b2 o2) none (get_in ! (fld ! refl (stop !)) (sub ! 0 refl (whole !))) may-json refl (tt, tt) $ hands ! _ _ $ branches ! (get ! refl) (λ wrong. absurd wrong) (λ _.
      compares ! null_ptr none (get_in ! (fld ! refl (stop !)) (sub ! 0 refl (whole !))) may-text refl (tt, tt) $ hands ! _ _ $ branches ! (get ! refl) (λ _. hands ! _ _ $ inside ! _ _ _ $
      sets ! (of_opd ! (get ! refl)) refl (tt, tt) $ sets ! (addr ! (through ! refl (stop !))) refl (tt, tt) $
      sets ! (agg ! (and_then ! (get_in ! (fld ! refl (stop !)) (sub ! 0 refl (whole !))) (and_then ! (get_in ! (fld ! refl (stop !)) (sub ! 1 refl (whole !))) (no_more !)))) refl (tt, (tt, (fits-json.0.1.1.0, tt))) $
      sets ! (addr ! (through ! refl (stop !))) refl (tt, tt) $
      sets ! (addr ! (through ! refl (stop !))) refl (tt, tt) $
      move ! (3 ∷ []) $ drop ! $ nothing ! $ move ! (1 ∷ 0 ∷ []) $ fjoin ! $ move ! (1 ∷ 0 ∷ []) $ fjoin ! $ move ! (1 ∷ 0 ∷ []) $ fjoin ! $ owned ! usize _ (uint_Makes 𝓛 w64) text-length _ (refl, fits-text.0.1.1.0.fits) $ fjoin ! $ owned ! u32 _ (uint_Makes 𝓛 w32) status _ (refl, fits-status) $ fjoin ! $ move ! (1 ∷ 0 ∷ []) $ fjoin ! $ move ! (2 ∷ 0 ∷ []) $ fjoin ! $ nothing ! $ move ! (2 ∷ 0 ∷ []) $ join ! $ join ! $ nothing ! $ move ! (1 ∷ 0 ∷ []) $
      let z : G-1.Ghost = (((l.lifetime, tt), (l.share, tt), tt, (alloc, (record { ref_ptr = (b0, o0); now = l.handle }, (status, (text-length, (record { ref_ptr = (b2, o2); ghost_name = l.buffer_name; now = l.buffer }, (record { ref_ptr = (b3, o3); now = l.fault }, (record { ref_ptr = (b4, o4); ghost_name = l.answer_name; now = l.answer }, tt))))))), (global_val alloc ∷ [], (vptr b0 o0 ∷ [], (vint w32 status ∷ [], (vint w64 text-length ∷ [], (slice_val (b2, o2) json-length ∷ [], (vptr b3 o3 ∷ [], (vptr b4 o4 ∷ [], tt)))))))), tt) in
      use2 𝓛 (raw (G-1.pre z)) (id⊢ 𝓤 _) $ calls_at_last ! fm G-1 known-1 z (and_then ! (get ! refl) (and_then ! (get ! refl) (and_then ! (get ! refl) (and_then ! (get_in ! (fld ! refl (stop !)) (sub ! 1 refl (whole !))) (and_then ! (get ! refl) (and_then ! (get ! refl) (and_then ! (get ! refl) (no_more !)))))))) (λ v.
      use1 𝓛 (back 𝓛 g-1.ended (g-1.clauses 𝓛 at_mem run) z.0.0 z.0.3 z.1 l.lifetime l.share v) (id⊢ 𝓤 _) $
      await ! tt $ pick ! (λ x. split ! $ move ! (1 ∷ []) $ pick ! (λ ws. split ! $ move ! (1 ∷ []) $ heard ! (of_optional (block_ptr b0 o0) (of_buffer (block_ptr b2 o2) json-length l.buffer ws.1.1.1.1.0 ((ws.1.1.1.1.1.1.0 ≡ l.answer) × (x ≡ 1)) (λ old new. of_bytes null_ptr text-length l.bytes ((new ≡ old) × ((ws.1.1.1.1.1.1.0 ≡ l.answer) × (x ≡ 1))) (λ bytes. ReportsSentence status bytes old new l.fault ws.1.1.1.1.1.1.0 x))) (of_buffer (block_ptr b2 o2) json-length l.buffer ws.1.1.1.1.0 ((ws.1.1.1.1.1.1.0 ≡ l.answer) × (x ≡ 1)) (λ old new. of_bytes null_ptr text-length l.bytes ((new ≡ old) × ((ws.1.1.1.1.1.1.0 ≡ l.answer) × (x ≡ 1))) (λ bytes. ReportsSentenceFor l.handle status bytes old new l.fault ws.1.1.1.1.1.1.0 x)))) (λ reports.
      fsplit ! $ drop ! $ fsplit ! $ drop ! $ fsplit ! $ drop ! $ fsplit ! $ drop ! $ fsplit ! $ move ! (1 ∷ []) $ fsplit ! $ drop ! $ fsplit ! $ move ! (1 ∷ []) $ drop ! $ move ! (2 ∷ []) $ split ! $ split ! $ move ! (2 ∷ []) $ peeks ! u32 (Is u32) (shows 𝓛 u32) x (v ∷ []) (λ is. let fine = ((uint_Lawful 𝓛 w32).typed x _ is).0 in
      ends3 ! C Λ _ _ _ _ fine fine fine fine fine refl refl refl refl refl refl refl refl refl refl $ free_all ! refl $ keep ! (3 ∷ 4 ∷ 0 ∷ 1 ∷ []) $
      hold ! reports $ move ! (1 ∷ 0 ∷ []) $ fjoin ! $ move ! (1 ∷ 0 ∷ []) $ fjoin ! $
      fpack2 ! (List ℕ) Answer (λ json' answer'. fsep (left_buffer l (record { at = (block_ptr b2 o2); length = json-length }) json') (fsep (left_answer l (block_ptr b4 o4) answer') (holds (of_optional (block_ptr b0 o0) (of_buffer (block_ptr b2 o2) json-length l.buffer json' ((answer' ≡ l.answer) × (x ≡ 1)) (λ old new. of_bytes null_ptr text-length l.bytes ((new ≡ old) × ((answer' ≡ l.answer) × (x ≡ 1))) (λ bytes. ReportsSentence status bytes old new l.fault answer' x))) (of_buffer (block_ptr b2 o2) json-length l.buffer json' ((answer' ≡ l.answer) × (x ≡ 1)) (λ old new. of_bytes null_ptr text-length l.bytes ((new ≡ old) × ((answer' ≡ l.answer) × (x ≡ 1))) (λ bytes. ReportsSentenceFor l.handle status bytes old new l.fault answer' x))))))) ws.1.1.1.1.0 ws.1.1.1.1.1.1.0 $ ends alloc (block_ptr b0 o0) status (record { at = null_ptr; length = text-length }) (record { at = (block_ptr b2 o2); length = json-length }) (block_ptr b3 o3) (block_ptr b4 o4) v x)))))) (λ wrong. absurd wrong))))

  -- the path 0
  path : (alloc : Global) (b0 o0 : ℕ) (status : ℕ) (b1 o1 : ℕ) (text-length : ℕ) (b2 o2 : ℕ) (json-length : ℕ) (b3 o3 : ℕ) (b4 o4 : ℕ) → Typed GlobalRow.mir (global_val alloc ∷ []) → status < 2 ^ 32 → Typed BytesRow.mir (bytes_val (record { at = (block_ptr b1 o1); length = text-length }) ∷ []) → Typed BufferRow.mir (buffer_val (record { at = (block_ptr b2 o2); length = json-length }) ∷ []) → Testable (block_ptr b0 o0) → Testable (block_ptr b1 o1) → Testable (block_ptr b2 o2) → Testable (block_ptr b3 o3) → Testable (block_ptr b4 o4) → Walk alloc (block_ptr b0 o0) status (record { at = (block_ptr b1 o1); length = text-length }) (record { at = (block_ptr b2 o2); length = json-length }) (block_ptr b3 o3) (block_ptr b4 o4)
  path alloc b0 o0 status b1 o1 text-length b2 o2 json-length b3 o3 b4 o4 fits-alloc fits-status fits-text fits-json may-given may-text may-json may-fault may-answer =
      move ! (1 ∷ []) $ fsplit ! $ move ! (1 ∷ []) $ fsplit ! $ move ! (1 ∷ []) $ fsplit ! $ move ! (1 ∷ []) $ fsplit ! $ move ! (1 ∷ []) $ enter ! C Λ code.function (global_val alloc ∷ vptr b0 o0 ∷ vint w32 status ∷ bytes_val (record { at = (block_ptr b1 o1); length = text-length }) ∷ buffer_val (record { at = (block_ptr b2 o2); length = json-length }) ∷ vptr b3 o3 ∷ vptr b4 o4 ∷ []) _ $ alloc_all ! (λ c. pass_all ! refl (fits-alloc.0, ((good 𝓛 (block_ptr b0 o0)).0, ((tt, record { fits = fits-status }), (fits-text.0, (fits-json.0, ((good 𝓛 (block_ptr b3 o3)).0, ((good 𝓛 (block_ptr b4 o4)).0, tt))))))) $
      stands ! b3 o3 none (get ! refl) may-fault refl (tt, tt) refl $
      stands ! b4 o4 (there_is _) (get ! refl) may-answer refl (tt, tt) refl $
      compares ! (block_ptr b0 o0) (there_is _) (get ! refl) may-given refl (tt, tt) $ closes ! $ branches ! (get ! refl) (λ wrong. absurd wrong) (λ _.
      compares ! (block_ptr b2 o2) none (get_in ! (fld ! refl (stop !)) (sub ! 0 refl (whole !))) may-json refl (tt, tt) $ hands ! _ _ $ branches ! (get ! refl) (λ wrong. absurd wrong) (λ _.
      compares ! (block_ptr b1 o1) none (get_in ! (fld ! refl (stop !)) (sub ! 0 refl (whole !))) may-text refl (tt, tt) $ hands ! _ _ $ branches ! (get ! refl) (λ wrong. absurd wrong) (λ _. hands ! _ _ $ inside ! _ _ _ $
      sets ! (of_opd ! (get ! refl)) refl (tt, tt) $ sets ! (addr ! (through ! refl (stop !))) refl (tt, tt) $
      sets ! (agg ! (and_then ! (get_in ! (fld ! refl (stop !)) (sub ! 0 refl (whole !))) (and_then ! (get_in ! (fld ! refl (stop !)) (sub ! 1 refl (whole !))) (no_more !)))) refl (tt, (tt, (fits-text.0.1.1.0, tt))) $
      sets ! (agg ! (and_then ! (get_in ! (fld ! refl (stop !)) (sub ! 0 refl (whole !))) (and_then ! (get_in ! (fld ! refl (stop !)) (sub ! 1 refl (whole !))) (no_more !)))) refl (tt, (tt, (fits-json.0.1.1.0, tt))) $
      sets ! (addr ! (through ! refl (stop !))) refl (tt, tt) $
      sets ! (addr ! (through ! refl (stop !))) refl (tt, tt) $
      nothing ! $ move ! (1 ∷ 0 ∷ []) $ fjoin ! $ move ! (1 ∷ 0 ∷ []) $ fjoin ! $ move ! (1 ∷ 0 ∷ []) $ fjoin ! $ move ! (1 ∷ 0 ∷ []) $ fjoin ! $ owned ! u32 _ (uint_Makes 𝓛 w32) status _ (refl, fits-status) $ fjoin ! $ move ! (1 ∷ 0 ∷ []) $ fjoin ! $ move ! (2 ∷ 0 ∷ []) $ fjoin ! $ nothing ! $ move ! (2 ∷ 0 ∷ []) $ join ! $ join ! $ nothing ! $ move ! (1 ∷ 0 ∷ []) $
      let z : G.Ghost = (((l.lifetime, tt), (l.share, tt), tt, (alloc, (record { ref_ptr = (b0, o0); now = l.handle }, (status, (record { ref_ptr = (b1, o1); now = l.bytes }, (record { ref_ptr = (b2, o2); ghost_name = l.buffer_name; now = l.buffer }, (record { ref_ptr = (b3, o3); now = l.fault }, (record { ref_ptr = (b4, o4); ghost_name = l.answer_name; now = l.answer }, tt))))))), (global_val alloc ∷ [], (vptr b0 o0 ∷ [], (vint w32 status ∷ [], (slice_val (b1, o1) text-length ∷ [], (slice_val (b2, o2) json-length ∷ [], (vptr b3 o3 ∷ [], (vptr b4 o4 ∷ [], tt)))))))), tt) in
      use2 𝓛 (raw (G.pre z)) (id⊢ 𝓤 _) $ calls_at_last ! fm G known z (and_then ! (get ! refl) (and_then ! (get ! refl) (and_then ! (get ! refl) (and_then ! (get ! refl) (and_then ! (get ! refl) (and_then ! (get ! refl) (and_then ! (get ! refl) (no_more !)))))))) (λ v.
      use1 𝓛 (back 𝓛 g.ended (g.clauses 𝓛 at_mem run) z.0.0 z.0.3 z.1 l.lifetime l.share v) (id⊢ 𝓤 _) $
      await ! tt $ pick ! (λ x. split ! $ move ! (1 ∷ []) $ pick ! (λ ws. split ! $ move ! (1 ∷ []) $ heard ! (of_optional (block_ptr b0 o0) (of_buffer (block_ptr b2 o2) json-length l.buffer ws.1.1.1.1.0 ((ws.1.1.1.1.1.1.0 ≡ l.answer) × (x ≡ 1)) (λ old new. of_bytes (block_ptr b1 o1) text-length l.bytes ((new ≡ old) × ((ws.1.1.1.1.1.1.0 ≡ l.answer) × (x ≡ 1))) (λ bytes. ReportsSentence status bytes old new l.fault ws.1.1.1.1.1.1.0 x))) (of_buffer (block_ptr b2 o2) json-length l.buffer ws.1.1.1.1.0 ((ws.1.1.1.1.1.1.0 ≡ l.answer) × (x ≡ 1)) (λ old new. of_bytes (block_ptr b1 o1) text-length l.bytes ((new ≡ old) × ((ws.1.1.1.1.1.1.0 ≡ l.answer) × (x ≡ 1))) (λ bytes. ReportsSentenceFor l.handle status bytes old new l.fault ws.1.1.1.1.1.1.0 x)))) (λ reports.
      fsplit ! $ drop ! $ fsplit ! $ drop ! $ fsplit ! $ drop ! $ fsplit ! $ drop ! $ fsplit ! $ move ! (1 ∷ []) $ fsplit ! $ drop ! $ fsplit ! $ move ! (1 ∷ []) $ drop ! $ move ! (2 ∷ []) $ split ! $ split ! $ move ! (2 ∷ []) $ peeks ! u32 (Is u32) (shows 𝓛 u32) x (v ∷ []) (λ is. let fine = ((uint_Lawful 𝓛 w32).typed x _ is).0 in
      ends3 ! C Λ _ _ _ _ fine fine fine fine fine refl refl refl refl refl refl refl refl refl refl $ free_all ! refl $ keep ! (3 ∷ 4 ∷ 0 ∷ 1 ∷ []) $
      hold ! reports $ move ! (1 ∷ 0 ∷ []) $ fjoin ! $ move ! (1 ∷ 0 ∷ []) $ fjoin ! $
      fpack2 ! (List ℕ) Answer (λ json' answer'. fsep (left_buffer l (record { at = (block_ptr b2 o2); length = json-length }) json') (fsep (left_answer l (block_ptr b4 o4) answer') (holds (of_optional (block_ptr b0 o0) (of_buffer (block_ptr b2 o2) json-length l.buffer json' ((answer' ≡ l.answer) × (x ≡ 1)) (λ old new. of_bytes (block_ptr b1 o1) text-length l.bytes ((new ≡ old) × ((answer' ≡ l.answer) × (x ≡ 1))) (λ bytes. ReportsSentence status bytes old new l.fault answer' x))) (of_buffer (block_ptr b2 o2) json-length l.buffer json' ((answer' ≡ l.answer) × (x ≡ 1)) (λ old new. of_bytes (block_ptr b1 o1) text-length l.bytes ((new ≡ old) × ((answer' ≡ l.answer) × (x ≡ 1))) (λ bytes. ReportsSentenceFor l.handle status bytes old new l.fault answer' x))))))) ws.1.1.1.1.0 ws.1.1.1.1.1.1.0 $ ends alloc (block_ptr b0 o0) status (record { at = (block_ptr b1 o1); length = text-length }) (record { at = (block_ptr b2 o2); length = json-length }) (block_ptr b3 o3) (block_ptr b4 o4) v x)))))))))

  runs : (alloc : Global) (given : Ptr) (status : ℕ) (text-at : Ptr) (text-length : ℕ) (json-at : Ptr) (json-length : ℕ) (fault : Ptr) (answer : Ptr) → Typed GlobalRow.mir (global_val alloc ∷ []) → status < 2 ^ 32 → Typed BytesRow.mir (bytes_val (record { at = text-at; length = text-length }) ∷ []) → Typed BufferRow.mir (buffer_val (record { at = json-at; length = json-length }) ∷ []) → Testable given → Testable text-at → Testable json-at → Testable fault → Testable answer → Walk alloc given status (record { at = text-at; length = text-length }) (record { at = json-at; length = json-length }) fault answer
  runs alloc given status text-at text-length json-at json-length null_ptr answer fits-alloc fits-status fits-text fits-json may-given may-text may-json may-fault may-answer = refused alloc given status text-at text-length json-at json-length null_ptr answer fits-alloc fits-status fits-text fits-json may-given may-text may-json may-fault may-answer tt
  runs alloc given status text-at text-length json-at json-length (block_ptr b3 o3) null_ptr fits-alloc fits-status fits-text fits-json may-given may-text may-json may-fault may-answer = refused alloc given status text-at text-length json-at json-length (block_ptr b3 o3) null_ptr fits-alloc fits-status fits-text fits-json may-given may-text may-json may-fault may-answer tt
  runs alloc null_ptr status null_ptr text-length null_ptr json-length (block_ptr b3 o3) (block_ptr b4 o4) fits-alloc fits-status fits-text fits-json may-given may-text may-json may-fault may-answer = path-7 alloc status text-length json-length b3 o3 b4 o4 fits-alloc fits-status fits-text fits-json may-given may-text may-json may-fault may-answer
  runs alloc null_ptr status (block_ptr b1 o1) text-length null_ptr json-length (block_ptr b3 o3) (block_ptr b4 o4) fits-alloc fits-status fits-text fits-json may-given may-text may-json may-fault may-answer = path-6 alloc status b1 o1 text-length json-length b3 o3 b4 o4 fits-alloc fits-status fits-text fits-json may-given may-text may-json may-fault may-answer
  runs alloc null_ptr status null_ptr text-length (block_ptr b2 o2) json-length (block_ptr b3 o3) (block_ptr b4 o4) fits-alloc fits-status fits-text fits-json may-given may-text may-json may-fault may-answer = path-5 alloc status text-length b2 o2 json-length b3 o3 b4 o4 fits-alloc fits-status fits-text fits-json may-given may-text may-json may-fault may-answer
  runs alloc null_ptr status (block_ptr b1 o1) text-length (block_ptr b2 o2) json-length (block_ptr b3 o3) (block_ptr b4 o4) fits-alloc fits-status fits-text fits-json may-given may-text may-json may-fault may-answer = path-4 alloc status b1 o1 text-length b2 o2 json-length b3 o3 b4 o4 fits-alloc fits-status fits-text fits-json may-given may-text may-json may-fault may-answer
  runs alloc (block_ptr b0 o0) status null_ptr text-length null_ptr json-length (block_ptr b3 o3) (block_ptr b4 o4) fits-alloc fits-status fits-text fits-json may-given may-text may-json may-fault may-answer = path-3 alloc b0 o0 status text-length json-length b3 o3 b4 o4 fits-alloc fits-status fits-text fits-json may-given may-text may-json may-fault may-answer
  runs alloc (block_ptr b0 o0) status (block_ptr b1 o1) text-length null_ptr json-length (block_ptr b3 o3) (block_ptr b4 o4) fits-alloc fits-status fits-text fits-json may-given may-text may-json may-fault may-answer = path-2 alloc b0 o0 status b1 o1 text-length json-length b3 o3 b4 o4 fits-alloc fits-status fits-text fits-json may-given may-text may-json may-fault may-answer
  runs alloc (block_ptr b0 o0) status null_ptr text-length (block_ptr b2 o2) json-length (block_ptr b3 o3) (block_ptr b4 o4) fits-alloc fits-status fits-text fits-json may-given may-text may-json may-fault may-answer = path-1 alloc b0 o0 status text-length b2 o2 json-length b3 o3 b4 o4 fits-alloc fits-status fits-text fits-json may-given may-text may-json may-fault may-answer
  runs alloc (block_ptr b0 o0) status (block_ptr b1 o1) text-length (block_ptr b2 o2) json-length (block_ptr b3 o3) (block_ptr b4 o4) fits-alloc fits-status fits-text fits-json may-given may-text may-json may-fault may-answer = path alloc b0 o0 status b1 o1 text-length b2 o2 json-length b3 o3 b4 o4 fits-alloc fits-status fits-text fits-json may-given may-text may-json may-fault may-answer

pub odfilter_fault_json_spec : {M : Type 1} → statement M
unfolding borrowed_by_fault_json
odfilter_fault_json_spec 𝓤 𝓛 𝓜 𝓡 wired =
    let c = f.clauses 𝓛 𝓜.mem 𝓡.returns in let 𝓣 = tables 𝓤 𝓛.H 𝓜 𝓡 𝓡.env in
    proved 𝓛 f.ended stayed c 𝓜 𝓡 (Goes-dropped 𝓛 0 (plain (λ _. GlobalRow)) yes (λ κs x w. refl), (Goes-dropped 𝓛 0 (plain (λ _. RawPtr)) yes (λ κs x w. refl), (Goes-dropped 𝓛 0 (plain (λ _. u32)) yes (λ κs x w. refl), (Goes-dropped 𝓛 0 (plain (λ _. BytesRow)) yes (λ κs x w. refl), (Goes-dropped 𝓛 0 (plain (λ _. BufferRow)) yes (λ κs x w. refl), (Goes-dropped 𝓛 0 (plain (λ _. RawPtr)) yes (λ κs x w. refl), (Goes-dropped 𝓛 0 (plain (λ _. RawPtr)) yes (λ κs x w. refl), tt)))))))
    f.Key.name code.function (code.unfolded 𝓤 𝓛.H 𝓜 𝓡 wired)
    (λ κs. ((λ g. global_val g ∷ []), (rawptr_vals, (uint_vals w32, ((λ s. bytes_val s ∷ []), ((λ s. buffer_val s ∷ []), (rawptr_vals, (rawptr_vals, tt)))))))) (λ κs. (global_lowers.val_is, (rawptr_Tells, (uint_Tells w32, (bytes_lowers.val_is, (buffer_lowers.val_is, (rawptr_Tells, (rawptr_Tells, tt)))))))) (λ κs qs bounds a l are.
    qed 𝓛 ((‵ ftrue ⊛ ‵ (owns (types_at f.signature.params κs) a (global_val a.0 ∷ [], (rawptr_vals a.1.0, (vint w32 a.1.1.0 ∷ [], (bytes_val a.1.1.1.0 ∷ [], (buffer_val a.1.1.1.1.0 ∷ [], (rawptr_vals a.1.1.1.1.1.0, (rawptr_vals a.1.1.1.1.1.1.0, tt))))))))) ∷ (raw (fact 𝓤 (Testable a.1.0 × Testable a.1.1.1.0.at × Testable a.1.1.1.1.0.at × Testable a.1.1.1.1.1.0 × Testable a.1.1.1.1.1.1.0)) ⊛ (‵ (flft l.lifetime l.share) ⊛ ‵ (borrowed_by_fault_json l a.1.0 a.1.1.1.0 a.1.1.1.1.0 a.1.1.1.1.1.0 a.1.1.1.1.1.1.0))) ∷ []) ∵
    split ! $ drop ! $ fsplit ! $ move ! (1 ∷ []) $ drop ! $ move ! (1 ∷ []) $ split ! $ heard ! _ (λ may. split ! $
    runs 𝓛 𝓜.mem 𝓡.returns 𝓣.C 𝓣.Λ (framed 𝓤 𝓛.H 𝓜 𝓣) (met 𝓤 𝓛 𝓜 𝓡 (code.calls-report_calls::calls::fault_json 𝓡.env wired)) (met-1 𝓤 𝓛 𝓜 𝓡 (code.calls-odfilter_c::null_calls::fault_json_at_null 𝓡.env wired)) (met-2 𝓤 𝓛 𝓜 𝓡 (code.calls-odfilter_c::length_calls::fault_json_to_null 𝓡.env wired)) (met-3 𝓤 𝓛 𝓜 𝓡 (code.calls-odfilter_c::length_calls::fault_json_to_null_at_null 𝓡.env wired)) (met-4 𝓤 𝓛 𝓜 𝓡 (code.calls-report_calls::calls::fault_json_alone 𝓡.env wired)) (met-5 𝓤 𝓛 𝓜 𝓡 (code.calls-odfilter_c::null_calls::fault_json_alone_at_null 𝓡.env wired)) (met-6 𝓤 𝓛 𝓜 𝓡 (code.calls-odfilter_c::length_calls::fault_json_alone_to_null 𝓡.env wired)) (met-7 𝓤 𝓛 𝓜 𝓡 (code.calls-odfilter_c::length_calls::fault_json_alone_to_null_at_null 𝓡.env wired)) l a.0 a.1.0 a.1.1.0 a.1.1.1.0.at a.1.1.1.0.length a.1.1.1.1.0.at a.1.1.1.1.0.length a.1.1.1.1.1.0 a.1.1.1.1.1.1.0 ((global_laws.lawful 𝓛).typed a.0 _ are.0) are.1.1.0.1 ((bytes_laws.lawful 𝓛).typed a.1.1.1.0 _ are.1.1.1.0) ((buffer_laws.lawful 𝓛).typed a.1.1.1.1.0 _ are.1.1.1.1.0) may.0 may.1 may.2 may.3 may.4))
