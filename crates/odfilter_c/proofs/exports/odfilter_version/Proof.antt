-- `version` meets its contract: the addresses are tested one by one, and the call borrows what they point to.
use Rattle.odfilter_c.proofs.Steps.{◌≡◌, ℕ, ◌<◌, List, [], ◌∷◌, refl, lit<, w32, w64, proved, leaves, none, there_is, Ura, SProp, id⊢, fsep, flft, Val, vint, vptr, Memory, Routine, WpFn, Calls, Loops, Fun, fact, tables, FmC, Logic, ‵, raw, ◌⊛◌, prop, Sq, ◌$◌, ◌∵◌, !, qed, move, keep, drop, use0, use1, use2, split, join, fsplit, fjoin, pick, await, by, enter, addr, stop, fld, no_more, and_then, branches, agg, sub, whole, alloc_all, pass_all, free_all, get, get_in, through, sets, u32, usize, yes, Typed, Is, shows, uint_Makes, uint_Lawful, Ptr, RawPtr, block_ptr, null_ptr, ptr_val, Testable, rawptr_vals, rawptr_Tells, slice_val, plain, nothing, owned, heard, peeks, Contract, Triple, calls_at_last, on_entry, triple_of, Stays, walk_of, stay_dropped, Goes-dropped, framed, Buffer, BufferRow, buffer_lowers, buffer_val, buffer_laws, Answer, HasNull, in_rest, trues, good, all_true, back, hold, unchanged, fpack2, compares, stands, tested, closes, hands, inside, ends1}
use Rattle.odfilter_c.specs.Loans.{Loan, left_buffer, left_answer, of_buffer, holds, borrowed_buffer, borrowed_answer, unless_null}
use Rattle.odfilter_c.specs.Exports.{borrowed_by_version, left_by_version}
use Rattle.report_calls.specs.Reports.{ReportsVersion}
use Rattle.report_calls.specs.contracts.calls.version as g
use Rattle.report_calls.proofs.calls.version.Symbol.{name as #call}
use Rattle.report_calls.proofs.calls.version.Met.{met as met}
use Rattle.odfilter_c.specs.contracts.length_calls.version_to_null as g-1
use Rattle.odfilter_c.proofs.length_calls.version_to_null.Symbol.{name as #call-1}
use Rattle.odfilter_c.proofs.length_calls.version_to_null.Met.{met as met-1}
use Rattle.odfilter_c.specs.contracts.exports.odfilter_version as f
use Rattle.odfilter_c.proofs.exports.odfilter_version.Statement.{statement}
use base.Fml.{Fml, feq, fex}
use Rattle.odfilter_c.proofs.exports.odfilter_version.Code as code

abbrev stayed : Stays f.ended.signature.params f.ended.kept
stayed = (stay_dropped _ yes, (stay_dropped _ yes, tt))

module _ {M : Type 1} {𝓤 : Ura M} (𝓛 : Logic 𝓤) (at_mem : Memory → SProp 𝓤) (run : Routine → Fun 𝓤) (C : Calls 𝓤 𝓛.H) (Λ : Loops 𝓤 𝓛.H) (fm : FmC 𝓤 𝓛.H 𝓛.laws C)
    (known : Triple 𝓤 (C #call) (triple_of 𝓛 g.signature (g.spec 𝓛 at_mem run)))
    (known-1 : Triple 𝓤 (C #call-1) (triple_of 𝓛 g-1.signature (g-1.spec 𝓛 at_mem run))) (l : Loan) where
  open 𝓛 use {H}

  -- what the call borrows, and what it leaves
  abbrev Borrowed : Buffer → Ptr → Fml
  Borrowed text answer = fsep (borrowed_buffer l text) (borrowed_answer l answer)

  abbrev Left : Buffer → Ptr → ℕ → Fml
  Left text answer result = unless_null (answer ∷ [])
      (fsep (feq ℕ result 1) (Borrowed text answer))
      (fex (List ℕ) (λ text'. fex Answer (λ answer'.
      fsep (left_buffer l text text') (fsep (left_answer l answer answer')
      (holds (of_buffer text.at text.length l.buffer text' ((answer' ≡ l.answer) × (result ≡ 1))
      (λ old new. ReportsVersion old new answer' result)))))))

  abbrev G : Contract 𝓤
  G = triple_of 𝓛 g.signature (g.spec 𝓛 at_mem run)

  abbrev G-1 : Contract 𝓤
  G-1 = triple_of 𝓛 g-1.signature (g-1.spec 𝓛 at_mem run)

  abbrev W : Contract 𝓤
  W = walk_of 𝓛 f.ended stayed (f.clauses 𝓛 at_mem run)

  abbrev bound : Buffer → Ptr → W.Ghost
  bound text answer = ((tt, tt, tt, (text, (answer, tt)), (buffer_val text ∷ [], (ptr_val answer ∷ [], tt))), l)

  abbrev Walk : Buffer → Ptr → Type 1
  Walk text answer = Sq 𝓛 (‵ (flft l.lifetime l.share) ∷ ‵ (Borrowed text answer) ∷ []) (prop (WpFn 𝓤 H C Λ code.function (buffer_val text ∷ ptr_val answer ∷ []) (W.post (bound text answer))))

  ends : (text : Buffer) (answer : Ptr) (v : Val) (x : ℕ) → Sq 𝓛 (‵ (Left text answer x) ∷ ‵ (u32.own_val x (v ∷ [])) ∷ ‵ (flft l.lifetime l.share) ∷ []) (prop (W.post (bound text answer) v))
  unfolding borrowed_by_version left_by_version
  ends text answer v x = move ! (2 ∷ 0 ∷ []) $ join ! $ move ! (1 ∷ []) $ use0 𝓛 (‵ (trues 2)) (all_true 𝓛 2) $ nothing ! $
      by ! (leaves 𝓛 f.ended stayed (f.clauses 𝓛 at_mem run) (bound text answer) v x (tt, (tt, tt)) (tt, (tt, tt)))

  -- with a null address nothing is called
  refused : (text-at : Ptr) (text-length : ℕ) (answer : Ptr) → Typed BufferRow.mir (buffer_val (record { at = text-at; length = text-length }) ∷ []) → Testable text-at → Testable answer → HasNull (answer ∷ []) → Walk (record { at = text-at; length = text-length }) answer
  refused text-at text-length answer fits-text may-text may-answer null =
      enter ! C Λ code.function (buffer_val (record { at = text-at; length = text-length }) ∷ ptr_val answer ∷ []) _ $ alloc_all ! (λ c. pass_all ! refl (fits-text.0, ((good 𝓛 answer).0, tt)) $
      tested ! answer none (get ! refl) may-answer refl (tt, tt) refl refl (tt, record { fits = lit< tt }) refl (λ _. free_all ! refl $ unchanged ! (answer ∷ []) _ null (ends (record { at = text-at; length = text-length }) answer (vint w32 1) 1)) (λ here-0.
      absurd (in_rest answer [] null here-0)))

  runs : (text-at : Ptr) (text-length : ℕ) (answer : Ptr) → Typed BufferRow.mir (buffer_val (record { at = text-at; length = text-length }) ∷ []) → Testable text-at → Testable answer → Walk (record { at = text-at; length = text-length }) answer
  runs text-at text-length null_ptr fits-text may-text may-answer = refused text-at text-length null_ptr fits-text may-text may-answer tt
  runs null_ptr text-length (block_ptr b1 o1) fits-text may-text may-answer =
      move ! (1 ∷ []) $ fsplit ! $ move ! (1 ∷ []) $ enter ! C Λ code.function (buffer_val (record { at = null_ptr; length = text-length }) ∷ vptr b1 o1 ∷ []) _ $ alloc_all ! (λ c. pass_all ! refl (fits-text.0, ((good 𝓛 (block_ptr b1 o1)).0, tt)) $
      stands ! b1 o1 none (get ! refl) may-answer refl (tt, tt) refl $
      compares ! null_ptr (there_is _) (get_in ! (fld ! refl (stop !)) (sub ! 0 refl (whole !))) may-text refl (tt, tt) $ closes ! $ branches ! (get ! refl) (λ _. hands ! _ _ $ inside ! _ _ _ $
      sets ! (addr ! (through ! refl (stop !))) refl (tt, tt) $
      move ! (1 ∷ []) $ drop ! $ nothing ! $ move ! (1 ∷ 0 ∷ []) $ fjoin ! $ owned ! usize _ (uint_Makes 𝓛 w64) text-length _ (refl, fits-text.0.1.1.0.fits) $ fjoin ! $ nothing ! $ move ! (2 ∷ 0 ∷ []) $ join ! $ join ! $ nothing ! $ move ! (1 ∷ 0 ∷ []) $
      let z : G-1.Ghost = (((l.lifetime, tt), (l.share, tt), tt, (text-length, (record { ref_ptr = (b1, o1); ghost_name = l.answer_name; now = l.answer }, tt)), (vint w64 text-length ∷ [], (vptr b1 o1 ∷ [], tt))), tt) in
      use2 𝓛 (raw (G-1.pre z)) (id⊢ 𝓤 _) $ calls_at_last ! fm G-1 known-1 z (and_then ! (get_in ! (fld ! refl (stop !)) (sub ! 1 refl (whole !))) (and_then ! (get ! refl) (no_more !))) (λ v.
      use1 𝓛 (back 𝓛 g-1.ended (g-1.clauses 𝓛 at_mem run) z.0.0 z.0.3 z.1 l.lifetime l.share v) (id⊢ 𝓤 _) $
      await ! tt $ pick ! (λ x. split ! $ move ! (1 ∷ []) $ pick ! (λ ws. split ! $ move ! (1 ∷ []) $ heard ! (of_buffer null_ptr text-length l.buffer [] ((ws.1.0 ≡ l.answer) × (x ≡ 1)) (λ old new. ReportsVersion old new ws.1.0 x)) (λ reports.
      fsplit ! $ drop ! $ fsplit ! $ move ! (1 ∷ []) $ drop ! $ move ! (1 ∷ []) $ split ! $ split ! $ move ! (2 ∷ []) $ peeks ! u32 (Is u32) (shows 𝓛 u32) x (v ∷ []) (λ is. let fine = ((uint_Lawful 𝓛 w32).typed x _ is).0 in
      ends1 ! C Λ _ _ fine fine fine refl refl refl refl refl refl $ free_all ! refl $ keep ! (3 ∷ 0 ∷ 1 ∷ []) $
      hold ! reports $ move ! (1 ∷ 0 ∷ []) $ fjoin ! $ nothing ! $ fjoin ! $
      fpack2 ! (List ℕ) Answer (λ text' answer'. fsep (left_buffer l (record { at = null_ptr; length = text-length }) text') (fsep (left_answer l (block_ptr b1 o1) answer') (holds (of_buffer null_ptr text-length l.buffer text' ((answer' ≡ l.answer) × (x ≡ 1)) (λ old new. ReportsVersion old new answer' x))))) [] ws.1.0 $ ends (record { at = null_ptr; length = text-length }) (block_ptr b1 o1) v x)))))) (λ wrong. absurd wrong))
  runs (block_ptr b0 o0) text-length (block_ptr b1 o1) fits-text may-text may-answer =
      move ! (1 ∷ []) $ fsplit ! $ move ! (1 ∷ []) $ enter ! C Λ code.function (buffer_val (record { at = (block_ptr b0 o0); length = text-length }) ∷ vptr b1 o1 ∷ []) _ $ alloc_all ! (λ c. pass_all ! refl (fits-text.0, ((good 𝓛 (block_ptr b1 o1)).0, tt)) $
      stands ! b1 o1 none (get ! refl) may-answer refl (tt, tt) refl $
      compares ! (block_ptr b0 o0) (there_is _) (get_in ! (fld ! refl (stop !)) (sub ! 0 refl (whole !))) may-text refl (tt, tt) $ closes ! $ branches ! (get ! refl) (λ wrong. absurd wrong) (λ _. hands ! _ _ $ inside ! _ _ _ $
      sets ! (agg ! (and_then ! (get_in ! (fld ! refl (stop !)) (sub ! 0 refl (whole !))) (and_then ! (get_in ! (fld ! refl (stop !)) (sub ! 1 refl (whole !))) (no_more !)))) refl (tt, (tt, (fits-text.0.1.1.0, tt))) $
      sets ! (addr ! (through ! refl (stop !))) refl (tt, tt) $
      nothing ! $ move ! (1 ∷ 0 ∷ []) $ fjoin ! $ move ! (1 ∷ 0 ∷ []) $ fjoin ! $ nothing ! $ move ! (2 ∷ 0 ∷ []) $ join ! $ join ! $ nothing ! $ move ! (1 ∷ 0 ∷ []) $
      let z : G.Ghost = (((l.lifetime, tt), (l.share, tt), tt, (record { ref_ptr = (b0, o0); ghost_name = l.buffer_name; now = l.buffer }, (record { ref_ptr = (b1, o1); ghost_name = l.answer_name; now = l.answer }, tt)), (slice_val (b0, o0) text-length ∷ [], (vptr b1 o1 ∷ [], tt))), tt) in
      use2 𝓛 (raw (G.pre z)) (id⊢ 𝓤 _) $ calls_at_last ! fm G known z (and_then ! (get ! refl) (and_then ! (get ! refl) (no_more !))) (λ v.
      use1 𝓛 (back 𝓛 g.ended (g.clauses 𝓛 at_mem run) z.0.0 z.0.3 z.1 l.lifetime l.share v) (id⊢ 𝓤 _) $
      await ! tt $ pick ! (λ x. split ! $ move ! (1 ∷ []) $ pick ! (λ ws. split ! $ move ! (1 ∷ []) $ heard ! (of_buffer (block_ptr b0 o0) text-length l.buffer ws.0 ((ws.1.0 ≡ l.answer) × (x ≡ 1)) (λ old new. ReportsVersion old new ws.1.0 x)) (λ reports.
      fsplit ! $ move ! (1 ∷ []) $ fsplit ! $ move ! (1 ∷ []) $ drop ! $ move ! (2 ∷ []) $ split ! $ split ! $ move ! (2 ∷ []) $ peeks ! u32 (Is u32) (shows 𝓛 u32) x (v ∷ []) (λ is. let fine = ((uint_Lawful 𝓛 w32).typed x _ is).0 in
      ends1 ! C Λ _ _ fine fine fine refl refl refl refl refl refl $ free_all ! refl $ keep ! (3 ∷ 4 ∷ 0 ∷ 1 ∷ []) $
      hold ! reports $ move ! (1 ∷ 0 ∷ []) $ fjoin ! $ move ! (1 ∷ 0 ∷ []) $ fjoin ! $
      fpack2 ! (List ℕ) Answer (λ text' answer'. fsep (left_buffer l (record { at = (block_ptr b0 o0); length = text-length }) text') (fsep (left_answer l (block_ptr b1 o1) answer') (holds (of_buffer (block_ptr b0 o0) text-length l.buffer text' ((answer' ≡ l.answer) × (x ≡ 1)) (λ old new. ReportsVersion old new answer' x))))) ws.0 ws.1.0 $ ends (record { at = (block_ptr b0 o0); length = text-length }) (block_ptr b1 o1) v x)))))))

pub odfilter_version_spec : {M : Type 1} → statement M
unfolding borrowed_by_version
odfilter_version_spec 𝓤 𝓛 𝓜 𝓡 wired =
    let c = f.clauses 𝓛 𝓜.mem 𝓡.returns in let 𝓣 = tables 𝓤 𝓛.H 𝓜 𝓡 𝓡.env in
    proved 𝓛 f.ended stayed c 𝓜 𝓡 (Goes-dropped 𝓛 0 (plain (λ _. BufferRow)) yes (λ κs x w. refl), (Goes-dropped 𝓛 0 (plain (λ _. RawPtr)) yes (λ κs x w. refl), tt))
    f.Key.name code.function (code.unfolded 𝓤 𝓛.H 𝓜 𝓡 wired)
    (λ κs. ((λ s. buffer_val s ∷ []), (rawptr_vals, tt))) (λ κs. (buffer_lowers.val_is, (rawptr_Tells, tt))) (λ κs qs bounds a l are.
    qed 𝓛 (raw (on_entry 𝓛 f.signature κs qs a (buffer_val a.0 ∷ [], (rawptr_vals a.1.0, tt))) ∷ (raw (fact 𝓤 (Testable a.0.at × Testable a.1.0)) ⊛ (‵ (flft l.lifetime l.share) ⊛ ‵ (borrowed_by_version l a.0 a.1.0))) ∷ []) ∵
    drop ! $ split ! $ heard ! _ (λ may. split ! $
    runs 𝓛 𝓜.mem 𝓡.returns 𝓣.C 𝓣.Λ (framed 𝓤 𝓛.H 𝓜 𝓣) (met 𝓤 𝓛 𝓜 𝓡 (code.calls-report_calls::calls::version 𝓡.env wired)) (met-1 𝓤 𝓛 𝓜 𝓡 (code.calls-odfilter_c::length_calls::version_to_null 𝓡.env wired)) l a.0.at a.0.length a.1.0 ((buffer_laws.lawful 𝓛).typed a.0 _ are.0) may.0 may.1))
