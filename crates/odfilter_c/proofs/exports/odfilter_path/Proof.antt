-- `path` meets its contract: the addresses are tested one by one, and the call borrows what they point to.
use Rattle.odfilter_c.proofs.Steps.{◌≡◌, ℕ, ◌<◌, List, [], ◌∷◌, refl, lit<, w32, w64, proved, leaves, none, there_is, Ura, SProp, id⊢, fsep, flft, Val, vint, vptr, Memory, Routine, WpFn, Calls, Loops, Fun, fact, tables, FmC, Logic, ‵, raw, ◌⊛◌, prop, Sq, ◌$◌, ◌∵◌, !, qed, move, keep, drop, use0, use1, use2, split, join, fsplit, fjoin, pick, await, by, enter, of_opd, addr, stop, fld, no_more, and_then, branches, agg, sub, whole, alloc_all, pass_all, free_all, get, get_in, through, sets, u32, usize, yes, Typed, Is, shows, uint_Makes, uint_Lawful, Ptr, RawPtr, block_ptr, null_ptr, ptr_val, Testable, rawptr_vals, rawptr_Tells, slice_val, plain, nothing, owned, heard, peeks, Contract, Triple, calls_at_last, on_entry, triple_of, Stays, walk_of, stay_dropped, Goes-dropped, framed, Buffer, BufferRow, buffer_lowers, buffer_val, buffer_laws, Answer, HasNull, in_rest, trues, good, all_true, back, hold, unchanged, fpack2, compares, stands, tested, closes, hands, inside, ends1}
use Rattle.odfilter_c.specs.Loans.{Loan, left_buffer, left_answer, of_buffer, holds, borrowed_handle, borrowed_buffer, borrowed_answer, unless_null}
use Rattle.odfilter_c.specs.Exports.{borrowed_by_path, left_by_path}
use Rattle.handle_calls.specs.RowReports.{ReportsPath}
use Rattle.handle_calls.specs.contracts.calls.path as g
use Rattle.handle_calls.proofs.calls.path.Symbol.{name as #call}
use Rattle.handle_calls.proofs.calls.path.Met.{met as met}
use Rattle.odfilter_c.specs.contracts.length_calls.path_to_null as g-1
use Rattle.odfilter_c.proofs.length_calls.path_to_null.Symbol.{name as #call-1}
use Rattle.odfilter_c.proofs.length_calls.path_to_null.Met.{met as met-1}
use Rattle.odfilter_c.specs.contracts.exports.odfilter_path as f
use Rattle.odfilter_c.proofs.exports.odfilter_path.Statement.{statement}
use base.Fml.{Fml, feq, fex}
use Rattle.odfilter_c.proofs.exports.odfilter_path.Code as code

abbrev stayed : Stays f.ended.signature.params f.ended.kept
stayed = (stay_dropped _ yes, (stay_dropped _ yes, (stay_dropped _ yes, tt)))

module _ {M : Type 1} {𝓤 : Ura M} (𝓛 : Logic 𝓤) (at_mem : Memory → SProp 𝓤) (run : Routine → Fun 𝓤) (C : Calls 𝓤 𝓛.H) (Λ : Loops 𝓤 𝓛.H) (fm : FmC 𝓤 𝓛.H 𝓛.laws C)
    (known : Triple 𝓤 (C #call) (triple_of 𝓛 g.signature (g.spec 𝓛 at_mem run)))
    (known-1 : Triple 𝓤 (C #call-1) (triple_of 𝓛 g-1.signature (g-1.spec 𝓛 at_mem run))) (l : Loan) where
  open 𝓛 use {H}

  -- what the call borrows, and what it leaves
  abbrev Borrowed : Ptr → Buffer → Ptr → Fml
  Borrowed judge path answer = fsep (borrowed_handle l judge) (fsep (borrowed_buffer l path) (borrowed_answer l answer))

  abbrev Left : Ptr → Buffer → Ptr → ℕ → Fml
  Left judge path answer result = unless_null (judge ∷ answer ∷ [])
      (fsep (feq ℕ result 1) (Borrowed judge path answer))
      (fex (List ℕ) (λ path'. fex Answer (λ answer'.
      fsep (left_buffer l path path') (fsep (left_answer l answer answer')
      (holds (of_buffer path.at path.length l.buffer path' ((answer' ≡ l.answer) × (result ≡ 1))
      (λ old new. ReportsPath l.handle old new answer' result)))))))

  abbrev G : Contract 𝓤
  G = triple_of 𝓛 g.signature (g.spec 𝓛 at_mem run)

  abbrev G-1 : Contract 𝓤
  G-1 = triple_of 𝓛 g-1.signature (g-1.spec 𝓛 at_mem run)

  abbrev W : Contract 𝓤
  W = walk_of 𝓛 f.ended stayed (f.clauses 𝓛 at_mem run)

  abbrev bound : Ptr → Buffer → Ptr → W.Ghost
  bound judge path answer = ((tt, tt, tt, (judge, (path, (answer, tt))), (ptr_val judge ∷ [], (buffer_val path ∷ [], (ptr_val answer ∷ [], tt)))), l)

  abbrev Walk : Ptr → Buffer → Ptr → Type 1
  Walk judge path answer = Sq 𝓛 (‵ (flft l.lifetime l.share) ∷ ‵ (Borrowed judge path answer) ∷ []) (prop (WpFn 𝓤 H C Λ code.function (ptr_val judge ∷ buffer_val path ∷ ptr_val answer ∷ []) (W.post (bound judge path answer))))

  ends : (judge : Ptr) (path : Buffer) (answer : Ptr) (v : Val) (x : ℕ) → Sq 𝓛 (‵ (Left judge path answer x) ∷ ‵ (u32.own_val x (v ∷ [])) ∷ ‵ (flft l.lifetime l.share) ∷ []) (prop (W.post (bound judge path answer) v))
  unfolding borrowed_by_path left_by_path
  ends judge path answer v x = move ! (2 ∷ 0 ∷ []) $ join ! $ move ! (1 ∷ []) $ use0 𝓛 (‵ (trues 3)) (all_true 𝓛 3) $ nothing ! $
      by ! (leaves 𝓛 f.ended stayed (f.clauses 𝓛 at_mem run) (bound judge path answer) v x (tt, (tt, (tt, tt))) (tt, (tt, (tt, tt))))

  -- with a null address nothing is called
  refused : (judge : Ptr) (path-at : Ptr) (path-length : ℕ) (answer : Ptr) → Typed BufferRow.mir (buffer_val (record { at = path-at; length = path-length }) ∷ []) → Testable judge → Testable path-at → Testable answer → HasNull (judge ∷ answer ∷ []) → Walk judge (record { at = path-at; length = path-length }) answer
  refused judge path-at path-length answer fits-path may-judge may-path may-answer null =
      enter ! C Λ code.function (ptr_val judge ∷ buffer_val (record { at = path-at; length = path-length }) ∷ ptr_val answer ∷ []) _ $ alloc_all ! (λ c. pass_all ! refl ((good 𝓛 judge).0, (fits-path.0, ((good 𝓛 answer).0, tt))) $
      tested ! judge none (get ! refl) may-judge refl (tt, tt) refl refl (tt, record { fits = lit< tt }) refl (λ _. free_all ! refl $ unchanged ! (judge ∷ answer ∷ []) _ null (ends judge (record { at = path-at; length = path-length }) answer (vint w32 1) 1)) (λ here-0.
      tested ! answer (there_is _) (get ! refl) may-answer refl (tt, tt) refl refl (tt, record { fits = lit< tt }) refl (λ _. free_all ! refl $ unchanged ! (judge ∷ answer ∷ []) _ null (ends judge (record { at = path-at; length = path-length }) answer (vint w32 1) 1)) (λ here-1.
      absurd (in_rest answer [] (in_rest judge (answer ∷ []) null here-0) here-1))))

  runs : (judge : Ptr) (path-at : Ptr) (path-length : ℕ) (answer : Ptr) → Typed BufferRow.mir (buffer_val (record { at = path-at; length = path-length }) ∷ []) → Testable judge → Testable path-at → Testable answer → Walk judge (record { at = path-at; length = path-length }) answer
  runs null_ptr path-at path-length answer fits-path may-judge may-path may-answer = refused null_ptr path-at path-length answer fits-path may-judge may-path may-answer tt
  runs (block_ptr b0 o0) path-at path-length null_ptr fits-path may-judge may-path may-answer = refused (block_ptr b0 o0) path-at path-length null_ptr fits-path may-judge may-path may-answer tt
  runs (block_ptr b0 o0) null_ptr path-length (block_ptr b2 o2) fits-path may-judge may-path may-answer =
      move ! (1 ∷ []) $ fsplit ! $ move ! (1 ∷ []) $ fsplit ! $ move ! (1 ∷ []) $ enter ! C Λ code.function (vptr b0 o0 ∷ buffer_val (record { at = null_ptr; length = path-length }) ∷ vptr b2 o2 ∷ []) _ $ alloc_all ! (λ c. pass_all ! refl ((good 𝓛 (block_ptr b0 o0)).0, (fits-path.0, ((good 𝓛 (block_ptr b2 o2)).0, tt))) $
      stands ! b0 o0 none (get ! refl) may-judge refl (tt, tt) refl $
      stands ! b2 o2 (there_is _) (get ! refl) may-answer refl (tt, tt) refl $
      compares ! null_ptr (there_is _) (get_in ! (fld ! refl (stop !)) (sub ! 0 refl (whole !))) may-path refl (tt, tt) $ closes ! $ branches ! (get ! refl) (λ _. hands ! _ _ $ inside ! _ _ _ $
      sets ! (of_opd ! (get ! refl)) refl (tt, tt) $ sets ! (addr ! (through ! refl (stop !))) refl (tt, tt) $
      sets ! (addr ! (through ! refl (stop !))) refl (tt, tt) $
      move ! (1 ∷ []) $ drop ! $ nothing ! $ move ! (1 ∷ 0 ∷ []) $ fjoin ! $ owned ! usize _ (uint_Makes 𝓛 w64) path-length _ (refl, fits-path.0.1.1.0.fits) $ fjoin ! $ move ! (1 ∷ 0 ∷ []) $ fjoin ! $ nothing ! $ move ! (2 ∷ 0 ∷ []) $ join ! $ join ! $ nothing ! $ move ! (1 ∷ 0 ∷ []) $
      let z : G-1.Ghost = (((l.lifetime, tt), (l.share, tt), tt, (record { ref_ptr = (b0, o0); now = l.handle }, (path-length, (record { ref_ptr = (b2, o2); ghost_name = l.answer_name; now = l.answer }, tt))), (vptr b0 o0 ∷ [], (vint w64 path-length ∷ [], (vptr b2 o2 ∷ [], tt)))), tt) in
      use2 𝓛 (raw (G-1.pre z)) (id⊢ 𝓤 _) $ calls_at_last ! fm G-1 known-1 z (and_then ! (get ! refl) (and_then ! (get_in ! (fld ! refl (stop !)) (sub ! 1 refl (whole !))) (and_then ! (get ! refl) (no_more !)))) (λ v.
      use1 𝓛 (back 𝓛 g-1.ended (g-1.clauses 𝓛 at_mem run) z.0.0 z.0.3 z.1 l.lifetime l.share v) (id⊢ 𝓤 _) $
      await ! tt $ pick ! (λ x. split ! $ move ! (1 ∷ []) $ pick ! (λ ws. split ! $ move ! (1 ∷ []) $ heard ! (of_buffer null_ptr path-length l.buffer [] ((ws.1.1.0 ≡ l.answer) × (x ≡ 1)) (λ old new. ReportsPath l.handle old new ws.1.1.0 x)) (λ reports.
      fsplit ! $ drop ! $ fsplit ! $ drop ! $ fsplit ! $ move ! (1 ∷ []) $ drop ! $ move ! (1 ∷ []) $ split ! $ split ! $ move ! (2 ∷ []) $ peeks ! u32 (Is u32) (shows 𝓛 u32) x (v ∷ []) (λ is. let fine = ((uint_Lawful 𝓛 w32).typed x _ is).0 in
      ends1 ! C Λ _ _ fine fine fine refl refl refl refl refl refl $ free_all ! refl $ keep ! (3 ∷ 0 ∷ 1 ∷ []) $
      hold ! reports $ move ! (1 ∷ 0 ∷ []) $ fjoin ! $ nothing ! $ fjoin ! $
      fpack2 ! (List ℕ) Answer (λ path' answer'. fsep (left_buffer l (record { at = null_ptr; length = path-length }) path') (fsep (left_answer l (block_ptr b2 o2) answer') (holds (of_buffer null_ptr path-length l.buffer path' ((answer' ≡ l.answer) × (x ≡ 1)) (λ old new. ReportsPath l.handle old new answer' x))))) [] ws.1.1.0 $ ends (block_ptr b0 o0) (record { at = null_ptr; length = path-length }) (block_ptr b2 o2) v x)))))) (λ wrong. absurd wrong))
  runs (block_ptr b0 o0) (block_ptr b1 o1) path-length (block_ptr b2 o2) fits-path may-judge may-path may-answer =
      move ! (1 ∷ []) $ fsplit ! $ move ! (1 ∷ []) $ fsplit ! $ move ! (1 ∷ []) $ enter ! C Λ code.function (vptr b0 o0 ∷ buffer_val (record { at = (block_ptr b1 o1); length = path-length }) ∷ vptr b2 o2 ∷ []) _ $ alloc_all ! (λ c. pass_all ! refl ((good 𝓛 (block_ptr b0 o0)).0, (fits-path.0, ((good 𝓛 (block_ptr b2 o2)).0, tt))) $
      stands ! b0 o0 none (get ! refl) may-judge refl (tt, tt) refl $
      stands ! b2 o2 (there_is _) (get ! refl) may-answer refl (tt, tt) refl $
      compares ! (block_ptr b1 o1) (there_is _) (get_in ! (fld ! refl (stop !)) (sub ! 0 refl (whole !))) may-path refl (tt, tt) $ closes ! $ branches ! (get ! refl) (λ wrong. absurd wrong) (λ _. hands ! _ _ $ inside ! _ _ _ $
      sets ! (of_opd ! (get ! refl)) refl (tt, tt) $ sets ! (addr ! (through ! refl (stop !))) refl (tt, tt) $
      sets ! (agg ! (and_then ! (get_in ! (fld ! refl (stop !)) (sub ! 0 refl (whole !))) (and_then ! (get_in ! (fld ! refl (stop !)) (sub ! 1 refl (whole !))) (no_more !)))) refl (tt, (tt, (fits-path.0.1.1.0, tt))) $
      sets ! (addr ! (through ! refl (stop !))) refl (tt, tt) $
      nothing ! $ move ! (1 ∷ 0 ∷ []) $ fjoin ! $ move ! (1 ∷ 0 ∷ []) $ fjoin ! $ move ! (1 ∷ 0 ∷ []) $ fjoin ! $ nothing ! $ move ! (2 ∷ 0 ∷ []) $ join ! $ join ! $ nothing ! $ move ! (1 ∷ 0 ∷ []) $
      let z : G.Ghost = (((l.lifetime, tt), (l.share, tt), tt, (record { ref_ptr = (b0, o0); now = l.handle }, (record { ref_ptr = (b1, o1); ghost_name = l.buffer_name; now = l.buffer }, (record { ref_ptr = (b2, o2); ghost_name = l.answer_name; now = l.answer }, tt))), (vptr b0 o0 ∷ [], (slice_val (b1, o1) path-length ∷ [], (vptr b2 o2 ∷ [], tt)))), tt) in
      use2 𝓛 (raw (G.pre z)) (id⊢ 𝓤 _) $ calls_at_last ! fm G known z (and_then ! (get ! refl) (and_then ! (get ! refl) (and_then ! (get ! refl) (no_more !)))) (λ v.
      use1 𝓛 (back 𝓛 g.ended (g.clauses 𝓛 at_mem run) z.0.0 z.0.3 z.1 l.lifetime l.share v) (id⊢ 𝓤 _) $
      await ! tt $ pick ! (λ x. split ! $ move ! (1 ∷ []) $ pick ! (λ ws. split ! $ move ! (1 ∷ []) $ heard ! (of_buffer (block_ptr b1 o1) path-length l.buffer ws.1.0 ((ws.1.1.0 ≡ l.answer) × (x ≡ 1)) (λ old new. ReportsPath l.handle old new ws.1.1.0 x)) (λ reports.
      fsplit ! $ drop ! $ fsplit ! $ move ! (1 ∷ []) $ fsplit ! $ move ! (1 ∷ []) $ drop ! $ move ! (2 ∷ []) $ split ! $ split ! $ move ! (2 ∷ []) $ peeks ! u32 (Is u32) (shows 𝓛 u32) x (v ∷ []) (λ is. let fine = ((uint_Lawful 𝓛 w32).typed x _ is).0 in
      ends1 ! C Λ _ _ fine fine fine refl refl refl refl refl refl $ free_all ! refl $ keep ! (3 ∷ 4 ∷ 0 ∷ 1 ∷ []) $
      hold ! reports $ move ! (1 ∷ 0 ∷ []) $ fjoin ! $ move ! (1 ∷ 0 ∷ []) $ fjoin ! $
      fpack2 ! (List ℕ) Answer (λ path' answer'. fsep (left_buffer l (record { at = (block_ptr b1 o1); length = path-length }) path') (fsep (left_answer l (block_ptr b2 o2) answer') (holds (of_buffer (block_ptr b1 o1) path-length l.buffer path' ((answer' ≡ l.answer) × (x ≡ 1)) (λ old new. ReportsPath l.handle old new answer' x))))) ws.1.0 ws.1.1.0 $ ends (block_ptr b0 o0) (record { at = (block_ptr b1 o1); length = path-length }) (block_ptr b2 o2) v x)))))))

pub odfilter_path_spec : {M : Type 1} → statement M
unfolding borrowed_by_path
odfilter_path_spec 𝓤 𝓛 𝓜 𝓡 wired =
    let c = f.clauses 𝓛 𝓜.mem 𝓡.returns in let 𝓣 = tables 𝓤 𝓛.H 𝓜 𝓡 𝓡.env in
    proved 𝓛 f.ended stayed c 𝓜 𝓡 (Goes-dropped 𝓛 0 (plain (λ _. RawPtr)) yes (λ κs x w. refl), (Goes-dropped 𝓛 0 (plain (λ _. BufferRow)) yes (λ κs x w. refl), (Goes-dropped 𝓛 0 (plain (λ _. RawPtr)) yes (λ κs x w. refl), tt)))
    f.Key.name code.function (code.unfolded 𝓤 𝓛.H 𝓜 𝓡 wired)
    (λ κs. (rawptr_vals, ((λ s. buffer_val s ∷ []), (rawptr_vals, tt)))) (λ κs. (rawptr_Tells, (buffer_lowers.val_is, (rawptr_Tells, tt)))) (λ κs qs bounds a l are.
    qed 𝓛 (raw (on_entry 𝓛 f.signature κs qs a (rawptr_vals a.0, (buffer_val a.1.0 ∷ [], (rawptr_vals a.1.1.0, tt)))) ∷ (raw (fact 𝓤 (Testable a.0 × Testable a.1.0.at × Testable a.1.1.0)) ⊛ (‵ (flft l.lifetime l.share) ⊛ ‵ (borrowed_by_path l a.0 a.1.0 a.1.1.0))) ∷ []) ∵
    drop ! $ split ! $ heard ! _ (λ may. split ! $
    runs 𝓛 𝓜.mem 𝓡.returns 𝓣.C 𝓣.Λ (framed 𝓤 𝓛.H 𝓜 𝓣) (met 𝓤 𝓛 𝓜 𝓡 (code.calls-handle_calls::calls::path 𝓡.env wired)) (met-1 𝓤 𝓛 𝓜 𝓡 (code.calls-odfilter_c::length_calls::path_to_null 𝓡.env wired)) l a.0 a.1.0.at a.1.0.length a.1.1.0 ((buffer_laws.lawful 𝓛).typed a.1.0 _ are.1.0) may.0 may.1 may.2))
