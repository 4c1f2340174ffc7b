-- `new_sql` meets its contract: the addresses are tested one by one, and the call borrows what they point to.
use Rattle.odfilter_c.proofs.Steps.{◌≡◌, ℕ, ◌<◌, ◌^◌, [], ◌∷◌, refl, lit<, w32, w64, proved, leaves, none, there_is, Ura, SProp, id⊢, ftrue, fsep, flft, Val, vint, vptr, Memory, Routine, WpFn, Calls, Loops, Fun, fact, tables, FmC, Logic, ‵, raw, ◌⊛◌, prop, Sq, ◌$◌, ◌∵◌, !, qed, move, keep, drop, use0, use1, use2, split, join, fsplit, fjoin, pick, await, by, enter, of_opd, addr, stop, fld, no_more, and_then, branches, agg, sub, whole, alloc_all, pass_all, free_all, get, get_in, through, sets, u32, usize, yes, Typed, Is, shows, uint_Makes, uint_Lawful, uint_vals, uint_Tells, Ptr, RawPtr, block_ptr, null_ptr, ptr_val, Testable, rawptr_vals, rawptr_Tells, slice_val, owns, types_at, plain, nothing, owned, heard, peeks, Contract, Triple, calls_at_last, triple_of, Stays, walk_of, stay_dropped, Goes-dropped, framed, Global, GlobalRow, global_lowers, global_val, global_laws, Bytes, BytesRow, bytes_lowers, bytes_val, bytes_laws, Owned, Answer, HasNull, in_rest, trues, good, all_true, back, hold, unchanged, fpack2, compares, stands, tested, closes, hands, inside, ends1}
use Rattle.odfilter_c.specs.Loans.{Loan, left_made, left_answer, of_bytes, holds, borrowed_handle, borrowed_bytes, borrowed_made, borrowed_answer, unless_null}
use Rattle.odfilter_c.specs.SqlExports.{borrowed_by_new_sql, left_by_new_sql}
use Rattle.report_calls.specs.SqlHandles.{MakesSql}
use Rattle.report_calls.specs.contracts.calls.new_sql as g
use Rattle.report_calls.proofs.calls.new_sql.Symbol.{name as #call}
use Rattle.report_calls.proofs.calls.new_sql.Met.{met as met}
use Rattle.odfilter_c.specs.contracts.null_calls.new_sql_at_null as g-1
use Rattle.odfilter_c.proofs.null_calls.new_sql_at_null.Symbol.{name as #call-1}
use Rattle.odfilter_c.proofs.null_calls.new_sql_at_null.Met.{met as met-1}
use Rattle.odfilter_c.specs.contracts.sql_exports.odfilter_new_sql as f
use Rattle.odfilter_c.proofs.sql_exports.odfilter_new_sql.Statement.{statement}
use base.Fml.{Fml, feq, fex}
use Rattle.odfilter_c.proofs.sql_exports.odfilter_new_sql.Code as code

abbrev stayed : Stays f.ended.signature.params f.ended.kept
stayed = (stay_dropped _ yes, (stay_dropped _ yes, (stay_dropped _ yes, (stay_dropped _ yes, (stay_dropped _ yes, (stay_dropped _ yes, tt))))))

module _ {M : Type 1} {𝓤 : Ura M} (𝓛 : Logic 𝓤) (at_mem : Memory → SProp 𝓤) (run : Routine → Fun 𝓤) (C : Calls 𝓤 𝓛.H) (Λ : Loops 𝓤 𝓛.H) (fm : FmC 𝓤 𝓛.H 𝓛.laws C)
    (known : Triple 𝓤 (C #call) (triple_of 𝓛 g.signature (g.spec 𝓛 at_mem run)))
    (known-1 : Triple 𝓤 (C #call-1) (triple_of 𝓛 g-1.signature (g-1.spec 𝓛 at_mem run))) (l : Loan) where
  open 𝓛 use {H}

  -- what the call borrows, and what it leaves
  abbrev Borrowed : Ptr → Bytes → Ptr → Ptr → Fml
  Borrowed filter how conditions answer = fsep (borrowed_handle l filter) (fsep (borrowed_bytes l how) (fsep (borrowed_made l conditions) (borrowed_answer l answer)))

  abbrev Left : Ptr → ℕ → Bytes → Ptr → Ptr → ℕ → Fml
  Left filter form how conditions answer result = unless_null (filter ∷ conditions ∷ answer ∷ [])
      (fsep (feq ℕ result 1) (Borrowed filter how conditions answer))
      (fex Owned (λ conditions'. fex Answer (λ answer'.
      fsep (left_made l conditions conditions') (fsep (left_answer l answer answer')
      (holds (of_bytes how.at how.length l.bytes ((conditions' ≡ l.made) × ((answer' ≡ l.answer) × (result ≡ 1)))
      (λ bytes. MakesSql l.handle form bytes conditions' answer' result)))))))

  abbrev G : Contract 𝓤
  G = triple_of 𝓛 g.signature (g.spec 𝓛 at_mem run)

  abbrev G-1 : Contract 𝓤
  G-1 = triple_of 𝓛 g-1.signature (g-1.spec 𝓛 at_mem run)

  abbrev W : Contract 𝓤
  W = walk_of 𝓛 f.ended stayed (f.clauses 𝓛 at_mem run)

  abbrev bound : Global → Ptr → ℕ → Bytes → Ptr → Ptr → W.Ghost
  bound alloc filter form how conditions answer = ((tt, tt, tt, (alloc, (filter, (form, (how, (conditions, (answer, tt)))))), (global_val alloc ∷ [], (ptr_val filter ∷ [], (vint w32 form ∷ [], (bytes_val how ∷ [], (ptr_val conditions ∷ [], (ptr_val answer ∷ [], tt))))))), l)

  abbrev Walk : Global → Ptr → ℕ → Bytes → Ptr → Ptr → Type 1
  Walk alloc filter form how conditions answer = Sq 𝓛 (‵ (flft l.lifetime l.share) ∷ ‵ (Borrowed filter how conditions answer) ∷ ‵ (GlobalRow.own_val alloc (global_val alloc ∷ [])) ∷ []) (prop (WpFn 𝓤 H C Λ code.function (global_val alloc ∷ ptr_val filter ∷ vint w32 form ∷ bytes_val how ∷ ptr_val conditions ∷ ptr_val answer ∷ []) (W.post (bound alloc filter form how conditions answer))))

  ends : (alloc : Global) (filter : Ptr) (form : ℕ) (how : Bytes) (conditions : Ptr) (answer : Ptr) (v : Val) (x : ℕ) → Sq 𝓛 (‵ (Left filter form how conditions answer x) ∷ ‵ (u32.own_val x (v ∷ [])) ∷ ‵ (flft l.lifetime l.share) ∷ []) (prop (W.post (bound alloc filter form how conditions answer) v))
  unfolding borrowed_by_new_sql left_by_new_sql
  ends alloc filter form how conditions answer v x = move ! (2 ∷ 0 ∷ []) $ join ! $ move ! (1 ∷ []) $ use0 𝓛 (‵ (trues 6)) (all_true 𝓛 6) $ nothing ! $
      by ! (leaves 𝓛 f.ended stayed (f.clauses 𝓛 at_mem run) (bound alloc filter form how conditions answer) v x (tt, (tt, (tt, (tt, (tt, (tt, tt)))))) (tt, (tt, (tt, (tt, (tt, (tt, tt)))))))

  -- with a null address nothing is called
  refused : (alloc : Global) (filter : Ptr) (form : ℕ) (how-at : Ptr) (how-length : ℕ) (conditions : Ptr) (answer : Ptr) → Typed GlobalRow.mir (global_val alloc ∷ []) → form < 2 ^ 32 → Typed BytesRow.mir (bytes_val (record { at = how-at; length = how-length }) ∷ []) → Testable filter → Testable how-at → Testable conditions → Testable answer → HasNull (filter ∷ conditions ∷ answer ∷ []) → Walk alloc filter form (record { at = how-at; length = how-length }) conditions answer
  refused alloc filter form how-at how-length conditions answer fits-alloc fits-form fits-how may-filter may-how may-conditions may-answer null =
      enter ! C Λ code.function (global_val alloc ∷ ptr_val filter ∷ vint w32 form ∷ bytes_val (record { at = how-at; length = how-length }) ∷ ptr_val conditions ∷ ptr_val answer ∷ []) _ $ alloc_all ! (λ c. pass_all ! refl (fits-alloc.0, ((good 𝓛 filter).0, ((tt, record { fits = fits-form }), (fits-how.0, ((good 𝓛 conditions).0, ((good 𝓛 answer).0, tt)))))) $
      tested ! filter none (get ! refl) may-filter refl (tt, tt) refl refl (tt, record { fits = lit< tt }) refl (λ _. free_all ! refl $ unchanged ! (filter ∷ conditions ∷ answer ∷ []) _ null (ends alloc filter form (record { at = how-at; length = how-length }) conditions answer (vint w32 1) 1)) (λ here-0.
      tested ! conditions (there_is _) (get ! refl) may-conditions refl (tt, tt) refl refl (tt, record { fits = lit< tt }) refl (λ _. free_all ! refl $ unchanged ! (filter ∷ conditions ∷ answer ∷ []) _ null (ends alloc filter form (record { at = how-at; length = how-length }) conditions answer (vint w32 1) 1)) (λ here-1.
      tested ! answer (there_is _) (get ! refl) may-answer refl (tt, tt) refl refl (tt, record { fits = lit< tt }) refl (λ _. free_all ! refl $ unchanged ! (filter ∷ conditions ∷ answer ∷ []) _ null (ends alloc filter form (record { at = how-at; length = how-length }) conditions answer (vint w32 1) 1)) (λ here-2.
      absurd (in_rest answer [] (in_rest conditions (answer ∷ []) (in_rest filter (conditions ∷ answer ∷ []) null here-0) here-1) here-2)))))

  runs : (alloc : Global) (filter : Ptr) (form : ℕ) (how-at : Ptr) (how-length : ℕ) (conditions : Ptr) (answer : Ptr) → Typed GlobalRow.mir (global_val alloc ∷ []) → form < 2 ^ 32 → Typed BytesRow.mir (bytes_val (record { at = how-at; length = how-length }) ∷ []) → Testable filter → Testable how-at → Testable conditions → Testable answer → Walk alloc filter form (record { at = how-at; length = how-length }) conditions answer
  runs alloc null_ptr form how-at how-length conditions answer fits-alloc fits-form fits-how may-filter may-how may-conditions may-answer = refused alloc null_ptr form how-at how-length conditions answer fits-alloc fits-form fits-how may-filter may-how may-conditions may-answer tt
  runs alloc (block_ptr b0 o0) form how-at how-length null_ptr answer fits-alloc fits-form fits-how may-filter may-how may-conditions may-answer = refused alloc (block_ptr b0 o0) form how-at how-length null_ptr answer fits-alloc fits-form fits-how may-filter may-how may-conditions may-answer tt
  runs alloc (block_ptr b0 o0) form how-at how-length (block_ptr b2 o2) null_ptr fits-alloc fits-form fits-how may-filter may-how may-conditions may-answer = refused alloc (block_ptr b0 o0) form how-at how-length (block_ptr b2 o2) null_ptr fits-alloc fits-form fits-how may-filter may-how may-conditions may-answer tt
  runs alloc (block_ptr b0 o0) form null_ptr how-length (block_ptr b2 o2) (block_ptr b3 o3) fits-alloc fits-form fits-how may-filter may-how may-conditions may-answer =
      move ! (1 ∷ []) $ fsplit ! $ move ! (1 ∷ []) $ fsplit ! $ move ! (1 ∷ []) $ fsplit ! $ move ! (1 ∷ []) $ enter ! C Λ code.function (global_val alloc ∷ vptr b0 o0 ∷ vint w32 form ∷ bytes_val (record { at = null_ptr; length = how-length }) ∷ vptr b2 o2 ∷ vptr b3 o3 ∷ []) _ $ alloc_all ! (λ c. pass_all ! refl (fits-alloc.0, ((good 𝓛 (block_ptr b0 o0)).0, ((tt, record { fits = fits-form }), (fits-how.0, ((good 𝓛 (block_ptr b2 o2)).0, ((good 𝓛 (block_ptr b3 o3)).0, tt)))))) $
      stands ! b0 o0 none (get ! refl) may-filter refl (tt, tt) refl $
      stands ! b2 o2 (there_is _) (get ! refl) may-conditions refl (tt, tt) refl $
      stands ! b3 o3 (there_is _) (get ! refl) may-answer refl (tt, tt) refl $
      compares ! null_ptr (there_is _) (get_in ! (fld ! refl (stop !)) (sub ! 0 refl (whole !))) may-how refl (tt, tt) $ closes ! $ branches ! (get ! refl) (λ _. hands ! _ _ $ inside ! _ _ _ $
      sets ! (of_opd ! (get ! refl)) refl (tt, tt) $ sets ! (addr ! (through ! refl (stop !))) refl (tt, tt) $
      sets ! (addr ! (through ! refl (stop !))) refl (tt, tt) $
      sets ! (addr ! (through ! refl (stop !))) refl (tt, tt) $
      move ! (2 ∷ []) $ drop ! $ nothing ! $ move ! (1 ∷ 0 ∷ []) $ fjoin ! $ move ! (1 ∷ 0 ∷ []) $ fjoin ! $ owned ! usize _ (uint_Makes 𝓛 w64) how-length _ (refl, fits-how.0.1.1.0.fits) $ fjoin ! $ owned ! u32 _ (uint_Makes 𝓛 w32) form _ (refl, fits-form) $ fjoin ! $ move ! (1 ∷ 0 ∷ []) $ fjoin ! $ move ! (2 ∷ 0 ∷ []) $ fjoin ! $ nothing ! $ move ! (2 ∷ 0 ∷ []) $ join ! $ join ! $ nothing ! $ move ! (1 ∷ 0 ∷ []) $
      let z : G-1.Ghost = (((l.lifetime, tt), (l.share, tt), tt, (alloc, (record { ref_ptr = (b0, o0); now = l.handle }, (form, (how-length, (record { ref_ptr = (b2, o2); ghost_name = l.made_name; now = l.made }, (record { ref_ptr = (b3, o3); ghost_name = l.answer_name; now = l.answer }, tt)))))), (global_val alloc ∷ [], (vptr b0 o0 ∷ [], (vint w32 form ∷ [], (vint w64 how-length ∷ [], (vptr b2 o2 ∷ [], (vptr b3 o3 ∷ [], tt))))))), tt) in
      use2 𝓛 (raw (G-1.pre z)) (id⊢ 𝓤 _) $ calls_at_last ! fm G-1 known-1 z (and_then ! (get ! refl) (and_then ! (get ! refl) (and_then ! (get ! refl) (and_then ! (get_in ! (fld ! refl (stop !)) (sub ! 1 refl (whole !))) (and_then ! (get ! refl) (and_then ! (get ! refl) (no_more !))))))) (λ v.
      use1 𝓛 (back 𝓛 g-1.ended (g-1.clauses 𝓛 at_mem run) z.0.0 z.0.3 z.1 l.lifetime l.share v) (id⊢ 𝓤 _) $
      await ! tt $ pick ! (λ x. split ! $ move ! (1 ∷ []) $ pick ! (λ ws. split ! $ move ! (1 ∷ []) $ heard ! (of_bytes null_ptr how-length l.bytes ((ws.1.1.1.1.0 ≡ l.made) × ((ws.1.1.1.1.1.0 ≡ l.answer) × (x ≡ 1))) (λ bytes. MakesSql l.handle form bytes ws.1.1.1.1.0 ws.1.1.1.1.1.0 x)) (λ reports.
      fsplit ! $ drop ! $ fsplit ! $ drop ! $ fsplit ! $ drop ! $ fsplit ! $ drop ! $ fsplit ! $ move ! (1 ∷ []) $ fsplit ! $ move ! (1 ∷ []) $ drop ! $ move ! (2 ∷ []) $ split ! $ split ! $ move ! (2 ∷ []) $ peeks ! u32 (Is u32) (shows 𝓛 u32) x (v ∷ []) (λ is. let fine = ((uint_Lawful 𝓛 w32).typed x _ is).0 in
      ends1 ! C Λ _ _ fine fine fine refl refl refl refl refl refl $ free_all ! refl $ keep ! (3 ∷ 4 ∷ 0 ∷ 1 ∷ []) $
      hold ! reports $ move ! (1 ∷ 0 ∷ []) $ fjoin ! $ move ! (1 ∷ 0 ∷ []) $ fjoin ! $
      fpack2 ! Owned Answer (λ conditions' answer'. fsep (left_made l (block_ptr b2 o2) conditions') (fsep (left_answer l (block_ptr b3 o3) answer') (holds (of_bytes null_ptr how-length l.bytes ((conditions' ≡ l.made) × ((answer' ≡ l.answer) × (x ≡ 1))) (λ bytes. MakesSql l.handle form bytes conditions' answer' x))))) ws.1.1.1.1.0 ws.1.1.1.1.1.0 $ ends alloc (block_ptr b0 o0) form (record { at = null_ptr; length = how-length }) (block_ptr b2 o2) (block_ptr b3 o3) v x)))))) (λ wrong. absurd wrong))
  runs alloc (block_ptr b0 o0) form (block_ptr b1 o1) how-length (block_ptr b2 o2) (block_ptr b3 o3) fits-alloc fits-form fits-how may-filter may-how may-conditions may-answer =
      move ! (1 ∷ []) $ fsplit ! $ move ! (1 ∷ []) $ fsplit ! $ move ! (1 ∷ []) $ fsplit ! $ move ! (1 ∷ []) $ enter ! C Λ code.function (global_val alloc ∷ vptr b0 o0 ∷ vint w32 form ∷ bytes_val (record { at = (block_ptr b1 o1); length = how-length }) ∷ vptr b2 o2 ∷ vptr b3 o3 ∷ []) _ $ alloc_all ! (λ c. pass_all ! refl (fits-alloc.0, ((good 𝓛 (block_ptr b0 o0)).0, ((tt, record { fits = fits-form }), (fits-how.0, ((good 𝓛 (block_ptr b2 o2)).0, ((good 𝓛 (block_ptr b3 o3)).0, tt)))))) $
      stands ! b0 o0 none (get ! refl) may-filter refl (tt, tt) refl $
      stands ! b2 o2 (there_is _) (get ! refl) may-conditions refl (tt, tt) refl $
      stands ! b3 o3 (there_is _) (get ! refl) may-answer refl (tt, tt) refl $
      compares ! (block_ptr b1 o1) (there_is _) (get_in ! (fld ! refl (stop !)) (sub ! 0 refl (whole !))) may-how refl (tt, tt) $ closes ! $ branches ! (get ! refl) (λ wrong. absurd wrong) (λ _. hands ! _ _ $ inside ! _ _ _ $
      sets ! (of_opd ! (get ! refl)) refl (tt, tt) $ sets ! (addr ! (through ! refl (stop !))) refl (tt, tt) $
      sets ! (agg ! (and_then ! (get_in ! (fld ! refl (stop !)) (sub ! 0 refl (whole !))) (and_then ! (get_in ! (fld ! refl (stop !)) (sub ! 1 refl (whole !))) (no_more !)))) refl (tt, (tt, (fits-how.0.1.1.0, tt))) $
      sets ! (addr ! (through ! refl (stop !))) refl (tt, tt) $
      sets ! (addr ! (through ! refl (stop !))) refl (tt, tt) $
      nothing ! $ move ! (1 ∷ 0 ∷ []) $ fjoin ! $ move ! (1 ∷ 0 ∷ []) $ fjoin ! $ move ! (1 ∷ 0 ∷ []) $ fjoin ! $ owned ! u32 _ (uint_Makes 𝓛 w32) form _ (refl, fits-form) $ fjoin ! $ move ! (1 ∷ 0 ∷ []) $ fjoin ! $ move ! (2 ∷ 0 ∷ []) $ fjoin ! $ nothing ! $ move ! (2 ∷ 0 ∷ []) $ join ! $ join ! $ nothing ! $ move ! (1 ∷ 0 ∷ []) $
      let z : G.Ghost = (((l.lifetime, tt), (l.share, tt), tt, (alloc, (record { ref_ptr = (b0, o0); now = l.handle }, (form, (record { ref_ptr = (b1, o1); now = l.bytes }, (record { ref_ptr = (b2, o2); ghost_name = l.made_name; now = l.made }, (record { ref_ptr = (b3, o3); ghost_name = l.answer_name; now = l.answer }, tt)))))), (global_val alloc ∷ [], (vptr b0 o0 ∷ [], (vint w32 form ∷ [], (slice_val (b1, o1) how-length ∷ [], (vptr b2 o2 ∷ [], (vptr b3 o3 ∷ [], tt))))))), tt) in
      use2 𝓛 (raw (G.pre z)) (id⊢ 𝓤 _) $ calls_at_last ! fm G known z (and_then ! (get ! refl) (and_then ! (get ! refl) (and_then ! (get ! refl) (and_then ! (get ! refl) (and_then ! (get ! refl) (and_then ! (get ! refl) (no_more !))))))) (λ v.
      use1 𝓛 (back 𝓛 g.ended (g.clauses 𝓛 at_mem run) z.0.0 z.0.3 z.1 l.lifetime l.share v) (id⊢ 𝓤 _) $
      await ! tt $ pick ! (λ x. split ! $ move ! (1 ∷ []) $ pick ! (λ ws. split ! $ move ! (1 ∷ []) $ heard ! (of_bytes (block_ptr b1 o1) how-length l.bytes ((ws.1.1.1.1.0 ≡ l.made) × ((ws.1.1.1.1.1.0 ≡ l.answer) × (x ≡ 1))) (λ bytes. MakesSql l.handle form bytes ws.1.1.1.1.0 ws.1.1.1.1.1.0 x)) (λ reports.
      fsplit ! $ drop ! $ fsplit ! $ drop ! $ fsplit ! $ drop ! $ fsplit ! $ drop ! $ fsplit ! $ move ! (1 ∷ []) $ fsplit ! $ move ! (1 ∷ []) $ drop ! $ move ! (2 ∷ []) $ split ! $ split ! $ move ! (2 ∷ []) $ peeks ! u32 (Is u32) (shows 𝓛 u32) x (v ∷ []) (λ is. let fine = ((uint_Lawful 𝓛 w32).typed x _ is).0 in
      ends1 ! C Λ _ _ fine fine fine refl refl refl refl refl refl $ free_all ! refl $ keep ! (3 ∷ 4 ∷ 0 ∷ 1 ∷ []) $
      hold ! reports $ move ! (1 ∷ 0 ∷ []) $ fjoin ! $ move ! (1 ∷ 0 ∷ []) $ fjoin ! $
      fpack2 ! Owned Answer (λ conditions' answer'. fsep (left_made l (block_ptr b2 o2) conditions') (fsep (left_answer l (block_ptr b3 o3) answer') (holds (of_bytes (block_ptr b1 o1) how-length l.bytes ((conditions' ≡ l.made) × ((answer' ≡ l.answer) × (x ≡ 1))) (λ bytes. MakesSql l.handle form bytes conditions' answer' x))))) ws.1.1.1.1.0 ws.1.1.1.1.1.0 $ ends alloc (block_ptr b0 o0) form (record { at = (block_ptr b1 o1); length = how-length }) (block_ptr b2 o2) (block_ptr b3 o3) v x)))))))

pub odfilter_new_sql_spec : {M : Type 1} → statement M
unfolding borrowed_by_new_sql
odfilter_new_sql_spec 𝓤 𝓛 𝓜 𝓡 wired =
    let c = f.clauses 𝓛 𝓜.mem 𝓡.returns in let 𝓣 = tables 𝓤 𝓛.H 𝓜 𝓡 𝓡.env in
    proved 𝓛 f.ended stayed c 𝓜 𝓡 (Goes-dropped 𝓛 0 (plain (λ _. GlobalRow)) yes (λ κs x w. refl), (Goes-dropped 𝓛 0 (plain (λ _. RawPtr)) yes (λ κs x w. refl), (Goes-dropped 𝓛 0 (plain (λ _. u32)) yes (λ κs x w. refl), (Goes-dropped 𝓛 0 (plain (λ _. BytesRow)) yes (λ κs x w. refl), (Goes-dropped 𝓛 0 (plain (λ _. RawPtr)) yes (λ κs x w. refl), (Goes-dropped 𝓛 0 (plain (λ _. RawPtr)) yes (λ κs x w. refl), tt))))))
    f.Key.name code.function (code.unfolded 𝓤 𝓛.H 𝓜 𝓡 wired)
    (λ κs. ((λ g. global_val g ∷ []), (rawptr_vals, (uint_vals w32, ((λ s. bytes_val s ∷ []), (rawptr_vals, (rawptr_vals, tt))))))) (λ κs. (global_lowers.val_is, (rawptr_Tells, (uint_Tells w32, (bytes_lowers.val_is, (rawptr_Tells, (rawptr_Tells, tt))))))) (λ κs qs bounds a l are.
    qed 𝓛 ((‵ ftrue ⊛ ‵ (owns (types_at f.signature.params κs) a (global_val a.0 ∷ [], (rawptr_vals a.1.0, (vint w32 a.1.1.0 ∷ [], (bytes_val a.1.1.1.0 ∷ [], (rawptr_vals a.1.1.1.1.0, (rawptr_vals a.1.1.1.1.1.0, tt)))))))) ∷ (raw (fact 𝓤 (Testable a.1.0 × Testable a.1.1.1.0.at × Testable a.1.1.1.1.0 × Testable a.1.1.1.1.1.0)) ⊛ (‵ (flft l.lifetime l.share) ⊛ ‵ (borrowed_by_new_sql l a.1.0 a.1.1.1.0 a.1.1.1.1.0 a.1.1.1.1.1.0))) ∷ []) ∵
    split ! $ drop ! $ fsplit ! $ move ! (1 ∷ []) $ drop ! $ move ! (1 ∷ []) $ split ! $ heard ! _ (λ may. split ! $
    runs 𝓛 𝓜.mem 𝓡.returns 𝓣.C 𝓣.Λ (framed 𝓤 𝓛.H 𝓜 𝓣) (met 𝓤 𝓛 𝓜 𝓡 (code.calls-report_calls::calls::new_sql 𝓡.env wired)) (met-1 𝓤 𝓛 𝓜 𝓡 (code.calls-odfilter_c::null_calls::new_sql_at_null 𝓡.env wired)) l a.0 a.1.0 a.1.1.0 a.1.1.1.0.at a.1.1.1.0.length a.1.1.1.1.0 a.1.1.1.1.1.0 ((global_laws.lawful 𝓛).typed a.0 _ are.0) are.1.1.0.1 ((bytes_laws.lawful 𝓛).typed a.1.1.1.0 _ are.1.1.1.0) may.0 may.1 may.2 may.3))
