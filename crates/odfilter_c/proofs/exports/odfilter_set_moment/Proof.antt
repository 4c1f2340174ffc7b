-- `set_moment` meets its contract: the addresses are tested one by one, and the call borrows what they point to.
use Rattle.odfilter_c.proofs.Steps.{◌≡◌, ℕ, ◌<◌, [], ◌∷◌, refl, lit<, w32, w64, proved, leaves, none, there_is, Ura, SProp, id⊢, fsep, flft, Val, vint, vptr, Memory, Routine, WpFn, Calls, Loops, Fun, fact, tables, FmC, Logic, ‵, raw, ◌⊛◌, prop, Sq, ◌$◌, ◌∵◌, !, qed, move, keep, drop, use0, use1, use2, split, join, fsplit, fjoin, fpack, pick, await, by, enter, of_opd, addr, stop, fld, no_more, and_then, branches, agg, sub, whole, alloc_all, pass_all, free_all, get, get_in, through, sets, u32, usize, yes, Typed, Is, shows, uint_Makes, uint_Lawful, Ptr, RawPtr, block_ptr, null_ptr, ptr_val, Testable, rawptr_vals, rawptr_Tells, slice_val, plain, nothing, owned, heard, peeks, Contract, Triple, calls_at_last, on_entry, triple_of, Stays, walk_of, stay_dropped, Goes-dropped, framed, Bytes, BytesRow, bytes_lowers, bytes_val, bytes_laws, Handle, HasNull, in_rest, trues, good, all_true, back, hold, unchanged, compares, stands, tested, closes, hands, inside, ends1}
use Rattle.odfilter_c.specs.Loans.{Loan, left_judge, of_bytes, holds, borrowed_judge, borrowed_bytes, unless_null}
use Rattle.odfilter_c.specs.Exports.{borrowed_by_set_moment, left_by_set_moment}
use Rattle.handle_calls.specs.RowReports.{SetsMoment}
use Rattle.handle_calls.specs.contracts.calls.set_moment as g
use Rattle.handle_calls.proofs.calls.set_moment.Symbol.{name as #call}
use Rattle.handle_calls.proofs.calls.set_moment.Met.{met as met}
use Rattle.odfilter_c.specs.contracts.null_calls.set_moment_at_null as g-1
use Rattle.odfilter_c.proofs.null_calls.set_moment_at_null.Symbol.{name as #call-1}
use Rattle.odfilter_c.proofs.null_calls.set_moment_at_null.Met.{met as met-1}
use Rattle.odfilter_c.specs.contracts.exports.odfilter_set_moment as f
use Rattle.odfilter_c.proofs.exports.odfilter_set_moment.Statement.{statement}
use base.Fml.{Fml, feq, fex}
use Rattle.odfilter_c.proofs.exports.odfilter_set_moment.Code as code

abbrev stayed : Stays f.ended.signature.params f.ended.kept
stayed = (stay_dropped _ yes, (stay_dropped _ yes, tt))

module _ {M : Type 1} {𝓤 : Ura M} (𝓛 : Logic 𝓤) (at_mem : Memory → SProp 𝓤) (run : Routine → Fun 𝓤) (C : Calls 𝓤 𝓛.H) (Λ : Loops 𝓤 𝓛.H) (fm : FmC 𝓤 𝓛.H 𝓛.laws C)
    (known : Triple 𝓤 (C #call) (triple_of 𝓛 g.signature (g.spec 𝓛 at_mem run)))
    (known-1 : Triple 𝓤 (C #call-1) (triple_of 𝓛 g-1.signature (g-1.spec 𝓛 at_mem run))) (l : Loan) where
  open 𝓛 use {H}

  -- what the call borrows, and what it leaves
  abbrev Borrowed : Ptr → Bytes → Fml
  Borrowed judge moment = fsep (borrowed_judge l judge) (borrowed_bytes l moment)

  abbrev Left : Ptr → Bytes → ℕ → Fml
  Left judge moment result = unless_null (judge ∷ [])
      (fsep (feq ℕ result 1) (Borrowed judge moment))
      (fex Handle (λ judge'.
      fsep (left_judge l judge judge')
      (holds (of_bytes moment.at moment.length l.bytes ((judge' ≡ l.judge) × (result ≡ 1))
      (λ bytes. SetsMoment l.judge judge' bytes result)))))

  abbrev G : Contract 𝓤
  G = triple_of 𝓛 g.signature (g.spec 𝓛 at_mem run)

  abbrev G-1 : Contract 𝓤
  G-1 = triple_of 𝓛 g-1.signature (g-1.spec 𝓛 at_mem run)

  abbrev W : Contract 𝓤
  W = walk_of 𝓛 f.ended stayed (f.clauses 𝓛 at_mem run)

  abbrev bound : Ptr → Bytes → W.Ghost
  bound judge moment = ((tt, tt, tt, (judge, (moment, tt)), (ptr_val judge ∷ [], (bytes_val moment ∷ [], tt))), l)

  abbrev Walk : Ptr → Bytes → Type 1
  Walk judge moment = Sq 𝓛 (‵ (flft l.lifetime l.share) ∷ ‵ (Borrowed judge moment) ∷ []) (prop (WpFn 𝓤 H C Λ code.function (ptr_val judge ∷ bytes_val moment ∷ []) (W.post (bound judge moment))))

  ends : (judge : Ptr) (moment : Bytes) (v : Val) (x : ℕ) → Sq 𝓛 (‵ (Left judge moment x) ∷ ‵ (u32.own_val x (v ∷ [])) ∷ ‵ (flft l.lifetime l.share) ∷ []) (prop (W.post (bound judge moment) v))
  unfolding borrowed_by_set_moment left_by_set_moment
  ends judge moment v x = move ! (2 ∷ 0 ∷ []) $ join ! $ move ! (1 ∷ []) $ use0 𝓛 (‵ (trues 2)) (all_true 𝓛 2) $ nothing ! $
      by ! (leaves 𝓛 f.ended stayed (f.clauses 𝓛 at_mem run) (bound judge moment) v x (tt, (tt, tt)) (tt, (tt, tt)))

  -- with a null address nothing is called
  refused : (judge : Ptr) (moment-at : Ptr) (moment-length : ℕ) → Typed BytesRow.mir (bytes_val (record { at = moment-at; length = moment-length }) ∷ []) → Testable judge → Testable moment-at → HasNull (judge ∷ []) → Walk judge (record { at = moment-at; length = moment-length })
  refused judge moment-at moment-length fits-moment may-judge may-moment null =
      enter ! C Λ code.function (ptr_val judge ∷ bytes_val (record { at = moment-at; length = moment-length }) ∷ []) _ $ alloc_all ! (λ c. pass_all ! refl ((good 𝓛 judge).0, (fits-moment.0, tt)) $
      tested ! judge none (get ! refl) may-judge refl (tt, tt) refl refl (tt, record { fits = lit< tt }) refl (λ _. free_all ! refl $ unchanged ! (judge ∷ []) _ null (ends judge (record { at = moment-at; length = moment-length }) (vint w32 1) 1)) (λ here-0.
      absurd (in_rest judge [] null here-0)))

  runs : (judge : Ptr) (moment-at : Ptr) (moment-length : ℕ) → Typed BytesRow.mir (bytes_val (record { at = moment-at; length = moment-length }) ∷ []) → Testable judge → Testable moment-at → Walk judge (record { at = moment-at; length = moment-length })
  runs null_ptr moment-at moment-length fits-moment may-judge may-moment = refused null_ptr moment-at moment-length fits-moment may-judge may-moment tt
  runs (block_ptr b0 o0) null_ptr moment-length fits-moment may-judge may-moment =
      move ! (1 ∷ []) $ fsplit ! $ move ! (1 ∷ []) $ enter ! C Λ code.function (vptr b0 o0 ∷ bytes_val (record { at = null_ptr; length = moment-length }) ∷ []) _ $ alloc_all ! (λ c. pass_all ! refl ((good 𝓛 (block_ptr b0 o0)).0, (fits-moment.0, tt)) $
      stands ! b0 o0 none (get ! refl) may-judge refl (tt, tt) refl $
      compares ! null_ptr (there_is _) (get_in ! (fld ! refl (stop !)) (sub ! 0 refl (whole !))) may-moment refl (tt, tt) $ closes ! $ branches ! (get ! refl) (λ _. hands ! _ _ $ inside ! _ _ _ $
      sets ! (of_opd ! (get ! refl)) refl (tt, tt) $ sets ! (addr ! (through ! refl (stop !))) refl (tt, tt) $
      drop ! $ nothing ! $ owned ! usize _ (uint_Makes 𝓛 w64) moment-length _ (refl, fits-moment.0.1.1.0.fits) $ fjoin ! $ move ! (1 ∷ 0 ∷ []) $ fjoin ! $ nothing ! $ move ! (2 ∷ 0 ∷ []) $ join ! $ join ! $ nothing ! $ move ! (1 ∷ 0 ∷ []) $
      let z : G-1.Ghost = (((l.lifetime, tt), (l.share, tt), tt, (record { ref_ptr = (b0, o0); ghost_name = l.judge_name; now = l.judge }, (moment-length, tt)), (vptr b0 o0 ∷ [], (vint w64 moment-length ∷ [], tt))), tt) in
      use2 𝓛 (raw (G-1.pre z)) (id⊢ 𝓤 _) $ calls_at_last ! fm G-1 known-1 z (and_then ! (get ! refl) (and_then ! (get_in ! (fld ! refl (stop !)) (sub ! 1 refl (whole !))) (no_more !))) (λ v.
      use1 𝓛 (back 𝓛 g-1.ended (g-1.clauses 𝓛 at_mem run) z.0.0 z.0.3 z.1 l.lifetime l.share v) (id⊢ 𝓤 _) $
      await ! tt $ pick ! (λ x. split ! $ move ! (1 ∷ []) $ pick ! (λ ws. split ! $ move ! (1 ∷ []) $ heard ! (of_bytes null_ptr moment-length l.bytes ((ws.0 ≡ l.judge) × (x ≡ 1)) (λ bytes. SetsMoment l.judge ws.0 bytes x)) (λ reports.
      fsplit ! $ move ! (1 ∷ []) $ fsplit ! $ drop ! $ drop ! $ move ! (1 ∷ []) $ split ! $ split ! $ move ! (2 ∷ []) $ peeks ! u32 (Is u32) (shows 𝓛 u32) x (v ∷ []) (λ is. let fine = ((uint_Lawful 𝓛 w32).typed x _ is).0 in
      ends1 ! C Λ _ _ fine fine fine refl refl refl refl refl refl $ free_all ! refl $ keep ! (3 ∷ 0 ∷ 1 ∷ []) $
      hold ! reports $ move ! (1 ∷ 0 ∷ []) $ fjoin ! $
      fpack ! Handle (λ judge'. fsep (left_judge l (block_ptr b0 o0) judge') (holds (of_bytes null_ptr moment-length l.bytes ((judge' ≡ l.judge) × (x ≡ 1)) (λ bytes. SetsMoment l.judge judge' bytes x)))) ws.0 $ ends (block_ptr b0 o0) (record { at = null_ptr; length = moment-length }) v x)))))) (λ wrong. absurd wrong))
  runs (block_ptr b0 o0) (block_ptr b1 o1) moment-length fits-moment may-judge may-moment =
      move ! (1 ∷ []) $ fsplit ! $ move ! (1 ∷ []) $ enter ! C Λ code.function (vptr b0 o0 ∷ bytes_val (record { at = (block_ptr b1 o1); length = moment-length }) ∷ []) _ $ alloc_all ! (λ c. pass_all ! refl ((good 𝓛 (block_ptr b0 o0)).0, (fits-moment.0, tt)) $
      stands ! b0 o0 none (get ! refl) may-judge refl (tt, tt) refl $
      compares ! (block_ptr b1 o1) (there_is _) (get_in ! (fld ! refl (stop !)) (sub ! 0 refl (whole !))) may-moment refl (tt, tt) $ closes ! $ branches ! (get ! refl) (λ wrong. absurd wrong) (λ _. hands ! _ _ $ inside ! _ _ _ $
      sets ! (of_opd ! (get ! refl)) refl (tt, tt) $ sets ! (addr ! (through ! refl (stop !))) refl (tt, tt) $
      sets ! (agg ! (and_then ! (get_in ! (fld ! refl (stop !)) (sub ! 0 refl (whole !))) (and_then ! (get_in ! (fld ! refl (stop !)) (sub ! 1 refl (whole !))) (no_more !)))) refl (tt, (tt, (fits-moment.0.1.1.0, tt))) $
      nothing ! $ move ! (1 ∷ 0 ∷ []) $ fjoin ! $ move ! (1 ∷ 0 ∷ []) $ fjoin ! $ nothing ! $ move ! (2 ∷ 0 ∷ []) $ join ! $ join ! $ nothing ! $ move ! (1 ∷ 0 ∷ []) $
      let z : G.Ghost = (((l.lifetime, tt), (l.share, tt), tt, (record { ref_ptr = (b0, o0); ghost_name = l.judge_name; now = l.judge }, (record { ref_ptr = (b1, o1); now = l.bytes }, tt)), (vptr b0 o0 ∷ [], (slice_val (b1, o1) moment-length ∷ [], tt))), tt) in
      use2 𝓛 (raw (G.pre z)) (id⊢ 𝓤 _) $ calls_at_last ! fm G known z (and_then ! (get ! refl) (and_then ! (get ! refl) (no_more !))) (λ v.
      use1 𝓛 (back 𝓛 g.ended (g.clauses 𝓛 at_mem run) z.0.0 z.0.3 z.1 l.lifetime l.share v) (id⊢ 𝓤 _) $
      await ! tt $ pick ! (λ x. split ! $ move ! (1 ∷ []) $ pick ! (λ ws. split ! $ move ! (1 ∷ []) $ heard ! (of_bytes (block_ptr b1 o1) moment-length l.bytes ((ws.0 ≡ l.judge) × (x ≡ 1)) (λ bytes. SetsMoment l.judge ws.0 bytes x)) (λ reports.
      fsplit ! $ move ! (1 ∷ []) $ fsplit ! $ drop ! $ drop ! $ move ! (1 ∷ []) $ split ! $ split ! $ move ! (2 ∷ []) $ peeks ! u32 (Is u32) (shows 𝓛 u32) x (v ∷ []) (λ is. let fine = ((uint_Lawful 𝓛 w32).typed x _ is).0 in
      ends1 ! C Λ _ _ fine fine fine refl refl refl refl refl refl $ free_all ! refl $ keep ! (3 ∷ 0 ∷ 1 ∷ []) $
      hold ! reports $ move ! (1 ∷ 0 ∷ []) $ fjoin ! $
      fpack ! Handle (λ judge'. fsep (left_judge l (block_ptr b0 o0) judge') (holds (of_bytes (block_ptr b1 o1) moment-length l.bytes ((judge' ≡ l.judge) × (x ≡ 1)) (λ bytes. SetsMoment l.judge judge' bytes x)))) ws.0 $ ends (block_ptr b0 o0) (record { at = (block_ptr b1 o1); length = moment-length }) v x)))))))

pub odfilter_set_moment_spec : {M : Type 1} → statement M
unfolding borrowed_by_set_moment
odfilter_set_moment_spec 𝓤 𝓛 𝓜 𝓡 wired =
    let c = f.clauses 𝓛 𝓜.mem 𝓡.returns in let 𝓣 = tables 𝓤 𝓛.H 𝓜 𝓡 𝓡.env in
    proved 𝓛 f.ended stayed c 𝓜 𝓡 (Goes-dropped 𝓛 0 (plain (λ _. RawPtr)) yes (λ κs x w. refl), (Goes-dropped 𝓛 0 (plain (λ _. BytesRow)) yes (λ κs x w. refl), tt))
    f.Key.name code.function (code.unfolded 𝓤 𝓛.H 𝓜 𝓡 wired)
    (λ κs. (rawptr_vals, ((λ s. bytes_val s ∷ []), tt))) (λ κs. (rawptr_Tells, (bytes_lowers.val_is, tt))) (λ κs qs bounds a l are.
    qed 𝓛 (raw (on_entry 𝓛 f.signature κs qs a (rawptr_vals a.0, (bytes_val a.1.0 ∷ [], tt))) ∷ (raw (fact 𝓤 (Testable a.0 × Testable a.1.0.at)) ⊛ (‵ (flft l.lifetime l.share) ⊛ ‵ (borrowed_by_set_moment l a.0 a.1.0))) ∷ []) ∵
    drop ! $ split ! $ heard ! _ (λ may. split ! $
    runs 𝓛 𝓜.mem 𝓡.returns 𝓣.C 𝓣.Λ (framed 𝓤 𝓛.H 𝓜 𝓣) (met 𝓤 𝓛 𝓜 𝓡 (code.calls-handle_calls::calls::set_moment 𝓡.env wired)) (met-1 𝓤 𝓛 𝓜 𝓡 (code.calls-odfilter_c::null_calls::set_moment_at_null 𝓡.env wired)) l a.0 a.1.0.at a.1.0.length ((bytes_laws.lawful 𝓛).typed a.1.0 _ are.1.0) may.0 may.1))
