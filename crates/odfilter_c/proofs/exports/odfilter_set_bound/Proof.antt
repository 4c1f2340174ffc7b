-- `set_bound` meets its contract: the addresses are tested one by one, and the call borrows what they point to.
use Rattle.odfilter_c.proofs.Steps.{ℕ, ◌<◌, ◌^◌, [], ◌∷◌, refl, lit<, w32, w64, proved, leaves, none, Ura, SProp, id⊢, fsep, flft, Val, vint, vptr, Memory, Routine, WpFn, Calls, Loops, Fun, fact, tables, FmC, Logic, ‵, raw, ◌⊛◌, prop, Sq, ◌$◌, ◌∵◌, !, qed, move, keep, drop, use0, use1, use2, split, join, fsplit, fjoin, fpack, pick, await, by, enter, of_opd, addr, stop, no_more, and_then, alloc_all, pass_all, free_all, get, through, sets, u32, u64, yes, Is, shows, uint_Makes, uint_Lawful, uint_vals, uint_Tells, Ptr, RawPtr, block_ptr, null_ptr, ptr_val, Testable, rawptr_vals, rawptr_Tells, plain, nothing, owned, heard, peeks, Contract, Triple, calls_at_last, on_entry, triple_of, Stays, walk_of, stay_dropped, Goes-dropped, framed, Handle, HasNull, in_rest, trues, good, all_true, back, hold, unchanged, stands, tested, closes, inside, ends0}
use Rattle.odfilter_c.specs.Loans.{Loan, left_judge, holds, borrowed_judge, unless_null}
use Rattle.odfilter_c.specs.Exports.{borrowed_by_set_bound, left_by_set_bound}
use Rattle.handle_calls.specs.RowReports.{SetsBound}
use Rattle.handle_calls.specs.contracts.calls.set_bound as g
use Rattle.handle_calls.proofs.calls.set_bound.Symbol.{name as #call}
use Rattle.handle_calls.proofs.calls.set_bound.Met.{met as met}
use Rattle.odfilter_c.specs.contracts.exports.odfilter_set_bound as f
use Rattle.odfilter_c.proofs.exports.odfilter_set_bound.Statement.{statement}
use base.Fml.{Fml, feq, fex}
use Rattle.odfilter_c.proofs.exports.odfilter_set_bound.Code as code

abbrev stayed : Stays f.ended.signature.params f.ended.kept
stayed = (stay_dropped _ yes, (stay_dropped _ yes, tt))

module _ {M : Type 1} {𝓤 : Ura M} (𝓛 : Logic 𝓤) (at_mem : Memory → SProp 𝓤) (run : Routine → Fun 𝓤) (C : Calls 𝓤 𝓛.H) (Λ : Loops 𝓤 𝓛.H) (fm : FmC 𝓤 𝓛.H 𝓛.laws C)
    (known : Triple 𝓤 (C #call) (triple_of 𝓛 g.signature (g.spec 𝓛 at_mem run))) (l : Loan) where
  open 𝓛 use {H}

  -- what the call borrows, and what it leaves
  abbrev Borrowed : Ptr → Fml
  Borrowed judge = borrowed_judge l judge

  abbrev Left : Ptr → ℕ → ℕ → Fml
  Left judge most result = unless_null (judge ∷ [])
      (fsep (feq ℕ result 1) (Borrowed judge))
      (fex Handle (λ judge'.
      fsep (left_judge l judge judge') (holds (SetsBound l.judge judge' most result))))

  abbrev G : Contract 𝓤
  G = triple_of 𝓛 g.signature (g.spec 𝓛 at_mem run)

  abbrev W : Contract 𝓤
  W = walk_of 𝓛 f.ended stayed (f.clauses 𝓛 at_mem run)

  abbrev bound : Ptr → ℕ → W.Ghost
  bound judge most = ((tt, tt, tt, (judge, (most, tt)), (ptr_val judge ∷ [], (vint w64 most ∷ [], tt))), l)

  abbrev Walk : Ptr → ℕ → Type 1
  Walk judge most = Sq 𝓛 (‵ (flft l.lifetime l.share) ∷ ‵ (Borrowed judge) ∷ []) (prop (WpFn 𝓤 H C Λ code.function (ptr_val judge ∷ vint w64 most ∷ []) (W.post (bound judge most))))

  ends : (judge : Ptr) (most : ℕ) (v : Val) (x : ℕ) → Sq 𝓛 (‵ (Left judge most x) ∷ ‵ (u32.own_val x (v ∷ [])) ∷ ‵ (flft l.lifetime l.share) ∷ []) (prop (W.post (bound judge most) v))
  unfolding borrowed_by_set_bound left_by_set_bound
  ends judge most v x = move ! (2 ∷ 0 ∷ []) $ join ! $ move ! (1 ∷ []) $ use0 𝓛 (‵ (trues 2)) (all_true 𝓛 2) $ nothing ! $
      by ! (leaves 𝓛 f.ended stayed (f.clauses 𝓛 at_mem run) (bound judge most) v x (tt, (tt, tt)) (tt, (tt, tt)))

  -- with a null address nothing is called
  refused : (judge : Ptr) (most : ℕ) → most < 2 ^ 64 → Testable judge → HasNull (judge ∷ []) → Walk judge most
  refused judge most fits-most may-judge null =
      enter ! C Λ code.function (ptr_val judge ∷ vint w64 most ∷ []) _ $ alloc_all ! (λ c. pass_all ! refl ((good 𝓛 judge).0, ((tt, record { fits = fits-most }), tt)) $
      tested ! judge none (get ! refl) may-judge refl (tt, tt) refl refl (tt, record { fits = lit< tt }) refl (λ _. free_all ! refl $ unchanged ! (judge ∷ []) _ null (ends judge most (vint w32 1) 1)) (λ here-0.
      absurd (in_rest judge [] null here-0)))

  runs : (judge : Ptr) (most : ℕ) → most < 2 ^ 64 → Testable judge → Walk judge most
  runs null_ptr most fits-most may-judge = refused null_ptr most fits-most may-judge tt
  runs (block_ptr b0 o0) most fits-most may-judge =
      move ! (1 ∷ []) $ enter ! C Λ code.function (vptr b0 o0 ∷ vint w64 most ∷ []) _ $ alloc_all ! (λ c. pass_all ! refl ((good 𝓛 (block_ptr b0 o0)).0, ((tt, record { fits = fits-most }), tt)) $
      stands ! b0 o0 none (get ! refl) may-judge refl (tt, tt) refl $
      closes ! $ inside ! _ _ _ $
      sets ! (of_opd ! (get ! refl)) refl (tt, tt) $ sets ! (addr ! (through ! refl (stop !))) refl (tt, tt) $
      nothing ! $ owned ! u64 _ (uint_Makes 𝓛 w64) most _ (refl, fits-most) $ fjoin ! $ move ! (1 ∷ 0 ∷ []) $ fjoin ! $ nothing ! $ move ! (2 ∷ 0 ∷ []) $ join ! $ join ! $ nothing ! $ move ! (1 ∷ 0 ∷ []) $
      let z : G.Ghost = (((l.lifetime, tt), (l.share, tt), tt, (record { ref_ptr = (b0, o0); ghost_name = l.judge_name; now = l.judge }, (most, tt)), (vptr b0 o0 ∷ [], (vint w64 most ∷ [], tt))), tt) in
      use2 𝓛 (raw (G.pre z)) (id⊢ 𝓤 _) $ calls_at_last ! fm G known z (and_then ! (get ! refl) (and_then ! (get ! refl) (no_more !))) (λ v.
      use1 𝓛 (back 𝓛 g.ended (g.clauses 𝓛 at_mem run) z.0.0 z.0.3 z.1 l.lifetime l.share v) (id⊢ 𝓤 _) $
      await ! tt $ pick ! (λ x. split ! $ move ! (1 ∷ []) $ pick ! (λ ws. split ! $ move ! (1 ∷ []) $ heard ! (SetsBound l.judge ws.0 most x) (λ reports.
      fsplit ! $ move ! (1 ∷ []) $ fsplit ! $ drop ! $ drop ! $ move ! (1 ∷ []) $ split ! $ split ! $ move ! (2 ∷ []) $ peeks ! u32 (Is u32) (shows 𝓛 u32) x (v ∷ []) (λ is. let fine = ((uint_Lawful 𝓛 w32).typed x _ is).0 in
      ends0 ! C Λ _ fine fine refl refl refl refl $ free_all ! refl $ keep ! (3 ∷ 0 ∷ 1 ∷ []) $
      hold ! reports $ move ! (1 ∷ 0 ∷ []) $ fjoin ! $
      fpack ! Handle (λ judge'. fsep (left_judge l (block_ptr b0 o0) judge') (holds (SetsBound l.judge judge' most x))) ws.0 $ ends (block_ptr b0 o0) most v x))))))

pub odfilter_set_bound_spec : {M : Type 1} → statement M
unfolding borrowed_by_set_bound
odfilter_set_bound_spec 𝓤 𝓛 𝓜 𝓡 wired =
    let c = f.clauses 𝓛 𝓜.mem 𝓡.returns in let 𝓣 = tables 𝓤 𝓛.H 𝓜 𝓡 𝓡.env in
    proved 𝓛 f.ended stayed c 𝓜 𝓡 (Goes-dropped 𝓛 0 (plain (λ _. RawPtr)) yes (λ κs x w. refl), (Goes-dropped 𝓛 0 (plain (λ _. u64)) yes (λ κs x w. refl), tt))
    f.Key.name code.function (code.unfolded 𝓤 𝓛.H 𝓜 𝓡 wired)
    (λ κs. (rawptr_vals, (uint_vals w64, tt))) (λ κs. (rawptr_Tells, (uint_Tells w64, tt))) (λ κs qs bounds a l are.
    qed 𝓛 (raw (on_entry 𝓛 f.signature κs qs a (rawptr_vals a.0, (vint w64 a.1.0 ∷ [], tt))) ∷ (raw (fact 𝓤 (Testable a.0)) ⊛ (‵ (flft l.lifetime l.share) ⊛ ‵ (borrowed_by_set_bound l a.0))) ∷ []) ∵
    drop ! $ split ! $ heard ! _ (λ may. split ! $
    runs 𝓛 𝓜.mem 𝓡.returns 𝓣.C 𝓣.Λ (framed 𝓤 𝓛.H 𝓜 𝓣) (met 𝓤 𝓛 𝓜 𝓡 (code.calls-handle_calls::calls::set_bound 𝓡.env wired)) l a.0 a.1.0 are.1.0.1 may))
