-- `free` meets its contract: the addresses are tested one by one, and the call borrows what they point to.
use Rattle.odfilter_c.proofs.Steps.{ℕ, ◌<◌, [], ◌∷◌, refl, lit<, w32, proved, leaves, none, Ura, SProp, id⊢, ftrue, fsep, flft, Val, vint, vptr, Memory, Routine, WpFn, Calls, Loops, Fun, fact, tables, FmC, Logic, ‵, raw, ◌⊛◌, prop, Sq, ◌$◌, ◌∵◌, !, qed, move, keep, drop, use0, use1, use2, split, join, fsplit, fjoin, fpack, pick, await, by, enter, addr, stop, no_more, and_then, alloc_all, pass_all, free_all, get, through, sets, u32, yes, Typed, Is, shows, uint_Lawful, Ptr, RawPtr, block_ptr, null_ptr, ptr_val, Testable, rawptr_vals, rawptr_Tells, owns, types_at, plain, nothing, heard, peeks, Contract, Triple, calls_at_last, triple_of, Stays, walk_of, stay_dropped, Goes-dropped, framed, Global, GlobalRow, global_lowers, global_val, global_laws, Owned, HasNull, in_rest, trues, good, all_true, back, hold, unchanged, stands, tested, closes, inside, ends0}
use Rattle.odfilter_c.specs.Loans.{Loan, left_made, holds, borrowed_made, unless_null}
use Rattle.odfilter_c.specs.Exports.{borrowed_by_free, left_by_free}
use Rattle.handle_calls.specs.Reports.{Frees}
use Rattle.handle_calls.specs.contracts.calls.free as g
use Rattle.handle_calls.proofs.calls.free.Symbol.{name as #call}
use Rattle.handle_calls.proofs.calls.free.Met.{met as met}
use Rattle.odfilter_c.specs.contracts.exports.odfilter_free as f
use Rattle.odfilter_c.proofs.exports.odfilter_free.Statement.{statement}
use base.Fml.{Fml, feq, fex}
use Rattle.odfilter_c.proofs.exports.odfilter_free.Code as code

abbrev stayed : Stays f.ended.signature.params f.ended.kept
stayed = (stay_dropped _ yes, (stay_dropped _ yes, tt))

module _ {M : Type 1} {𝓤 : Ura M} (𝓛 : Logic 𝓤) (at_mem : Memory → SProp 𝓤) (run : Routine → Fun 𝓤) (C : Calls 𝓤 𝓛.H) (Λ : Loops 𝓤 𝓛.H) (fm : FmC 𝓤 𝓛.H 𝓛.laws C)
    (known : Triple 𝓤 (C #call) (triple_of 𝓛 g.signature (g.spec 𝓛 at_mem run))) (l : Loan) where
  open 𝓛 use {H}

  -- what the call borrows, and what it leaves
  abbrev Borrowed : Ptr → Fml
  Borrowed handle = borrowed_made l handle

  abbrev Left : Ptr → ℕ → Fml
  Left handle result = unless_null (handle ∷ [])
      (fsep (feq ℕ result 1) (Borrowed handle))
      (fex Owned (λ handle'.
      fsep (left_made l handle handle') (holds (Frees l.made handle' result))))

  abbrev G : Contract 𝓤
  G = triple_of 𝓛 g.signature (g.spec 𝓛 at_mem run)

  abbrev W : Contract 𝓤
  W = walk_of 𝓛 f.ended stayed (f.clauses 𝓛 at_mem run)

  abbrev bound : Global → Ptr → W.Ghost
  bound alloc handle = ((tt, tt, tt, (alloc, (handle, tt)), (global_val alloc ∷ [], (ptr_val handle ∷ [], tt))), l)

  abbrev Walk : Global → Ptr → Type 1
  Walk alloc handle = Sq 𝓛 (‵ (flft l.lifetime l.share) ∷ ‵ (Borrowed handle) ∷ ‵ (GlobalRow.own_val alloc (global_val alloc ∷ [])) ∷ []) (prop (WpFn 𝓤 H C Λ code.function (global_val alloc ∷ ptr_val handle ∷ []) (W.post (bound alloc handle))))

  ends : (alloc : Global) (handle : Ptr) (v : Val) (x : ℕ) → Sq 𝓛 (‵ (Left handle x) ∷ ‵ (u32.own_val x (v ∷ [])) ∷ ‵ (flft l.lifetime l.share) ∷ []) (prop (W.post (bound alloc handle) v))
  unfolding borrowed_by_free left_by_free
  ends alloc handle v x = move ! (2 ∷ 0 ∷ []) $ join ! $ move ! (1 ∷ []) $ use0 𝓛 (‵ (trues 2)) (all_true 𝓛 2) $ nothing ! $
      by ! (leaves 𝓛 f.ended stayed (f.clauses 𝓛 at_mem run) (bound alloc handle) v x (tt, (tt, tt)) (tt, (tt, tt)))

  -- with a null address nothing is called
  refused : (alloc : Global) (handle : Ptr) → Typed GlobalRow.mir (global_val alloc ∷ []) → Testable handle → HasNull (handle ∷ []) → Walk alloc handle
  refused alloc handle fits-alloc may-handle null =
      enter ! C Λ code.function (global_val alloc ∷ ptr_val handle ∷ []) _ $ alloc_all ! (λ c. pass_all ! refl (fits-alloc.0, ((good 𝓛 handle).0, tt)) $
      tested ! handle none (get ! refl) may-handle refl (tt, tt) refl refl (tt, record { fits = lit< tt }) refl (λ _. free_all ! refl $ unchanged ! (handle ∷ []) _ null (ends alloc handle (vint w32 1) 1)) (λ here-0.
      absurd (in_rest handle [] null here-0)))

  runs : (alloc : Global) (handle : Ptr) → Typed GlobalRow.mir (global_val alloc ∷ []) → Testable handle → Walk alloc handle
  runs alloc null_ptr fits-alloc may-handle = refused alloc null_ptr fits-alloc may-handle tt
  runs alloc (block_ptr b0 o0) fits-alloc may-handle =
      move ! (1 ∷ []) $ enter ! C Λ code.function (global_val alloc ∷ vptr b0 o0 ∷ []) _ $ alloc_all ! (λ c. pass_all ! refl (fits-alloc.0, ((good 𝓛 (block_ptr b0 o0)).0, tt)) $
      stands ! b0 o0 none (get ! refl) may-handle refl (tt, tt) refl $
      closes ! $ inside ! _ _ _ $
      sets ! (addr ! (through ! refl (stop !))) refl (tt, tt) $
      nothing ! $ move ! (1 ∷ 0 ∷ []) $ fjoin ! $ move ! (2 ∷ 0 ∷ []) $ fjoin ! $ nothing ! $ move ! (2 ∷ 0 ∷ []) $ join ! $ join ! $ nothing ! $ move ! (1 ∷ 0 ∷ []) $
      let z : G.Ghost = (((l.lifetime, tt), (l.share, tt), tt, (alloc, (record { ref_ptr = (b0, o0); ghost_name = l.made_name; now = l.made }, tt)), (global_val alloc ∷ [], (vptr b0 o0 ∷ [], tt))), tt) in
      use2 𝓛 (raw (G.pre z)) (id⊢ 𝓤 _) $ calls_at_last ! fm G known z (and_then ! (get ! refl) (and_then ! (get ! refl) (no_more !))) (λ v.
      use1 𝓛 (back 𝓛 g.ended (g.clauses 𝓛 at_mem run) z.0.0 z.0.3 z.1 l.lifetime l.share v) (id⊢ 𝓤 _) $
      await ! tt $ pick ! (λ x. split ! $ move ! (1 ∷ []) $ pick ! (λ ws. split ! $ move ! (1 ∷ []) $ heard ! (Frees l.made ws.1.0 x) (λ reports.
      fsplit ! $ drop ! $ fsplit ! $ move ! (1 ∷ []) $ drop ! $ move ! (1 ∷ []) $ split ! $ split ! $ move ! (2 ∷ []) $ peeks ! u32 (Is u32) (shows 𝓛 u32) x (v ∷ []) (λ is. let fine = ((uint_Lawful 𝓛 w32).typed x _ is).0 in
      ends0 ! C Λ _ fine fine refl refl refl refl $ free_all ! refl $ keep ! (3 ∷ 0 ∷ 1 ∷ []) $
      hold ! reports $ move ! (1 ∷ 0 ∷ []) $ fjoin ! $
      fpack ! Owned (λ handle'. fsep (left_made l (block_ptr b0 o0) handle') (holds (Frees l.made handle' x))) ws.1.0 $ ends alloc (block_ptr b0 o0) v x))))))

pub odfilter_free_spec : {M : Type 1} → statement M
unfolding borrowed_by_free
odfilter_free_spec 𝓤 𝓛 𝓜 𝓡 wired =
    let c = f.clauses 𝓛 𝓜.mem 𝓡.returns in let 𝓣 = tables 𝓤 𝓛.H 𝓜 𝓡 𝓡.env in
    proved 𝓛 f.ended stayed c 𝓜 𝓡 (Goes-dropped 𝓛 0 (plain (λ _. GlobalRow)) yes (λ κs x w. refl), (Goes-dropped 𝓛 0 (plain (λ _. RawPtr)) yes (λ κs x w. refl), tt))
    f.Key.name code.function (code.unfolded 𝓤 𝓛.H 𝓜 𝓡 wired)
    (λ κs. ((λ g. global_val g ∷ []), (rawptr_vals, tt))) (λ κs. (global_lowers.val_is, (rawptr_Tells, tt))) (λ κs qs bounds a l are.
    qed 𝓛 ((‵ ftrue ⊛ ‵ (owns (types_at f.signature.params κs) a (global_val a.0 ∷ [], (rawptr_vals a.1.0, tt)))) ∷ (raw (fact 𝓤 (Testable a.1.0)) ⊛ (‵ (flft l.lifetime l.share) ⊛ ‵ (borrowed_by_free l a.1.0))) ∷ []) ∵
    split ! $ drop ! $ fsplit ! $ move ! (1 ∷ []) $ drop ! $ move ! (1 ∷ []) $ split ! $ heard ! _ (λ may. split ! $
    runs 𝓛 𝓜.mem 𝓡.returns 𝓣.C 𝓣.Λ (framed 𝓤 𝓛.H 𝓜 𝓣) (met 𝓤 𝓛 𝓜 𝓡 (code.calls-handle_calls::calls::free 𝓡.env wired)) l a.0 a.1.0 ((global_laws.lawful 𝓛).typed a.0 _ are.0) may))
