-- What the walks of all exports share: the tests of the addresses, the call and its answer, and how the export returns.
use Rattle.std.proofs.Common.{◌≡◌, ℕ, List, [], ◌∷◌, refl, lit<, w32, w64}
use mathlib.Core.Bool.{false, not}
use mathlib.Core.Option.{Option, none, some as there_is}
use Prim.Native.Nat.{zero, suc}
use mathlib.Core.Path.{subst}
use seplogic.Ra.Ura.{Ura}
use base.Fraction.{full_share}
use base.Logic.{SProp, ent, emp, sep, via, id⊢, emp∗, mono_r, ex_i}
use base.Fml.{Fml, Lft, Share, ftrue, feq, fsep, fex, flft, fat, froom}
use lib.Dec.{T}
use mir.Syntax.{Body, place, copy, int, rv_opd, op2, ptr_eq, seq, cond, skip, assign, block, return}
use mir.Syntax.{Opd as Operand}
use mir.Val.{Val, vint, vbool, vptr, vnull, WT, has_ty, ptr_same}
use prog.Wp.{Env, Calls, Loops, Wp, after_seq, after_block, spot_of}
use contract.Lifetimes.{Lfts}
use types.Logic.{Logic, sem}
use types.Kit.{Item, ‵, raw, ◌⊛◌, some, later, Post, any_q, at_ret, post, Goal, prop, runs, settles, frees, Seq, Step, step, ◌$◌, use0, feq_i, fjoin, fpack, move, keep}
use types.Run.{Opd, Writes, bin, lit, of_opd, from, stop, init, store, assigns, assigns_last, land_last, first, branches, skips, exec, returns, returns_within}
use types.ByLocal.{at, set, cell, get, look_at}
use denote.Builtin.{u32}
use denote.Laws.{Typed}
use denote.Plain.{uint_Makes}
use denote.RawPtr.{Ptr, RawPtr, rawptr_Lawful, block_ptr, null_ptr, ptr_val, Testable, tests_null}
use denote.Signature.{type_at}
use denote.Steps.{owned}
use denote.Triple.Clauses.{Ended, Clauses, Lasts, lasts, at_exit}
use denote.Triple.Entry.{Args, Res}
use Rattle.odfilter_c.specs.Loans.{unless_null, holds}

-- one of the addresses is null
abbrev pub HasNull : List Ptr → Type 0
HasNull [] = ⊥
HasNull (block_ptr b o ∷ ps) = HasNull ps
HasNull (null_ptr ∷ ps) = Unit {0}

-- it is one after the first, where that one stands its test
pub in_rest : (p : Ptr) (ps : List Ptr) → HasNull (p ∷ ps) → T (not (ptr_same (ptr_val p) vnull)) → HasNull ps
in_rest (block_ptr b o) ps null stands = null
in_rest null_ptr ps null stands = absurd stands

-- then all comes back
pub unless_none : (ps : List Ptr) (N F : Fml) → HasNull ps → unless_null ps N F ≡ N
unless_none [] N F null = absurd null
unless_none (block_ptr b o ∷ ps) N F null = unless_none ps N F null
unless_none (null_ptr ∷ ps) N F null = refl

-- what a contract says of n parameters that it does not read at exit
abbrev pub trues : ℕ → Fml
trues zero = ftrue
trues (suc n) = fsep ftrue (trues n)

module _ {M : Type 1} {𝓤 : Ura M} (𝓛 : Logic 𝓤) where
  open 𝓛 use {H}

  -- an address is a value of its type
  abbrev pub good : (p : Ptr) → Typed RawPtr.mir (ptr_val p ∷ [])
  good p = (rawptr_Lawful 𝓛).typed p _ refl

  -- that is had for nothing
  pub all_true : (n : ℕ) → ent 𝓤 (emp 𝓤) (sem 𝓛 (trues n))
  all_true zero = id⊢ 𝓤 (emp 𝓤)
  all_true (suc n) = via 𝓤 (sep 𝓤 (emp 𝓤) (emp 𝓤)) (emp∗ 𝓤 (emp 𝓤)) (mono_r 𝓤 (emp 𝓤) (all_true n))

  -- what a call at one lifetime gives back: the lifetime, the result, and of each `&mut` its last value, of which the clause holds
  abbrev pub back : (S : Ended) (c : Clauses 𝓤 S) (κs : Lfts S.signature.lifetimes) (a : Args S.signature κs) (g : (c κs a).ghost) → Lft → Share → Val → Item 𝓤
  back S c κs a g κ q v = later (some (λ (x : Res S.signature κs). ((‵ (flft κ q) ⊛ ‵ ftrue) ⊛ ‵ ((type_at S.signature.result κs).own_val x (v ∷ []))) ⊛
      some (λ (ws : Lasts S κs a). ‵ (lasts S κs a ws) ⊛ raw ((c κs a).ensures g x (at_exit S κs a ws)))))

  -- a local's cell: empty, and with a value
  module _ (E : Env 𝓤 H) (i : ℕ) (Γ : List (Item 𝓤)) where
    abbrev Room : Type 2
    Room = at 𝓛 i Γ ≡ ‵ (froom (spot_of 𝓤 H E i).0 (spot_of 𝓤 H E i).1 zero)

    abbrev Has : Val → Type 2
    Has v = at 𝓛 i Γ ≡ ‵ (fat full_share (spot_of 𝓤 H E i).0 (spot_of 𝓤 H E i).1 zero v)

    abbrev filled : Val → List (Item 𝓤)
    filled v = set 𝓛 i (‵ (fat full_share (spot_of 𝓤 H E i).0 (spot_of 𝓤 H E i).1 zero v)) Γ

    abbrev Held : Option Val → Type 2
    Held none = Room
    Held (there_is v) = Has v

    abbrev Takes : Val → Type 0
    Takes v = T (has_ty (spot_of 𝓤 H E i).0 v) × WT v

  module _ (C : Calls 𝓤 H) (Λ : Loops 𝓤 H) (E : Env 𝓤 H) (Kf : Val → SProp 𝓤) where
    -- after a part of the code the value of local n goes through the locals ms, the innermost first, and is returned
    unfoldable pub passing : ℕ → List ℕ → Post 𝓤 H
    passing n [] = any_q (after_seq 𝓤 H (Wp 𝓤 H C Λ E (seq (assign (place 0 []) (rv_opd (copy (place n [])))) return) (post 𝓤 H (at_ret E Kf))) (post 𝓤 H (at_ret E Kf)))
    passing n (m ∷ ms) = any_q (after_seq 𝓤 H (Wp 𝓤 H C Λ E (assign (place m []) (rv_opd (copy (place n [])))) (post 𝓤 H (passing m ms))) (post 𝓤 H (passing m ms)))

    -- the same after a block
    unfoldable pub passing_block : ℕ → List ℕ → Post 𝓤 H
    passing_block n ms = any_q (after_block 𝓤 H (post 𝓤 H (passing n ms)))

module _ {M : Type 1} {𝓤 : Ura M} {𝓛 : Logic 𝓤} {K : Type 0} {Γ : List (Item 𝓤)} where
  open 𝓛 use {H}

  module _ {G : Goal 𝓤 H} where
    -- a fact
    pub hold : K → {φ : Type 0} → φ → Step K 𝓛 (‵ (holds φ) ∷ Γ) G Γ G
    hold t {φ} x = use0 𝓛 (‵ (holds φ)) (ex_i 𝓤 (λ (y : φ). emp 𝓤) x)

    -- with a null address all that was borrowed comes back, and the status is 1
    pub unchanged : K → (ps : List Ptr) (F : Fml) {κ : Lft} {q : Share} {B : Fml} → HasNull ps
        → Seq K 𝓛 (‵ (unless_null ps (fsep (feq ℕ 1 1) B) F) ∷ ‵ (u32.own_val 1 (vint w32 1 ∷ [])) ∷ ‵ (flft κ q) ∷ []) G → Seq K 𝓛 (‵ (flft κ q) ∷ ‵ B ∷ Γ) G
    unchanged t ps F {κ} {q} {B} null s = owned t u32 _ (uint_Makes 𝓛 w32) 1 _ (refl, lit< tt) $ move t (2 ∷ []) $ feq_i t ℕ 1 1 refl $ fjoin t $ keep t (0 ∷ 1 ∷ 2 ∷ []) $
        subst (λ (L : Fml). Seq K 𝓛 (‵ L ∷ ‵ (u32.own_val 1 (vint w32 1 ∷ [])) ∷ ‵ (flft κ q) ∷ []) G) (unless_none ps (fsep (feq ℕ 1 1) B) F null) s

    -- witnesses for existentials that stand in one another
    pub fpack2 : K → (X Y : Type 0) (F : X → Y → Fml) (x : X) (y : Y) → Step K 𝓛 (‵ (fex X (λ x'. fex Y (F x'))) ∷ Γ) G (‵ (F x y) ∷ Γ) G
    fpack2 t X Y F x y = step (λ s. fpack t Y (F x) y $ fpack t X (λ x'. fex Y (F x')) x $ s)

    pub fpack3 : K → (X Y Z : Type 0) (F : X → Y → Z → Fml) (x : X) (y : Y) (z : Z) → Step K 𝓛 (‵ (fex X (λ x'. fex Y (λ y'. fex Z (F x' y')))) ∷ Γ) G (‵ (F x y z) ∷ Γ) G
    fpack3 t X Y Z F x y z = step (λ s. fpack t Z (F x y) z $ fpack2 t X Y (λ x' y'. fex Z (F x' y')) x y $ s)

  -- a value is stored in a local that is empty or holds another
  puts : K → (E : Env 𝓤 H) (i : ℕ) (old : Option Val) (v : Val) → Held 𝓛 E i Γ old → Takes 𝓛 E i Γ v → Writes K 𝓛 Γ (spot_of 𝓤 H E i).0 (spot_of 𝓤 H E i).1 zero v (filled 𝓛 E i Γ v)
  puts t E i none v room takes = init t (cell i Γ) room takes
  puts t E i (there_is u) v has takes = store t (cell i Γ) has takes

  module _ {E : Env 𝓤 H} {i : ℕ} {C : Calls 𝓤 H} {Λ : Loops 𝓤 H} where
    -- an address is compared with null
    pub compares : K → (p : Ptr) (old : Option Val) {x : Operand} {rest : Body} {q : Post 𝓤 H} → Opd K 𝓛 Γ E x (ptr_val p) → Testable p → Held 𝓛 E i Γ old → Takes 𝓛 E i Γ (vbool (ptr_same (ptr_val p) vnull))
        → Step K 𝓛 (filled 𝓛 E i Γ (vbool (ptr_same (ptr_val p) vnull))) (runs C Λ E rest q) Γ (runs C Λ E (seq (assign (place i []) (op2 ptr_eq x (int w64 0))) rest) q)
    compares t p old {x} o may held takes = assigns t (bin t o (lit t tt) (tests_null p may)) (from t (stop t)) (puts t E i old _ held takes)

    -- an address that is not null stands the test
    pub stands : K → (b o : ℕ) (old : Option Val) {x : Operand} {a rest : Body} {q : Post 𝓤 H} → Opd K 𝓛 Γ E x (vptr b o) → Testable (block_ptr b o) → Held 𝓛 E i Γ old → Takes 𝓛 E i Γ (vbool false)
        → Has 𝓛 E i (filled 𝓛 E i Γ (vbool false)) (vbool false)
        → Step K 𝓛 (filled 𝓛 E i Γ (vbool false)) (runs C Λ E rest q) Γ (runs C Λ E (seq (assign (place i []) (op2 ptr_eq x (int w64 0))) (seq (cond (copy (place i [])) a skip) rest)) q)
    stands t b o old oper may held takes has = step (λ s.
        compares t (block_ptr b o) old oper may held takes $ first t $ branches t (get t has) (λ wrong. absurd wrong) (λ _. skips t $ record { prf = s.prf }))

    module _ {Kf : Val → SProp 𝓤} where
      -- an export returns 1 if the address is null, and goes on if not
      pub tested : K → (p : Ptr) (old : Option Val) {x : Operand} {rest : Body} → Opd K 𝓛 Γ E x (ptr_val p) → Testable p → Held 𝓛 E i Γ old → Takes 𝓛 E i Γ (vbool (ptr_same (ptr_val p) vnull))
          → (let Γ' = filled 𝓛 E i Γ (vbool (ptr_same (ptr_val p) vnull)) in
          Has 𝓛 E i Γ' (vbool (ptr_same (ptr_val p) vnull)) → Room 𝓛 E 0 Γ' → Takes 𝓛 E 0 Γ' (vint w32 1) → Has 𝓛 E 0 (filled 𝓛 E 0 Γ' (vint w32 1)) (vint w32 1)
          → (T (ptr_same (ptr_val p) vnull) → Seq K 𝓛 (filled 𝓛 E 0 Γ' (vint w32 1)) (frees E (prop (Kf (vint w32 1)))))
          → (T (not (ptr_same (ptr_val p) vnull)) → Seq K 𝓛 Γ' (runs C Λ E rest (at_ret E Kf)))
          → Seq K 𝓛 Γ (runs C Λ E (seq (assign (place i []) (op2 ptr_eq x (int w64 0))) (seq (cond (copy (place i [])) (seq (assign (place 0 []) (rv_opd (int w32 1))) return) skip) rest)) (at_ret E Kf)))
      tested t p old {x} {rest} o may held takes has room-0 takes-0 has-0 null stands =
          compares t p old o may held takes $ first t $ branches t (get t has)
          (λ is. assigns t (of_opd t (lit t tt)) (from t (stop t)) (init t (cell 0 _) room-0 takes-0) $ returns_within t Kf refl (look_at t 0 has-0) $ null is)
          (λ not. skips t $ record { prf = (stands not).prf })

  module _ {E : Env 𝓤 H} {C : Calls 𝓤 H} {Λ : Loops 𝓤 H} {Kf : Val → SProp 𝓤} where
    -- into the part whose value is returned
    pub closes : K → {m : ℕ} {a : Body} → Step K 𝓛 Γ (runs C Λ E a (passing 𝓛 C Λ E Kf m [])) Γ (runs C Λ E (seq a (seq (assign (place 0 []) (rv_opd (copy (place m [])))) return)) (at_ret E Kf))
    unfolding passing
    closes t = step (λ s. record { prf = s.prf })

  module _ {E : Env 𝓤 H} {C : Calls 𝓤 H} {Λ : Loops 𝓤 H} where
    -- into a part whose value is put into a local of the part around it
    pub hands : K → (Kf : Val → SProp 𝓤) (ms : List ℕ) {n m : ℕ} {a : Body}
        → Step K 𝓛 Γ (runs C Λ E a (passing 𝓛 C Λ E Kf n (m ∷ ms))) Γ (runs C Λ E (seq a (assign (place m []) (rv_opd (copy (place n []))))) (passing 𝓛 C Λ E Kf m ms))
    unfolding passing
    hands t Kf ms = step (λ s. record { prf = s.prf })

    pub inside : K → (Kf : Val → SProp 𝓤) (n : ℕ) (ms : List ℕ) {b : Body} → Step K 𝓛 Γ (runs C Λ E b (passing_block 𝓛 C Λ E Kf n ms)) Γ (runs C Λ E (block b) (passing 𝓛 C Λ E Kf n ms))
    unfolding passing_block
    inside t Kf n ms = step (λ s. record { prf = s.prf })

  module _ {E : Env 𝓤 H} where
    -- the value of a call is stored, goes through some locals, and is returned
    pub ends0 : K → (C : Calls 𝓤 H) (Λ : Loops 𝓤 H) (Kf : Val → SProp 𝓤) {n : ℕ} {v : Val} → Takes 𝓛 E n Γ v → Takes 𝓛 E 0 Γ v → (let Γ₁ = filled 𝓛 E n Γ v in let Γ₀ = filled 𝓛 E 0 Γ₁ v in
        Room 𝓛 E n Γ → Has 𝓛 E n Γ₁ v → Room 𝓛 E 0 Γ₁ → Has 𝓛 E 0 Γ₀ v
        → Step K 𝓛 Γ₀ (frees E (prop (Kf v))) Γ (settles E (place n []) v (passing_block 𝓛 C Λ E Kf n [])))
    unfolding passing passing_block
    ends0 t C Λ Kf {n} takes takes-0 room has room-0 has-0 = step (λ s.
        land_last t (from t (stop t)) (init t (cell n Γ) room takes) $ exec t C Λ E (seq (assign (place 0 []) (rv_opd (copy (place n [])))) return) (at_ret E Kf) $
        assigns t (of_opd t (get t has)) (from t (stop t)) (init t (cell 0 _) room-0 takes-0) $ returns t (look_at t 0 has-0) $ s)

    pub ends1 : K → (C : Calls 𝓤 H) (Λ : Loops 𝓤 H) (Kf : Val → SProp 𝓤) (m : ℕ) {n : ℕ} {v : Val} → Takes 𝓛 E n Γ v → Takes 𝓛 E m Γ v → Takes 𝓛 E 0 Γ v
        → (let Γ₁ = filled 𝓛 E n Γ v in let Γ₂ = filled 𝓛 E m Γ₁ v in let Γ₀ = filled 𝓛 E 0 Γ₂ v in
        Room 𝓛 E n Γ → Has 𝓛 E n Γ₁ v → Room 𝓛 E m Γ₁ → Has 𝓛 E m Γ₂ v → Room 𝓛 E 0 Γ₂ → Has 𝓛 E 0 Γ₀ v
        → Step K 𝓛 Γ₀ (frees E (prop (Kf v))) Γ (settles E (place n []) v (passing_block 𝓛 C Λ E Kf n (m ∷ []))))
    unfolding passing passing_block
    ends1 t C Λ Kf m {n} takes takes-m takes-0 room has room-m has-m room-0 has-0 = step (λ s.
        land_last t (from t (stop t)) (init t (cell n Γ) room takes) $ exec t C Λ E (assign (place m []) (rv_opd (copy (place n [])))) (passing 𝓛 C Λ E Kf m []) $
        assigns_last t (of_opd t (get t has)) (from t (stop t)) (init t (cell m _) room-m takes-m) $ exec t C Λ E (seq (assign (place 0 []) (rv_opd (copy (place m [])))) return) (at_ret E Kf) $
        assigns t (of_opd t (get t has-m)) (from t (stop t)) (init t (cell 0 _) room-0 takes-0) $ returns t (look_at t 0 has-0) $ s)

    pub ends2 : K → (C : Calls 𝓤 H) (Λ : Loops 𝓤 H) (Kf : Val → SProp 𝓤) (m k : ℕ) {n : ℕ} {v : Val} → Takes 𝓛 E n Γ v → Takes 𝓛 E m Γ v → Takes 𝓛 E k Γ v → Takes 𝓛 E 0 Γ v
        → (let Γ₁ = filled 𝓛 E n Γ v in let Γ₂ = filled 𝓛 E m Γ₁ v in let Γ₃ = filled 𝓛 E k Γ₂ v in let Γ₀ = filled 𝓛 E 0 Γ₃ v in
        Room 𝓛 E n Γ → Has 𝓛 E n Γ₁ v → Room 𝓛 E m Γ₁ → Has 𝓛 E m Γ₂ v → Room 𝓛 E k Γ₂ → Has 𝓛 E k Γ₃ v → Room 𝓛 E 0 Γ₃ → Has 𝓛 E 0 Γ₀ v
        → Step K 𝓛 Γ₀ (frees E (prop (Kf v))) Γ (settles E (place n []) v (passing_block 𝓛 C Λ E Kf n (m ∷ k ∷ []))))
    unfolding passing passing_block
    ends2 t C Λ Kf m k {n} takes takes-m takes-k takes-0 room has room-m has-m room-k has-k room-0 has-0 = step (λ s.
        land_last t (from t (stop t)) (init t (cell n Γ) room takes) $ exec t C Λ E (assign (place m []) (rv_opd (copy (place n [])))) (passing 𝓛 C Λ E Kf m (k ∷ [])) $
        assigns_last t (of_opd t (get t has)) (from t (stop t)) (init t (cell m _) room-m takes-m) $ exec t C Λ E (assign (place k []) (rv_opd (copy (place m [])))) (passing 𝓛 C Λ E Kf k []) $
        assigns_last t (of_opd t (get t has-m)) (from t (stop t)) (init t (cell k _) room-k takes-k) $ exec t C Λ E (seq (assign (place 0 []) (rv_opd (copy (place k [])))) return) (at_ret E Kf) $
        assigns t (of_opd t (get t has-k)) (from t (stop t)) (init t (cell 0 _) room-0 takes-0) $ returns t (look_at t 0 has-0) $ s)

    pub ends3 : K → (C : Calls 𝓤 H) (Λ : Loops 𝓤 H) (Kf : Val → SProp 𝓤) (m k j : ℕ) {n : ℕ} {v : Val} → Takes 𝓛 E n Γ v → Takes 𝓛 E m Γ v → Takes 𝓛 E k Γ v → Takes 𝓛 E j Γ v → Takes 𝓛 E 0 Γ v
        → (let Γ₁ = filled 𝓛 E n Γ v in let Γ₂ = filled 𝓛 E m Γ₁ v in let Γ₃ = filled 𝓛 E k Γ₂ v in let Γ₄ = filled 𝓛 E j Γ₃ v in let Γ₀ = filled 𝓛 E 0 Γ₄ v in
        Room 𝓛 E n Γ → Has 𝓛 E n Γ₁ v → Room 𝓛 E m Γ₁ → Has 𝓛 E m Γ₂ v → Room 𝓛 E k Γ₂ → Has 𝓛 E k Γ₃ v → Room 𝓛 E j Γ₃ → Has 𝓛 E j Γ₄ v → Room 𝓛 E 0 Γ₄ → Has 𝓛 E 0 Γ₀ v
        → Step K 𝓛 Γ₀ (frees E (prop (Kf v))) Γ (settles E (place n []) v (passing_block 𝓛 C Λ E Kf n (m ∷ k ∷ j ∷ []))))
    unfolding passing passing_block
    ends3 t C Λ Kf m k j {n} takes takes-m takes-k takes-j takes-0 room has room-m has-m room-k has-k room-j has-j room-0 has-0 = step (λ s.
        land_last t (from t (stop t)) (init t (cell n Γ) room takes) $ exec t C Λ E (assign (place m []) (rv_opd (copy (place n [])))) (passing 𝓛 C Λ E Kf m (k ∷ j ∷ [])) $
        assigns_last t (of_opd t (get t has)) (from t (stop t)) (init t (cell m _) room-m takes-m) $ exec t C Λ E (assign (place k []) (rv_opd (copy (place m [])))) (passing 𝓛 C Λ E Kf k (j ∷ [])) $
        assigns_last t (of_opd t (get t has-m)) (from t (stop t)) (init t (cell k _) room-k takes-k) $ exec t C Λ E (assign (place j []) (rv_opd (copy (place k [])))) (passing 𝓛 C Λ E Kf j []) $
        assigns_last t (of_opd t (get t has-k)) (from t (stop t)) (init t (cell j _) room-j takes-j) $ exec t C Λ E (seq (assign (place 0 []) (rv_opd (copy (place j [])))) return) (at_ret E Kf) $
        assigns t (of_opd t (get t has-j)) (from t (stop t)) (init t (cell 0 _) room-0 takes-0) $ returns t (look_at t 0 has-0) $ s)
