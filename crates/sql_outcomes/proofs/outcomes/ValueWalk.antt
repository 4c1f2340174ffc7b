-- Values that a `Let` binds, put one after another.
use Rattle.sql_outcomes.proofs.Common.{Has, ◌≡◌, ◌++◌, ◌∷◌, [], ◌+◌, ℕ, zero, suc, List, Some, length, take, refl, sym, ap, subst, ◌∙◌, append_assoc, append-nil, arith, slice_get, Filter, Outcome, AllMean, SqlMeans, Asked, Bound, Term, Terms, no_terms, more_terms, nodes_of, nodes_of_all, SqlNode, Draft, Operand, Grows, AllHave, OperandHas, Puts, PutsAll, Question, World, grows_then, world_before, AreShaped, IsShaped, count_of}
use Rattle.sql_outcomes.specs.private.ValueForms.{Itself}
use Rattle.sql_outcomes.proofs.nodes.Binding.{puts_none}
use Rattle.sql_outcomes.proofs.outcomes.FaultWalk.{taken_next}
use Rattle.std.proofs.lemmas.Option.{none-some}

-- ---- a term after others

abbrev pub later : Terms → Term → Terms
later no_terms t = more_terms t no_terms
later (more_terms first rest) t = more_terms first (later rest t)

after_suc : (n : ℕ) → suc (n + 1) ≡ suc n + 1
after_suc n = omega arith

pub later_written : (terms : Terms) (t : Term) → nodes_of_all terms ++ nodes_of t ≡ nodes_of_all (later terms t)
later_written no_terms t = sym (append-nil (nodes_of t))
later_written (more_terms first rest) t =
    append_assoc (nodes_of first) (nodes_of_all rest) (nodes_of t) ∙ ap (λ (ns : List SqlNode). nodes_of first ++ ns) (later_written rest t)

pub later_shaped : (terms : Terms) (t : Term) → AreShaped terms → IsShaped t → AreShaped (later terms t)
later_shaped no_terms t all shaped = (shaped, tt)
later_shaped (more_terms first rest) t all shaped = (all.0, later_shaped rest t all.1 shaped)

pub later_counted : (terms : Terms) (t : Term) → count_of (later terms t) ≡ count_of terms + 1
later_counted no_terms t = refl
later_counted (more_terms first rest) t = ap (λ (n : ℕ). n + 1) (later_counted rest t)

pub take_counted : {A : Type 0} (xs : List A) (n : ℕ) (x : A) → slice_get xs n ≡ Some x → length (take (n + 1) xs) ≡ length (take n xs) + 1
take_counted [] n x at = absurd (none-some x at)
take_counted (y ∷ xs) zero x at = refl
take_counted (y ∷ xs) (suc n) x at =
    let e : suc n + 1 ≡ suc (n + 1) = omega arith in
    ap (λ (k : ℕ). length (take k (y ∷ xs))) e ∙ ap suc (take_counted xs n x at) ∙ after_suc (length (take n xs))

pub later_means : (asked : Asked) (bound : Bound) (terms : Terms) (t : Term) (os : List Outcome) (o : Outcome) → AllMean asked bound terms os → SqlMeans asked bound t o
    → AllMean asked bound (later terms t) (os ++ o ∷ [])
later_means asked bound no_terms t os o all is = subst (λ (xs : List Outcome). AllMean asked bound (more_terms t no_terms) (xs ++ o ∷ [])) (sym all) (is, refl)
later_means asked bound (more_terms first rest) t [] o all is = absurd all
later_means asked bound (more_terms first rest) t (p ∷ os) o all is = (all.0, later_means asked bound rest t os o all.1 is)

-- ---- one operand after others

all_but_last : (filter : Filter) (operands : List Operand) (x : Operand) (world : World) (os : List Outcome) → AllHave filter (operands ++ x ∷ []) world os
    → (front : List Outcome) × (o : Outcome) × AllHave filter operands world front × OperandHas filter x world o × (os ≡ front ++ o ∷ [])
all_but_last filter [] x world [] all = absurd all
all_but_last filter [] x world (o ∷ os) all = ([], o, refl, all.0, ap (λ (more : List Outcome). o ∷ more) all.1)
all_but_last filter (operand ∷ operands) x world [] all = absurd all
all_but_last filter (operand ∷ operands) x world (p ∷ os) all =
    let more = all_but_last filter operands x world os all.1 in
    (p ∷ more.0, more.1, (all.0, more.2), more.3, ap (λ (rest : List Outcome). p ∷ rest) more.4)

-- of lists of operands that are taken apart at their last
module _ (question : Question) (Each : Operand → Has) (All : List Operand → World → List Outcome → Type 0)
    (apart : (operands : List Operand) (x : Operand) (world : World) (os : List Outcome) → All (operands ++ x ∷ []) world os
    → (front : List Outcome) × (o : Outcome) × All operands world front × Each x world o × (os ≡ front ++ o ∷ [])) where
  pub one_more_put : (operands : List Operand) (n : ℕ) (x : Operand) (old middle new : Draft) → slice_get operands n ≡ Some x
      → PutsAll question old middle (All (take n operands)) (length (take n operands)) → Puts question middle new (Each x) Itself
      → PutsAll question old new (All (take (n + 1) operands)) (length (take (n + 1) operands))
  one_more_put operands n x old middle new at before after = record {
    terms = later before.terms after.t;
    counted = later_counted before.terms after.t ∙ ap (λ (k : ℕ). k + 1) before.counted ∙ sym (take_counted operands n x at);
    shaped = later_shaped before.terms after.t before.shaped after.shaped;
    grows = subst (Grows old new) (later_written before.terms after.t) (grows_then old middle new (nodes_of_all before.terms) (nodes_of after.t) before.grows after.grows);
    says = λ world os is has.
        let on : suc n ≡ n + 1 = omega arith in
        let next : take (n + 1) operands ≡ take n operands ++ x ∷ [] = ap (λ (k : ℕ). take k operands) (sym on) ∙ taken_next operands n x at in
        let parts = apart (take n operands) x world os (subst (λ (xs : List Operand). All xs world os) next has) in
        let earlier = before.says world parts.0 (world_before question middle new (nodes_of after.t) world after.grows is) parts.2 in
        let m = after.says world parts.1 is parts.3 in
        subst (AllMean world.asked world.bound (later before.terms after.t)) (sym parts.4)
        (later_means world.asked world.bound before.terms after.t parts.0 parts.1 earlier (subst (SqlMeans world.asked world.bound after.t) m.2 m.1));
  }

module _ (question : Question) where
  pub one_value_put : (operands : List Operand) (n : ℕ) (x : Operand) (old middle new : Draft) → slice_get operands n ≡ Some x
      → PutsAll question old middle (AllHave question.filter (take n operands)) (length (take n operands)) → Puts question middle new (OperandHas question.filter x) Itself
      → PutsAll question old new (AllHave question.filter (take (n + 1) operands)) (length (take (n + 1) operands))
  one_value_put operands n x old middle new at before after =
      one_more_put question (OperandHas question.filter) (AllHave question.filter) (all_but_last question.filter) operands n x old middle new at before after

  pub no_value_put : (draft : Draft) → PutsAll question draft draft (AllHave question.filter []) 0
  no_value_put draft = puts_none question draft (AllHave question.filter []) (λ world os is. is)
