-- Nodes of truth values in each form: by their values where they evaluate to no fault, and of type Null.
use Rattle.sql_forms.proofs.Common.{◌≡◌, ◌<◌, ◌∙◌, ◌∷◌, [], ℕ, zero, suc, List, Bool, true, false, Option, Some, None, length, refl, sym, ap, subst, arith, IsSomeAnd, slice_get, slice_get_within, IsMoment, boolean, null, slots_of, CheckedNode, some_there, EndsOnceOnEntities, IsOutcomeOf, not3, Outcome, gives, IsWithin, Range, expr_type, code_of_truth, truth, SqlNode, SqlType, Draft, Kind, Form, Grows, IsOfKind, kind_of_type, AreRanges, IsCarriedKind, IsFaultless, IsTruthAt, IsAskedOf, OfPlace, Puts, Question, World, puts_as, puts_leaf, puts_one, ComparisonOperator, Operand, FaultyHave, IsComparisonOf, ◌≢◌, LogicalOperator, IsJoin, IsOfValues}
use Rattle.sql_outcomes.specs.TrueWhere.{IsTrueWhere}
use Rattle.sql_forms.specs.Forms.{IsInForm}
use Rattle.sql_forms.specs.private.AskedForms.{IsAskedCode}
use Rattle.sql_outcomes.proofs.outcomes.Apart.{false_true as some_true, none_true}
use Rattle.sql_outcomes.proofs.outcomes.ChainValues.{Code, IsValue, code_in}
use Rattle.sql_forms.proofs.puts.ChainsPut.{faultless_valued, value_truth}
use Rattle.sql_outcomes.proofs.outcomes.CodeTables.{coded}
use Rattle.sql_forms.proofs.puts.ComparisonsPut.{not_node}
use Rattle.sql_forms.proofs.puts.FaultyComparisonsPut.{code_is, truth_code_node}
use Rattle.sql_outcomes.proofs.outcomes.Truths.{true_where}
use Rattle.sql_outcomes.proofs.nodes.WorldNodes.{of_type, truth_coded, typed_kind}

-- the opposite of a truth value that is what the filter evaluates to is true exactly where that is false
false_where : (t : Option Bool) (o : Outcome) → truth t ≡ o → IsTrueWhere (o ≡ gives (boolean false)) (truth (not3 t))
false_where (Some true) o is = (Some false, refl, (λ same. absurd (some_true same), λ other. absurd (cc (is ∙ other))))
false_where (Some false) o is = (Some true, refl, (λ same. sym is, λ other. refl))
false_where None o is = (None, refl, (λ same. absurd (none_true same), λ other. absurd (cc (is ∙ other))))

-- a range for each node
pub range_there : (question : Question) (ranges : List Range) → AreRanges question ranges → (place : ℕ) (found : CheckedNode) → slice_get question.filter.list.nodes place ≡ Some found
    → (range : Range) × (slice_get ranges place ≡ Some range)
range_there question ranges are place found at = let within = slice_get_within question.filter.list.nodes place found at in get ranges place (omega (arith, within, are.count))
  where
    get : (xs : List Range) (k : ℕ) → k < length xs → (x : Range) × (slice_get xs k ≡ Some x)
    get [] k below = absurd (omega (arith, below))
    get (x ∷ xs) zero below = (x, refl)
    get (x ∷ xs) (suc k) below = get xs k (omega (arith, below))

module _ (question : Question) (ranges : List Range) (are : AreRanges question ranges) (ends : EndsOnceOnEntities) (is_moment : IsMoment question.now.civil question.now.offset_minutes) (place : ℕ)
    (is_truth : IsTruthAt question.filter place) where
  pub code_there : (world : World) (o : Outcome) → IsAskedOf question world → OfPlace question.filter place world o → Code o
  code_there world o seen has = code_in o (truth_coded question ends is_moment world seen place is_truth o has)

  -- ---- a node that evaluates to no fault

  module _ (faultless : IsFaultless ranges place) where
    pub value_there : (world : World) (o : Outcome) → IsAskedOf question world → OfPlace question.filter place world o → IsValue o
    value_there world o seen has = (faultless_valued question ranges are (place ∷ []) (faultless, tt) world (o ∷ []) seen (has, refl)).0

    pub code_by_truth : (old middle new : Draft) → Grows old middle (SqlNode.TruthCode ∷ []) → Puts question middle new (OfPlace question.filter place) (IsInForm Form.Truth)
        → Puts question old new (OfPlace question.filter place) (IsInForm Form.Code)
    code_by_truth old middle new grows inner =
        puts_one question SqlNode.TruthCode refl (λ x y. (t : Option Bool) × (x ≡ truth t) × (y ≡ code_of_truth t)) old middle new (OfPlace question.filter place) (OfPlace question.filter place)
        (IsInForm Form.Truth) (IsInForm Form.Code) truth_code_node grows inner
        (λ world o is has.
        let s = value_truth o (code_there world o is.seen has) (value_there world o is.seen has) in
        (o, has, λ x same. (code_of_truth s.0, (s.0, same ∙ s.1, refl), code_is s.0 ∙ ap coded (sym s.1))))

    pub keeps_by_truth : (old new : Draft) → Puts question old new (OfPlace question.filter place) (IsInForm Form.Truth) → Puts question old new (OfPlace question.filter place) (IsInForm Form.Keeps)
    keeps_by_truth old new inner =
        puts_as question old new (OfPlace question.filter place) (OfPlace question.filter place) (IsInForm Form.Truth) (IsInForm Form.Keeps) inner
        (λ world o is has.
        let s = value_truth o (code_there world o is.seen has) (value_there world o is.seen has) in
        (o, has, λ x same. subst (IsTrueWhere (o ≡ gives (boolean true))) (sym (same ∙ s.1)) (true_where s.0 o (sym s.1))))

    pub denies_by_truth : (old middle new : Draft) → Grows old middle (SqlNode.Not ∷ []) → Puts question middle new (OfPlace question.filter place) (IsInForm Form.Truth)
        → Puts question old new (OfPlace question.filter place) (IsInForm Form.Denies)
    denies_by_truth old middle new grows inner =
        puts_one question SqlNode.Not refl (λ x y. (t : Option Bool) × (x ≡ truth t) × (y ≡ truth (not3 t))) old middle new (OfPlace question.filter place) (OfPlace question.filter place)
        (IsInForm Form.Truth) (IsInForm Form.Denies) not_node grows inner
        (λ world o is has.
        let s = value_truth o (code_there world o is.seen has) (value_there world o is.seen has) in
        (o, has, λ x same. (truth (not3 s.0), (s.0, same ∙ s.1, refl), false_where s.0 o (sym s.1))))

  -- ---- a node of type Null

  module _ (is_null : IsSomeAnd (slice_get question.filter.list.nodes place) (λ node. kind_of_type node.edm_type ≡ Kind.Null)) where
    pub null_comes : (world : World) (o : Outcome) → IsAskedOf question world → OfPlace question.filter place world o → o ≡ gives null
    null_comes world o seen has =
        let node = some_there (λ (n : CheckedNode). kind_of_type n.edm_type ≡ Kind.Null) (slice_get question.filter.list.nodes place) is_null in
        let range = range_there question ranges are place node.0 node.1.0 in
        by node.0 node.1.1 range.0 (are.carries place node.0 range.0 node.1.0 range.1) o (of_type question ends is_moment world seen place node.0 node.1.0 o has)
        (are.within place range.0 world o range.1 seen has)
      where
        by : (node : CheckedNode) → kind_of_type node.edm_type ≡ Kind.Null → (range : Range) → (range.may_fault ≡ true → IsCarriedKind (kind_of_type node.edm_type)) → (p : Outcome)
            → IsOutcomeOf (slots_of world.row.schema) (expr_type world.row.schema node.edm_type) p → IsWithin range p → p ≡ gives null
        by node kind range carries (gives v) typed within =
            let same : v ≡ null = subst (λ (k : Kind). IsOfKind k v) kind (typed_kind (slots_of world.row.schema) world.row.schema node.edm_type v typed) in
            ap gives same
        by node kind range carries _ typed within = absurd (subst IsCarriedKind kind (carries within))

    pub null_truth_put : (old new : Draft) → Grows old new (SqlNode.Null SqlType.Truth ∷ []) → Puts question old new (OfPlace question.filter place) (IsInForm Form.Truth)
    null_truth_put old new grows =
        puts_leaf question (SqlNode.Null SqlType.Truth) refl old new (OfPlace question.filter place) (IsInForm Form.Truth) grows (λ world o is has. (gives null, refl, sym (null_comes world o is.seen has)))

    -- it is neither true nor false
    pub null_asked_put : (form : Form) → IsAskedCode form → (old new : Draft) → Grows old new (SqlNode.Truth false ∷ []) → Puts question old new (OfPlace question.filter place) (IsInForm form)
    null_asked_put form asked old new grows =
        puts_leaf question (SqlNode.Truth false) refl old new (OfPlace question.filter place) (IsInForm form) grows
        (λ world o is has. (gives (boolean false), refl, by form asked o (null_comes world o is.seen has)))
      where
        by : (f : Form) → IsAskedCode f → (o : Outcome) → o ≡ gives null → IsInForm f o (gives (boolean false))
        by Form.Keeps is o same = (Some false, refl, (λ reported. absurd (some_true reported), λ fact. absurd (cc (sym same ∙ fact))))
        by Form.Denies is o same = (Some false, refl, (λ reported. absurd (some_true reported), λ fact. absurd (cc (sym same ∙ fact))))
        by f is o same = absurd is

-- a comparison by its code
pub comparison_code_put : (question : Question) (ranges : List Range) (place : ℕ) (operator : ComparisonOperator) (left right : Operand) → IsComparisonOf question ranges place operator left right → (old new : Draft)
    → Puts question old new (FaultyHave question.filter operator left right) (IsInForm Form.Code) → Puts question old new (OfPlace question.filter place) (IsInForm Form.Code)
comparison_code_put question ranges place operator left right is old new inner =
    puts_as question old new (FaultyHave question.filter operator left right) (OfPlace question.filter place) (IsInForm Form.Code) (IsInForm Form.Code) inner
    (λ world o it has. (o, is.says world o it.seen has, λ x form. form))

-- ---- forms

-- codes are joined by tables
pub code_values : (join : SqlNode) (connective : LogicalOperator) → IsJoin Form.Code join connective → IsOfValues Form.Code join → ⊥
code_values SqlNode.Or connective joins values = joins
code_values join connective joins values = values

pub asked_no_truth : (form : Form) → IsAskedCode form → form ≢ Form.Truth
asked_no_truth Form.Keeps asked same = let e : Form.Keeps ≡ Form.Truth = same in absurd (cc)
asked_no_truth Form.Denies asked same = let e : Form.Denies ≡ Form.Truth = same in absurd (cc)
asked_no_truth _ asked same = asked
