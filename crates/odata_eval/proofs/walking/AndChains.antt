-- A chain of `and` from the top of a filter's list down: what stands in it, and what is answered at its top.
use Rattle.std.proofs.Common.{◌≡◌, ℕ, zero, suc, ◌<◌, ◌≤◌, ◌+◌, ◌-◌, Bool, true, false, Option, Some, None, Result, Ok, Err, refl, subst, inl, inr, arith}
use Rattle.std.specs.Prelude.{◌↔◌, IfSome, IsTrue}
use Rattle.std.proofs.lemmas.Bool.{cases_lt}
use Rattle.edm_values.specs.PlainVal.{plain_val}
use Rattle.edm_values.specs.declared.value.Value.{Value}
use Rattle.odata_syntax.specs.declared.binary_operator.BinaryOperator.{BinaryOperator}
use Rattle.odata_signatures.specs.ExprTypes.{IsBooleanOrNull}
use Rattle.odata_syntax.specs.declared.binary_operator.LogicalOperator.{LogicalOperator}
use Rattle.odata_checked_filter.specs.FlatTree.{FlatTree}
use Rattle.odata_filter_operations.specs.TruthGives.{joined, truth_val}
use Rattle.odata_filter_operations.specs.declared.eval_fault.EvalFault.{EvalFault}
use Rattle.filter_context.specs.declared.walk_class.WalkClass.{WalkClass}
use Rattle.filter_context.specs.private.Place.{HasOperator, IsClassAt, IsRightOf, OperandStands, PartStands, TruthStands}
use Rattle.filter_context.specs.private.ContextModel.{ContextModel}
use Rattle.odata_eval.specs.private.WalkAnswer.{AnswersKept, AnswersTruth}
use Rattle.odata_meaning.specs.private.Decided.{IsDecided}
use Rattle.filter_context.specs.WalkClass.{walk_of_operator}
use Rattle.odata_eval.proofs.walking.KeptValues.{kept_value}
use Rattle.filter_context.proofs.Operands.{tree_of_class}
use Rattle.filter_context.proofs.Extents.{right_there, right_typed}
use Rattle.filter_context.proofs.Spines.{first_faults, first_part, first_step, part_down, typed_part, walks_by}
use Rattle.odata_eval.proofs.walking.WalkSteps.{decided_answers, joined_answers, joined_faults}

-- before so many indexes there are only `and`s
abbrev pub AndsBefore : FlatTree → ℕ → Type 0
AndsBefore list count = (k : ℕ) → k < count → HasOperator list k (BinaryOperator.Logical LogicalOperator.And)

pub ands_further : (list : FlatTree) (count : ℕ) → AndsBefore list count → HasOperator list count (BinaryOperator.Logical LogicalOperator.And) → AndsBefore list (count + 1)
ands_further list count ands here k within =
    elim (cases_lt k count) [
      | inl before ↦ ands k before
      | inr after ↦ (let same : count ≡ k = omega arith in subst (λ (n : ℕ). HasOperator list n (BinaryOperator.Logical LogicalOperator.And)) same here)
    ]

-- what goes on from each node to the one before it goes up to the top
up : (P : ℕ → Type 0) (d : ℕ) → ((i : ℕ) → i < d → P (i + 1) → P i) → P d → P 0
up P zero step last = last
up P (suc d) step last =
    let e : suc d ≡ d + 1 = omega arith in
    up P d (λ i before. step i (omega arith)) (step d (omega arith) (subst P e last))

-- what is answered not to hold does not
pub reported_not : (answer : Bool) (Fact : Type 0) → (IsTrue answer ↔ Fact) → answer ≡ false → ¬ Fact
reported_not answer Fact reported so = λ fact. let e : answer ≡ true = reported.1 fact in absurd (cc)

-- a true term leaves what the others evaluate to, a false one makes them false
true_term : (left : Option Bool) → joined LogicalOperator.And left (Some true) ≡ left
true_term (Some true) = refl
true_term (Some false) = refl
true_term None = refl

false_term : (left : Option Bool) → joined LogicalOperator.And left (Some false) ≡ Some false
false_term (Some true) = refl
false_term (Some false) = refl
false_term None = refl

-- beside a null they are null, where they do not decide
null_term : (left : Option Bool) → ¬ (IsDecided LogicalOperator.And (truth_val left)) → joined LogicalOperator.And left None ≡ None
null_term (Some true) undecided = refl
null_term (Some false) undecided = absurd (undecided tt)
null_term None undecided = refl

-- after a true one the others evaluate to what they evaluate to by themselves
true_side : (term : Option Bool) → joined LogicalOperator.And (Some true) term ≡ term
true_side (Some true) = refl
true_side (Some false) = refl
true_side None = refl

module _ (context : ContextModel) where
  and_walks : (place : ℕ) → HasOperator context.list place (BinaryOperator.Logical LogicalOperator.And) → IsClassAt context.list WalkClass.Logical place
  and_walks place here = walks_by context.list place (BinaryOperator.Logical LogicalOperator.And) WalkClass.Logical here refl

  -- the next node down
  pub next_stands : (place : ℕ) → HasOperator context.list place (BinaryOperator.Logical LogicalOperator.And) → TruthStands context place → TruthStands context (place + 1)
  next_stands place here stands = first_step context place WalkClass.Logical (λ leaf. cc) (and_walks place here) (typed_part context place IsBooleanOrNull stands)

  module _ (count : ℕ) (ands : AndsBefore context.list count) where
    -- what decides at a node of the chain, or has a fault, is what the whole evaluates to
    pub decided_up : (left : Option Bool) → IsDecided LogicalOperator.And (truth_val left) → (place : ℕ) → place ≤ count → AnswersTruth context place (Ok left) → AnswersTruth context 0 (Ok left)
    decided_up left decided place within =
        up (λ k. AnswersTruth context k (Ok left)) place
        (λ i before first. decided_answers context i LogicalOperator.And (ands i (omega arith)) left decided first)

    pub fault_up : (place : ℕ) → place ≤ count → (fault : EvalFault) → AnswersTruth context place (Err fault) → AnswersTruth context 0 (Err fault)
    fault_up place within fault =
        up (λ k. AnswersTruth context k (Err fault)) place
        (λ i before first. first_faults context i WalkClass.Logical fault (λ leaf. cc) (and_walks i (ands i (omega arith))) first)

    -- a step up, to the `and` of which the terms so far are the left side
    module _ (top : TruthStands context 0) (at : ℕ) (above : 0 < at) (within : at ≤ count) where
      and_there : HasOperator context.list (at - 1) (BinaryOperator.Logical LogicalOperator.And)
      and_there = ands (at - 1) (omega arith)

      part_there : PartStands context (at - 1)
      part_there =
          tree_of_class context (at - 1) WalkClass.Logical (λ leaf. cc) (and_walks (at - 1) and_there)
          (part_down context WalkClass.Logical (λ leaf. cc) 0 (at - 1) (omega arith) (typed_part context 0 IsBooleanOrNull top)
          (λ i before from. and_walks i (ands i (omega arith))))

      -- the next term stands on its right
      pub term_there : (right : ℕ) × IsRightOf context.list (at - 1) right
      term_there = right_there context (at - 1) (BinaryOperator.Logical LogicalOperator.And) and_there part_there

      module _ (right : ℕ) (is_right : IsRightOf context.list (at - 1) right) where
        pub term_stands : TruthStands context right
        term_stands = right_typed context (at - 1) (BinaryOperator.Logical LogicalOperator.And) and_there part_there right is_right WalkClass.Logical refl (λ same. cc)

        module _ (left : Option Bool) (undecided : ¬ (IsDecided LogicalOperator.And (truth_val left))) (first : AnswersTruth context at (Ok left)) where
          left_there : AnswersTruth context (at - 1 + 1) (Ok left)
          left_there = let e : at ≡ at - 1 + 1 = omega arith in subst (λ (k : ℕ). AnswersTruth context k (Ok left)) e first

          -- what comes of the terms so far and of the next one
          pub next_answers : (term : Option Bool) → AnswersTruth context right (Ok term) → AnswersTruth context (at - 1) (Ok (joined LogicalOperator.And left term))
          next_answers term second =
              joined_answers context (at - 1) LogicalOperator.And and_there left right is_right undecided left_there term second

          pub true_answers : AnswersTruth context right (Ok (Some true)) → AnswersTruth context (at - 1) (Ok left)
          true_answers second = subst (λ (r : Option Bool). AnswersTruth context (at - 1) (Ok r)) (true_term left) (next_answers (Some true) second)

          pub null_answers : AnswersTruth context right (Ok None) → AnswersTruth context (at - 1) (Ok None)
          null_answers second = subst (λ (r : Option Bool). AnswersTruth context (at - 1) (Ok r)) (null_term left undecided) (next_answers None second)

          pub false_answers : AnswersTruth context right (Ok (Some false)) → AnswersTruth context 0 (Ok (Some false))
          false_answers second =
              decided_up (Some false) tt (at - 1) (omega arith) (subst (λ (r : Option Bool). AnswersTruth context (at - 1) (Ok r)) (false_term left) (next_answers (Some false) second))

          pub fault_answers : (fault : EvalFault) → AnswersTruth context right (Err fault) → AnswersTruth context 0 (Err fault)
          fault_answers fault second =
              fault_up (at - 1) (omega arith) fault
              (joined_faults context (at - 1) LogicalOperator.And and_there left right is_right undecided left_there fault second)

        module _ (first : AnswersTruth context at (Ok (Some true))) where
          -- after true terms the next one's answer is that of its `and`
          pub true_goes_up : (answer : Result (Option Bool) EvalFault) → AnswersTruth context right answer → AnswersTruth context (at - 1) answer
          true_goes_up (Ok term) second =
              subst (λ (r : Option Bool). AnswersTruth context (at - 1) (Ok r)) (true_side term) (next_answers (Some true) (λ none. none) first term second)
          true_goes_up (Err fault) second =
              joined_faults context (at - 1) LogicalOperator.And and_there (Some true) right is_right (λ none. none) (left_there (Some true) (λ none. none) first) fault second

-- no operator is taken as a leaf
operator_inner : (operator : BinaryOperator) → ¬ (walk_of_operator operator ≡ WalkClass.Leaf)
operator_inner (BinaryOperator.Logical logical) leaf = cc
operator_inner (BinaryOperator.Comparison comparison) leaf = cc
operator_inner (BinaryOperator.Arithmetic arithmetic) leaf = cc

-- its left side stands after it
pub left_side : (context : ContextModel) (place : ℕ) (operator : BinaryOperator) → HasOperator context.list place operator → PartStands context place → OperandStands context (place + 1)
left_side context place operator here part =
    first_part context place (walk_of_operator operator) (operator_inner operator)
    (walks_by context.list place operator (walk_of_operator operator) here refl) part

-- a stored truth value is answered where it is no null
pub kept_answers : (context : ContextModel) (place : ℕ) (value : Value) → AnswersKept context place value → (truth : Option Bool) → plain_val value ≡ Some (truth_val truth)
    → IfSome truth (λ t. AnswersTruth context place (Ok (Some t)))
kept_answers context place value kept None is = tt
kept_answers context place value kept (Some t) is = kept_value context place value kept (truth_val (Some t)) is
