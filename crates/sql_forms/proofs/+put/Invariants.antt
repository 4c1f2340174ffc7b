use Rattle.sql_forms.proofs.Common.{◌≡◌, ◌+◌, ◌-◌, [], ◌∷◌, length, take, AllHave, question_of, PutsAll}
use Rattle.sql_forms.proofs.answers.LoopAnswers.{AmongSoFar, FunctionSoFar}
use Rattle.sql_forms.proofs.Measures.{left_among, left_from, left_in, left_of, turn}
use Rattle.sql_forms.proofs.+put.Given as goal

-- what is left of the filter counts first, and at one node the order of the calls
abbrev pub decreases-lambda::put_by : goal.decreases-lambda::put_by
decreases-lambda::put_by l = turn l.context.now.checked.now (left_from l.context.now.checked.now l.place) 9

abbrev pub decreases-lambda::put_body : goal.decreases-lambda::put_body
decreases-lambda::put_body l = turn l.context.now.checked.now (left_from l.context.now.checked.now l.body) 10

abbrev pub decreases-lambda::put_decided_member : goal.decreases-lambda::put_decided_member
decreases-lambda::put_decided_member l = turn l.context.now.checked.now (left_from l.context.now.checked.now l.place) 1

abbrev pub decreases-lambda::put_members : goal.decreases-lambda::put_members
decreases-lambda::put_members l = turn l.context.now.checked.now (left_from l.context.now.checked.now l.place) 1

abbrev pub decreases-lambda::put_lambda : goal.decreases-lambda::put_lambda
decreases-lambda::put_lambda l = turn l.context.now.checked.now (left_from l.context.now.checked.now l.place) 2

abbrev pub decreases-lambda::put_kept_lambda : goal.decreases-lambda::put_kept_lambda
decreases-lambda::put_kept_lambda l = turn l.context.now.checked.now (left_from l.context.now.checked.now l.place) 2

abbrev pub decreases-lambda::put_lambda_code : goal.decreases-lambda::put_lambda_code
decreases-lambda::put_lambda_code l = turn l.context.now.checked.now (left_from l.context.now.checked.now l.place) 2

abbrev pub decreases-in_path::put_kept_in_path : goal.decreases-in_path::put_kept_in_path
decreases-in_path::put_kept_in_path l = turn l.context.now.checked.now (left_from l.context.now.checked.now l.place) 1

abbrev pub decreases-in_path::put_in_path : goal.decreases-in_path::put_in_path
decreases-in_path::put_in_path l = turn l.context.now.checked.now (left_from l.context.now.checked.now l.place) 2

abbrev pub decreases-in_path::put_truth_in_path_code : goal.decreases-in_path::put_truth_in_path_code
decreases-in_path::put_truth_in_path_code l = turn l.context.now.checked.now (left_from l.context.now.checked.now l.place) 1

abbrev pub decreases-in_path::put_in_path_code : goal.decreases-in_path::put_in_path_code
decreases-in_path::put_in_path_code l = turn l.context.now.checked.now (left_from l.context.now.checked.now l.place) 2

abbrev pub decreases-list_forms::put_list : goal.decreases-list_forms::put_list
decreases-list_forms::put_list l = turn l.context.now.checked.now (left_from l.context.now.checked.now l.place) 2

abbrev pub decreases-list_forms::put_kept_list : goal.decreases-list_forms::put_kept_list
decreases-list_forms::put_kept_list l = turn l.context.now.checked.now (left_from l.context.now.checked.now l.place) 2

abbrev pub decreases-list_forms::put_truth_list_code : goal.decreases-list_forms::put_truth_list_code
decreases-list_forms::put_truth_list_code l = turn l.context.now.checked.now (left_from l.context.now.checked.now l.place) 1

abbrev pub decreases-list_forms::put_list_code : goal.decreases-list_forms::put_list_code
decreases-list_forms::put_list_code l = turn l.context.now.checked.now (left_from l.context.now.checked.now l.place) 2

abbrev pub decreases-truth::put_other_truth : goal.decreases-truth::put_other_truth
decreases-truth::put_other_truth l = turn l.context.now.checked.now (left_from l.context.now.checked.now l.place) 3

abbrev pub decreases-call_forms::put_call : goal.decreases-call_forms::put_call
decreases-call_forms::put_call l = turn l.context.now.checked.now (left_from l.context.now.checked.now l.place) 3

abbrev pub decreases-call_forms::put_call_code : goal.decreases-call_forms::put_call_code
decreases-call_forms::put_call_code l = turn l.context.now.checked.now (left_from l.context.now.checked.now l.place) 3

abbrev pub decreases-value_forms::put_arithmetic : goal.decreases-value_forms::put_arithmetic
decreases-value_forms::put_arithmetic l = turn l.context.now.checked.now (left_from l.context.now.checked.now l.place) 3

abbrev pub decreases-truth::put_truth : goal.decreases-truth::put_truth
decreases-truth::put_truth l = turn l.context.now.checked.now (left_from l.context.now.checked.now l.place) 4

abbrev pub decreases-value_forms::put_value : goal.decreases-value_forms::put_value
decreases-value_forms::put_value l = turn l.context.now.checked.now (left_from l.context.now.checked.now l.place) 5

abbrev pub decreases-code::put_code : goal.decreases-code::put_code
decreases-code::put_code l = turn l.context.now.checked.now (left_from l.context.now.checked.now l.place) 6

abbrev pub decreases-keeps::put_has_code : goal.decreases-keeps::put_has_code
decreases-keeps::put_has_code l = turn l.context.now.checked.now (left_from l.context.now.checked.now l.place) 7

abbrev pub decreases-keeps::put_keeps : goal.decreases-keeps::put_keeps
decreases-keeps::put_keeps l = turn l.context.now.checked.now (left_from l.context.now.checked.now l.place) 8

abbrev pub decreases-keeps::put_denies : goal.decreases-keeps::put_denies
decreases-keeps::put_denies l = turn l.context.now.checked.now (left_from l.context.now.checked.now l.place) 8

abbrev pub decreases-terms::put_form : goal.decreases-terms::put_form
decreases-terms::put_form l = turn l.context.now.checked.now (left_from l.context.now.checked.now l.place) 9

abbrev pub decreases-operand_forms::put_operand : goal.decreases-operand_forms::put_operand
decreases-operand_forms::put_operand l = turn l.context.now.checked.now (left_of l.context.now.checked.now l.operand.now) 10

abbrev pub decreases-operand_forms::put_instant : goal.decreases-operand_forms::put_instant
decreases-operand_forms::put_instant l = turn l.context.now.checked.now (left_of l.context.now.checked.now l.operand.now) 11

abbrev pub decreases-operand_forms::put_compared : goal.decreases-operand_forms::put_compared
decreases-operand_forms::put_compared l = turn l.context.now.checked.now (left_of l.context.now.checked.now l.operand.now) 12

abbrev pub decreases-operand_forms::put_is_null : goal.decreases-operand_forms::put_is_null
decreases-operand_forms::put_is_null l = turn l.context.now.checked.now (left_of l.context.now.checked.now l.operand.now) 11

abbrev pub decreases-arithmetic_forms::put_is_zero : goal.decreases-arithmetic_forms::put_is_zero
decreases-arithmetic_forms::put_is_zero l = turn l.context.now.checked.now (left_of l.context.now.checked.now l.operand.now) 11

abbrev pub decreases-code::put_operand_code : goal.decreases-code::put_operand_code
decreases-code::put_operand_code l = turn l.context.now.checked.now (left_of l.context.now.checked.now l.operand.now) 10

abbrev pub decreases-truth::put_has : goal.decreases-truth::put_has
decreases-truth::put_has l = turn l.context.now.checked.now (left_in l.context.now.checked.now (l.left.now ∷ l.right.now ∷ [])) 11

abbrev pub decreases-arithmetic_forms::put_unbounded : goal.decreases-arithmetic_forms::put_unbounded
decreases-arithmetic_forms::put_unbounded l = turn l.context.now.checked.now (left_in l.context.now.checked.now (l.left.now ∷ l.right.now ∷ [])) 12

abbrev pub decreases-arithmetic_forms::put_checked : goal.decreases-arithmetic_forms::put_checked
decreases-arithmetic_forms::put_checked l = turn l.context.now.checked.now (left_in l.context.now.checked.now (l.left.now ∷ l.right.now ∷ [])) 13

abbrev pub decreases-arithmetic_forms::put_calculated : goal.decreases-arithmetic_forms::put_calculated
decreases-arithmetic_forms::put_calculated l = turn l.context.now.checked.now (left_in l.context.now.checked.now (l.left.now ∷ l.right.now ∷ [])) 14

abbrev pub decreases-lift::Lifted::close : goal.decreases-lift::Lifted::close
decreases-lift::Lifted::close l = turn l.context.now.checked.now (left_in l.context.now.checked.now l.self.now.bound.items) 11

abbrev pub decreases-call_forms::put_function : goal.decreases-call_forms::put_function
decreases-call_forms::put_function l = turn l.context.now.checked.now (left_in l.context.now.checked.now l.operands.now) 11

abbrev pub decreases-call_forms::put_called : goal.decreases-call_forms::put_called
decreases-call_forms::put_called l = turn l.context.now.checked.now (left_in l.context.now.checked.now l.operands.now) 12

abbrev pub decreases-comparison_forms::put_strict : goal.decreases-comparison_forms::put_strict
decreases-comparison_forms::put_strict l = turn l.context.now.checked.now (left_in l.context.now.checked.now (l.left.now ∷ l.right.now ∷ [])) 13

abbrev pub decreases-comparison_forms::put_same : goal.decreases-comparison_forms::put_same
decreases-comparison_forms::put_same l = turn l.context.now.checked.now (left_in l.context.now.checked.now (l.left.now ∷ l.right.now ∷ [])) 13

abbrev pub decreases-comparison_forms::put_beside_null : goal.decreases-comparison_forms::put_beside_null
decreases-comparison_forms::put_beside_null l = turn l.context.now.checked.now (left_of l.context.now.checked.now l.operand.now) 12

abbrev pub decreases-comparison_forms::put_of_one : goal.decreases-comparison_forms::put_of_one
decreases-comparison_forms::put_of_one l = turn l.context.now.checked.now (left_in l.context.now.checked.now (l.left.now ∷ l.right.now ∷ [])) 14

abbrev pub decreases-comparison_forms::put_or_nulls : goal.decreases-comparison_forms::put_or_nulls
decreases-comparison_forms::put_or_nulls l = turn l.context.now.checked.now (left_in l.context.now.checked.now (l.left.now ∷ l.right.now ∷ [])) 14

abbrev pub decreases-comparison_forms::put_of_nullable : goal.decreases-comparison_forms::put_of_nullable
decreases-comparison_forms::put_of_nullable l = turn l.context.now.checked.now (left_in l.context.now.checked.now (l.left.now ∷ l.right.now ∷ [])) 15

abbrev pub decreases-comparison_forms::put_comparison : goal.decreases-comparison_forms::put_comparison
decreases-comparison_forms::put_comparison l = turn l.context.now.checked.now (left_in l.context.now.checked.now (l.left.now ∷ l.right.now ∷ [])) 16

abbrev pub decreases-comparison_forms::put_kept_comparison : goal.decreases-comparison_forms::put_kept_comparison
decreases-comparison_forms::put_kept_comparison l = turn l.context.now.checked.now (left_in l.context.now.checked.now (l.left.now ∷ l.right.now ∷ [])) 17

abbrev pub decreases-comparison_forms::put_denied_comparison : goal.decreases-comparison_forms::put_denied_comparison
decreases-comparison_forms::put_denied_comparison l = turn l.context.now.checked.now (left_in l.context.now.checked.now (l.left.now ∷ l.right.now ∷ [])) 17

abbrev pub decreases-code::put_compared_code : goal.decreases-code::put_compared_code
decreases-code::put_compared_code l = turn l.context.now.checked.now (left_in l.context.now.checked.now (l.left.now ∷ l.right.now ∷ [])) 17

abbrev pub decreases-list_forms::put_among : goal.decreases-list_forms::put_among
decreases-list_forms::put_among l = turn l.context.now.checked.now (left_in l.context.now.checked.now (l.left.now ∷ l.items.now)) 13

abbrev pub decreases-list_forms::put_equal_to_one : goal.decreases-list_forms::put_equal_to_one
decreases-list_forms::put_equal_to_one l = turn l.context.now.checked.now (left_in l.context.now.checked.now (l.left.now ∷ l.items.now)) (18 + length l.items.now)

abbrev pub decreases-list_forms::put_over_left : goal.decreases-list_forms::put_over_left
decreases-list_forms::put_over_left l = turn l.context.now.checked.now (left_in l.context.now.checked.now (l.left.now ∷ l.items.now)) (19 + length l.items.now)

abbrev pub decreases-list_forms::put_equal_codes : goal.decreases-list_forms::put_equal_codes
decreases-list_forms::put_equal_codes l = turn l.context.now.checked.now (left_in l.context.now.checked.now (l.left.now ∷ l.items.now)) (18 + length l.items.now)

abbrev pub decreases-list_forms::put_codes : goal.decreases-list_forms::put_codes
decreases-list_forms::put_codes l = turn l.context.now.checked.now (left_in l.context.now.checked.now (l.left.now ∷ l.items.now)) (19 + length l.items.now)

abbrev pub decreases-in_path::put_has_member : goal.decreases-in_path::put_has_member
decreases-in_path::put_has_member l = turn l.context.now.checked.now (left_of l.context.now.checked.now l.left.now) 18

abbrev pub decreases-in_path::put_over_members : goal.decreases-in_path::put_over_members
decreases-in_path::put_over_members l = turn l.context.now.checked.now (left_of l.context.now.checked.now l.left.now) 19

abbrev pub decreases-terms::put_joined : goal.decreases-terms::put_joined
decreases-terms::put_joined l = turn l.context.now.checked.now (left_among l.context.now.checked.now l.terms.now) (10 + length l.terms.now)

abbrev pub decreases-keeps::put_undecided : goal.decreases-keeps::put_undecided
decreases-keeps::put_undecided l = turn l.context.now.checked.now (left_among l.context.now.checked.now l.terms.now) (11 + length l.terms.now)

abbrev pub decreases-keeps::put_decided : goal.decreases-keeps::put_decided
decreases-keeps::put_decided l = turn l.context.now.checked.now (left_among l.context.now.checked.now l.terms.now) (12 + length l.terms.now)

-- ---- loops

abbrev pub invariant-call_forms::put_function-loop-place : goal.invariant-call_forms::put_function-loop-place
invariant-call_forms::put_function-loop-place l = record { so : FunctionSoFar (question_of l.context) l.function l.operands l.fn.draft l.draft l.place }

abbrev pub invariant-list_forms::put_among-loop-place : goal.invariant-list_forms::put_among-loop-place
invariant-list_forms::put_among-loop-place l = record { so : AmongSoFar (question_of l.context) l.left l.items l.fn.draft l.draft l.place }

abbrev pub invariant-lift::Lifted::close-loop-place : goal.invariant-lift::Lifted::close-loop-place
invariant-lift::Lifted::close-loop-place l = record {
  put : PutsAll (question_of l.context) (record l.fn.draft { depth = l.fn.draft.depth - length l.self.bound.items }) l.draft
      (AllHave l.context.checked.now (take l.place l.self.bound.items)) (length (take l.place l.self.bound.items));
  idle : l.place ≡ 0 → l.draft ≡ record l.fn.draft { depth = l.fn.draft.depth - length l.self.bound.items };
}
