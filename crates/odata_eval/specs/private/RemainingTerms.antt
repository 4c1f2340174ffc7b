-- For private clauses: how far a chain of `and` at the top of a filter's list has been asked.
use Rattle.std.specs.Prelude.{ℕ, ◌<◌, Bool, Option, Some, Result, Ok}
use Rattle.odata_syntax.specs.declared.binary_operator.BinaryOperator.{BinaryOperator}
use Rattle.odata_syntax.specs.declared.binary_operator.LogicalOperator.{LogicalOperator}
use Rattle.odata_eval.specs.declared.and_chain.PlainTerms.{PlainTerms}
use Rattle.odata_eval.specs.declared.and_chain.RemainingTerms.{RemainingTerms}
use Rattle.odata_filter_operations.specs.declared.eval_fault.EvalFault.{EvalFault}
use Rattle.filter_context.specs.private.Place.{HasOperator, TruthStands}
use Rattle.filter_context.specs.private.ContextModel.{ContextModel}
use Rattle.odata_eval.specs.private.WalkAnswer.{AnswersTruth}

-- the next term stands there; the first nodes, so many, are `and`s, and what is answered of the term is answered of the
-- node after these
pub record IsRemaining (context : ContextModel) (remaining : RemainingTerms) : Type 0 where
  pub stands : TruthStands context remaining.term
  pub ands : (k : ℕ) → k < remaining.ands → HasOperator context.list k (BinaryOperator.Logical LogicalOperator.And)
  pub goes_up :
      (answer : Result (Option Bool) EvalFault) → AnswersTruth context remaining.term answer
      → AnswersTruth context remaining.ands answer

-- what came of the plain terms is what the whole evaluates to, or says what is left of it
abbrev pub ReportsTerms : ContextModel → PlainTerms → Type 0
ReportsTerms context (PlainTerms.Decide truth) = AnswersTruth context 0 (Ok (Some truth))
ReportsTerms context (PlainTerms.Leave remaining) = IsRemaining context remaining
