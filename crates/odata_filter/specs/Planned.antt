-- The plans that are carried out.
use Rattle.std.specs.Prelude.{ℕ, List, IfSome}
use Rattle.edm_values.specs.MomentLiteral.{MomentValue}
use Rattle.edm_values.specs.MomentParts.{MomentParts}
use Rattle.command_plan.specs.CommandLine.{IsOneOf}
use Rattle.command_plan.specs.declared.command_line.Plan.{Plan}

-- the text is a moment (OData ABNF Construction Rules 4.01, section 7, `dateTimeOffsetValue`)
abbrev pub IsMomentText : List ℕ → Type 0
IsMomentText text = (moment : MomentParts) × MomentValue text moment

-- a filter's text or a query, and for now a moment, if anything
pub record IsPlanned (plan : Plan) : Type 0 where
  pub one_of : IsOneOf plan.filter plan.query
  pub moment : IfSome plan.now (λ given. IsMomentText given.now)
