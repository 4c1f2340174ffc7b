use Rattle.std.proofs.Common.{Option, Some, IfSome, subst}
use Rattle.edm_values.specs.NumberTypes.{IsNumberOf}
use Rattle.edm_values.specs.declared.primitive.PrimitiveType.{PrimitiveType}
use Rattle.edm_values.specs.declared.primitive.PrimitiveType.TheVariants.{Int16}
use Rattle.odata_functions.proofs.Widening.{left_within, right_promoted, promotion_promoted}
use Rattle.odata_functions.proofs.laws.operands_lie_within_promotion.Goals as goal

pub returns-clause-left : goal.returns-clause-left
returns-clause-left c = λ l t r n is others same within.
    subst (λ (o : Option PrimitiveType). IfSome o (λ k. IsNumberOf k n)) same (left_within n l r is within)

pub returns-clause-right : goal.returns-clause-right
returns-clause-right c = λ l r t n others is same within. right_promoted l r t n is same within

pub returns-clause-negation : goal.returns-clause-negation
returns-clause-negation c = λ o t n is same within.
    subst (λ (k : Option PrimitiveType). IfSome k (λ k. IsNumberOf k n)) same (left_within n o (Some Int16) is within)

pub returns-clause-three : goal.returns-clause-three
returns-clause-three c = promotion_promoted
