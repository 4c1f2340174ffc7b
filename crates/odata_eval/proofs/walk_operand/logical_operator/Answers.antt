use Rattle.odata_eval.proofs.walk_operand.logical_operator.Goals as goal

pub returns-in-Comparison-clause-none : goal.returns-in-Comparison-clause-none
returns-in-Comparison-clause-none c = λ o same. (let kind = c.in-Binary.is in let group = c.in-Comparison.is in cc)

pub returns-in-Arithmetic-clause-none : goal.returns-in-Arithmetic-clause-none
returns-in-Arithmetic-clause-none c = λ o same. (let kind = c.in-Binary.is in let group = c.in-Arithmetic.is in cc)
