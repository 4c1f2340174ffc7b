use Rattle.odata_eval.proofs.walk_operand.arithmetic_operator.Goals as goal

pub returns-in-Logical-clause-none : goal.returns-in-Logical-clause-none
returns-in-Logical-clause-none c = λ o same. (let kind = c.in-Binary.is in let group = c.in-Logical.is in cc)

pub returns-in-Comparison-clause-none : goal.returns-in-Comparison-clause-none
returns-in-Comparison-clause-none c = λ o same. (let kind = c.in-Binary.is in let group = c.in-Comparison.is in cc)
