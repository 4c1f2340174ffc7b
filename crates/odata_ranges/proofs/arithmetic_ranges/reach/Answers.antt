use Rattle.odata_ranges.proofs.arithmetic_ranges.reach.Goals as goal

pub returns-in-Add-clause-reaches : goal.returns-in-Add-clause-reaches
returns-in-Add-clause-reaches c = rw c.in-Add.is c.sum_span.ensures.reaches

pub returns-in-Add-clause-attains : goal.returns-in-Add-clause-attains
returns-in-Add-clause-attains c = λ other. rw c.in-Add.is c.sum_span.ensures.attains

pub returns-in-Sub-clause-reaches : goal.returns-in-Sub-clause-reaches
returns-in-Sub-clause-reaches c = rw c.in-Sub.is c.difference_span.ensures.reaches

pub returns-in-Sub-clause-attains : goal.returns-in-Sub-clause-attains
returns-in-Sub-clause-attains c = λ other. rw c.in-Sub.is c.difference_span.ensures.attains

pub returns-in-Mul-clause-reaches : goal.returns-in-Mul-clause-reaches
returns-in-Mul-clause-reaches c = rw c.in-Mul.is c.product_span.ensures.reaches

pub returns-in-Mul-clause-attains : goal.returns-in-Mul-clause-attains
returns-in-Mul-clause-attains c = λ other. rw c.in-Mul.is c.product_span.ensures.attains

pub returns-else-holds_zero-clause-reaches : goal.returns-else-holds_zero-clause-reaches
returns-else-holds_zero-clause-reaches c = rw c.in-Div.is c.quotient_span.ensures.reaches

pub returns-else-holds_zero-clause-attains : goal.returns-else-holds_zero-clause-attains
returns-else-holds_zero-clause-attains c = λ other. rw c.in-Div.is c.quotient_span.ensures.attains

pub returns-else-holds_zero-2-clause-reaches : goal.returns-else-holds_zero-2-clause-reaches
returns-else-holds_zero-2-clause-reaches c = rw c.in-Mod.is c.remainder_span.ensures

pub returns-else-holds_zero-2-clause-attains : goal.returns-else-holds_zero-2-clause-attains
returns-else-holds_zero-2-clause-attains c = λ other. absurd (other c.in-Mod.is)
