use Rattle.odata_ranges.proofs.Common.{inl, inr, arith, ints}
use Rattle.odata_ranges.proofs.arithmetic_ranges.highest_remainder.Goals as goal

pub returns-then-high-gt0 : goal.returns-then-high-gt0
returns-then-high-gt0 c = λ a r from near. elim near.2 [ inl above ↦ elim c.least.ensures.one [ inl is ↦ omega (arith, ints) | inr is ↦ omega (arith, ints) ] | inr below ↦ elim c.least.ensures.one [ inl is ↦ omega (arith, ints) | inr is ↦ omega (arith, ints) ] ]

pub returns-else-high-gt0 : goal.returns-else-high-gt0
returns-else-high-gt0 c = λ a r from near. elim near.2 [ inl above ↦ omega (arith, ints) | inr below ↦ omega (arith, ints) ]
