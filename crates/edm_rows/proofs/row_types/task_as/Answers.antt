use Rattle.std.proofs.Common.{inl, inr, refl, sym}
use Rattle.edm_rows.proofs.row_types.task_as.Goals as goal

pub returns-then-not-many : goal.returns-then-not-many
returns-then-not-many c = inr (inl c.if-not-many.true, refl)

pub returns-in-Any : goal.returns-in-Any
returns-in-Any c = inr (inr c.in-Any.is, sym c.in-Any.is)

pub returns-in_default : goal.returns-in_default
returns-in_default c = inl (c.if-not-many.false, c.in_default.not-Any, refl)
