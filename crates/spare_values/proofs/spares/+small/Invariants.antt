use Rattle.std.proofs.Common.{ℕ, ◌+◌, ◌*◌}
use Rattle.spare_values.proofs.spares.+small.Given as goal

-- how deep values may nest counts first, and at one depth a list comes before its values
abbrev pub value_at : ℕ → ℕ
value_at depth = 2 * depth

abbrev pub list_at : ℕ → ℕ
list_at depth = value_at depth + 1

abbrev pub decreases-are_small : goal.decreases-are_small
decreases-are_small l = list_at l.depth

abbrev pub decreases-is_small : goal.decreases-is_small
decreases-is_small l = value_at l.depth
