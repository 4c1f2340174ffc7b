-- How the calls of the walk come to an end.
use Rattle.std.proofs.Common.{ℕ, List, ◌+◌, ◌-◌, ◌*◌, length}
use Rattle.odata_checked_filter.specs.declared.checked_node.CheckedNode.{CheckedNode}

-- what is left of the list counts first, and at one index the rank of the call: each call is of a call of a lower rank there
abbrev pub measure_at : List CheckedNode → ℕ → ℕ → ℕ
measure_at nodes place rank = 16 * (length nodes - place) + rank

-- an operand of arithmetic
abbrev pub rank_number_operand : ℕ
rank_number_operand = 15

-- one whose value is made
abbrev pub rank_made_number : ℕ
rank_made_number = 14

-- an operand, a member's body or an item
abbrev pub rank_operand : ℕ
rank_operand = 13

-- a node of any kind
abbrev pub rank_counted : ℕ
rank_counted = 12

-- a chain of logical operators
abbrev pub rank_truth : ℕ
rank_truth = 11

-- a node below such a chain, or a chain of numbers from a stored value
abbrev pub rank_plain : ℕ
rank_plain = 10

-- a comparison or a call
abbrev pub rank_test : ℕ
rank_test = 9

-- a chain of arithmetic
abbrev pub rank_numbers : ℕ
rank_numbers = 8

-- a truth value that is made
abbrev pub rank_made_truth : ℕ
rank_made_truth = 7

-- a chain of nodes whose operands are all taken
abbrev pub rank_eager : ℕ
rank_eager = 5

-- a node whose first operand has been answered
abbrev pub rank_step : ℕ
rank_step = 4

-- its other operands
abbrev pub rank_rest : ℕ
rank_rest = 3
