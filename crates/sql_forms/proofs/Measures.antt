-- What is left to translate: of the filter's nodes first, and at one node the order of the calls.
use Rattle.sql_forms.proofs.Common.{ℕ, ◌+◌, ◌-◌, ◌*◌, ◌<◌, ◌≤◌, max, List, [], ◌∷◌, length, arith, Filter, Operand, Source}
use Rattle.std.proofs.lemmas.Nat.{mul-add-lt, mul-le}

abbrev pub left_from : Filter → ℕ → ℕ
left_from filter place = length filter.list.nodes - place

-- a value that is bound, and what is no node of the filter, leave nothing
abbrev pub left_by : Filter → Source → ℕ
left_by filter (Source.Node place) = left_from filter place
left_by filter source = 0

abbrev pub left_of : Filter → Operand → ℕ
left_of filter operand = left_by filter operand.source

abbrev pub left_in : Filter → List Operand → ℕ
left_in filter [] = 0
left_in filter (operand ∷ operands) = max (left_of filter operand) (left_in filter operands)

abbrev pub left_among : Filter → List ℕ → ℕ
left_among filter [] = 0
left_among filter (place ∷ places) = max (left_from filter place) (left_among filter places)

-- the rank of a call is less than 64, and no list of terms or operands is longer than that of the nodes
abbrev pub turn : Filter → ℕ → ℕ → ℕ
turn filter left rank = (length filter.list.nodes + 64) * left + rank

row_less : (k a b r s : ℕ) → a < b → r < k → k * a + r < k * b + s
row_less k a b r s less small = omega (arith, mul-add-lt a k r b less small)

-- further on in the filter
pub on_from : (filter : Filter) (a b r s : ℕ) → a < b → r < length filter.list.nodes + 64 → turn filter a r < turn filter b s
on_from filter a b r s less small = row_less (length filter.list.nodes + 64) a b r s less small

-- at one node, or further on
pub down_to : (filter : Filter) (a b r s : ℕ) → a ≤ b → r < s → turn filter a r < turn filter b s
down_to filter a b r s most less =
    let rows = mul-le (length filter.list.nodes + 64) a (length filter.list.nodes + 64) b (omega arith) most in
    omega (arith, rows, less)
