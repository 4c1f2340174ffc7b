-- What some filters on a collection cost, as a check of what the definitions say.
use Rattle.std.specs.Prelude.{ℕ, List, [], ◌∷◌, codes}
use Rattle.edm_values.specs.MomentParts.{MomentParts}
use Rattle.edm_values.specs.Val.{Val}
use Rattle.odata_syntax.specs.Tree.{Shape, Tree, binary, call, in_list, in_path, node, trees_of_list}
use Rattle.odata_syntax.specs.declared.binary_operator.BinaryOperator.{BinaryOperator}
use Rattle.odata_syntax.specs.declared.binary_operator.ComparisonOperator.{ComparisonOperator}
use Rattle.odata_syntax.specs.declared.node.Quantifier.{Quantifier}
use Rattle.odata_meaning.specs.ComesToMembers.{is_null, named, null_literal, one_div_zero, over_tags, tagged, tagged_slots}
use Rattle.odata_meaning.specs.Costs.{Costs}

-- what a tree of that shape costs where `Tags` has that value; the positions of its nodes do not matter
abbrev pub CostsOnTags : Val → Shape → ℕ → Type 0
CostsOnTags tags shape cost =
    (root : List ℕ) (now : MomentParts) → Costs tagged_slots root now (tagged tags) [] (node 0 0 shape) cost

-- `t in (null,null)`
abbrev pub is_listed : Tree
is_listed = node 0 0 (in_list (named (codes "t")) (trees_of_list (null_literal ∷ null_literal ∷ [])))

-- `t in Tags`
abbrev pub is_member : Tree
is_member = node 0 0 (in_path (named (codes "t")) (named (codes "Tags")))

-- `t eq t`
abbrev pub is_itself : Tree
is_itself = node 0 0 (binary (BinaryOperator.Comparison ComparisonOperator.Eq) (named (codes "t")) (named (codes "t")))

-- `concat(t,t)`, and `concat(t,t) eq null`
abbrev pub doubled : Tree
doubled = node 0 0 (call (codes "concat") (trees_of_list (named (codes "t") ∷ named (codes "t") ∷ [])))

abbrev pub doubled_is_null : Tree
doubled_is_null = node 0 0 (binary (BinaryOperator.Comparison ComparisonOperator.Eq) doubled null_literal)

-- `1 div 0 eq Tags/any(t:t eq null)`
abbrev pub fault_first : Shape
fault_first = binary (BinaryOperator.Comparison ComparisonOperator.Eq) one_div_zero
    (node 0 0 (over_tags Quantifier.Any is_null))
