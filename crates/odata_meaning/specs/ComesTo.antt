-- Two filters on values of one type, as a check of what the definitions say.
use Rattle.std.specs.Prelude.{◌≡◌, ◌↔◌, ℕ, ℤ, List, [], None, Bool, codes, nat_eq, if◌then◌else◌}
use Rattle.std.specs.Cmp.Lexicographic.{pointwise}
use Rattle.edm_values.specs.MomentParts.{MomentParts}
use Rattle.edm_values.specs.Val.{Val, boolean, whole, text, fields, FieldVal, absent, present}
use Rattle.odata_syntax.specs.Tree.{Tree, node, literal, name, binary}
use Rattle.odata_syntax.specs.declared.binary_operator.BinaryOperator.{BinaryOperator}
use Rattle.odata_syntax.specs.declared.binary_operator.LogicalOperator.{LogicalOperator}
use Rattle.odata_syntax.specs.declared.node.LiteralKind.{LiteralKind}
use Rattle.csdl_schema.specs.SchemaModel.{Slots}
use Rattle.odata_meaning.specs.Means.{Means}
use Rattle.odata_filter_operations.specs.Outcome.{Outcome}

-- the tree of `false and Missing`
abbrev pub false_and_missing : Tree
false_and_missing =
    node 0 17 (binary (BinaryOperator.Logical LogicalOperator.And)
    (node 0 5 (literal LiteralKind.Bool (codes "false")))
    (node 10 17 (name (codes "Missing"))))

-- what an item with these three members has under a name
abbrev pub item_members : ℤ → List ℕ → Bool → List ℕ → FieldVal
item_members id title active asked =
    if pointwise nat_eq asked (codes "ID") then present (whole id)
    else if pointwise nat_eq asked (codes "Name") then present (text title)
    else if pointwise nat_eq asked (codes "Active") then present (boolean active)
    else absent

-- an item with these values, as a record
abbrev pub item_value : ℤ → List ℕ → Bool → Val
item_value id title active = fields (item_members id title active)

-- the tree has this outcome on the value, and no other
abbrev pub ComesToIn : Slots → Tree → Val → Outcome → Type 0
ComesToIn slots tree value outcome =
    (root : List ℕ) (now : MomentParts) (o : Outcome) → Means slots root now value [] tree o ↔ (o ≡ outcome)

-- it has so where there are no enumerations, so that each String literal is a text
abbrev pub ComesTo : Tree → Val → Outcome → Type 0
ComesTo tree value outcome =
    (slots : Slots) → ((name : List ℕ) → slots.enumerations name ≡ None) → ComesToIn slots tree value outcome
