-- Filters on collections, as a check of what the definitions say (OData URL Conventions 4.01, sections 4.8, 5.1.1.1.11
-- and 5.1.1.13).
use Rattle.std.specs.Prelude.{◌≡◌, ◌↔◌, ℕ, List, [], ◌∷◌, None, true, codes, nat_eq, if◌then◌else◌}
use Rattle.std.specs.Cmp.Lexicographic.{pointwise}
use Rattle.edm_values.specs.MomentParts.{MomentParts}
use Rattle.edm_values.specs.Val.{Val, null, text, items, fields, absent, present, no_items, item}
use Rattle.edm_values.specs.declared.primitive.PrimitiveType.{PrimitiveType}
use Rattle.csdl_schema.specs.PathSet.{no_paths}
use Rattle.csdl_schema.specs.ExprType.{collection, primitive}
use Rattle.csdl_schema.specs.SchemaModel.{Slots, declared}
use Rattle.odata_syntax.specs.Tree.{Shape, Tree, node, literal, name, binary, lambda}
use Rattle.odata_syntax.specs.declared.binary_operator.BinaryOperator.{BinaryOperator}
use Rattle.odata_syntax.specs.declared.binary_operator.ComparisonOperator.{ComparisonOperator}
use Rattle.odata_syntax.specs.declared.binary_operator.ArithmeticOperator.{ArithmeticOperator}
use Rattle.odata_syntax.specs.declared.node.LiteralKind.{LiteralKind}
use Rattle.odata_syntax.specs.declared.node.Quantifier.{Quantifier}
use Rattle.odata_meaning.specs.Means.{Means}
use Rattle.odata_filter_operations.specs.Outcome.{Outcome}

-- every type has one property: `Tags`, a collection of texts, which may be null
abbrev pub tagged_slots : Slots
tagged_slots = record {
  properties = λ _. record {
    name = codes "Tags";
    type_of = declared (collection (primitive PrimitiveType.String));
    many = true;
    nullable = true;
  } ∷ [];
  enumerations = λ _. None;
  enumeration_names = λ _. None;
  needed = no_paths;
}

-- a value of it
abbrev pub tagged : Val → Val
tagged tags = fields (λ asked. if pointwise nat_eq asked (codes "Tags") then present tags else absent)

-- the members 'a' and null
abbrev pub text_and_null : Val
text_and_null = items (item (text (codes "a")) (item null no_items))

-- what a tree of that shape evaluates to there, and nothing else; the positions of its nodes do not matter
abbrev pub ComesToOn : Val → Shape → Outcome → Type 0
ComesToOn tags shape outcome =
    (root : List ℕ) (now : MomentParts) (o : Outcome)
    → Means tagged_slots root now (tagged tags) [] (node 0 0 shape) o ↔ (o ≡ outcome)

-- `null`; a name; `1 div 0`
abbrev pub null_literal : Tree
null_literal = node 0 0 (literal LiteralKind.Null (codes "null"))

-- the name alone, as a tree
abbrev pub named : List ℕ → Tree
named word = node 0 0 (name word)

-- `1 div 0`
abbrev pub one_div_zero : Tree
one_div_zero =
    node 0 0 (binary (BinaryOperator.Arithmetic ArithmeticOperator.Div)
    (node 0 0 (literal LiteralKind.Int (codes "1")))
    (node 0 0 (literal LiteralKind.Int (codes "0"))))

-- `t eq null`
abbrev pub is_null : Tree
is_null = node 0 0 (binary (BinaryOperator.Comparison ComparisonOperator.Eq) (named (codes "t")) null_literal)

-- `Tags/any(t:..)` and `Tags/all(t:..)`
abbrev pub over_tags : Quantifier → Tree → Shape
over_tags quantifier body = lambda quantifier (named (codes "Tags")) (codes "t") body

-- `u eq t`, and `Tags/all(u:u eq t)`
abbrev pub is_alike : Tree
is_alike = node 0 0 (binary (BinaryOperator.Comparison ComparisonOperator.Eq) (named (codes "u")) (named (codes "t")))

abbrev pub all_alike : Tree
all_alike = node 0 0 (lambda Quantifier.All (named (codes "Tags")) (codes "u") is_alike)
