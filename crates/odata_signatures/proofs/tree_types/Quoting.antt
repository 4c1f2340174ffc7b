-- A tree that quotes a text has type String.
use Rattle.std.proofs.Common.{◌≡◌, ℕ, List, Option, Some, None}
use Rattle.odata_syntax.specs.Tree.{Tree, node, literal, it, name, member, count, negation, logical_not, binary, has, in_list, in_path, call, any_item, lambda}
use Rattle.odata_syntax.specs.declared.node.LiteralKind.{LiteralKind}
use Rattle.csdl_schema.specs.ExprType.{ExprType}
use Rattle.csdl_schema.specs.SchemaModel.{Slots}
use Rattle.odata_signatures.specs.ExprTypes.{string_type}
use Rattle.odata_signatures.specs.LiteralValue.{LiteralTyped}
use Rattle.odata_signatures.specs.Sides.{quoted_text}
use Rattle.odata_signatures.specs.Typed.{Scope, Typed}

none_some : (spelling : List ℕ) → ◌≡◌ {A = Option (List ℕ)} None (Some spelling) → ⊥
none_some spelling same = cc

literal_string : (slots : Slots) (start stop : ℕ) (kind : LiteralKind) (text spelling : List ℕ) (type : ExprType)
    → quoted_text (node start stop (literal kind text)) ≡ Some spelling → LiteralTyped slots kind text type → type ≡ string_type
literal_string slots start stop LiteralKind.Str text spelling type quotes typed = typed.2
literal_string slots start stop LiteralKind.Null text spelling type quotes typed = absurd (none_some spelling quotes)
literal_string slots start stop LiteralKind.Bool text spelling type quotes typed = absurd (none_some spelling quotes)
literal_string slots start stop LiteralKind.Int text spelling type quotes typed = absurd (none_some spelling quotes)
literal_string slots start stop LiteralKind.Date text spelling type quotes typed = absurd (none_some spelling quotes)
literal_string slots start stop LiteralKind.Moment text spelling type quotes typed = absurd (none_some spelling quotes)
literal_string slots start stop LiteralKind.Guid text spelling type quotes typed = absurd (none_some spelling quotes)
literal_string slots start stop LiteralKind.EnumLit text spelling type quotes typed = absurd (none_some spelling quotes)

-- what quotes a text has type String
pub quoted_string : (slots : Slots) (root : List ℕ) (scope : Scope) (tree : Tree) (spelling : List ℕ) (type : ExprType)
    → quoted_text tree ≡ Some spelling → Typed slots root scope tree type → type ≡ string_type
quoted_string slots root scope (node start stop (literal kind text)) spelling type quotes typed = literal_string slots start stop kind text spelling type quotes typed
quoted_string slots root scope (node start stop it) spelling type quotes typed = absurd (none_some spelling quotes)
quoted_string slots root scope (node start stop (name asked)) spelling type quotes typed = absurd (none_some spelling quotes)
quoted_string slots root scope (node start stop (member base asked)) spelling type quotes typed = absurd (none_some spelling quotes)
quoted_string slots root scope (node start stop (count base)) spelling type quotes typed = absurd (none_some spelling quotes)
quoted_string slots root scope (node start stop (negation operand)) spelling type quotes typed = absurd (none_some spelling quotes)
quoted_string slots root scope (node start stop (logical_not operand)) spelling type quotes typed = absurd (none_some spelling quotes)
quoted_string slots root scope (node start stop (binary operator left right)) spelling type quotes typed = absurd (none_some spelling quotes)
quoted_string slots root scope (node start stop (has left right)) spelling type quotes typed = absurd (none_some spelling quotes)
quoted_string slots root scope (node start stop (in_list left items)) spelling type quotes typed = absurd (none_some spelling quotes)
quoted_string slots root scope (node start stop (in_path left path)) spelling type quotes typed = absurd (none_some spelling quotes)
quoted_string slots root scope (node start stop (call asked arguments)) spelling type quotes typed = absurd (none_some spelling quotes)
quoted_string slots root scope (node start stop (any_item base)) spelling type quotes typed = absurd (none_some spelling quotes)
quoted_string slots root scope (node start stop (lambda quantifier base variable body)) spelling type quotes typed = absurd (none_some spelling quotes)
