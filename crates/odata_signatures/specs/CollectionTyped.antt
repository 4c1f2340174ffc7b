-- Which type an expression has that asks for a collection (OData URL Conventions 4.01, sections 4.8, 5.1.1.1.11 and
-- 5.1.1.13.1).
use Rattle.std.specs.Prelude.{◌≡◌, ◌⊎◌, List}
use Rattle.std.specs.List.{AllByRecursion}
use Rattle.edm_values.specs.declared.primitive.PrimitiveType.{PrimitiveType}
use Rattle.csdl_schema.specs.ExprType.{ExprType, single, collection, primitive}
use Rattle.csdl_schema.specs.SchemaModel.{Slots}
use Rattle.odata_signatures.specs.ComparableTypes.{AreComparable}
use Rattle.odata_signatures.specs.ExprTypes.{boolean_type}
use Rattle.odata_signatures.specs.QuotedNumber.{HasNumber}
use Rattle.odata_signatures.specs.Side.{Side}

-- it is the type of a collection
abbrev pub IsCollection : ExprType → Type 0
IsCollection (collection member) = Unit {0}
IsCollection _ = ⊥

-- `/$count` after a base of the first type gives the second: how many members a collection has (section 4.8)
abbrev pub CountTyped : ExprType → ExprType → Type 0
CountTyped base type = IsCollection base × (type ≡ single (primitive PrimitiveType.Int64))

-- so does `/any()`: whether a collection has members (section 5.1.1.13.1)
abbrev pub AnyItemTyped : ExprType → ExprType → Type 0
AnyItemTyped base type = IsCollection base × (type ≡ boolean_type)

-- a value of the type on the left is compared with each member of the collection on the right
abbrev pub IsComparableWithMembers : ExprType → ExprType → Type 0
IsComparableWithMembers left (collection member) = AreComparable left (single member)
IsComparableWithMembers left _ = ⊥

-- `in` before a path takes these sides and gives a value of the type (section 5.1.1.1.11)
abbrev pub InPathTyped : Side → Side → ExprType → Type 0
InPathTyped left path type = IsComparableWithMembers left.type_of path.type_of × (type ≡ boolean_type)

-- an item of a list whose left operand is of the type: its own type is comparable with that, or it is a String literal
-- that stands for a number of the enumeration
abbrev pub IsItemFor : Slots → ExprType → Side → Type 0
IsItemFor slots left item = AreComparable left item.type_of ⊎ HasNumber slots left item.quoted

-- `in` before a list: the value on the left is none of a collection, and each item goes with it (section
-- 5.1.1.1.11)
abbrev pub InListTyped : Slots → Side → List Side → ExprType → Type 0
InListTyped slots left items type =
    (¬ IsCollection left.type_of) × AllByRecursion (IsItemFor slots left.type_of) items × (type ≡ boolean_type)
