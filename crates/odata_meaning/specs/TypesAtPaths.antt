-- Which values a type has at a property path, where only some paths have to be expanded (CSDL JSON 4.01, sections 3.3,
-- 6, 7, 8, 9 and 10).
use Rattle.std.specs.Prelude.{◌≡◌, ◌++◌, [], ◌∷◌, true, None, Some}
use Rattle.std.specs.List.{AllByRecursion}
use Rattle.edm_values.specs.Val.{Val, null, member, fields, items, FieldVal, absent, present, Vals, no_items, item}
use Rattle.csdl_schema.specs.EnumerationText.{IsOfUnderlying}
use Rattle.csdl_schema.specs.ExprType.{ExprType, single, collection, SingleType, primitive, enumeration, structured}
use Rattle.csdl_schema.specs.PathSet.{PathSet, PropertyPath}
use Rattle.csdl_schema.specs.SchemaModel.{Slots, PropertyType, declared, opaque, navigation}
use Rattle.edm_entities.specs.HasType.{IsPrimitiveValue}
use Rattle.odata_signatures.specs.NeededPaths.{VariablePaths}
use Rattle.odata_meaning.specs.Environment.{Environment}

abbrev mutual
  -- the same values as a type has apart from paths, save what records hold: each is at the path of the record, and the
  -- values of its properties are one step further
  pub HasTypeAt : Slots → PathSet → PropertyPath → ExprType → Val → Type 0
  HasTypeAt slots needed path type null = Unit {0}
  HasTypeAt slots needed path (single (structured name)) (fields f) =
      AllByRecursion (λ p. HasPropertyTypeAt slots needed (path ++ p.name ∷ []) p.type_of (f p.name))
      (slots.properties name)
  HasTypeAt slots needed path (collection type) (items values) = AllHaveTypeAt slots needed path type values
  HasTypeAt slots needed path (single (enumeration name)) (member n) = IsOfUnderlying (slots.enumerations name) n
  HasTypeAt slots needed path (single (primitive type)) value = IsPrimitiveValue value type
  HasTypeAt slots needed path type value = ⊥

  -- what a record has under the name of a property of that type at its path: under that of a navigation property with a
  -- target a value of the target's type, if the path is needed, and else anything
  pub HasPropertyTypeAt : Slots → PathSet → PropertyPath → PropertyType → FieldVal → Type 0
  HasPropertyTypeAt slots needed path (declared type) (present value) = HasTypeAt slots needed path type value
  HasPropertyTypeAt slots needed path (declared type) absent = ⊥
  HasPropertyTypeAt slots needed path opaque held = Unit {0}
  HasPropertyTypeAt slots needed path (navigation None) held = Unit {0}
  HasPropertyTypeAt slots needed path (navigation (Some type)) (present value) =
      needed path ≡ true → HasTypeAt slots needed path type value
  HasPropertyTypeAt slots needed path (navigation (Some type)) absent = needed path ≡ true → ⊥

  -- each item is of that type, at the path of the collection
  pub AllHaveTypeAt : Slots → PathSet → PropertyPath → SingleType → Vals → Type 0
  AllHaveTypeAt slots needed path type no_items = Unit {0}
  AllHaveTypeAt slots needed path type (item value values) =
      HasTypeAt slots needed path (single type) value × AllHaveTypeAt slots needed path type values

-- each variable's value is of its type at the variable's path
abbrev pub AreFittingAt : Slots → PathSet → Environment → VariablePaths → Type 0
AreFittingAt slots needed [] [] = Unit {0}
AreFittingAt slots needed (bound ∷ environment) (path ∷ paths) =
    HasTypeAt slots needed path bound.variable.type_of bound.value × AreFittingAt slots needed environment paths
AreFittingAt slots needed _ _ = ⊥
