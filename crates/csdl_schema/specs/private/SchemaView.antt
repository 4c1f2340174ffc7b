-- A schema of the code, as the model says it; for private clauses.
use Rattle.std.specs.Prelude.{◌≡◌, ◌≤◌, ◌<◌, ◌++◌, [], ℕ, List, Option, Some, None, map, length, position, slice_get, option_map}
use Rattle.std.specs.List.{AllByRecursion}
use Rattle.indexmap.specs.IndexMap.{get_by_text}
use Rattle.csdl_schema.specs.declared.chain.Chain.{Chain}
use Rattle.csdl_schema.specs.declared.property.Property.{Property}
use Rattle.csdl_schema.specs.declared.schema.Schema.TheInside.{Inside}
use Rattle.csdl_schema.specs.BaseFaults.{property_limit}
use Rattle.csdl_schema.specs.PropertyView.{type_of_kind, target_of, LeadsWithin, PointsWithin}
use Rattle.csdl_schema.specs.SchemaModel.{SchemaModel, PropertyModel, TypeModel, ModelBody, structured_type, enumeration_type, type_definition, name_in, is_named, properties_at, is_structured, is_enumeration, IsEnumerationByName, IsOneByName, IsInNameOrder, HasDistinctNames}
use Rattle.csdl_schema.specs.private.Placed.{PlacedType, PlacedBody, placed_structured, placed_enumeration, placed_definition, own_at}
use Rattle.csdl_schema.specs.private.PlacedView.{placed_of}

-- ---- the model, by the names of the types at indexes

abbrev pub property_model : (ℕ → List ℕ) → List ℕ × Property → PropertyModel
property_model name_at e = record {
  name = e.0;
  type_of = type_of_kind name_at e.1.kind (target_of e.1) e.1.many;
  many = e.1.many;
  nullable = e.1.nullable;
}

abbrev pub body_model : (ℕ → List ℕ) → PlacedBody → ModelBody
body_model name_at (placed_structured is_entity base own) =
    structured_type is_entity (option_map name_at base) (map (property_model name_at) own)
body_model name_at (placed_enumeration e) = enumeration_type e
body_model name_at (placed_definition p) = type_definition p

abbrev pub type_model : (ℕ → List ℕ) → PlacedType → TypeModel
type_model name_at t = record { name = t.name; alias_name = t.alias_name; body = body_model name_at t.body }

abbrev pub names_of : List PlacedType → List (List ℕ)
names_of types = map (λ t. t.name) types

abbrev pub model_of : List PlacedType → SchemaModel
model_of types = record { types = map (type_model (name_in (names_of types))) types }

abbrev pub schema_model : Inside → SchemaModel
schema_model s = model_of (placed_of s.types.items)

-- ---- what holds of each schema

abbrev pub no_chain : Chain
no_chain = record { bases = 0; inherited = 0 }

abbrev pub chain_of : Option Chain → Chain
chain_of None = no_chain
chain_of (Some chain) = chain

abbrev pub chain_in : List Chain → ℕ → Chain
chain_in chains n = chain_of (slice_get chains n)

abbrev pub inherited_properties : SchemaModel → Option ℕ → List PropertyModel
inherited_properties schema None = []
inherited_properties schema (Some base) = properties_at schema base

-- a base has less bases than its heir
abbrev pub IsBaseBelow : List Chain → ℕ → Option ℕ → Type 0
IsBaseBelow chains n None = Unit {0}
IsBaseBelow chains n (Some base) = (chain_in chains base).bases < (chain_in chains n).bases

-- the chain says how many properties are inherited, and these go before the own ones
pub record IsChained
    (schema : SchemaModel) (chains : List Chain) (n : ℕ) (base : Option ℕ) (own : List PropertyModel) : Type 0 where
  pub below : IsBaseBelow chains n base
  pub inherited : (chain_in chains n).inherited ≡ length (inherited_properties schema base)
  pub properties : properties_at schema n ≡ inherited_properties schema base ++ own
  pub ordered : IsInNameOrder own

abbrev pub IsChainedBody : List PlacedType → List Chain → ℕ → PlacedBody → Type 0
IsChainedBody types chains n (placed_structured is_entity base own) =
    IsChained (model_of types) chains n base (map (property_model (name_in (names_of types))) own)
IsChainedBody types chains n (placed_enumeration e) = properties_at (model_of types) n ≡ []
IsChainedBody types chains n (placed_definition p) = properties_at (model_of types) n ≡ []

-- what a property points to is there, and what it leads to
abbrev pub IsThere : SchemaModel → Property → Type 0
IsThere schema p = PointsWithin schema p.kind × LeadsWithin schema p.kind (target_of p)

-- chains of bases are as they should be; slots have distinct names, and are not too many; types have distinct names,
-- and what kinds of properties point to is there
pub record AreChained (types : List PlacedType) (chains : List Chain) : Type 0 where
  pub chained : (n : ℕ) (t : PlacedType) → slice_get types n ≡ Some t → IsChainedBody types chains n t.body
  pub past_end : (n : ℕ) → slice_get types n ≡ None → properties_at (model_of types) n ≡ []
  pub distinct : (n : ℕ) → HasDistinctNames (properties_at (model_of types) n)
  pub small : (n : ℕ) → length (properties_at (model_of types) n) ≤ property_limit
  pub enumerations : (n : ℕ) → IsEnumerationByName (model_of types) n
  pub type_names : (n : ℕ) → IsOneByName is_structured (model_of types) n
  pub enumeration_names : (n : ℕ) → IsOneByName is_enumeration (model_of types) n
  pub kinds : (n : ℕ) → AllByRecursion (λ e. IsThere (model_of types) e.1) (own_at types n)

-- the types are found by name, and their chains are as they should be
pub record IsKeptSchema (s : Inside) : Type 0 where
  pub indexed : (asked : List ℕ)
      → get_by_text s.index_by_name asked ≡ position (λ t. is_named t asked) (schema_model s).types
  pub chains : AreChained (placed_of s.types.items) s.chains.items
