-- Look-ups in a schema, over the types at indexes that it is seen as.
use Rattle.std.proofs.Common.{◌≡◌, ℕ, List, ◌++◌, map, Option, Some, None, option_map, slice_get, position, Bool, cond, refl, sym, ap, subst, ◌∙◌}
use Rattle.std.specs.Prelude.{option_and_then}
use Rattle.std.proofs.lemmas.Option.{slice_get-map}
use Rattle.csdl_schema.specs.declared.chain.Chain.{Chain}
use Rattle.csdl_schema.specs.declared.property.Property.{Property}
use Rattle.csdl_schema.specs.SchemaModel.{ModelBody, SchemaModel, is_structured, is_entity_type, is_enumeration, is_kind_at, is_named, index_of_kind, place_if, body_passes, name_if, name_of_kind, enumeration_of_body, enumeration_at, base_properties, slots_of, type_name_at, name_in, IsBodyOrder, IsSlotOrder, AreSlotsInOrder}
use Rattle.csdl_schema.specs.PropertyView.{type_of_kind, target_of, IsReadAs}
use Rattle.csdl_schema.specs.private.Placed.{PlacedType, PlacedBody, placed_structured, placed_enumeration, placed_definition, is_placed_structured, is_placed_entity, is_placed_enumeration, placed_passes, placed_name_if, enumeration_in_body}
use Rattle.csdl_schema.specs.private.SchemaView.{body_model, type_model, names_of, model_of, property_model, inherited_properties, IsChainedBody, AreChained, IsThere}
use Rattle.csdl_schema.proofs.Placing.{map-map}

-- the index of a name, by what stands there
pub found_kind : (s : SchemaModel) (test : ModelBody → Bool) (name : List ℕ) (n : ℕ) (b : Bool) → position (λ t. is_named t name) s.types ≡ Some n → is_kind_at test s n ≡ b
    → index_of_kind test s name ≡ place_if b n
found_kind s test name n b at is = ap (option_and_then (λ m. place_if (is_kind_at test s m) m)) at ∙ ap (λ v. place_if v n) is

pub not_found : (s : SchemaModel) (test : ModelBody → Bool) (name : List ℕ) → position (λ t. is_named t name) s.types ≡ None → index_of_kind test s name ≡ None
not_found s test name at = ap (option_and_then (λ m. place_if (is_kind_at test s m) m)) at

module _ (types : List PlacedType) where
  at_model : (n : ℕ) → slice_get (model_of types).types n ≡ option_map (type_model (name_in (names_of types))) (slice_get types n)
  at_model n = slice_get-map (type_model (name_in (names_of types))) types n

  kind_at : (test : ModelBody → Bool) (by_index : PlacedBody → Bool) → ((b : PlacedBody) → test (body_model (name_in (names_of types)) b) ≡ by_index b) → (n : ℕ)
      → placed_passes by_index (slice_get types n) ≡ is_kind_at test (model_of types) n
  kind_at test by_index same n = by (slice_get types n) ∙ ap (body_passes test) (sym (at_model n))
    where
      by : (o : Option PlacedType) → placed_passes by_index o ≡ body_passes test (option_map (type_model (name_in (names_of types))) o)
      by None = refl
      by (Some t) = sym (same t.body)

  structured_same : (b : PlacedBody) → is_structured (body_model (name_in (names_of types)) b) ≡ is_placed_structured b
  structured_same (placed_structured is_entity base own) = refl
  structured_same (placed_enumeration e) = refl
  structured_same (placed_definition p) = refl

  entity_same : (b : PlacedBody) → is_entity_type (body_model (name_in (names_of types)) b) ≡ is_placed_entity b
  entity_same (placed_structured is_entity base own) = refl
  entity_same (placed_enumeration e) = refl
  entity_same (placed_definition p) = refl

  enumeration_same : (b : PlacedBody) → is_enumeration (body_model (name_in (names_of types)) b) ≡ is_placed_enumeration b
  enumeration_same (placed_structured is_entity base own) = refl
  enumeration_same (placed_enumeration e) = refl
  enumeration_same (placed_definition p) = refl

  pub structured_at : (n : ℕ) → placed_passes is_placed_structured (slice_get types n) ≡ is_kind_at is_structured (model_of types) n
  structured_at = kind_at is_structured is_placed_structured structured_same

  pub entity_at : (n : ℕ) → placed_passes is_placed_entity (slice_get types n) ≡ is_kind_at is_entity_type (model_of types) n
  entity_at = kind_at is_entity_type is_placed_entity entity_same

  pub an_enumeration_at : (n : ℕ) → placed_passes is_placed_enumeration (slice_get types n) ≡ is_kind_at is_enumeration (model_of types) n
  an_enumeration_at = kind_at is_enumeration is_placed_enumeration enumeration_same

  name_at : (test : ModelBody → Bool) (by_index : PlacedBody → Bool) → ((b : PlacedBody) → test (body_model (name_in (names_of types)) b) ≡ by_index b) → (n : ℕ)
      → option_and_then (placed_name_if by_index) (slice_get types n) ≡ name_of_kind test (model_of types) n
  name_at test by_index same n = by (slice_get types n) ∙ ap (option_and_then (name_if test)) (sym (at_model n))
    where
      by : (o : Option PlacedType) → option_and_then (placed_name_if by_index) o ≡ option_and_then (name_if test) (option_map (type_model (name_in (names_of types))) o)
      by None = refl
      by (Some t) = ap (λ b. cond b (Some t.name) None) (sym (same t.body))

  pub structured_named : (n : ℕ) → option_and_then (placed_name_if is_placed_structured) (slice_get types n) ≡ name_of_kind is_structured (model_of types) n
  structured_named = name_at is_structured is_placed_structured structured_same

  pub enumeration_named : (n : ℕ) → option_and_then (placed_name_if is_placed_enumeration) (slice_get types n) ≡ name_of_kind is_enumeration (model_of types) n
  enumeration_named = name_at is_enumeration is_placed_enumeration enumeration_same

  in_body : (b : PlacedBody) → enumeration_in_body b ≡ enumeration_of_body (body_model (name_in (names_of types)) b)
  in_body (placed_structured is_entity base own) = refl
  in_body (placed_enumeration e) = refl
  in_body (placed_definition p) = refl

  pub enumeration_is : (n : ℕ) → option_and_then (λ t. enumeration_in_body t.body) (slice_get types n) ≡ enumeration_at (model_of types) n
  enumeration_is n = by (slice_get types n) ∙ ap (option_and_then (λ t. enumeration_of_body t.body)) (sym (at_model n))
    where
      by : (o : Option PlacedType) → option_and_then (λ t. enumeration_in_body t.body) o ≡ option_and_then (λ t. enumeration_of_body t.body) (option_map (type_model (name_in (names_of types))) o)
      by None = refl
      by (Some t) = in_body t.body

  -- the names of the model are those at the indexes
  pub model_names : map (λ t. t.name) (model_of types).types ≡ names_of types
  model_names = map-map (λ t. t.name) (type_model (name_in (names_of types))) types

  pub name_at_is : (n : ℕ) → type_name_at (model_of types) n ≡ name_in (names_of types) n
  name_at_is n = ap (λ names. name_in names n) model_names

  pub read_as : (name : List ℕ) (p : Property) → IsThere (model_of types) p → IsReadAs (model_of types) (property_model (name_in (names_of types)) (name, p)) p
  read_as name p there = record {
    type_of = ap (λ names. type_of_kind (name_in names) p.kind (target_of p) p.many) model_names;
    there = there.0;
    leads = there.1;
    many = refl;
    nullable = refl;
  }

  module _ (chains : List Chain) (h : AreChained types chains) where
    inherited_by_name : (o : Option ℕ) → inherited_properties (model_of types) o ≡ base_properties (slots_of (model_of types)).properties (option_map (name_in (names_of types)) o)
    inherited_by_name None = refl
    inherited_by_name (Some b) = ap (slots_of (model_of types)).properties (name_at_is b)

    body_in_order : (n : ℕ) (body : PlacedBody) → IsChainedBody types chains n body → IsBodyOrder (model_of types) n (body_model (name_in (names_of types)) body)
    body_in_order n (placed_structured is_entity base own) is =
        (is.properties ∙ ap (λ inherited. inherited ++ map (property_model (name_in (names_of types))) own) (inherited_by_name base), is.ordered)
    body_in_order n (placed_enumeration e) is = is
    body_in_order n (placed_definition p) is = is

    pub slots_in_order : (n : ℕ) → AreSlotsInOrder (model_of types) n
    slots_in_order n = subst (IsSlotOrder (model_of types) n) (sym (at_model n)) (by (slice_get types n) refl)
      where
        by : (o : Option PlacedType) → slice_get types n ≡ o → IsSlotOrder (model_of types) n (option_map (type_model (name_in (names_of types))) o)
        by None at = h.past_end n at
        by (Some t) at = body_in_order n t.body (h.chained n t at)
