-- Types by indexes are those by names.
use Rattle.std.proofs.Common.{◌≡◌, ℕ, zero, suc, ◌+◌, List, [], ◌∷◌, length, map, Option, Some, None, option_map, slice_get, position, unwrap_or, Bool, true, false, cond, ◌||◌, arith, refl, sym, ap, subst, ◌∙◌}
use Rattle.std.specs.Prelude.{option_and_then}
use Rattle.std.specs.List.{position_from, position_or_len}
use Rattle.std.proofs.lemmas.Iterator.Adapters.{position_from-zero}
use Rattle.edm_values.specs.declared.primitive.PrimitiveType.{PrimitiveType}
use Rattle.csdl_declarations.specs.DeclaredType.{PropertyDeclaration, TypeBody, DeclaredType, structured, enumeration, definition}
use Rattle.csdl_schema.specs.declared.property.PropertyKind.{PropertyKind}
use Rattle.csdl_schema.specs.declared.property.PropertyKind.TheVariants as kind
use Rattle.csdl_schema.specs.ExprType.{SingleType}
use Rattle.csdl_schema.specs.PropertyView.{type_of_kind}
use Rattle.csdl_schema.specs.SchemaModel as schema
use Rattle.csdl_schema.specs.SchemaModel.{PropertyModel, PropertyType, TypeModel, name_in}
use Rattle.csdl_schema.specs.Resolution as declared
use Rattle.csdl_schema.specs.Resolution.{goes_by, type_by_name, single_of, unless_primitive, entity_name, if_not_primitive, target_named, type_of_single, property_type_of, property_of, primitive_named, is_structured_as, if_structured_as, base_named, base_of_body, base_of}
use Rattle.csdl_schema.specs.private.Placed.{Finder, IsIndexOf, kinds_from, place_kind, kind_of_definition, kind_of_value, if_entity_place, target_place, target_of_property, property_kind_named, kind_of_property, unless_primitive_kind, placed_property, PlacedType, if_structured_at, base_place_named, base_place, found_base, body_with, type_with, types_with}
use Rattle.csdl_schema.specs.private.SchemaView.{property_model, body_model, type_model, names_of, model_of}

-- ---- lists

pub map-map : {A B C : Type 0} (g : B → C) (f : A → B) (xs : List A) → map g (map f xs) ≡ map (λ x. g (f x)) xs
map-map g f [] = refl
map-map g f (x ∷ xs) = ap (λ rest. g (f x) ∷ rest) (map-map g f xs)

pub map-agree : {A B : Type 0} (f g : A → B) → ((x : A) → f x ≡ g x) → (xs : List A) → map f xs ≡ map g xs
map-agree f g same [] = refl
map-agree f g same (x ∷ xs) = (λ j. same x j ∷ map-agree f g same xs j)

pub length-map : {A B : Type 0} (f : A → B) (xs : List A) → length (map f xs) ≡ length xs
length-map f [] = refl
length-map f (x ∷ xs) = ap suc (length-map f xs)

pub position_from-map : {A B : Type 0} (f : A → B) (test : B → Bool) (k : ℕ) (xs : List A) → position_from test k (map f xs) ≡ position_from (λ x. test (f x)) k xs
position_from-map f test k [] = refl
position_from-map f test k (x ∷ xs) = ap (cond (test (f x)) (Some k)) (position_from-map f test (k + 1) xs)

-- one name or the other
pub either_name : (a b : Bool) (x y : Option ℕ) → cond a x (cond b x y) ≡ cond (a || b) x y
either_name true b x y = refl
either_name false b x y = refl

position_or_len-map : {A B : Type 0} (f : A → B) (p : B → Bool) (xs : List A) → position_or_len p (map f xs) ≡ position_or_len (λ x. p (f x)) xs
position_or_len-map f p [] = refl
position_or_len-map f p (x ∷ xs) = rw (position_or_len-map f p xs)

pub position-map : {A B : Type 0} (f : A → B) (p : B → Bool) (xs : List A) → position p (map f xs) ≡ position (λ x. p (f x)) xs
position-map f p xs = rw (position_or_len-map f p xs, length-map f xs)

-- the item at the first index of a test
abbrev pub first_by : {X : Type 0} → (X → Bool) → List X → Option X
first_by test [] = None
first_by test (x ∷ xs) = cond (test x) (Some x) (first_by test xs)

shifted : {X : Type 0} (test : X → Bool) (k : ℕ) (xs : List X) → position_from test (suc k) xs ≡ option_map suc (position_from test k xs)
shifted test k [] = refl
shifted test k (x ∷ xs) = by (test x) (shifted test (k + 1) xs)
  where
    further : suc k + 1 ≡ suc (k + 1)
    further = omega arith

    by : (b : Bool) → position_from test (suc (k + 1)) xs ≡ option_map suc (position_from test (k + 1) xs)
        → cond b (Some (suc k)) (position_from test (suc k + 1) xs) ≡ option_map suc (cond b (Some k) (position_from test (k + 1) xs))
    by true later = refl
    by false later = ap (λ m. position_from test m xs) further ∙ later

pub first_at : {X : Type 0} (test : X → Bool) (xs : List X) → first_by test xs ≡ option_and_then (slice_get xs) (position_from test 0 xs)
first_at test [] = refl
first_at test (x ∷ xs) = by (test x) (first_at test xs)
  where
    later : (o : Option ℕ) → option_and_then (slice_get xs) o ≡ option_and_then (slice_get (x ∷ xs)) (option_map suc o)
    later None = refl
    later (Some n) = refl

    one : 0 + 1 ≡ 1
    one = omega arith

    by : (b : Bool) → first_by test xs ≡ option_and_then (slice_get xs) (position_from test 0 xs)
        → cond b (Some x) (first_by test xs) ≡ option_and_then (slice_get (x ∷ xs)) (cond b (Some 0) (position_from test (0 + 1) xs))
    by true rest = refl
    by false rest =
        rest ∙ later (position_from test 0 xs)
        ∙ ap (option_and_then (slice_get (x ∷ xs))) (sym (ap (λ m. position_from test m xs) one ∙ shifted test 0 xs))

name_found : (ts : List DeclaredType) (asked : List ℕ) → type_by_name ts asked ≡ first_by (λ t. goes_by t asked) ts
name_found [] asked = refl
name_found (t ∷ ts) asked = ap (cond (goes_by t asked) (Some t)) (name_found ts asked)

-- ---- declared types at indexes

module _ (ds : List DeclaredType) (find : Finder) (indexed : IsIndexOf ds find) where
  -- the type of a name is the one at the index that is found
  pub by_index : (asked : List ℕ) → type_by_name ds asked ≡ option_and_then (slice_get ds) (find asked)
  by_index asked =
      name_found ds asked
      ∙ first_at (λ t. goes_by t asked) ds
      ∙ ap (option_and_then (slice_get ds)) (sym (indexed asked ∙ position_from-zero (λ t. goes_by t asked) ds))

  -- an index and a type are both there, and the type stands at the index, or neither is
  abbrev pub IsBase : Option ℕ → Option DeclaredType → Type 0
  IsBase None None = Unit {0}
  IsBase (Some n) (Some u) = slice_get ds n ≡ Some u
  IsBase _ _ = ⊥

  at_found : (is_entity : Bool) (n : ℕ) (o : Option DeclaredType) → slice_get ds n ≡ o
      → IsBase (if_structured_at is_entity n o) (option_and_then (if_structured_as is_entity) o)
  at_found is_entity n None at = tt
  at_found is_entity n (Some u) at = by (is_structured_as is_entity u.body)
    where
      by : (b : Bool) → IsBase (cond b (Some n) None) (cond b (Some u) None)
      by true = at
      by false = tt

  named_base : (is_entity : Bool) (text : List ℕ) → IsBase (base_place_named ds find is_entity text) (base_named ds is_entity text)
  named_base is_entity text =
      let P : Option DeclaredType → Type 0 = λ o. IsBase (base_place_named ds find is_entity text) (option_and_then (if_structured_as is_entity) o) in
      subst P (sym (by_index text)) (by (find text))
    where
      by : (o : Option ℕ)
          → IsBase (option_and_then (λ n. if_structured_at is_entity n (slice_get ds n)) o) (option_and_then (if_structured_as is_entity) (option_and_then (slice_get ds) o))
      by None = tt
      by (Some n) = at_found is_entity n (slice_get ds n) refl

  given_base : (is_entity : Bool) (base : Option (List ℕ)) → IsBase (option_and_then (base_place_named ds find is_entity) base) (option_and_then (base_named ds is_entity) base)
  given_base is_entity None = tt
  given_base is_entity (Some text) = named_base is_entity text

  -- the base of a type, by index and by name
  pub is_base : (body : TypeBody) → IsBase (base_place ds find body) (base_of_body ds body)
  is_base (structured is_entity base properties) = given_base is_entity base
  is_base (enumeration e) = tt
  is_base (definition underlying) = tt

  -- ---- names

  abbrev pub names : List (List ℕ)
  names = map (λ t. t.name) ds

  name_there : (ts : List DeclaredType) (n : ℕ) (t : DeclaredType) → slice_get ts n ≡ Some t → name_in (map (λ t. t.name) ts) n ≡ t.name
  name_there [] n t at = absurd (cc)
  name_there (u ∷ ts) zero t at = let same : u ≡ t = cc in ap (λ v. v.name) same
  name_there (u ∷ ts) (suc n) t at = name_there ts n t at

  base_name : (o : Option ℕ) (b : Option DeclaredType) → IsBase o b → option_map (name_in names) o ≡ option_map (λ u. u.name) b
  base_name None None is = refl
  base_name (Some n) (Some u) is = ap Some (name_there ds n u is)
  base_name None (Some u) is = absurd is
  base_name (Some n) None is = absurd is

  -- ---- kinds of properties

  abbrev pub kinds : List PropertyKind
  kinds = kinds_from 0 ds

  pub kinds_at : (k : ℕ) (ts : List DeclaredType) (n : ℕ) → slice_get (kinds_from k ts) n ≡ option_map (λ t. place_kind (k + n) t.body) (slice_get ts n)
  kinds_at k [] n = refl
  kinds_at k (t ∷ ts) zero = ap (λ m. Some (place_kind m t.body)) (sym (plus_zero k))
    where
      plus_zero : (k : ℕ) → k + 0 ≡ k
      plus_zero k = omega arith
  kinds_at k (t ∷ ts) (suc n) = kinds_at (suc k) ts n ∙ ap (λ m. option_map (λ t. place_kind m t.body) (slice_get ts n)) (moved k n)
    where
      moved : (k n : ℕ) → suc k + n ≡ k + suc n
      moved k n = omega arith

  kind_of_body : (n : ℕ) (name : List ℕ) (body : TypeBody) (many : Bool) → name_in names n ≡ name → type_of_kind (name_in names) (kind_of_value (place_kind n body)) None many ≡ type_of_single (single_of name body) many
  kind_of_body n name (structured true base properties) many named = refl
  kind_of_body n name (structured false base properties) many named = ap (λ x. type_of_single (single_of x (structured false base properties)) many) named
  kind_of_body n name (enumeration e) many named = ap (λ x. type_of_single (single_of x (enumeration e)) many) named
  kind_of_body n name (definition underlying) many named = by (primitive_named underlying)
    where
      by : (o : Option PrimitiveType) → type_of_kind (name_in names) (kind_of_value (kind_of_definition o)) None many ≡ type_of_single (option_map SingleType.primitive o) many
      by None = refl
      by (Some p) = refl

  kind_there : (n : ℕ) → slice_get kinds n ≡ option_map (λ t. place_kind n t.body) (slice_get ds n)
  kind_there n =
      let none : 0 + n ≡ n = omega arith in
      kinds_at 0 ds n ∙ ap (λ m. option_map (λ t. place_kind m t.body) (slice_get ds n)) none

  kind_found : (many : Bool) (o : Option ℕ)
      → type_of_kind (name_in names) (kind_of_value (unwrap_or (option_and_then (slice_get kinds) o) kind.Opaque)) None many
      ≡ type_of_single (option_and_then (λ t. single_of t.name t.body) (option_and_then (slice_get ds) o)) many
  kind_found many None = refl
  kind_found many (Some n) = ap (λ o. type_of_kind (name_in names) (kind_of_value (unwrap_or o kind.Opaque)) None many) (kind_there n) ∙ by (slice_get ds n) refl
    where
      by : (o : Option DeclaredType) → slice_get ds n ≡ o
          → type_of_kind (name_in names) (kind_of_value (unwrap_or (option_map (λ t. place_kind n t.body) o) kind.Opaque)) None many
          ≡ type_of_single (option_and_then (λ t. single_of t.name t.body) o) many
      by None at = refl
      by (Some t) at = kind_of_body n t.name t.body many (name_there ds n t at)

  kind_by_name : (many : Bool) (text : List ℕ)
      → type_of_kind (name_in names) (kind_of_value (property_kind_named kinds find text)) None many ≡ type_of_single (declared.single_named ds text) many
  kind_by_name many text =
      by (primitive_named text) ∙ ap (λ o. type_of_single (unless_primitive (option_and_then (λ t. single_of t.name t.body) o) (primitive_named text)) many) (sym (by_index text))
    where
      by : (o : Option PrimitiveType)
          → type_of_kind (name_in names) (kind_of_value (unless_primitive_kind (unwrap_or (option_and_then (slice_get kinds) (find text)) kind.Opaque) o)) None many
          ≡ type_of_single (unless_primitive (option_and_then (λ t. single_of t.name t.body) (option_and_then (slice_get ds) (find text))) o) many
      by None = kind_found many (find text)
      by (Some p) = refl

  -- ---- targets

  target_of_body : (n : ℕ) (t : DeclaredType) (body : TypeBody) → slice_get ds n ≡ Some t
      → option_map (name_in names) (if_entity_place n (Some (place_kind n body))) ≡ cond (is_structured_as true body) (Some t.name) None
  target_of_body n t (structured true base properties) at = ap Some (name_there ds n t at)
  target_of_body n t (structured false base properties) at = refl
  target_of_body n t (enumeration e) at = refl
  target_of_body n t (definition underlying) at = by (primitive_named underlying)
    where
      by : (o : Option PrimitiveType) → option_map (name_in names) (if_entity_place n (Some (kind_of_definition o))) ≡ None
      by None = refl
      by (Some p) = refl

  target_found : (o : Option ℕ)
      → option_map (name_in names) (option_and_then (λ n. if_entity_place n (slice_get kinds n)) o) ≡ option_and_then entity_name (option_and_then (slice_get ds) o)
  target_found None = refl
  target_found (Some n) = ap (λ o. option_map (name_in names) (if_entity_place n o)) (kind_there n) ∙ by (slice_get ds n) refl
    where
      by : (o : Option DeclaredType) → slice_get ds n ≡ o
          → option_map (name_in names) (if_entity_place n (option_map (λ t. place_kind n t.body) o)) ≡ option_and_then entity_name o
      by None at = refl
      by (Some t) at = target_of_body n t t.body at

  target_by_name : (text : List ℕ) → option_map (name_in names) (target_place kinds find text) ≡ target_named ds text
  target_by_name text =
      by (primitive_named text) ∙ ap (λ o. if_not_primitive (option_and_then entity_name o) (primitive_named text)) (sym (by_index text))
    where
      by : (o : Option PrimitiveType)
          → option_map (name_in names) (if_not_primitive (option_and_then (λ n. if_entity_place n (slice_get kinds n)) (find text)) o)
          ≡ if_not_primitive (option_and_then entity_name (option_and_then (slice_get ds) (find text))) o
      by None = target_found (find text)
      by (Some p) = refl

  property_type : (p : PropertyDeclaration) → type_of_kind (name_in names) (kind_of_property kinds find p) (target_of_property kinds find p) p.many ≡ property_type_of ds p
  property_type p = by p.navigates
    where
      by : (b : Bool)
          → type_of_kind (name_in names) (cond b kind.Navigation (kind_of_value (property_kind_named kinds find p.type_name))) (cond b (target_place kinds find p.type_name) None) p.many
          ≡ cond b (schema.navigation (schema.target_type (target_named ds p.type_name) p.many)) (type_of_single (declared.single_named ds p.type_name) p.many)
      by true = ap (λ o. schema.navigation (schema.target_type o p.many)) (target_by_name p.type_name)
      by false = kind_by_name p.many p.type_name

  same_property : (p : PropertyDeclaration) → property_model (name_in names) (placed_property kinds find p) ≡ property_of ds p
  same_property p = λ j. record { name = p.name; type_of = property_type p j; many = p.many; nullable = p.nullable }

  pub same_properties : (ps : List PropertyDeclaration) → map (property_model (name_in names)) (map (placed_property kinds find) ps) ≡ map (property_of ds) ps
  same_properties ps =
      map-map (property_model (name_in names)) (placed_property kinds find) ps
      ∙ map-agree (λ p. property_model (name_in names) (placed_property kinds find p)) (property_of ds) same_property ps

  same_body : (body : TypeBody) → body_model (name_in names) (body_with kinds find (base_place ds find body) body) ≡ declared.body_model ds body
  same_body (structured is_entity base properties) =
      let body = structured is_entity base properties in
      λ j. schema.structured_type is_entity (base_name (base_place ds find body) (base_of_body ds body) (is_base body) j) (same_properties properties j)
  same_body (enumeration e) = refl
  same_body (definition underlying) = refl

  -- ---- types

  -- a declared type at indexes
  abbrev pub at_indexes : DeclaredType → PlacedType
  at_indexes t = type_with kinds find (base_place ds find t.body) t

  pub all_placed : (ts : List DeclaredType) → types_with kinds find (map (λ t. found_base ds find t.body) ts) ts ≡ map at_indexes ts
  all_placed [] = refl
  all_placed (t ∷ ts) = ap (λ rest. at_indexes t ∷ rest) (all_placed ts)

  pub same_names : names_of (map at_indexes ds) ≡ names
  same_names = map-map (λ t. t.name) at_indexes ds

  same_type : (t : DeclaredType) → type_model (name_in names) (at_indexes t) ≡ declared.type_model ds t
  same_type t = λ j. record { name = t.name; alias_name = t.alias_name; body = same_body t.body j }

  -- the schema of types at indexes is that of the declared types
  pub same_schema : model_of (map at_indexes ds) ≡ declared.schema_of ds
  same_schema =
      ap (λ ns. record { types = map (type_model (name_in ns)) (map at_indexes ds) }) same_names
      ∙ (λ j. record {
        types =
            (map-map (type_model (name_in names)) at_indexes ds
            ∙ map-agree (λ t. type_model (name_in names) (at_indexes t)) (declared.type_model ds) same_type ds) j;
      })
