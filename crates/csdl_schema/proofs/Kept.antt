-- What holds of a schema whose types have no faults.
use Rattle.std.proofs.Common.{◌≡◌, ◌≢◌, ℕ, zero, suc, ◌+◌, ◌<◌, ◌≤◌, List, [], ◌∷◌, ◌++◌, length, map, Option, Some, None, option_map, option_and_then, unwrap_or, slice_get, Bool, true, false, cond, IsTrue, IfSome, if◌then◌else◌, nat_eq, nat_lt, sum_by, refl, sym, ap, subst, ◌∙◌, arith, Ordering, Less, Equal, Greater}
use Rattle.std.specs.List.{flat_map, AllByRecursion}
use Rattle.std.specs.List.Sorted.{IsStrictlySortedBy}
use Rattle.std.specs.Ordering.{nat_cmp, match_ordering}
use Rattle.std.specs.Cmp.Lexicographic.{pointwise, slice_cmp}
use Rattle.std.proofs.lemmas.Bool.{false≢true}
use Rattle.std.proofs.lemmas.Option.{slice_get-map}
use Rattle.edm_values.specs.declared.primitive.PrimitiveType.{PrimitiveType}
use Rattle.edm_enumerations.specs.EnumerationModel.{EnumerationModel}
use Rattle.csdl_declarations.specs.Fault.{unknown_base, base_cycle, unless}
use Rattle.csdl_declarations.specs.DeclaredType.{PropertyDeclaration, TypeBody, DeclaredType, structured, enumeration, definition, IsBodyInOrder, AreInOrder}
use Rattle.csdl_schema.specs.declared.chain.Chain.{Chain}
use Rattle.csdl_schema.specs.declared.property.Property.{Property}
use Rattle.csdl_schema.specs.declared.property.PropertyKind.{PropertyKind}
use Rattle.csdl_schema.specs.declared.property.PropertyKind.TheVariants as kind
use Rattle.csdl_schema.specs.PropertyView.{LeadsWithin, PointsWithin}
use Rattle.csdl_schema.specs.SchemaModel as model
use Rattle.csdl_schema.specs.SchemaModel.{PropertyModel, TypeModel, SchemaModel, type_called, type_properties, properties_within, properties_at, enumeration_of_body, name_in, body_passes, is_kind_at, is_structured, is_entity_type, is_enumeration, HasDistinctNames, IsEntityAt, IsEnumerationByName, IsOneByName, IsInNameOrder}
use Rattle.csdl_schema.specs.Resolution.{if_not_primitive, primitive_named, property_of, base_of, body_model, type_model, schema_of}
use Rattle.csdl_schema.specs.BaseFaults.{onto, bases_within, bases_of, own_properties, names_again, names_twice, lesser_name, first_name, twice_faults, property_count, is_base_known, base_limit, property_limit, chain_faults, inherited_faults, base_faults, all_base_faults}
use Rattle.csdl_schema.specs.private.Placed.{Finder, IsIndexOf, PlacedType, base_place, body_with, if_entity_place, kind_of_definition, kind_of_value, place_kind, target_place, kinds_from, unless_primitive_kind, property_kind_named, placed_property, all_places, chain_at, chains_from, own_at, own_of}
use Rattle.csdl_schema.specs.private.SchemaView.{property_model, names_of, model_of, chain_of, chain_in, inherited_properties, IsBaseBelow, IsChained, IsChainedBody, IsThere, AreChained}
use Rattle.csdl_schema.proofs.Placing.{IsBase, is_base, at_indexes, same_schema, same_names, same_properties, length-map, map-map, kinds_at}
use Rattle.csdl_schema.proofs.Chains.{placed, placed_at, all_at, length_at, sum_at, count_is, own_is, both_empty, unless_holds, below, at_most}
use Rattle.csdl_schema.proofs.Inheritance.{IsFine, settled, shortened, stepped, one_more, members, members_settled, members_count, members_named, own_models, own_count, if_based, apart_based, distinct_append, own_distinct, AreFree, none_kept, called, one_place}

-- ---- no faults

some_name : (names : List (List ℕ)) (owner : List ℕ) → twice_faults owner (first_name names) ≡ [] → names ≡ []
some_name [] owner none = refl
some_name (x ∷ names) owner none = absurd (by (first_name names) none)
  where
    by : (o : Option (List ℕ)) → twice_faults owner (lesser_name x o) ≡ [] → ⊥
    by None none = cc
    by (Some y) none = by_order (slice_cmp nat_cmp x y) none
      where
        by_order : (o : Ordering) → twice_faults owner (match_ordering o (Some x) (Some x) (Some y)) ≡ [] → ⊥
        by_order Less none = cc
        by_order Equal none = cc
        by_order Greater none = cc

pub each_empty : {X A : Type 0} (f : X → List A) (xs : List X) (n : ℕ) (x : X) → flat_map f xs ≡ [] → slice_get xs n ≡ Some x → f x ≡ []
each_empty f [] n x none at = absurd (cc)
each_empty f (y ∷ ys) zero x none at = let same : y ≡ x = cc in ap f (sym same) ∙ (both_empty (f y) (flat_map f ys) none).0
each_empty f (y ∷ ys) (suc n) x none at = each_empty f ys n x (both_empty (f y) (flat_map f ys) none).1 at

pub each_at : {X : Type 0} (P : X → Type 0) (xs : List X) (n : ℕ) (x : X) → AllByRecursion P xs → slice_get xs n ≡ Some x → P x
each_at P [] n x all at = absurd (cc)
each_at P (y ∷ ys) zero x all at = let same : y ≡ x = cc in subst P same all.0
each_at P (y ∷ ys) (suc n) x all at = each_at P ys n x all.1 at

fine : (ds : List DeclaredType) (t : DeclaredType) → base_faults ds t ≡ [] → IsBodyInOrder t.body → IsFine ds t
fine ds t none ordered =
    let parts = both_empty (chain_faults ds t) (inherited_faults ds t) none in
    let known = both_empty (unless (is_base_known ds t) (unknown_base t.name)) _ parts.0 in
    let ends = both_empty (unless (nat_lt (length (bases_of ds t)) (length ds)) (base_cycle t.name)) _ known.1 in
    let twice = both_empty (twice_faults t.name (first_name (names_twice ds t))) _ parts.1 in
    record {
      ended = below (length (bases_of ds t)) (length ds) (unless_holds _ _ ends.0);
      few = at_most (length (bases_of ds t)) base_limit (unless_holds _ _ ends.1);
      again = (both_empty (names_again ds t) (flat_map (names_again ds) (bases_of ds t)) (some_name (names_twice ds t) t.name twice.0)).0;
      small = at_most (property_count ds t) property_limit (unless_holds _ _ twice.1);
      ordered = ordered;
    }

chains_at : (types : List PlacedType) (k : ℕ) (ts : List PlacedType) (n : ℕ) → slice_get (chains_from types k ts) n ≡ option_map (λ t. chain_at types (k + n)) (slice_get ts n)
chains_at types k [] n = refl
chains_at types k (t ∷ ts) zero =
    let here : k ≡ k + 0 = omega arith in
    ap (λ m. Some (chain_at types m)) here
chains_at types k (t ∷ ts) (suc n) =
    let moved : suc k + n ≡ k + suc n = omega arith in
    chains_at types (suc k) ts n ∙ ap (λ m. option_map (λ t. chain_at types m) (slice_get ts n)) moved

pub own_ordered : (ds : List DeclaredType) (body : TypeBody) → IsBodyInOrder body → IsInNameOrder (map (property_of ds) (own_properties body))
unfolding IsStrictlySortedBy
own_ordered ds (structured is_entity base properties) ordered =
    let P : List (List ℕ) → Type 0 = λ names. IsStrictlySortedBy (slice_cmp nat_cmp) names in
    subst P (sym (map-map (λ p. p.name) (property_of ds) properties)) ordered
own_ordered ds (enumeration e) ordered = tt
own_ordered ds (definition underlying) ordered = tt

-- the schema has the declared names
pub name_there : (ds ts : List DeclaredType) (n : ℕ) (t : DeclaredType) → slice_get ts n ≡ Some t → name_in (map (λ u. u.name) (map (type_model ds) ts)) n ≡ t.name
name_there ds [] n t at = absurd (cc)
name_there ds (u ∷ ts) zero t at = let same : u ≡ t = cc in ap (λ v. v.name) same
name_there ds (u ∷ ts) (suc n) t at = name_there ds ts n t at

-- ---- schemas without faults

module _ (ds : List DeclaredType) (find : Finder) (indexed : IsIndexOf ds find)
    (rising : IsStrictlySortedBy (slice_cmp nat_cmp) (map (λ t. t.name) ds))
    (given : AllByRecursion (λ t. t.name ≢ []) ds)
    (each : (n : ℕ) (t : DeclaredType) → slice_get ds n ≡ Some t → IsFine ds t)
    (K : ℕ) (many : length ds ≡ suc K) where
  abbrev pub N : ℕ
  N = suc K

  chain_ends : (n : ℕ) (t : DeclaredType) → slice_get ds n ≡ Some t → length (bases_within N ds t) < N
  chain_ends n t at = subst (λ k. length (bases_within k ds t) < k) many (each n t at).ended

  -- K bases are as good as N
  all_above : (n : ℕ) (t : DeclaredType) → slice_get ds n ≡ Some t → bases_within K ds t ≡ bases_within N ds t
  all_above n t at =
      let ends = chain_ends n t at in
      let within : length (bases_within N ds t) ≤ K = omega (arith, ends) in
      shortened ds N K t ends within

  -- the members of a base, as one of the chain and by itself
  base_members : (m : ℕ) (u : DeclaredType) → slice_get ds m ≡ Some u → length (bases_within K ds u) < K → members ds K u ≡ members ds N u
  base_members m u at ends = members_settled ds K u ends

  -- ---- names are distinct

  free : (n : ℕ) (t : DeclaredType) → slice_get ds n ≡ Some t → AreFree ds (one_more ds K (base_of ds t)) (own_properties t.body)
  free n t at =
      let fits : bases_of ds t ≡ bases_within N ds t = ap (λ k. bases_within k ds t) many in
      let same : bases_of ds t ≡ one_more ds K (base_of ds t) = fits ∙ sym (all_above n t at) ∙ stepped ds K t in
      subst (λ us. AreFree ds us (own_properties t.body)) same (none_kept _ _ (each n t at).again)

  distinct_members : (f n : ℕ) (t : DeclaredType) → slice_get ds n ≡ Some t → length (bases_within N ds t) < f → HasDistinctNames (members ds N t)
  distinct_members zero n t at h = absurd (omega (arith, h))
  distinct_members (suc f) n t at h =
      distinct_append (if_based ds (members ds K) (base_of ds t)) (own_models ds t)
      (above (base_place ds find t.body) (base_of ds t) (is_base ds find indexed t.body) (chain_ends n t at) h (λ m u is lower. distinct_members f m u is lower))
      (own_distinct ds t.body (each n t at).ordered)
      (apart_based ds K (base_of ds t) (own_properties t.body) (free n t at))
    where
      above : (o : Option ℕ) (b : Option DeclaredType) → IsBase ds find indexed o b → length (onto (bases_within K ds) b) < N → length (onto (bases_within K ds) b) < suc f
          → ((m : ℕ) (u : DeclaredType) → slice_get ds m ≡ Some u → length (bases_within N ds u) < f → HasDistinctNames (members ds N u))
          → HasDistinctNames (if_based ds (members ds K) b)
      above None None is ends h further = tt
      above (Some m) (Some u) is ends h further =
          let shorter : length (bases_within K ds u) < K = omega (arith, ends) in
          let lower : length (bases_within K ds u) < f = omega (arith, h) in
          let lower_all : length (bases_within N ds u) < f = subst (λ us. length us < f) (settled ds K u shorter) lower in
          subst HasDistinctNames (sym (base_members m u is shorter)) (further m u is lower_all)
      above None (Some u) is ends h further = absurd is
      above (Some m) None is ends h further = absurd is

  -- ---- properties at indexes

  abbrev pub S : SchemaModel
  S = schema_of ds

  types_many : length S.types ≡ N
  types_many = length-map (type_model ds) ds ∙ many

  pub at_type : (n : ℕ) (t : DeclaredType) → slice_get ds n ≡ Some t → properties_at S n ≡ members ds N t
  at_type n t at =
      ap (λ k. properties_within k S.types (name_in (map (λ u. u.name) S.types) n)) types_many
      ∙ ap (properties_within N S.types) (name_there ds ds n t at)
      ∙ members_named ds find indexed rising N n t at

  name_past : (ts : List DeclaredType) (n : ℕ) → slice_get ts n ≡ None → name_in (map (λ u. u.name) (map (type_model ds) ts)) n ≡ []
  name_past [] n at = refl
  name_past (u ∷ ts) zero at = absurd (cc)
  name_past (u ∷ ts) (suc n) at = name_past ts n at

  not_empty : (name : List ℕ) → name ≢ [] → pointwise nat_eq name [] ≡ false
  not_empty [] some = absurd (some refl)
  not_empty (x ∷ xs) some = refl

  none_called : (ts : List DeclaredType) → AllByRecursion (λ t. t.name ≢ []) ts → type_called (map (type_model ds) ts) [] ≡ None
  none_called [] all = refl
  none_called (t ∷ ts) all = rw (not_empty t.name all.0) (none_called ts all.1)

  pub past_types : (n : ℕ) → slice_get ds n ≡ None → properties_at S n ≡ []
  past_types n at =
      ap (λ k. properties_within k S.types (name_in (map (λ u. u.name) S.types) n)) types_many
      ∙ ap (properties_within N S.types) (name_past ds n at)
      ∙ ap (type_properties (properties_within K S.types)) (none_called ds given)

  abbrev enumeration_of : Option TypeModel → Option EnumerationModel
  enumeration_of o = option_and_then (λ u. enumeration_of_body u.body) o

  -- an enumeration is found by its index as by its name
  pub enumeration_by_name : (n : ℕ) (o : Option DeclaredType) → slice_get ds n ≡ o → IsEnumerationByName S n
  enumeration_by_name n None at =
      let here : enumeration_of (slice_get S.types n) ≡ None = ap enumeration_of (slice_get-map (type_model ds) ds n ∙ ap (option_map (type_model ds)) at) in
      let named : enumeration_of (type_called S.types (name_in (map (λ u. u.name) S.types) n)) ≡ None =
      ap (λ name. enumeration_of (type_called S.types name)) (name_past ds n at) ∙ ap enumeration_of (none_called ds given) in
      here ∙ sym named
  enumeration_by_name n (Some t) at =
      let here : enumeration_of (slice_get S.types n) ≡ enumeration_of (Some (type_model ds t)) = ap enumeration_of (slice_get-map (type_model ds) ds n ∙ ap (option_map (type_model ds)) at) in
      let named : enumeration_of (type_called S.types (name_in (map (λ u. u.name) S.types) n)) ≡ enumeration_of (Some (type_model ds t)) =
      ap (λ name. enumeration_of (type_called S.types name)) (name_there ds ds n t at) ∙ ap enumeration_of (called ds ds n t rising at) in
      here ∙ sym named

  -- a type that body_passes a test is declared
  held : (test : model.ModelBody → Bool) (n : ℕ) → IsTrue (is_kind_at test S n) → (t : DeclaredType) × (slice_get ds n ≡ Some t)
  held test n h = by (slice_get ds n) refl
    where
      by : (o : Option DeclaredType) → slice_get ds n ≡ o → (t : DeclaredType) × (slice_get ds n ≡ Some t)
      by (Some t) at = (t, at)
      by None at =
          let none : slice_get S.types n ≡ None = slice_get-map (type_model ds) ds n ∙ ap (option_map (type_model ds)) at in
          let clash : false ≡ true = ap (body_passes test) (sym none) ∙ h in
          absurd (false≢true clash)

  one_by_name : (test : model.ModelBody → Bool) (n : ℕ) → IsOneByName test S n
  one_by_name test n other here there same =
      let t = held test n here in
      let u = held test other there in
      one_place ds rising other n u.0 t.0 u.1 t.1 (sym (name_there ds ds other u.0 u.1) ∙ same ∙ name_there ds ds n t.0 t.1)

  -- ---- types that kinds point to

  passes_there : (test : model.ModelBody → Bool) (n : ℕ) (t : DeclaredType) → slice_get ds n ≡ Some t → is_kind_at test S n ≡ test (body_model ds t.body)
  passes_there test n t at = ap (body_passes test) (slice_get-map (type_model ds) ds n ∙ ap (option_map (type_model ds)) at)

  definition_points : (o : Option PrimitiveType) → PointsWithin S (kind_of_definition o)
  definition_points None = tt
  definition_points (Some p) = tt

  body_points : (n : ℕ) (t : DeclaredType) (body : TypeBody) → slice_get ds n ≡ Some t → t.body ≡ body → PointsWithin S (place_kind n body)
  body_points n t (structured true base properties) at is = tt
  body_points n t (structured false base properties) at is = passes_there is_structured n t at ∙ ap (λ b. is_structured (body_model ds b)) is
  body_points n t (enumeration e) at is = passes_there is_enumeration n t at ∙ ap (λ b. is_enumeration (body_model ds b)) is
  body_points n t (definition underlying) at is = definition_points (primitive_named underlying)

  place_points : (n : ℕ) → PointsWithin S (unwrap_or (slice_get (kinds_from 0 ds) n) kind.Opaque)
  place_points n =
      let none : 0 + n ≡ n = omega arith in
      let here : slice_get (kinds_from 0 ds) n ≡ option_map (λ t. place_kind n t.body) (slice_get ds n) = kinds_at ds find indexed 0 ds n ∙ ap (λ m. option_map (λ t. place_kind m t.body) (slice_get ds n)) none in
      subst (λ o. PointsWithin S (unwrap_or o kind.Opaque)) (sym here) (by (slice_get ds n) refl)
    where
      by : (o : Option DeclaredType) → slice_get ds n ≡ o → PointsWithin S (unwrap_or (option_map (λ t. place_kind n t.body) o) kind.Opaque)
      by None at = tt
      by (Some t) at = body_points n t t.body at refl

  name_points : (text : List ℕ) (o : Option ℕ) (p : Option PrimitiveType) → PointsWithin S (unless_primitive_kind (unwrap_or (option_and_then (slice_get (kinds_from 0 ds)) o) kind.Opaque) p)
  name_points text o (Some p) = tt
  name_points text None None = tt
  name_points text (Some n) None = place_points n

  value_there : (k : PropertyKind) → PointsWithin S k → PointsWithin S (kind_of_value k) × LeadsWithin S (kind_of_value k) None
  value_there (kind.Prim p) points = (points, refl)
  value_there (kind.Enum e) points = (points, refl)
  value_there (kind.Complex t) points = (points, refl)
  value_there kind.Opaque points = (points, refl)
  value_there kind.Navigation points = (points, refl)

  entity_there : (n : ℕ) (t : DeclaredType) (body : TypeBody) → slice_get ds n ≡ Some t → t.body ≡ body → IfSome (if_entity_place n (Some (place_kind n body))) (IsEntityAt S)
  entity_there n t (structured true base properties) at is = passes_there is_entity_type n t at ∙ ap (λ b. is_entity_type (body_model ds b)) is
  entity_there n t (structured false base properties) at is = tt
  entity_there n t (enumeration e) at is = tt
  entity_there n t (definition underlying) at is = by (primitive_named underlying)
    where
      by : (o : Option PrimitiveType) → IfSome (if_entity_place n (Some (kind_of_definition o))) (IsEntityAt S)
      by None = tt
      by (Some p) = tt

  place_leads : (n : ℕ) → IfSome (if_entity_place n (slice_get (kinds_from 0 ds) n)) (IsEntityAt S)
  place_leads n =
      let none : 0 + n ≡ n = omega arith in
      let here : slice_get (kinds_from 0 ds) n ≡ option_map (λ t. place_kind n t.body) (slice_get ds n) = kinds_at ds find indexed 0 ds n ∙ ap (λ m. option_map (λ t. place_kind m t.body) (slice_get ds n)) none in
      subst (λ o. IfSome (if_entity_place n o) (IsEntityAt S)) (sym here) (by (slice_get ds n) refl)
    where
      by : (o : Option DeclaredType) → slice_get ds n ≡ o → IfSome (if_entity_place n (option_map (λ t. place_kind n t.body) o)) (IsEntityAt S)
      by None at = tt
      by (Some t) at = entity_there n t t.body at refl

  name_leads : (o : Option ℕ) (p : Option PrimitiveType) → IfSome (if_not_primitive (option_and_then (λ n. if_entity_place n (slice_get (kinds_from 0 ds) n)) o) p) (IsEntityAt S)
  name_leads o (Some p) = tt
  name_leads None None = tt
  name_leads (Some n) None = place_leads n

  property_there : (p : PropertyDeclaration) (navigates : Bool)
      → PointsWithin S (cond navigates kind.Navigation (kind_of_value (property_kind_named (kinds_from 0 ds) find p.type_name)))
      × LeadsWithin S (cond navigates kind.Navigation (kind_of_value (property_kind_named (kinds_from 0 ds) find p.type_name))) (cond navigates (target_place (kinds_from 0 ds) find p.type_name) None)
  property_there p true = (tt, name_leads (find p.type_name) (primitive_named p.type_name))
  property_there p false = value_there (property_kind_named (kinds_from 0 ds) find p.type_name) (name_points p.type_name (find p.type_name) (primitive_named p.type_name))

  properties_there : (ps : List PropertyDeclaration) → AllByRecursion (λ (e : List ℕ × Property). IsThere S e.1) (map (placed_property (kinds_from 0 ds) find) ps)
  properties_there [] = tt
  properties_there (p ∷ ps) = (property_there p p.navigates, properties_there ps)

  kinds_point : (n : ℕ) (o : Option DeclaredType) → slice_get ds n ≡ o → AllByRecursion (λ e. IsThere S e.1) (own_at (placed ds find indexed) n)
  kinds_point n None at =
      let none : slice_get (placed ds find indexed) n ≡ None = slice_get-map (at_indexes ds find indexed) ds n ∙ ap (option_map (at_indexes ds find indexed)) at in
      subst (λ o. AllByRecursion (λ e. IsThere S e.1) (own_of o)) (sym none) tt
  kinds_point n (Some t) at = subst (λ es. AllByRecursion (λ e. IsThere S e.1) es) (sym (own_is ds find indexed n t at)) (properties_there (own_properties t.body))

  by_place : (P : List PropertyModel → Type 0) → P [] → ((n : ℕ) (t : DeclaredType) → slice_get ds n ≡ Some t → P (members ds N t)) → (n : ℕ) → P (properties_at S n)
  by_place P none some n = by (slice_get ds n) refl
    where
      by : (o : Option DeclaredType) → slice_get ds n ≡ o → P (properties_at S n)
      by None at = subst P (sym (past_types n at)) none
      by (Some t) at = subst P (sym (at_type n t at)) (some n t at)

  pub all_distinct : (n : ℕ) → HasDistinctNames (properties_at S n)
  all_distinct = by_place HasDistinctNames tt (λ n t at. distinct_members N n t at (chain_ends n t at))

  small_members : (n : ℕ) (t : DeclaredType) → slice_get ds n ≡ Some t → length (members ds N t) ≤ property_limit
  small_members n t at =
      let fits : sum_by (own_count ds) (t ∷ bases_within N ds t) ≤ property_limit = subst (λ k. sum_by (own_count ds) (t ∷ bases_within k ds t) ≤ property_limit) many (each n t at).small in
      let count : length (members ds N t) ≡ sum_by (own_count ds) (t ∷ bases_within N ds t) = members_count ds K t ∙ ap (λ us. sum_by (own_count ds) (t ∷ us)) (all_above n t at) in
      subst (λ k. k ≤ property_limit) (sym count) fits

  none_few : length {A = PropertyModel} [] ≤ property_limit
  none_few = omega arith

  pub all_small : (n : ℕ) → length (properties_at S n) ≤ property_limit
  all_small = by_place (λ ps. length ps ≤ property_limit) none_few small_members

  -- ---- chains

  abbrev pub C : List Chain
  C = chains_from (placed ds find indexed) 0 (placed ds find indexed)

  chain_is : (n : ℕ) (t : DeclaredType) → slice_get ds n ≡ Some t → chain_in C n ≡ chain_at (placed ds find indexed) n
  chain_is n t at =
      let all = placed ds find indexed in
      let here : 0 + n ≡ n = omega arith in
      ap chain_of (chains_at all 0 all n ∙ ap (λ m. option_map (λ p. chain_at all m) (slice_get all n)) here ∙ ap (option_map (λ p. chain_at all n)) (placed_at ds find indexed n t at))

  bases_count : (n : ℕ) (t : DeclaredType) → slice_get ds n ≡ Some t → (chain_in C n).bases ≡ length (bases_within N ds t)
  bases_count n t at =
      ap (λ c. c.bases) (chain_is n t at)
      ∙ length_at ds find indexed (all_places (placed ds find indexed) n) (bases_of ds t) (all_at ds find indexed n t at)
      ∙ ap (λ k. length (bases_within k ds t)) many

  inherited_count : (n : ℕ) (t : DeclaredType) → slice_get ds n ≡ Some t → (chain_in C n).inherited ≡ sum_by (own_count ds) (bases_within N ds t)
  inherited_count n t at =
      ap (λ c. c.inherited) (chain_is n t at)
      ∙ sum_at ds find indexed (λ m. length (own_at (placed ds find indexed) m)) (own_count ds) (count_is ds find indexed) (all_places (placed ds find indexed) n) (bases_of ds t) (all_at ds find indexed n t at)
      ∙ ap (λ k. sum_by (own_count ds) (bases_within k ds t)) many

  below_is : (o : Option ℕ) (b : Option DeclaredType) → IsBase ds find indexed o b → length (onto (bases_within K ds) b) < N → (n : ℕ) → (chain_in C n).bases ≡ length (onto (bases_within K ds) b)
      → IsBaseBelow C n o
  below_is None None is ends n total = tt
  below_is (Some m) (Some u) is ends n total =
      let shorter : length (bases_within K ds u) < K = omega (arith, ends) in
      let count : (chain_in C m).bases ≡ length (bases_within K ds u) = bases_count m u is ∙ ap length (sym (settled ds K u shorter)) in
      omega (arith, total, count)
  below_is None (Some u) is ends n total = absurd is
  below_is (Some m) None is ends n total = absurd is

  inherited_is : (o : Option ℕ) (b : Option DeclaredType) → IsBase ds find indexed o b → sum_by (own_count ds) (onto (bases_within K ds) b) ≡ length (inherited_properties S o)
  inherited_is None None is = refl
  inherited_is (Some m) (Some u) is = sym (members_count ds K u) ∙ ap length (sym (at_type m u is))
  inherited_is None (Some u) is = absurd is
  inherited_is (Some m) None is = absurd is

  properties_is : (o : Option ℕ) (b : Option DeclaredType) → IsBase ds find indexed o b → length (onto (bases_within K ds) b) < N → if_based ds (members ds K) b ≡ inherited_properties S o
  properties_is None None is ends = refl
  properties_is (Some m) (Some u) is ends =
      let shorter : length (bases_within K ds u) < K = omega (arith, ends) in
      base_members m u is shorter ∙ sym (at_type m u is)
  properties_is None (Some u) is ends = absurd is
  properties_is (Some m) None is ends = absurd is

  chained_type : (n : ℕ) (t : DeclaredType) → slice_get ds n ≡ Some t → IsChained S C n (base_place ds find t.body) (own_models ds t)
  chained_type n t at =
      let o = base_place ds find t.body in
      let b = base_of ds t in
      let is = is_base ds find indexed t.body in
      let ends = chain_ends n t at in
      record {
        below = below_is o b is ends n (bases_count n t at);
        inherited = inherited_count n t at ∙ inherited_is o b is;
        properties = at_type n t at ∙ ap (λ inherited. inherited ++ own_models ds t) (properties_is o b is ends);
        ordered = own_ordered ds t.body (each n t at).ordered;
      }

  chained_body : (n : ℕ) (body : TypeBody) → IsChained S C n (base_place ds find body) (map (property_of ds) (own_properties body))
      → IsChainedBody (placed ds find indexed) C n (body_with (kinds_from 0 ds) find (base_place ds find body) body)
  chained_body n (structured is_entity base properties) h =
      let o = base_place ds find (structured is_entity base properties) in
      let own : map (property_model (name_in (names_of (placed ds find indexed)))) (map (placed_property (kinds_from 0 ds) find) properties) ≡ map (property_of ds) properties =
      ap (λ names. map (property_model (name_in names)) (map (placed_property (kinds_from 0 ds) find) properties)) (same_names ds find indexed) ∙ same_properties ds find indexed properties in
      subst (λ s. IsChained s C n o (map (property_model (name_in (names_of (placed ds find indexed)))) (map (placed_property (kinds_from 0 ds) find) properties))) (sym (same_schema ds find indexed))
      (subst (λ ps. IsChained S C n o ps) (sym own) h)
  chained_body n (enumeration e) h = subst (λ s. properties_at s n ≡ []) (sym (same_schema ds find indexed)) h.properties
  chained_body n (definition underlying) h = subst (λ s. properties_at s n ≡ []) (sym (same_schema ds find indexed)) h.properties

  pub all_chained : AreChained (placed ds find indexed) C
  all_chained = record {
    chained = λ n p at. of_placed n p (slice_get ds n) refl at;
    past_end = λ n at. past n (slice_get ds n) refl at;
    distinct = λ n. subst (λ s. HasDistinctNames (properties_at s n)) (sym (same_schema ds find indexed)) (all_distinct n);
    small = λ n. subst (λ s. length (properties_at s n) ≤ property_limit) (sym (same_schema ds find indexed)) (all_small n);
    enumerations = λ n. subst (λ s. IsEnumerationByName s n) (sym (same_schema ds find indexed)) (enumeration_by_name n (slice_get ds n) refl);
    type_names = λ n. subst (λ s. IsOneByName is_structured s n) (sym (same_schema ds find indexed)) (one_by_name is_structured n);
    enumeration_names = λ n. subst (λ s. IsOneByName is_enumeration s n) (sym (same_schema ds find indexed)) (one_by_name is_enumeration n);
    kinds = λ n. subst (λ s. AllByRecursion (λ e. IsThere s e.1) (own_at (placed ds find indexed) n)) (sym (same_schema ds find indexed)) (kinds_point n (slice_get ds n) refl);
  }
    where
      of_placed : (n : ℕ) (p : PlacedType) (o : Option DeclaredType) → slice_get ds n ≡ o → slice_get (placed ds find indexed) n ≡ Some p → IsChainedBody (placed ds find indexed) C n p.body
      of_placed n p None at here =
          let clash : None ≡ Some p = sym (slice_get-map (at_indexes ds find indexed) ds n ∙ ap (option_map (at_indexes ds find indexed)) at) ∙ here in
          absurd (cc)
      of_placed n p (Some t) at here =
          let found : Some (at_indexes ds find indexed t) ≡ Some p = sym (placed_at ds find indexed n t at) ∙ here in
          let same : at_indexes ds find indexed t ≡ p = cc in
          subst (λ q. IsChainedBody (placed ds find indexed) C n q.body) same (chained_body n t.body (chained_type n t at))

      past : (n : ℕ) (o : Option DeclaredType) → slice_get ds n ≡ o → slice_get (placed ds find indexed) n ≡ None → properties_at (model_of (placed ds find indexed)) n ≡ []
      past n None at here = subst (λ s. properties_at s n ≡ []) (sym (same_schema ds find indexed)) (past_types n at)
      past n (Some t) at here =
          let clash : Some (at_indexes ds find indexed t) ≡ None = sym (placed_at ds find indexed n t at) ∙ here in
          absurd (cc)

-- ---- all schemas

none_small : length {A = PropertyModel} [] ≤ property_limit
none_small = omega arith

pub chained_schema : (ds : List DeclaredType) (find : Finder) (indexed : IsIndexOf ds find) → AreInOrder ds → all_base_faults ds ≡ []
    → AreChained (placed ds find indexed) (chains_from (placed ds find indexed) 0 (placed ds find indexed))
chained_schema [] find indexed ordered none = record {
  chained = λ n p at. absurd (cc);
  past_end = λ n at. refl;
  distinct = λ n. tt;
  small = λ n. none_small;
  enumerations = λ n. refl;
  type_names = λ n other here there same. absurd (false≢true here);
  enumeration_names = λ n other here there same. absurd (false≢true here);
  kinds = λ n. tt;
}
chained_schema (t ∷ ts) find indexed ordered none =
    all_chained (t ∷ ts) find indexed ordered.names ordered.given
    (λ n u at. fine (t ∷ ts) u (each_empty (base_faults (t ∷ ts)) (t ∷ ts) n u none at) (each_at (λ v. IsBodyInOrder v.body) (t ∷ ts) n u ordered.properties at))
    (length ts) refl
