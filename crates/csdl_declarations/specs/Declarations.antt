-- The types that the schemas of a document declare, in the order of their whole names (CSDL JSON 4.01, sections 2
-- to 6).
use Rattle.std.specs.Prelude.{◌≡◌, ℕ, ◌++◌, [], ◌∷◌, List, Option, Some, None, is_some, option_map, if◌then◌else◌, codes, map, nat_eq, count_by}
use Rattle.std.specs.Ordering.{nat_cmp, match_ordering}
use Rattle.std.specs.List.{flat_map}
use Rattle.std.specs.List.Sorted.{IsStrictlySortedBy}
use Rattle.std.specs.Cmp.Lexicographic.{pointwise, slice_cmp}
use Rattle.serde_json.specs.Data.{Data}
use Rattle.csdl_declarations.specs.Members.{declared_in, text_at}
use Rattle.csdl_declarations.specs.TypeKind.{type_kind_in, is_other_kind}

-- a type as a schema of the document declares it
pub record TypeDeclaration : Type 0 where
  pub namespace : List ℕ
  pub alias : Option (List ℕ)
  pub name : List ℕ
  pub body : Data

-- a type's name with its namespace, joined by a dot
abbrev pub full_name : TypeDeclaration → List ℕ
full_name t = t.namespace ++ 46 ∷ t.name

-- a type's name with the alias of its namespace, if that has one
abbrev pub full_alias_name : TypeDeclaration → Option (List ℕ)
full_alias_name t = option_map (λ alias. alias ++ 46 ∷ t.name) t.alias

abbrev pub type_in : List ℕ → Option (List ℕ) → List ℕ × Data → TypeDeclaration
type_in namespace alias m = record { namespace = namespace; alias = alias; name = m.0; body = m.1 }

abbrev pub types_among : List ℕ → Option (List ℕ) → List (List ℕ × Data) → List TypeDeclaration
types_among namespace alias [] = []
types_among namespace alias (m ∷ ms) =
    if is_other_kind m.1 then types_among namespace alias ms
    else type_in namespace alias m ∷ types_among namespace alias ms

-- the types of one schema, well formed or not
abbrev pub types_in : List ℕ × Data → List TypeDeclaration
types_in schema = types_among schema.0 (text_at (codes "$Alias") schema.1) (declared_in schema.1)

-- the types of all schemas of a document
abbrev pub types_declared : Data → List TypeDeclaration
types_declared document = flat_map types_in (declared_in document)

-- how many of them say that they are of one of the four kinds
abbrev pub type_count : Data → ℕ
type_count document = count_by (λ t. is_some (type_kind_in t.body)) (types_declared document)

-- the first type of a whole name
abbrev pub first_named : List TypeDeclaration → List ℕ → Option TypeDeclaration
first_named [] asked = None
first_named (t ∷ ts) asked = if pointwise nat_eq (full_name t) asked then Some t else first_named ts asked

-- some types by name: whole names rise in byte order, and each whole name has the first type of that name
pub record AreByName (types ordered : List TypeDeclaration) : Type 0 where
  pub rising : IsStrictlySortedBy (slice_cmp nat_cmp) (map full_name ordered)
  pub first : (asked : List ℕ) → first_named ordered asked ≡ first_named types asked

-- a type goes before those of higher whole names, and replaces one of the same
abbrev pub put_type : TypeDeclaration → List TypeDeclaration → List TypeDeclaration
put_type t [] = t ∷ []
put_type t (u ∷ us) =
    match_ordering (slice_cmp nat_cmp (full_name t) (full_name u)) (t ∷ u ∷ us) (t ∷ us) (u ∷ put_type t us)

-- the types by name, as the law `types_by_name` says
abbrev pub in_name_order : List TypeDeclaration → List TypeDeclaration
in_name_order [] = []
in_name_order (t ∷ ts) = put_type t (in_name_order ts)

-- a document's types in the byte order of their whole names
abbrev pub types_in_order : Data → List TypeDeclaration
types_in_order document = in_name_order (types_declared document)
