-- Kinds of types (CSDL JSON 4.01, sections 6, 9, 10 and 11), and which members of a schema declare one.
use Rattle.std.specs.Prelude.{ℕ, ◌&&◌, ◌||◌, List, Bool, not, Option, Some, None, is_some, if◌then◌else◌, codes, nat_eq}
use Rattle.std.specs.Cmp.Lexicographic.{pointwise}
use Rattle.serde_json.specs.Data.{Data}
use Rattle.serde_json.specs.Find.{as_array}
use Rattle.csdl_declarations.specs.declared.type_kind.TypeKind.{TypeKind}
use Rattle.csdl_declarations.specs.declared.type_kind.TypeKind.TheVariants.{Entity, Complex, Enumeration, Definition}
use Rattle.csdl_declarations.specs.Members.{text_at}

abbrev pub kind_named : List ℕ → Option TypeKind
kind_named text =
    if pointwise nat_eq text (codes "EntityType") then Some Entity
    else (if pointwise nat_eq text (codes "ComplexType") then Some Complex
    else (if pointwise nat_eq text (codes "EnumType") then Some Enumeration
    else (if pointwise nat_eq text (codes "TypeDefinition") then Some Definition
    else None)))

abbrev pub kind_of_text : Option (List ℕ) → Option TypeKind
kind_of_text None = None
kind_of_text (Some text) = kind_named text

-- the kind that `$Kind` names
abbrev pub type_kind_in : Data → Option TypeKind
type_kind_in d = kind_of_text (text_at (codes "$Kind") d)

-- what a schema reads over: arrays, and objects of another kind
abbrev pub is_other_kind : Data → Bool
is_other_kind d = is_some (as_array d) || (is_some (text_at (codes "$Kind") d) && not (is_some (type_kind_in d)))
