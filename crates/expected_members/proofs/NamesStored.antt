-- Names that are stored, one by one.
use Rattle.std.proofs.Common.{◌≡◌, ℕ, ◌<◌, List, [], ◌∷◌, ◌++◌, length, map, get_or, Option, None, Some, IfSome, sym, ap, ◌∙◌, subst, arith}
use Rattle.std.specs.Prelude.{All}
use Rattle.std.proofs.lemmas.List.{get_or-map, length-map, map-append}
use Rattle.std.proofs.lemmas.List.Elements.{All-get_or, All-push}
use Rattle.csdl_schema.specs.SchemaModel.{SchemaModel, properties_at, slot_named}
use Rattle.expected_members.specs.Undeclared.{AreUndeclared, HasNoProperty}
use Rattle.expected_members.specs.declared.undeclared_names.UndeclaredName.{UndeclaredName}
use Rattle.expected_members.specs.private.StoredNames.{type_and_name}

pub stored_is : (schema : SchemaModel) (names : List UndeclaredName) (i : ℕ) (name : UndeclaredName) → name ≡ get_or names i name → i < length names → AreUndeclared schema (map type_and_name names)
    → HasNoProperty schema (type_and_name name)
stored_is schema names i name at within are =
    subst (HasNoProperty schema) (get_or-map type_and_name names i name (type_and_name name) within ∙ ap type_and_name (sym at))
    (All-get_or (HasNoProperty schema) (map type_and_name names) i (type_and_name name) (omega (arith, within, length-map names type_and_name)) are)

pub one_more : (schema : SchemaModel) (names : List UndeclaredName) (name : UndeclaredName) → AreUndeclared schema (map type_and_name names) → HasNoProperty schema (type_and_name name)
    → AreUndeclared schema (map type_and_name (names ++ name ∷ []))
one_more schema names name are is =
    subst (All (HasNoProperty schema)) (sym (map-append type_and_name names (name ∷ []))) (All-push (HasNoProperty schema) (map type_and_name names) (type_and_name name) are is)

-- what was made of a name, where the type has no property of it
pub named_so : (schema : SchemaModel) (type : ℕ) (word : List ℕ) (made : Option UndeclaredName) → IfSome made (λ name. name.type_id ≡ type) → IfSome made (λ name. name.key ≡ word)
    → slot_named (properties_at schema type) word ≡ None → IfSome made (λ name. HasNoProperty schema (type_and_name name))
named_so schema type word None of_type of_name none = tt
named_so schema type word (Some name) of_type of_name none =
    subst (λ (s : List ℕ). slot_named (properties_at schema name.type_id) s ≡ None) (sym of_name) (subst (λ (t : ℕ). slot_named (properties_at schema t) word ≡ None) (sym of_type) none)
