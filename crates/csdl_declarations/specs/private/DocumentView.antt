-- The parts of a document that the code holds, as the definitions say them; for private clauses.
use Rattle.std.specs.Prelude.{◌≡◌, ℕ, zero, suc, List, Bool, true, false, Option, Some, None, map, option_map, String, string_bytes}
use Rattle.std.specs.Borrow.{Bor}
use Rattle.std.specs.declared.alloc.Global.{Global}
use Rattle.std.specs.Ordering.{nat_cmp}
use Rattle.std.specs.Cmp.Lexicographic.{slice_cmp}
use Rattle.std.specs.List.{AllByRecursion}
use Rattle.std.specs.List.Sorted.{IsStrictlySortedBy}
use Rattle.serde_json.specs.Data.{Data}
use Rattle.serde_json.specs.View.{view}
use Rattle.csdl_declarations.specs.declared.member.Member.{Member}
use Rattle.csdl_declarations.specs.declared.declaration.Declaration.{Declaration}
use Rattle.csdl_declarations.specs.Declarations.{TypeDeclaration, full_name}

abbrev pub member_view : Member → List ℕ × Data
member_view m = (m.name.now, view m.value.now)

abbrev pub members_of : List Member → List (List ℕ × Data)
members_of ms = map member_view ms

-- the names of members rise in byte order
abbrev pub AreNamesInOrder : List (List ℕ × Data) → Type 0
AreNamesInOrder ms = IsStrictlySortedBy (slice_cmp nat_cmp) (map (λ m. m.0) ms)

abbrev pub declaration_view : Declaration → TypeDeclaration
declaration_view t = record {
  namespace = t.namespace.now;
  alias = option_map (λ s. s.now) t.alias;
  name = t.name.now;
  body = view t.body.now;
}

abbrev pub declarations_of : List Declaration → List TypeDeclaration
declarations_of ts = map declaration_view ts

-- declarations kept by their whole names
abbrev pub types_of : List (String Global × Bor Declaration) → List TypeDeclaration
types_of es = map (λ e. declaration_view e.1.now) es

abbrev pub AreNamed : List (String Global × Bor Declaration) → Type 0
AreNamed es = AllByRecursion (λ e. string_bytes e.0 ≡ full_name (declaration_view e.1.now)) es

-- of an alias that so many schemas have, whether there is more than one; nothing where there is none
abbrev pub is_shared_count : ℕ → Option Bool
is_shared_count zero = None
is_shared_count (suc zero) = Some false
is_shared_count (suc (suc n)) = Some true
