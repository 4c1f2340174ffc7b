-- Which values conform at property paths: each value of a type does at every path, whatever is needed there (CSDL JSON
-- 4.01, sections 3.3, 6, 7, 8, 9 and 10; OData URL Conventions 4.01, section 5.1.3).
use Rattle.std.specs.Prelude.{◌≡◌, ◌↔◌, ℕ, List, [], length, true}
use Rattle.serde_json.specs.Data.{Data}
use Rattle.edm_values.specs.MomentParts.{IsMoment, MomentParts}
use Rattle.edm_values.specs.Val.{Val}
use Rattle.odata_syntax.specs.Tree.{Tree}
use Rattle.csdl_schema.specs.ExprType.{ExprType, single, structured}
use Rattle.csdl_schema.specs.PathSet.{PathSet, PropertyPath}
use Rattle.csdl_schema.specs.SchemaModel.{Slots, expanded, slots_of, type_name_at}
use Rattle.edm_entities.specs.Fits.{Fits}
use Rattle.edm_entities.specs.HasType.{HasType}
use Rattle.edm_entities.specs.Row.{Row, IsEntity, value_of}
use Rattle.odata_signatures.specs.NeededPaths.{IsNeeded, VariablePaths}
use Rattle.odata_signatures.specs.Typed.{Typed}
use Rattle.odata_meaning.specs.EndsOnceAtPaths.{EndsOnceAt}
use Rattle.odata_meaning.specs.Environment.{Environment, IsFitting, scope_of}
use Rattle.odata_meaning.specs.TypesAtPaths.{AreFittingAt, HasTypeAt}

-- a value of a type has that type at every path, whatever is needed
abbrev pub HaveTypesAtEveryPath : Type 0
HaveTypesAtEveryPath =
    (slots : Slots) (needed : PathSet) (path : PropertyPath) (type : ExprType) (v : Val)
    → HasType slots type v → HasTypeAt slots needed path type v

-- and where all is needed no other value has it
abbrev pub AreAllNeededAlike : Type 0
AreAllNeededAlike =
    (slots : Slots) (path : PropertyPath) (type : ExprType) (v : Val)
    → HasType slots type v ↔ HasTypeAt slots (λ asked. true) path type v

-- variables whose values have their types fit at any paths, one for each
abbrev pub FitAtAnyPaths : Type 0
FitAtAnyPaths =
    (slots : Slots) (needed : PathSet) (environment : Environment) (paths : VariablePaths)
    → length paths ≡ length environment → IsFitting slots environment → AreFittingAt slots needed environment paths

-- what some JSON fits as an entity, whatever is expanded in it, has the type of that entity where a path starts
abbrev pub ConformAtPaths : Type 0
ConformAtPaths =
    (slots : Slots) (expansion needed : PathSet) (root : List ℕ) (json : Data) (v : Val)
    → Fits (expanded slots expansion) root json v → HasTypeAt slots needed [] (single (structured root)) v

-- a tree that has a type ends once on every entity, with variables at paths of their own, where all is needed that the
-- tree needs
abbrev pub EndsOnceAtPathsOnEntities : Type 0
EndsOnceAtPathsOnEntities =
    (row : Row) (needed : PathSet) (now : MomentParts) (environment : Environment) (paths : VariablePaths) (tree : Tree)
    (type : ExprType)
    → IsMoment now.civil now.offset_minutes → IsEntity row
    → AreFittingAt (slots_of row.schema) needed environment paths
    → Typed (slots_of row.schema) (type_name_at row.schema row.type_id) (scope_of environment) tree type
    → ((path : PropertyPath)
    → IsNeeded (slots_of row.schema) (type_name_at row.schema row.type_id) (scope_of environment) paths tree path
    → needed path ≡ true)
    → EndsOnceAt (slots_of row.schema) needed (type_name_at row.schema row.type_id) now (value_of row) environment paths
    tree type
