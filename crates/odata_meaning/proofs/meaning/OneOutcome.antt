-- A tree that has a type has one outcome.
use Rattle.std.proofs.Common.{refl, ℕ, List, []}
use Rattle.serde_json.specs.Data.{Data}
use Rattle.edm_values.specs.Val.{Val}
use Rattle.csdl_schema.specs.ExpansionView.{paths_in}
use Rattle.csdl_schema.specs.ExprType.{single, structured}
use Rattle.csdl_schema.specs.PathSet.{PathSet}
use Rattle.csdl_schema.specs.SchemaModel.{Slots, expanded, slots_of, type_name_at}
use Rattle.edm_entities.specs.Fits.{Fits}
use Rattle.edm_entities.specs.HasType.{HasType}
use Rattle.edm_entities.specs.Row.{value_of}
use Rattle.odata_signatures.specs.NeededPaths.{path_of}
use Rattle.odata_meaning.specs.ConformsAtPaths.{ConformAtPaths, EndsOnceAtPathsOnEntities}
use Rattle.odata_meaning.specs.EndsOnce.{EndsOnceOnEntities, TypedEndsOnce}
use Rattle.odata_meaning.specs.EndsOnceAtPaths.{TypedEndsOnceAtPaths}
use Rattle.odata_meaning.specs.Environment.{scope_of}
use Rattle.odata_meaning.proofs.meaning.AtPaths.{every_path, fitting_at, has_at, no_steps, outcome_apart}

-- apart from paths: as where every path is needed
pub ends_once : TypedEndsOnceAtPaths → TypedEndsOnce
ends_once at_paths slots root now entity environment tree type is_moment conforms fitting typed =
    let paths = no_steps slots environment in
    let ends = at_paths slots every_path root now entity environment paths tree type is_moment
    (has_at slots every_path [] (single (structured root)) entity conforms) (fitting_at slots environment fitting) typed (λ path is. refl) in
    record {
      outcome = ends.outcome;
      related = ends.related;
      of_type = outcome_apart slots (path_of (scope_of environment) paths tree) type ends.outcome ends.of_type;
      only = ends.only;
    }

pub ends_on_entities :
    TypedEndsOnce
    → ((slots : Slots) (expansion : PathSet) (type_name : List ℕ) (json : Data) (v : Val) → Fits (expanded slots expansion) type_name json v → HasType slots (single (structured type_name)) v)
    → EndsOnceOnEntities
ends_on_entities ends fits row now environment tree type is_moment entity fitting typed =
    ends (slots_of row.schema) (type_name_at row.schema row.type_id) now (value_of row) environment tree type is_moment
    (fits (slots_of row.schema) (paths_in row.expansion) (type_name_at row.schema row.type_id) entity.conforms.0 (value_of row) entity.conforms.1) fitting typed

-- ---- at paths

pub conforms_at : ((slots : Slots) (expansion : PathSet) (type_name : List ℕ) (json : Data) (v : Val) → Fits (expanded slots expansion) type_name json v → HasType slots (single (structured type_name)) v)
    → ConformAtPaths
conforms_at fits slots expansion needed root json v is = has_at slots needed [] (single (structured root)) v (fits slots expansion root json v is)

pub ends_at_on_entities : TypedEndsOnceAtPaths → ConformAtPaths → EndsOnceAtPathsOnEntities
ends_at_on_entities ends conform row needed now environment paths tree type is_moment entity fitting typed covered =
    ends (slots_of row.schema) needed (type_name_at row.schema row.type_id) now (value_of row) environment paths tree type is_moment
    (conform (slots_of row.schema) (paths_in row.expansion) needed (type_name_at row.schema row.type_id) entity.conforms.0 (value_of row) entity.conforms.1) fitting typed covered
