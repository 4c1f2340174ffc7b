-- The texts of positions in JSON: of the JSON there, of a primitive value, and of the members of a collection.
use Rattle.std.specs.Prelude.{◌<◌, ℕ, List, [], ◌∷◌, ◌++◌, codes, length, map, slice_get, unwrap_or}
use Rattle.std.specs.Fmt.{decimal}
use Rattle.std.specs.List.{AllByRecursion}
use Rattle.csdl_schema.specs.SchemaModel.{properties_at}
use Rattle.sql_tree.specs.TableModel.{HasColumn, HasDocument, TableModel, column_text, document_text}
use Rattle.sql_tree.specs.declared.dialect.Dialect.{Dialect}
use Rattle.sql_tree.specs.declared.json_path.Base.{Base}
use Rattle.sql_tree.specs.declared.json_path.Path.{Path}
use Rattle.sql_tree.specs.declared.json_path.Step.{Step}

-- ---- where a path leads

abbrev pub IsBaseOf : TableModel → Base → Type 0
IsBaseOf table Base.Document = HasDocument table.storage
IsBaseOf table (Base.Column slot) = HasColumn table.storage slot
IsBaseOf table (Base.Member level) = Unit {0}

-- the type of the step has that slot
abbrev pub IsStepOf : TableModel → Step → Type 0
IsStepOf table step = step.slot < length (properties_at table.schema step.owner)

pub record IsPathOf (table : TableModel) (path : Path) : Type 0 where
  pub base : IsBaseOf table path.base
  pub steps : AllByRecursion (IsStepOf table) path.steps.items

-- the name of the property to which a step leads
abbrev pub step_name : TableModel → Step → List ℕ
step_name table step =
    unwrap_or (slice_get (map (λ p. p.name) (properties_at table.schema step.owner)) step.slot) []

-- ---- texts

abbrev pub base_text : Dialect → TableModel → Base → List ℕ
base_text dialect table Base.Document = document_text table
base_text dialect table (Base.Column slot) = column_text table slot
base_text Dialect.PostgreSql table (Base.Member level) = codes "m" ++ (decimal level ++ codes ".v")
base_text Dialect.Sqlite table (Base.Member level) = codes "m" ++ (decimal level ++ codes ".value")

-- in PostgreSQL the names of steps are texts between quotes, each after an arrow
abbrev pub arrow_text : TableModel → List ℕ → Step → List ℕ
arrow_text table arrow step = codes " " ++ (arrow ++ (codes " '" ++ (step_name table step ++ codes "'::text")))

-- texts of steps, one after another
abbrev pub each_text : (Step → List ℕ) → List Step → List ℕ
each_text text [] = []
each_text text (step ∷ steps) = text step ++ each_text text steps

-- the JSON at the steps from a position
abbrev pub arrows_text : TableModel → List Step → List ℕ
arrows_text table = each_text (arrow_text table (codes "->"))

-- the last step of all leads to a text
abbrev pub scalar_arrows : TableModel → List Step → List ℕ
scalar_arrows table [] = codes " #>> '{}'::text[]"
scalar_arrows table (step ∷ []) = arrow_text table (codes "->>") step
scalar_arrows table (step ∷ steps) = arrow_text table (codes "->") step ++ scalar_arrows table steps

-- in SQLite they stand between double quotes, each after a dot
abbrev pub dot_text : TableModel → Step → List ℕ
dot_text table step = codes ".\"" ++ (step_name table step ++ codes "\"")

abbrev pub dots_text : TableModel → List Step → List ℕ
dots_text table = each_text (dot_text table)

-- what SQLite's JSON has there: a value of SQL, or a text of JSON
abbrev pub extracted_text : TableModel → Base → List Step → List ℕ
extracted_text table base [] = base_text Dialect.Sqlite table base
extracted_text table base (step ∷ steps) =
    codes "json_extract("
    ++ (base_text Dialect.Sqlite table base ++ (codes ", '$" ++ (dots_text table (step ∷ steps) ++ codes "')")))

-- the JSON there, SQL's null for null
abbrev pub json_text : Dialect → TableModel → Path → List ℕ
json_text Dialect.PostgreSql table path =
    codes "NULLIF("
    ++ (base_text Dialect.PostgreSql table path.base ++ (arrows_text table path.steps.items ++ codes ", 'null'::jsonb)"))
json_text Dialect.Sqlite table path = extracted_text table path.base path.steps.items

-- the primitive value there, in PostgreSQL as a text
abbrev pub value_text : Dialect → TableModel → Path → List ℕ
value_text Dialect.PostgreSql table path =
    codes "("
    ++ (base_text Dialect.PostgreSql table path.base ++ (scalar_arrows table path.steps.items ++ codes ")"))
value_text Dialect.Sqlite table path = extracted_text table path.base path.steps.items

-- the members of the collection there, as a table of their level
abbrev pub members_text : Dialect → TableModel → Path → ℕ → List ℕ
members_text Dialect.PostgreSql table path level =
    codes "jsonb_array_elements("
    ++ (json_text Dialect.PostgreSql table path ++ (codes ") WITH ORDINALITY AS m" ++ (decimal level ++ codes "(v, o)")))
members_text Dialect.Sqlite table path level =
    codes "json_each(" ++ (json_text Dialect.Sqlite table path ++ (codes ") AS m" ++ decimal level))
