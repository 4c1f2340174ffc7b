-- The texts of paths and of leaves leave parentheses and quotes as they were.
use Rattle.std.proofs.Common.{◌≡◌, ℕ, suc, ◌+◌, cond, List, [], ◌∷◌, ◌++◌, Bool, true, false, Option, refl}
use Rattle.std.specs.Prelude.{codes}
use Rattle.std.specs.Fmt.{decimal, signed_decimal}
use Rattle.std.specs.List.{AllByRecursion}
use Rattle.edm_enumerations.specs.EnumerationModel.{EnumerationModel, MemberModel}
use Rattle.edm_values.specs.declared.primitive.PrimitiveType.{PrimitiveType}
use Rattle.csdl_schema.specs.EnumerationText.{has_flags, members_in}
use Rattle.csdl_schema.specs.SchemaModel.{enumeration_at}
use Rattle.odata_functions.specs.declared.arithmetic.ArithFault.{ArithFault}
use Rattle.sql_tree.specs.LeafText.{cases_text, count_text, enumeration_text, fault_text, field_text, sqlite_flags_text, sqlite_member_text, missing_text, more_names, more_numbers, names_text, null_text, number_text, numbers_text, parameter_text, piece_number_text, postgres_type, primitive_text, some_cases, truth_text}
use Rattle.sql_tree.specs.Parentheses.{AreNamesPlain, HasNoQuote, in_text, outside, read}
use Rattle.sql_tree.specs.PathText.{arrow_text, arrows_text, base_text, dot_text, dots_text, extracted_text, json_text, members_text, scalar_arrows, step_name, value_text}
use Rattle.sql_tree.specs.QuotedName.{quoted_name}
use Rattle.sql_tree.specs.TableModel.{TableModel, column_name, column_text, document_name, document_text}
use Rattle.sql_tree.specs.declared.dialect.Dialect.{Dialect}
use Rattle.sql_tree.specs.declared.sql_node.Digit.{Digit}
use Rattle.sql_tree.specs.declared.sql_node.Carrier.{Carrier}
use Rattle.sql_tree.specs.declared.sql_node.FieldType.{FieldType}
use Rattle.sql_tree.specs.declared.sql_node.SqlType.{SqlType}
use Rattle.sql_tree.specs.declared.json_path.Base.{Base}
use Rattle.sql_tree.specs.declared.json_path.Path.{Path}
use Rattle.sql_tree.specs.declared.json_path.Step.{Step}
use Rattle.sql_tree.proofs.Reading.{IsQuiet, both, decimal_quiet, in_text_still, quiet_both, quoted_quiet, signed_quiet}

-- a text within parentheses
within : (front inner close : List ℕ) → ((depth : ℕ) → read (outside depth) front ≡ outside (suc depth)) → IsQuiet inner → ((depth : ℕ) → read (outside (suc depth)) close ≡ outside depth)
    → IsQuiet (front ++ (inner ++ close))
within front inner close opens quiet closes = λ depth.
    both (outside depth) (outside (suc depth)) (outside depth) front (inner ++ close) (opens depth)
    (both (outside (suc depth)) (outside (suc depth)) (outside depth) inner close (quiet (suc depth)) (closes depth))

-- a name within quotes
named : (front name close : List ℕ) → ((depth : ℕ) → read (outside depth) front ≡ in_text depth) → HasNoQuote name → ((depth : ℕ) → read (in_text depth) close ≡ outside depth)
    → IsQuiet (front ++ (name ++ close))
named front name close opens none closes = λ depth.
    both (outside depth) (in_text depth) (outside depth) front (name ++ close) (opens depth)
    (both (in_text depth) (in_text depth) (outside depth) name close (in_text_still depth name none) (closes depth))

no_quote_both : (xs ys : List ℕ) → HasNoQuote xs → HasNoQuote ys → HasNoQuote (xs ++ ys)
no_quote_both [] ys one other = other
no_quote_both (x ∷ xs) ys one other = (one.0, no_quote_both xs ys one.1 other)

-- ---- paths

module _ (table : TableModel) (plain : AreNamesPlain table) where
  pub column_quiet : (slot : ℕ) → IsQuiet (column_text table slot)
  column_quiet slot = quiet_both (codes "t.") (quoted_name (column_name table.storage slot)) (λ depth. refl) (quoted_quiet (column_name table.storage slot))

  document_quiet : IsQuiet (document_text table)
  document_quiet = quiet_both (codes "t.") (quoted_name (document_name table.storage)) (λ depth. refl) (quoted_quiet (document_name table.storage))

  base_quiet : (dialect : Dialect) (base : Base) → IsQuiet (base_text dialect table base)
  base_quiet dialect Base.Document = document_quiet
  base_quiet dialect (Base.Column slot) = column_quiet slot
  base_quiet Dialect.PostgreSql (Base.Member level) =
      quiet_both (codes "m") (decimal level ++ codes ".v") (λ depth. refl) (quiet_both (decimal level) (codes ".v") (decimal_quiet level) (λ depth. refl))
  base_quiet Dialect.Sqlite (Base.Member level) =
      quiet_both (codes "m") (decimal level ++ codes ".value") (λ depth. refl) (quiet_both (decimal level) (codes ".value") (decimal_quiet level) (λ depth. refl))

  arrow_quiet : (arrow : List ℕ) (step : Step) → IsQuiet arrow → IsQuiet (arrow_text table arrow step)
  arrow_quiet arrow step quiet =
      quiet_both (codes " ") (arrow ++ (codes " '" ++ (step_name table step ++ codes "'::text"))) (λ depth. refl)
      (quiet_both arrow (codes " '" ++ (step_name table step ++ codes "'::text")) quiet (named (codes " '") (step_name table step) (codes "'::text") (λ depth. refl) (plain.steps step) (λ depth. refl)))

  arrows_quiet : (steps : List Step) → IsQuiet (arrows_text table steps)
  arrows_quiet [] = λ depth. refl
  arrows_quiet (step ∷ steps) = quiet_both (arrow_text table (codes "->") step) (arrows_text table steps) (arrow_quiet (codes "->") step (λ depth. refl)) (arrows_quiet steps)

  scalar_quiet : (steps : List Step) → IsQuiet (scalar_arrows table steps)
  scalar_quiet [] = λ depth. refl
  scalar_quiet (step ∷ []) = arrow_quiet (codes "->>") step (λ depth. refl)
  scalar_quiet (step ∷ second ∷ steps) =
      quiet_both (arrow_text table (codes "->") step) (scalar_arrows table (second ∷ steps)) (arrow_quiet (codes "->") step (λ depth. refl)) (scalar_quiet (second ∷ steps))

  dot_plain : (step : Step) → HasNoQuote (dot_text table step)
  dot_plain step =
      no_quote_both (codes ".\"") (step_name table step ++ codes "\"") (λ e. cc, (λ e. cc, tt))
      (no_quote_both (step_name table step) (codes "\"") (plain.steps step) (λ e. cc, tt))

  dots_plain : (steps : List Step) → HasNoQuote (dots_text table steps)
  dots_plain [] = tt
  dots_plain (step ∷ steps) = no_quote_both (dot_text table step) (dots_text table steps) (dot_plain step) (dots_plain steps)

  extracted_quiet : (base : Base) (steps : List Step) → IsQuiet (extracted_text table base steps)
  extracted_quiet base [] = base_quiet Dialect.Sqlite base
  extracted_quiet base (step ∷ steps) = λ depth.
      both (outside depth) (outside (suc depth)) (outside depth) (codes "json_extract(") ((base_text Dialect.Sqlite table base) ++ ((codes ", '$") ++ ((dots_text table (step ∷ steps)) ++ (codes "')")))) refl
      (both (outside (suc depth)) (outside (suc depth)) (outside depth) (base_text Dialect.Sqlite table base) ((codes ", '$") ++ ((dots_text table (step ∷ steps)) ++ (codes "')"))) (base_quiet Dialect.Sqlite base (suc depth))
      (both (outside (suc depth)) (in_text (suc depth)) (outside depth) (codes ", '$") ((dots_text table (step ∷ steps)) ++ (codes "')")) refl
      (both (in_text (suc depth)) (in_text (suc depth)) (outside depth) (dots_text table (step ∷ steps)) (codes "')") (in_text_still (suc depth) (dots_text table (step ∷ steps)) (dots_plain (step ∷ steps))) refl)))

  json_quiet : (dialect : Dialect) (path : Path) → IsQuiet (json_text dialect table path)
  json_quiet Dialect.PostgreSql path = λ depth.
      both (outside depth) (outside (suc depth)) (outside depth) (codes "NULLIF(") ((base_text Dialect.PostgreSql table path.base) ++ ((arrows_text table path.steps.items) ++ (codes ", 'null'::jsonb)"))) refl
      (both (outside (suc depth)) (outside (suc depth)) (outside depth) (base_text Dialect.PostgreSql table path.base) ((arrows_text table path.steps.items) ++ (codes ", 'null'::jsonb)")) (base_quiet Dialect.PostgreSql path.base (suc depth))
      (both (outside (suc depth)) (outside (suc depth)) (outside depth) (arrows_text table path.steps.items) (codes ", 'null'::jsonb)") (arrows_quiet path.steps.items (suc depth)) refl))
  json_quiet Dialect.Sqlite path = extracted_quiet path.base path.steps.items

  value_quiet : (dialect : Dialect) (path : Path) → IsQuiet (value_text dialect table path)
  value_quiet Dialect.PostgreSql path = λ depth.
      both (outside depth) (outside (suc depth)) (outside depth) (codes "(") ((base_text Dialect.PostgreSql table path.base) ++ ((scalar_arrows table path.steps.items) ++ (codes ")"))) refl
      (both (outside (suc depth)) (outside (suc depth)) (outside depth) (base_text Dialect.PostgreSql table path.base) ((scalar_arrows table path.steps.items) ++ (codes ")")) (base_quiet Dialect.PostgreSql path.base (suc depth))
      (both (outside (suc depth)) (outside (suc depth)) (outside depth) (scalar_arrows table path.steps.items) (codes ")") (scalar_quiet path.steps.items (suc depth)) refl))
  value_quiet Dialect.Sqlite path = extracted_quiet path.base path.steps.items

  pub members_quiet : (dialect : Dialect) (path : Path) (level : ℕ) → IsQuiet (members_text dialect table path level)
  members_quiet Dialect.PostgreSql path level = λ depth.
      both (outside depth) (outside (suc depth)) (outside depth) (codes "jsonb_array_elements(") ((json_text Dialect.PostgreSql table path) ++ ((codes ") WITH ORDINALITY AS m") ++ ((decimal level) ++ (codes "(v, o)")))) refl
      (both (outside (suc depth)) (outside (suc depth)) (outside depth) (json_text Dialect.PostgreSql table path) ((codes ") WITH ORDINALITY AS m") ++ ((decimal level) ++ (codes "(v, o)"))) (json_quiet Dialect.PostgreSql path (suc depth))
      (both (outside (suc depth)) (outside depth) (outside depth) (codes ") WITH ORDINALITY AS m") ((decimal level) ++ (codes "(v, o)")) refl
      (both (outside depth) (outside depth) (outside depth) (decimal level) (codes "(v, o)") (decimal_quiet level depth) refl)))
  members_quiet Dialect.Sqlite path level = λ depth.
      both (outside depth) (outside (suc depth)) (outside depth) (codes "json_each(") ((json_text Dialect.Sqlite table path) ++ ((codes ") AS m") ++ (decimal level))) refl
      (both (outside (suc depth)) (outside (suc depth)) (outside depth) (json_text Dialect.Sqlite table path) ((codes ") AS m") ++ (decimal level)) (json_quiet Dialect.Sqlite path (suc depth))
      (both (outside (suc depth)) (outside depth) (outside depth) (codes ") AS m") (decimal level) refl (decimal_quiet level depth)))

  -- ---- leaves

  pub missing_quiet : (dialect : Dialect) (path : Path) → IsQuiet (missing_text dialect table path)
  missing_quiet dialect path = within (codes "(") (json_text dialect table path) (codes " IS NULL)") (λ depth. refl) (json_quiet dialect path) (λ depth. refl)

  pub count_quiet : (dialect : Dialect) (path : Path) → IsQuiet (count_text dialect table path)
  count_quiet Dialect.PostgreSql path =
      within (codes "jsonb_array_length(") (json_text Dialect.PostgreSql table path) (codes ")") (λ depth. refl) (json_quiet Dialect.PostgreSql path) (λ depth. refl)
  count_quiet Dialect.Sqlite path =
      within (codes "json_array_length(") (json_text Dialect.Sqlite table path) (codes ")") (λ depth. refl) (json_quiet Dialect.Sqlite path) (λ depth. refl)

  cast_quiet : (path : Path) (cast : List ℕ) → IsQuiet cast → IsQuiet (value_text Dialect.PostgreSql table path ++ cast)
  cast_quiet path cast quiet = quiet_both (value_text Dialect.PostgreSql table path) cast (value_quiet Dialect.PostgreSql path) quiet

  primitive_quiet : (dialect : Dialect) (path : Path) (type : PrimitiveType) → IsQuiet (primitive_text dialect table path type)
  primitive_quiet Dialect.PostgreSql path PrimitiveType.Bool = cast_quiet path (codes "::boolean") (λ depth. refl)
  primitive_quiet Dialect.PostgreSql path PrimitiveType.Date = cast_quiet path (codes "::date") (λ depth. refl)
  primitive_quiet Dialect.PostgreSql path PrimitiveType.Guid = cast_quiet path (codes "::uuid") (λ depth. refl)
  primitive_quiet Dialect.PostgreSql path PrimitiveType.String = value_quiet Dialect.PostgreSql path
  primitive_quiet Dialect.PostgreSql path PrimitiveType.DateTimeOffset = value_quiet Dialect.PostgreSql path
  primitive_quiet Dialect.PostgreSql path _ = cast_quiet path (codes "::bigint") (λ depth. refl)
  primitive_quiet Dialect.Sqlite path PrimitiveType.Guid =
      within (codes "lower(") (value_text Dialect.Sqlite table path) (codes ")") (λ depth. refl) (value_quiet Dialect.Sqlite path) (λ depth. refl)
  primitive_quiet Dialect.Sqlite path _ = value_quiet Dialect.Sqlite path

  -- ---- enumerations

  abbrev AllPlain : List MemberModel → Type 0
  AllPlain = AllByRecursion (λ m. HasNoQuote m.name)

  more_names_quiet : (ms : List MemberModel) → AllPlain ms → IsQuiet (more_names ms)
  more_names_quiet [] all = λ depth. refl
  more_names_quiet (m ∷ ms) all = λ depth.
      both (outside depth) (in_text depth) (outside depth) (codes ", '") (m.name ++ ((codes "'") ++ (more_names ms))) refl
      (both (in_text depth) (in_text depth) (outside depth) m.name ((codes "'") ++ (more_names ms)) (in_text_still depth m.name all.0)
      (both (in_text depth) (outside depth) (outside depth) (codes "'") (more_names ms) refl (more_names_quiet ms all.1 depth)))

  names_quiet : (ms : List MemberModel) → AllPlain ms → IsQuiet (names_text ms)
  names_quiet [] all = λ depth. refl
  names_quiet (m ∷ ms) all = λ depth.
      both (outside depth) (in_text depth) (outside depth) (codes "'") (m.name ++ ((codes "'") ++ (more_names ms))) refl
      (both (in_text depth) (in_text depth) (outside depth) m.name ((codes "'") ++ (more_names ms)) (in_text_still depth m.name all.0)
      (both (in_text depth) (outside depth) (outside depth) (codes "'") (more_names ms) refl (more_names_quiet ms all.1 depth)))

  more_numbers_quiet : (ms : List MemberModel) → IsQuiet (more_numbers ms)
  more_numbers_quiet [] = λ depth. refl
  more_numbers_quiet (m ∷ ms) =
      quiet_both (codes ", ") (signed_decimal m.number ++ more_numbers ms) (λ depth. refl) (quiet_both (signed_decimal m.number) (more_numbers ms) (signed_quiet m.number) (more_numbers_quiet ms))

  numbers_quiet : (ms : List MemberModel) → IsQuiet (numbers_text ms)
  numbers_quiet [] = λ depth. refl
  numbers_quiet (m ∷ ms) = quiet_both (signed_decimal m.number) (more_numbers ms) (signed_quiet m.number) (more_numbers_quiet ms)

  cases_quiet : (ms : List MemberModel) → AllPlain ms → IsQuiet (cases_text ms)
  cases_quiet [] all = λ depth. refl
  cases_quiet (m ∷ ms) all = λ depth.
      both (outside depth) (in_text depth) (outside depth) (codes " WHEN '") (m.name ++ ((codes "' THEN ") ++ ((signed_decimal m.number) ++ (cases_text ms)))) refl
      (both (in_text depth) (in_text depth) (outside depth) m.name ((codes "' THEN ") ++ ((signed_decimal m.number) ++ (cases_text ms))) (in_text_still depth m.name all.0)
      (both (in_text depth) (outside depth) (outside depth) (codes "' THEN ") ((signed_decimal m.number) ++ (cases_text ms)) refl
      (both (outside depth) (outside depth) (outside depth) (signed_decimal m.number) (cases_text ms) (signed_quiet m.number depth) (cases_quiet ms all.1 depth))))

  some_cases_quiet : (ms : List MemberModel) → AllPlain ms → IsQuiet (some_cases ms)
  some_cases_quiet [] all = λ depth. refl
  some_cases_quiet (m ∷ ms) all = cases_quiet (m ∷ ms) all

  piece_number_quiet : (ms : List MemberModel) → AllPlain ms → IsQuiet (piece_number_text ms)
  piece_number_quiet ms all =
      quiet_both (codes "CASE p") (some_cases ms ++ codes " ELSE CAST(p AS integer) END") (λ depth. refl)
      (quiet_both (some_cases ms) (codes " ELSE CAST(p AS integer) END") (some_cases_quiet ms all) (λ depth. refl))

  -- what ends the sum of flags
  abbrev flags_end : List ℕ
  flags_end =
      codes " FROM (SELECT trim(json_extract(a, '$[' || i || ']'), ' ') AS p)), i + 1, a FROM w " ++ (codes "WHERE i < json_array_length(a)) SELECT CASE WHEN a IS NOT NULL THEN n END FROM w ORDER BY i DESC LIMIT " ++ codes "1)")

  enumeration_quiet : (dialect : Dialect) (path : Path) (e : Option EnumerationModel) → AllPlain (members_in e) → IsQuiet (enumeration_text dialect table path e)
  enumeration_quiet Dialect.PostgreSql path e all = λ depth.
      both (outside depth) (outside (suc depth)) (outside depth) (codes "odf.enumeration_number(") ((value_text Dialect.PostgreSql table path) ++ ((codes ", ARRAY[") ++ ((names_text (members_in e)) ++ ((codes "]::text[], ARRAY[") ++ ((numbers_text (members_in e)) ++ (codes "]::bigint[])")))))) refl
      (both (outside (suc depth)) (outside (suc depth)) (outside depth) (value_text Dialect.PostgreSql table path) ((codes ", ARRAY[") ++ ((names_text (members_in e)) ++ ((codes "]::text[], ARRAY[") ++ ((numbers_text (members_in e)) ++ (codes "]::bigint[])"))))) (value_quiet Dialect.PostgreSql path (suc depth))
      (both (outside (suc depth)) (outside (suc depth)) (outside depth) (codes ", ARRAY[") ((names_text (members_in e)) ++ ((codes "]::text[], ARRAY[") ++ ((numbers_text (members_in e)) ++ (codes "]::bigint[])")))) refl
      (both (outside (suc depth)) (outside (suc depth)) (outside depth) (names_text (members_in e)) ((codes "]::text[], ARRAY[") ++ ((numbers_text (members_in e)) ++ (codes "]::bigint[])"))) (names_quiet (members_in e) all (suc depth))
      (both (outside (suc depth)) (outside (suc depth)) (outside depth) (codes "]::text[], ARRAY[") ((numbers_text (members_in e)) ++ (codes "]::bigint[])")) refl
      (both (outside (suc depth)) (outside (suc depth)) (outside depth) (numbers_text (members_in e)) (codes "]::bigint[])") (numbers_quiet (members_in e) (suc depth)) refl)))))
  enumeration_quiet Dialect.Sqlite path e all = elim (has_flags e) as (λ flags. IsQuiet (cond flags (sqlite_flags_text table path (members_in e)) (sqlite_member_text table path (members_in e)))) [
    | true ↦ λ depth.
        both (outside depth) (outside (suc (suc (suc depth)))) (outside depth) (codes "(WITH RECURSIVE w(n, i, a) AS (SELECT 0, 0, '[\"' || replace(") ((value_text Dialect.Sqlite table path) ++ ((codes ", ',', '\",\"') || '\"]' UNION ALL SELECT n | (SELECT ") ++ ((piece_number_text (members_in e)) ++ flags_end))) refl
        (both (outside (suc (suc (suc depth)))) (outside (suc (suc (suc depth)))) (outside depth) (value_text Dialect.Sqlite table path) ((codes ", ',', '\",\"') || '\"]' UNION ALL SELECT n | (SELECT ") ++ ((piece_number_text (members_in e)) ++ flags_end)) (value_quiet Dialect.Sqlite path (suc (suc (suc depth))))
        (both (outside (suc (suc (suc depth)))) (outside (suc (suc (suc depth)))) (outside depth) (codes ", ',', '\",\"') || '\"]' UNION ALL SELECT n | (SELECT ") ((piece_number_text (members_in e)) ++ flags_end) refl
        (both (outside (suc (suc (suc depth)))) (outside (suc (suc (suc depth)))) (outside depth) (piece_number_text (members_in e)) flags_end (piece_number_quiet (members_in e) all (suc (suc (suc depth))))
        refl)))
    | false ↦ λ depth.
        both (outside depth) (outside (suc depth)) (outside depth) (codes "(SELECT ") ((piece_number_text (members_in e)) ++ ((codes " FROM (SELECT trim(") ++ ((value_text Dialect.Sqlite table path) ++ (codes ", ' ') AS p))")))) refl
        (both (outside (suc depth)) (outside (suc depth)) (outside depth) (piece_number_text (members_in e)) ((codes " FROM (SELECT trim(") ++ ((value_text Dialect.Sqlite table path) ++ (codes ", ' ') AS p))"))) (piece_number_quiet (members_in e) all (suc depth))
        (both (outside (suc depth)) (outside (suc (suc (suc depth)))) (outside depth) (codes " FROM (SELECT trim(") ((value_text Dialect.Sqlite table path) ++ (codes ", ' ') AS p))")) refl
        (both (outside (suc (suc (suc depth)))) (outside (suc (suc (suc depth)))) (outside depth) (value_text Dialect.Sqlite table path) (codes ", ' ') AS p))")
        (value_quiet Dialect.Sqlite path (suc (suc (suc depth)))) refl)))
  ]

  pub field_quiet : (dialect : Dialect) (path : Path) (type : FieldType) → IsQuiet (field_text dialect table path type)
  field_quiet dialect path (FieldType.Prim type) = primitive_quiet dialect path type
  field_quiet dialect path (FieldType.Enum id) = enumeration_quiet dialect path (enumeration_at table.schema id) (plain.members id)

-- ---- leaves that name nothing

postgres_type_quiet : (type : SqlType) → IsQuiet (postgres_type type)
postgres_type_quiet SqlType.Truth = λ depth. refl
postgres_type_quiet SqlType.Whole = λ depth. refl
postgres_type_quiet SqlType.Text = λ depth. refl
postgres_type_quiet SqlType.Date = λ depth. refl
postgres_type_quiet SqlType.Moment = λ depth. refl
postgres_type_quiet SqlType.Instant = λ depth. refl
postgres_type_quiet SqlType.Guid = λ depth. refl
postgres_type_quiet SqlType.Member = λ depth. refl

pub parameter_quiet : (dialect : Dialect) (place : ℕ) (type : SqlType) → IsQuiet (parameter_text dialect place type)
parameter_quiet Dialect.PostgreSql place type =
    quiet_both (codes "$") (decimal (place + 1) ++ (codes "::" ++ postgres_type type)) (λ depth. refl)
    (quiet_both (decimal (place + 1)) (codes "::" ++ postgres_type type) (decimal_quiet (place + 1)) (quiet_both (codes "::") (postgres_type type) (λ depth. refl) (postgres_type_quiet type)))
parameter_quiet Dialect.Sqlite place type = quiet_both (codes "?") (decimal (place + 1)) (λ depth. refl) (decimal_quiet (place + 1))

pub null_quiet : (dialect : Dialect) (type : SqlType) → IsQuiet (null_text dialect type)
null_quiet Dialect.PostgreSql type = quiet_both (codes "NULL::") (postgres_type type) (λ depth. refl) (postgres_type_quiet type)
null_quiet Dialect.Sqlite type = λ depth. refl

pub truth_quiet : (value : Bool) → IsQuiet (truth_text value)
truth_quiet true = λ depth. refl
truth_quiet false = λ depth. refl

pub number_quiet : (value : Digit) → IsQuiet (number_text value)
number_quiet Digit.Zero = λ depth. refl
number_quiet Digit.One = λ depth. refl
number_quiet Digit.Two = λ depth. refl
number_quiet Digit.Three = λ depth. refl
number_quiet Digit.Seven = λ depth. refl

pub fault_quiet : (dialect : Dialect) (carrier : Carrier) (fault : ArithFault) → IsQuiet (fault_text dialect carrier fault)
fault_quiet Dialect.PostgreSql Carrier.Number ArithFault.Overflow = λ depth. refl
fault_quiet Dialect.PostgreSql Carrier.Number ArithFault.DivideByZero = λ depth. refl
fault_quiet Dialect.PostgreSql Carrier.Text ArithFault.Overflow = λ depth. refl
fault_quiet Dialect.PostgreSql Carrier.Text ArithFault.DivideByZero = λ depth. refl
fault_quiet Dialect.Sqlite Carrier.Number ArithFault.Overflow = λ depth. refl
fault_quiet Dialect.Sqlite Carrier.Number ArithFault.DivideByZero = λ depth. refl
fault_quiet Dialect.Sqlite Carrier.Text ArithFault.Overflow = λ depth. refl
fault_quiet Dialect.Sqlite Carrier.Text ArithFault.DivideByZero = λ depth. refl
