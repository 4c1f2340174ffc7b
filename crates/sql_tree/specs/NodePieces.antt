-- The pieces of each node's text: one before each child, and one at the end.
use Rattle.std.specs.Prelude.{ℕ, zero, suc, ◌+◌, List, [], ◌∷◌, ◌++◌, Bool, Option, Some, None, codes, option_map, slice_get, unwrap_or}
use Rattle.std.specs.Fmt.{decimal}
use Rattle.odata_syntax.specs.declared.node.Quantifier.{Quantifier}
use Rattle.sql_tree.specs.FixedPieces.{PieceTexts, among, around, between, bits_pieces, carried_pieces, collation, comparison_pieces, fault_code_pieces, fault_pieces, is_collated, plain_pieces, range_pieces, sameness_pieces, unfault_pieces, wide_pieces}
use Rattle.sql_tree.specs.FunctionPieces.{function_pieces}
use Rattle.sql_tree.specs.LeafText.{count_text, fault_text, field_text, missing_text, null_text, number_text, parameter_text, truth_text}
use Rattle.sql_tree.specs.PathText.{members_text}
use Rattle.sql_tree.specs.TableDigits.{arity_of_table, table_text}
use Rattle.sql_tree.specs.TableModel.{TableModel, column_text}
use Rattle.sql_tree.specs.declared.dialect.Dialect.{Dialect}
use Rattle.sql_tree.specs.declared.look_up.LookUp.{LookUp}
use Rattle.sql_tree.specs.declared.sql_node.SqlNode.{SqlNode}
use Rattle.sql_tree.specs.declared.json_path.Path.{Path}

-- ---- tables of codes

-- between a table and its offset: in PostgreSQL it is a text, and an offset in one is an integer of 32 bits
abbrev pub place_cast : Dialect → List ℕ
place_cast Dialect.PostgreSql = codes "::text, CAST("
place_cast Dialect.Sqlite = codes ", "

abbrev pub digit_end : Dialect → List ℕ
digit_end Dialect.PostgreSql = codes " + 1 AS integer), 1) AS integer)"
digit_end Dialect.Sqlite = codes " + 1, 1) AS integer)"

abbrev pub digit_start : Dialect → LookUp → List ℕ
digit_start dialect table = codes "CAST(substr('" ++ (table_text table ++ (codes "'" ++ place_cast dialect))

abbrev pub pieces_for_codes : Dialect → LookUp → ℕ → PieceTexts
pieces_for_codes dialect table (suc zero) = around (digit_start dialect table) (digit_end dialect)
pieces_for_codes dialect table arity =
    between (digit_start dialect table ++ codes "5 * ") (codes " + ") (digit_end dialect)

-- ---- bound values

-- in PostgreSQL an offset keeps the planner from putting the values instead of the body as often as it has them
abbrev pub let_end : Dialect → ℕ → List ℕ
let_end Dialect.PostgreSql level = codes " OFFSET 0) AS s" ++ (decimal level ++ codes ")")
let_end Dialect.Sqlite level = codes ") AS s" ++ (decimal level ++ codes ")")

abbrev pub name_of_bound : ℕ → List ℕ
name_of_bound level = codes " AS b" ++ decimal level

-- after the value of a level, with so many more to come
abbrev pub binding_pieces : Dialect → ℕ → ℕ → ℕ → PieceTexts
binding_pieces dialect first level zero = (name_of_bound level ++ let_end dialect first) ∷ []
binding_pieces dialect first level (suc more) =
    (name_of_bound level ++ codes ", ") ∷ binding_pieces dialect first (level + 1) more

-- the body, and the values that it is over, one at least
abbrev pub let_pieces : Dialect → ℕ → ℕ → PieceTexts
let_pieces dialect level zero = []
let_pieces dialect level (suc more) =
    codes "(SELECT " ∷ codes " FROM (SELECT " ∷ binding_pieces dialect level level more

-- ---- lists

-- after an item, with so many more to come
abbrev pub item_pieces : ℕ → PieceTexts
item_pieces zero = codes "))" ∷ []
item_pieces (suc more) = codes ", " ∷ item_pieces more

-- the left side, and the items, one at least
abbrev pub list_pieces : Dialect → Bool → ℕ → PieceTexts
list_pieces dialect collated zero = []
list_pieces dialect collated (suc more) = codes "(" ∷ (collation dialect collated ++ codes " IN (") ∷ item_pieces more

-- ---- members

abbrev pub exists_pieces : Dialect → TableModel → Path → ℕ → PieceTexts
exists_pieces dialect table path level =
    around (codes "(EXISTS (SELECT 1 FROM " ++ (members_text dialect table path level ++ codes " WHERE ")) (codes "))")

abbrev pub least_pieces : Dialect → TableModel → Path → ℕ → PieceTexts
least_pieces dialect table path level =
    around (codes "(SELECT min(") (codes ") FROM " ++ (members_text dialect table path level ++ codes ")"))

-- eight times the index of a member, counted from 0, and what is decided there
abbrev pub decision_text : Dialect → ℕ → ℕ → ℕ → List ℕ
decision_text Dialect.PostgreSql level code decided =
    codes " WHEN " ++ (decimal code ++ (codes " THEN (m" ++ (decimal level ++ (codes ".o - 1) * 8 + " ++ decimal decided))))
decision_text Dialect.Sqlite level code decided =
    codes " WHEN " ++ (decimal code ++ (codes " THEN m" ++ (decimal level ++ (codes ".key * 8 + " ++ decimal decided))))

abbrev pub decisions_text : Dialect → Quantifier → ℕ → List ℕ
decisions_text dialect Quantifier.Any level =
    decision_text dialect level 1 1 ++ (decision_text dialect level 3 3 ++ (decision_text dialect level 4 4 ++ codes " END)"))
decisions_text dialect Quantifier.All level =
    decision_text dialect level 0 0 ++ (decision_text dialect level 2 0
    ++ (decision_text dialect level 3 3 ++ (decision_text dialect level 4 4 ++ codes " END)")))

-- ---- all nodes

-- what is written of the path of a number
abbrev pub of_path : List Path → ℕ → (Path → PieceTexts) → PieceTexts
of_path paths place pieces = unwrap_or (option_map pieces (slice_get paths place)) []

-- of a node whose text depends on its kind alone
abbrev pub fixed_pieces : Dialect → SqlNode → Option PieceTexts
fixed_pieces dialect SqlNode.Not = Some (around (codes "(NOT ") (codes ")"))
fixed_pieces dialect SqlNode.And = Some (between (codes "(") (codes " AND ") (codes ")"))
fixed_pieces dialect SqlNode.Or = Some (between (codes "(") (codes " OR ") (codes ")"))
fixed_pieces dialect SqlNode.IsTrue = Some (around (codes "(") (codes " IS TRUE)"))
fixed_pieces dialect SqlNode.IsNull = Some (around (codes "(") (codes " IS NULL)"))
fixed_pieces dialect (SqlNode.Compare operator type) = Some (comparison_pieces dialect operator type)
fixed_pieces dialect (SqlNode.Same type) = Some (sameness_pieces dialect type)
fixed_pieces dialect SqlNode.TruthCode =
    Some (around (codes "(CASE ") (codes " WHEN TRUE THEN 1 WHEN FALSE THEN 0 ELSE 2 END)"))
fixed_pieces dialect SqlNode.Case =
    Some (among (codes "(CASE WHEN ") (codes " THEN ") (codes " ELSE ") (codes " END)"))
fixed_pieces dialect SqlNode.Coalesce = Some (between (codes "COALESCE(") (codes ", ") (codes ")"))
fixed_pieces dialect (SqlNode.Plain operator) = Some (plain_pieces dialect operator)
fixed_pieces dialect (SqlNode.Wide operator) = Some (wide_pieces dialect operator)
fixed_pieces dialect (SqlNode.Within type) = Some (range_pieces dialect type)
fixed_pieces dialect (SqlNode.FaultCode carrier) = Some (fault_code_pieces dialect carrier)
fixed_pieces dialect (SqlNode.FaultOfCode carrier) = Some (fault_pieces dialect carrier)
fixed_pieces dialect (SqlNode.Unfault carrier) = Some (unfault_pieces dialect carrier)
fixed_pieces dialect (SqlNode.Carried carrier) = Some (carried_pieces dialect carrier)
fixed_pieces dialect SqlNode.Bits = Some (bits_pieces dialect)
fixed_pieces dialect SqlNode.HasBits = Some (between (codes "((~ ") (codes " & ") (codes ") = 0)"))
fixed_pieces dialect (SqlNode.Function function) = Some (function_pieces dialect function)
fixed_pieces dialect node = None

-- of a node by what it names
abbrev pub named_pieces : Dialect → TableModel → List Path → SqlNode → PieceTexts
named_pieces dialect table paths (SqlNode.Parameter place type) = parameter_text dialect place type ∷ []
named_pieces dialect table paths (SqlNode.Null type) = null_text dialect type ∷ []
named_pieces dialect table paths (SqlNode.Truth value) = truth_text value ∷ []
named_pieces dialect table paths (SqlNode.Number value) = number_text value ∷ []
named_pieces dialect table paths (SqlNode.Column slot) = column_text table slot ∷ []
named_pieces dialect table paths (SqlNode.Field path type) =
    of_path paths path (λ p. field_text dialect table p type ∷ [])
named_pieces dialect table paths (SqlNode.IsMissing path) =
    of_path paths path (λ p. missing_text dialect table p ∷ [])
named_pieces dialect table paths (SqlNode.Count path) = of_path paths path (λ p. count_text dialect table p ∷ [])
named_pieces dialect table paths (SqlNode.Bound level) = (codes "b" ++ decimal level) ∷ []
named_pieces dialect table paths (SqlNode.Fault carrier fault) = fault_text dialect carrier fault ∷ []
named_pieces dialect table paths (SqlNode.Among count type) = list_pieces dialect (is_collated dialect type) count
named_pieces dialect table paths (SqlNode.Decided quantifier level) =
    around (codes "(CASE ") (decisions_text dialect quantifier level)
named_pieces dialect table paths (SqlNode.LookUp look_up) = pieces_for_codes dialect look_up (arity_of_table look_up)
named_pieces dialect table paths (SqlNode.Let level count) = let_pieces dialect level count
named_pieces dialect table paths (SqlNode.Exists path level) =
    of_path paths path (λ p. exists_pieces dialect table p level)
named_pieces dialect table paths (SqlNode.Least path level) =
    of_path paths path (λ p. least_pieces dialect table p level)
named_pieces dialect table paths node = []

abbrev pub node_pieces : Dialect → TableModel → List Path → SqlNode → PieceTexts
node_pieces dialect table paths node = unwrap_or (fixed_pieces dialect node) (named_pieces dialect table paths node)
