-- A tree of the right shape can be written where what its nodes name is there.
use Rattle.std.proofs.Common.{◌≡◌, ◌+◌, ◌++◌, ◌∷◌, [], ℕ, zero, suc, List, Bool, Option, Some, None, length, refl, sym, ap, subst, ◌∙◌, arith}
use Rattle.std.specs.List.{AllByRecursion}
use Rattle.std.specs.Prelude.{IsSomeAnd, option_map, slice_get, unwrap_or}
use Rattle.odata_syntax.specs.declared.binary_operator.ArithmeticOperator.{ArithmeticOperator}
use Rattle.odata_syntax.specs.declared.node.Quantifier.{Quantifier}
use Rattle.edm_values.specs.declared.primitive.PrimitiveType.{PrimitiveType}
use Rattle.sql_tree.specs.FixedPieces.{PieceTexts, bits_pieces, carried_pieces, comparison_pieces, fault_code_pieces, fault_pieces, is_collated, plain_pieces, range_pieces, sameness_pieces, unfault_pieces, wide_pieces}
use Rattle.sql_tree.specs.FunctionPieces.{function_pieces}
use Rattle.sql_tree.specs.LeafText.{count_text, field_text, missing_text}
use Rattle.sql_tree.specs.NodePieces.{binding_pieces, exists_pieces, item_pieces, least_pieces, let_pieces, list_pieces, node_pieces, of_path, pieces_for_codes}
use Rattle.sql_tree.specs.PathText.{IsPathOf}
use Rattle.sql_tree.specs.TableDigits.{arity_of_table}
use Rattle.sql_tree.specs.TableModel.{TableModel}
use Rattle.sql_tree.specs.Term.{Term, Terms, term, no_terms, more_terms, nodes_of, nodes_of_all}
use Rattle.sql_tree.specs.TreeText.{AreWhole, IsWhole, NamesWhatIs}
use Rattle.sql_tree.specs.declared.dialect.Dialect.{Dialect}
use Rattle.sql_tree.specs.declared.look_up.LookUp.{LookUp}
use Rattle.sql_tree.specs.declared.sql_node.Carrier.{Carrier}
use Rattle.sql_tree.specs.declared.sql_node.SqlFunction.{SqlFunction}
use Rattle.sql_tree.specs.declared.sql_node.SqlNode.{SqlNode}
use Rattle.sql_tree.specs.declared.sql_node.SqlType.{SqlType}
use Rattle.sql_tree.specs.declared.json_path.Path.{Path}
use Rattle.sql_tree.specs.Shapes.{AreShaped, BindsSome, IsShaped, IsThere, arity, arity_of_function}

-- ---- how many pieces

-- where one, or two, stand before them
after_one : (n : ℕ) → suc (n + 1) ≡ suc n + 1
after_one n = omega arith

after_two : (n : ℕ) → suc (suc (n + 1)) ≡ suc n + 1 + 1
after_two n = omega arith

bindings_many : (dialect : Dialect) (first level more : ℕ) → length (binding_pieces dialect first level more) ≡ more + 1
bindings_many dialect first level zero = refl
bindings_many dialect first level (suc more) = ap suc (bindings_many dialect first (level + 1) more) ∙ after_one more

items_many : (more : ℕ) → length (item_pieces more) ≡ more + 1
items_many zero = refl
items_many (suc more) = ap suc (items_many more) ∙ after_one more

let_many : (dialect : Dialect) (level count : ℕ) → BindsSome (SqlNode.Let level count) → length (let_pieces dialect level count) ≡ count + 1 + 1
let_many dialect level zero some = absurd some
let_many dialect level (suc more) some = ap (λ (n : ℕ). suc (suc n)) (bindings_many dialect level level more) ∙ after_two more

list_many : (dialect : Dialect) (of_text : Bool) (count : ℕ) (type : SqlType) → BindsSome (SqlNode.Among count type) → length (list_pieces dialect of_text count) ≡ count + 1 + 1
list_many dialect of_text zero type some = absurd some
list_many dialect of_text (suc more) type some = ap (λ (n : ℕ). suc (suc n)) (items_many more) ∙ after_two more

-- of a path that is there
path_many : (paths : List Path) (place count : ℕ) (pieces : Path → PieceTexts) (P : Path → Type 0) → IsSomeAnd (slice_get paths place) P → ((path : Path) → length (pieces path) ≡ count)
    → length (of_path paths place pieces) ≡ count
path_many paths place count pieces P there many = by (slice_get paths place) there
  where
    by : (held : Option Path) → IsSomeAnd held P → length (unwrap_or (option_map pieces held) []) ≡ count
    by (Some path) there = many path
    by None there = absurd there

plain_many : (dialect : Dialect) (operator : ArithmeticOperator) → length (plain_pieces dialect operator) ≡ 3
plain_many Dialect.PostgreSql operator = refl
plain_many Dialect.Sqlite operator = refl

wide_many : (dialect : Dialect) (operator : ArithmeticOperator) → length (wide_pieces dialect operator) ≡ 3
wide_many Dialect.PostgreSql ArithmeticOperator.Div = refl
wide_many Dialect.PostgreSql ArithmeticOperator.Mod = refl
wide_many Dialect.PostgreSql operator = refl
wide_many Dialect.Sqlite operator = refl

range_many : (dialect : Dialect) (type : PrimitiveType) → length (range_pieces dialect type) ≡ 2
range_many Dialect.PostgreSql PrimitiveType.Int16 = refl
range_many Dialect.PostgreSql PrimitiveType.Int32 = refl
range_many Dialect.PostgreSql type = refl
range_many Dialect.Sqlite PrimitiveType.Int16 = refl
range_many Dialect.Sqlite PrimitiveType.Int32 = refl
range_many Dialect.Sqlite type = refl

same_many : (dialect : Dialect) (type : SqlType) → length (sameness_pieces dialect type) ≡ 3
same_many Dialect.PostgreSql SqlType.Whole = refl
same_many Dialect.PostgreSql type = refl
same_many Dialect.Sqlite type = refl

bits_many : (dialect : Dialect) → length (bits_pieces dialect) ≡ 3
bits_many Dialect.PostgreSql = refl
bits_many Dialect.Sqlite = refl

fault_code_many : (dialect : Dialect) (carrier : Carrier) → length (fault_code_pieces dialect carrier) ≡ 2
fault_code_many Dialect.PostgreSql Carrier.Number = refl
fault_code_many Dialect.PostgreSql Carrier.Text = refl
fault_code_many Dialect.Sqlite carrier = refl

fault_many : (dialect : Dialect) (carrier : Carrier) → length (fault_pieces dialect carrier) ≡ 2
fault_many Dialect.PostgreSql Carrier.Number = refl
fault_many Dialect.PostgreSql Carrier.Text = refl
fault_many Dialect.Sqlite carrier = refl

unfault_many : (dialect : Dialect) (carrier : Carrier) → length (unfault_pieces dialect carrier) ≡ 2
unfault_many Dialect.PostgreSql Carrier.Number = refl
unfault_many Dialect.PostgreSql Carrier.Text = refl
unfault_many Dialect.Sqlite carrier = refl

carried_many : (dialect : Dialect) (carrier : Carrier) → length (carried_pieces dialect carrier) ≡ 2
carried_many Dialect.PostgreSql Carrier.Number = refl
carried_many Dialect.PostgreSql Carrier.Text = refl
carried_many Dialect.Sqlite carrier = refl

function_many : (dialect : Dialect) (function : SqlFunction) → length (function_pieces dialect function) ≡ arity_of_function function + 1
function_many Dialect.PostgreSql SqlFunction.Contains = refl
function_many Dialect.PostgreSql function = refl
function_many Dialect.Sqlite SqlFunction.Contains = refl
function_many Dialect.Sqlite function = refl

table_many : (dialect : Dialect) (table : LookUp) → length (pieces_for_codes dialect table (arity_of_table table)) ≡ arity_of_table table + 1
table_many dialect LookUp.Not = refl
table_many dialect LookUp.IsNull = refl
table_many dialect LookUp.IsNotNull = refl
table_many dialect LookUp.Never = refl
table_many dialect table = refl

-- one more than it has children
pub pieces_many : (dialect : Dialect) (table : TableModel) (paths : List Path) (node : SqlNode) → BindsSome node → NamesWhatIs table paths node → length (node_pieces dialect table paths node) ≡ arity node + 1
pieces_many dialect table paths (SqlNode.Field path type) some names = path_many paths path 1 (λ (p : Path). field_text dialect table p type ∷ []) (IsPathOf table) names (λ p. refl)
pieces_many dialect table paths (SqlNode.IsMissing path) some names = path_many paths path 1 (λ (p : Path). missing_text dialect table p ∷ []) (IsPathOf table) names (λ p. refl)
pieces_many dialect table paths (SqlNode.Count path) some names = path_many paths path 1 (λ (p : Path). count_text dialect table p ∷ []) (IsPathOf table) names (λ p. refl)
pieces_many dialect table paths (SqlNode.Exists path level) some names = path_many paths path 2 (λ (p : Path). exists_pieces dialect table p level) (IsPathOf table) names (λ p. refl)
pieces_many dialect table paths (SqlNode.Least path level) some names = path_many paths path 2 (λ (p : Path). least_pieces dialect table p level) (IsPathOf table) names (λ p. refl)
pieces_many dialect table paths (SqlNode.Let level count) some names = let_many dialect level count some
pieces_many dialect table paths (SqlNode.Among count type) some names = list_many dialect (is_collated dialect type) count type some
pieces_many dialect table paths (SqlNode.LookUp looked) some names = table_many dialect looked
pieces_many dialect table paths (SqlNode.Plain operator) some names = plain_many dialect operator
pieces_many dialect table paths (SqlNode.Wide operator) some names = wide_many dialect operator
pieces_many dialect table paths (SqlNode.Within type) some names = range_many dialect type
pieces_many dialect table paths (SqlNode.Same type) some names = same_many dialect type
pieces_many dialect table paths SqlNode.Bits some names = bits_many dialect
pieces_many dialect table paths (SqlNode.FaultCode carrier) some names = fault_code_many dialect carrier
pieces_many dialect table paths (SqlNode.FaultOfCode carrier) some names = fault_many dialect carrier
pieces_many dialect table paths (SqlNode.Unfault carrier) some names = unfault_many dialect carrier
pieces_many dialect table paths (SqlNode.Carried carrier) some names = carried_many dialect carrier
pieces_many dialect table paths (SqlNode.Function function) some names = function_many dialect function
pieces_many dialect table paths node some names = refl

-- ---- so it can be written

all_front : (P : SqlNode → Type 0) (xs ys : List SqlNode) → AllByRecursion P (xs ++ ys) → AllByRecursion P xs × AllByRecursion P ys
all_front P [] ys all = (tt, all)
all_front P (x ∷ xs) ys all = let rest = all_front P xs ys all.1 in ((all.0, rest.0), rest.1)

module _ (dialect : Dialect) (table : TableModel) (paths : List Path) where
  mutual
    pub shaped_whole : (t : Term) → IsShaped t → AllByRecursion (IsThere table paths) (nodes_of t) → IsWhole dialect table paths t
    shaped_whole (term node children) shaped all = (
      pieces_many dialect table paths node all.0.2 all.0.0 ∙ ap (λ (n : ℕ). n + 1) (sym shaped.0),
      all.0.0,
      all.0.1,
      all_whole children shaped.1 all.1,
    )

    all_whole : (terms : Terms) → AreShaped terms → AllByRecursion (IsThere table paths) (nodes_of_all terms) → AreWhole dialect table paths terms
    all_whole no_terms shaped all = tt
    all_whole (more_terms first rest) shaped all =
        let parts = all_front (IsThere table paths) (nodes_of first) (nodes_of_all rest) all in
        (shaped_whole first shaped.0 parts.0, all_whole rest shaped.1 parts.1)
