-- The text of a tree leaves parentheses and quotes as they were.
use Rattle.std.proofs.Common.{◌≡◌, ◌∙◌, ℕ, zero, suc, ◌+◌, List, [], ◌∷◌, ◌++◌, Bool, Option, Some, None, length, slice_get, refl, sym, arith}
use Rattle.std.specs.Prelude.{IsSomeAnd, codes, option_map, unwrap_or}
use Rattle.std.specs.Fmt.{decimal}
use Rattle.odata_syntax.specs.declared.node.Quantifier.{Quantifier}
use Rattle.sql_tree.specs.FixedPieces.{PieceTexts, collation, is_collated}
use Rattle.sql_tree.specs.LeafText.{count_text, field_text, missing_text}
use Rattle.sql_tree.specs.NodePieces.{binding_pieces, decision_text, decisions_text, exists_pieces, item_pieces, least_pieces, let_end, let_pieces, list_pieces, name_of_bound, node_pieces, of_path}
use Rattle.sql_tree.specs.Parentheses.{AreBalanced, AreNamesPlain, outside, read}
use Rattle.sql_tree.specs.PathText.{IsPathOf, members_text}
use Rattle.sql_tree.specs.TableModel.{TableModel}
use Rattle.sql_tree.specs.Term.{Term, Terms, more_terms, no_terms, term}
use Rattle.sql_tree.specs.TreeText.{AreWhole, IsWhole, NamesWhatIs, count_of, text_of, woven}
use Rattle.sql_tree.specs.declared.dialect.Dialect.{Dialect}
use Rattle.sql_tree.specs.declared.sql_node.SqlNode.{SqlNode}
use Rattle.sql_tree.specs.declared.json_path.Path.{Path}
use Rattle.sql_tree.proofs.FixedReading.{bits_weaves, carried_weaves, collation_quiet, comparison_weaves, fault_code_weaves, fault_weaves, function_weaves, plain_weaves, range_weaves, sameness_weaves, table_weaves, unfault_weaves, wide_weaves}
use Rattle.sql_tree.proofs.PathReading.{column_quiet, count_quiet, fault_quiet, field_quiet, members_quiet, missing_quiet, null_quiet, number_quiet, parameter_quiet, truth_quiet}
use Rattle.sql_tree.proofs.Reading.{IsQuiet, Weaves, WeavesQuietly, both, decimal_quiet, quiet_both}

-- ---- pieces one after another

weave_more : (piece : List ℕ) (pieces : PieceTexts) (depth middle last : ℕ) → read (outside depth) piece ≡ outside middle → Weaves pieces middle last → Weaves (piece ∷ pieces) depth last
weave_more piece [] depth middle last one more = absurd more
weave_more piece (second ∷ pieces) depth middle last one more = (middle, one, more)

bound_quiet : (level : ℕ) → IsQuiet (name_of_bound level)
bound_quiet level = quiet_both (codes " AS b") (decimal level) (λ depth. refl) (decimal_quiet level)

let_end_closes : (dialect : Dialect) (level depth : ℕ) → read (outside (suc (suc depth))) (let_end dialect level) ≡ outside depth
let_end_closes Dialect.PostgreSql level depth =
    both (outside (suc (suc depth))) (outside (suc depth)) (outside depth) (codes " OFFSET 0) AS s") ((decimal level) ++ (codes ")")) refl
    (both (outside (suc depth)) (outside (suc depth)) (outside depth) (decimal level) (codes ")") (decimal_quiet level (suc depth)) refl)
let_end_closes Dialect.Sqlite level depth =
    both (outside (suc (suc depth))) (outside (suc depth)) (outside depth) (codes ") AS s") ((decimal level) ++ (codes ")")) refl
    (both (outside (suc depth)) (outside (suc depth)) (outside depth) (decimal level) (codes ")") (decimal_quiet level (suc depth)) refl)

bindings_weave : (dialect : Dialect) (first level more depth : ℕ) → Weaves (binding_pieces dialect first level more) (suc (suc depth)) depth
bindings_weave dialect first level zero depth =
    both (outside (suc (suc depth))) (outside (suc (suc depth))) (outside depth) (name_of_bound level) (let_end dialect first) (bound_quiet level (suc (suc depth))) (let_end_closes dialect first depth)
bindings_weave dialect first level (suc more) depth =
    weave_more (name_of_bound level ++ codes ", ") (binding_pieces dialect first (level + 1) more) (suc (suc depth)) (suc (suc depth)) depth
    (quiet_both (name_of_bound level) (codes ", ") (bound_quiet level) (λ d. refl) (suc (suc depth))) (bindings_weave dialect first (level + 1) more depth)

let_weaves : (dialect : Dialect) (level count : ℕ) → (length (let_pieces dialect level count) ≡ 0 → ⊥) → WeavesQuietly (let_pieces dialect level count)
let_weaves dialect level zero some = absurd (some refl)
let_weaves dialect level (suc more) some = λ depth.
    (suc depth, refl, weave_more (codes " FROM (SELECT ") (binding_pieces dialect level level more) (suc depth) (suc (suc depth)) depth refl (bindings_weave dialect level level more depth))

items_weave : (more depth : ℕ) → Weaves (item_pieces more) (suc (suc depth)) depth
items_weave zero depth = refl
items_weave (suc more) depth = weave_more (codes ", ") (item_pieces more) (suc (suc depth)) (suc (suc depth)) depth refl (items_weave more depth)

list_weaves : (dialect : Dialect) (collated : Bool) (count : ℕ) → (length (list_pieces dialect collated count) ≡ 0 → ⊥) → WeavesQuietly (list_pieces dialect collated count)
list_weaves dialect collated zero some = absurd (some refl)
list_weaves dialect collated (suc more) some = λ depth. (
  suc depth,
  refl,
  weave_more (collation dialect collated ++ codes " IN (") (item_pieces more) (suc depth) (suc (suc depth)) depth
      (both (outside (suc depth)) (outside (suc depth)) (outside (suc (suc depth))) (collation dialect collated) (codes " IN (") (collation_quiet dialect collated (suc depth)) refl)
      (items_weave more depth),
)

-- ---- members

decision_quiet : (dialect : Dialect) (level code decided : ℕ) → IsQuiet (decision_text dialect level code decided)
decision_quiet Dialect.PostgreSql level code decided = λ depth.
    both (outside depth) (outside depth) (outside depth) (codes " WHEN ") ((decimal code) ++ ((codes " THEN (m") ++ ((decimal level) ++ ((codes ".o - 1) * 8 + ") ++ (decimal decided))))) refl
    (both (outside depth) (outside depth) (outside depth) (decimal code) ((codes " THEN (m") ++ ((decimal level) ++ ((codes ".o - 1) * 8 + ") ++ (decimal decided)))) (decimal_quiet code depth)
    (both (outside depth) (outside (suc depth)) (outside depth) (codes " THEN (m") ((decimal level) ++ ((codes ".o - 1) * 8 + ") ++ (decimal decided))) refl
    (both (outside (suc depth)) (outside (suc depth)) (outside depth) (decimal level) ((codes ".o - 1) * 8 + ") ++ (decimal decided)) (decimal_quiet level (suc depth))
    (both (outside (suc depth)) (outside depth) (outside depth) (codes ".o - 1) * 8 + ") (decimal decided) refl (decimal_quiet decided depth)))))
decision_quiet Dialect.Sqlite level code decided =
    quiet_both (codes " WHEN ") ((decimal code) ++ ((codes " THEN m") ++ ((decimal level) ++ ((codes ".key * 8 + ") ++ (decimal decided))))) (λ depth. refl)
    (quiet_both (decimal code) ((codes " THEN m") ++ ((decimal level) ++ ((codes ".key * 8 + ") ++ (decimal decided)))) (decimal_quiet code)
    (quiet_both (codes " THEN m") ((decimal level) ++ ((codes ".key * 8 + ") ++ (decimal decided))) (λ depth. refl)
    (quiet_both (decimal level) ((codes ".key * 8 + ") ++ (decimal decided)) (decimal_quiet level) (quiet_both (codes ".key * 8 + ") (decimal decided) (λ depth. refl) (decimal_quiet decided)))))

decided_then : (dialect : Dialect) (level code decided depth : ℕ) (more : List ℕ) → read (outside (suc depth)) more ≡ outside depth
    → read (outside (suc depth)) (decision_text dialect level code decided ++ more) ≡ outside depth
decided_then dialect level code decided depth more closes =
    both (outside (suc depth)) (outside (suc depth)) (outside depth) (decision_text dialect level code decided) more (decision_quiet dialect level code decided (suc depth)) closes

decisions_close : (dialect : Dialect) (quantifier : Quantifier) (level depth : ℕ) → read (outside (suc depth)) (decisions_text dialect quantifier level) ≡ outside depth
decisions_close dialect Quantifier.Any level depth =
    decided_then dialect level 1 1 depth (decision_text dialect level 3 3 ++ (decision_text dialect level 4 4 ++ (codes " END)"))) (decided_then dialect level 3 3 depth (decision_text dialect level 4 4 ++ (codes " END)")) (decided_then dialect level 4 4 depth (codes " END)") refl))
decisions_close dialect Quantifier.All level depth =
    decided_then dialect level 0 0 depth (decision_text dialect level 2 0 ++ (decision_text dialect level 3 3 ++ (decision_text dialect level 4 4 ++ (codes " END)")))) (decided_then dialect level 2 0 depth (decision_text dialect level 3 3 ++ (decision_text dialect level 4 4 ++ (codes " END)"))) (decided_then dialect level 3 3 depth (decision_text dialect level 4 4 ++ (codes " END)")) (decided_then dialect level 4 4 depth (codes " END)") refl)))

-- ---- all nodes

-- what is written of a path that is there
path_weaves : (table : TableModel) (paths : List Path) (place : ℕ) (pieces : Path → PieceTexts) → ((path : Path) → WeavesQuietly (pieces path))
    → IsSomeAnd (slice_get paths place) (IsPathOf table) → WeavesQuietly (of_path paths place pieces)
path_weaves table paths place pieces weave there = by (slice_get paths place) there
  where
    by : (held : Option Path) → IsSomeAnd held (IsPathOf table) → WeavesQuietly (unwrap_or (option_map pieces held) [])
    by (Some path) there = weave path
    by None there = absurd there

no_pieces : (count : ℕ) → 0 ≡ count + 1 → ⊥
no_pieces count same = omega (arith, same)

module _ (dialect : Dialect) (table : TableModel) (plain : AreNamesPlain table) (paths : List Path) where
  node_weaves : (node : SqlNode) (count : ℕ) → length (node_pieces dialect table paths node) ≡ count + 1 → NamesWhatIs table paths node → WeavesQuietly (node_pieces dialect table paths node)
  node_weaves (SqlNode.Parameter place type) count many named = parameter_quiet dialect place type
  node_weaves (SqlNode.Null type) count many named = null_quiet dialect type
  node_weaves (SqlNode.Truth value) count many named = truth_quiet value
  node_weaves (SqlNode.Number value) count many named = number_quiet value
  node_weaves (SqlNode.Column slot) count many named = column_quiet table plain slot
  node_weaves (SqlNode.Field path type) count many named = path_weaves table paths path (λ p. field_text dialect table p type ∷ []) (λ p. field_quiet table plain dialect p type) named
  node_weaves (SqlNode.IsMissing path) count many named = path_weaves table paths path (λ p. missing_text dialect table p ∷ []) (λ p. missing_quiet table plain dialect p) named
  node_weaves (SqlNode.Count path) count many named = path_weaves table paths path (λ p. count_text dialect table p ∷ []) (λ p. count_quiet table plain dialect p) named
  node_weaves (SqlNode.Bound level) count many named = quiet_both (codes "b") (decimal level) (λ depth. refl) (decimal_quiet level)
  node_weaves (SqlNode.Fault carrier fault) count many named = fault_quiet dialect carrier fault
  node_weaves SqlNode.Not count many named = λ depth. (suc depth, refl, refl)
  node_weaves SqlNode.And count many named = λ depth. (suc depth, refl, (suc depth, refl, refl))
  node_weaves SqlNode.Or count many named = λ depth. (suc depth, refl, (suc depth, refl, refl))
  node_weaves SqlNode.IsTrue count many named = λ depth. (suc depth, refl, refl)
  node_weaves SqlNode.IsNull count many named = λ depth. (suc depth, refl, refl)
  node_weaves (SqlNode.Compare operator type) count many named = comparison_weaves dialect operator type
  node_weaves (SqlNode.Same type) count many named = sameness_weaves dialect type
  node_weaves SqlNode.TruthCode count many named = λ depth. (suc depth, refl, refl)
  node_weaves SqlNode.Case count many named = λ depth. (suc depth, refl, (suc depth, refl, (suc depth, refl, refl)))
  node_weaves SqlNode.Coalesce count many named = λ depth. (suc depth, refl, (suc depth, refl, refl))
  node_weaves (SqlNode.Plain operator) count many named = plain_weaves dialect operator
  node_weaves (SqlNode.Wide operator) count many named = wide_weaves dialect operator
  node_weaves (SqlNode.Within type) count many named = range_weaves dialect type
  node_weaves (SqlNode.FaultCode carrier) count many named = fault_code_weaves dialect carrier
  node_weaves (SqlNode.FaultOfCode carrier) count many named = fault_weaves dialect carrier
  node_weaves (SqlNode.Unfault carrier) count many named = unfault_weaves dialect carrier
  node_weaves (SqlNode.Carried carrier) count many named = carried_weaves dialect carrier
  node_weaves SqlNode.Bits count many named = bits_weaves dialect
  node_weaves SqlNode.HasBits count many named = λ depth. (suc (suc depth), refl, (suc (suc depth), refl, refl))
  node_weaves (SqlNode.Function function) count many named = function_weaves dialect function
  node_weaves (SqlNode.Among items type) count many named = list_weaves dialect (is_collated dialect type) items (λ none. no_pieces count (sym none ∙ many))
  node_weaves (SqlNode.Decided quantifier level) count many named = λ depth. (suc depth, refl, decisions_close dialect quantifier level depth)
  node_weaves (SqlNode.LookUp look_up) count many named = table_weaves dialect look_up
  node_weaves (SqlNode.Let level values) count many named = let_weaves dialect level values (λ none. no_pieces count (sym none ∙ many))
  node_weaves (SqlNode.Exists path level) count many named = path_weaves table paths path (λ p. exists_pieces dialect table p level)
      (λ p depth. (
        suc (suc depth),
        both (outside depth) (outside (suc (suc depth))) (outside (suc (suc depth))) (codes "(EXISTS (SELECT 1 FROM ") ((members_text dialect table p level) ++ (codes " WHERE ")) refl
            (both (outside (suc (suc depth))) (outside (suc (suc depth))) (outside (suc (suc depth))) (members_text dialect table p level) (codes " WHERE ")
            (members_quiet table plain dialect p level (suc (suc depth))) refl),
        refl,
      )) named
  node_weaves (SqlNode.Least path level) count many named = path_weaves table paths path (λ p. least_pieces dialect table p level)
      (λ p depth. (
        suc (suc depth),
        refl,
        both (outside (suc (suc depth))) (outside (suc depth)) (outside depth) (codes ") FROM ") ((members_text dialect table p level) ++ (codes ")")) refl
            (both (outside (suc depth)) (outside (suc depth)) (outside depth) (members_text dialect table p level) (codes ")") (members_quiet table plain dialect p level (suc depth)) refl),
      )) named

  mutual
    pub text_quiet : (t : Term) → IsWhole dialect table paths t → IsQuiet (text_of dialect table paths t)
    text_quiet (term node children) whole = λ depth.
        woven_quiet (node_pieces dialect table paths node) children whole.0 whole.3 depth depth (node_weaves node (count_of children) whole.0 whole.1 depth)

    woven_quiet : (pieces : PieceTexts) (children : Terms) → length pieces ≡ count_of children + 1 → AreWhole dialect table paths children → (depth last : ℕ) → Weaves pieces depth last
        → read (outside depth) (woven dialect table paths pieces children) ≡ outside last
    woven_quiet [] children many whole depth last weave = absurd weave
    woven_quiet (piece ∷ []) no_terms many whole depth last weave = weave
    woven_quiet (piece ∷ second ∷ pieces) no_terms many whole depth last weave = absurd (omega (arith, many))
    woven_quiet (piece ∷ []) (more_terms first rest) many whole depth last weave = absurd (omega (arith, many))
    woven_quiet (piece ∷ second ∷ pieces) (more_terms first rest) many whole depth last weave =
        both (outside depth) (outside weave.0) (outside last) piece (text_of dialect table paths first ++ woven dialect table paths (second ∷ pieces) rest) weave.1
        (both (outside weave.0) (outside weave.0) (outside last) (text_of dialect table paths first) (woven dialect table paths (second ∷ pieces) rest) (text_quiet first whole.0 weave.0)
        (woven_quiet (second ∷ pieces) rest (omega (arith, many)) whole.1 weave.0 last weave.2))

  pub balanced : (t : Term) → IsWhole dialect table paths t → AreBalanced (text_of dialect table paths t)
  balanced t whole = text_quiet t whole 0
