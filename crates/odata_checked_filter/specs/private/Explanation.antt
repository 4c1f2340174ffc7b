-- For private clauses: how the explanation of a list grows by a line.
use Rattle.std.specs.Prelude.{◌≡◌, ℕ, ◌*◌, List, [], ◌∷◌, ◌++◌, Some, codes, filter, length, nat_lt, replicate, slice_get}
use Rattle.odata_syntax.specs.Lexeme.{quantifier_word}
use Rattle.csdl_schema.specs.SchemaModel.{SchemaModel}
use Rattle.odata_signatures.specs.Functions.{row_of}
use Rattle.odata_signatures.specs.declared.function.Function.{Function}
use Rattle.odata_checked_filter.specs.declared.checked_node.CheckedNode.{CheckedNode}
use Rattle.odata_checked_filter.specs.declared.checked_node.NodeKind.{NodeKind}
use Rattle.odata_checked_filter.specs.Explanation.{span_text}
use Rattle.odata_checked_filter.specs.FlatTree.{FlatTree}
use Rattle.odata_checked_filter.specs.TypeText.{type_text}
use Rattle.odata_checked_filter.specs.private.KindTexts.{kind_word}

-- what a node of a kind is called, by its text
abbrev pub kind_label : NodeKind → List ℕ → List ℕ
kind_label (NodeKind.Literal kind value) beside = codes "literal"
kind_label NodeKind.It beside = codes "$it"
kind_label (NodeKind.Property slot) beside = codes "property " ++ beside
kind_label (NodeKind.Variable level) beside = codes "variable " ++ beside
kind_label (NodeKind.Member slot) beside = codes "member " ++ beside
kind_label NodeKind.Count beside = codes "$count"
kind_label NodeKind.AnyItem beside = codes "any"
kind_label (NodeKind.Lambda quantifier) beside = (quantifier_word quantifier ++ 32 ∷ []) ++ beside
kind_label NodeKind.Neg beside = kind_word NodeKind.Neg
kind_label NodeKind.Not beside = kind_word NodeKind.Not
kind_label (NodeKind.Binary operator) beside = kind_word (NodeKind.Binary operator)
kind_label NodeKind.Has beside = kind_word NodeKind.Has
kind_label NodeKind.InList beside = kind_word NodeKind.InList
kind_label NodeKind.InPath beside = kind_word NodeKind.InPath
kind_label (NodeKind.Call function) beside = (row_of function).name
kind_label NodeKind.Now beside = (row_of Function.Now).name

-- the line of a node of the list
abbrev pub listed_line : SchemaModel → ℕ → CheckedNode → List ℕ → List ℕ
listed_line schema depth found beside =
    replicate (2 * depth) 32
    ++ (span_text found.span ++ (32 ∷ (kind_label found.kind beside ++ (32 ∷ type_text schema found.edm_type))))

-- of the nodes that stop there, those that stop after an index
abbrev pub still_around : ℕ → List ℕ → List ℕ
still_around place stops = filter (λ stop. nat_lt place stop) stops

-- the line of the node at the index was put after the text, and where it stops after what is still around it
pub record IsLinePut
    (schema : SchemaModel) (list : FlatTree) (place : ℕ) (old new : List ℕ) (before after : List ℕ) : Type 0 where
  pub found : CheckedNode
  pub beside : List ℕ
  pub at : slice_get list.nodes place ≡ Some found
  pub text_at : slice_get list.texts place ≡ Some beside
  pub around : new ≡ still_around place old ++ found.stop ∷ []
  pub text :
      after ≡ before ++ (listed_line schema (length (still_around place old)) found beside ++ 10 ∷ [])
