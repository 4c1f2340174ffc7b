-- An operator beside which no text is read: its sides stand there, and it evaluates to what they make.
use Rattle.std.proofs.Common.{◌≡◌, inl, inr, ◌+◌, ◌∷◌, [], ℕ, Some, sym, subst, ◌∙◌}
use Rattle.std.specs.Prelude.{slice_get}
use Rattle.csdl_schema.specs.ExprType.{ExprType}
use Rattle.csdl_schema.specs.SchemaModel.{SchemaModel, slots_of, type_name_at}
use Rattle.edm_entities.specs.Row.{value_of}
use Rattle.odata_checked_filter.specs.Filter.{Filter}
use Rattle.odata_checked_filter.specs.Stands.{ResolvedStands, InLine, Stands}
use Rattle.odata_checked_filter.specs.declared.checked_node.CheckedNode.{CheckedNode}
use Rattle.odata_checked_filter.specs.declared.checked_node.NodeKind.{NodeKind}
use Rattle.odata_meaning.specs.Environment.{scope_of}
use Rattle.odata_meaning.specs.Means.{Means}
use Rattle.odata_meaning.specs.OperatorGives.{SidesGive}
use Rattle.filter_context.specs.private.Place.{HasKind}
use Rattle.odata_signatures.specs.OperatorTyped.{IsEquality}
use Rattle.odata_signatures.specs.Reads.{OfEquality}
use Rattle.odata_signatures.specs.Typed.{Scope, Typed}
use Rattle.odata_filter_operations.specs.Outcome.{Outcome}
use Rattle.odata_syntax.specs.Tree.{Tree, binary, node}
use Rattle.odata_syntax.specs.declared.binary_operator.BinaryOperator.{BinaryOperator}
use Rattle.sql_draft.specs.World.{IsAskedOf, OfPlace, Question, World}
use Rattle.sql_draft.proofs.Leaves.{MeansIn}
use Rattle.sql_draft.proofs.Places.{by_kind, stop_is}
use Rattle.odata_meaning.proofs.meaning.UnreadAlone.{operands_alone}

module _ (question : Question) (world : World) (seen : IsAskedOf question world) where
  -- what a tree evaluates to by the filter's own schema
  abbrev pub MeansOf : Tree → Outcome → Type 0
  MeansOf = Means (slots_of question.filter.schema) (type_name_at question.filter.schema question.filter.filtered) world.now (value_of world.row) world.environment

  pub means_of : (tree : Tree) (o : Outcome) → MeansIn world tree o → MeansOf tree o
  means_of tree o means =
      subst (λ (n : ℕ). Means (slots_of question.filter.schema) (type_name_at question.filter.schema n) world.now (value_of world.row) world.environment tree o) seen.row_is.type_is
      (subst (λ (s : SchemaModel). Means (slots_of s) (type_name_at s world.row.type_id) world.now (value_of world.row) world.environment tree o) seen.row_is.schema_is means)

  pub means_in : (tree : Tree) (o : Outcome) → MeansOf tree o → MeansIn world tree o
  means_in tree o means =
      subst (λ (s : SchemaModel). Means (slots_of s) (type_name_at s world.row.type_id) world.now (value_of world.row) world.environment tree o) (sym seen.row_is.schema_is)
      (subst (λ (n : ℕ). Means (slots_of question.filter.schema) (type_name_at question.filter.schema n) world.now (value_of world.row) world.environment tree o) (sym seen.row_is.type_is) means)

-- the one part of a line
pub only_part : (Part : ℕ → ℕ → Type 0) (i j : ℕ) → InLine (Part ∷ []) i j → Part i j
only_part Part i j stand = let same : stand.middle ≡ j = stand.right in subst (λ (k : ℕ). Part i k) same stand.left

abbrev pub BesideIn : Filter → Scope → (ExprType → Type 0) → Tree → ℕ → ℕ → Type 0
BesideIn filter scope OtherSide tree =
    ResolvedStands filter.schema filter.filtered scope filter.list OtherSide tree (λ a b. Stands filter.schema filter.filtered scope filter.list a b tree)

-- beside an operator that is no equality the tree stands by itself
pub alone_side : (filter : Filter) (scope : Scope) (operator : BinaryOperator) → (IsEquality operator → ⊥) → (OtherSide : ExprType → Type 0) (tree : Tree) (i j : ℕ)
    → BesideIn filter scope (OfEquality operator OtherSide) tree i j → Stands filter.schema filter.filtered scope filter.list i j tree
alone_side filter scope operator unread OtherSide tree i j (inl read) = absurd (unread read.1.beside.0)
alone_side filter scope operator unread OtherSide tree i j (inr none) = none.1

-- the node there is the operator, beside which no text is read: both sides, and what it evaluates to by them
pub record BinaryComes (question : Question) (operator : BinaryOperator) (place second : ℕ) (world : World) (seen : IsAskedOf question world) (o : Outcome) : Type 0 where
  pub a : Tree
  pub b : Tree
  pub left_stop : ℕ
  pub right_stop : ℕ
  pub left_stands : Stands question.filter.schema question.filter.filtered (scope_of world.environment) question.filter.list (place + 1) left_stop a
  pub right_stands : Stands question.filter.schema question.filter.filtered (scope_of world.environment) question.filter.list second right_stop b
  pub from : ℕ
  pub to : ℕ
  pub stop : ℕ
  pub stands : Stands question.filter.schema question.filter.filtered (scope_of world.environment) question.filter.list place stop (node from to (binary operator a b))
  pub given : SidesGive operator
      (Typed (slots_of question.filter.schema) (type_name_at question.filter.schema question.filter.filtered) (scope_of world.environment) (node from to (binary operator a b)))
      (MeansOf question world seen a) (MeansOf question world seen b) o

module _ (question : Question) (operator : BinaryOperator) (unread : IsEquality operator → ⊥) (place second : ℕ) (here : HasKind question.filter.list place (NodeKind.Binary operator)) (left : CheckedNode)
    (left_at : slice_get question.filter.list.nodes (place + 1) ≡ Some left) (is_second : left.stop ≡ second) (world : World) (o : Outcome) (seen : IsAskedOf question world) where
  binary_there : (stop from to : ℕ) (a b : Tree) → Stands question.filter.schema question.filter.filtered (scope_of world.environment) question.filter.list place stop (node from to (binary operator a b))
      → MeansOf question world seen (node from to (binary operator a b)) o → BinaryComes question operator place second world seen o
  binary_there stop from to a b stands means =
      let schema = question.filter.schema in
      let n = question.filter.filtered in
      let scope = scope_of world.environment in
      let list = question.filter.list in
      let slots = slots_of schema in
      let root = type_name_at schema n in
      let middle = stands.children.middle in
      let first = alone_side question.filter scope operator unread (Typed slots root scope b) a (place + 1) middle stands.children.left in
      let next = alone_side question.filter scope operator unread (Typed slots root scope a) b middle stop
      (only_part (BesideIn question.filter scope (OfEquality operator (Typed slots root scope a)) b) middle stop stands.children.right) in
      let is_middle : left.stop ≡ middle = stop_is schema n scope list (place + 1) left left_at middle a first in
      record {
        a = a;
        b = b;
        left_stop = middle;
        right_stop = stop;
        left_stands = first;
        right_stands = subst (λ (k : ℕ). Stands schema n scope list k stop b) (sym is_middle ∙ is_second) next;
        from = from;
        to = to;
        stop = stop;
        stands = stands;
        given =
            (operands_alone slots root world.now (value_of world.row) world.environment from to operator a b o (λ number reads. unread reads.beside.0) (λ number reads. unread reads.beside.0)).0
            means;
      }

  pub binary_comes : OfPlace question.filter place world o → BinaryComes question operator place second world seen o
  binary_comes has =
      by_kind question.filter.schema question.filter.filtered (scope_of world.environment) question.filter.list place (NodeKind.Binary operator) here
      (λ stop tree. MeansOf question world seen tree o → BinaryComes question operator place second world seen o)
      (λ a b stop from to stands means. binary_there stop from to a b stands means)
      has.1.stop has.0 has.1.stands (means_of question world seen has.0 o has.2)
