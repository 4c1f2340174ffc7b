-- The sides of `has` may be put as values.
use Rattle.sql_outcomes.proofs.Common.{◌≡◌, ◌⊎◌, ◌+◌, ◌∙◌, inl, inr, ℕ, List, Option, Some, sym, subst, IsSomeAnd, slice_get, ExprType, enumeration, null_type, single, SchemaModel, Slots, slots_of, type_name_at, Tree, node, quoted_text, expr_type, Scope, EdmType, ValueType, OneType, Filter, IsFilter, CheckedNode, NodeKind, found_there, Range, StandsIn, TypedIn, type_there, tree_found, SqlType, Operand, Source, Kind, kind_of_type, HasNumber, IsNodeOperand, IsPut, IsSideAt, IsSourceOf, BesideIn, only_part}
use Rattle.odata_syntax.specs.Tree.{has as flags}
use Rattle.odata_signatures.specs.HasTyped.{AreFlags}
use Rattle.odata_signatures.specs.QuotedNumber.{HasNumber as HasQuoted}
use Rattle.odata_ranges.proofs.Forms.{by_kind}
use Rattle.sql_outcomes.proofs.nodes.BinaryPlaces.{top_node}
use Rattle.sql_outcomes.proofs.nodes.ComparisonsAt.{same_node}
use Rattle.sql_outcomes.proofs.nodes.Sides.{IsEither, side_cases}

-- ---- types of flags

abbrev IsFlagType : ExprType → Type 0
IsFlagType null_type = Unit {0}
IsFlagType (single (enumeration name)) = Unit {0}
IsFlagType _ = ⊥

left_flags : (left right : ExprType) → AreFlags left right → IsFlagType left
left_flags null_type right are = tt
left_flags (single (enumeration name)) right are = tt
left_flags _ right are = absurd are

right_flags : (left right : ExprType) → AreFlags left right → IsFlagType right
right_flags left null_type are = tt
right_flags left (single (enumeration name)) are = tt
right_flags null_type _ are = absurd are
right_flags (single (enumeration name)) _ are = absurd are
right_flags _ _ are = absurd are

beside_flags : (slots : Slots) (left : ExprType) (quoted : Option (List ℕ)) → HasQuoted slots left quoted → IsFlagType left
beside_flags slots (single (enumeration name)) quoted number = tt
beside_flags slots null_type quoted number = tt
beside_flags slots _ quoted number = absurd number.1

no_structure : (schema : SchemaModel) (type : EdmType) → IsFlagType (expr_type schema type) → kind_of_type type ≡ Kind.Structured → ⊥
no_structure schema EdmType.Null flag is = cc
no_structure schema (EdmType.Single (ValueType.Enum id)) flag is = cc
no_structure schema _ flag is = flag

no_truth : (schema : SchemaModel) (type : EdmType) → IsFlagType (expr_type schema type) → kind_of_type type ≡ Kind.Value SqlType.Truth → ⊥
no_truth schema EdmType.Null flag is = cc
no_truth schema (EdmType.Single (ValueType.Enum id)) flag is = cc
no_truth schema _ flag is = flag

-- ---- operands

module _ (filter : Filter) (ranges : List Range) (operand : Operand) where
  flag_put : (at : ℕ) → operand.source ≡ Source.Node at → (is : IsNodeOperand filter ranges operand at) → IsFlagType (expr_type filter.schema is.node.edm_type) → IsPut filter ranges operand
  flag_put at source is flag = record {
    source = subst (IsSourceOf filter ranges operand) (sym source) is;
    valued = λ structured. no_structure filter.schema is.node.edm_type flag (sym is.kind ∙ structured);
    plain = λ truth. absurd (no_truth filter.schema is.node.edm_type flag (sym is.kind ∙ truth));
  }

  -- a number of an enumeration
  pub number_put : (number : ℕ) → operand.source ≡ Source.Number number → HasNumber filter number → operand.kind ≡ Kind.Value SqlType.Member → IsPut filter ranges operand
  number_put number source held kind = record {
    source = subst (IsSourceOf filter ranges operand) (sym source) held;
    valued = λ structured. (let e : Kind.Value SqlType.Member ≡ Kind.Structured = sym kind ∙ structured in absurd (cc));
    plain = λ truth. (let e : Kind.Value SqlType.Member ≡ Kind.Value SqlType.Truth = sym kind ∙ truth in absurd (cc));
  }

-- ---- nodes

module _ (filter : Filter) (right_filter : IsFilter filter) (types : OneType) (ranges : List Range) (place : ℕ) (found : CheckedNode) (at : slice_get filter.list.nodes place ≡ Some found) (left : Operand)
    (left_source : left.source ≡ Source.Node (place + 1)) (left_is : IsNodeOperand filter ranges left (place + 1)) where
  side_flag : (child : ℕ) (operand : Operand) (is : IsNodeOperand filter ranges operand child) → operand.source ≡ Source.Node child → (type : ExprType) → (top : CheckedNode) → slice_get filter.list.nodes child ≡ Some top
      → type ≡ expr_type filter.schema top.edm_type → IsFlagType type → IsPut filter ranges operand
  side_flag child operand is source type top top_at same flag =
      let own = same_node filter child top is.node top_at is.at in
      flag_put filter ranges operand child source is (subst (λ (n : CheckedNode). IsFlagType (expr_type filter.schema n.edm_type)) own (subst IsFlagType same flag))

  pub record FlagsPutBoth (right : Operand) : Type 0 where
    pub left_put : IsPut filter ranges left
    pub right_put : IsPut filter ranges right

  module _ (second : ℕ) (right : Operand) (scope : Scope) (a b : Tree) (first : CheckedNode) (first_at : slice_get filter.list.nodes (place + 1) ≡ Some first)
      (first_typed : TypedIn filter scope a (expr_type filter.schema first.edm_type)) where
    left_by : (type : ExprType) → TypedIn filter scope a type → IsFlagType type → IsPut filter ranges left
    left_by type typed flag =
        side_flag (place + 1) left left_is left_source type first first_at
        (types (slots_of filter.schema) (type_name_at filter.schema filter.filtered) scope a type (expr_type filter.schema first.edm_type) typed first_typed) flag

    -- a number that is read, or another node of flags
    both_put : (l r : ExprType) → TypedIn filter scope a l → TypedIn filter scope b r → AreFlags l r ⊎ HasQuoted (slots_of filter.schema) l (quoted_text b) → (stop : ℕ)
        → IsEither filter ranges scope (TypedIn filter scope a) b second stop right → FlagsPutBoth right
    both_put l r l_typed r_typed makes stop (inl read) = record {
      left_put = left_by read.reads.type_of read.reads.beside (beside_flags (slots_of filter.schema) read.reads.type_of (quoted_text b) (read.number, read.reads.number));
      right_put = number_put filter ranges right read.is.value read.is.source read.is.read.has read.is.kind;
    }
    both_put l r l_typed r_typed (inl both) stop (inr alone) =
        let last = top_node filter scope second stop b alone.stands in
        let right_type = types (slots_of filter.schema) (type_name_at filter.schema filter.filtered) scope b r (expr_type filter.schema last.found.edm_type) r_typed last.typed in
        record {
          left_put = left_by l l_typed (left_flags l r both);
          right_put = side_flag second right alone.is.is alone.is.source r last.found last.at right_type (right_flags l r both);
        }
    both_put l r l_typed r_typed (inr number) stop (inr alone) = absurd (alone.none number.0 (record { type_of = l; beside = l_typed; number = number.1 }))

  pub flag_sides : found.kind ≡ NodeKind.Has → (second : ℕ) (right : Operand) → IsSideAt filter ranges second right → IsSomeAnd (slice_get filter.list.nodes (place + 1)) (λ n. n.stop ≡ second) → FlagsPutBoth right
  flag_sides is second right right_is stops =
      let there = tree_found filter right_filter place found at NodeKind.Has tt is in
      by_kind filter there.scope place found at NodeKind.Has is (λ s t. StandsIn filter there.scope place s t → FlagsPutBoth right)
      (λ a b s from to stands again.
      let middle : ℕ = stands.children.middle in
      let typed = type_there filter there.scope place found at s (node from to (flags a b)) stands in
      let first = top_node filter there.scope (place + 1) middle a stands.children.left in
      let reported : first.found.stop ≡ second = found_there (λ (n : CheckedNode). n.stop ≡ second) (slice_get filter.list.nodes (place + 1)) first.found first.at stops in
      let is_second : middle ≡ second = sym first.stops ∙ reported in
      let beside : BesideIn filter there.scope (TypedIn filter there.scope a) b second s =
      subst (λ (k : ℕ). BesideIn filter there.scope (TypedIn filter there.scope a) b k s) is_second
      (only_part (BesideIn filter there.scope (TypedIn filter there.scope a) b) middle s stands.children.right) in
      both_put second right there.scope a b first.found first.at first.typed typed.left typed.right typed.left_typed typed.right_typed typed.makes.0 s
      (side_cases filter ranges there.scope (TypedIn filter there.scope a) b second s right right_is beside))
      there.stop there.part there.stands there.stands
