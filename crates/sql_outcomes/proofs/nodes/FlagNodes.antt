-- What `has` evaluates to, by what its sides do.
use Rattle.sql_outcomes.proofs.Common.{◌≡◌, ◌+◌, ℕ, List, true, false, Some, refl, sym, subst, ◌∙◌, arith, IsSomeAnd, slice_get, IsMoment, Val, ExprType, slots_of, type_name_at, Tree, node, OneType, ReadsNumber, Typed, CheckedNode, NodeKind, scope_of, EndsOnceOnEntities, OperandGives, HasKind, some_there, After, Outcome, gives, overflow, divides_by_zero, Range, Operand, Source, FlagsHave, IsSideAt, OperandHas, SourceHas, IsQuietKind, AreRanges, IsAskedOf, OfPlace, Question, World, BesideIn, MeansOf, means_in, means_of, only_part, by_kind, stop_is, slice_get_within}
use Rattle.odata_syntax.specs.Tree.{has as flags}
use Rattle.odata_filter_operations.specs.HasGives.{HasGives}
use Rattle.sql_outcomes.proofs.nodes.InPathNodes.{at_place}
use Rattle.sql_outcomes.proofs.nodes.Sides.{OneNumber, side_cases, side_comes, side_operand}

-- ---- nodes that evaluate to values

module _ (question : Question) (ranges : List Range) (are : AreRanges question ranges) (place : ℕ) (kind : NodeKind) (plain : IsQuietKind kind) (here : HasKind question.filter.list place kind) where
  pub plain_value : (world : World) (o : Outcome) → IsAskedOf question world → OfPlace question.filter place world o → (v : Val) × (o ≡ gives v)
  plain_value world o seen has = by o refl
    where
      found : (n : CheckedNode) × ((slice_get question.filter.list.nodes place ≡ Some n) × (n.kind ≡ kind))
      found = some_there (λ (n : CheckedNode). n.kind ≡ kind) (slice_get question.filter.list.nodes place) here

      range : (r : Range) × (slice_get ranges place ≡ Some r)
      range =
          let inside = slice_get_within question.filter.list.nodes place found.0 found.1.0 in
          let many = are.count in
          at_place ranges place (omega (arith, inside, many))

      never : range.0.may_fault ≡ true → ⊥
      never faults =
          let no : range.0.may_fault ≡ false = are.plain place found.0 range.0 found.1.0 range.1 (subst IsQuietKind (sym found.1.1) plain) in
          let e : true ≡ false = sym faults ∙ no in
          absurd (cc)

      by : (q : Outcome) → o ≡ q → (v : Val) × (o ≡ gives v)
      by (gives v) same = (v, same)
      by overflow same = absurd (never (are.within place range.0 world overflow range.1 seen (subst (OfPlace question.filter place world) same has)))
      by divides_by_zero same = absurd (never (are.within place range.0 world divides_by_zero range.1 seen (subst (OfPlace question.filter place world) same has)))

-- what a value follows is a value
pub after_value : (First : Outcome → Type 0) (Goes : Val → Outcome → Type 0) (o : Outcome) (v : Val) → o ≡ gives v → After First Goes o → (w : Val) × First (gives w) × Goes w o
after_value First Goes o v value (gives w, (first, goes)) = (w, first, goes)
after_value First Goes o v value (overflow, (first, goes)) = let e : overflow ≡ gives v = sym goes ∙ value in absurd (cc)
after_value First Goes o v value (divides_by_zero, (first, goes)) = let e : divides_by_zero ≡ gives v = sym goes ∙ value in absurd (cc)

-- ---- nodes of flags

module _ (question : Question) (types : OneType) (one : OneNumber) (ranges : List Range) (are : AreRanges question ranges) (ends : EndsOnceOnEntities)
    (is_moment : IsMoment question.now.civil question.now.offset_minutes) (place : ℕ) (left right : Operand) (left_source : left.source ≡ Source.Node (place + 1)) where
  of_source : (operand : Operand) (at : ℕ) → operand.source ≡ Source.Node at → (world : World) (p : Outcome) → OfPlace question.filter at world p → OperandHas question.filter operand world p
  of_source operand at source world p has = subst (λ (s : Source). SourceHas question.filter s world p) (sym source) has

  module _ (world : World) (o : Outcome) (seen : IsAskedOf question world) where
    -- the types beside which a text on the right is read
    abbrev BesideOf : Tree → ExprType → Type 0
    BesideOf a = Typed (slots_of question.filter.schema) (type_name_at question.filter.schema question.filter.filtered) (scope_of world.environment) a

    -- the right side, by its number or its tree
    abbrev RightOf : Tree → Tree → Outcome → Type 0
    RightOf a b = OperandGives (ReadsNumber (slots_of question.filter.schema) (BesideOf a) b) (MeansOf question world seen b)

    both_sides : (a b : Tree) (from to : ℕ) → MeansOf question world seen (node from to (flags a b)) o → After (MeansOf question world seen a) (λ l. After (RightOf a b) (HasGives l)) o
    both_sides a b from to means = means

    pub flags_come : (second : ℕ) → IsSideAt question.filter ranges second right → IsSomeAnd (slice_get question.filter.list.nodes (place + 1)) (λ n. n.stop ≡ second)
        → HasKind question.filter.list place NodeKind.Has → OfPlace question.filter place world o → FlagsHave question.filter left right world o
    flags_come second right_is is_second here entire =
        by_kind question.filter.schema question.filter.filtered (scope_of world.environment) question.filter.list place NodeKind.Has here
        (λ stop tree. MeansOf question world seen tree o → FlagsHave question.filter left right world o)
        (λ a b stop from to stands means.
        let filter = question.filter in
        let scope = scope_of world.environment in
        let v = plain_value question ranges are place NodeKind.Has tt here world o seen entire in
        let middle : ℕ = stands.children.middle in
        let left_node = some_there (λ (n : CheckedNode). n.stop ≡ second) (slice_get filter.list.nodes (place + 1)) is_second in
        let stops : left_node.0.stop ≡ middle = stop_is filter.schema filter.filtered scope filter.list (place + 1) left_node.0 left_node.1.0 middle a stands.children.left in
        let beside : BesideIn filter scope (BesideOf a) b second stop =
        subst (λ (k : ℕ). BesideIn filter scope (BesideOf a) b k stop) (sym stops ∙ left_node.1.1) (only_part (BesideIn filter scope (BesideOf a) b) middle stop stands.children.right) in
        let either = side_cases filter ranges scope (BesideOf a) b second stop right right_is beside in
        let l = after_value (MeansOf question world seen a) (λ x. After (RightOf a b) (HasGives x)) o v.0 v.1 (both_sides a b from to means) in
        let r = after_value (RightOf a b) (HasGives l.0) o v.0 v.1 l.2 in
        let r_comes =
        side_comes question ranges are ends is_moment world seen one (BesideOf a)
        (λ s t p q. types (slots_of filter.schema) (type_name_at filter.schema filter.filtered) scope a s t p q) b second stop right either (gives r.0) r.1 in (
          l.0,
          r.0,
          of_source left (place + 1) left_source world (gives l.0) (a, record { stop = middle; stands = stands.children.left }, means_in question world seen a (gives l.0) l.1),
          side_operand filter ranges scope (BesideOf a) b second stop right either world (gives r.0) r_comes,
          r.2,
        ))
        entire.1.stop entire.0 entire.1.stands (means_of question world seen entire.0 o entire.2)
