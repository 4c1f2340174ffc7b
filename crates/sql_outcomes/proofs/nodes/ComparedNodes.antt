-- What a comparison evaluates to, by what its sides do.
use Rattle.sql_outcomes.proofs.Common.{◌≡◌, ◌+◌, ◌∙◌, ℕ, List, sym, subst, IsSomeAnd, slice_get, IsMoment, ExprType, Slots, slots_of, type_name_at, Stands, CheckedNode, NodeKind, found_there, EndsOnceOnEntities, scope_of, OperatorGives, SidesGive, OperandGives, HasKind, OneType, OfEquality, ReadsNumber, Scope, Typed, CompareGives, After, Then, Outcome, gives, overflow, divides_by_zero, ComparisonOperator, Range, BinaryOperator, Tree, binary, node, Operand, FaultyHave, IsSideAt, AreRanges, IsAskedOf, OfPlace, Question, World, BesideIn, MeansOf, means_of, only_part, by_kind}
use Rattle.sql_outcomes.proofs.nodes.Sides.{OneNumber, beside_found, side_cases, side_comes, side_some}

-- two outcomes of sides, one after the other
pub record SidesCome (Left Right : Outcome → Type 0) (operator : ComparisonOperator) (o : Outcome) : Type 0 where
  pub left_outcome : Outcome
  pub right_outcome : Outcome
  pub left_has : Left left_outcome
  pub right_has : Right right_outcome
  pub given : Then left_outcome (λ l. Then right_outcome (CompareGives operator l)) o

-- the right side evaluates to something where the left one is a fault
pub sides_come : (Left Right : Outcome → Type 0) (operator : ComparisonOperator) (o : Outcome) → (r : Outcome) × Right r → After Left (λ l. After Right (CompareGives operator l)) o
    → SidesCome Left Right operator o
sides_come Left Right operator o right (gives l, (left, (r, (has, given)))) = record { left_outcome = gives l; right_outcome = r; left_has = left; right_has = has; given = given }
sides_come Left Right operator o right (overflow, (left, is)) = record { left_outcome = overflow; right_outcome = right.0; left_has = left; right_has = right.1; given = is }
sides_come Left Right operator o right (divides_by_zero, (left, is)) = record { left_outcome = divides_by_zero; right_outcome = right.0; left_has = left; right_has = right.1; given = is }

module _ (question : Question) (ranges : List Range) (are : AreRanges question ranges) (ends : EndsOnceOnEntities) (is_moment : IsMoment question.now.civil question.now.offset_minutes) (types : OneType)
    (one : OneNumber) (operator : BinaryOperator) (comparison : ComparisonOperator) (class_is : operator ≡ BinaryOperator.Comparison comparison) (place second : ℕ)
    (here : HasKind question.filter.list place (NodeKind.Binary operator)) (left right : Operand) (left_is : IsSideAt question.filter ranges (place + 1) left)
    (right_is : IsSideAt question.filter ranges second right) (is_second : IsSomeAnd (slice_get question.filter.list.nodes (place + 1)) (λ n. n.stop ≡ second)) where
  module _ (world : World) (o : Outcome) (seen : IsAskedOf question world) where
    abbrev slots : Slots
    slots = slots_of question.filter.schema

    abbrev root : List ℕ
    root = type_name_at question.filter.schema question.filter.filtered

    abbrev scope : Scope
    scope = scope_of world.environment

    -- the types beside which a literal on the other side is read
    abbrev BesideOf : Tree → ExprType → Type 0
    BesideOf tree = OfEquality operator (Typed slots root scope tree)

    one_type : (tree : Tree) (s t : ExprType) → BesideOf tree s → BesideOf tree t → s ≡ t
    one_type tree s t p q = types slots root scope tree s t p.1 q.1

    -- a side, by its number or by its tree
    abbrev SideOf : Tree → Tree → Outcome → Type 0
    SideOf tree other = OperandGives (ReadsNumber slots (BesideOf other) tree) (MeansOf question world seen tree)

    by_class : (NodeTyped : ExprType → Type 0) (Left Right : Outcome → Type 0) → SidesGive operator NodeTyped Left Right o → After Left (λ l. After Right (CompareGives comparison l)) o
    by_class NodeTyped Left Right given = subst (λ (c : BinaryOperator). After Left (λ l. OperatorGives c NodeTyped l Right) o) class_is given

    compares : (a b : Tree) (from to : ℕ) → MeansOf question world seen (node from to (binary operator a b)) o → After (SideOf a b) (λ l. After (SideOf b a) (CompareGives comparison l)) o
    compares a b from to means =
        let NodeTyped : ExprType → Type 0 = Typed slots root scope (node from to (binary operator a b)) in
        by_class NodeTyped (SideOf a b) (SideOf b a) means

    there : (stop from to : ℕ) (a b : Tree) → Stands question.filter.schema question.filter.filtered scope question.filter.list place stop (node from to (binary operator a b))
        → MeansOf question world seen (node from to (binary operator a b)) o → FaultyHave question.filter comparison left right world o
    there stop from to a b stands means =
        let filter = question.filter in
        let middle : ℕ = stands.children.middle in
        let first = beside_found filter scope (BesideOf b) a (place + 1) middle stands.children.left in
        let reported : first.found.stop ≡ second = found_there (λ (n : CheckedNode). n.stop ≡ second) (slice_get filter.list.nodes (place + 1)) first.found first.at is_second in
        let is_middle : middle ≡ second = sym first.stops ∙ reported in
        let beside_right : BesideIn filter scope (BesideOf a) b second stop =
        subst (λ (k : ℕ). BesideIn filter scope (BesideOf a) b k stop) is_middle (only_part (BesideIn filter scope (BesideOf a) b) middle stop stands.children.right) in
        let left_case = side_cases filter ranges scope (BesideOf b) a (place + 1) middle left left_is stands.children.left in
        let right_case = side_cases filter ranges scope (BesideOf a) b second stop right right_is beside_right in
        let s =
        sides_come (SideOf a b) (SideOf b a) comparison o (side_some question ranges are ends is_moment world seen one (BesideOf a) (one_type a) b second stop right right_case)
        (compares a b from to means) in
        let l = side_comes question ranges are ends is_moment world seen one (BesideOf b) (one_type b) a (place + 1) middle left left_case s.left_outcome s.left_has in
        let r = side_comes question ranges are ends is_moment world seen one (BesideOf a) (one_type a) b second stop right right_case s.right_outcome s.right_has in
        record {
          left_outcome = s.left_outcome;
          right_outcome = s.right_outcome;
          left_has = l.has;
          right_has = r.has;
          left_fits = l.fits;
          right_fits = r.fits;
          left_plain = l.plain;
          right_plain = r.plain;
          given = s.given;
        }

    -- the comparison evaluates to what its sides make
    pub compared_node : OfPlace question.filter place world o → FaultyHave question.filter comparison left right world o
    compared_node has =
        by_kind question.filter.schema question.filter.filtered scope question.filter.list place (NodeKind.Binary operator) here
        (λ stop tree. MeansOf question world seen tree o → FaultyHave question.filter comparison left right world o)
        (λ a b stop from to stands means. there stop from to a b stands means)
        has.1.stop has.0 has.1.stands (means_of question world seen has.0 o has.2)
