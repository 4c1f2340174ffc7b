-- Operands of a `Let`, as its body has them: what holds of them outside holds there.
use Rattle.sql_forms.proofs.Common.{◌≡◌, ◌∷◌, [], ℕ, List, Some, length, sym, ap, subst, ◌∙◌, AllByRecursion, All, slice_get, Filter, Range, SqlType, Lifted, Operand, Kind, AreAlike, IsLifted, bound_operand, chosen, within_let, IsPut, refl, AreCompared, IsTested, ◌≢◌, IsFaulty, AreBeside}
use Rattle.sql_outcomes.proofs.outcomes.Elements.{at_all}
use Rattle.sql_outcomes.proofs.outcomes.LiftedOperands.{within_length, each, all_within, all_chosen, put_bound}
use Rattle.sql_outcomes.proofs.outcomes.LiftedFaults.{inner_at}
use Rattle.sql_outcomes.proofs.outcomes.TestedBoth.{all_tested, all_may, plain_faulty, untrue_tested}

pub inner_length : (operands : List Operand) (level : ℕ) (lifted : Lifted) → IsLifted operands level lifted → length lifted.inner.items ≡ length operands
inner_length operands level lifted is = ap length is.inner ∙ within_length level is.choices operands is.are

module _ (P : Operand → Type 0) where
  module _ (of_bound : (level : ℕ) (operand : Operand) → P operand → P (bound_operand level operand)) where
    -- of an operand of the body
    pub holds_in : (operands : List Operand) (level : ℕ) (lifted : Lifted) (n : ℕ) (x : Operand) → IsLifted operands level lifted → AllByRecursion P operands → slice_get lifted.inner.items n ≡ Some x → P x
    holds_in operands level lifted n x is all at =
        at_all P (within_let level is.choices operands) n x (all_within P of_bound level is.choices operands is.are all) (subst (λ (xs : List Operand). slice_get xs n ≡ Some x) is.inner at)

    -- of all of them
    pub holds_inside : (operands : List Operand) (level : ℕ) (lifted : Lifted) → IsLifted operands level lifted → AllByRecursion P operands → All P lifted.inner.items
    holds_inside operands level lifted is all = subst (All P) (sym is.inner) (each P (within_let level is.choices operands) (all_within P of_bound level is.choices operands is.are all))

  -- of those that are bound
  pub holds_of_bound : (operands : List Operand) (level : ℕ) (lifted : Lifted) → IsLifted operands level lifted → AllByRecursion P operands → All P lifted.bound.items
  holds_of_bound operands level lifted is all = subst (All P) (sym is.bound) (each P (chosen is.choices operands) (all_chosen P is.choices operands is.are all))

-- ---- operands that are put

module _ (filter : Filter) (ranges : List Range) where
  pub put_in : (left right : Operand) (level : ℕ) (lifted : Lifted) (n : ℕ) (x : Operand) → IsLifted (left ∷ right ∷ []) level lifted → IsPut filter ranges left → IsPut filter ranges right
      → slice_get lifted.inner.items n ≡ Some x → IsPut filter ranges x
  put_in left right level lifted n x is left_put right_put at = holds_in (IsPut filter ranges) (put_bound filter ranges) (left ∷ right ∷ []) level lifted n x is (left_put, (right_put, tt)) at

  pub all_put : (left right : Operand) (level : ℕ) (lifted : Lifted) → IsLifted (left ∷ right ∷ []) level lifted → IsPut filter ranges left → IsPut filter ranges right
      → All (IsPut filter ranges) lifted.bound.items
  all_put left right level lifted is left_put right_put = holds_of_bound (IsPut filter ranges) (left ∷ right ∷ []) level lifted is (left_put, (right_put, tt))

-- ---- kinds

pub kind_in : (left right : Operand) (type : SqlType) (level : ℕ) (lifted : Lifted) (n : ℕ) (x : Operand) → IsLifted (left ∷ right ∷ []) level lifted → left.kind ≡ Kind.Value type → right.kind ≡ Kind.Value type
    → slice_get lifted.inner.items n ≡ Some x → x.kind ≡ Kind.Value type
kind_in left right type level lifted n x is left_is right_is at =
    holds_in (λ (operand : Operand). operand.kind ≡ Kind.Value type) (λ k operand same. same) (left ∷ right ∷ []) level lifted n x is (left_is, (right_is, tt)) at

pub alike_in : (left right first second : Operand) (level : ℕ) (lifted : Lifted) → IsLifted (left ∷ right ∷ []) level lifted → AreAlike left.kind right.kind → slice_get lifted.inner.items 0 ≡ Some first
    → slice_get lifted.inner.items 1 ≡ Some second → AreAlike first.kind second.kind
alike_in left right first second level lifted is alike at_first at_second = record {
  type_of = alike.type_of;
  left_is = kind_in left right alike.type_of level lifted 0 first is alike.left_is alike.right_is at_first;
  right_is = kind_in left right alike.type_of level lifted 1 second is alike.left_is alike.right_is at_second;
}

module _ (filter : Filter) (ranges : List Range) where
  -- one of those that the body has
  pub tested_inside_let : (operands : List Operand) (depth : ℕ) (lifted : Lifted) → IsLifted operands depth lifted → AllByRecursion (IsTested filter ranges) operands → (n : ℕ) (x : Operand)
      → slice_get lifted.inner.items n ≡ Some x → IsTested filter ranges x
  tested_inside_let operands depth lifted is tested n x at =
      at_all (IsTested filter ranges) (within_let depth is.choices operands) n x (all_tested filter ranges is.choices operands depth is.are is.valued tested) (subst (λ (xs : List Operand). slice_get xs n ≡ Some x) is.inner at)

  pub bound_may_be_put : (operands : List Operand) (depth : ℕ) (lifted : Lifted) → IsLifted operands depth lifted → AllByRecursion (IsTested filter ranges) operands → All (IsPut filter ranges) lifted.bound.items
  bound_may_be_put operands depth lifted is tested =
      subst (All (IsPut filter ranges)) (sym is.bound) (each (IsPut filter ranges) (chosen is.choices operands) (all_may filter ranges is.choices operands is.are is.valued tested))

-- ---- kinds are kept

pub kind_inside_let : (operands : List Operand) (depth : ℕ) (lifted : Lifted) → IsLifted operands depth lifted → (n : ℕ) (x y : Operand) → slice_get operands n ≡ Some x → slice_get lifted.inner.items n ≡ Some y → y.kind ≡ x.kind
kind_inside_let operands depth lifted is n x y at inside =
    (inner_at is.choices operands depth is.are n x y at (subst (λ (xs : List Operand). slice_get xs n ≡ Some y) is.inner inside)).kind

pub compared_inside_let : (left right first second : Operand) (depth : ℕ) (lifted : Lifted) → IsLifted (left ∷ right ∷ []) depth lifted → slice_get lifted.inner.items 0 ≡ Some first → slice_get lifted.inner.items 1 ≡ Some second
    → AreCompared left.kind right.kind → AreCompared first.kind second.kind
compared_inside_let left right first second depth lifted is at_first at_second compared =
    let one = kind_inside_let (left ∷ right ∷ []) depth lifted is 0 left first refl at_first in
    let two = kind_inside_let (left ∷ right ∷ []) depth lifted is 1 right second refl at_second in
    subst (λ (k : Kind). AreCompared k second.kind) (sym one) (subst (λ (k : Kind). AreCompared left.kind k) (sym two) compared)

module _ (filter : Filter) (ranges : List Range) (left first : Operand) (type : SqlType) (is : left.kind ≡ Kind.Value type) where
  pub tested_first : (lifted : Lifted) (depth : ℕ) → (is_lifted : IsLifted (left ∷ []) depth lifted) → slice_get lifted.inner.items 0 ≡ Some first → IsTested filter ranges left → IsTested filter ranges first
  tested_first lifted depth is_lifted at tested = tested_inside_let filter ranges (left ∷ []) depth lifted is_lifted (tested, tt) 0 first at

  pub kind_first : (lifted : Lifted) (depth : ℕ) → (is_lifted : IsLifted (left ∷ []) depth lifted) → slice_get lifted.inner.items 0 ≡ Some first → first.kind ≡ left.kind
  kind_first lifted depth is_lifted at = kind_inside_let (left ∷ []) depth lifted is_lifted 0 left first refl at

  -- beside the same items
  pub beside_first : (items : List Operand) (lifted : Lifted) (depth : ℕ) → (is_lifted : IsLifted (left ∷ []) depth lifted) → slice_get lifted.inner.items 0 ≡ Some first → AreBeside filter ranges left items
      → AreBeside filter ranges first items
  beside_first items lifted depth is_lifted at beside = record {
    left_tested = tested_first lifted depth is_lifted at beside.left_tested;
    tested = beside.tested;
    compared = subst (λ (k : Kind). AllByRecursion (λ (item : Operand). AreCompared k item.kind) items) (sym (kind_first lifted depth is_lifted at)) beside.compared;
  }

  pub faulty_first : (lifted : Lifted) (depth : ℕ) → (is_lifted : IsLifted (left ∷ []) depth lifted) → slice_get lifted.inner.items 0 ≡ Some first → left.kind ≢ Kind.Value SqlType.Truth
      → first.kind ≡ left.kind → IsFaulty filter ranges left → IsFaulty filter ranges first
  faulty_first lifted depth is_lifted at other same faulty =
      plain_faulty filter ranges first first.kind refl (λ truth. other (sym same ∙ truth)) (tested_first lifted depth is_lifted at (untrue_tested filter ranges left other faulty))
