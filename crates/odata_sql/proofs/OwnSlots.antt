-- Slots of the row that the nodes of a filter name.
use Rattle.std.proofs.Common.{◌≡◌, ◌↔◌, ◌<◌, ◌≤◌, ◌+◌, ◌∙◌, ℕ, List, Bool, true, false, Bor, IfSome, IsTrue, Option, length, map, option_and_then, ⊎_elim, refl, sym, subst, arith}
use Rattle.std.proofs.lemmas.Bool.{cases_lt}
use Rattle.std.proofs.lemmas.List.{length-map}
use Rattle.std.proofs.lemmas.Option.{slice_get_past}
use Rattle.odata_checked_filter.specs.declared.checked_node.CheckedNode.{CheckedNode}
use Rattle.sql_tree.specs.TableModel.{in_columns}
use Rattle.odata_sql.specs.Refusals.{AreBelow, HasColumns, it_at, own_slot, own_slot_at}

module _ (nodes : List CheckedNode) (count : ℕ) where
  abbrev pub IsBelow : ℕ → Type 0
  IsBelow place = IfSome (own_slot_at nodes place) (λ slot. slot < count)

  -- so far
  abbrev pub AreBelowTo : ℕ → Type 0
  AreBelowTo at = (place : ℕ) → place < at → IsBelow place

  pub below_first : AreBelowTo 0
  below_first place none = absurd (omega (arith, none))

  pub below_on : (at : ℕ) → AreBelowTo at → IsBelow at → AreBelowTo (at + 1)
  below_on at before here place within =
      ⊎_elim (λ lower. before place lower) (λ upper. let same : at ≡ place = omega (arith, within, upper) in subst IsBelow same here) (cases_lt place at)

  below_past : (place : ℕ) → length nodes ≤ place → IsBelow place
  below_past place past =
      subst (λ (found : Option CheckedNode). IfSome (option_and_then (λ node. own_slot node.kind (it_at nodes (place + 1))) found) (λ slot. slot < count))
      (sym (slice_get_past nodes place past)) tt

  -- all of them
  pub below_all : (at : ℕ) → length nodes ≤ at → AreBelowTo at → IsTrue true ↔ AreBelow count nodes
  below_all at last before = (
    λ (holds : IsTrue true). λ place. ⊎_elim (λ lower. before place lower) (λ upper. below_past place (omega (arith, last, upper))) (cases_lt place at),
    λ (all : AreBelow count nodes). refl,
  )

  -- one that is not
  pub one_above : (at : ℕ) (slot : Option ℕ) → slot ≡ own_slot_at nodes at → (answer : Bool) → IsTrue answer ↔ IfSome slot (λ n. n < count) → answer ≡ false → IsTrue false ↔ AreBelow count nodes
  one_above at slot same answer is not_so = (
    λ (holds : IsTrue false). absurd (cc),
    λ (all : AreBelow count nodes). let holds = is.1 (subst (λ (o : Option ℕ). IfSome o (λ n. n < count)) (sym same) (all at)) in absurd (cc),
  )

-- by the names of a table's columns
pub columns_there : (nodes held : List CheckedNode) → nodes ≡ held → (names : List (Bor (List ℕ))) (count : ℕ) → count ≡ length names → (answer : Bool) → IsTrue answer ↔ AreBelow count nodes
    → IsTrue answer ↔ HasColumns held (in_columns (map (λ name. name.now) names))
columns_there nodes held same names count many answer is =
    let as_many : count ≡ length (map (λ (name : Bor (List ℕ)). name.now) names) = many ∙ sym (length-map names (λ (name : Bor (List ℕ)). name.now)) in
    subst (λ (n : ℕ). IsTrue answer ↔ AreBelow n held) as_many (subst (λ (list : List CheckedNode). IsTrue answer ↔ AreBelow count list) same is)
