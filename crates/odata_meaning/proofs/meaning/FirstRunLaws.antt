-- The filter of the first run on its three items.
use Rattle.std.proofs.Common.{◌≡◌, ◌↔◌, IsTrue, Bool, Some, None, ℕ, pos, List, [], true, false, refl, sym, ap, nat_eq, subst, inr, rules, lit<}
use Rattle.std.proofs.lemmas.Int.{fits_signed_from_abs}
use Rattle.std.specs.Prelude.{codes, FitsSigned}
use Rattle.std.specs.Int.{w64}
use Rattle.std.specs.Cmp.Lexicographic.{pointwise}
use Rattle.std.specs.Str.{IsUtf8, chars}
use Rattle.std.specs.Str.Parse.{IsNumeral}
use Rattle.edm_values.specs.IntLiteral.{IntValue}
use Rattle.edm_values.specs.MomentParts.{MomentParts}
use Rattle.edm_values.specs.Val.{Val, boolean, whole, text}
use Rattle.odata_syntax.specs.FirstRun.{first_run_tree}
use Rattle.odata_syntax.specs.Tree.{Tree}
use Rattle.csdl_schema.specs.SchemaModel.{Slots}
use Rattle.odata_functions.specs.Comparison.{ComparesTrue}
use Rattle.odata_functions.specs.Connectives.{and3}
use Rattle.odata_syntax.specs.declared.binary_operator.ComparisonOperator.{ComparisonOperator}
use Rattle.odata_meaning.specs.ComesTo.{ComesTo, ComesToIn, false_and_missing, item_value}
use Rattle.odata_meaning.specs.Means.{Means}
use Rattle.odata_filter_operations.specs.Outcome.{Outcome, gives}
use Rattle.odata_filter_operations.specs.TruthGives.{truth_val}
use Rattle.odata_meaning.proofs.meaning.OneMeaning.{Means-one}
use Rattle.odata_meaning.specs.private.LawsBelow.{OneEach}
use Rattle.odata_meaning.proofs.meaning.NoEnumerations.{unread}

-- one outcome of a tree is the only one
in_slots : OneEach → (slots : Slots) (tree : Tree) (value : Val) (outcome : Outcome)
    → ((root : List ℕ) (now : MomentParts) → Means slots root now value [] tree outcome) → ComesToIn slots tree value outcome
in_slots known slots tree value outcome related = λ root now o. (
  λ of_o. Means-one known slots root now value [] tree o outcome of_o (related root now),
  λ same. subst (Means slots root now value [] tree) (sym same) (related root now),
)

comes_to : OneEach → (tree : Tree) (value : Val) (outcome : Outcome)
    → ((slots : Slots) (root : List ℕ) (now : MomentParts) → ((name : List ℕ) → slots.enumerations name ≡ None) → Means slots root now value [] tree outcome) → ComesTo tree value outcome
comes_to known tree value outcome related = λ slots none. in_slots known slots tree value outcome (λ root now. related slots root now none)

numeral : IsNumeral 10 (codes "1")
numeral = search rules

small : FitsSigned w64 (pos 1)
small = fits_signed_from_abs w64 (pos 1) (lit< tt)

one : IntValue (codes "1") (pos 1)
one = (inr (inr (numeral, refl)), small)

letter : IsUtf8 (codes "a")
unfolding lib.Utf8.encode
letter = (codes "a", (refl, refl))

-- true with a truth value is that
joins : (answer : Bool) → gives (boolean answer) ≡ gives (truth_val (and3 (Some true) (Some answer)))
joins true = refl
joins false = refl

-- the first item by any name, as this compares
named_item : OneEach → (title : List ℕ) (answer : Bool) → (IsTrue answer ↔ ComparesTrue ComparisonOperator.Eq (text title) (text (codes "a")))
    → ComesTo first_run_tree (item_value (pos 1) title true) (gives (boolean answer))
named_item known title answer compared = comes_to known first_run_tree (item_value (pos 1) title true) (gives (boolean answer)) (λ slots root now none. (
  gives (boolean true),
  (
    inr (
      unread slots none _ _,
      (
        gives (boolean true),
        (
          inr (unread slots none _ _, refl),
          (
            gives (boolean true),
            (
              inr (
                unread slots none _ _,
                (gives (whole (pos 1)), (inr (unread slots none _ _, refl), (gives (whole (pos 1)), (inr (unread slots none _ _, one), (tt, (λ _. refl, λ _. refl)))))),
              ),
              refl,
            ),
          ),
        ),
      ),
    ),
    (
      gives (boolean answer),
      (
        inr (
          unread slots none _ _,
          (gives (text title), (inr (unread slots none _ _, refl), (gives (text (codes "a")), (inr (unread slots none _ _, (refl, letter)), (tt, compared))))),
        ),
        joins answer,
      ),
    ),
  ),
))

pub kept_item : OneEach → ComesTo first_run_tree (item_value (pos 1) (codes "a") true) (gives (boolean true))
kept_item known = named_item known (codes "a") true (λ _. refl, λ _. refl)

-- 98 is no 97
other_text : chars (codes "b") ≡ chars (codes "a") → false ≡ true
unfolding chars
other_text same = ap (λ (xs : List ℕ). pointwise nat_eq xs (chars (codes "a"))) same

pub other_item : OneEach → ComesTo first_run_tree (item_value (pos 1) (codes "b") true) (gives (boolean false))
other_item known = named_item known (codes "b") false (λ no. cc, λ same. other_text same)

pub inactive_item : OneEach → ComesTo first_run_tree (item_value (pos 2) (codes "a") false) (gives (boolean false))
inactive_item known = comes_to known first_run_tree (item_value (pos 2) (codes "a") false) (gives (boolean false)) (λ slots root now none.
    (gives (boolean false), (inr (unread slots none _ _, (gives (boolean false), (inr (unread slots none _ _, refl), refl))), refl)))

-- no logical operator has its operands read
pub right_side_unread : OneEach → (slots : Slots) (value : Val) → ComesToIn slots false_and_missing value (gives (boolean false))
right_side_unread known slots value = in_slots known slots false_and_missing value (gives (boolean false)) (λ root now.
    (gives (boolean false), (inr (λ n reads. reads.beside.0, refl), refl)))
