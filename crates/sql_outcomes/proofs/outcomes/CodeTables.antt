-- What is looked up at codes of outcomes.
use Rattle.sql_outcomes.proofs.Common.{◌≡◌, ◌<◌, true, false, lit<, refl, pos, null, boolean, whole, CompareGives, After, Then, Outcome, gives, overflow, divides_by_zero, LogicalGives, NotGives, ComparisonOperator, LogicalOperator, LookUp, IsCoded, OneLooked, TwoLooked, code_of, IsTableBesideNull, IsTableOf, IsTableOfComparison, IsTableOfNot}
use Rattle.std.proofs.lemmas.Option.{none-some}
use Rattle.sql_tree.specs.TableDigits.{arity_of_table}

-- the code of an outcome as an engine has it
abbrev pub coded : Outcome → Outcome
coded o = gives (whole (pos (code_of o)))

abbrev pub Coded : Outcome → Outcome → Type 0
Coded o x = x ≡ coded o

pub code_below_5 : (o : Outcome) → IsCoded o → code_of o < 5
code_below_5 (gives (boolean false)) is = lit< tt
code_below_5 (gives (boolean true)) is = lit< tt
code_below_5 (gives null) is = lit< tt
code_below_5 overflow is = lit< tt
code_below_5 divides_by_zero is = lit< tt
code_below_5 _ is = absurd is

pub looked_not : IsTableOfNot LookUp.Not → (operand o : Outcome) → IsCoded operand → Then operand NotGives o → OneLooked LookUp.Not (coded operand) (coded o)
looked_not table operand o is given = (code_below_5 operand is, (code_of o, table operand o is given, refl))

pub looked_connective : (table : LookUp) (connective : LogicalOperator) → IsTableOf table connective → (left right o : Outcome) → IsCoded left → IsCoded right
    → Then left (λ l. LogicalGives connective l (λ r. r ≡ right)) o → TwoLooked table (coded left) (coded right) (coded o)
looked_connective table connective law left right o is_left is_right given =
    (code_below_5 left is_left, code_below_5 right is_right, (code_of o, law left right o is_left is_right given, refl))

pub looked_comparison : (table : LookUp) (operator : ComparisonOperator) → IsTableOfComparison table operator → (left right o : Outcome) → IsCoded left → IsCoded right
    → Then left (λ l. After (λ r. r ≡ right) (CompareGives operator l)) o → TwoLooked table (coded left) (coded right) (coded o)
looked_comparison table operator law left right o is_left is_right given =
    (code_below_5 left is_left, code_below_5 right is_right, (code_of o, law left right o is_left is_right given, refl))

pub compares_two : (table : LookUp) (operator : ComparisonOperator) → IsTableOfComparison table operator → arity_of_table table ≡ 2
compares_two LookUp.Not operator law = absurd (none-some 4 (law divides_by_zero divides_by_zero divides_by_zero tt tt refl))
compares_two LookUp.IsNull operator law = absurd (none-some 4 (law divides_by_zero divides_by_zero divides_by_zero tt tt refl))
compares_two LookUp.IsNotNull operator law = absurd (none-some 4 (law divides_by_zero divides_by_zero divides_by_zero tt tt refl))
compares_two LookUp.Never operator law = absurd (none-some 4 (law divides_by_zero divides_by_zero divides_by_zero tt tt refl))
compares_two _ operator law = refl

pub looked_beside_null : (table : LookUp) (operator : ComparisonOperator) → IsTableBesideNull table operator → (left o : Outcome) → IsCoded left
    → Then left (λ l. CompareGives operator l null) o → OneLooked table (coded left) (coded o)
looked_beside_null table operator law left o is given = (code_below_5 left is, (code_of o, law.right_null left o is given, refl))

pub looked_after_null : (table : LookUp) (operator : ComparisonOperator) → IsTableBesideNull table operator → (right o : Outcome) → IsCoded right
    → Then right (λ r. CompareGives operator null r) o → OneLooked table (coded right) (coded o)
looked_after_null table operator law right o is given = (code_below_5 right is, (code_of o, law.left_null right o is given, refl))
