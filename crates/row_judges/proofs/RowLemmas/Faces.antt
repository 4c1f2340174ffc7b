-- What operators and functions see of a value: they look into no record, and into lists by their members alone.
use Rattle.std.proofs.Common.{◌≡◌, ◌∙◌, ◌⊎◌, ◌+◌, ◌*◌, ◌/◌, ℕ, suc, ℤ, pos, List, [], ◌∷◌, Bool, true, false, Option, Some, None, length, map, ap, refl, subst, sym}
use Rattle.edm_values.specs.MomentParts.{MomentParts}
use Rattle.edm_values.specs.Civil.{Date}
use Rattle.edm_values.specs.Val.{FieldVal, Val, Vals, absent, boolean, date, fields, guid, item, items, member, moment, no_items, null, present, text, whole}
use Rattle.csdl_schema.specs.ExprType.{ExprType}
use Rattle.odata_functions.specs.Comparable.{AreComparableBy, HaveEquality, HaveOrder}
use Rattle.odata_functions.specs.Comparison.{AreEqual, ComparesTrue, IsGreater}
use Rattle.odata_syntax.specs.declared.binary_operator.ArithmeticOperator.{ArithmeticOperator}
use Rattle.odata_syntax.specs.declared.binary_operator.BinaryOperator.{BinaryOperator}
use Rattle.odata_syntax.specs.declared.binary_operator.ComparisonOperator.{ComparisonOperator}
use Rattle.odata_syntax.specs.declared.binary_operator.LogicalOperator.{LogicalOperator}
use Rattle.odata_syntax.specs.declared.node.Quantifier.{Quantifier}
use Rattle.odata_signatures.specs.declared.function.Function.{Function}
use Rattle.odata_filter_operations.specs.ArgumentValues.{OfDate, OfMoment, OfNone, OfText, OfTextAndNumbers, OfTexts}
use Rattle.odata_filter_operations.specs.CalculationGives.{CalculationGives, NegatedGives}
use Rattle.odata_filter_operations.specs.CallGives.{CallGives, UnlessNull, has_null}
use Rattle.odata_filter_operations.specs.CollectionGives.{AnyItemGives}
use Rattle.odata_filter_operations.specs.CompareGives.{CompareGives, GivesTruth}
use Rattle.odata_filter_operations.specs.FunctionGives.{FunctionGives}
use Rattle.odata_filter_operations.specs.HasGives.{HasGives}
use Rattle.odata_filter_operations.specs.Outcome.{Outcome}
use Rattle.odata_filter_operations.specs.QuantifierGives.{DecisionGives, IsUndecided}
use Rattle.odata_filter_operations.specs.TextCosts.{call_cost, comparison_cost, made_length, operator_cost, text_cost, texts_cost}
use Rattle.odata_filter_operations.specs.TruthGives.{JoinGives, LogicalGives, NotGives}
use Rattle.odata_meaning.specs.Costs.{OthersCost, RightCosts}
use Rattle.edm_rows.specs.RowReading.{Names}
use Rattle.edm_rows.specs.Alike.{AllAlike, AreAlike, alike_lists, alike_records, alike_same, no_members, one_member}

-- as many members, of which nothing is seen
abbrev pub blank : Vals → Vals
blank no_items = no_items
blank (item v more) = item null (blank more)

-- a record of which nothing is seen, and a list of such members
abbrev pub faced : Val → Val
faced (fields held) = fields (λ name. absent)
faced (items values) = items (blank values)
faced v = v

module _ (Passed : Names) where
  same_blank : (vs ws : Vals) → AllAlike Passed vs ws → blank vs ≡ blank ws
  same_blank vs ws no_members = refl
  same_blank vs ws (one_member v w more others alike all) = ap (item null) (same_blank more others all)

  pub same_face : (v w : Val) → AreAlike Passed v w → faced v ≡ faced w
  same_face v w (alike_same u) = refl
  same_face v w (alike_records f g each) = refl
  same_face v w (alike_lists vs ws all) = ap items (same_blank vs ws all)

  -- what is said of a value by its face is said of one that is alike
  pub moved : (P : Val → Type 0) → ((v : Val) → P v ≡ P (faced v)) → (v w : Val) → AreAlike Passed v w → P v → P w
  moved P faces v w alike given = subst (λ (T : Type 0). T) (faces v ∙ (ap P (same_face v w alike) ∙ sym (faces w))) given

  pub moved_two : (P : Val → Val → Type 0) → ((v w : Val) → P v w ≡ P (faced v) (faced w)) → (l m r s : Val) → AreAlike Passed l m → AreAlike Passed r s → P l r → P m s
  moved_two P faces l m r s left right given =
      subst (λ (T : Type 0). T)
      (faces l r ∙ (ap (λ (x : Val). P x (faced r)) (same_face l m left) ∙ (ap (λ (y : Val). P (faced m) y) (same_face r s right) ∙ sym (faces m s))))
      given

  pub number_moved : (n : Val → ℕ) → ((v : Val) → n v ≡ n (faced v)) → (v w : Val) → AreAlike Passed v w → n v ≡ n w
  number_moved n faces v w alike = faces v ∙ (ap n (same_face v w alike) ∙ sym (faces w))

  pub number_moved_two : (n : Val → Val → ℕ) → ((v w : Val) → n v w ≡ n (faced v) (faced w)) → (l m r s : Val) → AreAlike Passed l m → AreAlike Passed r s → n l r ≡ n m s
  number_moved_two n faces l m r s left right =
      faces l r ∙ (ap (λ (x : Val). n x (faced r)) (same_face l m left) ∙ (ap (λ (y : Val). n (faced m) y) (same_face r s right) ∙ sym (faces m s)))

  -- lists of values one by one
  abbrev pub ValuesAlike : List Val → List Val → Type 0
  ValuesAlike [] [] = Unit {0}
  ValuesAlike (v ∷ values) (w ∷ others) = AreAlike Passed v w × ValuesAlike values others
  ValuesAlike _ _ = ⊥

  pub same_faces : (values others : List Val) → ValuesAlike values others → map faced values ≡ map faced others
  same_faces [] [] alike = refl
  same_faces (v ∷ values) (w ∷ others) alike =
      ap (λ (x : Val). x ∷ map faced values) (same_face v w alike.0) ∙ ap (λ (xs : List Val). faced w ∷ xs) (same_faces values others alike.1)
  same_faces [] (w ∷ others) alike = absurd alike
  same_faces (v ∷ values) [] alike = absurd alike

  pub all_moved : (P : List Val → Type 0) → ((values : List Val) → P values ≡ P (map faced values)) → (values others : List Val) → ValuesAlike values others → P values → P others
  all_moved P faces values others alike given = subst (λ (T : Type 0). T) (faces values ∙ (ap P (same_faces values others alike) ∙ sym (faces others))) given

  pub number_of_all : (n : List Val → ℕ) → ((values : List Val) → n values ≡ n (map faced values)) → (values others : List Val) → ValuesAlike values others → n values ≡ n others
  number_of_all n faces values others alike = faces values ∙ (ap n (same_faces values others alike) ∙ sym (faces others))

-- ---- comparisons

equality_faced : (v w : Val) → HaveEquality v w ≡ HaveEquality (faced v) (faced w)
equality_faced null null = refl
equality_faced (boolean a) null = refl
equality_faced (whole a) null = refl
equality_faced (text a) null = refl
equality_faced (date a) null = refl
equality_faced (moment a) null = refl
equality_faced (guid a) null = refl
equality_faced (member a) null = refl
equality_faced (fields a) null = refl
equality_faced (items a) null = refl
equality_faced _ _ = refl

order_faced : (v w : Val) → HaveOrder v w ≡ HaveOrder (faced v) (faced w)
order_faced null null = refl
order_faced (boolean a) null = refl
order_faced (whole a) null = refl
order_faced (text a) null = refl
order_faced (date a) null = refl
order_faced (moment a) null = refl
order_faced (guid a) null = refl
order_faced (member a) null = refl
order_faced (fields a) null = refl
order_faced (items a) null = refl
order_faced _ _ = refl

equal_faced : (v w : Val) → AreEqual v w ≡ AreEqual (faced v) (faced w)
equal_faced null null = refl
equal_faced (boolean a) null = refl
equal_faced (whole a) null = refl
equal_faced (text a) null = refl
equal_faced (date a) null = refl
equal_faced (moment a) null = refl
equal_faced (guid a) null = refl
equal_faced (member a) null = refl
equal_faced (fields a) null = refl
equal_faced (items a) null = refl
equal_faced _ _ = refl

greater_faced : (v w : Val) → IsGreater v w ≡ IsGreater (faced v) (faced w)
greater_faced null null = refl
greater_faced (boolean a) null = refl
greater_faced (whole a) null = refl
greater_faced (text a) null = refl
greater_faced (date a) null = refl
greater_faced (moment a) null = refl
greater_faced (guid a) null = refl
greater_faced (member a) null = refl
greater_faced (fields a) null = refl
greater_faced (items a) null = refl
greater_faced _ _ = refl

comparable_faced : (operator : ComparisonOperator) (v w : Val) → AreComparableBy operator v w ≡ AreComparableBy operator (faced v) (faced w)
comparable_faced ComparisonOperator.Eq v w = equality_faced v w
comparable_faced ComparisonOperator.Ne v w = equality_faced v w
comparable_faced ComparisonOperator.Gt v w = order_faced v w
comparable_faced ComparisonOperator.Ge v w = order_faced v w
comparable_faced ComparisonOperator.Lt v w = order_faced v w
comparable_faced ComparisonOperator.Le v w = order_faced v w

true_faced : (operator : ComparisonOperator) (v w : Val) → ComparesTrue operator v w ≡ ComparesTrue operator (faced v) (faced w)
true_faced ComparisonOperator.Eq v w = equal_faced v w
true_faced ComparisonOperator.Ne v w = ap (λ (T : Type 0). ¬ T) (equal_faced v w)
true_faced ComparisonOperator.Gt v w = greater_faced v w
true_faced ComparisonOperator.Ge v w =
    ap (λ (T : Type 0). T ⊎ AreEqual v w) (greater_faced v w) ∙ ap (λ (T : Type 0). IsGreater (faced v) (faced w) ⊎ T) (equal_faced v w)
true_faced ComparisonOperator.Lt v w = greater_faced w v
true_faced ComparisonOperator.Le v w =
    ap (λ (T : Type 0). T ⊎ AreEqual v w) (greater_faced w v) ∙ ap (λ (T : Type 0). IsGreater (faced w) (faced v) ⊎ T) (equal_faced v w)

pub compare_alike : (Passed : Names) (operator : ComparisonOperator) (l m r s : Val) → AreAlike Passed l m → AreAlike Passed r s → (o : Outcome) → CompareGives operator l r o → CompareGives operator m s o
compare_alike Passed operator l m r s left right o given = (
  moved_two Passed (AreComparableBy operator) (comparable_faced operator) l m r s left right given.0,
  moved_two Passed (λ v w. GivesTruth (ComparesTrue operator v w) o) (λ v w. ap (λ (T : Type 0). GivesTruth T o) (true_faced operator v w)) l m r s left right given.1,
)

-- ---- other operators

pub not_faced : (o : Outcome) (v : Val) → NotGives v o ≡ NotGives (faced v) o
not_faced o null = refl
not_faced o _ = refl

pub negated_faced : (type : ExprType) (o : Outcome) (v : Val) → NegatedGives type v o ≡ NegatedGives type (faced v) o
negated_faced type o null = refl
negated_faced type o _ = refl

pub logical_faced : (logical : LogicalOperator) (Right : Outcome → Type 0) (o : Outcome) (v : Val) → LogicalGives logical v Right o ≡ LogicalGives logical (faced v) Right o
logical_faced LogicalOperator.And Right o null = refl
logical_faced LogicalOperator.And Right o _ = refl
logical_faced LogicalOperator.Or Right o null = refl
logical_faced LogicalOperator.Or Right o _ = refl

pub join_faced : (logical : LogicalOperator) (left : Option Bool) (o : Outcome) (v : Val) → JoinGives logical left v o ≡ JoinGives logical left (faced v) o
join_faced logical left o null = refl
join_faced logical left o _ = refl

pub decision_faced : (quantifier : Quantifier) (o : Outcome) (v : Val) → DecisionGives quantifier v o ≡ DecisionGives quantifier (faced v) o
decision_faced Quantifier.Any o null = refl
decision_faced Quantifier.Any o _ = refl
decision_faced Quantifier.All o null = refl
decision_faced Quantifier.All o _ = refl

pub undecided_faced : (quantifier : Quantifier) (v : Val) → IsUndecided quantifier v ≡ IsUndecided quantifier (faced v)
undecided_faced Quantifier.Any null = refl
undecided_faced Quantifier.Any _ = refl
undecided_faced Quantifier.All null = refl
undecided_faced Quantifier.All _ = refl

pub any_item_faced : (o : Outcome) (v : Val) → AnyItemGives v o ≡ AnyItemGives (faced v) o
any_item_faced o null = refl
any_item_faced o (items no_items) = refl
any_item_faced o (items (item v more)) = refl
any_item_faced o _ = refl

pub calculation_faced : (arithmetic : ArithmeticOperator) (type : ExprType) (o : Outcome) (v w : Val) → CalculationGives arithmetic type v w o ≡ CalculationGives arithmetic type (faced v) (faced w) o
calculation_faced arithmetic type o null null = refl
calculation_faced arithmetic type o (boolean a) null = refl
calculation_faced arithmetic type o (whole a) null = refl
calculation_faced arithmetic type o (text a) null = refl
calculation_faced arithmetic type o (date a) null = refl
calculation_faced arithmetic type o (moment a) null = refl
calculation_faced arithmetic type o (guid a) null = refl
calculation_faced arithmetic type o (member a) null = refl
calculation_faced arithmetic type o (fields a) null = refl
calculation_faced arithmetic type o (items a) null = refl
calculation_faced arithmetic type o _ _ = refl

pub has_faced : (o : Outcome) (v w : Val) → HasGives v w o ≡ HasGives (faced v) (faced w) o
has_faced o null null = refl
has_faced o (boolean a) null = refl
has_faced o (whole a) null = refl
has_faced o (text a) null = refl
has_faced o (date a) null = refl
has_faced o (moment a) null = refl
has_faced o (guid a) null = refl
has_faced o (member a) null = refl
has_faced o (fields a) null = refl
has_faced o (items a) null = refl
has_faced o _ _ = refl

-- ---- functions

none_faced : (Gives : Outcome → Type 0) (o : Outcome) (values : List Val) → OfNone Gives values o ≡ OfNone Gives (map faced values) o
none_faced Gives o [] = refl
none_faced Gives o (v ∷ more) = refl

text_faced : (Gives : List ℕ → Outcome → Type 0) (o : Outcome) (values : List Val) → OfText Gives values o ≡ OfText Gives (map faced values) o
text_faced Gives o (text s ∷ []) = refl
text_faced Gives o _ = refl

texts_faced : (Gives : List ℕ → List ℕ → Outcome → Type 0) (o : Outcome) (values : List Val) → OfTexts Gives values o ≡ OfTexts Gives (map faced values) o
texts_faced Gives o (text s ∷ text t ∷ []) = refl
texts_faced Gives o _ = refl

numbers_faced : (OfOne : List ℕ → ℤ → Outcome → Type 0) (OfTwo : List ℕ → ℤ → ℤ → Outcome → Type 0) (o : Outcome) (values : List Val)
    → OfTextAndNumbers OfOne OfTwo values o ≡ OfTextAndNumbers OfOne OfTwo (map faced values) o
numbers_faced OfOne OfTwo o (text s ∷ whole n ∷ []) = refl
numbers_faced OfOne OfTwo o (text s ∷ whole n ∷ whole m ∷ []) = refl
numbers_faced OfOne OfTwo o _ = refl

moment_faced : (Gives : MomentParts → Outcome → Type 0) (o : Outcome) (values : List Val) → OfMoment Gives values o ≡ OfMoment Gives (map faced values) o
moment_faced Gives o (moment m ∷ []) = refl
moment_faced Gives o _ = refl

date_faced : (Gives : Date → Outcome → Type 0) (o : Outcome) (values : List Val) → OfDate Gives values o ≡ OfDate Gives (map faced values) o
date_faced Gives o (date d ∷ []) = refl
date_faced Gives o (moment m ∷ []) = refl
date_faced Gives o _ = refl

function_faced : (now : MomentParts) (function : Function) (o : Outcome) (values : List Val) → FunctionGives now function values o ≡ FunctionGives now function (map faced values) o
function_faced now Function.Contains o values = texts_faced _ o values
function_faced now Function.StartsWith o values = texts_faced _ o values
function_faced now Function.EndsWith o values = texts_faced _ o values
function_faced now Function.Concat o values = texts_faced _ o values
function_faced now Function.Length o values = text_faced _ o values
function_faced now Function.IndexOf o values = texts_faced _ o values
function_faced now Function.Substring o values = numbers_faced _ _ o values
function_faced now Function.Trim o values = text_faced _ o values
function_faced now Function.ToLower o values = text_faced _ o values
function_faced now Function.ToUpper o values = text_faced _ o values
function_faced now Function.Year o values = date_faced _ o values
function_faced now Function.Month o values = date_faced _ o values
function_faced now Function.Day o values = date_faced _ o values
function_faced now Function.Hour o values = moment_faced _ o values
function_faced now Function.Minute o values = moment_faced _ o values
function_faced now Function.Second o values = moment_faced _ o values
function_faced now Function.TotalOffsetMinutes o values = moment_faced _ o values
function_faced now Function.Date o values = moment_faced _ o values
function_faced now Function.Now o values = none_faced _ o values

nulls_faced : (values : List Val) → has_null values ≡ has_null (map faced values)
nulls_faced [] = refl
nulls_faced (null ∷ more) = refl
nulls_faced (v ∷ more) = nulls_faced more

unless_same : (b : Bool) (F G : Outcome → Type 0) (o : Outcome) → F o ≡ G o → UnlessNull b F o ≡ UnlessNull b G o
unless_same true F G o same = refl
unless_same false F G o same = same

pub call_faced : (now : MomentParts) (function : Function) (o : Outcome) (values : List Val) → CallGives now function values o ≡ CallGives now function (map faced values) o
call_faced now function o values =
    ap (λ (b : Bool). UnlessNull b (FunctionGives now function values) o) (nulls_faced values)
    ∙ unless_same (has_null (map faced values)) (FunctionGives now function values) (FunctionGives now function (map faced values)) o (function_faced now function o values)

-- ---- costs

text_cost_faced : (v : Val) → text_cost v ≡ text_cost (faced v)
text_cost_faced null = refl
text_cost_faced _ = refl

pub comparison_cost_faced : (v w : Val) → comparison_cost v w ≡ comparison_cost (faced v) (faced w)
comparison_cost_faced null null = refl
comparison_cost_faced (boolean a) null = refl
comparison_cost_faced (whole a) null = refl
comparison_cost_faced (text a) null = refl
comparison_cost_faced (date a) null = refl
comparison_cost_faced (moment a) null = refl
comparison_cost_faced (guid a) null = refl
comparison_cost_faced (member a) null = refl
comparison_cost_faced (fields a) null = refl
comparison_cost_faced (items a) null = refl
comparison_cost_faced _ _ = refl

pub operator_cost_faced : (operator : BinaryOperator) (v w : Val) → operator_cost operator v w ≡ operator_cost operator (faced v) (faced w)
operator_cost_faced (BinaryOperator.Comparison comparison) v w = comparison_cost_faced v w
operator_cost_faced (BinaryOperator.Logical logical) v w = refl
operator_cost_faced (BinaryOperator.Arithmetic arithmetic) v w = refl

texts_cost_faced : (values : List Val) → texts_cost values ≡ texts_cost (map faced values)
texts_cost_faced [] = refl
texts_cost_faced (v ∷ more) = ap (λ (n : ℕ). n + texts_cost more) (text_cost_faced v) ∙ ap (λ (n : ℕ). text_cost (faced v) + n) (texts_cost_faced more)

made_faced : (function : Function) (values : List Val) → made_length function values ≡ made_length function (map faced values)
made_faced Function.Concat (text s ∷ text t ∷ []) = refl
made_faced Function.Concat _ = refl
made_faced Function.ToLower (text s ∷ []) = refl
made_faced Function.ToLower _ = refl
made_faced Function.ToUpper (text s ∷ []) = refl
made_faced Function.ToUpper _ = refl
made_faced _ values = refl

pub call_cost_faced : (function : Function) (values : List Val) → call_cost function values ≡ call_cost function (map faced values)
call_cost_faced function values =
    ap (λ (n : ℕ). 8 * n + 16 * (made_length function values / 1024)) (texts_cost_faced values)
    ∙ ap (λ (n : ℕ). 8 * texts_cost (map faced values) + 16 * (n / 1024)) (made_faced function values)

pub right_costs_faced : (operator : BinaryOperator) (Right : ℕ → Type 0) (n : ℕ) (v : Val) → RightCosts operator v Right n ≡ RightCosts operator (faced v) Right n
right_costs_faced (BinaryOperator.Logical LogicalOperator.And) Right n null = refl
right_costs_faced (BinaryOperator.Logical LogicalOperator.And) Right n _ = refl
right_costs_faced (BinaryOperator.Logical LogicalOperator.Or) Right n null = refl
right_costs_faced (BinaryOperator.Logical LogicalOperator.Or) Right n _ = refl
right_costs_faced (BinaryOperator.Comparison comparison) Right n v = refl
right_costs_faced (BinaryOperator.Arithmetic arithmetic) Right n v = refl

pub others_cost_faced : (quantifier : Quantifier) (Others : ℕ → Type 0) (n : ℕ) (v : Val) → OthersCost quantifier Others v n ≡ OthersCost quantifier Others (faced v) n
others_cost_faced Quantifier.Any Others n null = refl
others_cost_faced Quantifier.Any Others n _ = refl
others_cost_faced Quantifier.All Others n null = refl
others_cost_faced Quantifier.All Others n _ = refl
