-- Calls by their functions: which make truth values, which parts of dates, and which make values alone.
use Rattle.sql_outcomes.proofs.Common.{◌≡◌, ◌⊎◌, inl, inr, ◌++◌, ◌∷◌, [], ℕ, ℤ, List, Bool, true, false, Option, Some, None, length, map, refl, sym, ap, subst, ◌∙◌, encode_utf8_all, slice_get, chars, MomentParts, Val, boolean, null, text, whole, PrimitiveType, primitive, single, SchemaModel, Filter, IsFilter, CheckedNode, NodeKind, HasKind, OfTextAndNumbers, CallGives, UnlessNull, has_null, GivesTruth, FunctionGives, GivesText, Outcome, gives, overflow, divides_by_zero, HasEnd, HasPart, HasStart, IsTrimmed, part_from, rest_from, FunctionTyped, IsNamed, row_of, expr_type, ArgumentKind, EdmType, ValueType, Function, truth, SqlType, tree_at, Operand, Kind, IsCarriedFunction, IsCounting, IsTimeFunction, kind_of_type, type_of_primitive, ArePlain, carrier_in, fault_else, faults_of, carrier_of, IsTruthKind, by_kind, found_is}
use Rattle.std.specs.Char.{to_ascii_lowercase, to_ascii_uppercase}
use Rattle.sql_outcomes.proofs.nodes.CallNodes.{AllSuit, SuitsKind}
use Rattle.sql_outcomes.proofs.outcomes.FunctionsMade.{one_text, two_texts}

-- a function that makes a truth value
abbrev pub IsTruthFunction : Function → Type 0
IsTruthFunction Function.Contains = Unit {0}
IsTruthFunction Function.StartsWith = Unit {0}
IsTruthFunction Function.EndsWith = Unit {0}
IsTruthFunction function = ⊥

pub uncarried : (function : Function) → (IsCarriedFunction function → ⊥) → IsTruthFunction function ⊎ IsTimeFunction function
uncarried Function.Contains none = inl tt
uncarried Function.StartsWith none = inl tt
uncarried Function.EndsWith none = inl tt
uncarried Function.Concat none = absurd (none tt)
uncarried Function.Length none = absurd (none tt)
uncarried Function.IndexOf none = absurd (none tt)
uncarried Function.Substring none = absurd (none tt)
uncarried Function.Trim none = absurd (none tt)
uncarried Function.ToLower none = absurd (none tt)
uncarried Function.ToUpper none = absurd (none tt)
uncarried _ none = inr tt

pub truth_function : (function : Function) → IsTruthKind (Kind.Value (type_of_primitive (row_of function).gives)) → IsTruthFunction function
truth_function Function.Contains is = tt
truth_function Function.StartsWith is = tt
truth_function Function.EndsWith is = tt
truth_function _ is = absurd is

pub gives_truth : (function : Function) → IsTruthFunction function → Kind.Value (type_of_primitive (row_of function).gives) ≡ Kind.Value SqlType.Truth
gives_truth Function.Contains is = refl
gives_truth Function.StartsWith is = refl
gives_truth Function.EndsWith is = refl
gives_truth function is = absurd is

-- ---- the type of a call

primitive_type : (schema : SchemaModel) (type : EdmType) (p : PrimitiveType) → expr_type schema type ≡ single (primitive p) → kind_of_type type ≡ Kind.Value (type_of_primitive p)
primitive_type schema (EdmType.Single (ValueType.Prim q)) p is = let same : q ≡ p = cc in ap (λ (r : PrimitiveType). Kind.Value (type_of_primitive r)) same
primitive_type schema _ p is = absurd (cc)

pub call_kind : (filter : Filter) → IsFilter filter → (one_name : (f g : Function) (asked : List ℕ) → IsNamed f asked → IsNamed g asked → f ≡ g) (place : ℕ) (function : Function)
    → HasKind filter.list place (NodeKind.Call function) → (found : CheckedNode) → slice_get filter.list.nodes place ≡ Some found
    → kind_of_type found.edm_type ≡ Kind.Value (type_of_primitive (row_of function).gives)
call_kind filter right one_name place function here found at =
    let s = tree_at filter right place (NodeKind.Call function) tt here in
    by_kind filter.schema filter.filtered s.scope filter.list place (NodeKind.Call function) here (λ stop tree. kind_of_type found.edm_type ≡ Kind.Value (type_of_primitive (row_of function).gives))
    (λ asked trees named later stop from to stands.
    let typed = stands.top.typed in
    let called : FunctionTyped function typed.types (expr_type filter.schema stands.top.found.edm_type) =
    subst (λ (f : Function). FunctionTyped f typed.types (expr_type filter.schema stands.top.found.edm_type)) (one_name typed.call_typed.function function asked typed.call_typed.named named) typed.call_typed.typed in
    let same = found_is filter.schema filter.filtered s.scope filter.list place found at stop from to _ stands in
    primitive_type filter.schema found.edm_type (row_of function).gives (subst (λ (n : CheckedNode). expr_type filter.schema n.edm_type ≡ single (primitive (row_of function).gives)) same called.gives))
    s.stop s.part s.stands

-- ---- values alone

truth_given : (Fact : Type 0) (o : Outcome) → GivesTruth Fact o → (t : Option Bool) × (o ≡ truth t)
truth_given Fact (gives (boolean b)) is = (Some b, refl)
truth_given Fact _ is = absurd is

null_or_given : (b : Bool) (Gives : Outcome → Type 0) (o : Outcome) → UnlessNull b Gives o → (o ≡ gives null) ⊎ Gives o
null_or_given true Gives o given = inl given
null_or_given false Gives o given = inr given

-- a truth value or null
pub called_truth : (now : MomentParts) (function : Function) (values : List Val) (o : Outcome) → IsTruthFunction function → CallGives now function values o → (t : Option Bool) × (o ≡ truth t)
called_truth now Function.Contains values o is given = elim (null_or_given (has_null values) (FunctionGives now Function.Contains values) o given) [
  | inl none ↦ (None, none)
  | inr made ↦ (let found = two_texts values (λ s t. GivesTruth (HasPart (chars s) (chars t))) o made in truth_given (HasPart (chars found.0) (chars found.1)) o found.3)
]
called_truth now Function.StartsWith values o is given = elim (null_or_given (has_null values) (FunctionGives now Function.StartsWith values) o given) [
  | inl none ↦ (None, none)
  | inr made ↦ (let found = two_texts values (λ s t. GivesTruth (HasStart (chars s) (chars t))) o made in truth_given (HasStart (chars found.0) (chars found.1)) o found.3)
]
called_truth now Function.EndsWith values o is given = elim (null_or_given (has_null values) (FunctionGives now Function.EndsWith values) o given) [
  | inl none ↦ (None, none)
  | inr made ↦ (let found = two_texts values (λ s t. GivesTruth (HasEnd (chars s) (chars t))) o made in truth_given (HasEnd (chars found.0) (chars found.1)) o found.3)
]
called_truth now function values o is given = absurd is

-- a text or null
text_or_null : (values : List Val) (b : Bool) (Gives : Outcome → Type 0) (o : Outcome) → (Gives o → (v : Val) × (o ≡ gives v)) → UnlessNull b Gives o → (v : Val) × (o ≡ gives v)
text_or_null values b Gives o value given = elim (null_or_given b Gives o given) [
  | inl none ↦ (null, none)
  | inr made ↦ value made
]

substring_value : (values : List Val) (One : List ℕ → ℤ → List ℕ) (Two : List ℕ → ℤ → ℤ → List ℕ) (o : Outcome)
    → OfTextAndNumbers (λ s n. GivesText (One s n)) (λ s n m. GivesText (Two s n m)) values o → (v : Val) × (o ≡ gives v)
substring_value (text s ∷ whole n ∷ []) One Two o given = (text (encode_utf8_all (One s n)), given)
substring_value (text s ∷ whole n ∷ whole m ∷ []) One Two o given = (text (encode_utf8_all (Two s n m)), given)
substring_value _ One Two o given = absurd given

pub text_value : (now : MomentParts) (function : Function) (values : List Val) (o : Outcome) → IsCarriedFunction function → (IsCounting function → ⊥) → CallGives now function values o → (v : Val) × (o ≡ gives v)
text_value now Function.Concat values o is other given =
    text_or_null values (has_null values) (FunctionGives now Function.Concat values) o
    (λ made. let found = two_texts values (λ s t. GivesText (chars s ++ chars t)) o made in (text (encode_utf8_all (chars found.0 ++ chars found.1)), found.3)) given
text_value now Function.Substring values o is other given =
    text_or_null values (has_null values) (FunctionGives now Function.Substring values) o
    (λ made. substring_value values (λ s n. rest_from n (chars s)) (λ s n m. part_from n m (chars s)) o made) given
text_value now Function.Trim values o is other given =
    text_or_null values (has_null values) (FunctionGives now Function.Trim values) o
    (λ made. let found = one_text values (λ s p. (part : List ℕ) × IsTrimmed (chars s) part × GivesText part p) o made in (text (encode_utf8_all found.2.0), found.2.2)) given
text_value now Function.ToLower values o is other given =
    text_or_null values (has_null values) (FunctionGives now Function.ToLower values) o
    (λ made. let found = one_text values (λ s. GivesText (map to_ascii_lowercase (chars s))) o made in (text (encode_utf8_all (map to_ascii_lowercase (chars found.0))), found.2)) given
text_value now Function.ToUpper values o is other given =
    text_or_null values (has_null values) (FunctionGives now Function.ToUpper values) o
    (λ made. let found = one_text values (λ s. GivesText (map to_ascii_uppercase (chars s))) o made in (text (encode_utf8_all (map to_ascii_uppercase (chars found.0))), found.2)) given
text_value now Function.Length values o is other given = absurd (other tt)
text_value now Function.IndexOf values o is other given = absurd (other tt)
text_value now function values o is other given = absurd is

-- ---- faults of arguments

-- an outcome that is a value has no fault before it
pub no_fault_first : (os : List Outcome) (inner o : Outcome) (v : Val) → o ≡ faults_of os inner → o ≡ gives v → faults_of os inner ≡ inner
no_fault_first [] inner o v is value = refl
no_fault_first (gives w ∷ os) inner o v is value = no_fault_first os inner o v is value
no_fault_first (overflow ∷ os) inner o v is value = let no : gives v ≡ overflow = sym value ∙ is in absurd (cc)
no_fault_first (divides_by_zero ∷ os) inner o v is value = let no : gives v ≡ divides_by_zero = sym value ∙ is in absurd (cc)

-- operands that carry no faults
abbrev pub AllUncarried : List Operand → Type 0
AllUncarried [] = Unit {0}
AllUncarried (operand ∷ operands) = (carrier_in operand ≡ None) × AllUncarried operands

value_first : (o rest : Outcome) (v : Val) → o ≡ gives v → fault_else o rest ≡ rest
value_first (gives w) rest v is = refl
value_first _ rest v is = absurd (cc)

pub plain_first : (operands : List Operand) (os : List Outcome) (inner : Outcome) → AllUncarried operands → ArePlain operands os → length os ≡ length operands → faults_of os inner ≡ inner
plain_first [] [] inner none plain same = refl
plain_first [] (o ∷ os) inner none plain same = absurd (cc)
plain_first (operand ∷ operands) [] inner none plain same = absurd (cc)
plain_first (operand ∷ operands) (o ∷ os) inner none plain same =
    let fewer : length os ≡ length operands = cc in
    let v = plain.0 none.0 in
    value_first o (faults_of os inner) v.0 v.1 ∙ plain_first operands os inner none.1 plain.1 fewer

time_uncarried : (b : Bool) (k : Kind) → SuitsKind ArgumentKind.DateOrMoment k → carrier_of b k ≡ None
time_uncarried true Kind.Null suits = refl
time_uncarried false Kind.Null suits = refl
time_uncarried true (Kind.Value SqlType.Date) suits = refl
time_uncarried false (Kind.Value SqlType.Date) suits = refl
time_uncarried true (Kind.Value SqlType.Moment) suits = refl
time_uncarried false (Kind.Value SqlType.Moment) suits = refl
time_uncarried b k suits = absurd suits

moment_uncarried : (b : Bool) (k : Kind) → SuitsKind ArgumentKind.Moment k → carrier_of b k ≡ None
moment_uncarried true Kind.Null suits = refl
moment_uncarried false Kind.Null suits = refl
moment_uncarried true (Kind.Value SqlType.Moment) suits = refl
moment_uncarried false (Kind.Value SqlType.Moment) suits = refl
moment_uncarried b k suits = absurd suits

one_time : (operands : List Operand) → AllSuit (ArgumentKind.DateOrMoment ∷ []) operands → AllUncarried operands
one_time [] suit = tt
one_time (operand ∷ []) suit = (time_uncarried operand.range.may_fault operand.kind suit.0, tt)
one_time (operand ∷ other ∷ operands) suit = absurd suit.1

one_moment : (operands : List Operand) → AllSuit (ArgumentKind.Moment ∷ []) operands → AllUncarried operands
one_moment [] suit = tt
one_moment (operand ∷ []) suit = (moment_uncarried operand.range.may_fault operand.kind suit.0, tt)
one_moment (operand ∷ other ∷ operands) suit = absurd suit.1

no_time : (operands : List Operand) → AllSuit [] operands → AllUncarried operands
no_time [] suit = tt
no_time (operand ∷ operands) suit = absurd suit

pub times_uncarried : (function : Function) (operands : List Operand) → IsTimeFunction function → AllSuit (row_of function).arguments operands → AllUncarried operands
times_uncarried Function.Year operands is suit = one_time operands suit
times_uncarried Function.Month operands is suit = one_time operands suit
times_uncarried Function.Day operands is suit = one_time operands suit
times_uncarried Function.Hour operands is suit = one_moment operands suit
times_uncarried Function.Minute operands is suit = one_moment operands suit
times_uncarried Function.Second operands is suit = one_moment operands suit
times_uncarried Function.TotalOffsetMinutes operands is suit = one_moment operands suit
times_uncarried Function.Date operands is suit = one_moment operands suit
times_uncarried Function.Now operands is suit = no_time operands suit
times_uncarried function operands is suit = absurd is
