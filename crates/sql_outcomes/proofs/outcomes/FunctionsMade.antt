-- What functions make: the functions of SQL what the filter's do, and counts of characters before they are bound to
-- Int32.
use Rattle.sql_outcomes.proofs.Common.{SqlType, Kind, IsOfKind, ◌≡◌, ◌≢◌, inl, inr, ◌++◌, ◌∷◌, [], ℕ, ℤ, pos, negsuc, List, Bool, true, false, Option, Some, None, Result, Ok, Err, length, length-append, refl, sym, ap, subst, ◌∙◌, arith, FitsSigned, ◌<ℤ◌, ◌≤ℤ◌, slice_get, w32, chars, by_lt_z, ints, Date, MomentParts, IsNumberOf, Val, date, moment, null, text, whole, PrimitiveType, OfText, OfTexts, number_outcome, number_val, CallGives, UnlessNull, has_null, FunctionGives, GivesCount, Outcome, gives, overflow, ComesWithin, not3, IsPlaceOf, ArithFault, HoldsCount, unbounded, Range, Function, ChoiceGives, GivesInRange, truth, OfGiven, SqlFunctionGives, OfDateAlone, OfMomentAlone, SqlFunction, Operand, AreOfKinds, IsCountOf, IsCounting, IsFirstWithin, IsSqlFunctionOf, IsUnbound, IsUncounted}

-- ---- the functions of SQL

-- what they make of values that are not null, and null of null
module _ (now : MomentParts) (function : Function) (sql : SqlFunction) (values : List Val) (o : Outcome) where
  record Makes (b : Bool) : Type 0 where
    x : Outcome
    given : UnlessNull b (OfGiven now sql values) x
    before : IsUncounted function values x o

  by_flag : ((b : Bool) → has_null values ≡ b → UnlessNull b (FunctionGives now function values) o → Makes b) → CallGives now function values o
      → (x : Outcome) × SqlFunctionGives now sql values x × IsUncounted function values x o
  by_flag makes given = let m = makes (has_null values) refl given in (m.x, m.given, m.before)

pub one_text : (values : List Val) (Goes : List ℕ → Outcome → Type 0) (o : Outcome) → OfText Goes values o → (s : List ℕ) × (values ≡ text s ∷ []) × Goes s o
one_text (text s ∷ []) Goes o given = (s, refl, given)
one_text _ Goes o given = absurd given

pub two_texts : (values : List Val) (Goes : List ℕ → List ℕ → Outcome → Type 0) (o : Outcome) → OfTexts Goes values o → (s : List ℕ) × (t : List ℕ) × (values ≡ text s ∷ text t ∷ []) × Goes s t o
two_texts (text s ∷ text t ∷ []) Goes o given = (s, t, refl, given)
two_texts _ Goes o given = absurd given

-- the offset of a part is -1 at least, and no farther than the text goes
place_within : (s t : List ℕ) (n : ℤ) → IsPlaceOf s t n → (negsuc 0 ≤ℤ n) × (n ≤ℤ pos (length s))
place_within s t (pos k) is =
    let count : length s ≡ length (is.0.before ++ (t ++ is.0.behind)) = ap length is.0.split in
    let parts = length-append is.0.before (t ++ is.0.behind) in
    let front : length is.0.before ≡ k = is.0.counted in
    (omega (arith, ints), omega (arith, ints, count, parts, front))
place_within s t (negsuc k) is = let zero_it : k ≡ 0 = is.0 in (omega (arith, ints, zero_it), omega (arith, ints))

length_makes : (now : MomentParts) (values : List Val) (o : Outcome) (b : Bool) → UnlessNull b (FunctionGives now Function.Length values) o → Makes now Function.Length SqlFunction.Length values o b
length_makes now values o true given = record { x = gives null; given = refl; before = inl (refl, given) }
length_makes now values o false given =
    let found = one_text values (λ s. GivesCount (pos (length (chars s)))) o given in
    let n = pos (length (chars found.0)) in
    record {
      x = gives (whole n);
      given = subst (λ (vs : List Val). OfText (λ s p. p ≡ gives (whole (pos (length (chars s))))) vs (gives (whole n))) (sym found.1) refl;
      before = inr (n, refl, subst (λ (vs : List Val). IsCountOf vs n) (sym found.1) (omega (arith, ints), omega (arith, ints)), found.2);
    }

index_makes : (now : MomentParts) (values : List Val) (o : Outcome) (b : Bool) → UnlessNull b (FunctionGives now Function.IndexOf values) o → Makes now Function.IndexOf SqlFunction.IndexOf values o b
index_makes now values o true given = record { x = gives null; given = refl; before = inl (refl, given) }
index_makes now values o false given =
    let found = two_texts values (λ s t p. (n : ℤ) × IsPlaceOf (chars s) (chars t) n × GivesCount n p) o given in
    let n = found.3.0 in
    record {
      x = gives (whole n);
      given = subst (λ (vs : List Val). OfTexts (λ s t p. (k : ℤ) × IsPlaceOf (chars s) (chars t) k × (p ≡ gives (whole k))) vs (gives (whole n))) (sym found.2) (n, found.3.1, refl);
      before = inr (n, refl, subst (λ (vs : List Val). IsCountOf vs n) (sym found.2) (place_within (chars found.0) (chars found.1) n found.3.1), found.3.2);
    }

uncounted : (function : Function) (values : List Val) (o : Outcome) → (IsCounting function → ⊥) → IsUncounted function values o o
uncounted Function.Length values o other = absurd (other tt)
uncounted Function.IndexOf values o other = absurd (other tt)
uncounted function values o other = refl

module _ (operands : List Operand) where
  pub is_length : IsSqlFunctionOf Function.Length operands SqlFunction.Length
  is_length now values o kinds given = by_flag now Function.Length SqlFunction.Length values o (λ b same g. length_makes now values o b g) given

  pub is_index_of : IsSqlFunctionOf Function.IndexOf operands SqlFunction.IndexOf
  is_index_of now values o kinds given = by_flag now Function.IndexOf SqlFunction.IndexOf values o (λ b same g. index_makes now values o b g) given

  pub is_time : (function : Function) (sql : SqlFunction) → ((now : MomentParts) (values : List Val) (o : Outcome) → AreOfKinds operands values → CallGives now function values o → SqlFunctionGives now sql values o)
      → (IsCounting function → ⊥) → IsSqlFunctionOf function operands sql
  is_time function sql means other now values o kinds given = (o, means now values o kinds given, uncounted function values o other)

  pub made_alike : (function own : Function) (sql : SqlFunction) → function ≡ own → ((now : MomentParts) (values : List Val) (o : Outcome) → AreOfKinds operands values → CallGives now own values o → SqlFunctionGives now sql values o) → (IsCounting own → ⊥) → IsSqlFunctionOf function operands sql
  made_alike function own sql is means other = subst (λ (f : Function). IsSqlFunctionOf f operands sql) (sym is) (is_time own sql means other)

-- ---- counts that are bound to Int32

-- what a check of the type makes of it
pub record CountParts (x o : Outcome) : Type 0 where
  pub number : Option ℤ
  pub inside : Option Bool
  pub is : x ≡ gives (number_val number)
  pub inside_given : GivesInRange PrimitiveType.Int32 number (truth inside)
  pub given : ChoiceGives (not3 inside) overflow (gives (number_val number)) o

number_parts : (n : ℤ) (x o : Outcome) → x ≡ gives (whole n) → GivesCount n o → CountParts x o
number_parts n x o is given = by given.0 given.1 given.2
  where
    by : (answer : Result (Option ℤ) ArithFault) → ComesWithin PrimitiveType.Int32 n answer → o ≡ number_outcome answer → CountParts x o
    by (Ok m) within comes = record {
      number = Some n;
      inside = Some true;
      is = is;
      inside_given = (λ is_so. within.1, λ inside. refl);
      given = comes ∙ ap (λ (k : Option ℤ). gives (number_val k)) within.0;
    }
    by (Err f) within comes = record {
      number = Some n;
      inside = Some false;
      is = is;
      inside_given = (λ is_so. absurd (cc), λ inside. absurd (within.1 inside));
      given = comes ∙ ap (λ (g : ArithFault). number_outcome (Err g)) within.0;
    }

pub count_parts : (values : List Val) (x o : Outcome) → IsUnbound values x o → CountParts x o
count_parts values x o (inl none) = record { number = None; inside = None; is = none.0; inside_given = refl; given = none.1 }
count_parts values x o (inr count) = number_parts count.0 x o count.1 count.3

-- the first operand has that range
abbrev pub IsOfRange : Range → List Operand → Type 0
IsOfRange range [] = ⊥
IsOfRange range (operand ∷ operands) = operand.range ≡ range

-- one that lies within the type is the outcome
module _ (range : Range) (small : pos 2_147_483_647 <ℤ range.high → ⊥) where
  bound_count : (length_of : ℕ) (n : ℤ) → HoldsCount range length_of → negsuc 0 ≤ℤ n → n ≤ℤ pos length_of → IsNumberOf PrimitiveType.Int32 n
  bound_count length_of n holds low high =
      let at_most : range.high ≤ℤ pos 2_147_483_647 = by_lt_z (pos 2_147_483_647) range.high (λ over. absurd (small over)) (λ under. under) in
      let most : range.high <ℤ unbounded = omega (arith, ints, at_most) in
      let up : pos length_of ≤ℤ range.high = holds.1 most in
      let fits : FitsSigned w32 n = omega (arith, ints, at_most, up, low, high) in
      fits

  given_count : (n : ℤ) (o : Outcome) → IsNumberOf PrimitiveType.Int32 n → GivesCount n o → o ≡ gives (whole n)
  given_count n o within given = by given.0 given.1 given.2
    where
      by : (answer : Result (Option ℤ) ArithFault) → ComesWithin PrimitiveType.Int32 n answer → o ≡ number_outcome answer → o ≡ gives (whole n)
      by (Ok m) comes is = is ∙ ap (λ (k : Option ℤ). gives (number_val k)) comes.0
      by (Err f) comes is = absurd (comes.1 within)

  pub small_count : (operands : List Operand) (values : List Val) (x o : Outcome) → IsOfRange range operands → IsFirstWithin operands values → IsUnbound values x o → x ≡ o
  small_count operands values x o of_range within (inl none) = none.0 ∙ sym none.1
  small_count operands values x o of_range within (inr count) = count.1 ∙ sym (given_count count.0 o (of_first operands values count.0 of_range within count.2) count.3)
    where
      of_first : (ops : List Operand) (vs : List Val) (n : ℤ) → IsOfRange range ops → IsFirstWithin ops vs → IsCountOf vs n → IsNumberOf PrimitiveType.Int32 n
      of_first [] vs n is first_within of_count = absurd is
      of_first (operand ∷ ops) (text s ∷ vs) n is first_within of_count =
          bound_count (length (chars s)) n (subst (λ (r : Range). HoldsCount r (length (chars s))) is first_within) of_count.0 of_count.1
      of_first (operand ∷ ops) _ n is first_within of_count = absurd of_count

-- a function that makes no count
pub no_count : (function : Function) (values : List Val) (x o : Outcome) → (IsCounting function → ⊥) → IsUncounted function values x o → x ≡ o
no_count Function.Length values x o other before = absurd (other tt)
no_count Function.IndexOf values x o other before = absurd (other tt)
no_count function values x o other before = before

pub counting : (function : Function) (values : List Val) (x o : Outcome) → IsCounting function → IsUncounted function values x o → IsUnbound values x o
counting Function.Length values x o is before = before
counting Function.IndexOf values x o is before = before
counting function values x o is before = absurd is

-- ---- parts of a date alone, and of a moment alone

-- one date, or one moment
abbrev pub IsOneTime : List Val → Type 0
IsOneTime (date d ∷ []) = Unit {0}
IsOneTime (moment m ∷ []) = Unit {0}
IsOneTime values = ⊥

pub year_one : (now : MomentParts) (values : List Val) (o : Outcome) → FunctionGives now Function.Year values o → IsOneTime values
year_one now (date d ∷ []) o given = tt
year_one now (moment m ∷ []) o given = tt
year_one now values o given = absurd given

pub month_one : (now : MomentParts) (values : List Val) (o : Outcome) → FunctionGives now Function.Month values o → IsOneTime values
month_one now (date d ∷ []) o given = tt
month_one now (moment m ∷ []) o given = tt
month_one now values o given = absurd given

pub day_one : (now : MomentParts) (values : List Val) (o : Outcome) → FunctionGives now Function.Day values o → IsOneTime values
day_one now (date d ∷ []) o given = tt
day_one now (moment m ∷ []) o given = tt
day_one now values o given = absurd given

-- a date is of no other kind
date_kind : (kind : Kind) (d : Date) → IsOfKind kind (date d) → kind ≡ Kind.Value SqlType.Date
date_kind Kind.Null d is = let e : date d ≡ null = is in absurd (cc)
date_kind (Kind.Value SqlType.Date) d is = refl
date_kind _ d is = absurd is

first_same : (x operand : Operand) → Some x ≡ Some operand → x ≡ operand
first_same x operand at = cc

module _ (Goes : List Val → Outcome → Type 0) (operand : Operand) where
  of_dates : (operands : List Operand) (values : List Val) (o : Outcome) → slice_get operands 0 ≡ Some operand → operand.kind ≡ Kind.Value SqlType.Date → AreOfKinds operands values → IsOneTime values
      → Goes values o → OfDateAlone Goes values o
  of_dates [] values o at kind kinds one given = let none : None ≡ Some operand = at in absurd (cc)
  of_dates (x ∷ operands) (date d ∷ []) o at kind kinds one given = given
  of_dates (x ∷ operands) (moment m ∷ []) o at kind kinds one given =
      let same : x.kind ≡ Kind.Value SqlType.Date = ap (λ (y : Operand). y.kind) (first_same x operand at) ∙ kind in
      let wrong : IsOfKind (Kind.Value SqlType.Date) (moment m) = subst (λ (k : Kind). IsOfKind k (moment m)) same kinds.0 in
      absurd wrong
  of_dates (x ∷ operands) values o at kind kinds one given = absurd one

  of_moments : (operands : List Operand) (values : List Val) (o : Outcome) → slice_get operands 0 ≡ Some operand → operand.kind ≢ Kind.Value SqlType.Date → AreOfKinds operands values → IsOneTime values
      → Goes values o → OfMomentAlone Goes values o
  of_moments [] values o at kind kinds one given = let none : None ≡ Some operand = at in absurd (cc)
  of_moments (x ∷ operands) (moment m ∷ []) o at kind kinds one given = given
  of_moments (x ∷ operands) (date d ∷ []) o at kind kinds one given =
      absurd (kind (ap (λ (y : Operand). y.kind) (sym (first_same x operand at)) ∙ date_kind x.kind d kinds.0))
  of_moments (x ∷ operands) values o at kind kinds one given = absurd one

  unless_dates : (b : Bool) (operands : List Operand) (values : List Val) (o : Outcome) → slice_get operands 0 ≡ Some operand → operand.kind ≡ Kind.Value SqlType.Date → AreOfKinds operands values
      → (Goes values o → IsOneTime values) → UnlessNull b (Goes values) o → UnlessNull b (OfDateAlone Goes values) o
  unless_dates true operands values o at kind kinds one given = given
  unless_dates false operands values o at kind kinds one given = of_dates operands values o at kind kinds (one given) given

  unless_moments : (b : Bool) (operands : List Operand) (values : List Val) (o : Outcome) → slice_get operands 0 ≡ Some operand → operand.kind ≢ Kind.Value SqlType.Date → AreOfKinds operands values
      → (Goes values o → IsOneTime values) → UnlessNull b (Goes values) o → UnlessNull b (OfMomentAlone Goes values) o
  unless_moments true operands values o at kind kinds one given = given
  unless_moments false operands values o at kind kinds one given = of_moments operands values o at kind kinds (one given) given

-- a year, a month and a day
module _ (operands : List Operand) (operand : Operand) (at : slice_get operands 0 ≡ Some operand) (function own : Function) (is : function ≡ own) (sql : SqlFunction)
    (one : (now : MomentParts) (values : List Val) (o : Outcome) → FunctionGives now own values o → IsOneTime values) where
  pub part_of_date : operand.kind ≡ Kind.Value SqlType.Date → ((now : MomentParts) (values : List Val) (o : Outcome) → UnlessNull (has_null values) (OfDateAlone (FunctionGives now own) values) o → SqlFunctionGives now sql values o) → (IsCounting own → ⊥) → IsSqlFunctionOf function operands sql
  part_of_date kind alone =
      made_alike operands function own sql is
      (λ now values o kinds given. alone now values o (unless_dates (FunctionGives now own) operand (has_null values) operands values o at kind kinds (one now values o) given))

  pub part_of_moment : operand.kind ≢ Kind.Value SqlType.Date → ((now : MomentParts) (values : List Val) (o : Outcome) → UnlessNull (has_null values) (OfMomentAlone (FunctionGives now own) values) o → SqlFunctionGives now sql values o) → (IsCounting own → ⊥) → IsSqlFunctionOf function operands sql
  part_of_moment kind alone =
      made_alike operands function own sql is
      (λ now values o kinds given. alone now values o (unless_moments (FunctionGives now own) operand (has_null values) operands values o at kind kinds (one now values o) given))
