-- Which functions take values of which kinds, and what they make of these.
use Rattle.std.proofs.Common.{◌≡◌, ◌⊎◌, ◌∙◌, inl, inr, ℕ, ℤ, List, [], ◌∷◌, Bool, true, Option, Some, Result, String, Global, Ok, Err, refl, sym, ap, subst}
use Rattle.std.specs.Prelude.{IfErr, IfOk, IsSomeAnd, encode_utf8_all, string_bytes}
use Rattle.std.specs.declared.alloc.AllocError.{AllocError}
use Rattle.std.specs.Cow.{cow_str_bytes}
use Rattle.std.specs.Str.{chars}
use Rattle.edm_values.specs.MomentParts.{MomentParts}
use Rattle.edm_values.specs.Val.{Val, null, whole, text, date, moment}
use Rattle.edm_values.specs.declared.datum.Datum.{Datum}
use Rattle.edm_values.specs.declared.datum.Datum.TheVariants as datum
use Rattle.odata_functions.specs.DateParts.{date_of}
use Rattle.odata_functions.specs.DatumVal.{Reading, datum_val}
use Rattle.odata_functions.specs.Texts.{part_from, rest_from}
use Rattle.odata_signatures.specs.declared.argument_kind.ArgumentKind.{ArgumentKind}
use Rattle.odata_signatures.specs.declared.function.Function.{Function}
use Rattle.odata_filter_operations.specs.declared.eval_fault.EvalFault.{EvalFault}
use Rattle.odata_filter_operations.specs.CallGives.{CallGives, UnlessNull, has_null}
use Rattle.odata_filter_operations.specs.FunctionGives.{FunctionGives, GivesCount, GivesText}
use Rattle.odata_filter_operations.specs.Outcome.{Outcome, gives}
use Rattle.odata_filter_operations.specs.FunctionCalls.{Applies, IsArgument}
use Rattle.odata_filter_operations.specs.DatumView.{answer_outcome}
use Rattle.odata_filter_operations.specs.Reports.{Reports}
use Rattle.odata_filter_operations.proofs.values.Holding.{goes_there}

-- a text and a number are taken by `substring` alone
pub of_text_and_number : (function : Function) (t : List ℕ) (n : ℤ) → Applies function (text t ∷ whole n ∷ []) → function ≡ Function.Substring
of_text_and_number Function.Substring t n applies = refl
of_text_and_number Function.Contains t n applies = absurd applies.are.1.0
of_text_and_number Function.StartsWith t n applies = absurd applies.are.1.0
of_text_and_number Function.EndsWith t n applies = absurd applies.are.1.0
of_text_and_number Function.IndexOf t n applies = absurd applies.are.1.0
of_text_and_number Function.Concat t n applies = absurd applies.are.1.0
of_text_and_number Function.Length t n applies = absurd applies.are.1
of_text_and_number Function.Trim t n applies = absurd applies.are.1
of_text_and_number Function.ToLower t n applies = absurd applies.are.1
of_text_and_number Function.ToUpper t n applies = absurd applies.are.1
of_text_and_number Function.Now t n applies = absurd applies.are
of_text_and_number _ t n applies = absurd applies.are.0

-- and three values
pub of_three : (function : Function) (v w x : Val) → Applies function (v ∷ w ∷ x ∷ []) → function ≡ Function.Substring
of_three Function.Substring v w x applies = refl
of_three Function.Contains v w x applies = absurd applies.are.1.1
of_three Function.StartsWith v w x applies = absurd applies.are.1.1
of_three Function.EndsWith v w x applies = absurd applies.are.1.1
of_three Function.IndexOf v w x applies = absurd applies.are.1.1
of_three Function.Concat v w x applies = absurd applies.are.1.1
of_three Function.Now v w x applies = absurd applies.are
of_three _ v w x applies = absurd applies.are.1

-- a value that no function takes first
abbrev pub IsWrongFirst : Val → Type 0
IsWrongFirst null = ⊥
IsWrongFirst (text t) = ⊥
IsWrongFirst (date d) = ⊥
IsWrongFirst (moment m) = ⊥
IsWrongFirst _ = Unit {0}

text_wrong : (v : Val) → IsWrongFirst v → IsArgument ArgumentKind.Text v → ⊥
text_wrong null wrong is = wrong
text_wrong (text t) wrong is = wrong
text_wrong _ wrong is = is

dated_wrong : (v : Val) → IsWrongFirst v → IsArgument ArgumentKind.DateOrMoment v → ⊥
dated_wrong null wrong is = wrong
dated_wrong (date d) wrong is = wrong
dated_wrong (moment m) wrong is = wrong
dated_wrong _ wrong is = is

moment_wrong : (v : Val) → IsWrongFirst v → IsArgument ArgumentKind.Moment v → ⊥
moment_wrong null wrong is = wrong
moment_wrong (moment m) wrong is = wrong
moment_wrong _ wrong is = is

wrong_first : (function : Function) (v : Val) (more : List Val) → IsWrongFirst v → Applies function (v ∷ more) → ⊥
wrong_first Function.Contains v more wrong applies = text_wrong v wrong applies.are.0
wrong_first Function.StartsWith v more wrong applies = text_wrong v wrong applies.are.0
wrong_first Function.EndsWith v more wrong applies = text_wrong v wrong applies.are.0
wrong_first Function.Concat v more wrong applies = text_wrong v wrong applies.are.0
wrong_first Function.Length v more wrong applies = text_wrong v wrong applies.are.0
wrong_first Function.IndexOf v more wrong applies = text_wrong v wrong applies.are.0
wrong_first Function.Substring v more wrong applies = text_wrong v wrong applies.are.0
wrong_first Function.Trim v more wrong applies = text_wrong v wrong applies.are.0
wrong_first Function.ToLower v more wrong applies = text_wrong v wrong applies.are.0
wrong_first Function.ToUpper v more wrong applies = text_wrong v wrong applies.are.0
wrong_first Function.Year v more wrong applies = dated_wrong v wrong applies.are.0
wrong_first Function.Month v more wrong applies = dated_wrong v wrong applies.are.0
wrong_first Function.Day v more wrong applies = dated_wrong v wrong applies.are.0
wrong_first Function.Hour v more wrong applies = moment_wrong v wrong applies.are.0
wrong_first Function.Minute v more wrong applies = moment_wrong v wrong applies.are.0
wrong_first Function.Second v more wrong applies = moment_wrong v wrong applies.are.0
wrong_first Function.TotalOffsetMinutes v more wrong applies = moment_wrong v wrong applies.are.0
wrong_first Function.Date v more wrong applies = moment_wrong v wrong applies.are.0
wrong_first Function.Now v more wrong applies = applies.are

-- so one that is none of what is taken is null
pub null_first : (reading : Reading) (function : Function) (first : Datum) (more : List Val) → Applies function (datum_val reading first ∷ more)
    → ((t : _) → first ≡ datum.Text t → ⊥) → ((d : _) → first ≡ datum.Date d → ⊥) → ((m : _) → first ≡ datum.Moment m → ⊥) → datum_val reading first ≡ null
null_first reading function datum.Null more applies b c d = refl
null_first reading function (datum.Text t) more applies b c d = absurd (b t refl)
null_first reading function (datum.Date x) more applies b c d = absurd (c x refl)
null_first reading function (datum.Moment m) more applies b c d = absurd (d m refl)
null_first reading function other more applies b c d = absurd (wrong_first function (datum_val reading other) more tt applies)

-- a function that takes two values takes a text first
pub text_first : (function : Function) (v w : Val) (more : List Val) → Applies function (v ∷ w ∷ more) → IsArgument ArgumentKind.Text v
text_first Function.Contains v w more applies = applies.are.0
text_first Function.StartsWith v w more applies = applies.are.0
text_first Function.EndsWith v w more applies = applies.are.0
text_first Function.Concat v w more applies = applies.are.0
text_first Function.Length v w more applies = absurd applies.are.1
text_first Function.IndexOf v w more applies = applies.are.0
text_first Function.Substring v w more applies = applies.are.0
text_first Function.Trim v w more applies = absurd applies.are.1
text_first Function.ToLower v w more applies = absurd applies.are.1
text_first Function.ToUpper v w more applies = absurd applies.are.1
text_first Function.Year v w more applies = absurd applies.are.1
text_first Function.Month v w more applies = absurd applies.are.1
text_first Function.Day v w more applies = absurd applies.are.1
text_first Function.Hour v w more applies = absurd applies.are.1
text_first Function.Minute v w more applies = absurd applies.are.1
text_first Function.Second v w more applies = absurd applies.are.1
text_first Function.TotalOffsetMinutes v w more applies = absurd applies.are.1
text_first Function.Date v w more applies = absurd applies.are.1
text_first Function.Now v w more applies = absurd applies.are

-- and a text or a number after it
pub text_or_number : (function : Function) (v w : Val) (more : List Val) → Applies function (v ∷ w ∷ more) → IsArgument ArgumentKind.Text w ⊎ IsArgument ArgumentKind.Number w
text_or_number Function.Contains v w more applies = inl applies.are.1.0
text_or_number Function.StartsWith v w more applies = inl applies.are.1.0
text_or_number Function.EndsWith v w more applies = inl applies.are.1.0
text_or_number Function.Concat v w more applies = inl applies.are.1.0
text_or_number Function.Length v w more applies = absurd applies.are.1
text_or_number Function.IndexOf v w more applies = inl applies.are.1.0
text_or_number Function.Substring v w more applies = inr applies.are.1.0
text_or_number Function.Trim v w more applies = absurd applies.are.1
text_or_number Function.ToLower v w more applies = absurd applies.are.1
text_or_number Function.ToUpper v w more applies = absurd applies.are.1
text_or_number Function.Year v w more applies = absurd applies.are.1
text_or_number Function.Month v w more applies = absurd applies.are.1
text_or_number Function.Day v w more applies = absurd applies.are.1
text_or_number Function.Hour v w more applies = absurd applies.are.1
text_or_number Function.Minute v w more applies = absurd applies.are.1
text_or_number Function.Second v w more applies = absurd applies.are.1
text_or_number Function.TotalOffsetMinutes v w more applies = absurd applies.are.1
text_or_number Function.Date v w more applies = absurd applies.are.1
text_or_number Function.Now v w more applies = absurd applies.are

-- a value of the code that may be a text is null where it is none, and likewise a number
pub null_text : (reading : Reading) (value : Datum) → IsArgument ArgumentKind.Text (datum_val reading value) → ((t : _) → value ≡ datum.Text t → ⊥) → datum_val reading value ≡ null
null_text reading datum.Null is other = refl
null_text reading (datum.Text t) is other = absurd (other t refl)
null_text reading _ is other = absurd is

pub null_number : (reading : Reading) (value : Datum) → IsArgument ArgumentKind.Number (datum_val reading value) → ((n : ℤ) → value ≡ datum.Int n → ⊥) → datum_val reading value ≡ null
null_number reading datum.Null is other = refl
null_number reading (datum.Int n) is other = absurd (other n refl)
null_number reading _ is other = absurd is

pub null_text_or_number : (reading : Reading) (value : Datum) → IsArgument ArgumentKind.Text (datum_val reading value) ⊎ IsArgument ArgumentKind.Number (datum_val reading value)
    → ((t : _) → value ≡ datum.Text t → ⊥) → ((n : ℤ) → value ≡ datum.Int n → ⊥) → datum_val reading value ≡ null
null_text_or_number reading value (inl is) not_text not_number = null_text reading value is not_text
null_text_or_number reading value (inr is) not_text not_number = null_number reading value is not_number

-- ---- a function that takes a moment, and asks for nothing but its date

pub of_its_date : (function : Function) (m : MomentParts) → Applies function (moment m ∷ []) → (function ≡ Function.Hour → ⊥) → (function ≡ Function.Minute → ⊥) → (function ≡ Function.Second → ⊥) → (function ≡ Function.TotalOffsetMinutes → ⊥) → (function ≡ Function.Date → ⊥)
    → Applies function (date (date_of m) ∷ [])
of_its_date Function.Year m applies a b c d e = record { enough = applies.enough; are = (applies.are.0.0, tt) }
of_its_date Function.Month m applies a b c d e = record { enough = applies.enough; are = (applies.are.0.0, tt) }
of_its_date Function.Day m applies a b c d e = record { enough = applies.enough; are = (applies.are.0.0, tt) }
of_its_date Function.Hour m applies a b c d e = absurd (a refl)
of_its_date Function.Minute m applies a b c d e = absurd (b refl)
of_its_date Function.Second m applies a b c d e = absurd (c refl)
of_its_date Function.TotalOffsetMinutes m applies a b c d e = absurd (d refl)
of_its_date Function.Date m applies a b c d e = absurd (e refl)
of_its_date Function.Now m applies a b c d e = absurd applies.are
of_its_date _ m applies a b c d e = absurd applies.are.0

pub by_its_date : (now : MomentParts) (function : Function) (m : MomentParts) → Applies function (moment m ∷ []) → (function ≡ Function.Hour → ⊥) → (function ≡ Function.Minute → ⊥) → (function ≡ Function.Second → ⊥) → (function ≡ Function.TotalOffsetMinutes → ⊥) → (function ≡ Function.Date → ⊥)
    → (o : Outcome) → FunctionGives now function (date (date_of m) ∷ []) o → FunctionGives now function (moment m ∷ []) o
by_its_date now Function.Year m applies a b c d e o given = given
by_its_date now Function.Month m applies a b c d e o given = given
by_its_date now Function.Day m applies a b c d e o given = given
by_its_date now Function.Hour m applies a b c d e o given = absurd (a refl)
by_its_date now Function.Minute m applies a b c d e o given = absurd (b refl)
by_its_date now Function.Second m applies a b c d e o given = absurd (c refl)
by_its_date now Function.TotalOffsetMinutes m applies a b c d e o given = absurd (d refl)
by_its_date now Function.Date m applies a b c d e o given = absurd (e refl)
by_its_date now Function.Now m applies a b c d e o given = absurd applies.are
by_its_date now _ m applies a b c d e o given = absurd applies.are.0

-- ---- what is given of the values of arguments

-- a number that is what it is asked to be
pub number_gives : (reported : Option Outcome) (IsIt : ℤ → Type 0) (n : ℤ) → IsIt n → IsSomeAnd reported (GivesCount n) → IsSomeAnd reported (λ o. (m : ℤ) × IsIt m × GivesCount m o)
number_gives reported IsIt n is given = goes_there reported (GivesCount n) (λ o. (m : ℤ) × IsIt m × GivesCount m o) (λ o gives_it. (n, is, gives_it)) given

pub number_same : (reported : Option Outcome) (n m : ℤ) → n ≡ m → IsSomeAnd reported (GivesCount n) → IsSomeAnd reported (GivesCount m)
number_same reported n m same given = subst (λ (k : ℤ). IsSomeAnd reported (GivesCount k)) same given

-- null where some value is null
pub null_gives : (now : MomentParts) (function : Function) (values : List Val) → has_null values ≡ true → CallGives now function values (gives null)
null_gives now function values is = subst (λ (b : Bool). UnlessNull b (FunctionGives now function values) (gives null)) (sym is) refl

pub null_behind : (v : Val) (more : List Val) → has_null more ≡ true → has_null (v ∷ more) ≡ true
null_behind null more is = refl
null_behind _ more is = is

pub null_here : (v : Val) (more : List Val) → v ≡ null → has_null (v ∷ more) ≡ true
null_here v more is = rw is refl

-- a text that is known by its characters
pub text_same : (b cs : List ℕ) → chars b ≡ cs → text (encode_utf8_all (chars b)) ≡ text (encode_utf8_all cs)
text_same b cs same = ap (λ (xs : List ℕ). text (encode_utf8_all xs)) same

-- the kinds of three values
pub second_of_three : (function : Function) (v w x : Val) → Applies function (v ∷ w ∷ x ∷ []) → IsArgument ArgumentKind.Number w × IsArgument ArgumentKind.Number x
second_of_three function v w x applies =
    let at = subst (λ (f : Function). Applies f (v ∷ w ∷ x ∷ [])) (of_three function v w x applies) applies in
    (at.are.1.0, at.are.1.1.0)

-- a part of a text
pub part_gives : (now : MomentParts) (r s : Reading) (function : Function) (first second third made : Datum) (t : _) (part : List ℕ) (n m : ℤ)
    → function ≡ Function.Substring → first ≡ datum.Text t → second ≡ datum.Int n → third ≡ datum.Int m
    → datum_val s made ≡ text (encode_utf8_all (chars part)) → chars part ≡ part_from n m (chars (cow_str_bytes t))
    → CallGives now function (datum_val r first ∷ datum_val r second ∷ datum_val r third ∷ []) (gives (datum_val s made))
part_gives now r s function first second third made t part n m is a b c reported same =
    rw (is, a, b, c) (ap gives (reported ∙ text_same part (part_from n m (chars (cow_str_bytes t))) same))

pub rest_gives : (now : MomentParts) (r s : Reading) (function : Function) (first second made : Datum) (t : _) (part : List ℕ) (n : ℤ)
    → function ≡ Function.Substring → first ≡ datum.Text t → second ≡ datum.Int n
    → datum_val s made ≡ text (encode_utf8_all (chars part)) → chars part ≡ rest_from n (chars (cow_str_bytes t))
    → CallGives now function (datum_val r first ∷ datum_val r second ∷ []) (gives (datum_val s made))
rest_gives now r s function first second made t part n is a b reported same =
    rw (is, a, b) (ap gives (reported ∙ text_same part (rest_from n (chars (cow_str_bytes t))) same))

-- two texts as they are borrowed
pub texts_apply : (r : Reading) (function : Function) (first second : Datum) (t u : _) (a b : List ℕ) → first ≡ datum.Text t → second ≡ datum.Text u
    → a ≡ cow_str_bytes t → b ≡ cow_str_bytes u → Applies function (datum_val r first ∷ datum_val r second ∷ []) → Applies function (text a ∷ text b ∷ [])
texts_apply r function first second t u a b first_is second_is a_is b_is applies =
    let known : Applies function (text (cow_str_bytes t) ∷ text (cow_str_bytes u) ∷ []) =
    subst (λ (d : Datum). Applies function (text (cow_str_bytes t) ∷ datum_val r d ∷ [])) second_is
    (subst (λ (d : Datum). Applies function (datum_val r d ∷ datum_val r second ∷ [])) first_is applies) in
    rw (a_is, b_is) known

pub texts_report : (now : MomentParts) (r : Reading) (function : Function) (first second : Datum) (t u : _) (a b : List ℕ) (Takes : Type 0) (reported : Option Outcome)
    → first ≡ datum.Text t → second ≡ datum.Text u → a ≡ cow_str_bytes t → b ≡ cow_str_bytes u → Reports Takes (FunctionGives now function (text a ∷ text b ∷ [])) reported
    → Reports Takes (CallGives now function (datum_val r first ∷ datum_val r second ∷ [])) reported
texts_report now r function first second t u a b Takes reported first_is second_is a_is b_is given =
    let known : Reports Takes (FunctionGives now function (text (cow_str_bytes t) ∷ text (cow_str_bytes u) ∷ [])) reported =
    subst (λ (x : List ℕ). Reports Takes (FunctionGives now function (text (cow_str_bytes t) ∷ text x ∷ [])) reported) b_is
    (subst (λ (x : List ℕ). Reports Takes (FunctionGives now function (text x ∷ text b ∷ [])) reported) a_is given) in
    subst (λ (d : Datum). Reports Takes (CallGives now function (datum_val r d ∷ datum_val r second ∷ [])) reported) (sym first_is)
    (subst (λ (d : Datum). Reports Takes (CallGives now function (text (cow_str_bytes t) ∷ datum_val r d ∷ [])) reported) (sym second_is) known)

pub asked_substring : (r : Reading) (function : Function) (first second : Datum) (t : _) (n : ℤ) → first ≡ datum.Text t → second ≡ datum.Int n
    → Applies function (datum_val r first ∷ datum_val r second ∷ []) → function ≡ Function.Substring
asked_substring r function first second t n first_is second_is applies =
    of_text_and_number function (cow_str_bytes t) n
    (subst (λ (d : Datum). Applies function (text (cow_str_bytes t) ∷ datum_val r d ∷ [])) second_is
    (subst (λ (d : Datum). Applies function (datum_val r d ∷ datum_val r second ∷ [])) first_is applies))

-- a text that was made, or running out of memory for it
pub made_reports : (s : Reading) (answer : Result (String Global) AllocError) (result : Result Datum EvalFault) (cs : List ℕ)
    → IfOk answer (λ t. chars (string_bytes t) ≡ cs)
    → IfOk answer (λ t. (reading : Reading) → answer_outcome (datum_val reading) result ≡ Some (gives (text (encode_utf8_all (chars (string_bytes t))))))
    → IfErr answer (λ refused. result ≡ Err EvalFault.Memory) → Reports (Unit {0}) (GivesText cs) (answer_outcome (datum_val s) result)
made_reports s (Ok t) result cs same reported memory = rw (reported s) (ap (λ (xs : List ℕ). gives (text (encode_utf8_all xs))) same)
made_reports s (Err refused) result cs same reported memory = rw memory tt
