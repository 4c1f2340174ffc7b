-- Which values stand where a function may be applied and none is null.
use Rattle.std.proofs.Common.{◌≡◌, ◌≤◌, ℕ, ℤ, List, [], ◌∷◌, false, length, refl, arith}
use Rattle.edm_values.specs.MomentParts.{MomentParts}
use Rattle.edm_values.specs.Val.{Val, null, whole, text, date, moment}
use Rattle.odata_signatures.specs.declared.argument_kind.ArgumentKind.TheVariants.{Text, Number, DateOrMoment, Moment}
use Rattle.odata_filter_operations.specs.CallGives.{has_null}
use Rattle.odata_filter_operations.specs.FunctionCalls.{AreArguments, IsArgument}

-- ---- one value of a kind that is not null

text_form : (v : Val) (more : List Val) → IsArgument Text v → has_null (v ∷ more) ≡ false → (t : List ℕ) × (v ≡ text t) × (has_null more ≡ false)
text_form null more is full = absurd (cc)
text_form (text t) more is full = (t, refl, full)
text_form _ more is full = absurd is

number_form : (v : Val) (more : List Val) → IsArgument Number v → has_null (v ∷ more) ≡ false → (n : ℤ) × (v ≡ whole n) × (has_null more ≡ false)
number_form null more is full = absurd (cc)
number_form (whole n) more is full = (n, refl, full)
number_form _ more is full = absurd is

moment_form : (v : Val) (more : List Val) → IsArgument Moment v → has_null (v ∷ more) ≡ false → (m : MomentParts) × (v ≡ moment m)
moment_form null more is full = absurd (cc)
moment_form (moment m) more is full = (m, refl)
moment_form _ more is full = absurd is

-- a date, or a moment
abbrev pub IsDated : Val → Type 0
IsDated (date d) = Unit {0}
IsDated (moment m) = Unit {0}
IsDated _ = ⊥

dated_form : (v : Val) (more : List Val) → IsArgument DateOrMoment v → has_null (v ∷ more) ≡ false → IsDated v
dated_form null more is full = absurd (cc)
dated_form (date d) more is full = tt
dated_form (moment m) more is full = tt
dated_form _ more is full = absurd is

-- ---- all of them

pub one_text : (values : List Val) → 1 ≤ length values → AreArguments (Text ∷ []) values → has_null values ≡ false → (t : List ℕ) × (values ≡ text t ∷ [])
one_text [] enough are full = absurd (omega arith)
one_text (v ∷ []) enough are full = let form = text_form v [] are.0 full in (form.0, (let same : v ≡ text form.0 = form.1 in cc))
one_text (v ∷ w ∷ more) enough are full = absurd are.1

pub two_texts : (values : List Val) → 2 ≤ length values → AreArguments (Text ∷ Text ∷ []) values → has_null values ≡ false
    → (s : List ℕ) × (t : List ℕ) × (values ≡ text s ∷ text t ∷ [])
two_texts [] enough are full = absurd (omega arith)
two_texts (v ∷ []) enough are full = absurd (omega arith)
two_texts (v ∷ w ∷ []) enough are full =
    let first = text_form v (w ∷ []) are.0 full in
    let second = text_form w [] are.1.0 first.2 in
    let v_is : v ≡ text first.0 = first.1 in
    let w_is : w ≡ text second.0 = second.1 in
    (first.0, second.0, cc)
two_texts (v ∷ w ∷ x ∷ more) enough are full = absurd are.1.1

pub one_moment : (values : List Val) → 1 ≤ length values → AreArguments (Moment ∷ []) values → has_null values ≡ false → (m : MomentParts) × (values ≡ moment m ∷ [])
one_moment [] enough are full = absurd (omega arith)
one_moment (v ∷ []) enough are full = let form = moment_form v [] are.0 full in (form.0, (let same : v ≡ moment form.0 = form.1 in cc))
one_moment (v ∷ w ∷ more) enough are full = absurd are.1

pub one_dated : (values : List Val) → 1 ≤ length values → AreArguments (DateOrMoment ∷ []) values → has_null values ≡ false → (v : Val) × IsDated v × (values ≡ v ∷ [])
one_dated [] enough are full = absurd (omega arith)
one_dated (v ∷ []) enough are full = (v, dated_form v [] are.0 full, refl)
one_dated (v ∷ w ∷ more) enough are full = absurd are.1

-- a text and a number, and perhaps one number more
abbrev pub IsPartAsked : List Val → Type 0
IsPartAsked (text s ∷ whole n ∷ []) = Unit {0}
IsPartAsked (text s ∷ whole n ∷ whole m ∷ []) = Unit {0}
IsPartAsked _ = ⊥

pub part_asked : (values : List Val) → 2 ≤ length values → AreArguments (Text ∷ Number ∷ Number ∷ []) values → has_null values ≡ false → IsPartAsked values
part_asked [] enough are full = absurd (omega arith)
part_asked (v ∷ []) enough are full = absurd (omega arith)
part_asked (null ∷ more) enough are full = absurd (cc)
part_asked (text s ∷ null ∷ more) enough are full = absurd (cc)
part_asked (text s ∷ whole n ∷ []) enough are full = tt
part_asked (text s ∷ whole n ∷ null ∷ more) enough are full = absurd (cc)
part_asked (text s ∷ whole n ∷ whole m ∷ []) enough are full = tt
part_asked (text s ∷ whole n ∷ v ∷ w ∷ more) enough are full = absurd are.1.1.1
part_asked (text s ∷ whole n ∷ _ ∷ more) enough are full = absurd are.1.1.0
part_asked (text s ∷ _ ∷ more) enough are full = absurd are.1.0
part_asked _ enough are full = absurd are.0
