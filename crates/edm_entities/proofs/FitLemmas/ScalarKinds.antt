-- JSON values without parts by their kinds.
use Rattle.std.proofs.Common.{◌≡◌, ℕ, ℤ, pos, ◌≤◌, ◌^◌, List, Bool, true, false, Option, Some, None, is_some, nat_lt, if◌then◌else◌, refl, ap, sym, subst, arith}
use Rattle.std.proofs.lemmas.Int.{ints}
use Rattle.std.specs.Prelude.{FitsSigned}
use Rattle.std.specs.Int.{w64}
use Rattle.serde_json.specs.Data.{Data, Num, unsigned, negative, float, null, boolean, number, string, array, object, Items}
use Rattle.serde_json.specs.Find.{as_str, as_array, as_i64, as_u64, as_integer}
use Rattle.edm_values.specs.Val.{Val, member}
use Rattle.edm_enumerations.specs.EnumerationModel.{EnumerationModel}
use Rattle.csdl_schema.specs.EnumerationText.{IsValueIn, IsOfUnderlying}
use Rattle.edm_entities.specs.FitsPrimitive.{FitsText, IsMemberText, IsTextFlaw, bad_text}
use Rattle.edm_entities.specs.private.Scalars.{IsNumberAs, IsJsonNumber}
use Rattle.edm_entities.specs.declared.scalar.JsonNumber.{JsonNumber}
use Rattle.edm_entities.specs.declared.scalar.JsonNumber.TheVariants.{Whole, OutsideInt64, Fraction}

pub array_is : (json : Data) (ds : Items) → as_array json ≡ Some ds → json ≡ array ds
array_is (array es) ds is = cc
array_is null ds is = absurd (cc)
array_is (boolean b) ds is = absurd (cc)
array_is (number n) ds is = absurd (cc)
array_is (string t) ds is = absurd (cc)
array_is (object ms) ds is = absurd (cc)

-- ---- numbers

whole_by : (n : ℕ) (z : ℤ) (b : Bool) → (if b then Some (pos n) else None) ≡ Some z → Some (pos n) ≡ Some z
whole_by n z true is = is
whole_by n z false is = absurd (cc)

pub whole_is : (m : Num) (z : ℤ) → as_i64 m ≡ Some z → as_integer m ≡ Some z
whole_is (unsigned n) z is = whole_by n z (nat_lt n (2 ^ 63)) is
whole_is (negative y) z is = is
whole_is (float x) z is = is

outside_by : (n : ℕ) (b : Bool) → b ≡ nat_lt n (2 ^ 63) → (if b then Some (pos n) else None) ≡ None → ¬ (FitsSigned w64 (pos n))
outside_by n true e none within = cc
outside_by n false e none within = let large : 2 ^ 63 ≤ n = grind (arith, e) in absurd (omega (arith, ints))

pub outside_is : (m : Num) → as_i64 m ≡ None → is_some (as_u64 m) ≡ true → (z : ℤ) × (as_integer m ≡ Some z) × (¬ (FitsSigned w64 z))
outside_is (unsigned n) none some = (pos n, refl, outside_by n (nat_lt n (2 ^ 63)) refl none)
outside_is (negative y) none some = absurd (cc)
outside_is (float x) none some = absurd (cc)

pub fraction_is : (m : Num) → as_i64 m ≡ None → is_some (as_u64 m) ≡ false → as_integer m ≡ None
fraction_is (unsigned n) none some = absurd (cc)
fraction_is (negative y) none some = absurd (cc)
fraction_is (float x) none some = refl

no_text_as : (json : Data) (m : Num) (P : Type 0) → IsNumberAs json m P → as_str json ≡ None
no_text_as json m P is = ap as_str is.is_number

-- a number is not a text
pub number_no_text : (n : JsonNumber) (json : Data) → IsJsonNumber n json → as_str json ≡ None
number_no_text (Whole z) json is = no_text_as json is.0 _ is.1
number_no_text OutsideInt64 json is = no_text_as json is.0 _ is.1
number_no_text Fraction json is = no_text_as json is.0 _ is.1

-- ---- texts of enumerations

pub member_read : (e named : Option EnumerationModel) (json : Data) (s : List ℕ) (n : ℤ) (v : Val) → e ≡ named → json ≡ string s → IsValueIn e s n → IsOfUnderlying e n → v ≡ member n
    → FitsText (IsMemberText named) json v
member_read e named json s n v same is value within held =
    (s, ap as_str is, (n, subst (λ (o : Option EnumerationModel). IsValueIn o s n) same value, subst (λ (o : Option EnumerationModel). IsOfUnderlying o n) same within, held))

pub member_none : (e named : Option EnumerationModel) (json : Data) (s : List ℕ) → e ≡ named → json ≡ string s → ((n : ℤ) → ¬ (IsValueIn e s n))
    → IsTextFlaw (IsMemberText named) json bad_text
member_none e named json s same is none =
    (s, ap as_str is, λ value stands. none stands.0 (subst (λ (o : Option EnumerationModel). IsValueIn o s stands.0) (sym same) stands.1))
