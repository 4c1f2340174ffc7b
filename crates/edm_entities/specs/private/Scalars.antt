-- For private clauses: JSON values without parts, as the code reports them.
use Rattle.std.specs.Prelude.{◌≡◌, ℤ, Some, None, FitsSigned}
use Rattle.std.specs.Int.{w64}
use Rattle.serde_json.specs.Data.{Data, Num, boolean, number, string}
use Rattle.serde_json.specs.Find.{as_bool, as_number, as_str}
use Rattle.edm_entities.specs.FitsPrimitive.{whole_number}
use Rattle.edm_entities.specs.declared.scalar.JsonNumber.{JsonNumber}
use Rattle.edm_entities.specs.declared.scalar.JsonNumber.TheVariants.{Whole, OutsideInt64, Fraction}
use Rattle.edm_entities.specs.declared.scalar.Scalar.{Scalar}
use Rattle.edm_entities.specs.declared.scalar.Scalar.TheVariants.{Truth, Number, Text, Other}

-- a number, as far as it is a whole one
pub record IsNumberAs (json : Data) (number_is : Num) (P : Type 0) : Type 0 where
  pub is_number : json ≡ number number_is
  pub holds : P

abbrev pub IsJsonNumber : JsonNumber → Data → Type 0
IsJsonNumber (Whole n) json = (m : Num) × IsNumberAs json m (whole_number json ≡ Some n)
IsJsonNumber OutsideInt64 json =
    (m : Num) × IsNumberAs json m ((n : ℤ) × (whole_number json ≡ Some n) × (¬ (FitsSigned w64 n)))
IsJsonNumber Fraction json = (m : Num) × IsNumberAs json m (whole_number json ≡ None)

abbrev pub IsScalar : Scalar → Data → Type 0
IsScalar (Truth b) json = json ≡ boolean b
IsScalar (Number n) json = IsJsonNumber n json
IsScalar (Text s) json = json ≡ string s.now
IsScalar Other json = (as_bool json ≡ None) × (as_number json ≡ None) × (as_str json ≡ None)
