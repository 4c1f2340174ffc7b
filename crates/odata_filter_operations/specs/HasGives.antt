-- What `has` evaluates to (OData URL Conventions 4.01, section 5.1.1.1.10).
use Rattle.std.specs.Prelude.{◌≡◌}
use Rattle.edm_values.specs.Val.{Val, null, member}
use Rattle.odata_functions.specs.Bits.{HasBits}
use Rattle.odata_filter_operations.specs.CompareGives.{GivesTruth}
use Rattle.odata_filter_operations.specs.Outcome.{Outcome, gives}

-- null where a side is null; else whether the left number has all bits of the right one
abbrev pub HasGives : Val → Val → Outcome → Type 0
HasGives null null o = o ≡ gives null
HasGives null (member b) o = o ≡ gives null
HasGives (member a) null o = o ≡ gives null
HasGives (member a) (member b) o = GivesTruth (HasBits a b) o
HasGives _ _ o = ⊥
