-- Tokens that are values without parts.
use Rattle.std.proofs.Common.{false, Some}
use Rattle.serde_json.specs.Data.{Data, null, boolean, number, string, array, object}
use Rattle.edm_values.specs.Val.{Val}
use Rattle.edm_entities.specs.Fits.{FitsFound}

-- what fits where null may not be fits as other JSON does
pub not_null_fits : (json : Data) (v : Val) (P : Data → Type 0) → FitsFound (Some json) false v P → P json
not_null_fits null v P fits = let may = fits.0 in absurd (cc)
not_null_fits (boolean b) v P fits = fits
not_null_fits (number n) v P fits = fits
not_null_fits (string s) v P fits = fits
not_null_fits (array ds) v P fits = fits
not_null_fits (object ms) v P fits = fits
