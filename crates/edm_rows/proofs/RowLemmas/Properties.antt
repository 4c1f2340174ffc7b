-- What was read of a property, from what was read of its value.
use Rattle.std.proofs.Common.{Bool, Some}
use Rattle.serde_json.specs.Data.{Data, null as json_null, boolean as json_boolean, number as json_number, string as json_string, array as json_array, object as json_object}
use Rattle.edm_values.specs.Val.{Val, null, boolean, whole, text, date, moment, guid, member, fields, items}
use Rattle.csdl_schema.specs.ExprType.{single, SingleType, primitive, enumeration, structured}
use Rattle.csdl_schema.specs.SchemaModel.{Slots}
use Rattle.csdl_schema.specs.declared.property.PropertyKind.TheVariants as kind
use Rattle.edm_entities.specs.Fits.{FitsFound, FitsType}

pub found_by : (json : Data) (takes : Bool) (v : Val) (P Q : Data → Type 0) → ((found : Data) → P found → Q found) → FitsFound (Some json) takes v P → FitsFound (Some json) takes v Q
found_by json_null takes v P Q by fits = fits
found_by (json_boolean b) takes v P Q by fits = by (json_boolean b) fits
found_by (json_number n) takes v P Q by fits = by (json_number n) fits
found_by (json_string s) takes v P Q by fits = by (json_string s) fits
found_by (json_array ds) takes v P Q by fits = by (json_array ds) fits
found_by (json_object ms) takes v P Q by fits = by (json_object ms) fits

-- how nullable items are says nothing of a single value
pub single_fits : (slots : Slots) (nullable other : Bool) (type : SingleType) (json : Data) (v : Val) → FitsType slots nullable (single type) json v → FitsType slots other (single type) json v
single_fits slots nullable other (primitive p) json v fits = fits
single_fits slots nullable other (enumeration name) json v fits = fits
single_fits slots nullable other (structured name) json (fields f) fits = fits
single_fits slots nullable other (structured name) json (items vs) fits = absurd fits
single_fits slots nullable other (structured name) json null fits = absurd fits
single_fits slots nullable other (structured name) json (boolean b) fits = absurd fits
single_fits slots nullable other (structured name) json (whole n) fits = absurd fits
single_fits slots nullable other (structured name) json (text s) fits = absurd fits
single_fits slots nullable other (structured name) json (date d) fits = absurd fits
single_fits slots nullable other (structured name) json (moment m) fits = absurd fits
single_fits slots nullable other (structured name) json (guid g) fits = absurd fits
single_fits slots nullable other (structured name) json (member n) fits = absurd fits
