-- The forms in which a node of truth values is put.
use Rattle.std.specs.Prelude.{◌≡◌, pos, true, false}
use Rattle.edm_values.specs.Val.{boolean, whole}
use Rattle.odata_filter_operations.specs.Outcome.{Outcome, gives}
use Rattle.sql_meaning.specs.Codes.{code_of}
use Rattle.sql_forms.specs.declared.terms.Form.{Form}
use Rattle.sql_outcomes.specs.TrueWhere.{IsTrueWhere}

-- its value, its code, or a condition that is true exactly where it is true, or false
abbrev pub IsInForm : Form → Outcome → Outcome → Type 0
IsInForm Form.Truth o x = x ≡ o
IsInForm Form.Code o x = x ≡ gives (whole (pos (code_of o)))
IsInForm Form.Keeps o x = IsTrueWhere (o ≡ gives (boolean true)) x
IsInForm Form.Denies o x = IsTrueWhere (o ≡ gives (boolean false)) x
