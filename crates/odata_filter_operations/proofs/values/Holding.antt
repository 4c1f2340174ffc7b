-- What holds of a value that is held, and what is reported where there is one.
use Rattle.std.proofs.Common.{◌≡◌, Option, Some, None, subst, sym}
use Rattle.std.specs.Prelude.{IsSomeAnd}
use Rattle.edm_values.specs.declared.datum.Datum.{Datum}
use Rattle.odata_functions.specs.Comparable.{AreComparableBy}
use Rattle.odata_functions.specs.DatumVal.{Reading, datum_val}
use Rattle.odata_syntax.specs.declared.binary_operator.ComparisonOperator.{ComparisonOperator}
use Rattle.odata_filter_operations.specs.Outcome.{Outcome}
use Rattle.odata_filter_operations.specs.Reports.{Reports}

pub there_found : {X : Type 0} (P : X → Type 0) (held : Option X) (x : X) → held ≡ Some x → P x → IsSomeAnd held P
there_found {X = X} P held x is holds = subst (λ (o : Option X). IsSomeAnd o P) (sym is) holds

-- what follows from the fact
pub goes_there : {X : Type 0} (held : Option X) (P Q : X → Type 0) → ((x : X) → P x → Q x) → IsSomeAnd held P → IsSomeAnd held Q
goes_there (Some x) P Q goes holds = goes x holds
goes_there None P Q goes holds = absurd holds

pub some_reports : (reported : Option Outcome) (Takes : Type 0) (P : Outcome → Type 0) → IsSomeAnd reported P → Reports Takes P reported
some_reports (Some o) Takes P is = is
some_reports None Takes P is = absurd is

-- which values may be compared does not hang on how records and lists are read
abbrev pub ComparedAnyhow : Type 0
ComparedAnyhow =
    (operator : ComparisonOperator) (left right : Datum) (l r k s : Reading) → AreComparableBy operator (datum_val l left) (datum_val r right)
    → AreComparableBy operator (datum_val k left) (datum_val s right)
