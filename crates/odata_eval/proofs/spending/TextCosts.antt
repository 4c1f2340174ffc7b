-- What comparing values costs, of what they stand for and where they are kept.
use Rattle.std.proofs.Common.{◌≡◌, ◌∙◌, ℕ, ℤ, Option, Some, None, ap, refl}
use Rattle.edm_values.specs.declared.datum.Datum.{Datum}
use Rattle.edm_values.specs.declared.datum.Datum.TheVariants as datum
use Rattle.edm_values.specs.declared.value.Value.{Value, Text, Record', List'}
use Rattle.csdl_schema.specs.ExprType.{ExprType, null_type}
use Rattle.csdl_schema.specs.SchemaModel.{Slots}
use Rattle.edm_entities.specs.Row.{val_of}
use Rattle.odata_functions.specs.DatumVal.{Reading, datum_val}
use Rattle.odata_functions.specs.KeptVal.{Contents, kept_val}
use Rattle.odata_filter_operations.specs.CalculationGives.{number_val}
use Rattle.odata_filter_operations.specs.DatumView.{IsDatumOf, reading_at}
use Rattle.odata_filter_operations.specs.TextCosts.{comparison_cost}
use Rattle.odata_eval.specs.private.Spending.{stored_cost}
use Rattle.odata_eval.proofs.walking.KeptValues.{kept_contents}

kept_cost : (r : Reading) (q : Contents) (left : Datum) (found : Value) → comparison_cost (datum_val r left) (kept_val q found) ≡ stored_cost left found
kept_cost r q (datum.Text t) (Text s) = refl
kept_cost r q (datum.Text t) (Record' shape all) = refl
kept_cost r q (datum.Text t) (List' shape all) = refl
kept_cost r q (datum.Text t) _ = refl
kept_cost r q _ found = refl

pub value_cost : (slots : Slots) (r : Reading) (type : ExprType) (left : Datum) (found : Value) → comparison_cost (datum_val r left) (val_of found slots.properties type) ≡ stored_cost left found
value_cost slots r type left found =
    let kept = kept_contents slots type found in
    ap (comparison_cost (datum_val r left)) kept.1 ∙ kept_cost r kept.0 left found

-- what is counted of a stored value, taken as one that is passed on
pub taken_cost : (slots : Slots) (left made : Datum) (found : Value) (n : ℕ) → IsDatumOf found made → ((l r : Reading) → n ≡ comparison_cost (datum_val l left) (datum_val r made)) → n ≡ stored_cost left found
taken_cost slots left made found n is counted =
    let r = reading_at slots null_type in
    counted r r ∙ (ap (comparison_cost (datum_val r left)) (is slots null_type) ∙ value_cost slots r null_type left found)

-- numbers are no texts
pub numbers_cost : (a b : Option ℤ) → comparison_cost (number_val a) (number_val b) ≡ 0
numbers_cost None b = refl
numbers_cost (Some n) b = refl
