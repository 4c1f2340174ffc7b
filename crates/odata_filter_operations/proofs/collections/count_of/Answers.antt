use Rattle.std.proofs.Common.{ℤ, SFits, ap, subst, sym, w64}
use Rattle.std.proofs.lemmas.Int.{to_z-of_z}
use Rattle.edm_values.specs.Val.{whole}
use Rattle.edm_values.specs.declared.datum.Datum.{Datum}
use Rattle.csdl_schema.specs.ExprType.{collection}
use Rattle.odata_functions.specs.DatumVal.{datum_val}
use Rattle.odata_filter_operations.specs.CollectionGives.{CountGives}
use Rattle.odata_filter_operations.specs.Outcome.{Outcome, gives}
use Rattle.odata_filter_operations.specs.DatumView.{reading_at}
use Rattle.odata_filter_operations.proofs.values.MemberCounts.{count_within}
use Rattle.odata_filter_operations.proofs.collections.count_of.Goals as goal

pub returns-in-Ok : goal.returns-in-Ok
returns-in-Ok c = λ slots member s.
    let fits : SFits w64 c.in-Ok.count = subst (SFits w64) (sym c.in-Ok.ensures.1) c.in-Ok.ensures.0 in
    let counted : CountGives (datum_val (reading_at slots (collection member)) c.args.base) (gives (whole c.in-Ok.count)) =
    subst (λ (d : Datum). CountGives (datum_val (reading_at slots (collection member)) d) (gives (whole c.in-Ok.count))) (sym c.in-List.is)
    (count_within slots member c.in-List.members.now c.in-Ok.count c.in-Ok.ensures.1 c.in-Ok.ensures.0) in
    subst (λ (o : Outcome). CountGives (datum_val (reading_at slots (collection member)) c.args.base) o)
    (ap (λ (n : ℤ). gives (whole n)) (sym (to_z-of_z w64 c.in-Ok.count fits))) counted
