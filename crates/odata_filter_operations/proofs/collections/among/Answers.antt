use Rattle.std.proofs.Common.{subst, sym}
use Rattle.edm_values.specs.declared.datum.Datum.{Datum}
use Rattle.csdl_schema.specs.ExprType.{collection}
use Rattle.odata_functions.specs.DatumVal.{datum_val}
use Rattle.odata_filter_operations.specs.LambdaGives.{InGives}
use Rattle.odata_filter_operations.specs.Outcome.{gives}
use Rattle.odata_filter_operations.specs.TruthGives.{truth_val}
use Rattle.odata_filter_operations.specs.DatumView.{reading_at}
use Rattle.odata_filter_operations.specs.Collections.{AreComparedIn, MayBeAmong, MayBeMember}
use Rattle.odata_filter_operations.proofs.values.Members.{truth_gives}
use Rattle.odata_filter_operations.proofs.collections.among.Goals as goal

pub returns-in-List-clause-truth : goal.returns-in-List-clause-truth
returns-in-List-clause-truth c = λ slots type member may.
    let made = c.among_members.result in
    let of_members : MayBeMember slots type member c.args.left.now c.in-List.members.now = subst (MayBeAmong slots type member c.args.left.now) c.in-List.is may in
    subst (λ (d : Datum). InGives (datum_val (reading_at slots type) c.args.left.now) (datum_val (reading_at slots (collection member)) d) (gives (truth_val made.truth))) (sym c.in-List.is)
    (truth_gives slots type member c.args.left.now c.in-List.members.now of_members made.truth c.among_members.ensures.some c.among_members.ensures.truth)

pub returns-in-List-clause-compared : goal.returns-in-List-clause-compared
returns-in-List-clause-compared c =
    subst (λ (d : Datum). AreComparedIn c.args.left.now d c.among_members.result.compared) (sym c.in-List.is) c.among_members.ensures.compared
