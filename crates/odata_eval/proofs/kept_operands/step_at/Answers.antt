use Rattle.std.proofs.Common.{arith, ◌<◌, ◌+◌, Ok, length, refl, subst, rules}
use Rattle.std.proofs.lemmas.Option.{slice_get_read}
use Rattle.edm_values.specs.declared.datum.Datum.{Datum}
use Rattle.odata_checked_filter.specs.declared.checked_node.NodeKind.{NodeKind}
use Rattle.filter_context.specs.declared.walk_class.WalkClass.{WalkClass}
use Rattle.odata_eval.specs.private.WalkAnswer.{AnswersDatum}
use Rattle.odata_eval.proofs.walking.MemberSteps.{kept_step}
use Rattle.filter_context.proofs.Parts.{part_inside}
use Rattle.filter_context.proofs.Spines.{first_part, kind_walks}
use Rattle.odata_eval.proofs.walking.WalkValues.{kept_datum}
use Rattle.odata_eval.proofs.kept_operands.step_at.Goals as goal

pub overflow_add-place : goal.overflow_add-place
overflow_add-place c =
    let within : c.args.place < length c.args.context.now.list.nodes = part_inside c.args.context.now c.args.place c.requires.stands in
    let same = c.nodes-nodes.ensures in
    search rules

pub found_at-requires : goal.found_at-requires
found_at-requires c = record {
  stands = first_part c.args.context.now c.args.place WalkClass.Eager (λ leaf. cc)
      (kind_walks c.args.context.now.list c.args.place (NodeKind.Member c.args.slot) WalkClass.Eager refl c.requires.here) c.requires.stands;
}

pub returns-clause-answers : goal.returns-clause-answers
returns-clause-answers c =
    let made : AnswersDatum c.args.context.now (c.args.place + 1) (Ok c.datum_of.result) =
    kept_datum c.args.context.now (c.args.place + 1) c.in-Some.base.now c.datum_of.result c.in-Some.ensures.answers c.datum_of.ensures in
    let not_beyond = c.if-slot-fields.false in
    let within : c.args.slot < length c.in-Record.fields.now = omega (arith, not_beyond) in
    kept_step c.trees_have_one_type.ensures c.args.context.now c.args.place c.args.slot c.requires.here c.in-Record.fields c.index-fields-slot.result
    (subst (λ (d : Datum). AnswersDatum c.args.context.now (c.args.place + 1) (Ok d)) c.in-Record.is made)
    (slice_get_read c.in-Record.fields.now (length c.in-Record.fields.now) c.args.slot c.index-fields-slot.result refl within c.index-fields-slot.is)

pub returns-clause-base : goal.returns-clause-base
returns-clause-base c = c.in-Some.ensures.leaf
