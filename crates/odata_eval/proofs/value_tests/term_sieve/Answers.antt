use Rattle.std.proofs.Common.{◌∙◌, ap, subst}
use Rattle.odata_checked_filter.specs.declared.checked_node.NodeKind.{NodeKind}
use Rattle.filter_context.specs.private.Place.{HasKind}
use Rattle.odata_eval.proofs.walking.FalseTerms.{property_sieve}
use Rattle.odata_eval.proofs.value_tests.term_sieve.Goals as goal

pub returns-in-Property : goal.returns-in-Property
returns-in-Property c =
    property_sieve c.args.checked.now c.args.place c.in-Property.slot (subst (λ (k : NodeKind). HasKind c.args.checked.now.list c.args.place k) c.in-Property.is c.in-Some.ensures.kind)

pub compared_sieve-requires-clause-here : goal.compared_sieve-requires-clause-here
compared_sieve-requires-clause-here c = subst (λ (k : NodeKind). HasKind c.args.checked.now.list c.args.place k) (c.in-Binary.is ∙ ap NodeKind.Binary c.in-Comparison.is) c.in-Some.ensures.kind
