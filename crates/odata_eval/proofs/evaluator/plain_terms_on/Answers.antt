use Rattle.std.proofs.Common.{subst, sym}
use Rattle.odata_eval.specs.private.RemainingTerms.{ReportsTerms}
use Rattle.filter_context.specs.private.EvalContext.{EndsOnceHere}
use Rattle.filter_context.specs.private.ContextModel.{ContextModel}
use Rattle.odata_eval.proofs.walking.TopNode.{context_is, top_stands}
use Rattle.odata_eval.proofs.evaluator.plain_terms_on.Goals as goal

pub ask_plain_terms-requires : goal.ask_plain_terms-requires
ask_plain_terms-requires c = record {
  stands = top_stands c.args.checked.now c.args.entity.now c.args.now.now c.of-context.result c.nodes-nodes.ensures.right c.requires.one_schema c.requires.one_type
      c.of-context.ensures.row c.of-context.ensures.moment c.of-context.ensures.list c.of-context.ensures.variables;
}

pub returns-clause-reported : goal.returns-clause-reported
returns-clause-reported c =
    subst (λ (s : ContextModel). ReportsTerms s c.ask_plain_terms.result)
    (sym (context_is c.args.entity.now c.args.now.now c.args.checked.now.list c.of-context.result c.of-context.ensures.row c.of-context.ensures.moment c.of-context.ensures.list c.of-context.ensures.variables))
    c.ask_plain_terms.ensures

pub returns-clause-ends_once : goal.returns-clause-ends_once
returns-clause-ends_once c =
    subst (λ (s : ContextModel). EndsOnceHere s)
    (sym (context_is c.args.entity.now c.args.now.now c.args.checked.now.list c.of-context.result c.of-context.ensures.row c.of-context.ensures.moment c.of-context.ensures.list c.of-context.ensures.variables))
    c.ends_once.ensures
