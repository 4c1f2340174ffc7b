use Rattle.odata_text.proofs.Common.{sym, ◌∙◌}
use Rattle.odata_text.proofs.characters.Identifiers.{run-end, run-more, run-start}
use Rattle.odata_text.proofs.identifier.identifier_run.Goals as goal

pub loop-character-init : goal.loop-character-init
loop-character-init c = run-start c.args.rest.now _ c.utf8.rest cc

pub loop-character-preserved : goal.loop-character-preserved
loop-character-preserved c =
    rw c.len_utf8-length.ensures.value
    (run-more c.args.rest.now _ _ c.loop-character.length c.in-Some.character c.loop-character.invariant c.in-Some.ensures.steps.0 (sym c.continues_identifier.ensures ∙ c.if-not-continues_identifier.false))

pub returns-clause-value : goal.returns-clause-value
returns-clause-value c = run-end c.args.rest.now _ c.loop-character.length c.loop-character.invariant c.in-None.ensures.steps.0.0
