use Rattle.std.proofs.Common.{Err, ap, ◌∙◌, refl}
use Rattle.std.proofs.lemmas.Result.{err_from_is_err_and}
use Rattle.odata_text.specs.TokenModel.{token_models}
use Rattle.odata_syntax.specs.declared.syntax_fault.SyntaxFault.{SyntaxFault}
use Rattle.odata_syntax.specs.private.Forests.{token_texts}
use Rattle.odata_syntax.specs.private.ListSteps.{read_tree}
use Rattle.odata_syntax.specs.private.MachineView.{machine_of}
use Rattle.odata_syntax.proofs.machine.Fronts.{run_only, run_parsed, stuck_fault, stuck_none, unended_fault, unended_none}
use Rattle.odata_syntax.proofs.parser.nodes_of_tokens.Goals as goal

pub returns-in_err-take_all-clause-fault : goal.returns-in_err-take_all-clause-fault
returns-in_err-take_all-clause-fault c =
    let exit = err_from_is_err_and c.from_residual-in_err-take_all.result c.from_residual-in_err-take_all.ensures.1 in
    rw (exit.1 ∙ ap Err exit.2) (stuck_fault (token_models c.args.tokens.now) c.args.len c.in_err-take_all.field-0.0 c.in_err-take_all.ensures.refused)

pub returns-in_err-take_all-clause-none : goal.returns-in_err-take_all-clause-none
returns-in_err-take_all-clause-none c =
    let exit = err_from_is_err_and c.from_residual-in_err-take_all.result c.from_residual-in_err-take_all.ensures.1 in
    rw (exit.1 ∙ ap Err exit.2) (stuck_none (token_models c.args.tokens.now) c.in_err-take_all.field-0.0 c.in_err-take_all.ensures.refused)

pub returns-in-Taken-clause-parsed : goal.returns-in-Taken-clause-parsed
returns-in-Taken-clause-parsed c =
    run_parsed (token_models c.args.tokens.now) (machine_of (token_texts c.args.tokens.now) c.take_all.new.state) (read_tree (token_texts c.args.tokens.now) c.finish.new.self)
    c.in_ok-take_all.ensures.taken (c.in-Taken.ensures.ended (token_texts c.args.tokens.now)) c.in_ok-take_all.ensures.shallow

pub returns-in-Taken-clause-only : goal.returns-in-Taken-clause-only
returns-in-Taken-clause-only c =
    run_only (token_models c.args.tokens.now) (machine_of (token_texts c.args.tokens.now) c.take_all.new.state) (read_tree (token_texts c.args.tokens.now) c.finish.new.self)
    c.in_ok-take_all.ensures.taken (c.in-Taken.ensures.ended (token_texts c.args.tokens.now))

pub returns-in-Refused-clause-fault : goal.returns-in-Refused-clause-fault
returns-in-Refused-clause-fault c =
    rw c.unended.ensures
    (unended_fault (token_models c.args.tokens.now) (machine_of (token_texts c.args.tokens.now) c.take_all.new.state) c.args.len (SyntaxFault.Unexpected (record { start = c.args.len; stop = c.args.len }))
    c.in_ok-take_all.ensures.taken c.in_ok-take_all.ensures.shallow (refl, refl, c.in-Refused.ensures.ended (token_texts c.args.tokens.now)))

pub returns-in-Refused-clause-none : goal.returns-in-Refused-clause-none
returns-in-Refused-clause-none c =
    rw c.unended.ensures
    (unended_none (token_models c.args.tokens.now) (machine_of (token_texts c.args.tokens.now) c.take_all.new.state) c.args.len (SyntaxFault.Unexpected (record { start = c.args.len; stop = c.args.len }))
    c.in_ok-take_all.ensures.taken c.in_ok-take_all.ensures.shallow (refl, refl, c.in-Refused.ensures.ended (token_texts c.args.tokens.now)))
