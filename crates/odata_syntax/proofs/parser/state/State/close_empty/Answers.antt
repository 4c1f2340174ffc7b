use Rattle.std.proofs.Common.{◌≡◌, ◌++◌, ap, ◌∙◌, Some, arith}
use Rattle.std.specs.Prelude.{option_to_list}
use Rattle.odata_syntax.proofs.lists.Counts.{call_frame, list_frame}
use Rattle.odata_syntax.proofs.lists.Empty.{call_refused, list_refused}
use Rattle.odata_syntax.proofs.parser.state.State.close_empty.Goals as goal

pub returns-then-count-gt0-clause-step : goal.returns-then-count-gt0-clause-step
returns-then-count-gt0-clause-step c = λ texts.
    let a = c.in-Some-Open-List.is in
    let b = c.in-Some-Open-List.field-0-is in
    let d = c.in-Some-Open-List.field-0-0-is in
    let is : c.pop.result ≡ Some (list_frame c.in-Some-Open-List.start c.in-Some-Open-List.count) = cc in
    let popped = c.pop.ensures.items ∙ ap (λ r. c.pop.new.self.items ++ option_to_list r) is in
    list_refused texts c.args.self.now.frames.items c.pop.new.self.items c.args.self.now.nodes.items c.in-Some-Open-List.start c.in-Some-Open-List.count c.args.stop popped c.requires (omega (arith, c.if-count-gt0.true))

pub returns-then-count-gt0-2-clause-step : goal.returns-then-count-gt0-2-clause-step
returns-then-count-gt0-2-clause-step c = λ texts.
    let a = c.in-Some-Open-Call.is in
    let b = c.in-Some-Open-Call.field-0-is in
    let d = c.in-Some-Open-Call.field-0-0-is in
    let is : c.pop.result ≡ Some (call_frame c.in-Some-Open-Call.start c.in-Some-Open-Call.name c.in-Some-Open-Call.count) = cc in
    let popped = c.pop.ensures.items ∙ ap (λ r. c.pop.new.self.items ++ option_to_list r) is in
    call_refused texts c.args.self.now.frames.items c.pop.new.self.items c.args.self.now.nodes.items c.in-Some-Open-Call.start c.in-Some-Open-Call.name c.in-Some-Open-Call.count c.args.stop popped c.requires (omega (arith, c.if-count-gt0-2.true))
