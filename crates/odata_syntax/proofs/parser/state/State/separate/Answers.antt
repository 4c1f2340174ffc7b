use Rattle.std.proofs.Common.{◌≡◌, ◌+◌, ◌++◌, ◌∷◌, [], ap, ◌∙◌, Some, arith}
use Rattle.std.specs.Prelude.{option_to_list}
use Rattle.odata_syntax.proofs.lists.Brackets.{comma_step}
use Rattle.odata_syntax.proofs.lists.Counts.{call_comma, call_frame, frame_within, list_comma, list_frame}
use Rattle.odata_syntax.proofs.lists.Pushed.{step_to}
use Rattle.odata_syntax.proofs.parser.state.State.separate.Goals as goal

pub one_more-count-requires : goal.one_more-count-requires
one_more-count-requires c =
    let a = c.in-Some-Open-List.is in
    let b = c.in-Some-Open-List.field-0-is in
    let d = c.in-Some-Open-List.field-0-0-is in
    let is : c.pop.result ≡ Some (list_frame c.in-Some-Open-List.start c.in-Some-Open-List.count) = cc in
    let popped = c.pop.ensures.items ∙ ap (λ r. c.pop.new.self.items ++ option_to_list r) is in
    let within = frame_within _ _ (list_frame c.in-Some-Open-List.start c.in-Some-Open-List.count) c.args.self.now.nodes.items popped c.requires.whole in
    omega arith

pub one_more-count-requires-in-Some-Open-Call : goal.one_more-count-requires-in-Some-Open-Call
one_more-count-requires-in-Some-Open-Call c =
    let a = c.in-Some-Open-Call.is in
    let b = c.in-Some-Open-Call.field-0-is in
    let d = c.in-Some-Open-Call.field-0-0-is in
    let frame = call_frame c.in-Some-Open-Call.start c.in-Some-Open-Call.name c.in-Some-Open-Call.count in
    let is : c.pop.result ≡ Some frame = cc in
    let popped = c.pop.ensures.items ∙ ap (λ r. c.pop.new.self.items ++ option_to_list r) is in
    let within = frame_within _ _ frame c.args.self.now.nodes.items popped c.requires.whole in
    omega arith

pub returns-in-Some-Open-List-clause-step : goal.returns-in-Some-Open-List-clause-step
returns-in-Some-Open-List-clause-step c = λ texts.
    let a = c.in-Some-Open-List.is in
    let b = c.in-Some-Open-List.field-0-is in
    let d = c.in-Some-Open-List.field-0-0-is in
    let is : c.pop.result ≡ Some (list_frame c.in-Some-Open-List.start c.in-Some-Open-List.count) = cc in
    let popped = c.pop.ensures.items ∙ ap (λ r. c.pop.new.self.items ++ option_to_list r) is in
    let next = list_frame c.in-Some-Open-List.start (c.in-Some-Open-List.count + 1) in
    step_to c.wait.result _ _ _ c.wait.ensures.taken c.wait.ensures.waits (λ waits.
    comma_step texts c.args.self.now c.wait.new.self c.pop.new.self.items (list_frame c.in-Some-Open-List.start c.in-Some-Open-List.count) next popped c.requires
    c.wait.ensures.nodes c.wait.ensures.stage (waits ∙ ap (λ n. c.pop.new.self.items ++ list_frame c.in-Some-Open-List.start n ∷ []) c.one_more-count.ensures)
    (list_comma texts c.pop.new.self.items c.in-Some-Open-List.start c.in-Some-Open-List.count))

pub returns-in-Some-Open-Call-clause-step : goal.returns-in-Some-Open-Call-clause-step
returns-in-Some-Open-Call-clause-step c = λ texts.
    let a = c.in-Some-Open-Call.is in
    let b = c.in-Some-Open-Call.field-0-is in
    let d = c.in-Some-Open-Call.field-0-0-is in
    let start = c.in-Some-Open-Call.start in
    let name = c.in-Some-Open-Call.name in
    let count = c.in-Some-Open-Call.count in
    let is : c.pop.result ≡ Some (call_frame start name count) = cc in
    let popped = c.pop.ensures.items ∙ ap (λ r. c.pop.new.self.items ++ option_to_list r) is in
    step_to c.wait-in-Some-Open-Call.result _ _ _ c.wait-in-Some-Open-Call.ensures.taken c.wait-in-Some-Open-Call.ensures.waits (λ waits.
    comma_step texts c.args.self.now c.wait-in-Some-Open-Call.new.self c.pop.new.self.items (call_frame start name count) (call_frame start name (count + 1)) popped c.requires
    c.wait-in-Some-Open-Call.ensures.nodes c.wait-in-Some-Open-Call.ensures.stage
    (waits ∙ ap (λ n. c.pop.new.self.items ++ call_frame start name n ∷ []) c.one_more-count-in-Some-Open-Call.ensures)
    (call_comma texts c.pop.new.self.items start name count))
