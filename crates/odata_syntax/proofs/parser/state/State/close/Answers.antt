use Rattle.std.proofs.Common.{◌≡◌, ◌++◌, ◌∷◌, [], ap, ◌∙◌, Some, arith}
use Rattle.std.specs.Prelude.{option_to_list}
use Rattle.odata_syntax.specs.declared.syntax_list.SyntaxKind.{SyntaxKind}
use Rattle.odata_syntax.specs.private.PlaceGrowth.{no_place}
use Rattle.odata_syntax.proofs.lists.Brackets.{call_close, close_step, list_close}
use Rattle.odata_syntax.proofs.lists.Counts.{call_frame, frame_within, list_frame}
use Rattle.odata_syntax.proofs.lists.Pushed.{step_to}
use Rattle.odata_syntax.proofs.parser.state.State.close.Goals as goal

pub one_more-count-requires : goal.one_more-count-requires
one_more-count-requires c =
    let a = c.in-Some-Open-List.is in
    let b = c.in-Some-Open-List.field-0-is in
    let d = c.in-Some-Open-List.field-0-0-is in
    let is : c.pop.result ≡ Some (list_frame c.in-Some-Open-List.start c.in-Some-Open-List.count) = cc in
    let popped = c.pop.ensures.items ∙ ap (λ r. c.pop.new.self.items ++ option_to_list r) is in
    let within = frame_within _ _ (list_frame c.in-Some-Open-List.start c.in-Some-Open-List.count) c.args.self.now.nodes.items popped c.requires.whole in
    omega arith

pub one_more-count-requires-in-Some-Open-Call : goal.one_more-count-requires-in-Some-Open-Call
one_more-count-requires-in-Some-Open-Call c =
    let a = c.in-Some-Open-Call.is in
    let b = c.in-Some-Open-Call.field-0-is in
    let d = c.in-Some-Open-Call.field-0-0-is in
    let frame = call_frame c.in-Some-Open-Call.start c.in-Some-Open-Call.name c.in-Some-Open-Call.count in
    let is : c.pop.result ≡ Some frame = cc in
    let popped = c.pop.ensures.items ∙ ap (λ r. c.pop.new.self.items ++ option_to_list r) is in
    let within = frame_within _ _ frame c.args.self.now.nodes.items popped c.requires.whole in
    omega arith

pub returns-in-Some-Open-List-clause-step : goal.returns-in-Some-Open-List-clause-step
returns-in-Some-Open-List-clause-step c = λ texts.
    let a = c.in-Some-Open-List.is in
    let b = c.in-Some-Open-List.field-0-is in
    let d = c.in-Some-Open-List.field-0-0-is in
    let start = c.in-Some-Open-List.start in
    let count = c.in-Some-Open-List.count in
    let is : c.pop.result ≡ Some (list_frame start count) = cc in
    let popped = c.pop.ensures.items ∙ ap (λ r. c.pop.new.self.items ++ option_to_list r) is in
    step_to c.put_closed.result _ _ _ c.put_closed.ensures.taken c.put_closed.ensures.put (λ put.
    close_step texts c.args.self.now c.put_closed.new.self c.pop.new.self.items (list_frame start count) _ c.args.stop popped c.requires
    (ap (λ v. v.items) c.put_closed.ensures.frames) c.put_closed.ensures.stage
    (put ∙ ap (λ n. c.args.self.now.nodes.items ++ (record { kind = SyntaxKind.InList; span = record { start = start; stop = c.args.stop }; text = record { start = 0; stop = 0 }; count = n; place = no_place }) ∷ []) c.one_more-count.ensures)
    (list_close texts c.pop.new.self.items start c.args.stop count (record { start = 0; stop = 0 })))

pub returns-in-Some-Open-Call-clause-step : goal.returns-in-Some-Open-Call-clause-step
returns-in-Some-Open-Call-clause-step c = λ texts.
    let a = c.in-Some-Open-Call.is in
    let b = c.in-Some-Open-Call.field-0-is in
    let d = c.in-Some-Open-Call.field-0-0-is in
    let start = c.in-Some-Open-Call.start in
    let name = c.in-Some-Open-Call.name in
    let count = c.in-Some-Open-Call.count in
    let is : c.pop.result ≡ Some (call_frame start name count) = cc in
    let popped = c.pop.ensures.items ∙ ap (λ r. c.pop.new.self.items ++ option_to_list r) is in
    step_to c.put_closed-in-Some-Open-Call.result _ _ _ c.put_closed-in-Some-Open-Call.ensures.taken c.put_closed-in-Some-Open-Call.ensures.put (λ put.
    close_step texts c.args.self.now c.put_closed-in-Some-Open-Call.new.self c.pop.new.self.items (call_frame start name count) _ c.args.stop popped c.requires
    (ap (λ v. v.items) c.put_closed-in-Some-Open-Call.ensures.frames) c.put_closed-in-Some-Open-Call.ensures.stage
    (put ∙ ap (λ n. c.args.self.now.nodes.items ++ (record { kind = SyntaxKind.Call; span = record { start = start; stop = c.args.stop }; text = name; count = n; place = no_place }) ∷ []) c.one_more-count-in-Some-Open-Call.ensures)
    (call_close texts c.pop.new.self.items start c.args.stop count name))
