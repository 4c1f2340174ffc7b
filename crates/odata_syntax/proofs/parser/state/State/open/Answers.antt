use Rattle.std.proofs.Common.{ap, ◌++◌, ◌∷◌, [], ◌∙◌}
use Rattle.odata_syntax.proofs.lists.Opens.{group_frame, group_opened, group_steady, list_opened, list_steady}
use Rattle.odata_syntax.proofs.lists.Pushed.{taken_to}
use Rattle.odata_syntax.proofs.parser.state.State.open.Goals as goal

pub returns-in-Some-clause-step : goal.returns-in-Some-clause-step
returns-in-Some-clause-step c = λ texts.
    taken_to c.wait.result _ _ c.wait.ensures.waits (λ waits.
    list_opened texts c.args.self.now c.wait.new.self c.pop_in.new.self.frames.items c.in-Some.start c.args.start c.in-Some.ensures.popped
    (c.wait.ensures.nodes ∙ c.in-Some.ensures.nodes) c.wait.ensures.stage waits)

pub returns-in-Some-clause-steady : goal.returns-in-Some-clause-steady
returns-in-Some-clause-steady c =
    taken_to c.wait.result _ _ c.wait.ensures.waits (λ waits.
    list_steady c.args.self.now c.wait.new.self c.pop_in.new.self.frames.items c.in-Some.start c.in-Some.ensures.popped c.requires
    (c.wait.ensures.nodes ∙ c.in-Some.ensures.nodes) c.wait.ensures.stage waits)

pub returns-in-None-clause-step : goal.returns-in-None-clause-step
returns-in-None-clause-step c = λ texts.
    taken_to c.wait-in-None.result _ _ c.wait-in-None.ensures.waits (λ waits.
    group_opened texts c.args.self.now c.wait-in-None.new.self c.args.start (λ trees. c.in-None.ensures.other texts trees c.args.start)
    (c.wait-in-None.ensures.nodes ∙ c.in-None.ensures.nodes) c.wait-in-None.ensures.stage (waits ∙ ap (λ fs. fs ++ group_frame c.args.start ∷ []) c.in-None.ensures.unchanged))

pub returns-in-None-clause-steady : goal.returns-in-None-clause-steady
returns-in-None-clause-steady c =
    taken_to c.wait-in-None.result _ _ c.wait-in-None.ensures.waits (λ waits.
    group_steady c.args.self.now c.wait-in-None.new.self c.args.start c.requires
    (c.wait-in-None.ensures.nodes ∙ c.in-None.ensures.nodes) c.wait-in-None.ensures.stage (waits ∙ ap (λ fs. fs ++ group_frame c.args.start ∷ []) c.in-None.ensures.unchanged))
