use Rattle.handle_calls.proofs.FilterSteps.{of_text}
use Rattle.handle_calls.proofs.filter_calls.filter_for.Goals as goal

pub returns-in-Type : goal.returns-in-Type
returns-in-Type c =
    of_text c.args.handle.now c.in-Type.held c.args.text.now c.filter_of_text.result c.in-Type.is c.filter_of_text.ensures
