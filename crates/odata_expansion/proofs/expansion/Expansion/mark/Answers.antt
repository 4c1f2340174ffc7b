use Rattle.std.proofs.Common.{List, sym, ap, ◌∙◌, subst}
use Rattle.odata_expansion.specs.ExpansionView.{StepModel, LeadsTo, paths_in}
use Rattle.odata_expansion.proofs.Marks.{marked_leads, path_added}
use Rattle.odata_expansion.proofs.Nodes.{reached_within}
use Rattle.odata_expansion.proofs.expansion.Expansion.mark.Goals as goal

pub set_flag-requires : goal.set_flag-requires
set_flag-requires c = reached_within c.args.self.now c.requires.0 c.args.node c.requires.1

pub returns-clause-added : goal.returns-clause-added
returns-clause-added c path asked leads =
    ap (λ (steps : List StepModel). paths_in steps asked) c.set_flag.ensures
    ∙ path_added c.args.self.now path c.args.node (reached_within c.args.self.now path c.args.node leads) leads asked

pub returns-clause-leads : goal.returns-clause-leads
returns-clause-leads c path other leads =
    subst (λ (steps : List StepModel). LeadsTo steps path other) (sym c.set_flag.ensures) (marked_leads c.args.node c.args.self.now path other leads)
