use Rattle.sql_draft.specs.Translated.{question_of}
use Rattle.sql_draft.proofs.PathsPut.{variable_leads}
use Rattle.sql_draft.proofs.RowPaths.{names_above}
use Rattle.sql_draft.proofs.paths.base_of.Goals as goal

pub returns-in-Variable-clause-names : goal.returns-in-Variable-clause-names
returns-in-Variable-clause-names c = names_above c.args.context.now.checked.now c.args.place c.args.lowest c.requires.bottom

pub returns-in-Variable-clause-leads : goal.returns-in-Variable-clause-leads
returns-in-Variable-clause-leads c =
    variable_leads (question_of c.args.context.now) c.args.draft.now.members.items c.args.lowest c.node.result c.node.ensures c.in-Variable.level c.member_level.result c.in-Variable.is c.member_level.ensures

pub returns-in-It-clause-leads : goal.returns-in-It-clause-leads
returns-in-It-clause-leads c = c.base_of_row.ensures.leads c.args.draft.now.members.items

pub returns-in_default : goal.returns-in_default
returns-in_default c = record {
  after = c.base_of_row-in_default.ensures.after;
  inside = c.base_of_row-in_default.ensures.inside;
  names = c.base_of_row-in_default.ensures.names;
  leads = c.base_of_row-in_default.ensures.leads c.args.draft.now.members.items;
}
