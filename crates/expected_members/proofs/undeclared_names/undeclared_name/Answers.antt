use Rattle.std.proofs.Common.{sym, ◌∙◌}
use Rattle.expected_members.proofs.NamesStored.{named_so}
use Rattle.expected_members.proofs.undeclared_names.undeclared_name.Goals as goal

pub returns-in-None : goal.returns-in-None
returns-in-None c = named_so c.args.schema.now c.args.noted.now.type_id c.in-Ok.name.now c.key_of.result c.key_of.ensures.type_id c.key_of.ensures.key (sym c.slot.ensures ∙ c.in-None.is)
