use Rattle.odata_typing.proofs.literal_node.checked_literal.Goals as goal

pub returns-in-Str : goal.returns-in-Str
returns-in-Str c = rw c.in-Str.is c.checked_text.ensures

pub returns-in-Int : goal.returns-in-Int
returns-in-Int c = rw c.in-Int.is c.checked_number.ensures
