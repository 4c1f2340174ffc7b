use Rattle.odata_typing.proofs.resolved_text.resolved_number.Goals as goal

pub returns-in-Single : goal.returns-in-Single
returns-in-Single c = rw c.in-Single.is c.beside_value.ensures
