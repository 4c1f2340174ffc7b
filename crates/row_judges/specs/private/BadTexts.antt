-- For private clauses: the faults of a row's text, as the row's.
use Rattle.edm_entities.specs.declared.text_fault.TextFault.{TextFault}
use Rattle.edm_entities.specs.declared.text_fault.TextFault.TheVariants.{NoEntity, NotJson}
use Rattle.row_judges.specs.declared.bad_row.BadRow.{BadRow}

abbrev pub bad_text : TextFault → BadRow
bad_text NotJson = BadRow.NotJson
bad_text (NoEntity fault) = BadRow.NoEntity fault
