use Rattle.odata_functions.proofs.Numbers.{count_once, count_there}
use Rattle.odata_functions.proofs.texts.Decisions.{end_reported, one_place, part_reported, place_there, start_reported}
use Rattle.odata_functions.proofs.texts.OneTrim.{one_trimmed, trimmed_there}
use Rattle.odata_functions.proofs.function_laws.texts_have_one_answer.Goals as goal

pub returns-clause-part : goal.returns-clause-part
returns-clause-part c = part_reported

pub returns-clause-start : goal.returns-clause-start
returns-clause-start c = start_reported

pub returns-clause-end : goal.returns-clause-end
returns-clause-end c = end_reported

pub returns-clause-place_there : goal.returns-clause-place_there
returns-clause-place_there c = place_there

pub returns-clause-place : goal.returns-clause-place
returns-clause-place c = one_place

pub returns-clause-trimmed_there : goal.returns-clause-trimmed_there
returns-clause-trimmed_there c = trimmed_there

pub returns-clause-trimmed : goal.returns-clause-trimmed
returns-clause-trimmed c = one_trimmed

pub returns-clause-count_there : goal.returns-clause-count_there
returns-clause-count_there c = count_there

pub returns-clause-count : goal.returns-clause-count
returns-clause-count c = count_once
