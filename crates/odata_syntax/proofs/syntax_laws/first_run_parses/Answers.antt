use Rattle.odata_syntax.proofs.laws.FirstRuns.{first_run_parsed}
use Rattle.odata_syntax.proofs.syntax_laws.first_run_parses.Goals as goal

pub returns : goal.returns
returns c = first_run_parsed
