use Rattle.odata_functions.proofs.texts.Trims.{trimmed}
use Rattle.odata_functions.proofs.text_parts.trim.Goals as goal

pub returns : goal.returns
returns c =
    trimmed c.args.text.now c.without_start.result.now c.without_end.result.now c.utf8.text c.without_start.utf8 c.without_end.utf8 c.without_start.ensures
    c.without_end.ensures
