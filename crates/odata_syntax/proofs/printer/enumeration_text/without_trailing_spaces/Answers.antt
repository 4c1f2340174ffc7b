use Rattle.std.proofs.Common.{rules, lit<, suc}
use Rattle.std.proofs.lemmas.Str.Pattern.{strip_suffix_char}
use Rattle.odata_syntax.proofs.printing.Enumerations.{one_more_trailing}
use Rattle.odata_syntax.proofs.printer.enumeration_text.without_trailing_spaces.Goals as goal

pub loop-front-preserved : goal.loop-front-preserved
loop-front-preserved c =
    let cut = rw c.in-Some.is at (strip_suffix_char 32 c.loop-front.rest.now c.strip_suffix.result c.strip_suffix.ensures.cases (lit< tt)) in
    (search rules, (suc c.loop-front.invariant.1.0, one_more_trailing c.loop-front.invariant.1.0 c.args.text.now c.loop-front.rest.now c.in-Some.front.now c.loop-front.invariant.1.1 cut))
