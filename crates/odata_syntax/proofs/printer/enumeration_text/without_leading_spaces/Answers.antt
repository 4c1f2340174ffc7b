use Rattle.std.proofs.Common.{rules, lit<, suc}
use Rattle.std.proofs.lemmas.Str.Pattern.{strip_prefix_char}
use Rattle.odata_syntax.proofs.printing.Enumerations.{one_more_leading}
use Rattle.odata_syntax.proofs.printer.enumeration_text.without_leading_spaces.Goals as goal

pub loop-behind-preserved : goal.loop-behind-preserved
loop-behind-preserved c =
    let cut = rw c.in-Some.is at (strip_prefix_char 32 c.loop-behind.rest.now c.strip_prefix.result c.strip_prefix.ensures.cases (lit< tt)) in
    (search rules, (suc c.loop-behind.invariant.1.0, one_more_leading c.loop-behind.invariant.1.0 c.args.text.now c.loop-behind.rest.now c.in-Some.behind.now c.loop-behind.invariant.1.1 cut))

pub returns-clause-first : goal.returns-clause-first
returns-clause-first c = rw c.in_default.is at (strip_prefix_char 32 c.loop-behind.rest.now c.strip_prefix.result c.strip_prefix.ensures.cases (lit< tt))
