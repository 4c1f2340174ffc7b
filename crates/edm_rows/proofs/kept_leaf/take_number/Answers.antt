use Rattle.std.proofs.Common.{ap, ◌∙◌, rules}
use Rattle.std.proofs.lemmas.Int.{to_z-of_z}
use Rattle.std.specs.Prelude.{FitsSigned}
use Rattle.std.specs.Int.{w64}
use Rattle.edm_values.specs.declared.value.Value.{Int}
use Rattle.edm_rows.proofs.LeavesKept.{number_puts}
use Rattle.edm_rows.proofs.kept_leaf.take_number.Goals as goal

pub returns-in-Some : goal.returns-in-Some
returns-in-Some c =
    let f = c.in-Some.ensures in
    let fits : FitsSigned w64 c.in-Some.number = search rules in
    number_puts c.args.line.now c.args.place c.in-Some.end c.put_number.new.value c.args.slot.now.prim f.0 f.2.0 c.in-Some.number f.1 f.2.1 f.2.2 f.2.3 (c.put_number.ensures ∙ ap Int (to_z-of_z w64 c.in-Some.number fits))
