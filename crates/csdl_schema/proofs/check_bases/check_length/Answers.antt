use Rattle.std.proofs.Common.{length, nat_lt, arith}
use Rattle.csdl_declarations.specs.Fault.{base_cycle, unless}
use Rattle.csdl_declarations.specs.FaultView.{fault_of}
use Rattle.csdl_schema.proofs.Walks.{first_of_more, not_below, unless_first}
use Rattle.csdl_schema.proofs.check_bases.check_length.Goals as goal

pub returns-then-places-types-clause-reported : goal.returns-then-places-types-clause-reported
returns-then-places-types-clause-reported c =
    let ends = nat_lt (length c.args.places.now) c.args.types in
    first_of_more (fault_of c.base_cycle.result) (unless ends (base_cycle c.args.name.now)) _
    (unless_first ends (base_cycle c.args.name.now) (fault_of c.base_cycle.result) (not_below (length c.args.places.now) c.args.types c.if-places-types.true) c.base_cycle.ensures)

pub returns-then-places-types-clause-no_memory : goal.returns-then-places-types-clause-no_memory
returns-then-places-types-clause-no_memory c = λ few. absurd (omega (arith, few, c.if-places-types.true))
