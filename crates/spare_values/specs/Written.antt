-- The list that a value holds, as a type of the code: what is said of a borrow takes the types of what is borrowed and
-- of what it is in.
use denote.RattleType.{RattleType}
use Rattle.std.specs.contracts.alloc.Global as global
use Rattle.std.specs.contracts.vec.Vec as vec
use Rattle.std.specs.contracts.impls.GlobalAllocator.TheImpl.{ghosts}
use Rattle.edm_values.specs.contracts.value.Value.{the_row}

-- the type of a record's values, and of a list's items
abbrev pub list_row : RattleType
list_row = vec.the_row the_row global.the_row ghosts
