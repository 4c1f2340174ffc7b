-- What a pointer to the block of a box owns.
use base.Fml.{Fml}
use denote.RattleType.{RattleType}
use denote.RawPtr.{Ptr}
use Rattle.std.specs.Box.Ownership.{box_owns}
use Rattle.std.specs.declared.alloc.Global.{Global}
use Rattle.std.specs.contracts.impls.GlobalAllocator.TheImpl.{ghosts}

-- the one allocator
abbrev pub the_global : Global
the_global = record { memory = record { seal = tt } }

-- the value at p, and the right to free its block
abbrev pub block_owns : (R : RattleType) → Ptr → R.Denot → Fml
block_owns R p x = box_owns (ghosts.dealloc_token the_global) R p x
