pub use Rattle.std.specs.declared.alloc.Global.{Global}
pub use Rattle.std.specs.contracts.alloc.Global.{the_row as GlobalRow}
pub use Rattle.std.proofs.alloc.Global.TheLaws.{lowers as global_lowers, lowered as global_val, the_row_laws as global_laws}
pub use Rattle.call_handles.specs.declared.handle.Handle.{Handle}
pub use Rattle.call_handles.specs.contracts.handle.Handle.{the_row as HandleRow}
pub use Rattle.std.proofs.alloc.Global.TheLaws.{the_within as global_within}
pub use Rattle.call_handles.proofs.handle.Handle.TheLaws.{the_within as handle_within}
pub use Rattle.std.specs.contracts.impls.GlobalAllocator.TheImpl.{ghosts, dict}
use denote.RattleType.{RattleType}
use Rattle.call_handles.specs.contracts.handle.Handle.{the_row as HandleRow}
use Rattle.std.specs.contracts.alloc.Global.{the_row as GlobalRow}
use Rattle.std.proofs.alloc.Global.TheLaws.{the_row_laws as global_laws}
use Rattle.call_handles.proofs.handle.Handle.TheLaws.{the_row_laws as handle_laws}
use denote.Exit.{no}
use denote.Param.{arg, layout}
use denote.Param.Laws.{Laws, arg_laws}
use mir.Raw.{raw as bare}
use mathlib.Core.Path.{refl}

-- the two as a call of a generic function is given them
abbrev pub HandleArg : RattleType
HandleArg = arg (bare (layout HandleRow)) no HandleRow

abbrev pub GlobalArg : RattleType
GlobalArg = arg (bare (layout GlobalRow)) no GlobalRow

abbrev pub handle_arg_laws : Laws HandleArg
handle_arg_laws = arg_laws (bare (layout HandleRow)) no HandleRow handle_laws refl

abbrev pub global_arg_laws : Laws GlobalArg
global_arg_laws = arg_laws (bare (layout GlobalRow)) no GlobalRow global_laws refl
