pub use Rattle.std.proofs.Common.{◌≡◌, List, [], ◌∷◌, ◌++◌, refl, lit<}
pub use Rattle.std.proofs.raw_atomic.Walks.{proved, leaves}
pub use seplogic.Ra.Ura.{Ura}
pub use base.Logic.{SProp, ent, id⊢}
pub use base.Fml.{Lft, ftrue, flft}
pub use mir.Val.{Val, vptr}
pub use prog.Memory.{Memory}
pub use prog.Routine.{Routine}
pub use prog.Wp.{WpFn, Calls, Loops}
pub use contract.Monad.{Fun, fact}
pub use contract.Running.{tables}
pub use sound.WpLaws.{FmC}
pub use types.Logic.{Logic}
pub use types.Kit.{use0, ‵, raw, ◌⊛◌, some, later, at_ret, ◌$◌, ◌∵◌, !, qed, move, keep, drop, use1, use2, split, join, fsplit, fjoin, fpack, feq_i, pick, await, by}
pub use types.Run.{enter, of_opd, lit, bin, stop, fld, no_more, and_then, first, blocks, branches, skips, exec, returns, returns_within}
pub use types.Part.{agg, sub, whole}
pub use types.ByLocal.{alloc_all, pass_all, free_all, look_at, get, get_in, sets, env}
pub use denote.Exit.{yes}
pub use denote.Laws.{Typed}
pub use denote.RawPtr.{Ptr, RawPtr, block_ptr, null_ptr, ptr_val, Testable, tests_null}
pub use denote.RattleType.{owns}
pub use denote.Signature.{types_at, plain}
pub use denote.Steps.{nothing, heard}
pub use denote.Triple.Statement.{Contract, Triple}
pub use denote.Triple.Clauses.{lasts}
pub use denote.Triple.Entry.{on_entry}
pub use denote.Triple.Spec.{triple_of}
pub use denote.Triple.Walked.{Stays, walk_of, stay_dropped, Goes-dropped}
pub use denote.Triple.Table.{framed}
