-- What the walks of the exports are written with.
pub use Rattle.std.proofs.Common.{◌≡◌, ℕ, ◌<◌, ◌^◌, List, [], ◌∷◌, refl, lit<, w32, w64}
pub use Rattle.std.proofs.raw_atomic.Walks.{proved, leaves}
pub use mathlib.Core.Option.{none, some as there_is}
pub use seplogic.Ra.Ura.{Ura}
pub use base.Logic.{SProp, id⊢}
pub use base.Fml.{ftrue, fsep, flft}
pub use mir.Val.{Val, vint, vptr, vnull}
pub use prog.Memory.{Memory}
pub use prog.Routine.{Routine}
pub use prog.Wp.{WpFn, Calls, Loops}
pub use contract.Monad.{Fun, fact}
pub use contract.Running.{tables}
pub use sound.WpLaws.{FmC}
pub use types.Logic.{Logic}
pub use types.Kit.{‵, raw, ◌⊛◌, prop, Sq, ◌$◌, ◌∵◌, !, qed, move, keep, drop, use0, use1, use2, split, join, fsplit, fjoin, fpack, pick, await, by}
pub use types.Run.{enter, of_opd, addr, stop, fld, no_more, and_then, branches}
pub use types.Part.{agg, sub, whole}
pub use types.ByLocal.{alloc_all, pass_all, free_all, get, get_in, through, sets}
pub use denote.Builtin.{u32, u64, usize}
pub use denote.Exit.{yes}
pub use denote.Laws.{Typed, Is, shows}
pub use denote.Plain.{uint_Makes, uint_Lawful, uint_vals, uint_Tells}
pub use denote.RawPtr.{Ptr, RawPtr, block_ptr, null_ptr, ptr_val, Testable, rawptr_vals, rawptr_Tells}
pub use denote.Slice.{slice_val}
pub use denote.RattleType.{owns}
pub use denote.Signature.{types_at, plain}
pub use denote.Steps.{nothing, owned, heard, peeks}
pub use denote.Triple.Statement.{Contract, Triple}
pub use denote.Triple.Call.{calls_at_last}
pub use denote.Triple.Entry.{on_entry}
pub use denote.Triple.Spec.{triple_of}
pub use denote.Triple.Walked.{Stays, walk_of, stay_dropped, Goes-dropped}
pub use denote.Triple.Table.{framed}
pub use Rattle.std.specs.declared.alloc.Global.{Global}
pub use Rattle.std.specs.contracts.alloc.Global.{the_row as GlobalRow}
pub use Rattle.std.proofs.alloc.Global.TheLaws.{lowers as global_lowers, lowered as global_val, the_row_laws as global_laws}
pub use Rattle.odfilter_c.specs.declared.c_types.Bytes.{Bytes}
pub use Rattle.odfilter_c.specs.contracts.c_types.Bytes.{the_row as BytesRow}
pub use Rattle.odfilter_c.proofs.c_types.Bytes.TheLaws.{lowers as bytes_lowers, lowered as bytes_val, the_row_laws as bytes_laws}
pub use Rattle.odfilter_c.specs.declared.c_types.Buffer.{Buffer}
pub use Rattle.odfilter_c.specs.contracts.c_types.Buffer.{the_row as BufferRow}
pub use Rattle.odfilter_c.proofs.c_types.Buffer.TheLaws.{lowers as buffer_lowers, lowered as buffer_val, the_row_laws as buffer_laws}
pub use Rattle.call_handles.specs.declared.handle.Handle.{Handle}
pub use Rattle.call_handles.specs.declared.owned.Owned.{Owned}
pub use Rattle.call_handles.specs.declared.answer.Answer.{Answer}
pub use Rattle.odfilter_c.proofs.Walks.{HasNull, in_rest, trues, good, all_true, back, hold, unchanged, fpack2, fpack3, compares, stands, tested, closes, hands, inside, ends0, ends1, ends2, ends3}
