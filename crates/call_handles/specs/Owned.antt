-- What a handle that C holds owns.
use Rattle.std.specs.Prelude.{Option, None, Some}
use Rattle.std.specs.Coded.{Coded, coded_option}
use base.Fml.{Fml, ftrue, ffalse}
use denote.RawPtr.{Ptr, block_ptr, null_ptr}
use Rattle.call_handles.specs.Block.{block_owns}
use Rattle.call_handles.specs.contracts.handle.Handle.{the_row}
use Rattle.call_handles.specs.declared.handle.Handle.{Handle}

abbrev pub owned_code : Coded (Option Handle)
owned_code = coded_option the_row.coded

-- the block of a handle at p, or null and none
abbrev pub owned_or_null : Ptr → Option Handle → Fml
owned_or_null (block_ptr b o) (Some x) = block_owns the_row (block_ptr b o) x
owned_or_null null_ptr None = ftrue
owned_or_null p x = ffalse
