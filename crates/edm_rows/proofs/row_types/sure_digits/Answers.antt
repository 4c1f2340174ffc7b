use Rattle.std.proofs.Common.{subst}
use Rattle.edm_values.specs.NumberTypes.{IsNumberType}
use Rattle.edm_values.specs.declared.primitive.PrimitiveType.TheVariants as prim
use Rattle.edm_rows.proofs.RowLemmas.RowTypes.{sure_as, sure_byte, sure_int16, sure_int32, sure_int64, sure_none, sure_sbyte}
use Rattle.edm_rows.proofs.row_types.sure_digits.Goals as goal

pub returns-in-Byte : goal.returns-in-Byte
returns-in-Byte c = sure_as c.args.prim prim.Byte 2 c.in-Byte.is sure_byte

pub returns-in-SByte : goal.returns-in-SByte
returns-in-SByte c = sure_as c.args.prim prim.SByte 2 c.in-SByte.is sure_sbyte

pub returns-in-Int16 : goal.returns-in-Int16
returns-in-Int16 c = sure_as c.args.prim prim.Int16 4 c.in-Int16.is sure_int16

pub returns-in-Int32 : goal.returns-in-Int32
returns-in-Int32 c = sure_as c.args.prim prim.Int32 9 c.in-Int32.is sure_int32

pub returns-in-Int64 : goal.returns-in-Int64
returns-in-Int64 c = sure_as c.args.prim prim.Int64 16 c.in-Int64.is sure_int64

pub returns-in-Bool : goal.returns-in-Bool
returns-in-Bool c = sure_none c.args.prim 0 (λ of. subst IsNumberType c.in-Bool.is of)

pub returns-in-String : goal.returns-in-String
returns-in-String c = sure_none c.args.prim 0 (λ of. subst IsNumberType c.in-String.is of)

pub returns-in-Date : goal.returns-in-Date
returns-in-Date c = sure_none c.args.prim 0 (λ of. subst IsNumberType c.in-Date.is of)

pub returns-in-DateTimeOffset : goal.returns-in-DateTimeOffset
returns-in-DateTimeOffset c = sure_none c.args.prim 0 (λ of. subst IsNumberType c.in-DateTimeOffset.is of)

pub returns-in-Guid : goal.returns-in-Guid
returns-in-Guid c = sure_none c.args.prim 0 (λ of. subst IsNumberType c.in-Guid.is of)
