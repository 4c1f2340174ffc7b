use Rattle.edm_values.specs.declared.primitive.PrimitiveType.TheVariants as prim
use Rattle.edm_rows.proofs.RowLemmas.RowTypes.{date_task, guid_task, moment_task, number_task, text_task, truth_task}
use Rattle.edm_rows.proofs.row_types.task_of_prim.Goals as goal

pub returns-in-String : goal.returns-in-String
returns-in-String c = text_task c.args.prim c.in-String.is

pub returns-in-Bool : goal.returns-in-Bool
returns-in-Bool c = truth_task c.args.prim c.in-Bool.is

pub returns-in-Date : goal.returns-in-Date
returns-in-Date c = date_task c.args.prim c.in-Date.is

pub returns-in-DateTimeOffset : goal.returns-in-DateTimeOffset
returns-in-DateTimeOffset c = moment_task c.args.prim c.in-DateTimeOffset.is

pub returns-in-Guid : goal.returns-in-Guid
returns-in-Guid c = guid_task c.args.prim c.in-Guid.is

pub returns-in-Byte : goal.returns-in-Byte
returns-in-Byte c = number_task c.args.prim prim.Byte c.in-Byte.is tt

pub returns-in-SByte : goal.returns-in-SByte
returns-in-SByte c = number_task c.args.prim prim.SByte c.in-SByte.is tt

pub returns-in-Int16 : goal.returns-in-Int16
returns-in-Int16 c = number_task c.args.prim prim.Int16 c.in-Int16.is tt

pub returns-in-Int32 : goal.returns-in-Int32
returns-in-Int32 c = number_task c.args.prim prim.Int32 c.in-Int32.is tt

pub returns-in-Int64 : goal.returns-in-Int64
returns-in-Int64 c = number_task c.args.prim prim.Int64 c.in-Int64.is tt
