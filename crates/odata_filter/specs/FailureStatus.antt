-- How a run ends by each failure.
use Rattle.csdl_declarations.specs.declared.schema_fault.SchemaFault.{SchemaFault}
use Rattle.csdl_declarations.specs.declared.schema_fault.SchemaFault.TheVariants as schema
use Rattle.odata_filter.specs.Run.{Status, at_fault, without_device, without_filter, without_memory, without_plan, without_type}
use Rattle.odata_filter.specs.declared.command.failure.Failure.{Failure}
use Rattle.odata_filter.specs.declared.command.failure.Failure.TheVariants.{NotAMoment, OneOf, Schema, UnknownType, Query, NoOption, Refused, NoMoment, RowsFile, Rows}
use Rattle.filter_runs.specs.declared.run_fault.RunFault.{RunFault}
use Rattle.filter_runs.specs.declared.run_fault.RunFault.TheVariants as rows
use Rattle.odata_queries.specs.declared.query_fault.QueryFault.{QueryFault}
use Rattle.odata_queries.specs.declared.query_fault.QueryFault.TheVariants as query
use Rattle.odata_signatures.specs.declared.refusal.Refusal.{Refusal}
use Rattle.odata_signatures.specs.declared.refusal.Refusal.TheVariants as refusal

-- running out of memory, or no schema
abbrev pub status_of_schema : SchemaFault → Status
status_of_schema schema.Memory = without_memory
status_of_schema fault = without_type

-- running out of memory, or a query with a fault
abbrev pub status_of_query : QueryFault → Status
status_of_query query.Memory = without_memory
status_of_query fault = without_filter

-- running out of memory, or no filter
abbrev pub status_of_refusal : Refusal → Status
status_of_refusal refusal.Memory = without_memory
status_of_refusal other = without_filter

-- running out of memory, a device that failed, or a row at fault
abbrev pub status_of_rows : RunFault → Status
status_of_rows (rows.Memory line) = without_memory
status_of_rows (rows.Read line) = without_device
status_of_rows rows.Write = without_device
status_of_rows fault = at_fault

-- how a run ends by a failure
abbrev pub status_of : Failure → Status
status_of NotAMoment = without_plan
status_of OneOf = without_plan
status_of (Schema fault) = status_of_schema fault
status_of (UnknownType name) = without_type
status_of (Query fault) = status_of_query fault
status_of NoOption = without_plan
status_of (Refused refusal) = status_of_refusal refusal
status_of NoMoment = without_plan
status_of (RowsFile name) = without_device
status_of (Rows fault) = status_of_rows fault
