-- A device that logs what became of its calls.
use Rattle.line_filter.specs.declared.call_log.CallLog.{CallLog}

-- the device, and what became of its calls so far
pub record LoggedDevice (D : Type 0) : Type 0 where
  pub device : D
  pub calls : CallLog
