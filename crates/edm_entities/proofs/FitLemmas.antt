pub mod ExampleRows
pub mod FitsHasType
pub mod FitsOnce
pub mod Numbers
pub mod OneFirstFault
pub mod RowFaultRefuses
pub mod ScalarKinds
