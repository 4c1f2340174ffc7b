mod ArithmeticTypes
mod Attained
mod CallRanges
mod Calculations
mod Common
mod Corners
mod Counts
pub mod Ends
mod FitsKept
mod Flags
pub mod Forms
pub mod Holding
mod HoldingLines
mod HoldingNodes
pub mod HoldingOne
mod HoldingTwo
pub mod Inside
pub mod KeptPaths
pub mod Layouts
mod LinesOn
pub mod Numeric
pub mod PropertyOwners
mod Put
mod Quiet
mod QuietTypes
mod Remainders
pub mod StandingLies
pub mod TreesAt
mod Values
