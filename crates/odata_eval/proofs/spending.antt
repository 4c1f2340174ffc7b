-- What a walk takes from a budget.
pub mod Bound
pub mod Budgets
pub mod Calls
pub mod Compared
pub mod Free
pub mod ItemStops
pub mod Items
pub mod Lambdas
pub mod Members
pub mod Operators
pub mod Paths
pub mod Rests
pub mod Splits
pub mod Stops
pub mod TextCosts
