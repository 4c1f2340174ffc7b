-- What a tree costs: exactly one number, and nothing without lambda operators on texts below a KiB.
pub mod Once
pub mod OneCost
pub mod SomeCosts
pub mod WithoutLambdas
pub mod Zero
