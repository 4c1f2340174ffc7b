pub mod flat
mod nesting
mod printed
mod pre_orders
mod explained
pub mod needed
mod same_forms
mod named
