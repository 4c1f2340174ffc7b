mod functions
mod types
mod tree_types
mod untypable
mod pre_orders
mod printed
mod spelled
