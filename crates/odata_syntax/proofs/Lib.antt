mod laws
mod machine
mod lists
mod normal_forms
mod printing
mod numbering
mod text_trees
