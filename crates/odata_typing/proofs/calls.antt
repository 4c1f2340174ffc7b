-- Arguments of a call.
pub mod FewArguments
