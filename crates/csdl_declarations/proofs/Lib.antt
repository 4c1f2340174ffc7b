mod Aliases
mod EnumerationNumbers
mod Reading
mod NameOrder
mod MemberOrder
