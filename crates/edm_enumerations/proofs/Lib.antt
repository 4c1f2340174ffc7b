mod Joining
mod Members
mod Ranges
mod Trimming
