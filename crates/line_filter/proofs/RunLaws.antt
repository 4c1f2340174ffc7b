pub mod Answers
pub mod AtOnce
pub mod Called
pub mod Lacking
pub mod Streams
