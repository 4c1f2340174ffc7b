pub mod DocumentWalk
