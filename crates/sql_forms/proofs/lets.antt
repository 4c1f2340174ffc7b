-- Operands that a `Let` binds: what is put within it, and what that says.
pub mod CalculatedLet
pub mod InsideLet
pub mod LiftedPut
pub mod LiftedWhole
pub mod OneLeft
pub mod OrNullsLet
pub mod OverMembersPut
