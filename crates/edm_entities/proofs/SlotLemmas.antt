-- Lemmas on slots, items, and the faults within them.
pub mod Depth
pub mod EachSlot
pub mod EntitySlots
pub mod FaultsBelow
pub mod FewSlots
pub mod FoundWalk
pub mod ItemWalk
pub mod BorrowedSlots
pub mod ObjectMembers
pub mod ReadEntities
pub mod RowReported
pub mod SlotNames
pub mod SlotWalk
pub mod SlotsByName
pub mod ValueWalk
