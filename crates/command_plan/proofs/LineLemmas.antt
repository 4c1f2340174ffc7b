pub mod CommandLineWorked
pub mod Entered
pub mod FlagLemmas
pub mod PartLemmas
pub mod PlanLemmas
pub mod ReportsWorked
pub mod TypesWorked
