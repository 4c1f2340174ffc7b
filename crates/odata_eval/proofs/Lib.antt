mod spending
pub mod walking
