-- The dates and times of `jiff`, for clauses of crates that do not stand on it themselves.
pub use Rattle.jiff.specs.Types.{Date, DateTime, Time}
pub use Rattle.jiff.specs.Words.{IsBetween, IsDate, IsYmd, IsHms, epoch_day}
