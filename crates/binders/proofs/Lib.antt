pub mod Counting
pub mod Happening
pub mod HeldBy
pub mod OnFlights
pub mod Stepping
