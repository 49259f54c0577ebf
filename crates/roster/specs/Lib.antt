pub mod Records
pub mod Packed
pub mod Roster
pub mod Row
pub mod Claims
pub mod Examples
pub mod Scan
pub mod Shift
