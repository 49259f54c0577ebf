pub mod Request
pub mod Two
pub mod Lists
