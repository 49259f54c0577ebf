pub mod Geodetic
