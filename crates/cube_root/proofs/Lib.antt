pub mod Theorems
mod CubeLaws
mod CubePatterns
mod CubeNearest
