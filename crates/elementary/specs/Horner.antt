pub use Rattle.floats.specs.Horner.{inv}
unfoldable pub use Rattle.floats.specs.Horner.{horner}
