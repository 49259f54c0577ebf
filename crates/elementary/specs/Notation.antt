pub use Rattle.floats.specs.Notation.{◌⊕◌, ◌⊖◌, ◌⊗◌, ◌⊘◌, dec, pi, two_pi, half_pi}
unfoldable pub use Rattle.floats.specs.Notation.{finite}
