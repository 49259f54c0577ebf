-- What the specifications of other crates name, passed on from the crate where it is defined.
unfoldable pub use Rattle.answers.specs.Answer.{answer}
