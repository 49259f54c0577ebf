pub use Rattle.arctangent.specs.declared.pairs.Two.{Two}
