use mathlib.Core.Path.{refl}
use Rattle.resonance.specs.Held.{unknown}
use lib.Ieee.{round, units, odd, size, span, climb, of_bits, neg}
use lib.Count.{count_trailing_zeros}
use Rattle.resonance.proofs.held.unknown.Goals as goal

pub returns : goal.returns
unfolding unknown round units odd size span climb count_trailing_zeros of_bits neg
returns c = refl
