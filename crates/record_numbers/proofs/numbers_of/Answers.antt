use mathlib.Core.Path.{◌∙◌, ap}
use mathlib.Core.List.{[], ◌∷◌}
use lib.IntN.{pos}
use native.Mathlib.Omega.{arith}
use Rattle.record_numbers.specs.Numbers.{numbers_of}
use Rattle.record_numbers.proofs.Signed.{held, held_plus}
use Rattle.record_numbers.proofs.Small.{class_byte}
use Rattle.record_numbers.proofs.numbers_of.Goals as goal

pub plus-requires-2 : goal.plus-requires-2
plus-requires-2 c = omega (arith, c.letter_of.ensures, class_byte c.args.r.class)

pub returns : goal.returns
unfolding numbers_of
returns c =
    let places = c.places_of-d.ensures in
    let r = c.args.r in
    let k = c.requires in
    λ i.
    held_plus _ _ c.plus.ensures k.4 i
    ∷ held_plus _ _ (c.plus-2.ensures ∙ ap pos c.letter_of.ensures) (omega (arith, class_byte r.class)) i
    ∷ held_plus _ _ (c.plus-3.ensures ∙ ap (λ d. pos d.launch) places) k.0 i
    ∷ held_plus _ _ (c.plus-4.ensures ∙ ap (λ d. pos d.a) places) k.1 i
    ∷ held_plus _ _ (c.plus-5.ensures ∙ ap (λ d. pos d.b) places) k.2 i
    ∷ held_plus _ _ (c.plus-6.ensures ∙ ap (λ d. pos d.c) places) k.3 i
    ∷ held_plus _ _ c.plus-7.ensures k.5 i
    ∷ held_plus _ _ c.plus-8.ensures k.6 i
    ∷ held r.ndot k.16 i
    ∷ held r.nddot.mantissa k.17 i ∷ held r.nddot.exponent k.18 i
    ∷ held r.bstar.mantissa k.19 i ∷ held r.bstar.exponent k.20 i
    ∷ held_plus _ _ c.plus-9.ensures k.7 i
    ∷ held_plus _ _ c.plus-10.ensures k.8 i
    ∷ held_plus _ _ c.plus-11.ensures k.9 i
    ∷ held_plus _ _ c.plus-12.ensures k.10 i
    ∷ held_plus _ _ c.plus-13.ensures k.11 i
    ∷ held_plus _ _ c.plus-14.ensures k.12 i
    ∷ held_plus _ _ c.plus-15.ensures k.13 i
    ∷ held_plus _ _ c.plus-16.ensures k.14 i
    ∷ held_plus _ _ c.plus-17.ensures k.15 i
    ∷ []
