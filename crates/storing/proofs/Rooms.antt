-- A room that is too short stays as it is; how long a satellite's numbers are.
use mathlib.Core.Path.{◌≡◌, refl}
use mathlib.Core.Bool.{Bool, true, false, cond}
use Prim.Native.Nat.{ℕ, ◌≤◌, ◌<◌}
use native.Mathlib.Omega.{arith}
use borrow.Author.Tests.{lt-ltb, le-ltb}
use lib.ListN.{length}
use Rattle.satellite.specs.declared.Resonance.{Resonance}
use Rattle.satellite.specs.declared.Resonance.TheVariants as resonance
use Rattle.satellite.specs.declared.Method.{Method}
use Rattle.satellite.specs.declared.Method.TheVariants as method
use Rattle.opening.specs.declared.opening.Satellite.{Satellite}
use Rattle.storage.specs.Storage.{too_short, coefficients, integrator_numbers, lunar_solar_numbers, deep_numbers, method_numbers, near_numbers, model_numbers, place_numbers, numbers_of, place_marks, model_marks, marks_of}

pub few_numbers : (n m : ℕ) → n < 83 → too_short n m ≡ true
unfolding too_short
few_numbers n m h = simp (lt-ltb n 83 h)

pub few_marks : (n m : ℕ) → 83 ≤ n → m < 6 → too_short n m ≡ true
unfolding too_short
few_marks n m h k = simp (le-ltb n 83 h, lt-ltb m 6 k)

pub enough : (n m : ℕ) → 83 ≤ n → 6 ≤ m → too_short n m ≡ false
unfolding too_short
enough n m h k = simp (le-ltb n 83 h, le-ltb m 6 k)

pub stays : {A : Type 0} (b : Bool) (x y : A) → b ≡ true → x ≡ cond b x y
stays b x y h = rw h

pub written : {A : Type 0} (b : Bool) (x y z : A) → b ≡ false → z ≡ y → z ≡ cond b x y
written b x y z h e = rw h e

ten : (r : Resonance) → length (coefficients r) ≡ 10
ten resonance.None = refl
ten (resonance.OneDay d) = refl
ten (resonance.HalfDay d) = refl

length_method : (m : Method) → length (method_numbers m) ≡ 47
unfolding method_numbers deep_numbers lunar_solar_numbers integrator_numbers
length_method method.NearEarth = refl
length_method (method.DeepSpace d) = omega (arith, ten d.integrator.resonance)

pub length_numbers : (s : Satellite) → length (numbers_of s) ≡ 83
unfolding numbers_of place_numbers model_numbers near_numbers
length_numbers s = omega (arith, length_method s.model.method)

pub length_marks : (s : Satellite) → length (marks_of s) ≡ 6
unfolding marks_of place_marks model_marks
length_marks s = refl
