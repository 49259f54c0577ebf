-- The lines of the epochs and the span.
use Prim.Native.Nat.{ℕ}
use mathlib.Core.Path.{◌≡◌}
use borrow.Author.Tests.{eq-eqb, ne_eqb}
use Rattle.report.specs.declared.Stamp.{Stamp}
use Rattle.monday_report.specs.Print.{span_text, dashes, times_text}

pub timed : (n : ℕ) (a b : Stamp) → n ≡ 0 → dashes ≡ times_text n a b
unfolding times_text
timed n a b e = rw (eq-eqb n 0 e)

pub timed_span : (n : ℕ) (a b : Stamp) → (n ≡ 0 → ⊥) → span_text a b ≡ times_text n a b
unfolding times_text
timed_span n a b e = rw (ne_eqb n 0 e)
