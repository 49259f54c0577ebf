-- One turn of the loop of `put`.
use mathlib.Core.Path.{◌≡◌, sym, ◌∙◌}
use mathlib.Core.List.{List, ◌∷◌, ◌++◌, append-nil}
use Prim.Native.Nat.{ℕ, zero, suc, ◌<◌, ◌≤◌, ◌-◌, ◌/◌}
use native.Mathlib.Omega.{arith}
use lib.ListN.{length, drop, set, length-set, drop_of_length-le}
use lib.Seq.{drop-cons, append_snoc, get_or-set_same, drop-set-lt}
use Rattle.tle_writer.specs.Field.{place, lead}

at_set : (j p : ℕ) (out : List ℕ) → j < length out → drop j (set out j p) ≡ p ∷ drop (suc j) out
at_set j p out h =
    drop-cons (set out j p) j 0 (rw length-set h) ∙ rw (get_or-set_same out j p 0 h, drop-set-lt (suc j) out j p (omega arith))

pub turn : (z i m : ℕ) (out : List ℕ) → 0 < i → i ≤ length out → lead z i m ++ drop i out ≡ lead z (i - 1) (m / 10) ++ drop (i - 1) (set out (i - 1) (place z m))
unfolding lead
turn z zero m out h g = absurd (omega arith)
turn z (suc j) m out h g =
    let e : suc j - 1 ≡ j = omega arith in
    rw (e, at_set j (place z m) out (omega arith)) (append_snoc (lead z j (m / 10)) (place z m) (drop (suc j) out))

pub end : (z i n m : ℕ) (w : ℕ) (out : List ℕ) → i ≤ 0 → lead z w n ≡ lead z i m ++ drop i out → out ≡ lead z w n
unfolding lead
end z zero n m w out h e = sym e
end z (suc i) n m w out h e = absurd (omega arith)
