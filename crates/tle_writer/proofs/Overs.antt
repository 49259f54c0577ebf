-- A field that is put over a line in parts.
use Prim.Native.Nat.{ℕ, zero, suc, ◌+◌, ◌≤◌, ◌<◌, ◌/◌, ◌%◌}
use mathlib.Core.Path.{◌≡◌, refl, sym, ap, ◌∙◌}
use mathlib.Core.List.{List, [], ◌∷◌, ◌++◌, append_assoc}
use native.Mathlib.Omega.{arith}
use lib.ListN.{length, take, drop, set, length-append}
use lib.Seq.{length-take-le, take_at, drop_at, drop-drop, set_split}
use Rattle.tle_writer.specs.Field.{place, lead, right}
use Rattle.tle_writer.specs.Over.{over, Put}

pub length_lead : (z w n : ℕ) → length (lead z w n) ≡ w
unfolding lead
length_lead z zero n = refl
length_lead z (suc w) n = length-append (lead z w (n / 10)) (place z n ∷ []) ∙ rw (length_lead z w (n / 10)) (omega arith)

pub length_right : (w n : ℕ) → length (right w n) ≡ w + 1
length_right w n = length-append (lead 32 w (n / 10)) (lead 48 1 (n % 10)) ∙ rw (length_lead 32 w (n / 10), length_lead 48 1 (n % 10))

-- a byte stored
pub stored : (at b : ℕ) (l : List ℕ) → at < length l → set l at b ≡ over at 1 (b ∷ []) l
unfolding over
stored at b l h = set_split l at b h ∙ rw (drop-drop 1 at l, let e : at + 1 ≡ suc at = omega arith in e)

behind : (at w v : ℕ) (xs ys l : List ℕ) → length xs ≡ w → at ≤ length l → over (at + w) v ys (over at w xs l) ≡ over at (w + v) (xs ++ ys) l
unfolding over
behind at w v xs ys l e h =
    let front : length (take at l ++ xs) ≡ at + w = length-append (take at l) xs ∙ rw (length-take-le at l h, e) in
    rw (← append_assoc (take at l) xs (drop w (drop at l)), take_at (take at l ++ xs) (drop w (drop at l)) (at + w) front, drop_at (take at l ++ xs) (drop w (drop at l)) (at + w) front, drop-drop v w (drop at l))
    (append_assoc (take at l) xs (ys ++ drop (w + v) (drop at l)) ∙ ap (λ (t : List ℕ). take at l ++ t) (sym (append_assoc xs ys (drop (w + v) (drop at l)))))

-- bytes put, and others behind them
pub and : {at w v from : ℕ} {xs ys line l m : List ℕ} → from ≡ at + w → at ≤ length line → Put at w xs line l → Put from v ys l m → Put at (w + v) (xs ++ ys) line m
and {at} {w} {v} {from} {xs} {ys} {line} {l} {m} f h p q = record {
  is = q.is ∙ rw (f, p.is) (behind at w v xs ys line p.wide h);
  wide = length-append xs ys ∙ rw (p.wide, q.wide);
}
