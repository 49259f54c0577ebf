-- Laws of records packed in places of w: one taken in, replaced, taken out. They hold for every f that gives w numbers a record.
use Prim.Native.Nat.{ℕ, zero, suc, ◌+◌, ◌-◌, ◌*◌, ◌<◌, ◌≤◌}
use mathlib.Core.Path.{◌≡◌, refl, ap, sym, ◌∙◌}
use mathlib.Core.List.{List, [], ◌∷◌, ◌++◌, append_assoc, flat_map}
use mathlib.Core.Option.{some, some-injective, none-ne-some}
use native.Mathlib.Omega.{arith}
use lib.ListN.{length, take, drop, replicate, get_elem?, length-append, length-replicate, replicate-append-replicate}
use lib.Seq.{length-take-le, take-append-le, take-take, take_at, drop_at, drop-drop}
use Rattle.tle.specs.declared.Record.{Record}
use Rattle.tle_writer.specs.Over.{over}
use Rattle.roster.specs.Packed.{packed}
use Rattle.roster.specs.Shift.{opened, closed}

pub flat_map_append : (f : Record → List ℕ) (xs ys : List Record) → flat_map f (xs ++ ys) ≡ flat_map f xs ++ flat_map f ys
unfolding flat_map
flat_map_append f [] ys = refl
flat_map_append f (x ∷ xs) ys = ap (λ (t : List ℕ). f x ++ t) (flat_map_append f xs ys) ∙ sym (append_assoc (f x) (flat_map f xs) (flat_map f ys))

module _ (f : Record → List ℕ) (w : ℕ) (wide : (r : Record) → length (f r) ≡ w) where
  pub length_flat_map : (rs : List Record) → length (flat_map f rs) ≡ length rs * w
  unfolding flat_map
  length_flat_map [] = omega arith
  length_flat_map (r ∷ rs) = length-append (f r) (flat_map f rs) ∙ rw (wide r, length_flat_map rs) (omega arith)

  -- zeros of the places behind n records
  abbrev pad : ℕ → ℕ → List ℕ
  pad k n = replicate ((k - n) * w) 0

  add_times : (a b : ℕ) → a * w + b * w ≡ (a + b) * w
  add_times a b = omega arith

  times : (k n : ℕ) → n ≤ k → n * w + (k - n) * w ≡ k * w
  times k n h = add_times n (k - n) ∙ ap (λ (m : ℕ). m * w) (let e : n + (k - n) ≡ k = omega arith in e)

  length_pad : (k n : ℕ) → n ≤ k → n * w + length (pad k n) ≡ k * w
  length_pad k n h = rw (length-replicate {A = ℕ} ((k - n) * w) 0) (times k n h)

  -- one place fewer of zeros
  pad_more : (k n : ℕ) → n < k → pad k n ≡ pad k (n + 1) ++ replicate w 0
  pad_more k n h =
      let e : k - n ≡ k - (n + 1) + 1 = omega arith in
      ap (λ (m : ℕ). replicate (m * w) 0) e
      ∙ ap (λ (m : ℕ). replicate m 0) (let g = add_times (k - (n + 1)) 1 in let o : 1 * w ≡ w = omega arith in sym g ∙ ap (λ (m : ℕ). (k - (n + 1)) * w + m) o)
      ∙ sym (replicate-append-replicate ((k - (n + 1)) * w) w 0)

  pub length_packed : (k : ℕ) (rs : List Record) → length rs ≤ k → length (packed f w k rs) ≡ k * w
  unfolding packed
  length_packed k rs h = length-append (flat_map f rs) (pad k (length rs)) ∙ rw (length_flat_map rs) (length_pad k (length rs) h)

  -- the first place, and the others
  pub one_more : (k : ℕ) (r : Record) (rs : List Record) → packed f w (suc k) (r ∷ rs) ≡ f r ++ packed f w k rs
  unfolding packed flat_map
  one_more k r rs =
      let e : suc k - suc (length rs) ≡ k - length rs = omega arith in
      rw e (append_assoc (f r) (flat_map f rs) (replicate ((k - length rs) * w) 0))

  -- from the place of a record on, whatever z is behind them all
  pub place_of_lem : (rs : List Record) (z : List ℕ) (i : ℕ) (r : Record) → get_elem? rs i ≡ some r → (t : List ℕ) × (drop (i * w) (flat_map f rs ++ z) ≡ f r ++ t)
  unfolding flat_map
  place_of_lem [] z i r e = absurd (none-ne-some r e)
  place_of_lem (x ∷ rs) z zero r e =
      let n : 0 * w ≡ 0 = omega arith in
      (flat_map f rs ++ z, rw n (append_assoc (f x) (flat_map f rs) z ∙ ap (λ (s : Record). f s ++ (flat_map f rs ++ z)) (some-injective x r e)))
  place_of_lem (x ∷ rs) z (suc i) r e =
      let p = place_of_lem rs z i r e in
      let n : suc i * w ≡ w + i * w = omega arith in (
        p.0,
        rw (n, append_assoc (f x) (flat_map f rs) z)
            (sym (drop-drop (i * w) w (f x ++ (flat_map f rs ++ z))) ∙ ap (drop (i * w)) (drop_at (f x) (flat_map f rs ++ z) w (wide x)) ∙ p.1),
      )

  -- a list in two parts, and around one record
  cut : (k : ℕ) (xs ys : List Record) → packed f w k (xs ++ ys) ≡ flat_map f xs ++ (flat_map f ys ++ pad k (length xs + length ys))
  unfolding packed
  cut k xs ys = rw (flat_map_append f xs ys, length-append xs ys) (append_assoc (flat_map f xs) (flat_map f ys) (pad k (length xs + length ys)))

  around : (k : ℕ) (xs zs : List Record) (s : Record) → packed f w k (xs ++ s ∷ zs) ≡ flat_map f xs ++ (f s ++ (flat_map f zs ++ pad k (length xs + length zs + 1)))
  unfolding flat_map
  around k xs zs s =
      cut k xs (s ∷ zs)
      ∙ ap (λ (n : ℕ). flat_map f xs ++ (f s ++ flat_map f zs ++ pad k n)) (let e : length xs + suc (length zs) ≡ length xs + length zs + 1 = omega arith in e)
      ∙ ap (λ (t : List ℕ). flat_map f xs ++ t) (append_assoc (f s) (flat_map f zs) (pad k (length xs + length zs + 1)))

  -- ── replaced ──

  pub replaced : (k : ℕ) (xs zs : List Record) (s r : Record) → over (length xs * w) w (f r) (packed f w k (xs ++ s ∷ zs)) ≡ packed f w k (xs ++ r ∷ zs)
  unfolding over
  replaced k xs zs s r =
      let a = length xs * w in
      let t = flat_map f zs ++ pad k (length xs + length zs + 1) in
      rw (around k xs zs s, around k xs zs r, take_at (flat_map f xs) (f s ++ t) a (length_flat_map xs), drop_at (flat_map f xs) (f s ++ t) a (length_flat_map xs), drop_at (f s) t w (wide s))

  -- ── taken out ──

  pub removed : (k : ℕ) (xs zs : List Record) (s : Record) → length (xs ++ s ∷ zs) ≤ k → closed (length xs * w) w (packed f w k (xs ++ s ∷ zs)) ≡ packed f w k (xs ++ zs)
  unfolding closed
  removed k xs zs s h =
      let n = length xs + length zs in
      let a = length xs * w in
      let t = flat_map f zs ++ pad k (n + 1) in
      let fits : n < k = omega (arith, length-append xs (s ∷ zs)) in
      let far : drop (a + w) (flat_map f xs ++ (f s ++ t)) ≡ t =
      sym (drop-drop w a (flat_map f xs ++ (f s ++ t))) ∙ rw (drop_at (flat_map f xs) (f s ++ t) a (length_flat_map xs), drop_at (f s) t w (wide s)) in
      rw (around k xs zs s, cut k xs zs, take_at (flat_map f xs) (f s ++ t) a (length_flat_map xs), far, pad_more k n fits)
      (append_assoc (flat_map f xs) t (replicate w 0)
      ∙ ap (λ (u : List ℕ). flat_map f xs ++ u) (append_assoc (flat_map f zs) (pad k (n + 1)) (replicate w 0)))

  -- ── taken in ──

  module _ (k : ℕ) (xs ys : List Record) (room : length (xs ++ ys) < k) where
    abbrev all : List ℕ
    all = packed f w k (xs ++ ys)

    fits : length xs + length ys < k
    fits = omega (arith, length-append xs ys)

    length_all : length all ≡ k * w
    length_all = length_packed k (xs ++ ys) (omega arith)

    -- what is left of the zeros
    lengths : length xs * w + w + (length ys * w + length (pad k (length xs + length ys + 1))) ≡ k * w
    lengths =
        let e = length_pad k (length xs + length ys + 1) (omega (arith, fits)) in
        let g : length xs * w + w + (length ys * w + length (pad k (length xs + length ys + 1))) ≡ (length xs + length ys + 1) * w + length (pad k (length xs + length ys + 1)) = omega arith in
        g ∙ e

    reaches : length xs * w + w ≤ length all
    reaches = omega (arith, lengths, length_all)

    behind : drop (length xs * w) all ≡ flat_map f ys ++ pad k (length xs + length ys + 1) ++ replicate w 0
    behind =
        rw (cut k xs ys, drop_at (flat_map f xs) (flat_map f ys ++ pad k (length xs + length ys)) (length xs * w) (length_flat_map xs), pad_more k (length xs + length ys) fits)
        (sym (append_assoc (flat_map f ys) (pad k (length xs + length ys + 1)) (replicate w 0)))

    moved : take (length all - (length xs * w + w)) (drop (length xs * w) all) ≡ flat_map f ys ++ pad k (length xs + length ys + 1)
    moved =
        rw behind
        (take_at (flat_map f ys ++ pad k (length xs + length ys + 1)) (replicate w 0) (length all - (length xs * w + w))
        (length-append (flat_map f ys) (pad k (length xs + length ys + 1)) ∙ rw (length_flat_map ys) (omega (arith, lengths, length_all))))

    before : take (length xs * w) (opened (length xs * w) w all) ≡ flat_map f xs
    unfolding opened
    before =
        take-append-le (length xs * w) (take (length xs * w + w) all) (take (length all - (length xs * w + w)) (drop (length xs * w) all))
        (rw (length-take-le (length xs * w + w) all reaches) (omega arith))
        ∙ take-take (length xs * w) (length xs * w + w) all (omega arith)
        ∙ rw (cut k xs ys) (take_at (flat_map f xs) (flat_map f ys ++ pad k (length xs + length ys)) (length xs * w) (length_flat_map xs))

    after : drop w (drop (length xs * w) (opened (length xs * w) w all)) ≡ flat_map f ys ++ pad k (length xs + length ys + 1)
    unfolding opened
    after =
        drop-drop w (length xs * w) (take (length xs * w + w) all ++ take (length all - (length xs * w + w)) (drop (length xs * w) all))
        ∙ drop_at (take (length xs * w + w) all) (take (length all - (length xs * w + w)) (drop (length xs * w) all)) (length xs * w + w)
        (length-take-le (length xs * w + w) all reaches)
        ∙ moved

    pub inserted : (r : Record) → over (length xs * w) w (f r) (opened (length xs * w) w all) ≡ packed f w k (xs ++ r ∷ ys)
    unfolding over
    inserted r = rw (before, after, around k xs ys r)
