-- How the edges of a pass are refined by halving, and its highest point by thirds. Definitions only.
-- `p` is whether a satellite is above at an instant, `f` the sine of its elevation.
use Rattle.std.specs.Prelude.{ℕ, zero, suc, ◌+◌, ◌-◌, ◌/◌, max, min, Bool, cond, ◌&&◌, leb, Float}
use Rattle.std.specs.Float.Ieee.{lt}
use Rattle.geodetic.specs.declared.Site.{Site}
use Rattle.opening.specs.declared.opening.Satellite.{Satellite}
use Rattle.sightings.specs.Sightings.{seen_at}
use Rattle.pass_edges.specs.declared.Best.{Best}
use Rattle.pass_edges.specs.declared.Ends.{Ends}
use Rattle.pass_edges.specs.declared.Bracket.{Bracket}

-- ── a satellite, asked single instants ──

abbrev pub sine_at : Site → Satellite → ℕ → Float
sine_at site s t = (seen_at site s t).sine

-- above the least elevation, whose sine is given
abbrev pub above_at : Site → Float → Satellite → ℕ → Bool
above_at site least s t = lt least (sine_at site s t)

-- ── a loop: at most n steps, the last one that stops ──

unfoldable pub until : {A : Type 0} → (A → Bool) → (A → A) → ℕ → A → A
until stop next zero x = x
until stop next (suc n) x = cond (stop (next x)) (next x) (until stop next n (next x))

-- the steps that are left, the one that stopped among them
unfoldable pub left_over : {A : Type 0} → (A → Bool) → (A → A) → ℕ → A → ℕ
left_over stop next zero x = 0
left_over stop next (suc n) x = cond (stop (next x)) (suc n) (left_over stop next n (next x))

-- ── an edge ──

-- the middle between an instant that is not above and one that is, whichever comes first
unfoldable pub middle : ℕ → ℕ → ℕ
middle a b = (a + b) / 2

unfoldable pub halved : (ℕ → Bool) → Ends → Ends
halved p e =
    let m = middle e.below e.above in
    cond (p m) (record { below = e.below; above = m }) (record { below = m; above = e.above })

-- a microsecond apart, or none
unfoldable pub neighbours : Ends → Bool
neighbours e = leb e.below (e.above + 1) && leb e.above (e.below + 1)

-- 37 halvings of a day's microseconds leave one
unfoldable pub edge : (ℕ → Bool) → ℕ → ℕ → ℕ
edge p below above = (until neighbours (halved p) 37 (record { below = below; above = above })).above

-- ── the highest point ──

-- of three equal parts, the first or the last is left out: the one on the lower side
unfoldable pub thirds : (ℕ → Float) → Bracket → Bracket
thirds f b =
    let w = (b.hi - b.lo) / 3 in
    cond (lt (f (b.lo + w)) (f (b.hi - w))) (record { lo = b.lo + w; hi = b.hi }) (record { lo = b.lo; hi = b.hi - w })

-- a millisecond wide at most
unfoldable pub narrow : Bracket → Bool
narrow b = leb b.hi (b.lo + 1000)

unfoldable pub centre : Bracket → ℕ
centre b = b.lo + (b.hi - b.lo) / 2

-- 64 steps by thirds are enough for two days
unfoldable pub climbed : (ℕ → Float) → ℕ → ℕ → ℕ
climbed f lo hi = centre (until narrow (thirds f) 64 (record { lo = lo; hi = hi }))

-- between the neighbours of the highest sample, within the pass; where the search found nothing higher, that sample
unfoldable pub summit : (ℕ → Float) → Best → ℕ → ℕ → ℕ → ℕ
summit f b rise set step =
    let m = climbed f (max rise (b.at - step)) (min set (b.at + step)) in
    cond (lt b.sine (f m)) m b.at
