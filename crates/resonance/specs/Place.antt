-- The saved position, and how a request carries it on: document 01, "Steps of the model", its second paragraph; the stride itself is 002's dspace
-- (lines 2637-2731). Definitions only.
use Rattle.std.specs.Prelude.{ℕ, zero, suc, ◌+◌, ◌-◌, Bool, true, false, ◌||◌, ◌&&◌, not, ltb, eqb, Float}
use Rattle.std.specs.Float.Ieee.{neg}
use Rattle.elementary.specs.Notation.{◌⊕◌, ◌⊗◌, dec}
use Rattle.satellite.specs.declared.Resonance.{Resonance}
use Rattle.satellite.specs.declared.Resonance.TheVariants as kinds
use Rattle.satellite.specs.declared.Integrator.{Integrator}
use Rattle.resonance.specs.declared.dots.Dots.{Dots}
use Rattle.resonance.specs.declared.place.Side.{Side}
use Rattle.resonance.specs.declared.place.Side.TheVariants.{Forward, Back}
use Rattle.resonance.specs.declared.place.Place.{Place}
use Rattle.resonance.specs.declared.place.Advance.{Advance}
use Rattle.resonance.specs.Dots.{dots_of}

-- ── the position ──

abbrev pub same_side : Side → Side → Bool
same_side Forward Forward = true
same_side Forward Back = false
same_side Back Forward = false
same_side Back Back = true

-- the stride number
abbrev pub number : Place → ℕ
number p = p.strides.0

-- dsinit 2483-2484, dspace 2649-2650; without resonance they stay the zeros that sgp4init begins with (3012)
unfoldable pub at_epoch : Resonance → Float → Float
at_epoch kinds.None x = dec 0 0
at_epoch (kinds.OneDay d) x = x
at_epoch (kinds.HalfDay h) x = x

-- the position of the epoch: xli is xlamo and xni is no
unfoldable pub epoch_of : Integrator → Place
epoch_of i = record { side = Forward; strides = record { 0 = 0 }; xli = at_epoch i.resonance i.xlamo; xni = at_epoch i.resonance i.no }

abbrev pub facing : Side → Place → Place
facing d p = record { side = d; strides = p.strides; xli = p.xli; xni = p.xni }

abbrev pub pick : Bool → Place → Place → Place
pick true a b = a
pick false a b = b

-- ── one stride ──

-- 2608-2609: stepp or stepn
unfoldable pub delt_of : Side → Float
delt_of Forward = dec 720 0
delt_of Back = neg (dec 720 0)

-- 002's atime: 0.0 at the epoch (2648), and delt more with each stride (2729)
unfoldable pub atime_after : Side → ℕ → Float
atime_after d zero = dec 0 0
atime_after d (suc n) = atime_after d n ⊕ delt_of d

unfoldable pub atime_of : Place → Float
atime_of p = atime_after p.side (number p)

-- 2706, and the derivatives at the position
unfoldable pub dots_at : Integrator → Place → Dots
dots_at i p = dots_of i.resonance p.xli p.xni i.xfact (i.argpo ⊕ i.argpdot ⊗ atime_of p)

-- 2727 and 2728; step2 is 259200.0 (2610)
unfoldable pub next_xli : Dots → Float → Float → Float
next_xli d xli delt = xli ⊕ d.xldot ⊗ delt ⊕ d.xndt ⊗ dec 259200 0

unfoldable pub next_xni : Dots → Float → Float → Float
next_xni d xni delt = xni ⊕ d.xndt ⊗ delt ⊕ d.xnddt ⊗ dec 259200 0

-- one stride of 720 minutes on, towards the position's side: 2725-2730
unfoldable pub stride : Integrator → Place → Place
stride i p =
    record {
      side = p.side;
      strides = record { 0 = number p + 1 };
      xli = next_xli (dots_at i p) p.xli (delt_of p.side);
      xni = next_xni (dots_at i p) p.xni (delt_of p.side);
    }

-- n strides on
unfoldable pub iter : Integrator → ℕ → Place → Place
iter i zero p = p
iter i (suc n) p = iter i n (stride i p)

-- ── a request for m strides on the side d ──

-- "It resumes when the side agrees (stride 0 agrees with either) and m is not below the saved number"
unfoldable pub resumes : Place → Side → ℕ → Bool
resumes p d m = not (ltb m (number p)) && (eqb (number p) 0 || same_side p.side d)

-- "otherwise it starts at the epoch"
unfoldable pub begun : Place → Place → Side → ℕ → Place
begun epoch p d m = pick (resumes p d m) (facing d p) (facing d epoch)

-- "At stride 0 the side is kept as forward"
unfoldable pub kept : Place → Place
kept p = pick (eqb (number p) 0) (facing Forward p) p

-- "After an in-range time the saved position is that of m": what such a request makes of any saved position p
unfoldable pub advanced : Integrator → Place → Side → ℕ → Place
advanced i p d m = let b = begun (epoch_of i) p d m in kept (iter i (m - number b) b)

-- "The strides reported equal the rise of the stride number from the start chosen"
unfoldable pub rise : Integrator → Place → Side → ℕ → ℕ
rise i p d m = m - number (begun (epoch_of i) p d m)

unfoldable pub advance_of : Integrator → Place → Side → ℕ → Advance
advance_of i p d m = record { place = advanced i p d m; strides = record { 0 = rise i p d m } }
