-- 002's dspace (lines 2573-2749) from a position that the strides have reached. Definitions only.
use Rattle.std.specs.Prelude.{Float}
use Rattle.elementary.specs.Notation.{◌⊕◌, ◌⊖◌, ◌⊗◌, dec}
use Rattle.instant.specs.declared.Minutes.{Minutes}
use Rattle.satellite.specs.declared.SecularRates.{SecularRates}
use Rattle.satellite.specs.declared.Resonance.{Resonance}
use Rattle.satellite.specs.declared.Resonance.TheVariants as kinds
use Rattle.satellite.specs.declared.Integrator.{Integrator}
use Rattle.resonance.specs.declared.dots.Dots.{Dots}
use Rattle.resonance.specs.declared.place.Place.{Place}
use Rattle.resonance.specs.declared.dspace.Mean.{Mean}
use Rattle.resonance_terms.specs.Dsinit.{theta_of}
use Rattle.resonance.specs.Place.{atime_of, dots_at}

-- 2615-2620
unfoldable pub secular_update : SecularRates → Mean → Float → Mean
secular_update s m t =
    record {
      nm = m.nm;
      em = m.em ⊕ s.dedt ⊗ t;
      inclm = m.inclm ⊕ s.didt ⊗ t;
      argpm = m.argpm ⊕ s.domdt ⊗ t;
      nodem = m.nodem ⊕ s.dnodt ⊗ t;
      mm = m.mm ⊕ s.dmdt ⊗ t;
    }

-- 2733; ft is the time past the last whole stride (xniddt there is xnddt)
unfoldable pub nm_of : Dots → Float → Float → Float
nm_of d xni ft = xni ⊕ d.xndt ⊗ ft ⊕ d.xnddt ⊗ ft ⊗ ft ⊗ dec 5 1

-- 2734
unfoldable pub xl_of : Dots → Float → Float → Float
xl_of d xli ft = xli ⊕ d.xldot ⊗ ft ⊕ d.xndt ⊗ ft ⊗ ft ⊗ dec 5 1

-- 2738, 2743 and 2745
unfoldable pub changed_of : Integrator → Float → Float
changed_of i nm =
    let dndt = nm ⊖ i.no in
    i.no ⊕ dndt

-- 2735-2745. Misprints: 2737 and 2742 are mm = .., the mean anomaly. Without resonance (2639) both stay.
unfoldable pub resonant_of : Resonance → Integrator → Float → Float → Float → Mean → Mean
resonant_of kinds.None i nm xl theta m = m
resonant_of (kinds.OneDay d) i nm xl theta m =
    record { nm = changed_of i nm; em = m.em; inclm = m.inclm; argpm = m.argpm; nodem = m.nodem; mm = xl ⊖ m.nodem ⊖ m.argpm ⊕ theta }
resonant_of (kinds.HalfDay h) i nm xl theta m =
    record { nm = changed_of i nm; em = m.em; inclm = m.inclm; argpm = m.argpm; nodem = m.nodem; mm = xl ⊖ dec 2 0 ⊗ m.nodem ⊕ dec 2 0 ⊗ theta }

-- 2614, 2686 and the above, with d the derivatives at the position; tc is t
unfoldable pub dspace_by : Dots → Place → Integrator → SecularRates → Mean → Minutes → Mean
dspace_by d p i s m t =
    let theta = theta_of i.gsto t.0 in
    let ft = t.0 ⊖ atime_of p in
    resonant_of i.resonance i (nm_of d p.xni ft) (xl_of d p.xli ft) theta (secular_update s m t.0)

unfoldable pub dspace_of : Place → Integrator → SecularRates → Mean → Minutes → Mean
dspace_of p i s m t = dspace_by (dots_at i p) p i s m t
