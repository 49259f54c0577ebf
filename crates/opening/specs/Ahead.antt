-- The deep-space initialization with its longest steps begun ahead, which serves speed alone. proofs/AheadSame: it comes to the same. Definitions only.
use Rattle.std.specs.Prelude.{Float}
use Rattle.satellite.specs.declared.Elements.{Elements}
use Rattle.satellite.specs.declared.NearEarth.{NearEarth}
use Rattle.satellite.specs.declared.DeepSpace.{DeepSpace}
use Rattle.lunar_solar.specs.Dscom.{angles_of, lunar_of, dscom_from}
use Rattle.lunar_solar.specs.Dsinit.{secular_of}
use Rattle.resonance_terms.specs.Dsinit.{dsinit_from}
use Rattle.resonance_terms.specs.Ahead.{aonv_ahead}
use Rattle.opening.specs.declared.ahead.Ahead.{Ahead}
use Rattle.opening.specs.DeepSpace.{tc, set_up, orbit, at_epoch}

-- of the epoch in days, the elements and the recovered mean motion
unfoldable pub ahead_of : Float → Elements → Float → Ahead
ahead_of epoch el n = record {
  aonv = aonv_ahead n el.ecco;
  angles = angles_of el.argpo el.inclo el.nodeo;
  lunar = lunar_of epoch tc;
}

-- deep_space_of of what is ahead
unfoldable pub deep_space_from : Ahead → Float → Float → NearEarth → Float → DeepSpace
deep_space_from a epoch gsto n eccsq =
    let c = dscom_from a.angles a.lunar epoch n.elements.ecco tc n.elements.no in
    let x = set_up c n in
    let s = secular_of c n.elements.inclo in
    record { rates = s; periodics = c.periodics; integrator = dsinit_from (orbit c x.ep eccsq) a.aonv (at_epoch n x gsto) s tc }
