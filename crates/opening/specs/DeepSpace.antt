-- 002's sgp4init: deep space initialization (lines 3131-3190). Definitions only.
use Rattle.std.specs.Prelude.{true, Float}
use Rattle.elementary.specs.Notation.{◌⊕◌, dec}
use Rattle.satellite.specs.declared.NearEarth.{NearEarth}
use Rattle.satellite.specs.declared.DeepSpace.{DeepSpace}
use Rattle.lunar_solar.specs.declared.dscom.Common.{Common}
use Rattle.periodics.specs.declared.dpper.Perturbed.{Perturbed}
use Rattle.lunar_solar.specs.Dscom.{dscom_of}
use Rattle.periodics.specs.Dpper.{dpper_of}
use Rattle.lunar_solar.specs.Dsinit.{secular_of}
use Rattle.resonance_terms.specs.declared.dsinit.Orbit.{Orbit}
use Rattle.resonance_terms.specs.declared.dsinit.Epoch.{Epoch}
use Rattle.resonance_terms.specs.Dsinit.{dsinit_of}

-- 3136: tc is 0.0
abbrev pub tc : Float
tc = dec 0 0

-- 3139-3156, of the epoch in days
unfoldable pub common : Float → NearEarth → Common
common epoch n =
    dscom_of epoch n.elements.ecco n.elements.argpo tc n.elements.inclo n.elements.nodeo n.elements.no

-- what dpper is handed to change
unfoldable pub unchanged : NearEarth → Perturbed
unchanged n =
    record { ep = n.elements.ecco; inclp = n.elements.inclo; nodep = n.elements.nodeo; argpp = n.elements.argpo; mp = n.elements.mo }

-- 3157-3168: dpper with init 'y', at satrec.t, which is 0.0 (3034)
unfoldable pub set_up : Common → NearEarth → Perturbed
set_up c n = dpper_of true c.periodics (record { 0 = dec 0 0 }) (unchanged n)

-- what dsinit takes of dscom, with satrec.ecco and eccsq
unfoldable pub orbit : Common → Float → Float → Orbit
orbit c ecco eccsq =
    record {
      sinim = c.angles.sinim;
      cosim = c.angles.cosim;
      em = c.shape.em;
      emsq = c.shape.emsq;
      nm = c.shape.nm;
      ecco = ecco;
      eccsq = eccsq;
    }

-- 3109: xpidot
unfoldable pub at_epoch : NearEarth → Perturbed → Float → Epoch
at_epoch n x gsto =
    record {
      mo = x.mp;
      nodeo = x.nodep;
      argpo = x.argpp;
      no = n.elements.no;
      mdot = n.rates.mdot;
      nodedot = n.rates.nodedot;
      argpdot = n.rates.argpdot;
      xpidot = n.rates.argpdot ⊕ n.rates.nodedot;
      gsto = gsto;
    }

-- 3131-3190, of the epoch in days, the Greenwich angle, the near-Earth part and eccsq. inclm is satrec.inclo as it was before dpper (3137).
unfoldable pub deep_space_of : Float → Float → NearEarth → Float → DeepSpace
deep_space_of epoch gsto n eccsq =
    let c = common epoch n in
    let x = set_up c n in
    let s = secular_of c n.elements.inclo in
    record { rates = s; periodics = c.periodics; integrator = dsinit_of (orbit c x.ep eccsq) (at_epoch n x gsto) s tc }
