-- Refusal 8 looks at every number that sgp4init puts into 002's record. Definitions only.
use Rattle.std.specs.Prelude.{Bool, ◌&&◌}
use Rattle.elementary.specs.Notation.{finite}
use Rattle.satellite.specs.declared.Elements.{Elements}
use Rattle.satellite.specs.declared.Drag.{Drag}
use Rattle.satellite.specs.declared.Higher.{Higher}
use Rattle.satellite.specs.declared.Rates.{Rates}
use Rattle.satellite.specs.declared.Terms.{Terms}
use Rattle.satellite.specs.declared.NearEarth.{NearEarth}

unfoldable pub finite_elements : Elements → Bool
finite_elements e =
    finite e.bstar && finite e.ecco && finite e.argpo && finite e.inclo && finite e.mo && finite e.no && finite e.nodeo

unfoldable pub finite_drag : Drag → Bool
finite_drag d =
    finite d.eta && finite d.cc1 && finite d.cc4 && finite d.cc5 && finite d.omgcof && finite d.xmcof && finite d.t2cof
    && finite d.delmo && finite d.sinmao

unfoldable pub finite_higher : Higher → Bool
finite_higher h = finite h.d2 && finite h.d3 && finite h.d4 && finite h.t3cof && finite h.t4cof && finite h.t5cof

unfoldable pub finite_rates : Rates → Bool
finite_rates r = finite r.mdot && finite r.argpdot && finite r.nodedot && finite r.nodecf

unfoldable pub finite_terms : Terms → Bool
finite_terms t = finite t.con41 && finite t.x1mth2 && finite t.x7thm1 && finite t.xlcof && finite t.aycof

-- `kept` is not in 002's record: see specs/Kept
unfoldable pub finite_near : NearEarth → Bool
finite_near n = finite_elements n.elements && finite_drag n.drag && finite_higher n.higher && finite_rates n.rates && finite_terms n.terms
