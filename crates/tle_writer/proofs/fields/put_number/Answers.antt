use mathlib.Core.Path.{◌≡◌, refl}
use Prim.Native.Nat.{◌≤◌, ◌/◌, ◌^◌}
use lib.ListN.{length, get_or}
use Rattle.columns.specs.FirstPlace.{first_places}
use Rattle.tle_writer.proofs.Overs.{and}
use native.Mathlib.Omega.{arith}
use Rattle.tle_writer.proofs.fields.put_number.Goals as goal

pub returns : goal.returns
returns c =
    let a = c.args in
    let h : a.at ≤ length a.line = omega arith in
    let first : c.first_place_of.result ≡ get_or first_places (a.n / 10 ^ 4) 0 = c.first_place_of.ensures in
    rw (← first) (and refl h c.put_byte-l.ensures c.put_at.ensures)
