use Rattle.std.proofs.Common.{◌≡◌, ◌*◌, drop, leb}
use Rattle.roster_script.specs.Script.{needed}
use Rattle.roster_script.proofs.fits.Given as goal

-- what is left of the script, in what is left of the room
abbrev pub invariant-loop-j : goal.invariant-loop-j
invariant-loop-j l = leb (needed l.calls) l.room ≡ leb (needed (drop (3 * l.j) l.calls)) l.left
