use Rattle.std.proofs.Common.{◌≡◌, ◌-◌}
use Rattle.resonance.specs.Place.{number, iter}
use Rattle.resonance.proofs.place.Place.carried.Given as goal

-- what is left to do is unchanged
abbrev pub invariant-loop : goal.invariant-loop
invariant-loop l = record { reached : number l.p ≡ l.counter; rest : iter l.i (l.end - number l.p) l.p ≡ iter l.i (l.end - number l.initial.p) l.initial.p }
