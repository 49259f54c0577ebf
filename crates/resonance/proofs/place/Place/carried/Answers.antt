use Rattle.std.proofs.Common.{ap, ◌∙◌, arith}
use Rattle.resonance.specs.Place.{number}
use Rattle.resonance.proofs.Laws.{turn, stride_number, carried_ends}
use Rattle.resonance.proofs.place.Place.carried.Goals as goal

pub loop-preserved : goal.loop-preserved
loop-preserved c = record {
  reached = ap number c.stride-p.ensures ∙ stride_number _ _ ∙ omega arith;
  rest = turn _ _ _ _ c.stride-p.ensures (omega arith) ∙ c.loop.invariant.rest;
}

pub returns : goal.returns
returns c = c.kept.ensures ∙ carried_ends _ _ _ _ (omega arith) c.loop.invariant.rest
