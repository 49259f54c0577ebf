use Rattle.resonance.specs.Place.{advance_of, advanced, rise}
use Rattle.resonance.proofs.Laws.{begun_le}
use Rattle.resonance.proofs.place.Place.advance.Goals as goal

pub carried-place-requires : goal.carried-place-requires
unfolding advance_of advanced rise
carried-place-requires c = rw (c.start-from.ensures, c.epoch_place.ensures) (begun_le _ _ _ _)

pub overflow_sub-result : goal.overflow_sub-result
unfolding advance_of advanced rise
overflow_sub-result c = rw (c.start-from.ensures, c.epoch_place.ensures) (begun_le _ _ _ _)

pub returns : goal.returns
unfolding advance_of advanced rise
returns c = simp (c.carried-place.ensures, c.start-from.ensures, c.epoch_place.ensures)
