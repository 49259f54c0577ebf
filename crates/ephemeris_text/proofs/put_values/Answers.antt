use borrow.Author.Tests.{eq-eqb, ne_eqb}
use Rattle.floats.proofs.Branch.{yes, no}
use Rattle.text.proofs.Pieces.{same}
use Rattle.ephemeris_text.specs.Rows.{values_text}
use Rattle.ephemeris_text.proofs.put_values.Goals as goal

pub returns-then-refusal-eq0 : goal.returns-then-refusal-eq0
unfolding values_text
returns-then-refusal-eq0 c = let p = c in same (yes _ _ _ (eq-eqb _ _ p.if-refusal-eq0.true)) p.put_state.ensures

pub returns : goal.returns
unfolding values_text
returns c = let p = c in same (no _ _ _ (ne_eqb _ _ p.if-refusal-eq0.false)) p.put_no_state.ensures
