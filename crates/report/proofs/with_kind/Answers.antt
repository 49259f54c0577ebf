use Rattle.report.specs.State.{with_kind}
use Rattle.report.proofs.with_kind.Goals as goal

pub returns : goal.returns
unfolding with_kind
returns c =
    simp (
      c.later.ensures,
      c.first_stamp-2.ensures,
      c.earlier.ensures,
      c.first_stamp.ensures,
      c.plus-4.ensures,
      c.is_unopened.ensures,
      c.plus-3.ensures,
      c.is_deep.ensures,
      c.plus-2.ensures,
      c.is_near.ensures,
      c.plus.ensures,
    )
