use Rattle.requests.specs.Request.{reached}
use Rattle.requests.proofs.reached.Goals as goal

pub returns : goal.returns
unfolding reached
returns c =
    let side-of = c in
    simp (
      c.advance.ensures,
      c.stride_need.ensures,
      side-of.side_of.ensures,
      side-of.integrator_of-i.ensures,
    )
