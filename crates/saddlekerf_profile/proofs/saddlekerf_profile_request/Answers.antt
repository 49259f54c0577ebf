use mir.Syntax.{w64}
use mir.ValLaws.{to_z-of_z}
use Rattle.saddlekerf_profile.proofs.saddlekerf_profile_request.Goals as goal

pub returns : goal.returns
returns c = rw (to_z-of_z w64 _ c.ranges.time) at c.request_held.ensures
