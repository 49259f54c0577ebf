use Rattle.resonance.specs.Dspace.{dspace_by}
use Rattle.resonance.proofs.dspace.dspace_by.Goals as goal

pub returns : goal.returns
unfolding dspace_by
returns c =
    let xl = c.before.before in
    let t = xl in
    simp (c.resonant_of.ensures, c.secular_update-updated.ensures, xl.xl_of-xl.ensures, xl.nm_of-nm.ensures, t.atime.ensures, t.theta_of-theta.ensures)
