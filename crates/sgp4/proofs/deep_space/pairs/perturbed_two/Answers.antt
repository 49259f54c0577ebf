use Rattle.sgp4.specs.Two.{ready_of, perturbed_two}
use Rattle.sgp4.proofs.deep_space.pairs.perturbed_two.Goals as goal

pub returns-then-no_ellipse : goal.returns-then-no_ellipse
unfolding perturbed_two
returns-then-no_ellipse c = simp (← c.no_ellipse-2.ensures, ← c.no_ellipse.ensures, c.if-no_ellipse.true)

pub returns : goal.returns
unfolding perturbed_two ready_of
returns c =
    let s = c.before in
    let f = s in
    simp (
      c.anew-k2.ensures,
      c.inclined-p2.ensures,
      c.anew-k.ensures,
      c.inclined-p.ensures,
      s.sin_cos-ip2.ensures.sin_value.0,
      s.sin_cos-ip2.ensures.sin_value.1,
      s.sin_cos-ip.ensures.sin_value.0,
      s.sin_cos-ip.ensures.sin_value.1,
      ← f.no_ellipse-2.ensures,
      ← f.no_ellipse.ensures,
      f.if-no_ellipse.false,
    )
