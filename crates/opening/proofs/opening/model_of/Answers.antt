use Rattle.opening.proofs.AheadSame.{deep_model, near_model_lem}
use Rattle.opening.proofs.opening.model_of.Goals as goal

pub returns-then-is_deep_space : goal.returns-then-is_deep_space
returns-then-is_deep_space c =
    let a = c.before in
    let b = a in
    deep_model _ _ _ _ _ _ _ _ _ b.is_deep_space.ensures b.if-is_deep_space.true a.ahead_of-a.ensures c.near_earth-near.ensures c.deep_space-d.ensures

pub returns : goal.returns
returns c =
    near_model_lem _ _ _ _ _ _ _ c.is_deep_space.ensures c.if-is_deep_space.false c.near_earth-near-2.ensures
