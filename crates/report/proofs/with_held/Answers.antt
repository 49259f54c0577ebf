use Rattle.listing.proofs.Kept.{held_part}
use lib.ListN.{length, take}
use Prim.Native.Nat.{◌-◌}
use Rattle.report.specs.State as S
use mathlib.Core.Path.{◌≡◌, ap, ◌∙◌}
use borrow.Author.Rules.{rules}
use Rattle.report.proofs.with_held.Goals as goal

pub returns : goal.returns
returns c =
    let h1 : length c.args.line1 ≡ 70 = search rules in
    let h2 : length c.args.line2 ≡ 70 = search rules in
    let e1 = held_part c.kept_size-n1.result c.args.size1 c.args.line1 h1 c.kept_size-n1.ensures in
    let e2 = held_part c.kept_size-n2.result c.args.size2 c.args.line2 h2 c.kept_size-n2.ensures in
    c.with_pair.ensures ∙ ap (λ l. S.with_pair c.args.count l (take (c.kept_size-n2.result - 0) c.args.line2)) e1 ∙ ap (S.with_pair c.args.count (take c.args.size1 c.args.line1)) e2
