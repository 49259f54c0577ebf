use mathlib.Core.Path.{sym, ap, ◌∙◌}
use native.Mathlib.Omega.{arith}
use lib.Dec.{leb}
use mir.Syntax.{w64}
use mir.Val.{SFits}
use Rattle.instant.proofs.Signed.{negative}
use Rattle.profile.proofs.Near.{not_taken, taken_by}
use Rattle.profile.proofs.rows.is_taken.Tie as tie
use Rattle.profile.proofs.rows.is_taken.Lts as lts
use Rattle.profile.proofs.rows.is_taken.Reads as reads
use Rattle.profile.proofs.rows.is_taken.Goals as goal

fit : (c : (lts.After-struct_told tie.the-claims reads.Pre reads.Post)) → SFits w64 c.args.t.0
fit c = record { sfits = omega arith }

pub returns-then-x-lt0 : goal.returns-then-x-lt0
returns-then-x-lt0 c = sym (not_taken c.args.t.0 (sym (negative _ (fit c.before)) ∙ c.if-x-lt0.true))

pub returns : goal.returns
returns c =
    ap (λ d. leb d 2592000000000) c.distance.ensures ∙ taken_by c.args.t.0 (sym (negative _ (fit c.before.before)) ∙ c.if-x-lt0.false)
