use mathlib.Core.Path.{ap, sym}
use Rattle.std.proofs.Common.{◌≢◌}
use native.Mathlib.Omega.{arith}
use Rattle.text.proofs.Pieces.{same}
use borrow.Author.Tests.{ne_eqb}
use Rattle.column_faults.specs.Faults.{choice_text}
use Rattle.column_faults.proofs.put_choice.Goals as goal

pub returns-in-78 : goal.returns-in-78
unfolding choice_text
returns-in-78 c = same (sym (ap choice_text c.in-78.is)) c.put_bytes.ensures

pub returns-in-82 : goal.returns-in-82
unfolding choice_text
returns-in-82 c = same (sym (ap choice_text c.in-82.is)) c.put_bytes-in-82.ensures

pub returns-in-114 : goal.returns-in-114
unfolding choice_text
returns-in-114 c = same (sym (ap choice_text c.in-114.is)) c.put_bytes-in-114.ensures

pub returns-in-102 : goal.returns-in-102
unfolding choice_text
returns-in-102 c = same (sym (ap choice_text c.in-102.is)) c.put_bytes-in-102.ensures

pub returns-in-76 : goal.returns-in-76
unfolding choice_text
returns-in-76 c = same (sym (ap choice_text c.in-76.is)) c.put_bytes-in-76.ensures

pub returns-in-108 : goal.returns-in-108
unfolding choice_text
returns-in-108 c = same (sym (ap choice_text c.in-108.is)) c.put_bytes-in-108.ensures

pub returns-in_default : goal.returns-in_default
unfolding choice_text
returns-in_default c =
    let n78 : c.args.class ≢ 78 = omega arith in
    let n82 : c.args.class ≢ 82 = omega arith in
    let n114 : c.args.class ≢ 114 = omega arith in
    let n102 : c.args.class ≢ 102 = omega arith in
    let n76 : c.args.class ≢ 76 = omega arith in
    let n108 : c.args.class ≢ 108 = omega arith in
    same (simp (ne_eqb _ _ n78, ne_eqb _ _ n82, ne_eqb _ _ n114, ne_eqb _ _ n102, ne_eqb _ _ n76, ne_eqb _ _ n108)) c.put_bytes-in_default.ensures
