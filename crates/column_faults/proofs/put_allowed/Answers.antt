use mathlib.Core.Path.{ap, sym}
use Rattle.std.proofs.Common.{◌≢◌}
use native.Mathlib.Omega.{arith}
use Rattle.text.proofs.Pieces.{same}
use borrow.Author.Tests.{ne_eqb}
use Rattle.column_faults.specs.Faults.{allowed_text}
use Rattle.column_faults.proofs.put_allowed.Goals as goal

pub returns-in-32 : goal.returns-in-32
unfolding allowed_text
returns-in-32 c = same (sym (ap allowed_text c.in-32.is)) c.put_bytes.ensures

pub returns-in-46 : goal.returns-in-46
unfolding allowed_text
returns-in-46 c = same (sym (ap allowed_text c.in-46.is)) c.put_bytes-in-46.ensures

pub returns-in-49 : goal.returns-in-49
unfolding allowed_text
returns-in-49 c = same (sym (ap allowed_text c.in-49.is)) c.put_bytes-in-49.ensures

pub returns-in-50 : goal.returns-in-50
unfolding allowed_text
returns-in-50 c = same (sym (ap allowed_text c.in-50.is)) c.put_bytes-in-50.ensures

pub returns-in-68 : goal.returns-in-68
unfolding allowed_text
returns-in-68 c = same (sym (ap allowed_text c.in-68.is)) c.put_bytes-in-68.ensures

pub returns-in-83 : goal.returns-in-83
unfolding allowed_text
returns-in-83 c = same (sym (ap allowed_text c.in-83.is)) c.put_bytes-in-83.ensures

pub returns-in-69 : goal.returns-in-69
unfolding allowed_text
returns-in-69 c = same (sym (ap allowed_text c.in-69.is)) c.put_bytes-in-69.ensures

pub returns-in-67 : goal.returns-in-67
unfolding allowed_text
returns-in-67 c = same (sym (ap allowed_text c.in-67.is)) c.put_bytes-in-67.ensures

pub returns-in_default : goal.returns-in_default
unfolding allowed_text
returns-in_default c =
    let n32 : c.args.class ≢ 32 = omega arith in
    let n46 : c.args.class ≢ 46 = omega arith in
    let n49 : c.args.class ≢ 49 = omega arith in
    let n50 : c.args.class ≢ 50 = omega arith in
    let n68 : c.args.class ≢ 68 = omega arith in
    let n83 : c.args.class ≢ 83 = omega arith in
    let n69 : c.args.class ≢ 69 = omega arith in
    let n67 : c.args.class ≢ 67 = omega arith in
    same (simp (ne_eqb _ _ n32, ne_eqb _ _ n46, ne_eqb _ _ n49, ne_eqb _ _ n50, ne_eqb _ _ n68, ne_eqb _ _ n83, ne_eqb _ _ n69, ne_eqb _ _ n67)) c.put_choice.ensures
