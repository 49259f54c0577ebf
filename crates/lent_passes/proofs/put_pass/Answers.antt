use Rattle.std.proofs.Common.{◌≡◌, ◌∙◌, Bool, true, false, refl}
use native.Mathlib.Omega.{arith}
use lib.ListN.{length-set}
use mir.Val.{bool_byte}
use Rattle.lent_passes.specs.Passes.{bit, pass_answer, pass_instants}
use Rattle.lent_passes.proofs.Posts.{bits, four}
use Rattle.lent_passes.proofs.put_pass.Goals as goal

-- the library's number of a `bool`
byte_bit : (b : Bool) → bool_byte b ≡ bit b
byte_bit false = refl
byte_bit true = refl

pub returns : goal.returns
unfolding pass_answer pass_instants
returns c =
    let begun = c.from-begun.ensures ∙ byte_bit c.args.p.begun in
    let still = c.from-still.ensures ∙ byte_bit c.args.p.still in
    record { value = bits c.args.p.begun c.args.p.still _ _ _ _ begun still c.answer.ensures; out_after = four c.args.out.now _ _ _ _ c.requires }

pub bounds-out-1 : goal.bounds-out-1
bounds-out-1 c = simp length-set (omega arith)

pub bounds-out-2 : goal.bounds-out-2
bounds-out-2 c = simp length-set (omega arith)
