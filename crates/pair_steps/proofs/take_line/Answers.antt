use mathlib.Core.Path.{ap, ◌∙◌}
use native.Mathlib.Omega.{arith}
use lib.ListN.{length}
use Rattle.text.proofs.Pieces.{none}
use Rattle.pair_steps.specs.declared.What.TheVariants.{Pair}
use Rattle.pair_steps.specs.Steps.{saying, held_of, said_of, step_of}
use Rattle.pair_steps.proofs.take_line.Goals as goal

pub returns-in-Waits : goal.returns-in-Waits
unfolding held_of said_of step_of
returns-in-Waits c =
    let b = c.before.before.before.before in
    let g = b.before.before.before.before in
    let e = g in
    rw c.in-Waits.is record {
      held = b.put_bytes-size.result;
      printed = g.give_up-n.result;
      holds = b.put_bytes-size.ensures;
      says = g.give_up-n.ensures;
      step = c.saying.ensures ∙ ap (λ q. saying q g.give_up-n.result) c.holding.ensures;
    }

pub returns-in-Completes : goal.returns-in-Completes
unfolding held_of said_of step_of
returns-in-Completes c =
    let e = c in
    let s = e.args in
    rw c.in-Completes.is record {
      held = 0;
      printed = 0;
      holds = none (omega arith) (omega arith);
      says = none (omega arith) (omega arith);
      step = ap (λ q. record { pairs = q; what = Pair s.p.size (length s.line.now); first = s.p.held }) c.holding-in-Completes.ensures;
    }

pub returns-in-Blank : goal.returns-in-Blank
unfolding held_of said_of step_of
returns-in-Blank c =
    let b = c.before.before.before in
    let e = b in
    rw c.in-Blank.is record {
      held = 0;
      printed = b.put_blank.result;
      holds = none (omega arith) (omega arith);
      says = b.put_blank.ensures;
      step = c.saying-in-Blank.ensures;
    }

pub returns-in-Alone : goal.returns-in-Alone
unfolding held_of said_of step_of
returns-in-Alone c =
    let b = c.before.before.before in
    let e = b in
    let k = e.well_formed in
    rw c.in-Alone.is record {
      held = 0;
      printed = b.put_said.result;
      holds = none (omega arith) (omega arith);
      says = b.put_said.ensures;
      step = c.saying-in-Alone.ensures;
    }
