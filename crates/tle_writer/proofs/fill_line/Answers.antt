use Rattle.std.proofs.lemmas.List.{length-take-le}
use mathlib.Core.Path.{sym, ◌∙◌}
use native.Mathlib.Omega.{arith}
use Rattle.tle_writer.proofs.Writes.{illegal, short, written}
use Rattle.tle_writer.proofs.fill_line.Goals as goal

pub returns-then-not-legal : goal.returns-then-not-legal
returns-then-not-legal c =
    let a = c.args in
    illegal a.r a.which a.out.now (sym c.legal.ensures ∙ c.if-not-legal.true)

pub returns-then-out-lt69 : goal.returns-then-out-lt69
returns-then-out-lt69 c =
    let a = c.args in
    short a.r a.which a.out.now (sym c.legal.ensures ∙ c.if-not-legal.false) (omega arith)

pub returns : goal.returns
returns c =
    let a = c.args in
    let w = written a.r a.which a.out.now (sym c.legal.ensures ∙ c.if-not-legal.false) (omega arith) in
    (w.0, rw c.copy_from_slice.ensures.after (rw c.line_of.ensures w.1))

pub copy_from_slice-requires : goal.copy_from_slice-requires
copy_from_slice-requires c = omega (arith, length-take-le 69 c.args.out.now c.if-out-lt69.false)
