use mathlib.Core.Path.{sym, ◌∙◌}
use Rattle.ephemeris_requests.proofs.Laws.{grid_line, instant_line, no_line}
use Rattle.ephemeris_requests.proofs.read_other.Goals as goal

pub returns-then-begins : goal.returns-then-begins
returns-then-begins c =
    let s = c.args.line.now in
    grid_line s (sym c.begins.ensures.0 ∙ c.if-begins.true) c.read_grid.ensures

pub returns-then-begins-2 : goal.returns-then-begins-2
returns-then-begins-2 c =
    let s = c.args.line.now in
    instant_line s (sym c.begins.ensures.0 ∙ c.if-begins.false) (sym c.begins-2.ensures.0 ∙ c.if-begins-2.true) c.read_instant.ensures

pub returns : goal.returns
returns c =
    let s = c.args.line.now in
    no_line s (sym c.begins.ensures.0 ∙ c.if-begins.false) (sym c.begins-2.ensures.0 ∙ c.if-begins-2.false)
