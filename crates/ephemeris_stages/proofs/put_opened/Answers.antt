use mathlib.Core.Path.{sym, ap}
use mathlib.Core.Bool.{cond}
use borrow.Author.Tests.{eq-eqb, ne_eqb}
use Rattle.text.specs.Output.{bytes, decimal, line}
use Rattle.text.proofs.Pieces.{same}
use Rattle.ephemeris_text.specs.Rows.{header_text}
use Rattle.ephemeris_stages.specs.Stages.{opened_text}
use Rattle.ephemeris_stages.proofs.put_opened.Goals as goal

pub returns-then-refusal-eq0 : goal.returns-then-refusal-eq0
unfolding opened_text
returns-then-refusal-eq0 c =
    same (sym (ap (λ t. cond t (header_text c.args.sep) (line (bytes "refused ") (decimal c.args.refusal))) (eq-eqb c.args.refusal 0 c.if-refusal-eq0.true))) c.put_header.ensures

pub returns : goal.returns
unfolding opened_text
returns c =
    same (sym (ap (λ t. cond t (header_text c.args.sep) (line (bytes "refused ") (decimal c.args.refusal))) (ne_eqb c.args.refusal 0 c.if-refusal-eq0.false))) c.put_line.ensures
