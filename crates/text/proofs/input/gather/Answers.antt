use Rattle.std.proofs.Common.{sym, ◌∙◌}
use Rattle.text.proofs.Newline.{rest_is, at_newline, no_newline}
use Rattle.text.proofs.input.gather.Goals as goal

pub returns-in-Some : goal.returns-in-Some
returns-in-Some c =
    at_newline _ (rest_is c.args.piece.now c.args.from _ c.min.ensures) c.in-Some.n (sym c.in-Some.is ∙ c.newline_of.ensures) c.put_bytes.ensures

pub returns-in-None : goal.returns-in-None
returns-in-None c =
    no_newline _ (rest_is c.args.piece.now c.args.from _ c.min.ensures) (sym c.in-None.is ∙ c.newline_of.ensures) c.put_bytes-in-None.ensures
