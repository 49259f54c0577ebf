use mathlib.Core.Path.{ap}
use Rattle.text.proofs.Pieces.{same}
use Rattle.explanation.specs.Explained.{record_text, opened_text}
use Rattle.explanation.proofs.put_opened.Goals as goal

pub returns : goal.returns
unfolding opened_text
returns c = same (ap (λ w. record_text w c.args.r c.args.line1.now) c.kind_of-kind.ensures) c.put_record.ensures
