use Rattle.std.proofs.Common.{rules}
use Rattle.std.proofs.lemmas.Iterator.{YieldsList-from_slice}
use Rattle.std.proofs.lemmas.Iterator.Search.{all_from_yields_List}
use Rattle.pair_lines.specs.Sort.{is_space}
use Rattle.pair_lines.proofs.Blanks.{each_blank}
use Rattle.pair_lines.proofs.all_blank.Goals as goal

pub returns : goal.returns
returns c =
    rw each_blank
    (all_from_yields_List is_space _ _ _ c.all.ensures.ran (YieldsList-from_slice c.args.line.now cc) (λ x b q k. search rules))
