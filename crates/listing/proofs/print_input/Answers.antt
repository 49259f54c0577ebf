use mathlib.Core.Path.{ap, ◌∙◌}
use Rattle.text.specs.Input.{fed}
use Rattle.listing.specs.Listing.{lines_text}
use Rattle.listing.proofs.Lengths.{prints_same}
use Rattle.listing.proofs.Kept.{fed_text}
use Rattle.listing.proofs.print_input.Goals as goal

pub returns : goal.returns
returns c =
    let i = c.args.input.now in
    prints_same (ap lines_text (c.feed-lines.ensures ∙ ap (λ s. fed s i) c.start-lines.ensures) ∙ fed_text i) c.print_lines.ensures
