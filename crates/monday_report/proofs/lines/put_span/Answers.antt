use mathlib.Core.Path.{ap}
use Rattle.listing.specs.Listing.{count}
use Rattle.text.specs.Output.{bytes}
use Rattle.monday_report.specs.Print.{span_text}
use Rattle.text.proofs.Pieces.{both, same}
use Rattle.monday_report.proofs.lines.put_span.Goals as goal

pub returns : goal.returns
unfolding span_text
returns c =
    both c.put_epoch-p.ensures
    (both c.put_epoch-p-2.ensures
    (same (ap (count (bytes "span ")) c.span_of-span.ensures) c.put_line.ensures))
