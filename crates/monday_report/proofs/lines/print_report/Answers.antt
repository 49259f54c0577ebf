use Rattle.monday_report.proofs.Lengths.{report_short}
use Rattle.listing.proofs.Lengths.{refused, written}
use Rattle.text.proofs.Pieces.{measured}
use Rattle.monday_report.specs.Print.{report_text}
use Rattle.monday_report.proofs.lines.print_report.Goals as goal

pub returns-then-out-size : goal.returns-then-out-size
returns-then-out-size c =
    let text = report_text c.args.report in
    let e = measured c.put_report-size.ensures (report_short c.args.report) in
    refused text c.args.out.now _ e c.if-out-size.true

pub returns : goal.returns
returns c =
    let text = report_text c.args.report in
    let h = report_short c.args.report in
    written text c.args.out.now _ (measured c.put_report-size.ensures h) c.if-out-size.false h c.put_report-n.ensures
