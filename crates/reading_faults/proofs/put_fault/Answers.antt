use mathlib.Core.Path.{ap, sym}
use Rattle.text.proofs.Pieces.{same}
use Rattle.reading_faults.specs.Fault.{fault_text}
use Rattle.reading_faults.proofs.put_fault.Goals as goal

pub returns-in-Length : goal.returns-in-Length
unfolding fault_text
returns-in-Length c =
    let g = c.in-Length.is in
    let a = c.args in
    same (sym (ap (λ w. fault_text w a.line1.now a.line2.now) g)) c.put_on_line.ensures

pub returns-in-Start : goal.returns-in-Start
unfolding fault_text
returns-in-Start c =
    let g = c.in-Start.is in
    let a = c.args in
    same (sym (ap (λ w. fault_text w a.line1.now a.line2.now) g)) c.put_on_line-in-Start.ensures

pub returns-in-Column : goal.returns-in-Column
unfolding fault_text
returns-in-Column c =
    let g = c.in-Column.is in
    let a = c.args in
    same (sym (ap (λ w. fault_text w a.line1.now a.line2.now) g)) c.put_on_line-in-Column.ensures

pub returns-in-Checksum : goal.returns-in-Checksum
unfolding fault_text
returns-in-Checksum c =
    let g = c.in-Checksum.is in
    let a = c.args in
    same (sym (ap (λ w. fault_text w a.line1.now a.line2.now) g)) c.put_on_line-in-Checksum.ensures

pub returns-in-Numbers : goal.returns-in-Numbers
unfolding fault_text
returns-in-Numbers c =
    let g = c.in-Numbers.is in
    let a = c.args in
    same (sym (ap (λ w. fault_text w a.line1.now a.line2.now) g)) c.put_numbers.ensures

pub returns-in-Range : goal.returns-in-Range
unfolding fault_text
returns-in-Range c =
    let g = c.in-Range.is in
    let a = c.args in
    same (sym (ap (λ w. fault_text w a.line1.now a.line2.now) g)) c.put_range.ensures

pub returns-in-NoForm : goal.returns-in-NoForm
unfolding fault_text
returns-in-NoForm c =
    let g = c.in-NoForm.is in
    let a = c.args in
    same (sym (ap (λ w. fault_text w a.line1.now a.line2.now) g)) c.put_bytes.ensures
