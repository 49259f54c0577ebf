use mathlib.Core.Path.{ap, sym}
use Rattle.text.proofs.Pieces.{same}
use Rattle.reading_faults.specs.Fault.{line_fault}
use Rattle.reading_faults.proofs.put_line_fault.Goals as goal

pub returns-in-Length : goal.returns-in-Length
unfolding line_fault
returns-in-Length c =
    let g = c.in-Length.is in
    let a = c.args in
    same (sym (ap (λ w. line_fault w a.which a.layout.now a.line.now) g)) c.put_length_fault.ensures

pub returns-in-Start : goal.returns-in-Start
unfolding line_fault
returns-in-Start c =
    let g = c.in-Start.is in
    let a = c.args in
    same (sym (ap (λ w. line_fault w a.which a.layout.now a.line.now) g)) c.put_column_fault.ensures

pub returns-in-Column : goal.returns-in-Column
unfolding line_fault
returns-in-Column c =
    let g = c.in-Column.is in
    let a = c.args in
    same (sym (ap (λ w. line_fault w a.which a.layout.now a.line.now) g)) c.put_column_fault-in-Column.ensures

pub returns-in-Checksum : goal.returns-in-Checksum
unfolding line_fault
returns-in-Checksum c =
    let g = c.in-Checksum.is in
    let a = c.args in
    same (sym (ap (λ w. line_fault w a.which a.layout.now a.line.now) g)) c.put_checksum_fault.ensures

pub returns-in-Numbers : goal.returns-in-Numbers
unfolding line_fault
returns-in-Numbers c =
    let g = c.in-Numbers.is in
    let a = c.args in
    same (sym (ap (λ w. line_fault w a.which a.layout.now a.line.now) g)) c.put_bytes.ensures

pub returns-in-Range : goal.returns-in-Range
unfolding line_fault
returns-in-Range c =
    let g = c.in-Range.is in
    let a = c.args in
    same (sym (ap (λ w. line_fault w a.which a.layout.now a.line.now) g)) c.put_bytes-in-Range.ensures

pub returns-in-NoForm : goal.returns-in-NoForm
unfolding line_fault
returns-in-NoForm c =
    let g = c.in-NoForm.is in
    let a = c.args in
    same (sym (ap (λ w. line_fault w a.which a.layout.now a.line.now) g)) c.put_bytes-in-NoForm.ensures
