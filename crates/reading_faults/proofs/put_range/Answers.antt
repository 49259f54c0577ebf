use mathlib.Core.Path.{ap, sym, ◌∙◌}
use Rattle.text.proofs.Pieces.{same}
use Rattle.reading_faults.specs.Ranges.{range_in, range_text}
use Rattle.reading_faults.proofs.put_range.Goals as goal

pub returns-in-Day : goal.returns-in-Day
unfolding range_text
returns-in-Day c =
    let g = c.in-Day.is in
    let a = c.args in
    same (ap (λ w. range_in w a.line1.now) g ∙ sym (ap (λ w. range_text w a.line1.now a.line2.now) g)) c.put_range_in.ensures

pub returns-in-Inclination : goal.returns-in-Inclination
unfolding range_text
returns-in-Inclination c =
    let g = c.in-Inclination.is in
    let a = c.args in
    same (ap (λ w. range_in w a.line2.now) g ∙ sym (ap (λ w. range_text w a.line1.now a.line2.now) g)) c.put_range_in-in-Inclination.ensures

pub returns-in-Node : goal.returns-in-Node
unfolding range_text
returns-in-Node c =
    let g = c.in-Node.is in
    let a = c.args in
    same (ap (λ w. range_in w a.line2.now) g ∙ sym (ap (λ w. range_text w a.line1.now a.line2.now) g)) c.put_range_in-in-Node.ensures

pub returns-in-Perigee : goal.returns-in-Perigee
unfolding range_text
returns-in-Perigee c =
    let g = c.in-Perigee.is in
    let a = c.args in
    same (ap (λ w. range_in w a.line2.now) g ∙ sym (ap (λ w. range_text w a.line1.now a.line2.now) g)) c.put_range_in-in-Perigee.ensures

pub returns-in-Anomaly : goal.returns-in-Anomaly
unfolding range_text
returns-in-Anomaly c =
    let g = c.in-Anomaly.is in
    let a = c.args in
    same (ap (λ w. range_in w a.line2.now) g ∙ sym (ap (λ w. range_text w a.line1.now a.line2.now) g)) c.put_range_in-in-Anomaly.ensures

pub returns-in-Motion : goal.returns-in-Motion
unfolding range_text
returns-in-Motion c =
    let g = c.in-Motion.is in
    let a = c.args in
    same (ap (λ w. range_in w a.line2.now) g ∙ sym (ap (λ w. range_text w a.line1.now a.line2.now) g)) c.put_range_in-in-Motion.ensures
