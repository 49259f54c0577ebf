use mathlib.Core.Path.{ap, sym}
use Rattle.text.proofs.Pieces.{same}
use Rattle.explanation.specs.Explained.{record_text}
use Rattle.explanation.proofs.put_record.Goals as goal

pub returns-in-NearEarth : goal.returns-in-NearEarth
unfolding record_text
returns-in-NearEarth c =
    let g = c.in-NearEarth.is in
    same (sym (ap (λ w. record_text w c.args.r c.args.line1.now) g)) c.put_well.ensures

pub returns-in-DeepSpace : goal.returns-in-DeepSpace
unfolding record_text
returns-in-DeepSpace c =
    let g = c.in-DeepSpace.is in
    same (sym (ap (λ w. record_text w c.args.r c.args.line1.now) g)) c.put_well-in-DeepSpace.ensures

pub returns-in-OneDay : goal.returns-in-OneDay
unfolding record_text
returns-in-OneDay c =
    let g = c.in-OneDay.is in
    same (sym (ap (λ w. record_text w c.args.r c.args.line1.now) g)) c.put_well-in-OneDay.ensures

pub returns-in-HalfDay : goal.returns-in-HalfDay
unfolding record_text
returns-in-HalfDay c =
    let g = c.in-HalfDay.is in
    same (sym (ap (λ w. record_text w c.args.r c.args.line1.now) g)) c.put_well-in-HalfDay.ensures

pub returns-in-Perigee : goal.returns-in-Perigee
unfolding record_text
returns-in-Perigee c =
    let g = c.in-Perigee.is in
    same (sym (ap (λ w. record_text w c.args.r c.args.line1.now) g)) c.put_perigee.ensures

pub returns-in-NotFinite : goal.returns-in-NotFinite
unfolding record_text
returns-in-NotFinite c =
    let g = c.in-NotFinite.is in
    same (sym (ap (λ w. record_text w c.args.r c.args.line1.now) g)) c.put_bytes.ensures

pub returns-in-NoRecord : goal.returns-in-NoRecord
unfolding record_text
returns-in-NoRecord c =
    let g = c.in-NoRecord.is in
    same (sym (ap (λ w. record_text w c.args.r c.args.line1.now) g)) c.put_bytes-in-NoRecord.ensures
