use mathlib.Core.Path.{ap, sym}
use Rattle.text.proofs.Pieces.{same}
use Rattle.pair_lines.specs.Said.{remark_text}
use Rattle.pair_lines.proofs.put_phrase.Goals as goal

pub returns-in-Name : goal.returns-in-Name
unfolding remark_text
returns-in-Name c =
    let p = c in
    let g = c.in-Name.is in
    same (sym (ap remark_text g)) p.put_bytes.ensures

pub returns-in-NoSecond : goal.returns-in-NoSecond
unfolding remark_text
returns-in-NoSecond c =
    let p = c in
    let g = c.in-NoSecond.is in
    same (sym (ap remark_text g)) p.put_bytes-in-NoSecond.ensures

pub returns-in-NoFirst : goal.returns-in-NoFirst
unfolding remark_text
returns-in-NoFirst c =
    let p = c in
    let g = c.in-NoFirst.is in
    same (sym (ap remark_text g)) p.put_bytes-in-NoFirst.ensures

pub returns-in-TooLong : goal.returns-in-TooLong
unfolding remark_text
returns-in-TooLong c =
    let p = c in
    let g = c.in-TooLong.is in
    same (sym (ap remark_text g)) p.put_bytes-in-TooLong.ensures
