use mathlib.Core.Path.{◌∙◌}
use Rattle.roster.proofs.Found.{scan_found, scan_lost}
use Rattle.roster_calls.proofs.Standing.{fill_none, fill_short, fill_done}
use Rattle.roster_calls.proofs.fill_row.Goals as goal

pub returns-in_default : goal.returns-in_default
returns-in_default c =
    let a = c.args in
    fill_none a.roster.now a.row.now (scan_lost 0 a.roster.now c.scan_buffer-s.result c.scan_buffer-s.ensures c.in_default.is)

pub returns-then-row-ne64 : goal.returns-then-row-ne64
returns-then-row-ne64 c =
    let a = c.args in
    let s = scan_found 0 a.roster.now c.scan_buffer-s.result _ c.scan_buffer-s.ensures c.in-Some.is in
    fill_short a.roster.now a.row.now s.0 s.1 c.if-row-ne64.true

pub returns : goal.returns
returns c =
    let a = c.args in
    let s = scan_found 0 a.roster.now c.scan_buffer-s.result _ c.scan_buffer-s.ensures c.in-Some.is in
    fill_done a.roster.now a.row.now s.0 s.1 c.copy_from_slice.new.self c.if-row-ne64.false (c.copy_from_slice.ensures.after ∙ s.2)
