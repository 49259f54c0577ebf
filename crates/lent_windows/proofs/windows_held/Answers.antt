use mathlib.Core.Path.{sym, ◌∙◌}
use Rattle.lent_requests.proofs.Loads.{loaded, unloaded}
use Rattle.lent_windows.proofs.Posts.{memory_short, windows_full}
use Rattle.lent_windows.proofs.windows_held.Goals as goal

pub returns-in-Some : goal.returns-in-Some
returns-in-Some c =
    windows_full c.args.numbers.now c.args.marks.now c.args.station.now c.args.start c.args.step c.args.samples c.args.firsts.now c.args.lasts.now _
    (loaded c.args.numbers.now c.args.marks.now _ (sym c.load.ensures ∙ c.in-Some.is)) _ c.station_of-p.ensures _ _ _ _ _ _ c.windows-a.ensures c.put_saved.ensures.value c.put_saved.ensures.numbers_after c.put_saved.ensures.marks_after

pub returns-in-None : goal.returns-in-None
returns-in-None c =
    memory_short c.args.numbers.now c.args.marks.now c.args.station.now c.args.start c.args.step c.args.samples c.args.firsts.now c.args.lasts.now
    (unloaded c.args.numbers.now c.args.marks.now (sym c.load.ensures ∙ c.in-None.is)) _ c.station_of-p.ensures _ _ c.call_refusal.ensures c.answer.ensures
