use Rattle.passes.proofs.Whole.{search_found, search_nothing}
use Rattle.passes.proofs.search.Goals as goal

pub returns-then-up : goal.returns-then-up
returns-then-up c =
    search_found _ _ _ _ _ _ _ _ c.scan_samples-first.ensures.scan_value c.scan_samples-first.ensures.left_value _ _ _ c.if-up.true c.scan_samples-second.ensures.scan_value
    c.scan_samples-second.ensures.left_value c.pass_of.ensures

pub returns : goal.returns
returns c =
    search_nothing _ _ _ _ _ _ _ _ c.scan_samples-first.ensures.scan_value c.scan_samples-first.ensures.left_value c.if-up.false
