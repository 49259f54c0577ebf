use Rattle.std.proofs.Common.{sym, ◌∙◌}
use Rattle.request_line.proofs.Prefix.{begun_starts}
use Rattle.request_line.proofs.begins.Goals as goal

pub returns : goal.returns
returns c = (c.starts_with.ensures.value ∙ sym (begun_starts c.args.word.now c.args.s.now), c.starts_with.ensures.bound)
