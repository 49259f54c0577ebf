use mathlib.Core.Path.{sym, ap, ◌∙◌}
use mathlib.Core.List.{[]}
use mathlib.Core.Bool.{cond}
use native.Mathlib.Omega.{arith}
use Rattle.text.proofs.Pieces.{none, same}
use Rattle.ephemeris_stages.specs.declared.Stage.TheVariants.{First, Second}
use Rattle.ephemeris_stages.proofs.begin.Goals as goal

pub returns-then-asks_commas : goal.returns-then-asks_commas
returns-then-asks_commas c =
    let e = sym c.asks_commas.ensures ∙ c.if-asks_commas.true in
    record {
      kept = 0;
      keeps = same (sym (ap (λ t. cond t [] c.args.line.now) e)) (none (omega arith) (omega arith));
      behind = sym (ap (λ t. cond t (First 44) (Second 32 0)) e);
    }

pub returns : goal.returns
returns c =
    let e = sym c.asks_commas.ensures ∙ c.if-asks_commas.false in
    record {
      kept = c.put_bytes.result;
      keeps = same (sym (ap (λ t. cond t [] c.args.line.now) e)) c.put_bytes.ensures;
      behind = sym (ap (λ t. cond t (First 44) (Second 32 c.put_bytes.result)) e);
    }
