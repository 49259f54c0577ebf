use mathlib.Core.Path.{sym, ◌∙◌}
use native.Mathlib.Omega.{arith}
use Rattle.windows.proofs.Refusing.{refused_25, refused_26, refused_26_long, refused_18, refused_17, refused_not}
use Rattle.windows.proofs.call_refusal.Goals as goal

pub returns-then-bad_station : goal.returns-then-bad_station
returns-then-bad_station c = refused_25 _ _ _ _ (sym c.bad_station.ensures ∙ c.if-bad_station.true)

pub returns-then-seconds-eq0 : goal.returns-then-seconds-eq0
returns-then-seconds-eq0 c =
    refused_26 _ _ _ _ (sym c.bad_station.ensures ∙ c.if-bad_station.false) c.if-seconds-eq0.true

pub returns-then-seconds-gt86400 : goal.returns-then-seconds-gt86400
returns-then-seconds-gt86400 c =
    refused_26_long _ _ _ _ (sym c.bad_station.ensures ∙ c.if-bad_station.false) (omega arith)

pub returns-then-samples-gt1024 : goal.returns-then-samples-gt1024
returns-then-samples-gt1024 c =
    refused_18 _ _ _ _ (sym c.bad_station.ensures ∙ c.if-bad_station.false) (omega arith) (omega arith) (omega arith)

pub returns-then-short : goal.returns-then-short
returns-then-short c =
    refused_17 _ _ _ _ (sym c.bad_station.ensures ∙ c.if-bad_station.false) (omega arith) (omega arith) (omega arith) c.if-short.true

pub returns : goal.returns
returns c =
    refused_not _ _ _ _ (sym c.bad_station.ensures ∙ c.if-bad_station.false) (omega arith) (omega arith) (omega arith) c.if-short.false
