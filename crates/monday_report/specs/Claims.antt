-- How long a printed report can be. Proved in proofs/Lengths.antt.
use Rattle.std.specs.Prelude.{◌≤◌, length, Result}
use Rattle.report.specs.declared.Tally.{Tally}
use Rattle.report.specs.declared.ReportRefusal.{ReportRefusal}
use Rattle.monday_report.specs.Print.{report_text}

-- a buffer of this size is never too short
abbrev pub TextsFit : Type 0
TextsFit = (r : Result Tally ReportRefusal) → length (report_text r) ≤ 466
