-- The printed epoch of a legal record is the date of its instant.
use mathlib.Core.Path.{sym, ap, ◌∙◌}
use mathlib.Core.List.{List, []}
use Prim.Native.Nat.{ℕ}
use Rattle.text.specs.Output.{decimal}
use Rattle.std.specs.Prelude.{None, Option, Some}
use Rattle.instant.specs.declared.Date.{Date}
use Rattle.tle.proofs.Accepted.{epochs_dated}
use Rattle.listing.specs.Listing.{then, epoch_text}
use Rattle.listing.specs.Claims.{EpochsAsDated}

abbrev dated_text : Option Date → List ℕ
dated_text (Some d) = then (decimal d.year) (then (decimal d.day) (decimal d.micros))
dated_text None = []

pub epochs_as_dated : EpochsAsDated
unfolding epoch_text
epochs_as_dated r d h e = ap dated_text (sym (epochs_dated r h) ∙ e)
