use Prim.Native.Nat.{ℕ, ◌-◌}
use mathlib.Core.Path.{refl, ap, ◌∙◌}
use lib.ListN.{length}
use Rattle.station_text.specs.Words.{behind, decimal_in, station_of}
use Rattle.station_text.proofs.Words.{sized, tail, word_one}
use Rattle.station_call.specs.Call.{geodetic_of}
use Rattle.station_call.proofs.read_geodetic.Goals as goal

pub slice_bounds-read_decimal-end : goal.slice_bounds-read_decimal-end
slice_bounds-read_decimal-end c = sized _ _ c.cut_at-n.ensures.1

pub returns : goal.returns
unfolding geodetic_of
returns c =
    let s = c.args.words.now in
    let i = c.after-from.result in
    let x = c.read_decimal-latitude.ensures ∙ ap decimal_in (word_one s c.cut_at-n.result i c.cut_at-n.ensures.0 c.after-from.ensures.1) in
    let y = c.read_station-behind.ensures ∙ ap station_of (tail s i (length s - i) refl ∙ c.after-from.ensures.1 ∙ ap (λ (k : ℕ). behind k s) c.cut_at-n.ensures.0) in
    c.geodetic_from.ensures ∙ rw (x, y)
