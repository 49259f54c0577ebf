use Prim.Native.Nat.{ℕ, ◌-◌}
use mathlib.Core.Path.{refl, ap, ◌∙◌}
use lib.Dec.{eqb}
use lib.ListN.{length, drop}
use Rattle.station_text.specs.Words.{micro_of}
use Rattle.station_text.specs.declared.Whole.{Whole}
use Rattle.station_text.proofs.Words.{tail}
use Rattle.ephemeris_requests.specs.declared.Signed.{Signed}
use Rattle.ephemeris_requests.specs.Requests.{signed_in}
use Rattle.ephemeris_requests.proofs.read_signed.Goals as goal

abbrev made : ℕ → Whole → Signed
made k m = record { minus = eqb k 1; micros = m }

pub returns : goal.returns
unfolding signed_in
returns c =
    let n = c.sign_size-from.result in
    let s = c.args.s.now in
    ap (made n) (c.read_micro-micros.ensures ∙ ap micro_of (tail s n (length s - n) refl)) ∙ ap (λ (j : ℕ). made j (micro_of (drop j s))) c.sign_size-from.ensures.0
