use Prim.Native.Nat.{ℕ}
use mathlib.Core.Path.{◌≡◌, ap, ◌∙◌}
use mathlib.Core.Bool.{Bool}
use Rattle.geodetic.specs.declared.Site.{Site}
use Rattle.horizon.specs.declared.Look.{Look}
use Rattle.sightings.specs.Sightings.{look_at}
use Rattle.pass_text.specs.Print.{pass_text}
use Rattle.text.proofs.Pieces.{same}
use Rattle.station_answers.specs.Print.{found_text}
use Rattle.station_answers.proofs.pass_lines.put_found.Goals as goal

looks : (begun still : Bool) (rise highest set : ℕ) {a b c a' b' c' : Look} → a ≡ a' → b ≡ b' → c ≡ c'
    → pass_text begun rise a.azimuth.0 highest b.elevation.0 still set c.azimuth.0
    ≡ pass_text begun rise a'.azimuth.0 highest b'.elevation.0 still set c'.azimuth.0
looks begun still rise highest set {a} {b} {c} {a'} {b'} {c'} ea eb ec =
    ap (λ (z : Look). pass_text begun rise z.azimuth.0 highest b.elevation.0 still set c.azimuth.0) ea
    ∙ ap (λ (z : Look). pass_text begun rise a'.azimuth.0 highest z.elevation.0 still set c.azimuth.0) eb
    ∙ ap (λ (z : Look). pass_text begun rise a'.azimuth.0 highest b'.elevation.0 still set z.azimuth.0) ec

pub returns : goal.returns
unfolding found_text
returns c =
    let x = c.args.p in
    let site = c.site_of-site.ensures in
    same
    (looks x.begun x.still x.rise.0 x.highest.0 x.set.0
    (c.look_at-first.ensures ∙ ap (λ (z : Site). look_at z c.args.satellite x.rise.0) site)
    (c.look_at-top.ensures ∙ ap (λ (z : Site). look_at z c.args.satellite x.highest.0) site)
    (c.look_at-last.ensures ∙ ap (λ (z : Site). look_at z c.args.satellite x.set.0) site))
    c.put_pass.ensures
