-- Nothing but blanks, as the library's `all` has it.
use Rattle.std.proofs.Common.{◌≡◌, ℕ, List, [], ◌∷◌, Bool, true, false, cond, ◌&&◌, refl}
use Rattle.std.specs.List.{list_all}
use Rattle.pair_lines.specs.Sort.{is_space, all_blank}

both : (a b : Bool) → cond a b false ≡ (a && b)
both true b = refl
both false b = refl

pub each_blank : (s : List ℕ) → all_blank s ≡ list_all is_space s
unfolding all_blank
each_blank [] = refl
each_blank (b ∷ s) = rw (each_blank s) (both (is_space b) (list_all is_space s))
