-- Document 02, wish 10: "Windows are the runs of visible samples that can't be made longer, each once, in time order". Definitions only.
use Rattle.std.specs.Prelude.{ℕ, Bool, true, false, cond, ◌&&◌, not, List, [], ◌∷◌}

-- the instant of a sample, and whether it is visible
pub record Sample : Type 0 where
  pub instant : ℕ
  pub visible : Bool

-- "given as the instants of first and last sample"
pub record Window : Type 0 where
  pub first : ℕ
  pub last : ℕ

-- the last sample of the run of visible samples that x stands in, of those that follow
abbrev pub last_of_run : ℕ → List Sample → ℕ
last_of_run x [] = x
last_of_run x (s ∷ ss) = cond s.visible (last_of_run s.instant ss) x

-- one begins at each visible sample that no visible one precedes. `before` is whether the sample before is visible
abbrev pub windows_from : Bool → List Sample → List Window
windows_from before [] = []
windows_from before (s ∷ ss) =
    cond (s.visible && not before) (record { first = s.instant; last = last_of_run s.instant ss } ∷ windows_from true ss) (windows_from s.visible ss)

-- of all samples
abbrev pub windows_in : List Sample → List Window
windows_in ss = windows_from false ss
