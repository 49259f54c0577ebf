-- The line of a pass: its rise, its highest point and its set, each as a date and a time of day, with azimuth and elevation in degrees to three places.
-- Definitions only.
use Rattle.std.specs.Prelude.{ℕ, Bool, cond, List, [], ◌∷◌, ◌++◌, Float}
use Rattle.text.specs.Output.{bytes}
use Rattle.date_text.specs.Date.{instant_text}
use Rattle.decimals.specs.Fixed.{fixed_text}

-- a pass that was above at the first sample has no rise, and one that was above at the last no set
abbrev pub rise_word : Bool → List ℕ
rise_word begun = cond begun (bytes "since ") (bytes "rise ")

abbrev pub set_word : Bool → List ℕ
set_word still = cond still (bytes " until ") (bytes " set ")

unfoldable pub edge_text : ℕ → Float → List ℕ
edge_text t azimuth = instant_text t ++ (bytes " azimuth " ++ fixed_text 3 azimuth)

unfoldable pub top_text : ℕ → Float → List ℕ
top_text t elevation = bytes " highest " ++ (instant_text t ++ (bytes " elevation " ++ fixed_text 3 elevation))

unfoldable pub pass_text : Bool → ℕ → Float → ℕ → Float → Bool → ℕ → Float → List ℕ
pass_text begun rise from highest top still set to =
    rise_word begun ++ (edge_text rise from ++ (top_text highest top ++ (set_word still ++ (edge_text set to ++ (10 ∷ [])))))
