-- From rows to windows, as a loop comes by them. Definitions only.
use Rattle.std.specs.Prelude.{ℕ, zero, suc, ◌+◌, ◌*◌, ◌≡◌, Bool, true, false, cond, List, [], ◌∷◌, ◌++◌, map, length, get_or, set, Float}
use Rattle.std.specs.Float.{nan}
use Rattle.runs.specs.Runs.{Window}
use Rattle.requests.specs.Lists.{over}
use Rattle.windows.specs.Windows.{sample_micros, sees}
use Rattle.windows.specs.declared.Track.{Track}

abbrev pub instant_at : ℕ → ℕ → ℕ → ℕ
instant_at start step i = sample_micros start step i

-- sample i, with its row where `request_list` wrote it
abbrev pub is_seen : List Float → ℕ → ℕ → List ℕ → List Float → ℕ → Bool
is_seen station start step refusals states i =
    sees station (sample_micros start step i) (get_or refusals i 0) (get_or states (6 * i) nan) (get_or states (6 * i + 1) nan) (get_or states (6 * i + 2) nan)

abbrev pub shut : Track
shut = record { on = false; first = 0; last = 0 }

abbrev pub further_of : Track → ℕ → Track
further_of r t = record { on = true; first = cond r.on r.first t; last = t }

abbrev pub closing : Track → List Window
closing r = cond r.on (record { first = r.first; last = r.last } ∷ []) []

-- the windows that are closed, and the run that is open
pub record Scan : Type 0 where
  pub done : List Window
  pub run : Track

abbrev pub next : Bool → ℕ → Scan → Scan
next true t s = record { done = s.done; run = further_of s.run t }
next false t s = record { done = s.done ++ closing s.run; run = shut }

-- after i samples, p saying which are visible and x their instants
abbrev pub scanned : (ℕ → Bool) → (ℕ → ℕ) → ℕ → Scan
scanned p x zero = record { done = []; run = shut }
scanned p x (suc i) = next (p i) (x i) (scanned p x i)

abbrev pub windows_to : (ℕ → Bool) → (ℕ → ℕ) → ℕ → List Window
windows_to p x k = (scanned p x k).done ++ closing (scanned p x k).run

-- the run r, written as window n
pub record Put (r : Track) (n : ℕ) (a b : List ℕ) (m : ℕ) (a' b' : List ℕ) : Type 0 where
  pub count : m ≡ n + cond r.on 1 0
  pub firsts : a' ≡ cond r.on (set a n r.first) a
  pub lasts : b' ≡ cond r.on (set b n r.last) b

-- the windows ws, at the front of rooms that held a and b
pub record Written (ws : List Window) (a b : List ℕ) (n : ℕ) (a' b' : List ℕ) : Type 0 where
  pub count : n ≡ length ws
  pub firsts : a' ≡ over (map (λ w. w.first) ws) a
  pub lasts : b' ≡ over (map (λ w. w.last) ws) b
