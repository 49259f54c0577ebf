-- What windows are, in words. Definitions only. `in_words_lem` of proofs/Words has `Claim` of all samples whose instants rise, `room_enough` of proofs/Room
-- says that half as many places as samples, rounded up, are always enough.
use Rattle.std.specs.Prelude.{ℕ, suc, ◌+◌, ◌/◌, ◌≤◌, ◌<◌, ◌≡◌, Bool, true, false, ◌⊎◌, List, [], ◌∷◌, length, get_or}
use Rattle.runs.specs.Runs.{Sample, Window, windows_in}

-- ── lists of windows ──

abbrev pub Every : (Window → Type 0) → List Window → Type 0
Every q [] = Unit {0}
Every q (w ∷ ws) = q w × Every q ws

abbrev pub ExactlyOne : (Window → Type 0) → List Window → Type 0
ExactlyOne q [] = ⊥
ExactlyOne q (w ∷ ws) = (q w × Every (λ v. q v → ⊥) ws) ⊎ ((q w → ⊥) × ExactlyOne q ws)

-- each ends before every later one begins
abbrev pub InOrder : List Window → Type 0
InOrder [] = Unit {0}
InOrder (w ∷ ws) = Every (λ v. w.last < v.first) ws × InOrder ws

-- ── the claim: p says which of n samples are visible, x gives their instants ──

-- samples i to j are all visible, and the neighbours are not
pub record Longest (p : ℕ → Bool) (n i j : ℕ) : Type 0 where
  pub ordered : i ≤ j
  pub inside : j < n
  pub visible : (m : ℕ) → i ≤ m → m ≤ j → p m ≡ true
  pub before : (m : ℕ) → suc m ≡ i → p m ≡ false
  pub after : suc j < n → p (suc j) ≡ false

-- a window is such a run, given as the instants of its first and last sample
pub record Whole (p : ℕ → Bool) (x : ℕ → ℕ) (n : ℕ) (w : Window) : Type 0 where
  pub from : ℕ
  pub to : ℕ
  pub first : w.first ≡ x from
  pub last : w.last ≡ x to
  pub longest : Longest p n from to

abbrev pub Lies : (ℕ → ℕ) → ℕ → Window → Type 0
Lies x m w = (w.first ≤ x m) × (x m ≤ w.last)

pub record Claim (p : ℕ → Bool) (x : ℕ → ℕ) (n : ℕ) (ws : List Window) : Type 0 where
  pub whole : Every (Whole p x n) ws
  pub once : (m : ℕ) → m < n → p m ≡ true → ExactlyOne (Lies x m) ws
  pub never : (m : ℕ) → m < n → p m ≡ false → Every (λ w. Lies x m w → ⊥) ws
  pub order : InOrder ws

-- ── of a list of samples ──

-- sample m
abbrev pub sample_at : List Sample → ℕ → Sample
sample_at ss m = get_or ss m (record { instant = 0; visible = false })

-- each later than the one before
abbrev pub Rising : List Sample → Type 0
Rising ss = (a b : ℕ) → a < b → b < length ss → (sample_at ss a).instant < (sample_at ss b).instant

abbrev pub ClaimOf : List Sample → Type 0
ClaimOf ss = Claim (λ m. (sample_at ss m).visible) (λ m. (sample_at ss m).instant) (length ss) (windows_in ss)

abbrev pub InWords : Type 0
InWords = (ss : List Sample) → Rising ss → ClaimOf ss

-- half the samples, rounded up, is always room enough
abbrev pub RoomEnough : Type 0
RoomEnough = (ss : List Sample) → length (windows_in ss) ≤ (length ss + 1) / 2
