-- Document 02, wish 11, in plain statements: when an offer is sound, when two offers clash, and when a plan is acceptable. Definitions only.
use Rattle.std.specs.Prelude.{ℕ, ◌+◌, ◌*◌, ◌<◌, ◌≤◌, ◌≡◌, true, List, length}
use Rattle.instant.specs.Calendar.{in_calendar}
use Rattle.award.specs.declared.Offer.{Offer}
use Rattle.award.specs.Plan.{most, most_cents, second_micros, offer_count, offer_at, entry_at, named, total_of}

-- An offer is sound if it starts and ends inside the calendar, ends after it starts, and bids at most 1,000,000,000 cents
pub record Sound (o : Offer) : Type 0 where
  pub starts_inside : in_calendar o.start ≡ true
  pub ends_inside : in_calendar o.end ≡ true
  pub ends_later : o.start < o.end
  pub bid_allowed : o.bid ≤ most_cents

-- One offer lies before another if it ends at least the turnaround before the other starts
abbrev pub Before : ℕ → Offer → Offer → Type 0
Before turnaround p q = p.end + turnaround * second_micros ≤ q.start

-- Two offers clash if they are on one antenna and neither lies before the other
pub record Clash (turnaround : ℕ) (p q : Offer) : Type 0 where
  pub one_antenna : p.antenna ≡ q.antenna
  pub not_before : Before turnaround p q → ⊥
  pub not_after : Before turnaround q p → ⊥

-- A plan is acceptable if there are not too many offers or entries, every offer, named or not, is sound, all offers named exist, none is named twice,
-- no two of those named clash, and the total is the sum of their bids
pub record Acceptable (offers entries : List ℕ) (total turnaround : ℕ) : Type 0 where
  pub few_offers : offer_count offers ≤ most
  pub few_entries : length entries ≤ most
  pub all_sound : (k : ℕ) → k < offer_count offers → Sound (offer_at offers k)
  pub all_exist : (i : ℕ) → i < length entries → entry_at entries i < offer_count offers
  pub none_twice : (i j : ℕ) → i < length entries → j < i → entry_at entries j ≡ entry_at entries i → ⊥
  pub none_clash : (i j : ℕ) → i < length entries → j < i → Clash turnaround (named offers entries i) (named offers entries j) → ⊥
  pub right_total : total_of offers entries ≡ total

-- An instant lies in a slot from its start up to, but not including, its end
pub record Holds (o : Offer) (t : ℕ) : Type 0 where
  pub from : o.start ≤ t
  pub until : t < o.end
