-- What follows from the definitions for every plan: accepted exactly if acceptable, what each refusal says, that it does not matter which of two offers
-- is named first, that an accepted plan gives no antenna two slots at once, and that no sum of bids overflows. Proved in proofs/Theorems.antt and proofs/Refused.antt.
use Rattle.std.specs.Prelude.{ℕ, ◌<◌, ◌≤◌, ◌≡◌, Bool, true, false, List, length, Err, Ok}
use Rattle.award.specs.declared.Offer.{Offer}
use Rattle.award.specs.declared.AwardRefusal.TheVariants as answer
use Rattle.award.specs.Plan.{most, offer_count, offer_at, entry_at, named, sound, unsound, missing, repeated, clash, clashing, sum_below, bid_at, total_of, answer_of}
use Rattle.award.specs.Acceptable.{Sound, Clash, Acceptable, Holds}

-- the tests of specs/Plan tell what specs/Acceptable says
pub record Told : Type 0 where
  pub sound_only : (o : Offer) → sound o ≡ true → Sound o
  pub sound_always : (o : Offer) → Sound o → sound o ≡ true
  pub clash_only : (turnaround : ℕ) (p q : Offer) → clash turnaround p q ≡ true → Clash turnaround p q
  pub clash_always : (turnaround : ℕ) (p q : Offer) → Clash turnaround p q → clash turnaround p q ≡ true

-- accepted exactly when acceptable
pub record AcceptedExactly : Type 0 where
  pub only : (offers entries : List ℕ) (total turnaround : ℕ) → answer_of offers entries total turnaround ≡ Ok tt → Acceptable offers entries total turnaround
  pub always : (offers entries : List ℕ) (total turnaround : ℕ) → Acceptable offers entries total turnaround → answer_of offers entries total turnaround ≡ Ok tt

-- clashing is the same whichever of the two is named first
abbrev pub ClashIsSymmetric : Type 0
ClashIsSymmetric = (turnaround : ℕ) (p q : Offer) → clash turnaround p q ≡ clash turnaround q p

-- two entries of an accepted plan have no instant in common on one antenna
abbrev pub OneSlotAtOnce : Type 0
OneSlotAtOnce =
    (offers entries : List ℕ) (total turnaround : ℕ) → answer_of offers entries total turnaround ≡ Ok tt
    → (i j : ℕ) → i < length entries → j < length entries → (i ≡ j → ⊥)
    → (named offers entries i).antenna ≡ (named offers entries j).antenna
    → (t : ℕ) → Holds (named offers entries i) t → Holds (named offers entries j) t → ⊥

-- the bids of 256 sound offers, summed up to any entry, stay far below 2 ^ 64
abbrev pub SumsFit : Type 0
SumsFit =
    (offers entries : List ℕ) → length entries ≤ most
    → ((k : ℕ) → k < offer_count offers → Sound (offer_at offers k))
    → ((i : ℕ) → i < length entries → entry_at entries i < offer_count offers)
    → (i : ℕ) → i ≤ length entries → sum_below (λ j. bid_at offers entries j) i ≤ 256000000000

-- k is the first of n numbers that has a fault; none of n numbers has one
pub record FirstFault (fault : ℕ → Bool) (n k : ℕ) : Type 0 where
  pub inside : k < n
  pub there : fault k ≡ true
  pub none_before : (j : ℕ) → j < k → fault j ≡ false

abbrev pub NoFault : (ℕ → Bool) → ℕ → Type 0
NoFault fault n = (k : ℕ) → k < n → fault k ≡ false

-- what has been found in order before a refusal: neither too many offers nor too many entries, all offers sound, all named there, none named twice, no clash
module _ (offers entries : List ℕ) where
  abbrev pub Few : Type 0
  Few = (offer_count offers ≤ most) × (length entries ≤ most)

  abbrev pub AllSound : Type 0
  AllSound = NoFault (λ j. unsound (offer_at offers j)) (offer_count offers)

  abbrev pub AllThere : Type 0
  AllThere = NoFault (λ j. missing (offer_count offers) entries j) (length entries)

  abbrev pub NoneTwice : Type 0
  NoneTwice = NoFault (λ j. repeated entries j) (length entries)

  abbrev pub NoClash : ℕ → Type 0
  NoClash turnaround = NoFault (λ j. clashing offers entries turnaround j) (length entries)

-- what each refusal says: its own fault, at its first place, and none of those that are looked for before
pub record Refusals (offers entries : List ℕ) (total turnaround : ℕ) : Type 0 where
  pub is_18 : answer_of offers entries total turnaround ≡ Err answer.TooMany → Few offers entries → ⊥
  pub is_27 : (k : ℕ) → answer_of offers entries total turnaround ≡ Err (answer.Unsound k)
      → Few offers entries × FirstFault (λ j. unsound (offer_at offers j)) (offer_count offers) k
  pub is_28 : (i : ℕ) → answer_of offers entries total turnaround ≡ Err (answer.NoSuchOffer i)
      → Few offers entries × AllSound offers entries × FirstFault (λ j. missing (offer_count offers) entries j) (length entries) i
  pub is_29 : (i : ℕ) → answer_of offers entries total turnaround ≡ Err (answer.NamedTwice i)
      → Few offers entries × AllSound offers entries × AllThere offers entries × FirstFault (λ j. repeated entries j) (length entries) i
  pub is_30 : (i : ℕ) → answer_of offers entries total turnaround ≡ Err (answer.Clash i)
      → Few offers entries × AllSound offers entries × AllThere offers entries × NoneTwice offers entries
      × FirstFault (λ j. clashing offers entries turnaround j) (length entries) i
  pub is_31 : answer_of offers entries total turnaround ≡ Err answer.WrongTotal
      → Few offers entries × AllSound offers entries × AllThere offers entries × NoneTwice offers entries × NoClash offers entries turnaround
      × (total_of offers entries ≡ total → ⊥)
