-- Document 02, wish 11: what an offer and an entry are, the faults that a plan may have, and the answer. Definitions only.
-- specs/Acceptable.antt says in plain statements when a plan is acceptable; `accepted_exactly` of proofs/Theorems.antt, that it is accepted then and only then.
use Rattle.std.specs.Prelude.{◌≡◌, ◌<◌, ℕ, zero, suc, ◌+◌, ◌*◌, ◌/◌, List, [], ◌∷◌, Bool, not, cond, ◌&&◌, ◌||◌, leb, ltb, eqb, length, get_or, Err, Ok, Result}
use Rattle.instant.specs.Calendar.{in_calendar}
use Rattle.award.specs.declared.Offer.{Offer}
use Rattle.award.specs.declared.AwardRefusal.{AwardRefusal}
use Rattle.award.specs.declared.AwardRefusal.TheVariants as answer

-- ── the paper's numbers ──

-- "up to 256 offers", and as many entries
abbrev pub most : ℕ
most = 256

-- "bid in whole cents up to 1,000,000,000"
abbrev pub most_cents : ℕ
most_cents = 1000000000

-- a turnaround is in seconds, an instant in microseconds
abbrev pub second_micros : ℕ
second_micros = 1000000

-- ── offers and entries ──

-- An offer is four numbers in a row: antenna, start, end, bid. Up to three numbers left over are no offer
abbrev pub offer_count : List ℕ → ℕ
offer_count offers = length offers / 4

unfoldable pub offer_at : List ℕ → ℕ → Offer
offer_at offers k = record {
  antenna = get_or offers (4 * k) 0;
  start = get_or offers (4 * k + 1) 0;
  end = get_or offers (4 * k + 2) 0;
  bid = get_or offers (4 * k + 3) 0;
}

-- "a proposed list of offer numbers, counted from 0": the number that an entry gives, and the offer that it names
abbrev pub entry_at : List ℕ → ℕ → ℕ
entry_at entries i = get_or entries i 0

abbrev pub named : List ℕ → List ℕ → ℕ → Offer
named offers entries i = offer_at offers (entry_at entries i)

-- ── looking for a fault ──

-- the first number below n that has a fault; n where none has
unfoldable pub first : (ℕ → Bool) → ℕ → ℕ
first fault zero = zero
first fault (suc n) = cond (ltb (first fault n) n) (first fault n) (cond (fault n) n (suc n))

-- of what a test may answer about the numbers below n: r is the first fault, whatever the faults are that it tells
abbrev pub FirstThat : (ℕ → Bool → Type 0) → ℕ → ℕ → Type 0
FirstThat says n r = (fault : ℕ → Bool) → ((k : ℕ) (b : Bool) → k < n → says k b → b ≡ fault k) → r ≡ first fault n

-- whether a number below n has a fault
abbrev pub among : (ℕ → Bool) → ℕ → Bool
among fault n = ltb (first fault n) n

-- ── the faults ──

-- 27: "an offer outside the calendar, whose end is not after its start or whose bid is too large" is not sound
unfoldable pub sound : Offer → Bool
sound o = in_calendar o.start && (in_calendar o.end && (ltb o.start o.end && leb o.bid most_cents))

abbrev pub unsound : Offer → Bool
unsound o = not (sound o)

-- 28: of n offers there is none with the number that entry i gives
abbrev pub missing : ℕ → List ℕ → ℕ → Bool
missing n entries i = leb n (entry_at entries i)

-- 29: "named by an earlier entry"
abbrev pub names : List ℕ → ℕ → ℕ → Bool
names entries x j = eqb (entry_at entries j) x

unfoldable pub repeated : List ℕ → ℕ → Bool
repeated entries i = among (λ j. names entries (entry_at entries i) j) i

-- a slot ends, and the turnaround later, or after more, another starts; at turnaround 0 the two may be one instant
unfoldable pub before : ℕ → ℕ → ℕ → Bool
before turnaround end start = leb (end + turnaround * second_micros) start

-- two offers on one antenna, neither of which lies before the other
unfoldable pub clash : ℕ → Offer → Offer → Bool
clash turnaround p q =
    eqb p.antenna q.antenna && not (before turnaround p.end q.start || before turnaround q.end p.start)

-- 30: "clash with one", an earlier entry
abbrev pub clash_with : List ℕ → List ℕ → ℕ → ℕ → ℕ → Bool
clash_with offers entries turnaround i j = clash turnaround (named offers entries i) (named offers entries j)

unfoldable pub clashing : List ℕ → List ℕ → ℕ → ℕ → Bool
clashing offers entries turnaround i = among (λ j. clash_with offers entries turnaround i j) i

-- f 0 + f 1 + .. + f (n - 1)
unfoldable pub sum_below : (ℕ → ℕ) → ℕ → ℕ
sum_below f zero = 0
sum_below f (suc n) = sum_below f n + f n

-- 31: "the sum of their bids"
abbrev pub bid_at : List ℕ → List ℕ → ℕ → ℕ
bid_at offers entries i = (named offers entries i).bid

unfoldable pub total_of : List ℕ → List ℕ → ℕ
total_of offers entries = sum_below (λ i. bid_at offers entries i) (length entries)

-- ── the answer ──

-- a refusal at the first of n numbers that has a fault; where none has, what comes next
abbrev pub refusing : (ℕ → Bool) → ℕ → (ℕ → AwardRefusal) → Result (Unit {0}) AwardRefusal → Result (Unit {0}) AwardRefusal
refusing fault n refusal next = cond (among fault n) (Err (refusal (first fault n))) next

-- "each over all before the next"
unfoldable pub answer_of : List ℕ → List ℕ → ℕ → ℕ → Result (Unit {0}) AwardRefusal
answer_of offers entries total turnaround =
    let n = offer_count offers in
    let m = length entries in
    cond (ltb most n || ltb most m) (Err answer.TooMany)
    (refusing (λ k. unsound (offer_at offers k)) n answer.Unsound
    (refusing (λ i. missing n entries i) m answer.NoSuchOffer
    (refusing (λ i. repeated entries i) m answer.NamedTwice
    (refusing (λ i. clashing offers entries turnaround i) m answer.Clash
    (cond (eqb (total_of offers entries) total) (Ok tt) (Err answer.WrongTotal))))))

-- document 02's number of each answer, 0 where the plan is accepted
unfoldable pub number : Result (Unit {0}) AwardRefusal → ℕ
number (Ok tt) = 0
number (Err answer.TooMany) = 18
number (Err (answer.Unsound k)) = 27
number (Err (answer.NoSuchOffer i)) = 28
number (Err (answer.NamedTwice i)) = 29
number (Err (answer.Clash i)) = 30
number (Err answer.WrongTotal) = 31

-- what comes back with it: the offer, or the entry
unfoldable pub values : Result (Unit {0}) AwardRefusal → List ℕ
values (Ok tt) = []
values (Err answer.TooMany) = []
values (Err (answer.Unsound k)) = k ∷ []
values (Err (answer.NoSuchOffer i)) = i ∷ []
values (Err (answer.NamedTwice i)) = i ∷ []
values (Err (answer.Clash i)) = i ∷ []
values (Err answer.WrongTotal) = []
