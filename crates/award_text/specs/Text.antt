-- The text of an award plan, line by line: `offer` with four numbers for each offer, then `entries`, then `total` and `turnaround` with one number each.
-- The numbers go into one row, in the order of the text. Definitions only.
use Rattle.std.specs.Prelude.{ℕ, ◌+◌, ◌-◌, List, ◌++◌, Bool, true, false, cond, ◌&&◌, leb, ltb, eqb, length, take, drop, get_or, Err, None, Option, Some, Ok, Result}
use Rattle.std.proofs.lemmas.List.Edits.{sets}
use Rattle.text.specs.Output.{bytes}
use Rattle.request_line.specs.Request.{begun}
use Rattle.award.specs.declared.AwardRefusal.TheVariants as answer
use Rattle.number_list.specs.Numbers.{numbers_of, count_of}
use Rattle.award.specs.Plan.{answer_of}
use Rattle.award_text.specs.declared.Draft.{Draft}
use Rattle.award_text.specs.declared.Label.{Label}
use Rattle.award.specs.declared.AwardRefusal.{AwardRefusal}
use Rattle.award_text.specs.declared.TextRefusal.{TextRefusal}
use Rattle.award_text.specs.declared.TextRefusal.TheVariants as text_refusal

-- before any line
abbrev pub started : Draft
started = record { at = 0; offers = 0; entries = 0; stage = 0; taken = true; faulty = false; long = false }

-- ── one line ──

-- a bad line changes nothing else
unfoldable pub unread : Draft → Draft
unread d = record { at = d.at; offers = d.offers; entries = d.entries; stage = d.stage; taken = false; faulty = true; long = d.long }

-- what a line begins with, and how many bytes that takes
unfoldable pub label_of : List ℕ → Label
label_of line =
    cond (begun (bytes "offer") line) (record { kind = 0; size = 5 })
    (cond (begun (bytes "entries") line) (record { kind = 1; size = 7 })
    (cond (begun (bytes "total") line) (record { kind = 2; size = 5 })
    (cond (begun (bytes "turnaround") line) (record { kind = 3; size = 10 })
    (record { kind = 4; size = 0 }))))

-- Offers of four numbers, then entries, then one total, then one turnaround. After a line, the stage is its kind
unfoldable pub in_place : ℕ → ℕ → ℕ → Bool
in_place stage kind n =
    cond (eqb kind 0) (eqb stage 0 && eqb n 4)
    (cond (eqb kind 1) (eqb stage 0)
    (cond (eqb kind 2) (eqb stage 1 && eqb n 1)
    (cond (eqb kind 3) (eqb stage 2 && eqb n 1)
    false)))

-- the row has the line's numbers, and ends at `next`
unfoldable pub advanced : Draft → ℕ → ℕ → Draft
advanced d kind next = record {
  at = next;
  offers = cond (eqb kind 0) next d.offers;
  entries = cond (eqb kind 1) next d.entries;
  stage = kind;
  taken = true;
  faulty = d.faulty;
  long = d.long;
}

-- or it has no room for them
unfoldable pub left_out : Draft → ℕ → Draft
left_out d kind = record { at = d.at; offers = d.offers; entries = d.entries; stage = kind; taken = true; faulty = d.faulty; long = true }

unfoldable pub placed : Draft → ℕ → ℕ → ℕ → Draft
placed d kind n room =
    cond (in_place d.stage kind n) (cond (leb n (room - d.at)) (advanced d kind (d.at + n)) (left_out d kind)) (unread d)

abbrev pub after : Draft → ℕ → Option ℕ → ℕ → Draft
after d kind (Some n) room = placed d kind n room
after d kind None room = unread d

-- the draft after a line, with room for so many numbers in the row
unfoldable pub taken : Draft → List ℕ → ℕ → Draft
taken d line room =
    cond (ltb room d.at) (unread d) (after d (label_of line).kind (count_of (numbers_of (drop (label_of line).size line))) room)

-- the row after it: behind those that it has stand the numbers before the first fault, as far as there is room
unfoldable pub row_taken : Draft → List ℕ → List ℕ → List ℕ
row_taken d line row =
    cond (ltb (length row) d.at) row (take d.at row ++ sets (drop d.at row) 0 (numbers_of (drop (label_of line).size line)).values)

-- ── the end ──

-- 256 offers, 256 entries, the total and the turnaround
abbrev pub most_numbers : ℕ
most_numbers = 1282

unfoldable pub judged : Draft → List ℕ → Result (Result (Unit {0}) AwardRefusal) TextRefusal
judged d row =
    let n = d.offers in
    let m = d.entries in
    cond (ltb m n) (Err text_refusal.Unread)
    (cond (leb (length row) (m + 1)) (Err text_refusal.Unread)
    (Ok (answer_of (take n row) (take (m - n) (drop n row)) (get_or row m 0) (get_or row (m + 1) 0))))

-- Every line taken, the turnaround the last. More numbers than the row has room for are more offers or entries than a plan may have: 18
unfoldable pub verdict_of : Draft → List ℕ → Result (Result (Unit {0}) AwardRefusal) TextRefusal
verdict_of d row =
    cond (ltb (length row) most_numbers) (Err text_refusal.RoomTooShort)
    (cond d.faulty (Err text_refusal.Unread)
    (cond (eqb d.stage 3) (cond d.long (Ok (Err answer.TooMany)) (judged d row)) (Err text_refusal.Unread)))
