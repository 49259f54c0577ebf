-- A line's numbers in what is left of the row.
use Prim.Native.Nat.{ℕ, ◌-◌, ◌≤◌}
use mathlib.Core.Path.{◌≡◌, ap, ◌∙◌}
use mathlib.Core.List.{List, ◌++◌, append-nil}
use native.Mathlib.Omega.{arith}
use lib.ListN.{length, take, drop, length-drop}
use lib.Seq.{sets, drop-length, take_all}
use borrow.Author.Tests.{le-ltb}
use borrow.Rule.Slice.PartMut.{mid_of, put_mid, Post-is}
use Rattle.std.specs.Prelude.{Option}
use Rattle.number_list.specs.Numbers.{numbers_of, count_of}
use Rattle.award_text.specs.declared.Draft.{Draft}
use Rattle.award_text.specs.declared.Label.{Label}
use Rattle.award_text.specs.Text.{label_of, after, taken, row_taken}

-- what is lent from n on is all that lies there
rest : (l : List ℕ) (n : ℕ) → mid_of n (length l - n) l ≡ drop n l
rest l n = let h : length (drop n l) ≤ length l - n = omega (arith, length-drop n l) in take_all (length l - n) (drop n l) h

-- and is put back after what lies before
back : (l p : List ℕ) (n : ℕ) → n ≤ length l → put_mid n (length l - n) l p ≡ take n l ++ p
back l p n h =
    ap (λ z. take n l ++ (p ++ z)) (Post-is n (length l) l h ∙ drop-length l) ∙ ap (λ z. take n l ++ z) (append-nil p)

module _ (d : Draft) (line row part : List ℕ) (label : Label) (q : Option ℕ) (r : Draft) where
  abbrev at : ℕ
  at = d.at

  abbrev bytes_left : List ℕ
  bytes_left = mid_of label.size (length line - label.size) line

  pub line_taken : at ≤ length row → label ≡ label_of line
      → (q ≡ count_of (numbers_of bytes_left)) × (part ≡ sets (mid_of at (length row - at) row) 0 (numbers_of bytes_left).values)
      → r ≡ after d label.kind q (length row)
      → (r ≡ taken d line (length row)) × (put_mid at (length row - at) row part ≡ row_taken d line row)
  unfolding taken row_taken
  line_taken h e g a =
      let b = rest line label.size in
      let room = length row in
      let first : r ≡ after d (label_of line).kind (count_of (numbers_of (drop (label_of line).size line))) room =
      a ∙ ap (λ x. after d label.kind x room) (g.0 ∙ ap (λ l. count_of (numbers_of l)) b)
      ∙ ap (λ (x : Label). after d x.kind (count_of (numbers_of (drop x.size line))) room) e in
      let second : put_mid at (room - at) row part ≡ take at row ++ sets (drop at row) 0 (numbers_of (drop (label_of line).size line)).values =
      back row part at h
      ∙ ap (λ z. take at row ++ z) (g.1 ∙ ap (λ l. sets l 0 (numbers_of bytes_left).values) (rest row at)
      ∙ ap (λ l. sets (drop at row) 0 (numbers_of l).values) b
      ∙ ap (λ (x : Label). sets (drop at row) 0 (numbers_of (drop x.size line)).values) e) in
      (rw (le-ltb room at h) first, rw (le-ltb room at h) second)
