-- The turns of `read_on`: every piece so far is gone into the line, and none had a newline.
use Prim.Native.Nat.{ℕ, ◌+◌, ◌≤◌, min}
use mathlib.Core.Path.{◌≡◌, refl, sym, ap, ◌∙◌}
use mathlib.Core.List.{List, [], ◌++◌, append-nil}
use mathlib.Core.Bool.{Bool, true, false, cond, not}
use native.Mathlib.Omega.{arith}
use native.Mathlib.Nat.{min-eq_left, min-eq_right}
use lib.Dec.{ltb, leb}
use lib.ListN.{length, take, drop}
use lib.Seq.{drop-drop, take_all, take-length}
use borrow.Author.Tests.{leb-true, leb-false}
use Rattle.text.specs.declared.input.Gathered.{Gathered}
use Rattle.text.specs.Output.{Put, most}
use Rattle.text.specs.Input.{line_of, rest_of, ended_in, Gathering}
use Rattle.text.proofs.Pieces as pieces
use Rattle.text.proofs.Feeding.{line_cuts}
use Rattle.line_input.specs.declared.Input.{Input}
use Rattle.line_input.specs.declared.Next.{Next}
use Rattle.line_input.specs.Lines.{waiting, ended, finished, Found, Nexts}
use Rattle.line_input.proofs.Cuts.{ended_cuts, rest_cuts, no_rest, behind}

pub record Gone (line₀ : List ℕ) (size₀ : ℕ) (line : List ℕ) (size : ℕ) : Type 0 where
  pub came : List ℕ
  pub put : Put line₀ size₀ (line_of came) line size
  pub unended : ended_in came ≡ false

pub none : {line : List ℕ} {size : ℕ} → length line ≤ most → size ≤ most → Gone line size line size
unfolding line_of ended_in
none h g = record { came = []; put = pieces.none h g; unended = refl }

-- a piece without a newline
pub more : {line₀ line line' : List ℕ} {size₀ size from : ℕ} (piece : List ℕ) {r : Gathered} → Gone line₀ size₀ line size
    → Gathering line size piece from line' r → r.ended ≡ false → Gone line₀ size₀ line' r.size
more piece g h e = record {
  came = g.came ++ piece;
  put = line_cuts g.came piece g.unended g.put h.put;
  unended = ended_cuts g.came piece g.unended ∙ sym h.ended ∙ e;
}

module _ {line₀ line : List ℕ} {size₀ size : ℕ} (g : Gone line₀ size₀ line size) where
  -- nothing more comes
  pub last : (buffer : List ℕ) (failed found : Bool) → found ≡ cond failed false (ltb 0 size) → Found failed size₀ [] line₀ buffer line (finished size found)
  unfolding waiting
  last buffer failed found e = record {
    came = g.came;
    put = g.put;
    left = sym (no_rest g.came g.unended);
    over = ap not (sym g.unended);
    found = e ∙ ap (λ t. cond failed false (cond t true (ltb 0 size))) (sym g.unended);
  }

-- A newline within a piece ends the line.
module _ (buffer : List ℕ) (at end : ℕ) {line line' : List ℕ} {size : ℕ} {r : Gathered}
    (h : Gathering line size (drop at (take end buffer)) at line' r) (e : r.ended ≡ true) where
  abbrev rest : List ℕ
  rest = drop at (take end buffer)

  is_ended : ended_in rest ≡ true
  is_ended = sym h.ended ∙ e

  past : r.next ≡ at + (length (line_of rest) + 1)
  past = let n : r.next ≡ at + length (line_of rest) + 1 = rw is_ended at h.next in omega (arith, n)

  pub waits : waiting (ended r.next end r.size).input buffer ≡ rest_of rest
  unfolding waiting
  waits = ap (λ k. drop k (take end buffer)) past ∙ sym (drop-drop (length (line_of rest) + 1) at (take end buffer)) ∙ behind rest is_ended

  pub newline : {line₀ : List ℕ} {size₀ : ℕ} (waited came a : List ℕ) → waited ++ came ≡ a ++ rest → ended_in a ≡ false
      → Put line₀ size₀ (line_of a) line size → Found false size₀ waited line₀ buffer line' (ended r.next end r.size)
  newline waited came a j u p =
      let t : ended_in (waited ++ came) ≡ true = ap ended_in j ∙ ended_cuts a rest u ∙ is_ended in
      record {
        came = came;
        put = pieces.same (ap line_of (sym j)) (line_cuts a rest u p h.put);
        left = waits ∙ sym (rest_cuts a rest u) ∙ ap rest_of (sym j);
        over = ap not (sym t);
        found = ap (λ b. cond b true (ltb 0 r.size)) (sym t);
      }

  -- what waited has it
  pub at_once : size ≡ 0 → length line ≤ most → Found false 0 rest line buffer line' (ended r.next end r.size)
  unfolding line_of ended_in
  at_once z k = newline rest [] [] (append-nil rest) refl (rw z (pieces.none k (omega arith)))

-- what waited has none, and the line goes on
pub on : {failed : Bool} {line line' line'' : List ℕ} {size : ℕ} (waited buffer : List ℕ) {r : Next} → ended_in waited ≡ false → Put line 0 (line_of waited) line' size
    → Found failed size [] line' buffer line'' r → Found failed 0 waited line buffer line'' r
on {failed} waited buffer {r} e p f =
    let c = f.came in
    let t : ended_in (waited ++ c) ≡ ended_in c = ended_cuts waited c e in
    record {
      came = c;
      put = line_cuts waited c e p f.put;
      left = f.left ∙ sym (rest_cuts waited c e);
      over = f.over ∙ ap not (sym t);
      found = f.found ∙ ap (λ b. cond failed false (cond b true (ltb 0 r.size))) (sym t);
    }

clipped_by : (b : Bool) (n : ℕ) (l : List ℕ) → leb n (length l) ≡ b → take (min n (length l)) l ≡ take n l
clipped_by true n l e = ap (λ k. take k l) (min-eq_left {n = n} {m = length l} (leb-true n (length l) e))
clipped_by false n l e =
    let h : length l ≤ n = omega (arith, leb-false n (length l) e) in
    ap (λ k. take k l) (min-eq_right {n = length l} {m = n} h) ∙ take-length l ∙ sym (take_all n l h)

neither : (b : Bool) → false ≡ cond b false false
neither true = refl
neither false = refl

over_by : (b : Bool) {o : Bool} (l : List ℕ) → o ≡ true → cond b [] (cond o [] l) ≡ []
over_by true l e = refl
over_by false l e = ap (λ t. cond t [] l) e

module _ (failed : Bool) (input : Input) (buffer line : List ℕ) where
  abbrev waited : List ℕ
  waited = cond failed [] (waiting input buffer)

  pub waits_in : {end : ℕ} → failed ≡ false → input.over ≡ false → end ≡ min input.end (length buffer) → waited ≡ drop input.at (take end buffer)
  unfolding waiting
  waits_in {end} f o e =
      ap (λ t. cond t [] (cond input.over [] (drop input.at (take input.end buffer)))) f
      ∙ ap (λ t. cond t [] (drop input.at (take input.end buffer))) o
      ∙ ap (λ l. drop input.at l) (sym (ap (λ k. take k buffer) e ∙ clipped_by (leb input.end (length buffer)) input.end buffer refl))

  -- after a failure, and at the end of the input
  pub nothing : waited ≡ [] → length line ≤ most → Nexts failed input buffer line failed buffer line (finished 0 false)
  nothing e h = record {
    next = rw e (last (none h (omega arith)) buffer failed false (neither failed));
    marked = λ k. k;
  }

  pub failed_before : failed ≡ true → waited ≡ []
  failed_before e = ap (λ t. cond t [] (waiting input buffer)) e

  pub over_before : input.over ≡ true → waited ≡ []
  unfolding waiting
  over_before e = over_by failed (drop input.at (take input.end buffer)) e
