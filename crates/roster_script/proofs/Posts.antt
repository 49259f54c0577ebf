-- The contract of `run_script`, by its answer.
use Prim.Native.Nat.{ℕ, ◌/◌, ◌<◌, ◌≤◌}
use mathlib.Core.Path.{◌≡◌, refl, ap, sym, ◌∙◌}
use mathlib.Core.Bool.{true, false}
use mathlib.Core.List.{List, [], ◌∷◌, ◌++◌}
use native.Mathlib.Omega.{arith}
use borrow.Author.Tests.{le-leb, lt-leb}
use lib.Dec.{leb}
use lib.ListN.{length, drop}
use Rattle.roster_script.specs.Total.{Call, Lent, lent, after, answers_to, after_all, empty, accepted, Total}
use Rattle.roster_script.specs.Script.{script, needed, room_for, ran_of, ran_number, Post}
use Rattle.roster_script.specs.declared.Ran.TheVariants.{Done, Short}
use Rattle.roster_script.proofs.Totals.{total}

not_done : Short ≡ Done → ⊥
not_done e = let z : ◌≡◌ {A = ℕ} 17 0 = ap ran_number e in absurd (omega arith)

not_short : Done ≡ Short → ⊥
not_short e = not_done (sym e)

-- numbers past those of the calls do not count
accepted_front : (cs : List Call) (m : Lent) (more : List ℕ) → accepted cs (answers_to m cs ++ more) ≡ accepted cs (answers_to m cs)
accepted_front [] m more = refl
accepted_front (c ∷ cs) m more = rw (accepted_front cs (after m c) more)

module _ (b row calls text answers : List ℕ) where
  unrun : Short ≡ ran_of (room_for calls (length text) (length answers)) → Post b row calls text answers Short b row answers
  unrun e = record {
    answer = e;
    unrun = λ h. (refl, refl, refl);
    memory = λ h. absurd (not_done h);
    numbers = λ h. absurd (not_done h);
    total = λ h k. absurd (not_done h);
  }

  pub short_text : leb (needed calls) (length text) ≡ false → Post b row calls text answers Short b row answers
  unfolding room_for ran_of
  short_text e = unrun (rw e)

  pub short_room : leb (needed calls) (length text) ≡ true → length answers < length calls / 3 → Post b row calls text answers Short b row answers
  unfolding room_for ran_of
  short_room e h = unrun (rw (e, lt-leb (length calls / 3) (length answers) h))

  pub done : (b' row' answers' : List ℕ) → leb (needed calls) (length text) ≡ true → length calls / 3 ≤ length answers
      → (lent b' row' ≡ after_all (lent b row) (script calls text)) × (answers' ≡ answers_to (lent b row) (script calls text) ++ drop (length (script calls text)) answers)
      → Post b row calls text answers Done b' row' answers'
  unfolding room_for ran_of
  done b' row' answers' e h ran = record {
    answer = rw (e, le-leb (length calls / 3) (length answers) h);
    unrun = λ z. absurd (not_short z);
    memory = λ z. ran.0;
    numbers = λ z. ran.1;
    total = λ z k. total_here (script calls text) (drop (length (script calls text)) answers) (ran.0 ∙ ap (λ (m : Lent). after_all m (script calls text)) k)
        (ran.1 ∙ ap (λ (m : Lent). answers_to m (script calls text) ++ drop (length (script calls text)) answers) k);
  }
    where
      total_here : (cs : List Call) (more : List ℕ) → lent b' row' ≡ after_all empty cs → answers' ≡ answers_to empty cs ++ more → Total (lent b' row') (accepted cs answers')
      total_here cs more p q = rw (p, q, accepted_front cs empty more) (total cs)
