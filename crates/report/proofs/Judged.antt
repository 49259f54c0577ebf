-- A record opened into memory of 83 numbers and 6 marks is judged by what that answers and by the mark of its kind.
use Prim.Native.Nat.{ℕ}
use mathlib.Core.Path.{◌≡◌, refl, ap, ◌∙◌}
use mathlib.Core.Bool.{false, cond, ◌||◌}
use mathlib.Core.List.{List, ◌++◌}
use lib.Dec.{ltb}
use lib.ListN.{length, drop, get_or, replicate}
use lib.IntN.{pos}
use lib.Ieee.{Float, fin}
use Rattle.satellite.specs.declared.Method.{Method}
use Rattle.satellite.specs.declared.Method.TheVariants as method
use Rattle.satellite.specs.declared.Resonance.{Resonance}
use Rattle.satellite.specs.declared.Resonance.TheVariants as resonance
use Rattle.opening.specs.declared.opening.Refusal.{Refusal as OpeningRefusal}
use Rattle.opening.specs.declared.opening.Satellite.{Satellite}
use Rattle.opening.specs.declared.opening.Refusal.TheVariants as refusal
use Rattle.std.specs.Prelude.{Err, Ok, Result}
use Rattle.opening.specs.Opening.{number, opened}
use Rattle.storage.specs.Storage.{resonance_mark, method_mark, place_marks, model_marks, marks_of, too_short, store_refusal, stored_marks}
use Rattle.answers.specs.Answer.{answer}
use Rattle.lent_opening.specs.Opening.{open_answer, open_marks}
use Rattle.report.specs.declared.Kind.TheVariants.{Near, Deep, Unopened}
use Rattle.report.specs.Report.{kind_by, opened_kind}
use Rattle.report.specs.State.{marked_kind}

by_resonance : (r : Resonance) → cond (ltb 0 (resonance_mark r)) Deep Near ≡ Deep
by_resonance resonance.None = refl
by_resonance (resonance.OneDay d) = refl
by_resonance (resonance.HalfDay d) = refl

by_method : (m : Method) → cond (ltb 0 (method_mark m)) Deep Near ≡ kind_by m
unfolding kind_by
by_method method.NearEarth = refl
by_method (method.DeepSpace d) = by_resonance d.integrator.resonance

-- the mark of the kind of a satellite that was stored
kind_mark : (s : Satellite) (ns : List Float) (ms : List ℕ) → length ns ≡ 83 → length ms ≡ 6 → get_or (stored_marks s ns ms) 3 0 ≡ method_mark s.model.method
unfolding stored_marks too_short marks_of place_marks model_marks
kind_mark s ns ms h k =
    ap (λ (n : ℕ). get_or (cond (ltb n 83 || ltb (length ms) 6) ms (marks_of s ++ drop 6 ms)) 3 0) h
    ∙ ap (λ (m : ℕ). get_or (cond (ltb 83 83 || ltb m 6) ms (marks_of s ++ drop 6 ms)) 3 0) k

room : (n m : ℕ) → n ≡ 83 → m ≡ 6 → answer (store_refusal n m) 0 0 0 ≡ 0
unfolding store_refusal too_short answer
room n m h k = ap (λ (x : ℕ). answer (store_refusal x m) 0 0 0) h ∙ ap (λ (x : ℕ). answer (store_refusal 83 x) 0 0 0) k

by_refusal : (why : OpeningRefusal) (mark : ℕ) → marked_kind (answer (number why) 0 0 0) mark ≡ Unopened
unfolding marked_kind number answer
by_refusal refusal.Record mark = refl
by_refusal refusal.Perigee mark = refl
by_refusal refusal.NotFinite mark = refl

by_opening : (o : Result Satellite OpeningRefusal) (ns : List Float) (ms : List ℕ) → length ns ≡ 83 → length ms ≡ 6
    → marked_kind (open_answer (opened o) (length ns) (length ms)) (get_or (open_marks (opened o) ns ms) 3 0) ≡ opened_kind o
unfolding opened open_answer open_marks opened_kind marked_kind
by_opening (Ok s) ns ms h k =
    ap (λ (a : ℕ). marked_kind a (get_or (stored_marks s ns ms) 3 0)) (room (length ns) (length ms) h k)
    ∙ ap (λ (x : ℕ). marked_kind 0 x) (kind_mark s ns ms h k)
    ∙ by_method s.model.method
by_opening (Err why) ns ms h k = by_refusal why (get_or ms 3 0)

-- memory as the report lends it
abbrev no_numbers : List Float
no_numbers = replicate 83 (fin false 0 (pos 0))

abbrev no_marks : List ℕ
no_marks = replicate 6 0

-- of the answer and the marks that the call left
pub judged : (o : Result Satellite OpeningRefusal) (a : ℕ) (marks : List ℕ) → a ≡ open_answer (opened o) 83 6 → marks ≡ open_marks (opened o) no_numbers no_marks
    → marked_kind a (get_or marks 3 0) ≡ opened_kind o
judged o a marks e m =
    ap (λ (x : ℕ). marked_kind x (get_or marks 3 0)) e
    ∙ ap (λ (x : List ℕ). marked_kind (open_answer (opened o) 83 6) (get_or x 3 0)) m
    ∙ by_opening o no_numbers no_marks refl refl
