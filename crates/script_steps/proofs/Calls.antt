-- A call's windows put after those that the rooms hold already.
use mathlib.Core.Path.{◌≡◌, refl, sym, ap, ◌∙◌, subst}
use mathlib.Core.Bool.{Bool, true, false, cond}
use mathlib.Core.List.{List, [], ◌++◌}
use Prim.Native.Nat.{ℕ, zero, suc, ◌-◌, ◌≤◌, min}
use native.Mathlib.Omega.{arith}
use lib.ListN.{length, take, length-drop, take-append-drop}
use lib.Dec.{eqb}
use lib.IntN.{ℤ}
use lib.Ieee.{Float}
use borrow.Author.Tests.{eqb-true}
use borrow.Rule.Slice.PartMut.{mid_of, put_mid}
use Rattle.sgp4.specs.declared.Row.{Row}
use Rattle.opening.specs.declared.opening.Satellite.{Satellite}
use Rattle.requests.specs.Lists.{rows_from, over}
use Rattle.runs.specs.Runs.{windows_in}
use Rattle.windows.specs.declared.WindowsAnswer.{WindowsAnswer}
use Rattle.windows.specs.Windows.{Call, call_refusal, instants_from, samples_of}
use Rattle.windows.specs.Answer.{call_of, call_times, windows_at, windowed, WindowsPost}
use Rattle.windows.proofs.Claims.{fits_places}
use Rattle.script_steps.specs.Steps.{request_of, call_by, call_at, laid, firsts_of, lasts_of, Called}
use Rattle.script_steps.specs.declared.Asked.{Asked}
use Rattle.script_steps.proofs.Rooms.{rest, back}

absurd : {B : Type 0} → ⊥ → B
absurd = elim [ ]

-- ── a call, in what is left of the rooms ──

call_step : (n : ℕ) → n ≡ 1 → (s : Satellite) (m : ℕ) (station : List Float) (start step samples seen : ℕ) (f l : List ℕ) (r : WindowsAnswer) (f'' l'' : List ℕ)
    → seen ≤ length f → seen ≤ length l
    → WindowsPost s (call_of station start step samples (length (mid_of seen (length f - seen) f)) (length (mid_of seen (length l - seen) l))) (mid_of seen (length f - seen) f) (mid_of seen (length l - seen) l) r f'' l''
    → Called n (call_of station start step samples (length f - seen) (length l - seen)) s m seen f l r.satellite r.strides.0 r.windows
    (put_mid seen (length f - seen) f f'') (put_mid seen (length l - seen) l l'')
call_step n e s m station start step samples seen f l r f'' l'' hf hl p =
    let nf : length (mid_of seen (length f - seen) f) ≡ length f - seen = ap length (rest f seen) ∙ length-drop seen f in
    let nl : length (mid_of seen (length l - seen) l) ≡ length l - seen = ap length (rest l seen) ∙ length-drop seen l in
    let q : Call = call_of station start step samples (length f - seen) (length l - seen) in
    let same : call_of station start step samples (length (mid_of seen (length f - seen) f)) (length (mid_of seen (length l - seen) l)) ≡ q =
    ap (λ i. call_of station start step samples i (length (mid_of seen (length l - seen) l))) nf ∙ ap (λ i. call_of station start step samples (length f - seen) i) nl in
    let answer : r ≡ windowed s q = p.answer ∙ ap (windowed s) same in
    let one : Called 1 q s m seen f l r.satellite r.strides.0 r.windows (put_mid seen (length f - seen) f f'') (put_mid seen (length l - seen) l l'') = record {
      satellite = ap (λ z. z.satellite) answer;
      strides = ap (λ z. z.strides.0) answer;
      found = ap (λ z. z.windows) answer;
      firsts = back f f'' seen hf ∙ ap (λ z. take seen f ++ z) (p.firsts ∙ ap (λ z. over (firsts_of (windows_at s z)) (mid_of seen (length f - seen) f)) same ∙ ap (over (firsts_of (windows_at s q))) (rest f seen));
      lasts = back l l'' seen hl ∙ ap (λ z. take seen l ++ z) (p.lasts ∙ ap (λ z. over (lasts_of (windows_at s z)) (mid_of seen (length l - seen) l)) same ∙ ap (over (lasts_of (windows_at s q))) (rest l seen));
    } in
    subst (λ z. Called z q s m seen f l r.satellite r.strides.0 r.windows (put_mid seen (length f - seen) f f'') (put_mid seen (length l - seen) l l'')) (sym e) one

-- by what the request asks
pub call_asked : (n : ℕ) → n ≡ 1 → (s : Satellite) (m : ℕ) (q x : Asked) → q ≡ x → (seen : ℕ) (f l : List ℕ) (r : WindowsAnswer) (f'' l'' : List ℕ)
    → seen ≤ length f → seen ≤ length l
    → WindowsPost s (call_by q (length (mid_of seen (length f - seen) f)) (length (mid_of seen (length l - seen) l))) (mid_of seen (length f - seen) f) (mid_of seen (length l - seen) l) r f'' l''
    → Called n (call_by x (length f - seen) (length l - seen)) s m seen f l r.satellite r.strides.0 r.windows
    (put_mid seen (length f - seen) f f'') (put_mid seen (length l - seen) l l'')
call_asked n e s m q x g seen f l r f'' l'' hf hl p =
    subst (λ z. Called n (call_by z (length f - seen) (length l - seen)) s m seen f l r.satellite r.strides.0 r.windows (put_mid seen (length f - seen) f f'') (put_mid seen (length l - seen) l l'')) g
    (call_step n e s m q.station q.start.0 q.step.0 q.samples seen f l r f'' l'' hf hl p)

-- any other request leaves them
pub call_none : (n : ℕ) → (n ≡ 1 → ⊥) → (q : Call) (s : Satellite) (m seen : ℕ) (f l : List ℕ) → Called n q s m seen f l s m 0 f l
call_none zero h q s m seen f l = record { satellite = refl; strides = refl; found = refl; firsts = sym (take-append-drop seen f); lasts = sym (take-append-drop seen l) }
call_none (suc zero) h q s m seen f l = absurd (h refl)
call_none (suc (suc n)) h q s m seen f l = record { satellite = refl; strides = refl; found = refl; firsts = sym (take-append-drop seen f); lasts = sym (take-append-drop seen l) }

-- ── a request's windows are no more than it has room for ──

bound_by : (b : Bool) (c : Call) (rs : List Row) → eqb (call_refusal c) 0 ≡ b
    → length (windows_in (samples_of c.station (cond b (instants_from c.start c.step 0 c.samples) []) rs)) ≤ c.places
bound_by true c rs e =
    subst (λ z. length (windows_in (samples_of c.station (cond z (instants_from c.start c.step 0 c.samples) []) rs)) ≤ c.places) e
    (fits_places c rs (eqb-true (call_refusal c) 0 e))
bound_by false c rs e = omega arith

call_bound : (s : Satellite) (c : Call) → length (windows_at s c) ≤ c.places
call_bound s c = bound_by (eqb (call_refusal c) 0) c (rows_from s (call_times s c)) refl

pub windows_bound : (s : Satellite) (n z : ℕ) (ts : List ℤ) (ps : List Float) (qs : List ℕ) (i j k f l : ℕ)
    → (length (laid s (request_of n z ts ps qs i j k f l)).windows ≤ f) × (length (laid s (request_of n z ts ps qs i j k f l)).windows ≤ l)
windows_bound s zero z ts ps qs i j k f l = (omega arith, omega arith)
windows_bound s (suc zero) z ts ps qs i j k f l =
    let h : length (windows_at s (call_at z ps qs f l)) ≤ min f l = call_bound s (call_at z ps qs f l) in
    (below_left (length (windows_at s (call_at z ps qs f l))) f l h, below_right (length (windows_at s (call_at z ps qs f l))) f l h)
  where
    below_left : (x f l : ℕ) → x ≤ min f l → x ≤ f
    below_left x f l h = omega arith

    below_right : (x f l : ℕ) → x ≤ min f l → x ≤ l
    below_right x f l h = omega arith
windows_bound s (suc (suc n)) z ts ps qs i j k f l = (omega arith, omega arith)
