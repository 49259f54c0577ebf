-- Moves of an instant, one after the other: the claims of specs/Claims.antt, and what the functions answer.
use mathlib.Core.Path.{◌≡◌, refl, sym, ap, ◌∙◌}
use mathlib.Core.Bool.{Bool, true, false, cond}
use Prim.Native.Nat.{ℕ, zero, suc, ◌+◌, ◌-◌, ◌≤◌}
use native.Mathlib.Omega.{arith}
use lib.IntN.{ℤ, pos, negsuc, nat_abs, neg_ℤ, ◌+ℤ◌, ◌-ℤ◌, +ℤ_assoc, +ℤ_idl, +ℤ_idr, +ℤ_invr, pos-ne-negsuc}
use lib.Dec.{leb, ltb}
use borrow.Author.Tests.{le-leb, leb-true, ltb-false}
use borrow.Author.Rules.{sfits_of}
use mir.Syntax.{w64}
use mir.Val.{to_z, of_z, SFits}
use mir.Facts.{to_z-of_z}
use Rattle.instant.specs.Calendar.{in_calendar}
use Rattle.instant.specs.Move.{in_span, span_limit, landed, reached, move_of}
use Rattle.std.specs.Prelude.{Err, Ok, Result}
use Rattle.instant.specs.declared.Instant.{Instant}
use Rattle.instant.specs.declared.MoveRefusal.{MoveRefusal}
use Rattle.instant.specs.declared.MoveRefusal.TheVariants as move_refusal
use Rattle.instant.proofs.Move.{move_made}
use Rattle.moves.specs.Moves.{to, then_by, Leads, Twice, Back}
use Rattle.moves.specs.Claims.{Shifts, Refused}

-- ── a move in range is made ──

landed_to : (u : ℕ) → in_calendar u ≡ true → landed u ≡ to u
unfolding landed
landed_to u h = rw h

-- a difference that is no negative number
back_by : (b : Bool) (t n u : ℕ) → cond b (negsuc (suc n - suc t)) (pos (t - suc n)) ≡ pos u → (b ≡ false) × (t - suc n ≡ u)
back_by true t n u e = absurd (pos-ne-negsuc u (suc n - suc t) (sym e))
back_by false t n u e = (refl, ap nat_abs e)

reached_to : (t : ℕ) (x : ℤ) (u : ℕ) → pos t +ℤ x ≡ pos u → in_calendar u ≡ true → reached t x ≡ to u
unfolding reached
reached_to t (pos n) u e h = ap landed (ap nat_abs e) ∙ landed_to u h
reached_to t (negsuc n) u e h =
    let p = back_by (ltb t (suc n)) t n u e in
    rw (le-leb (suc n) t (ltb-false t (suc n) p.0)) (ap landed p.1 ∙ landed_to u h)

made : (t : ℕ) (x : ℤ) (u : ℕ) → Leads t x u → move_of t x ≡ to u
unfolding move_of
made t x u l = rw (l.span, l.start) (reached_to t x u l.sum l.reached)

-- ── and no other ──

within : (b : Bool) (m : Result Instant MoveRefusal) (u : ℕ) → cond b m (Err move_refusal.TooFar) ≡ to u → b ≡ true
within true m u h = refl
within false m u h = let z : ◌≡◌ {A = ℕ} 0 1 = cc in absurd (omega arith)

leads : (t : ℕ) (x : ℤ) (u : ℕ) → move_of t x ≡ to u → Leads t x u
unfolding move_of
leads t x u h =
    let p = move_made t x u h in
    record { start = p.0; span = within (in_span x) _ u h; sum = p.2; reached = p.1 }

-- ── the three laws ──

nothing : (t : ℕ) → in_calendar t ≡ true → move_of t (pos 0) ≡ to t
unfolding in_span span_limit
nothing t h = made t (pos 0) t (record { start = h; span = refl; sum = +ℤ_idr (pos t); reached = h })

then : (t u v : ℕ) (x y : ℤ) → Leads t x u → Leads u y v → then_by (move_of t x) y ≡ to v
then t u v x y l k = ap (λ (m : Result Instant MoveRefusal). then_by m y) (made t x u l) ∙ made u y v k

sum : (t u v : ℕ) (x y : ℤ) → Leads t x u → Leads u y v → in_span (x +ℤ y) ≡ true → move_of t (x +ℤ y) ≡ to v
sum t u v x y l k h =
    made t (x +ℤ y) v
    (record {
      start = l.start;
      span = h;
      sum = sym (+ℤ_assoc (pos t) x y) ∙ ap (λ (z : ℤ). z +ℤ y) l.sum ∙ k.sum;
      reached = k.reached;
    })

abs_neg : (x : ℤ) → nat_abs (neg_ℤ x) ≡ nat_abs x
abs_neg (pos zero) = refl
abs_neg (pos (suc n)) = refl
abs_neg (negsuc n) = refl

span_neg : (x : ℤ) → in_span x ≡ true → in_span (neg_ℤ x) ≡ true
unfolding in_span
span_neg x h = ap (λ (n : ℕ). leb n span_limit) (abs_neg x) ∙ h

-- the way back
returns : (t u : ℕ) (x : ℤ) → Leads t x u → Leads u (neg_ℤ x) t
returns t u x l =
    record {
      start = l.reached;
      span = span_neg x l.span;
      sum =
          ap (λ (z : ℤ). z +ℤ neg_ℤ x) (sym l.sum) ∙ +ℤ_assoc (pos t) x (neg_ℤ x) ∙ ap (λ (z : ℤ). pos t +ℤ z) (+ℤ_invr x)
          ∙ +ℤ_idr (pos t);
      reached = l.start;
    }

pub shifts : Shifts
shifts = record {
  made = λ t x u. (made t x u, leads t x u);
  nothing = nothing;
  twice = λ t u v x y l k h. (then t u v x y l k ∙ sym (sum t u v x y l k h), sum t u v x y l k h);
  back = λ t u x l. then t u t x (neg_ℤ x) l (returns t u x l);
}

-- ── the answers of the two functions ──

pub twice_post : (t : ℕ) (x y : ℤ) (r : Result Instant MoveRefusal) → r ≡ then_by (move_of t x) y → Twice t x y r
twice_post t x y r e = record {
  is = e;
  once = λ u v l k h. (e ∙ then t u v x y l k ∙ sym (sum t u v x y l k h), e ∙ then t u v x y l k);
}

pub back_post : (t : ℕ) (x : ℤ) (r : Result Instant MoveRefusal) → r ≡ then_by (move_of t x) (neg_ℤ x) → Back t x r
back_post t x r e = record { is = e; home = λ u l. e ∙ then t u t x (neg_ℤ x) l (returns t u x l) }

-- ── outside the premise ──

too_far : (t : ℕ) (x : ℤ) → in_span x ≡ false → move_of t x ≡ Err move_refusal.TooFar
unfolding move_of
too_far t x h = rw h

-- a move in span is made or is 6
landed_not : (b : Bool) (n : ℕ) → cond b (to n) (Err move_refusal.Outside) ≡ Err move_refusal.TooFar → ◌≡◌ {A = ℕ} 0 1
landed_not true n e = cc
landed_not false n e = cc

back_not : (b c : Bool) (n : ℕ) → cond b (cond c (to n) (Err move_refusal.Outside)) (Err move_refusal.Outside) ≡ Err move_refusal.TooFar → ◌≡◌ {A = ℕ} 0 1
back_not true c n e = landed_not c n e
back_not false c n e = cc

reached_not : (t : ℕ) (x : ℤ) → reached t x ≡ Err move_refusal.TooFar → ◌≡◌ {A = ℕ} 0 1
unfolding reached landed
reached_not t (pos n) e = landed_not (in_calendar (t + n)) (t + n) e
reached_not t (negsuc n) e = back_not (leb (suc n) t) (in_calendar (t - suc n)) (t - suc n) e

inside_not : (t : ℕ) (x : ℤ) (b : Bool) → cond b (reached t x) (Err move_refusal.Outside) ≡ Err move_refusal.TooFar → ◌≡◌ {A = Result Instant MoveRefusal} (Err move_refusal.TooFar) (Err move_refusal.Outside)
inside_not t x true e = let z = reached_not t x e in absurd (omega arith)
inside_not t x false e = sym e

no_instant : (t : ℕ) (x : ℤ) (m : Result Instant MoveRefusal) → move_of t x ≡ m → in_span x ≡ true → ((u : ℕ) → Leads t x u → ⊥) → m ≡ Err move_refusal.Outside
unfolding move_of
no_instant t x (Ok u) e h g = absurd (g u.0 (leads t x u.0 e))
no_instant t x (Err move_refusal.TooFar) e h g = inside_not t x (in_calendar t) (rw h at e)
no_instant t x (Err move_refusal.Outside) e h g = refl

outside : (t : ℕ) (x : ℤ) → in_span x ≡ true → ((u : ℕ) → Leads t x u → ⊥) → move_of t x ≡ Err move_refusal.Outside
outside t x h g = no_instant t x (move_of t x) refl h g

never : {A : Bool} → A ≡ true → A ≡ false → ⊥
never p q = let z : ◌≡◌ {A = ℕ} 0 1 = cc in omega arith

after : (m n : Result Instant MoveRefusal) (y : ℤ) → m ≡ n → then_by m y ≡ then_by n y
after m n y e = ap (λ (m : Result Instant MoveRefusal). then_by m y) e

pub refused : Refused
refused = record {
  first_too_far = λ t x y h. after (move_of t x) (Err move_refusal.TooFar) y (too_far t x h);
  start_outside = λ t x y h g. after (move_of t x) (Err move_refusal.Outside) y (outside t x h (λ u l. never l.start g));
  middle_outside = λ t x y h g. after (move_of t x) (Err move_refusal.Outside) y (outside t x h g);
  second_too_far = λ t u x y l h. after (move_of t x) (to u) y (made t x u l) ∙ too_far u y h;
  end_outside = λ t u x y l h g. after (move_of t x) (to u) y (made t x u l) ∙ outside u y h g;
}

-- ── the span the other way, as the machine computes it ──

pub within_limit : (t : ℕ) (x : ℤ) (u : ℕ) → move_of t x ≡ to u → nat_abs x ≤ 315532800000000
unfolding in_span span_limit
within_limit t x u e = leb-true (nat_abs x) 315532800000000 (leads t x u e).span

minus_is : (x : ℤ) → pos 0 -ℤ x ≡ neg_ℤ x
minus_is x = +ℤ_idl (neg_ℤ x)

fits_small : (x : ℤ) → nat_abs x ≤ 315532800000000 → SFits w64 x
fits_small (pos n) h = sfits_of (omega arith)
fits_small (negsuc n) h = sfits_of (omega arith)

steady : (x : ℤ) → nat_abs x ≤ 315532800000000 → to_z w64 (of_z w64 x) ≡ x
steady x h = to_z-of_z (fits_small x h)

minus_small : (x : ℤ) → nat_abs x ≤ 315532800000000 → SFits w64 (pos 0 -ℤ x)
minus_small x h = rw (minus_is x) (fits_small (neg_ℤ x) (rw (abs_neg x) h))

pub minus_fits : (x : ℤ) → nat_abs x ≤ 315532800000000 → SFits w64 (pos 0 -ℤ to_z w64 (of_z w64 x))
minus_fits x h = rw (steady x h) (minus_small x h)

pub minus_int : (x : ℤ) → nat_abs x ≤ 315532800000000 → to_z w64 (of_z w64 (pos 0 -ℤ to_z w64 (of_z w64 x))) ≡ neg_ℤ x
minus_int x h = rw (steady x h) (to_z-of_z (minus_small x h) ∙ minus_is x)
