-- Wish 14, in lent memory: rows written, rearranged.
use mathlib.Core.Path.{◌≡◌, refl, sym, ap, ◌∙◌}
use mathlib.Core.List.{List, [], ◌∷◌}
use Prim.Native.Nat.{ℕ, zero, suc, ◌+◌, ◌*◌, ◌<◌}
use native.Mathlib.Omega.{arith}
use lib.ListN.{length, get_or, drop, get_or-append}
use lib.Seq.{get_or-append-add}
use lib.IntN.{ℤ}
use lib.Ieee.{Float}
use Rattle.sgp4.specs.declared.Row.{Row}
use Rattle.sgp4.specs.Row.{refused_row}
use Rattle.tle.specs.declared.Record.{Record}
use Rattle.std.specs.Prelude.{Ok}
use Rattle.tle.specs.Read.{read_of}
use Rattle.opening.specs.declared.opening.Satellite.{Satellite}
use Rattle.opening.specs.Opening.{open_of}
use Rattle.requests.specs.declared.ListAnswer.{ListAnswer}
use Rattle.requests.specs.Lists.{rows_from, refusals_of, rounds_of, state_of, states_of, over, list_times, list_refusal, ListPost}
use Rattle.sequences.proofs.Demand3.{opened_place}
use Rattle.orders.specs.Places.{Places, Rearranged}
use Rattle.orders.specs.Written.{Written}
use Rattle.orders.proofs.Moving.{map_rearranged}
use Rattle.orders.proofs.Best.{row_list}

-- ── where a row's numbers stand ──

length_refusals : (rs : List Row) → length (refusals_of rs) ≡ length rs
length_refusals [] = refl
length_refusals (r ∷ rs) = ap suc (length_refusals rs)

length_rounds : (rs : List Row) → length (rounds_of rs) ≡ length rs
length_rounds [] = refl
length_rounds (r ∷ rs) = ap suc (length_rounds rs)

length_states : (rs : List Row) → length (states_of rs) ≡ 6 * length rs
length_states [] = refl
length_states (r ∷ rs) = omega (arith, length_states rs)

at_refusals : (rs : List Row) (j : ℕ) (d : ℕ) → j < length rs → get_or (refusals_of rs) j d ≡ (get_or rs j (refused_row 0)).refusal
at_refusals [] j d h = absurd (omega arith)
at_refusals (r ∷ rs) zero d h = refl
at_refusals (r ∷ rs) (suc j) d h = at_refusals rs j d (omega arith)

at_rounds : (rs : List Row) (j : ℕ) (d : ℕ) → j < length rs → get_or (rounds_of rs) j d ≡ (get_or rs j (refused_row 0)).rounds
at_rounds [] j d h = absurd (omega arith)
at_rounds (r ∷ rs) zero d h = refl
at_rounds (r ∷ rs) (suc j) d h = at_rounds rs j d (omega arith)

at_states : (rs : List Row) (j k : ℕ) (d : Float) → j < length rs → k < 6 → get_or (states_of rs) (6 * j + k) d ≡ get_or (state_of (get_or rs j (refused_row 0))) k d
at_states [] j k d h l = absurd (omega arith)
at_states (r ∷ rs) zero k d h l =
    let e : 6 * 0 + k ≡ k = omega arith in
    rw e (get_or-append (state_of r) (states_of rs) d k l)
at_states (r ∷ rs) (suc j) k d h l =
    let e : 6 * suc j + k ≡ 6 + (6 * j + k) = omega arith in
    rw e (get_or-append-add (state_of r) (states_of rs) (6 * j + k) d ∙ at_states rs j k d (omega arith) l)

-- ── two calls ──

module _ (n : ℕ) (p : Places n) (rs rs' : List Row) (m : Rearranged n p rs rs') where
  same_refusals : (a a' : List ℕ) (j : ℕ) → j < n → (d : ℕ) → get_or (over (refusals_of rs') a') j d ≡ get_or (over (refusals_of rs) a) (p.from j) d
  same_refusals a a' j h d =
      let k = p.from_below j h in
      get_or-append (refusals_of rs') _ d j (omega (arith, length_refusals rs', m.size'))
      ∙ at_refusals rs' j d (omega (arith, m.size'))
      ∙ ap (λ (r : Row). r.refusal) (m.same j h (refused_row 0))
      ∙ sym (at_refusals rs (p.from j) d (omega (arith, m.size)))
      ∙ sym (get_or-append (refusals_of rs) (drop (length (refusals_of rs)) a) d (p.from j) (omega (arith, length_refusals rs, m.size)))

  same_rounds : (a a' : List ℕ) (j : ℕ) → j < n → (d : ℕ) → get_or (over (rounds_of rs') a') j d ≡ get_or (over (rounds_of rs) a) (p.from j) d
  same_rounds a a' j h d =
      let k = p.from_below j h in
      get_or-append (rounds_of rs') _ d j (omega (arith, length_rounds rs', m.size'))
      ∙ at_rounds rs' j d (omega (arith, m.size'))
      ∙ ap (λ (r : Row). r.rounds) (m.same j h (refused_row 0))
      ∙ sym (at_rounds rs (p.from j) d (omega (arith, m.size)))
      ∙ sym (get_or-append (rounds_of rs) (drop (length (rounds_of rs)) a) d (p.from j) (omega (arith, length_rounds rs, m.size)))

  same_states : (b b' : List Float) (j : ℕ) → j < n → (k : ℕ) → k < 6 → (d : Float)
      → get_or (over (states_of rs') b') (6 * j + k) d ≡ get_or (over (states_of rs) b) (6 * p.from j + k) d
  same_states b b' j h k l d =
      let q = p.from_below j h in
      get_or-append (states_of rs') _ d (6 * j + k) (omega (arith, length_states rs', m.size'))
      ∙ at_states rs' j k d (omega (arith, m.size')) l
      ∙ ap (λ (r : Row). get_or (state_of r) k d) (m.same j h (refused_row 0))
      ∙ sym (at_states rs (p.from j) k d (omega (arith, m.size)) l)
      ∙ sym (get_or-append (states_of rs) (drop (length (states_of rs)) b) d (6 * p.from j + k) (omega (arith, length_states rs, m.size)))

-- two accepted lines, the satellite that they open to, two calls of `request_list` for it that are not refused, the second with the first's times rearranged
pub written : (line1 line2 : List ℕ) (record' : Record) (s : Satellite) → read_of line1 line2 ≡ Ok record' → open_of record' ≡ Ok s
    → (ts us : List ℤ) (p : Places (length ts)) → Rearranged (length ts) p ts us
    → (a₀ : List ℕ) (b₀ : List Float) (c₀ : List ℕ) (r : ListAnswer) (a : List ℕ) (b : List Float) (c : List ℕ) → ListPost s ts a₀ b₀ c₀ r a b c → r.refusal ≡ 0
    → (a₁ : List ℕ) (b₁ : List Float) (c₁ : List ℕ) (r' : ListAnswer) (a' : List ℕ) (b' : List Float) (c' : List ℕ) → ListPost s us a₁ b₁ c₁ r' a' b' c' → r'.refusal ≡ 0
    → Written (length ts) p a b c a' b' c'
written line1 line2 record' s reads opens ts us p m a₀ b₀ c₀ r a b c post h a₁ b₁ c₁ r' a' b' c' post' h' =
    let e = opened_place record' s opens in
    let k : list_refusal (length ts) (length a₀) (length b₀) (length c₀) ≡ 0 = sym (ap (λ (z : ListAnswer). z.refusal) post.answer) ∙ h in
    let k' : list_refusal (length us) (length a₁) (length b₁) (length c₁) ≡ 0 = sym (ap (λ (z : ListAnswer). z.refusal) post'.answer) ∙ h' in
    let rs = rows_from s (list_times ts (length a₀) (length b₀) (length c₀)) in
    let rs' = rows_from s (list_times us (length a₁) (length b₁) (length c₁)) in
    let q : Rearranged (length ts) p rs rs' =
    rw (row_list s e ts (length a₀) (length b₀) (length c₀) k, row_list s e us (length a₁) (length b₁) (length c₁) k') (map_rearranged _ (length ts) p ts us m)
    in
    record {
      refusals = λ j l d. ap (λ (z : List ℕ). get_or z j d) post'.refusals ∙ same_refusals (length ts) p rs rs' q a₀ a₁ j l d ∙ sym (ap (λ (z : List ℕ). get_or z (p.from j) d) post.refusals);
      states = λ j l i g d.
          ap (λ (z : List Float). get_or z (6 * j + i) d) post'.states ∙ same_states (length ts) p rs rs' q b₀ b₁ j l i g d
          ∙ sym (ap (λ (z : List Float). get_or z (6 * p.from j + i) d) post.states);
      rounds = λ j l d. ap (λ (z : List ℕ). get_or z j d) post'.rounds ∙ same_rounds (length ts) p rs rs' q c₀ c₁ j l d ∙ sym (ap (λ (z : List ℕ). get_or z (p.from j) d) post.rounds);
    }
