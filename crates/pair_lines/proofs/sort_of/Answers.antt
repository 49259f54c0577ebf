use mathlib.Core.Path.{sym, ◌∙◌}
use borrow.Author.Tests.{eq-eqb, ne_eqb}
use Rattle.pair_lines.specs.Sort.{sort_of}
use Rattle.pair_lines.proofs.sort_of.Goals as goal

pub returns-then-all_blank : goal.returns-then-all_blank
unfolding sort_of
returns-then-all_blank c = simp (sym c.all_blank.ensures ∙ c.if-all_blank.true)

pub returns-then-begins : goal.returns-then-begins
unfolding sort_of
returns-then-begins c =
    let b = c.before in
    let i = b in
    simp (sym i.all_blank.ensures ∙ i.if-all_blank.false, sym b.begins.ensures ∙ c.if-begins.true)

pub returns-then-begins-2 : goal.returns-then-begins-2
unfolding sort_of
returns-then-begins-2 c =
    let b = c.before.before.before in
    let i = b in
    simp (
      sym i.all_blank.ensures ∙ i.if-all_blank.false,
      sym b.begins.ensures ∙ c.if-begins.false,
      sym c.begins-2.ensures ∙ c.if-begins-2.true,
    )

pub returns-then-line-eq69 : goal.returns-then-line-eq69
unfolding sort_of
returns-then-line-eq69 c =
    let t = c.before in
    let b = t.before.before.before in
    let i = b in
    simp (
      sym i.all_blank.ensures ∙ i.if-all_blank.false,
      sym b.begins.ensures ∙ t.if-begins.false,
      sym t.begins-2.ensures ∙ t.if-begins-2.false,
      eq-eqb _ _ c.if-line-eq69.true,
    )

pub returns : goal.returns
unfolding sort_of
returns c =
    let t = c.before in
    let b = t.before.before.before in
    let i = b in
    simp (
      sym i.all_blank.ensures ∙ i.if-all_blank.false,
      sym b.begins.ensures ∙ t.if-begins.false,
      sym t.begins-2.ensures ∙ t.if-begins-2.false,
      ne_eqb _ _ c.if-line-eq69.false,
    )
