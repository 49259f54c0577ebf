use mathlib.Core.Path.{◌≡◌, ap, ◌∙◌}
use Prim.Native.Nat.{◌-◌}
use lib.ListN.{length, take}
use borrow.Author.Rules.{rules}
use Rattle.tle.specs.Read.{read_of}
use Rattle.listing.specs.Listing.{reading_text}
use Rattle.listing.proofs.Lengths.{prints_same}
use Rattle.listing.proofs.Kept.{held_part}
use Rattle.listing.proofs.print_held.Goals as goal

pub returns : goal.returns
returns c =
    let a = c.args in
    let h1 : length a.line1 ≡ 70 = search rules in
    let h2 : length a.line2 ≡ 70 = search rules in
    let e1 = held_part c.kept_size-n1.result a.size1 a.line1 h1 c.kept_size-n1.ensures in
    let e2 = held_part c.kept_size-n2.result a.size2 a.line2 h2 c.kept_size-n2.ensures in
    prints_same (ap reading_text (ap (λ l. read_of l (take (c.kept_size-n2.result - 0) a.line2)) e1 ∙ ap (read_of (take a.size1 a.line1)) e2)) c.print_pair.ensures
