use Rattle.text.specs.Output.{places}
use borrow.Author.Rules.{rules}
use Rattle.decimals.proofs.Spelled.{digit_is}
use Rattle.decimals.proofs.nine_digits.Goals as goal

pub returns : goal.returns
unfolding places
returns c =
    let d8 = c in
    let d7 = d8 in
    let d6 = d7 in
    let d5 = d6 in
    let d4 = d5 in
    let d3 = d4 in
    let d2 = d3 in
    let d1 = d2 in
    simp (digit_is, c.digit-9.ensures, d8.digit-8.ensures, d7.digit-7.ensures, d6.digit-6.ensures, d5.digit-5.ensures, d4.digit-4.ensures, d3.digit-3.ensures, d2.digit-2.ensures, d1.digit.ensures)
