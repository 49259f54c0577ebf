use mathlib.Core.Path.{sym, ◌∙◌}
use Rattle.record_numbers.specs.Numbers.{fields_refusal, fields_over}
use Rattle.record_numbers.proofs.Small.{small_form}
use Rattle.record_numbers.proofs.store_fields.Goals as goal

pub store-requires : goal.store-requires
store-requires c = λ e. small_form _ (sym c.in_form.ensures ∙ e)

pub returns : goal.returns
unfolding fields_refusal fields_over
returns c =
    let u = c.unjudged-r.ensures in
    let v = rw (c.in_form.ensures, u) at c.store.ensures.value in
    record { value = v; fields_after = rw (v, u) at c.store.ensures.fields_after }
