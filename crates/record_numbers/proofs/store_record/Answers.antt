use mathlib.Core.Path.{sym, ◌∙◌}
use Rattle.record_numbers.specs.Numbers.{store_refusal, stored_over}
use Rattle.record_numbers.proofs.Small.{small}
use Rattle.record_numbers.proofs.store_record.Goals as goal

pub store-requires : goal.store-requires
store-requires c = λ e. small _ (sym c.legal.ensures ∙ e)

pub returns : goal.returns
unfolding store_refusal stored_over
returns c =
    let v = rw c.legal.ensures at c.store.ensures.value in
    record { value = v; fields_after = rw v at c.store.ensures.fields_after }
