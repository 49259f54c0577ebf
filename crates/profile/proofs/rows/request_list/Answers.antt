use mathlib.Core.Path.{sym, ◌∙◌}
use Rattle.requests.proofs.Listing.{rooms}
use Rattle.profile.proofs.Filling.{list_refused, list_answered}
use Rattle.profile.proofs.rows.request_list.Goals as goal

pub returns-then-refusal-ne0 : goal.returns-then-refusal-ne0
returns-then-refusal-ne0 c = list_refused _ _ _ _ _ _ c.list_refusal-refusal.ensures c.if-refusal-ne0.true

pub fill-taken-requires : goal.fill-taken-requires
fill-taken-requires c =
    let rest = rooms _ _ _ _ (sym c.list_refusal-refusal.ensures ∙ c.if-refusal-ne0.false) in
    record { times_len_bound = rest.0; times_in_bounds = rest.1.0; times_in_bounds_2 = rest.1.1.0; times_in_bounds_3 = rest.1.1.1 }

pub returns : goal.returns
returns c =
    list_answered _ _ _ _ _ _ c.list_refusal-refusal.ensures _ _ _ _ c.if-refusal-ne0.false c.fill-taken.ensures
