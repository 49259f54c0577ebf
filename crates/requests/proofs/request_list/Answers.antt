use mathlib.Core.Path.{sym, ◌∙◌}
use Rattle.requests.proofs.Listing.{rooms, refused, accepted}
use Rattle.requests.proofs.request_list.Goals as goal

pub returns-then-refusal-ne0 : goal.returns-then-refusal-ne0
returns-then-refusal-ne0 c = refused _ _ _ _ _ _ c.list_refusal-refusal.ensures c.if-refusal-ne0.true

pub fill-f-requires : goal.fill-f-requires
fill-f-requires c =
    let r = rooms _ _ _ _ (sym c.list_refusal-refusal.ensures ∙ c.if-refusal-ne0.false) in
    record { times_len_bound = r.0; times_in_bounds = r.1.0; times_in_bounds_2 = r.1.1.0; times_in_bounds_3 = r.1.1.1 }

pub returns : goal.returns
returns c =
    let f = c.fill-f.ensures in
    accepted _ _ _ _ _ _ _ _ _ _ _ c.list_refusal-refusal.ensures c.if-refusal-ne0.false f.strides f.held f.refusals f.states f.rounds
