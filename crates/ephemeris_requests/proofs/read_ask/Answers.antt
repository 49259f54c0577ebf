use mathlib.Core.Path.{sym, ap, ◌∙◌}
use Rattle.request_line.specs.declared.Request as rs
use Rattle.ephemeris_requests.specs.Requests.{asked, ask_of}
use Rattle.ephemeris_requests.proofs.read_ask.Goals as goal

pub returns-in-One : goal.returns-in-One
unfolding ask_of
returns-in-One c =
    (sym (ap (λ (r : rs.Request). asked r c.args.line.now) (sym c.read_request.ensures.0 ∙ c.in-One.is)), c.read_request.ensures.1)

pub returns-in-List : goal.returns-in-List
unfolding ask_of
returns-in-List c =
    (sym (ap (λ (r : rs.Request). asked r c.args.line.now) (sym c.read_request.ensures.0 ∙ c.in-List.is)), c.read_request.ensures.1)

pub returns-in-TooMany : goal.returns-in-TooMany
unfolding ask_of
returns-in-TooMany c =
    (sym (ap (λ (r : rs.Request). asked r c.args.line.now) (sym c.read_request.ensures.0 ∙ c.in-TooMany.is)), c.read_request.ensures.1)

pub returns-in-Malformed : goal.returns-in-Malformed
unfolding ask_of
returns-in-Malformed c =
    (c.read_other.ensures ∙ sym (ap (λ (r : rs.Request). asked r c.args.line.now) (sym c.read_request.ensures.0 ∙ c.in-Malformed.is)), c.read_request.ensures.1)
