use Rattle.requests.proofs.ask_apart.Goals as goal

pub returns : goal.returns
returns c = record { two_value = c.ask_each-two.ensures; held_value = c.unknown-held.ensures }
