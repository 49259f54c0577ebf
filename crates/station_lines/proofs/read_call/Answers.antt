use Rattle.station_lines.proofs.read_call.Goals as goal

pub returns : goal.returns
returns c =
    λ h. c.next_line-next-4.ensures.marked (c.next_line-next-3.ensures.marked (c.next_line-next-2.ensures.marked (c.next_line-next.ensures.marked h)))
