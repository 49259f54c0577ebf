-- The changes between two buffers that are rosters.
use mathlib.Core.Path.{ap, sym, ◌∙◌}
use Rattle.roster.specs.Roster.{bytes_of}
use Rattle.roster.proofs.Decode.{roster_sound}
use Rattle.changes.specs.Claims.{AppliedBuffer}
use Rattle.changes.proofs.Merge.{applied_is_second}

pub applied_buffer : AppliedBuffer
applied_buffer a b xs bs e f =
    let A = roster_sound a xs e in
    let B = roster_sound b bs f in
    ap bytes_of (applied_is_second xs bs A.rising B.rising) ∙ sym B.bytes
