use mathlib.Core.Path.{ap, ◌∙◌}
use native.Mathlib.Omega.{arith}
use Rattle.text.proofs.Pieces.{both, same, length_put}
use Rattle.text.specs.Output.{bytes}
use lib.IntN.{◌-ℤ◌}
use Rattle.changes.specs.Entry.{sameℤ}
use Prim.Native.Nat.{ℕ}
use lib.IntN.{ℤ}
use mir.Syntax.{w64}
use mir.Val.{of_z, to_z}
use Rattle.text.specs.Output.{Put, signed}
use Rattle.text.proofs.Signed.{steady}
use Rattle.roster.specs.Records.{instant_of}
use Rattle.field_lines.specs.Lines.{unless_line, count_text, shape_text}
use Rattle.tle_writer.proofs.Facts.{facts}
use Rattle.field_lines.proofs.put_shape.Tie as tie
use Rattle.field_lines.proofs.put_shape.Lts as lts
use Rattle.field_lines.proofs.put_shape.Reads as reads
use Rattle.field_lines.proofs.put_shape.Goals as goal

all : (c : (lts.After-slice_known7 tie.the-claims reads.Pre reads.Post)) → let s = c.args in
    Put s.out.now s.at (shape_text s.n s.a s.b) c.put_scaleds.new.out c.put_scaleds.result
unfolding shape_text
all c =
    let s = c.args in
    both c.put_classes-p.ensures
    (both c.put_designators-p.ensures
    (both (same (ap (λ (k : ℕ). count_text s.n (bytes "epoch") k c.micros_of-until.result) c.micros_of-since.ensures ∙ ap (count_text s.n (bytes "epoch") (instant_of s.a)) c.micros_of-until.ensures) c.put_count-p.ensures)
    (both (same (ap (λ (k : ℤ). unless_line (sameℤ k (to_z w64 (of_z w64 s.b.ndot))) s.n (bytes "ndot") (signed (to_z w64 (of_z w64 s.b.ndot) -ℤ k))) (steady s.a.ndot (record { sfits = omega (arith, c.struct_told-1.given) }))
    ∙ ap (λ (k : ℤ). unless_line (sameℤ s.a.ndot k) s.n (bytes "ndot") (signed (k -ℤ s.a.ndot))) (steady s.b.ndot (record { sfits = omega (arith, c.struct_told-2-1.given) }))) c.put_signed_count-p.ensures)
    (both c.put_scaleds-p.ensures
    c.put_scaleds.ensures))))

pub put_signed_count-p-requires : goal.put_signed_count-p-requires
put_signed_count-p-requires c =
    rw (steady c.args.a.ndot (record { sfits = omega (arith, c.struct_told-1.given) }), steady c.args.b.ndot (record { sfits = omega (arith, c.struct_told-2-1.given) }))
    ((facts c.args.a c.requires.0).ndot, (facts c.args.b c.requires.1).ndot)

pub shape_of-out : goal.shape_of-out
shape_of-out c = length_put (all c.before)

pub returns : goal.returns
returns c = all c.before
