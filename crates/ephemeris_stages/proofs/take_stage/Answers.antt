use mathlib.Core.Path.{refl}
use native.Mathlib.Omega.{arith}
use Rattle.text.proofs.Pieces.{none}
use Rattle.ephemeris_stages.specs.Stages.{kept_of, said_of, numbers_of, marks_of, stage_of}
use Rattle.ephemeris_stages.proofs.take_stage.Goals as goal

pub returns-in-Start : goal.returns-in-Start
unfolding kept_of said_of numbers_of marks_of stage_of
returns-in-Start c =
    let k = c.well_formed in
    rw c.in-Start.is record {
      kept = c.begin-stage.ensures.kept;
      keeps = c.begin-stage.ensures.keeps;
      says = none (omega arith) (omega arith);
      numbers = refl;
      marks = refl;
      behind = c.begin-stage.ensures.behind;
    }

pub returns-in-First : goal.returns-in-First
unfolding kept_of said_of numbers_of marks_of stage_of
returns-in-First c =
    let k = c.well_formed in
    rw c.in-First.is record {
      kept = c.put_bytes.result;
      keeps = c.put_bytes.ensures;
      says = none (omega arith) (omega arith);
      numbers = refl;
      marks = refl;
      behind = refl;
    }

pub returns-in-Second : goal.returns-in-Second
unfolding kept_of said_of numbers_of marks_of stage_of
returns-in-Second c =
    let k = c.well_formed in
    rw c.in-Second.is record {
      kept = 0;
      keeps = none (omega arith) (omega arith);
      says = c.open_pair.ensures.says;
      numbers = c.open_pair.ensures.numbers;
      marks = c.open_pair.ensures.marks;
      behind = c.open_pair.ensures.behind;
    }

pub returns-in-Asking : goal.returns-in-Asking
unfolding kept_of said_of numbers_of marks_of stage_of
returns-in-Asking c =
    let k = c.well_formed in
    rw c.in-Asking.is record {
      kept = 0;
      keeps = none (omega arith) (omega arith);
      says = none (omega arith) (omega arith);
      numbers = refl;
      marks = refl;
      behind = refl;
    }

pub returns-in-Over : goal.returns-in-Over
unfolding kept_of said_of numbers_of marks_of stage_of
returns-in-Over c =
    let k = c.well_formed in
    rw c.in-Over.is record {
      kept = 0;
      keeps = none (omega arith) (omega arith);
      says = none (omega arith) (omega arith);
      numbers = refl;
      marks = refl;
      behind = refl;
    }
