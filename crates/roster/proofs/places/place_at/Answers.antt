use mathlib.Core.Path.{refl}
use Rattle.tle.proofs.Meaning.{passed_up, gone_on_lem}
use Rattle.roster.proofs.Pairs.{unread, found_legal, is_pair, is_other}
use Rattle.roster.proofs.places.place_at.Goals as goal

pub returns-in_default : goal.returns-in_default
returns-in_default c =
    unread c.args.p.now c.requires _ (passed_up _ _ c.read_form-form.ensures c.in_default.is) _ refl

pub returns-in_default-reading : goal.returns-in_default-reading
returns-in_default-reading c =
    let read = gone_on_lem _ _ c.read_form-form.ensures c.in-Ok.is c.read_meaning-reading.ensures in
    unread c.args.p.now c.requires c.read_meaning-reading.result read _ c.in_default-reading.is

pub is_written-requires : goal.is_written-requires
is_written-requires c =
    let read = gone_on_lem _ _ c.read_form-form.ensures c.in-Ok.is c.read_meaning-reading.ensures in
    found_legal c.args.p.now c.requires c.read_meaning-reading.result read _ c.in-Ok-reading.is

pub returns-then-is_written : goal.returns-then-is_written
returns-then-is_written c =
    let read = gone_on_lem _ _ c.read_form-form.ensures c.in-Ok.is c.read_meaning-reading.ensures in
    is_pair c.args.p.now c.requires c.read_meaning-reading.result read _ c.in-Ok-reading.is
    c.is_written.result c.is_written.ensures c.if-is_written.true

pub returns : goal.returns
returns c =
    let read = gone_on_lem _ _ c.read_form-form.ensures c.in-Ok.is c.read_meaning-reading.ensures in
    is_other c.args.p.now c.requires c.read_meaning-reading.result read _ c.in-Ok-reading.is
    c.is_written.result c.is_written.ensures c.if-is_written.false
