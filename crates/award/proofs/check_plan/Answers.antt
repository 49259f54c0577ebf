use Rattle.award.specs.Plan.{total_of}
use Rattle.award.proofs.Stages.{many_offers, many_entries, all_sound, all_exist, at_27, at_28, at_29, at_30, at_31, accepted}
use Rattle.award.proofs.check_plan.Goals as goal

pub returns-then-n-gt256 : goal.returns-then-n-gt256
returns-then-n-gt256 c =
    let a = c.args in
    many_offers a.offers.now a.entries.now a.total a.turnaround c.if-n-gt256.true

pub returns-then-m-gt256 : goal.returns-then-m-gt256
returns-then-m-gt256 c =
    let a = c.args in
    many_entries a.offers.now a.entries.now a.total a.turnaround c.if-m-gt256.true

pub returns-then-k-n : goal.returns-then-k-n
returns-then-k-n c =
    let a = c.args in
    at_27 a.offers.now a.entries.now a.total a.turnaround c.if-n-gt256.false c.if-m-gt256.false c.first_unsound-k.ensures c.if-k-n.true

pub returns-then-i-m : goal.returns-then-i-m
returns-then-i-m c =
    let a = c.args in
    at_28 a.offers.now a.entries.now a.total a.turnaround c.if-n-gt256.false c.if-m-gt256.false c.first_unsound-k.ensures
    c.if-k-n.false c.first_missing-i.ensures c.if-i-m.true

pub returns-then-i-m-2 : goal.returns-then-i-m-2
returns-then-i-m-2 c =
    let a = c.args in
    at_29 a.offers.now a.entries.now a.total a.turnaround c.if-n-gt256.false c.if-m-gt256.false c.first_unsound-k.ensures
    c.if-k-n.false c.first_missing-i.ensures c.if-i-m.false c.first_repeated-i.ensures c.if-i-m-2.true

pub first_clash-i-requires : goal.first_clash-i-requires
first_clash-i-requires c =
    let a = c.args in
    all_exist a.offers.now a.entries.now a.total a.turnaround c.first_missing-i.ensures c.if-i-m.false

pub returns-then-i-m-3 : goal.returns-then-i-m-3
returns-then-i-m-3 c =
    let a = c.args in
    at_30 a.offers.now a.entries.now a.total a.turnaround c.if-n-gt256.false c.if-m-gt256.false c.first_unsound-k.ensures
    c.if-k-n.false c.first_missing-i.ensures c.if-i-m.false c.first_repeated-i.ensures c.if-i-m-2.false c.first_clash-i.ensures c.if-i-m-3.true

pub total_of-requires : goal.total_of-requires
total_of-requires c =
    let a = c.args in record { entries_len_bound = c.if-m-gt256.false; offers_value = all_sound a.offers.now a.entries.now a.total a.turnaround c.first_unsound-k.ensures c.if-k-n.false; entries_value = all_exist a.offers.now a.entries.now a.total a.turnaround c.first_missing-i.ensures c.if-i-m.false }

pub returns-then-total_of-total : goal.returns-then-total_of-total
unfolding total_of
returns-then-total_of-total c =
    let a = c.args in
    at_31 a.offers.now a.entries.now a.total a.turnaround c.if-n-gt256.false c.if-m-gt256.false c.first_unsound-k.ensures
    c.if-k-n.false c.first_missing-i.ensures c.if-i-m.false c.first_repeated-i.ensures c.if-i-m-2.false c.first_clash-i.ensures c.if-i-m-3.false
    c.total_of.ensures c.if-total_of-total.true

pub returns : goal.returns
unfolding total_of
returns c =
    let a = c.args in
    accepted a.offers.now a.entries.now a.total a.turnaround c.if-n-gt256.false c.if-m-gt256.false c.first_unsound-k.ensures
    c.if-k-n.false c.first_missing-i.ensures c.if-i-m.false c.first_repeated-i.ensures c.if-i-m-2.false c.first_clash-i.ensures c.if-i-m-3.false
    c.total_of.ensures c.if-total_of-total.false
