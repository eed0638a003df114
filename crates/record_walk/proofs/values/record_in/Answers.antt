-- What is found spells the record, and only that.
use Rattle.record_walk.specs.Versions.{today_in}
use Rattle.record_walk.proofs.ValueLemmas.{none_at, read_stands, some_at, only_one}
use Rattle.record_walk.proofs.values.record_in.Goals as goal

pub returns-in_err-value-clause-read : goal.returns-in_err-value-clause-read
returns-in_err-value-clause-read c = λ held a. let e = c.in_err-value.ensures.ok held a in absurd cc

pub returns-in_default-clause-ok : goal.returns-in_default-clause-ok
returns-in_default-clause-ok c = λ held a.
    none_at held c.args.key.now (rw c.in_default.is at (c.in_ok-value.ensures.none held a))

pub returns-in-Ok-clause-ok : goal.returns-in-Ok-clause-ok
returns-in-Ok-clause-ok c = λ held a.
    let is = rw c.in-Some.is at (c.in_ok-value.ensures.some held a) in
    some_at held c.args.key.now (today_in c.args.layout.now c.args.key.now c.in-Some.value.now) c.in-Ok.found is
    c.in-Ok.ensures.ok
    (only_one _ _ c.in-Ok.found c.in-Ok.ensures.only)

pub returns-in-Ok-clause-stands : goal.returns-in-Ok-clause-stands
returns-in-Ok-clause-stands c = λ held a.
    let is = rw c.in-Some.is at (c.in_ok-value.ensures.some held a) in
    read_stands held c.args.key.now (today_in c.args.layout.now c.args.key.now c.in-Some.value.now) c.in-Ok.found is
    c.in-Ok.ensures.ok

pub returns-in_default-clause-stands : goal.returns-in_default-clause-stands
returns-in_default-clause-stands c = λ held a. tt

pub returns-in-Err-clause-read : goal.returns-in-Err-clause-read
returns-in-Err-clause-read c = λ held a.
    let is = rw c.in-Some.is at (c.in_ok-value.ensures.some held a) in
    let there = a.spelled (today_in c.args.layout.now c.args.key.now c.in-Some.value.now) is in
    let e = c.in-Err.ensures.only there.0 there.1 in absurd cc
