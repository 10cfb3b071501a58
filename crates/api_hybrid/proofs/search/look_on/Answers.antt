use Rattle.std.proofs.Common.{◌≡◌, ◌+◌, rules}
use Rattle.rc_pikevm_search.specs.Moved.{IsMoved}
use Rattle.api_hybrid.specs.Faults.{IsFaultOf, IsNextFault}
use Rattle.api_hybrid.proofs.Nexts.{clears_later, clears_soon, err_as, fault_later, fault_soon}
use Rattle.api_hybrid.proofs.search.look_on.Goals as goal

pub returns-in-Err-clause-fault : goal.returns-in-Err-clause-fault
returns-in-Err-clause-fault g c =
    fault_soon c.args.re.now c.args.input.now c.args.cache.now c.find_by.new.cache c.in-Err.error c.in-Err.ensures.fault

pub returns-in-Err-clause-clears : goal.returns-in-Err-clause-clears
returns-in-Err-clause-clears g c =
    clears_soon c.args.re.now c.args.input.now c.args.cache.now c.find_by.new.cache c.find_by.ensures.clears

pub returns-else-not-is_again-clause-fault : goal.returns-else-not-is_again-clause-fault
returns-else-not-is_again-clause-fault g c =
    let re = c.args.re.now in
    let i = c.args.input.now in
    let j = c.advance_start.new.input in
    let first = c.args.cache.now in
    let met = c.find_by.new.cache in
    let last = c.find_by-in-Ok-Some.new.cache in
    let moved : IsMoved i j = search rules in
    let at : j.span.start ≡ i.span.start + 1 = search rules in
    err_as (IsFaultOf re j met last) (IsNextFault re i first last) c.find_by-in-Ok-Some.result
    (λ e h. fault_later re i j first met last e moved at c.requires.made c.find_by.ensures.cache c.find_by.ensures.grows h)
    c.find_by-in-Ok-Some.ensures.fault

pub returns-else-not-is_again-clause-clears : goal.returns-else-not-is_again-clause-clears
returns-else-not-is_again-clause-clears g c =
    let i = c.args.input.now in
    let j = c.advance_start.new.input in
    let moved : IsMoved i j = search rules in
    let at : j.span.start ≡ i.span.start + 1 = search rules in
    clears_later c.args.re.now i j c.args.cache.now c.find_by.new.cache c.find_by-in-Ok-Some.new.cache moved at c.requires.made c.find_by.ensures.cache
    c.find_by.ensures.grows c.find_by.ensures.clears c.find_by-in-Ok-Some.ensures.clears

pub returns-then-not-is_again-clause-clears : goal.returns-then-not-is_again-clause-clears
returns-then-not-is_again-clause-clears g c =
    clears_soon c.args.re.now c.args.input.now c.args.cache.now c.find_by.new.cache c.find_by.ensures.clears

pub returns-in-Ok-None-clause-clears : goal.returns-in-Ok-None-clause-clears
returns-in-Ok-None-clause-clears g c =
    clears_soon c.args.re.now c.args.input.now c.args.cache.now c.find_by.new.cache c.find_by.ensures.clears
