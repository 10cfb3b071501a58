use Rattle.std.proofs.Common.{◌≡◌, ◌<◌, arith, subst, get_or}
use Rattle.std.proofs.lemmas.List.{get_or_read}
use Rattle.rc_needles.specs.Tables.{IsNextWith, needles_in}
use Rattle.rc_needles.specs.Tries.{AreCarriedBy}
use Rattle.rc_needles.proofs.StandLemmas.{none_to_next}
use Rattle.rc_needles.proofs.TrieLemmas.{none_below_least}
use Rattle.rc_needles.proofs.literal.start_number.Goals as goal

pub returns-in_default-clause-none_below : goal.returns-in_default-clause-none_below
returns-in_default-clause-none_below g c =
    let table = c.args.table.now in
    let needles = needles_in table.needles.items in
    let b = c.args.byte in
    let head = c.index-head.result.now in
    let small : b < 256 = omega arith in
    let e : head ≡ get_or table.heads.items b 0 = get_or_read table.heads.items b head (omega (arith, table.head_count, small)) c.index-head.ensures 0 in
    let next : IsNextWith needles b 0 head = rw e (table.headed b small) in
    none_to_next needles c.args.input.now.content c.args.end c.args.at b 0 head table.some c.requires.here (λ k l m. absurd (omega (arith, l))) next

pub returns-then-least-count-clause-none_below : goal.returns-then-least-count-clause-none_below
returns-then-least-count-clause-none_below g c =
    let table = c.args.table.now in
    let needles = needles_in table.needles.items in
    let carried = subst (λ o. AreCarriedBy o needles) c.in-Some.is table.carried in
    none_below_least c.in-Some.trie.nodes.items needles c.args.input.now.content c.args.end c.args.at c.least_number-least.result c.len-count.result carried.0 table.some
    c.least_number-least.ensures.least (omega (arith, c.if-least-count.true))

pub returns-then-begins_with-clause-none_below : goal.returns-then-begins_with-clause-none_below
returns-then-begins_with-clause-none_below g c =
    let table = c.args.table.now in
    let needles = needles_in table.needles.items in
    let carried = subst (λ o. AreCarriedBy o needles) c.in-Some.is table.carried in
    none_below_least c.in-Some.trie.nodes.items needles c.args.input.now.content c.args.end c.args.at c.least_number-least.result c.least_number-least.result carried.0 table.some
    c.least_number-least.ensures.least (omega arith)

pub returns-clause-none_below : goal.returns-clause-none_below
returns-clause-none_below g c =
    let table = c.args.table.now in
    let needles = needles_in table.needles.items in
    let b = c.args.byte in
    let head = c.index-head.result.now in
    let small : b < 256 = omega arith in
    let e : head ≡ get_or table.heads.items b 0 = get_or_read table.heads.items b head (omega (arith, table.head_count, small)) c.index-head.ensures 0 in
    let next : IsNextWith needles b 0 head = rw e (table.headed b small) in
    none_to_next needles c.args.input.now.content c.args.end c.args.at b 0 head table.some c.requires.here (λ k l m. absurd (omega (arith, l))) next
