use Rattle.std.proofs.Common.{◌+◌, ◌++◌, ◌∷◌, [], ◌∙◌, ap, sym, subst, arith}
use Rattle.std.specs.List.{AllByRecursion}
use Rattle.rc_program.proofs.ResultLemmas.{IfOk_to}
use Rattle.rc_utf8.specs.Bytes.{size, tree_of}
use Rattle.rc_utf8.specs.Places.{IsDeep, all_left_at, places_of, sequences_of, longest}
use Rattle.rc_utf8.proofs.AddLemmas.{class_deep, class_fits, whole_class}
use Rattle.rc_utf8.proofs.program.add_scalars.Goals as goal

pub add_tails-requires : goal.add_tails-requires
add_tails-requires c =
    let fits = class_fits c.args.ranges.now c.put_sequences.new.list.items c.longest.result c.in_ok-put_sequences.ensures
    (c.longest.ensures ∙ ap (λ xs. longest (sequences_of xs)) c.as_slice-sequences.ensures.value) in
    record { room = omega (arith, fits.0, c.len.ensures, c.requires.room) }

pub add_tree-requires-clause-deep : goal.add_tree-requires-clause-deep
add_tree-requires-clause-deep c =
    subst (λ xs. AllByRecursion (IsDeep 0 c.longest.result) (sequences_of xs)) (sym c.as_slice-sequences.ensures.value)
    (class_deep c.args.ranges.now c.put_sequences.new.list.items c.longest.result c.in_ok-put_sequences.ensures
    (c.longest.ensures ∙ ap (λ xs. longest (sequences_of xs)) c.as_slice-sequences.ensures.value))

pub add_tree-requires-clause-tails : goal.add_tree-requires-clause-tails
add_tree-requires-clause-tails c =
    let fits = class_fits c.args.ranges.now c.put_sequences.new.list.items c.longest.result c.in_ok-put_sequences.ensures
    (c.longest.ensures ∙ ap (λ xs. longest (sequences_of xs)) c.as_slice-sequences.ensures.value) in
    omega (arith, fits.0, c.len.ensures, c.requires.room)

pub add_tree-requires-clause-room : goal.add_tree-requires-clause-room
add_tree-requires-clause-room c =
    let fits = class_fits c.args.ranges.now c.put_sequences.new.list.items c.longest.result c.in_ok-put_sequences.ensures
    (c.longest.ensures ∙ ap (λ xs. longest (sequences_of xs)) c.as_slice-sequences.ensures.value) in
    let same = ap (λ xs. size (tree_of (all_left_at 0 (sequences_of xs)))) c.as_slice-sequences.ensures.value in
    omega (arith, fits.0, fits.1, same, c.in_ok-add_tails.ensures.long, c.requires.room)

pub returns-clause-long : goal.returns-clause-long
returns-clause-long c =
    IfOk_to c.append.result _ _ c.append.ensures.long
    (λ h. (whole_class c.args.first c.args.next (c.args.first + c.len.result) c.longest.result c.args.ranges.now c.as_slice-sequences.result.now c.in_ok-ways.ways.items
    c.args.blocks.now c.add_tails.new.blocks c.add_tree.new.blocks (ap sequences_of c.as_slice-sequences.ensures.value ∙ c.in_ok-put_sequences.ensures)
    (c.longest.ensures ∙ ap (λ xs. longest (sequences_of xs)) (c.as_slice-sequences.ensures.value ∙ sym c.as_slice-sequences.ensures.value)) (ap (λ n. c.args.first + n) c.len.ensures)
    c.in_ok-add_tails.ensures.long c.in_ok-add_tails.ensures.more c.in_ok-ways.ensures).long)

pub returns-clause-more : goal.returns-clause-more
returns-clause-more c =
    IfOk_to c.append.result _ _ c.append.ensures.more
    (λ h. h ∙ ap (λ q. places_of c.args.places.now.items ++ q ∷ [])
    (whole_class c.args.first c.args.next (c.args.first + c.len.result) c.longest.result c.args.ranges.now c.as_slice-sequences.result.now c.in_ok-ways.ways.items
    c.args.blocks.now c.add_tails.new.blocks c.add_tree.new.blocks (ap sequences_of c.as_slice-sequences.ensures.value ∙ c.in_ok-put_sequences.ensures)
    (c.longest.ensures ∙ ap (λ xs. longest (sequences_of xs)) (c.as_slice-sequences.ensures.value ∙ sym c.as_slice-sequences.ensures.value)) (ap (λ n. c.args.first + n) c.len.ensures)
    c.in_ok-add_tails.ensures.long c.in_ok-add_tails.ensures.more c.in_ok-ways.ensures).place)

pub returns-clause-behind : goal.returns-clause-behind
returns-clause-behind c =
    IfOk_to c.append.result _ _ c.append.ensures.more
    (λ h. (whole_class c.args.first c.args.next (c.args.first + c.len.result) c.longest.result c.args.ranges.now c.as_slice-sequences.result.now c.in_ok-ways.ways.items
    c.args.blocks.now c.add_tails.new.blocks c.add_tree.new.blocks (ap sequences_of c.as_slice-sequences.ensures.value ∙ c.in_ok-put_sequences.ensures)
    (c.longest.ensures ∙ ap (λ xs. longest (sequences_of xs)) (c.as_slice-sequences.ensures.value ∙ sym c.as_slice-sequences.ensures.value)) (ap (λ n. c.args.first + n) c.len.ensures)
    c.in_ok-add_tails.ensures.long c.in_ok-add_tails.ensures.more c.in_ok-ways.ensures).behind)
