use Rattle.std.proofs.Common.{◌<◌, ◌∙◌, ◌+◌, ap, refl, sym, subst, arith, length, vec_len, drop, length-drop}
use Rattle.std.specs.List.{AllByRecursion}
use Rattle.rc_pattern.specs.Meaning.{byte_range}
use Rattle.rc_utf8.specs.Bytes.{size}
use Rattle.rc_utf8.specs.Places.{IsDeep, sequences_of}
use Rattle.rc_utf8.proofs.PlaceLemmas.{tree_end, tree_goes, group_some, group_deep, head_deep, deep_drop, rest_is, lays_end, lays_goes, room_left}
use Rattle.rc_utf8.proofs.program.tree.+tree.Goals as goal

pub add_group-returns-then-len-level-clause-laid : goal.add_group-returns-then-len-level-clause-laid
add_group-returns-then-len-level-clause-laid t c =
    lays_end c.args.exits.count c.args.exits.tail c.args.exits.next _ _ _ _ _ _ c.args.ways.now.items c.add_way.new.ways.items c.args.blocks.now.items
    (tree_end c.args.level c.args.sequences.now c.index-sequences-0.result c.get-range.result c.requires.some c.index-sequences-0.is
    (omega (arith, c.if-len-level.true, c.len.ensures)) (c.get-range.ensures _))
    (c.in_ok-add_way.ensures ∙ rw c.rest_of-next.ensures refl)

pub add_group-add_tree-requires : goal.add_group-add_tree-requires
add_group-add_tree-requires t c =
    let head = head_deep c.args.level c.args.exits.count c.args.sequences.now c.index-sequences-0.result c.requires.deep c.requires.some c.index-sequences-0.is in
    let more : c.args.level + 1 < length c.index-sequences-0.result.ranges =
    omega (arith, head.0, c.if-len-level.false, c.len.ensures) in
    let some = group_some c.args.level c.group_len-count.result c.args.sequences.now c.index-sequences-0.result c.get-range.result c.requires.some
    c.index-sequences-0.is more (c.get-range.ensures _) c.group_len-count.ensures.others in
    let shape = ap size (tree_goes c.args.level c.args.exits.count c.group_len-count.result c.args.sequences.now (byte_range c.get-range.result) some
    c.requires.some c.requires.deep c.group_len-count.ensures.group c.group_len-count.ensures.others) in (
      omega (arith, c.decreases, head.0, head.1, more),
      (
        group_deep c.args.level c.args.exits.count c.group_len-count.result (byte_range c.get-range.result) c.args.sequences.now c.requires.deep
            c.group_len-count.ensures.group,
        (c.requires.tails, omega (arith, shape, c.requires.room)),
      ),
    )

pub add_group-returns-clause-some : goal.add_group-returns-clause-some
add_group-returns-clause-some t c =
    let head = head_deep c.args.level c.args.exits.count c.args.sequences.now c.index-sequences-0.result c.requires.deep c.requires.some c.index-sequences-0.is in
    group_some c.args.level c.group_len-count.result c.args.sequences.now c.index-sequences-0.result c.get-range.result c.requires.some
    c.index-sequences-0.is (omega (arith, head.0, c.if-len-level.false, c.len.ensures)) (c.get-range.ensures _)
    c.group_len-count.ensures.others

pub add_group-returns-clause-laid : goal.add_group-returns-clause-laid
add_group-returns-clause-laid t c =
    let head = head_deep c.args.level c.args.exits.count c.args.sequences.now c.index-sequences-0.result c.requires.deep c.requires.some c.index-sequences-0.is in
    let some = group_some c.args.level c.group_len-count.result c.args.sequences.now c.index-sequences-0.result c.get-range.result c.requires.some
    c.index-sequences-0.is (omega (arith, head.0, c.if-len-level.false, c.len.ensures)) (c.get-range.ensures _)
    c.group_len-count.ensures.others in
    lays_goes c.args.exits.count c.args.exits.tail c.args.exits.next _ _ (c.args.first + vec_len c.args.blocks.now) (c.args.first + vec_len c.add_tree.new.blocks)
    _ (c.args.first + vec_len c.append.new.places) _ _ _ c.args.ways.now.items c.add_way-2.new.ways.items c.in_ok-below.below.items c.args.blocks.now.items
    c.add_tree.new.blocks.items c.append.new.places.items
    (tree_goes c.args.level c.args.exits.count c.group_len-count.result c.args.sequences.now (byte_range c.get-range.result) some
    c.requires.some c.requires.deep c.group_len-count.ensures.group c.group_len-count.ensures.others)
    c.in_ok-below.ensures (ap (λ n. c.args.first + n) c.len-2.ensures) (omega (arith, c.in_ok-append.ensures.long)) c.in_ok-append.ensures.more c.in_ok-add_way-2.ensures

pub add_tree-add_group-requires : goal.add_tree-add_group-requires
add_tree-add_group-requires t c =
    let part = rest_is c.loop-at.at c.args.sequences.now in
    let some : 0 < length (drop c.loop-at.at c.args.sequences.now) = omega (arith, length-drop c.loop-at.at c.args.sequences.now, c.loop-at-test.true) in (
      omega (arith, c.decreases),
      (
        subst (λ xs. 0 < length xs) (sym part) some,
        (
          subst (λ xs. AllByRecursion (IsDeep c.args.level c.args.exits.count) (sequences_of xs)) (sym part)
              (deep_drop c.args.level c.args.exits.count c.loop-at.at c.args.sequences.now c.requires.deep),
          (
            c.requires.tails,
            room_left c.args.exits.count c.args.exits.tail c.args.exits.next c.args.level c.loop-at.at _ _ _ c.args.sequences.now _ _ _ _ _ part
                c.loop-at.invariant.laid c.requires.room,
          ),
        ),
      ),
    )
