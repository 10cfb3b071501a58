use Rattle.std.proofs.Common.{◌≡◌, ◌∙◌, ◌+◌, ◌-◌, ◌<◌, ◌≤◌, ◌^◌, ◌++◌, ap, ap₂, arith, length, reverse, rules}
use Rattle.text_chunks.specs.Edits.{spliced}
use Rattle.text_chunks.proofs.Counts.{bytes, bytes-more}
use Rattle.text_chunks.proofs.Edited.{bytes-spliced, edited_is}
use Rattle.text_chunks.proofs.Turned.{bytes-turned, length-turned}
use Rattle.text_chunks.proofs.text.TextChunks.edit.Goals as goal

pub overflow_add-kept : goal.overflow_add-kept
overflow_add-kept c =
    let order : c.args.start ≤ c.args.end = omega (arith, c.if-start-end.false) in
    omega (
      arith,
      bytes-more c.args.start c.args.end c.args.self.now order,
      c.begin_of.ensures.value,
      c.begin_of-2.ensures.value,
      c.begin_of-2.ensures.within,
      c.len.ensures.value,
      c.len.ensures.small,
    )

pub returns-then-kept-bytes_in-clause-fault : goal.returns-then-kept-bytes_in-clause-fault
returns-then-kept-bytes_in-clause-fault c =
    let v = c.args.self.now in
    let order : c.args.start ≤ c.args.end = omega (arith, c.if-start-end.false) in
    let within : c.args.end ≤ length v = search rules in
    let long : 2 ^ 64 ≤ bytes (spliced v c.args.start c.args.end c.args.chunks.now) + 1 =
    omega (
      arith,
      bytes-spliced v c.args.chunks.now c.args.start c.args.end,
      c.begin_of.ensures.value,
      c.begin_of-2.ensures.value,
      c.begin_of-2.ensures.within,
      c.len.ensures.value,
      c.bytes_in.ensures.sum,
      c.if-kept-bytes_in.true,
    ) in
    ((order, within), long)

pub move_gap-requires-clause-fits : goal.move_gap-requires-clause-fits
move_gap-requires-clause-fits c = omega (arith, bytes-turned c.self.inside.before c.self.inside.after, c.self.invariant)

pub invariant_of-self-2 : goal.invariant_of-self-2
invariant_of-self-2 c =
    let v = c.args.self.now in
    let start = c.args.start in
    let end = c.args.end in
    let xs = c.args.chunks.now in
    let b = c.move_gap.new.before in
    let a = c.move_gap.new.after in
    let order : start ≤ end = omega (arith, c.if-start-end.false) in
    let within : end ≤ length v = search rules in
    let moved : b ++ reverse a ≡ v = c.in_ok-move_gap.ensures.same ∙ c.self.view_is in
    let at : length b ≡ start = c.in_ok-move_gap.ensures.there in
    let few : end - start ≤ length a = omega (arith, ap length moved, length-turned b a, at, within, order) in
    let is : c.replace_next.new.before ++ reverse c.replace_next.new.after ≡ spliced v start end xs =
    ap₂ (λ x y. x ++ reverse y) c.in_ok-replace_next.ensures.before c.in_ok-replace_next.ensures.after ∙ edited_is b a xs v start end moved at order few in
    let fits : bytes (c.replace_next.new.before ++ reverse c.replace_next.new.after) + 1 < 2 ^ 64 =
    omega (
      arith,
      ap bytes is,
      bytes-spliced v xs start end,
      c.begin_of.ensures.value,
      c.begin_of-2.ensures.value,
      c.begin_of-2.ensures.within,
      c.len.ensures.value,
      c.bytes_in.ensures.sum,
      c.if-kept-bytes_in.false,
    ) in
    fits

pub returns-clause-edited : goal.returns-clause-edited
returns-clause-edited c =
    let v = c.args.self.now in
    let start = c.args.start in
    let end = c.args.end in
    let xs = c.args.chunks.now in
    let b = c.move_gap.new.before in
    let a = c.move_gap.new.after in
    let order : start ≤ end = omega (arith, c.if-start-end.false) in
    let within : end ≤ length v = search rules in
    let moved : b ++ reverse a ≡ v = c.in_ok-move_gap.ensures.same ∙ c.self.view_is in
    let at : length b ≡ start = c.in_ok-move_gap.ensures.there in
    let few : end - start ≤ length a = omega (arith, ap length moved, length-turned b a, at, within, order) in
    let is : c.replace_next.new.before ++ reverse c.replace_next.new.after ≡ spliced v start end xs =
    ap₂ (λ x y. x ++ reverse y) c.in_ok-replace_next.ensures.before c.in_ok-replace_next.ensures.after ∙ edited_is b a xs v start end moved at order few in
    record {
      within = (order, within);
      is = is;
      fits = omega (
        arith,
        ap bytes is,
        bytes-spliced v xs start end,
        c.begin_of.ensures.value,
        c.begin_of-2.ensures.value,
        c.begin_of-2.ensures.within,
        c.len.ensures.value,
        c.bytes_in.ensures.sum,
        c.if-kept-bytes_in.false,
      );
    }
