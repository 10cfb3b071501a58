use Rattle.std.proofs.Common.{◌+◌, ◌||◌, ◌∙◌, drop, sym, ap}
use Rattle.std.specs.List.{list_any}
use Rattle.live_matches.specs.Entries.{all_of, is_open}
use Rattle.live_matches.proofs.Opens.{open_at}
use Rattle.live_matches.proofs.entries.Entries.is_open_ended.Goals as goal

pub returns-then-is_open : goal.returns-then-is_open
returns-then-is_open c =
    let g = c.args.self.now in
    let k = c.each.index in
    sym (c.each.invariant ∙ open_at g k c.text_len-len.result c.get.result c.is_open.result c.text_len-len.ensures c.get.ensures c.is_open.ensures
    ∙ ap (λ b. b || list_any (is_open g.len) (drop (k + 1) (all_of g))) c.if-is_open.true)

pub each-preserved : goal.each-preserved
each-preserved c =
    let g = c.args.self.now in
    let k = c.each.index in
    c.each.invariant ∙ open_at g k c.text_len-len.result c.get.result c.is_open.result c.text_len-len.ensures c.get.ensures c.is_open.ensures
    ∙ ap (λ b. b || list_any (is_open g.len) (drop (k + 1) (all_of g))) c.if-is_open.false
