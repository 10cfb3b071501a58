use Rattle.std.proofs.Common.{◌≡◌, ◌∙◌, ◌+◌, ◌<◌, true, false, true≢false, length, Some, ap, arith, subst, sym, slice_get}
use Rattle.rc_text.specs.Text.{Keeps}
use Rattle.rc_program.specs.Sought.{text_of}
use Rattle.rc_program.specs.Text.{Text, holds}
use Rattle.rc_needles.specs.Needles.{StandsWithin}
use Rattle.rc_needles.specs.Tables.{needles_in, numbered}
use Rattle.rc_needles.specs.Tries.{AreCarriedBy, number_at, step}
use Rattle.rc_needles.proofs.FindLemmas.{keeps_on}
use Rattle.rc_needles.proofs.RelationLemmas.{some_get}
use Rattle.rc_needles.proofs.StandLemmas.{needle_count}
use Rattle.rc_words.specs.Words.{IsEnded, between_in}
use Rattle.rc_words.proofs.EndingLemmas.{IsNode, Told, died, next_node, told_more, told_once}
use Rattle.rc_words.proofs.LookLemmas.{same_text}
use Rattle.rc_words.proofs.search.ending_from.Goals.{else-number-len-via-then-number-len+else-holds_at, else-number-len-via-else-number-len}
use Rattle.rc_words.proofs.search.ending_from.Goals as goal

pub returns-then-node-eq0-clause-may : goal.returns-then-node-eq0-clause-may
returns-then-node-eq0-clause-may g c =
    let s = c.args.input.now in
    let table = c.args.words.now.needles.searcher.table in
    let needles = needles_in table.needles.items in
    let carried = subst (λ o. AreCarriedBy o needles) c.in-Some.is table.carried in
    let i = c.loop-place.invariant in
    let same : c.loop-place.input.content ≡ s.content = i.keeps.content in
    let got : slice_get s.content c.loop-place.place ≡ Some c.in-Some-byte_at.byte = rw (← same) (sym c.in-Some-byte_at.ensures.value) in
    died (between_in c.args.words.now) (text_of c.args.terminator s) c.args.end c.args.at table.some c.in-Some.trie.nodes.items carried.0 c.loop-place.place
    c.loop-place.node c.in-Some-byte_at.byte i.low i.node got c.loop-place.best (sym c.step-node.ensures ∙ (omega (arith, c.if-node-eq0.true))) i.told

pub loop-place-preserved : goal.loop-place-preserved
loop-place-preserved g c =
    let s = c.args.input.now in
    let b = between_in c.args.words.now in
    let t : Text = text_of c.args.terminator s in
    let table = c.args.words.now.needles.searcher.table in
    let needles = needles_in table.needles.items in
    let nodes = c.in-Some.trie.nodes.items in
    let place = c.loop-place.place in
    let node = c.loop-place.node in
    let byte = c.in-Some-byte_at.byte in
    let carried = subst (λ o. AreCarriedBy o needles) c.in-Some.is table.carried in
    let i = c.loop-place.invariant in
    let same : c.loop-place.input.content ≡ s.content = i.keeps.content in
    let got : slice_get s.content place ≡ Some byte = rw (← same) (sym c.in-Some-byte_at.ensures.value) in
    let keeps : Keeps s c.byte_at.new.input = keeps_on s c.loop-place.input c.byte_at.new.input i.keeps c.byte_at.ensures.keeps in
    let on : IsNode nodes s.content c.args.at (place + 1) c.step-node.result =
    rw c.step-node.ensures (next_node b t c.args.end c.args.at table.some nodes carried.0 place node byte i.low i.node got) in
    let more : ¬ ((number_at nodes (step nodes node byte) < length needles) × (holds t b.behind (place + 1) ≡ true)) → Told b t c.args.end c.args.at (place + 1) c.loop-place.best =
    λ never. told_more b t c.args.end c.args.at table.some nodes carried.0 place node byte i.low i.node got c.loop-place.best never i.told in
    elim c.else-number-len.branch [
      | else-number-len-via-then-number-len+else-holds_at w ↦
          let not : holds t b.behind (place + 1) ≡ false =
          ap (λ (x : Text). holds x b.behind (place + 1)) (sym (same_text s c.byte_at.new.input c.args.terminator keeps)) ∙ sym w.holds_at.ensures.value ∙ w.if-holds_at.false in
          record {
            keeps = rw w.input-is (keeps_on s c.byte_at.new.input w.holds_at.new.input keeps w.holds_at.ensures.keeps);
            low = omega (arith, i.low);
            node = on;
            told = more (λ h. true≢false (sym h.1 ∙ not));
            ends = i.ends;
          }
      | else-number-len-via-else-number-len w ↦
          let is : number_at nodes (step nodes node byte) ≡ number_at nodes c.step-node.result = ap (number_at nodes) (sym c.step-node.ensures) in
          let count = needle_count table.needles.items in
          record {
            keeps = rw w.input-is keeps;
            low = omega (arith, i.low);
            node = on;
            told = more (λ h. let l = h.0 in omega (arith, l, is, count, w.if-number-len.false, c.number-number.ensures, c.len.ensures));
            ends = i.ends;
          }
    ]

pub loop-place-preserved-then-holds_at : goal.loop-place-preserved-then-holds_at
loop-place-preserved-then-holds_at g c =
    let s = c.args.input.now in
    let b = between_in c.args.words.now in
    let t : Text = text_of c.args.terminator s in
    let table = c.args.words.now.needles.searcher.table in
    let needles = needles_in table.needles.items in
    let nodes = c.in-Some.trie.nodes.items in
    let place = c.loop-place.place in
    let node = c.loop-place.node in
    let byte = c.in-Some-byte_at.byte in
    let carried = subst (λ o. AreCarriedBy o needles) c.in-Some.is table.carried in
    let i = c.loop-place.invariant in
    let same : c.loop-place.input.content ≡ s.content = i.keeps.content in
    let got : slice_get s.content place ≡ Some byte = rw (← same) (sym c.in-Some-byte_at.ensures.value) in
    let keeps : Keeps s c.byte_at.new.input = keeps_on s c.loop-place.input c.byte_at.new.input i.keeps c.byte_at.ensures.keeps in
    let later : Keeps s c.holds_at.new.input = keeps_on s c.byte_at.new.input c.holds_at.new.input keeps c.holds_at.ensures.keeps in
    let number = c.number-number.result in
    let count = needle_count table.needles.items in
    let below : number < length needles = omega (arith, count, c.if-number-len.true, c.len.ensures) in
    let needle = numbered needles number in
    let true_there = c.if-not-stands_to.false in
    let stands : StandsWithin s.content (place + 1) needle c.args.at =
    subst (λ x. StandsWithin x (place + 1) needle c.args.at) later.content (c.stands_to.ensures.stands true_there) in
    let long = c.stands_to.ensures.long true_there in
    let ended : IsEnded b t c.args.end c.args.at (place + 1) = record {
      number = number;
      needle = needle;
      is = some_get needles number below;
      stands = (omega (arith, long, c.loop-place-test.true), stands.1);
      end = long;
      behind = ap (λ (x : Text). holds x b.behind (place + 1)) (sym (same_text s c.byte_at.new.input c.args.terminator keeps)) ∙ sym c.holds_at.ensures.value ∙ c.if-holds_at.true;
    } in
    record {
      keeps = keeps_on s c.holds_at.new.input c.stands_to.new.input later c.stands_to.ensures.keeps;
      low = omega (arith, i.low);
      node = rw c.step-node.ensures (next_node b t c.args.end c.args.at table.some nodes carried.0 place node byte i.low i.node got);
      told = told_once b t c.args.end c.args.at table.some nodes carried.0 place node byte i.low i.node got
          (subst (λ e. Told b t c.args.end c.args.at place e) c.in-Nowhere.is i.told);
      ends = ended;
    }
