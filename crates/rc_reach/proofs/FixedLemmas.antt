-- A reach moves with its match.
use Rattle.std.proofs.Common.{◌≡◌, ◌+◌, ◌-◌, ◌≤◌, ◌++◌, length, take, drop, sym, ap, ◌∙◌, refl, arith, take-add, length-take, length-append}
use Rattle.std.specs.Option.{option_map}
use Rattle.std.proofs.Math.Seq.{drop-append_seam, take-append-add}
use Rattle.std.proofs.lemmas.List.{drop-take, length-take-le}
use Rattle.rc_reach.specs.Edits.{match_further}
use Rattle.rc_reach.specs.Edits.{edited}
use Rattle.rc_reach.specs.Fixed.{FixedLaw}
use Rattle.rc_reach.proofs.LiveLemmas.{length_new, same_rest, further_by, live_law}

pub fixed_law : FixedLaw
fixed_law kind s content bytes a b d r k order inside size far over fixed other same =
    let new = edited content a b bytes in
    let ln = length_new content bytes a b order inside in
    let cut = ap length same in
    let l1 = length-take (r + d) other in
    let l2 = length-take (r + d) new in
    let room : b + d ≤ length other = omega (arith, cut, l1, l2, ln, size, over) in
    let front : length (take b content) ≡ b = length-take-le b content inside in
    let old = take b content ++ drop (b + d) other in
    let rest : drop b old ≡ drop (b + d) other = ap (λ n. drop n old) (sym front) ∙ drop-append_seam (take b content) (drop (b + d) other) in
    let lo = length-append (take b content) (drop (b + d) other) in
    let near : b ≤ length old = omega (arith, lo, front) in
    let n : r + d ≡ (b + d) + (r - b) = omega (arith, over) in
    let m : r ≡ b + (r - b) = omega (arith, over) in
    let parts : take (r - b) (drop (b + d) other) ≡ take (r - b) (drop b content) =
    sym (ap (λ z. drop (b + d) (take z other)) n ∙ drop-take (b + d) (r - b) other) ∙ ap (drop (b + d)) same
    ∙ ap (λ z. drop (b + d) (take z new)) n ∙ drop-take (b + d) (r - b) new
    ∙ ap (take (r - b)) (ap (λ z. drop z new) (sym size) ∙ same_rest content bytes a b order inside) in
    let begins : take r old ≡ take r content =
    ap (λ z. take z old) (m ∙ ap (λ z. z + (r - b)) (sym front)) ∙ take-append-add (take b content) (drop (b + d) other) (r - b)
    ∙ ap (λ z. take b content ++ z) parts ∙ sym (ap (λ z. take z content) m ∙ take-add b (r - b) content) in
    further_by s old other b (b + d) d rest refl near room kind k far
    ∙ ap (option_map (match_further d)) (fixed old begins)
    ∙ sym (live_law.moved kind s content bytes a b d k order inside size far)
