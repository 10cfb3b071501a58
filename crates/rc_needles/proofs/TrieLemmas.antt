-- Needles as paths of nodes.
use Rattle.std.proofs.Common.{◌≡◌, ℕ, zero, suc, ◌+◌, ◌-◌, ◌<◌, ◌≤◌, List, [], ◌∷◌, length, take, drop, sym, ap, refl, ◌∙◌, arith, inl, inr, slice_get, slice_index, Some, length-drop, true}
use Rattle.std.proofs.lemmas.Bool.{cases_lt}
use Rattle.std.proofs.lemmas.List.{take_all, get_or-take, get_or-drop}
use Rattle.std.proofs.lemmas.Option.{slice_get_within, get_or_from_slice_get}
use Rattle.rc_needles.specs.declared.trie.Node.{Node}
use Rattle.rc_needles.specs.Needles.{stands_within}
use Rattle.rc_needles.specs.Tables.{Agrees, AreSome, numbered}
use Rattle.rc_needles.specs.Tries.{AreCarried, IsCarried, number_at, step, walk}
use Rattle.rc_needles.proofs.PairLemmas.{alike}
use Rattle.rc_needles.proofs.StandLemmas.{NoneBelow, stands_parts, false_if_not}

-- one byte more
walk_on : (nodes : List Node) (at : ℕ) (bytes : List ℕ) (i : ℕ) → i < length bytes →
    walk nodes at (take (suc i) bytes) ≡ step nodes (walk nodes at (take i bytes)) (slice_index bytes i)
walk_on nodes at [] i l = absurd (omega (arith, l))
walk_on nodes at (b ∷ bs) zero l = refl
walk_on nodes at (b ∷ bs) (suc i) l = walk_on nodes (step nodes at b) bs i (omega (arith, l))

pub walk_more : (nodes : List Node) (bytes : List ℕ) (i node b : ℕ) → i < length bytes → b ≡ slice_index bytes i → node ≡ walk nodes 1 (take i bytes) →
    step nodes node b ≡ walk nodes 1 (take (i + 1) bytes)
walk_more nodes bytes i node b l is here =
    let next : suc i ≡ i + 1 = omega arith in
    ap (λ x. step nodes x b) here ∙ ap (step nodes (walk nodes 1 (take i bytes))) is ∙ sym (walk_on nodes 1 bytes i l) ∙ ap (λ k. walk nodes 1 (take k bytes)) next

-- the node to which the first d bytes lead, and a number that is no greater than those on the way there
pub record IsWalked (nodes : List Node) (bytes : List ℕ) (d node best : ℕ) : Type 0 where
  pub node_is : node ≡ walk nodes 1 (take d bytes)
  pub least : (e : ℕ) → 0 < e → e ≤ d → best ≤ number_at nodes (walk nodes 1 (take e bytes))

pub walked_none : (nodes : List Node) (bytes : List ℕ) (best : ℕ) → IsWalked nodes bytes 0 1 best
walked_none nodes bytes best = record { node_is = refl; least = λ e some l. absurd (omega (arith, some, l)) }

pub walked_more : (nodes : List Node) (bytes : List ℕ) (d node best b more : ℕ) → IsWalked nodes bytes d node best → d < length bytes →
    b ≡ slice_index bytes d → more ≤ best → more ≤ number_at nodes (step nodes node b) → IsWalked nodes bytes (d + 1) (step nodes node b) more
walked_more nodes bytes d node best b more w l is low fits =
    let next = walk_more nodes bytes d node b l is w.node_is in
    record {
      node_is = next;
      least = λ e some le.
          elim (cases_lt d e) [
            | inl h ↦
                let here : d + 1 ≡ e = omega (arith, h, le) in
                let same : number_at nodes (step nodes node b) ≡ number_at nodes (walk nodes 1 (take e bytes)) = ap (number_at nodes) next ∙ ap (λ k. number_at nodes (walk nodes 1 (take k bytes))) here in
                omega (arith, fits, same)
            | inr g ↦ let before = w.least e some g in omega (arith, low, before)
          ];
    }

-- a needle that ended on the way
pub ended : (nodes : List Node) (bytes needle : List ℕ) (n d node best : ℕ) → IsWalked nodes bytes d node best → IsCarried nodes needle n → 0 < length needle →
    Agrees bytes needle 0 → length needle ≤ d → length needle ≤ length bytes → best ≤ n
ended nodes bytes needle n d node best w carried some agrees within fits =
    let same : take (length needle) bytes ≡ needle = alike bytes needle (length needle) fits (omega arith) agrees ∙ take_all (length needle) needle (omega arith) in
    let least = w.least (length needle) some within in
    let is = ap (λ xs. number_at nodes (walk nodes 1 xs)) same in
    omega (arith, least, is, carried.ends)

-- no other goes on where the next byte leads to no node
pub died : (nodes : List Node) (bytes needle : List ℕ) (n d node best b : ℕ) → IsWalked nodes bytes d node best → IsCarried nodes needle n → 0 < length needle →
    Agrees bytes needle 0 → d < length bytes → b ≡ slice_index bytes d → step nodes node b ≡ 0 → best ≤ n
died nodes bytes needle n d node best b w carried some agrees l is none =
    elim (cases_lt d (length needle)) [
      | inl h ↦
          let same : take (d + 1) bytes ≡ take (d + 1) needle = alike bytes needle (d + 1) (omega (arith, l)) (omega (arith, h)) agrees in
          absurd (carried.lives (d + 1) (omega (arith, h))
          (ap (walk nodes 1) (sym same) ∙ sym (walk_more nodes bytes d node b l is w.node_is) ∙ none))
      | inr g ↦ ended nodes bytes needle n d node best w carried some agrees g (omega (arith, g, l))
    ]

-- a needle that stands at a place agrees with what follows there
pub agrees_behind : (content needle : List ℕ) (hi i : ℕ) → stands_within content hi i needle ≡ true → Agrees (drop i content) needle 0
agrees_behind content needle hi i e j l m =
    let same = (stands_parts content hi i needle e).1 in
    let long : i + length needle - i ≡ length needle = omega arith in
    let zero_on : 0 + j ≡ j = omega arith in
    ap (slice_index (drop i content)) zero_on ∙ sym (get_or-take (i + length needle - i) (drop i content) j 0 (omega (arith, l, long)))
    ∙ ap (λ xs. slice_index xs j) same

-- a byte as it is read from what follows a place
pub read_behind : (content : List ℕ) (at place b : ℕ) → at ≤ place → slice_get content place ≡ Some b →
    (place - at < length (drop at content)) × (b ≡ slice_index (drop at content) (place - at))
read_behind content at place b low got =
    let within = slice_get_within content place b got in
    let there : at + (place - at) ≡ place = omega (arith, low) in (
      omega (arith, within, low, length-drop at content),
      sym (get_or-drop at content (place - at) 0 ∙ ap (slice_index content) there ∙ get_or_from_slice_get content place b 0 got),
    )

-- a needle that stands wholly below the end, where the walk is
pub ended_behind : (nodes : List Node) (content needle : List ℕ) (n at place end node best : ℕ) → IsWalked nodes (drop at content) (place - at) node best →
    IsCarried nodes needle n → 0 < length needle → stands_within content end at needle ≡ true → end ≤ place → at ≤ place → end ≤ length content → best ≤ n
ended_behind nodes content needle n at place end node best w carried some stands past low fits =
    let le = (stands_parts content end at needle stands).0 in
    ended nodes (drop at content) needle n (place - at) node best w carried some (agrees_behind content needle end at stands)
    (omega (arith, le, past, low)) (omega (arith, le, fits, length-drop at content))

-- below the least number no needle stands
pub none_below_least : (nodes : List Node) (needles : List (List ℕ)) (content : List ℕ) (hi i least r : ℕ) → AreCarried nodes needles → AreSome needles →
    ((needle : List ℕ) (n : ℕ) → IsCarried nodes needle n → 0 < length needle → stands_within content hi i needle ≡ true → least ≤ n) → r ≤ least →
    NoneBelow needles content hi i r
none_below_least nodes needles content hi i least r carried some told low k l m =
    false_if_not (stands_within content hi i (numbered needles k))
    (λ e. let le = told (numbered needles k) k (carried k m) (some k m) e in omega (arith, le, l, low))
