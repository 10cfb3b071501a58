-- Two piles as the chunks of a text: the second is turned over behind the first.
use Rattle.std.proofs.Common.{◌≡◌, ◌∙◌, ◌+◌, ◌-◌, ◌<◌, ◌≤◌, ℕ, List, [], ◌∷◌, ◌++◌, ap, append_assoc, arith, drop, get_or, length, length-append, refl, reverse, subst, sym, take}
use Rattle.std.specs.Borrow.{Bor}
use Rattle.std.proofs.lemmas.List.{drop-drop, drop_at, get_or-append_right, get_or-reverse, get_or_append_left, length-drop, length-reverse, reverse-append, reverse-reverse, take-append-drop, take-append-le, take_all, take_more}
use Rattle.rc_text.specs.Joined.{chunk_at, joined}
use Rattle.rc_text.proofs.Joins.{chunk_at-read, joined-take, no_chunk}
use Rattle.text_chunks.specs.Piles.{IsAt}
use Rattle.text_chunks.proofs.Counts.{bytes, bytes-append, bytes-parts, bytes-reverse}

-- what is left of a list that is turned over
pub drop-reverse : (k : ℕ) (xs : List (Bor (List ℕ))) → k ≤ length xs → drop k (reverse xs) ≡ reverse (take (length xs - k) xs)
drop-reverse k xs h =
    let n = length xs - k in
    ap (drop k) (ap reverse (sym (take-append-drop n xs)) ∙ reverse-append (take n xs) (drop n xs))
    ∙ drop_at (reverse (drop n xs)) (reverse (take n xs)) k (omega (arith, length-reverse (drop n xs), length-drop n xs, h))

-- turned over as a whole, the two are in each other's place
pub turn_over : (a b c d : List (Bor (List ℕ))) → a ++ reverse b ≡ c ++ reverse d → b ++ reverse a ≡ d ++ reverse c
turn_over a b c d e = sym (turned b a) ∙ ap reverse e ∙ turned d c
  where
    turned : (x y : List (Bor (List ℕ))) → reverse (y ++ reverse x) ≡ x ++ reverse y
    turned x y = reverse-append y (reverse x) ∙ ap (λ l. l ++ reverse y) (reverse-reverse x)

-- the top of a pile
pub top_is : (f : List (Bor (List ℕ))) (n : ℕ) (c : Bor (List ℕ)) → n + 1 ≡ length f → c ≡ get_or f n c → f ≡ take n f ++ c ∷ []
top_is f n c size is =
    sym (take_all (n + 1) f (omega (arith, size))) ∙ take_more f n c (omega (arith, size)) ∙ ap (λ x. take n f ++ x ∷ []) (sym is)

-- it goes to that of the other
pub top_moves : (t f : List (Bor (List ℕ))) (n : ℕ) (c : Bor (List ℕ)) → n + 1 ≡ length f → c ≡ get_or f n c →
    (t ++ c ∷ []) ++ reverse (take n f) ≡ t ++ reverse f
top_moves t f n c size is =
    append_assoc t (c ∷ []) (reverse (take n f))
    ∙ ap (λ l. t ++ l) (sym (reverse-append (take n f) (c ∷ [])) ∙ ap reverse (sym (top_is f n c size is)))

module _ (b a : List (Bor (List ℕ))) where
  pub length-turned : length (b ++ reverse a) ≡ length b + length a
  length-turned = length-append b (reverse a) ∙ ap (λ n. length b + n) (length-reverse a)

  pub bytes-turned : bytes (b ++ reverse a) ≡ bytes b + bytes a
  bytes-turned = bytes-append b (reverse a) ∙ ap (λ n. bytes b + n) (bytes-reverse a)

  pub front_chunk : (i : ℕ) → i < length b → chunk_at (b ++ reverse a) i ≡ chunk_at b i
  front_chunk i h =
      sym (chunk_at-read (b ++ reverse a) i (omega (arith, h, length-turned)))
      ∙ ap (λ c. c.now) (get_or_append_left b (reverse a) no_chunk i h) ∙ chunk_at-read b i h

  pub back_chunk : (i : ℕ) → length b ≤ i → i < length (b ++ reverse a) → chunk_at (b ++ reverse a) i ≡ chunk_at a (length a - 1 - (i - length b))
  back_chunk i past h =
      sym (chunk_at-read (b ++ reverse a) i h)
      ∙ ap (λ c. c.now) (get_or-append_right b (reverse a) (length b) i no_chunk refl past
      ∙ get_or-reverse a (i - length b) no_chunk (omega (arith, h, past, length-turned)))
      ∙ chunk_at-read a (length a - 1 - (i - length b)) (omega (arith, h, past, length-turned))

  pub front_begin : (i : ℕ) → i ≤ length b → bytes (take i (b ++ reverse a)) ≡ bytes (take i b)
  front_begin i h = ap bytes (take-append-le i b (reverse a) h)

  pub back_drop : (m : ℕ) → m ≤ length a → drop (length b + m) (b ++ reverse a) ≡ reverse (take (length a - m) a)
  back_drop m h =
      sym (drop-drop m (length b) (b ++ reverse a)) ∙ ap (drop m) (drop_at b (reverse a) (length b) refl) ∙ drop-reverse m a h

  pub back_begin : (i : ℕ) → length b ≤ i → i ≤ length (b ++ reverse a) →
      bytes (take i (b ++ reverse a)) + bytes (take (length a - (i - length b)) a) ≡ bytes (b ++ reverse a)
  back_begin i past h =
      let m = i - length b in
      let at : length b + m ≡ i = omega (arith, past) in
      let few : m ≤ length a = omega (arith, past, h, length-turned) in
      let rest : bytes (drop i (b ++ reverse a)) ≡ bytes (take (length a - m) a) =
      ap (λ k. bytes (drop k (b ++ reverse a))) (sym at) ∙ ap bytes (back_drop m few) ∙ bytes-reverse (take (length a - m) a) in
      omega (arith, bytes-parts i (b ++ reverse a), rest)

  -- where a byte of the first pile stands in the text
  pub front_at : (at k : ℕ) → IsAt b at k → IsAt (b ++ reverse a) at k
  front_at at k h =
      let begin = front_begin k (omega (arith, h.within)) in
      let size = ap length (front_chunk k h.within) in
      record {
        within = omega (arith, h.within, length-turned);
        low = omega (arith, begin, h.low);
        high = omega (arith, begin, size, h.high);
      }

  -- where a byte of the second one does
  pub back_at : (at k : ℕ) → at < bytes (b ++ reverse a) → IsAt a (bytes (b ++ reverse a) - 1 - at) k →
      IsAt (b ++ reverse a) at (length b + (length a - 1 - k))
  back_at at k inside h =
      let i = length b + (length a - 1 - k) in
      let all = length-turned in
      let within : i < length (b ++ reverse a) = omega (arith, h.within, all) in
      let past : length b ≤ i = omega arith in
      let next : length a - (i - length b) ≡ k + 1 = omega (arith, h.within) in
      let here : length a - 1 - (i - length b) ≡ k = omega (arith, h.within) in
      let begin : bytes (take i (b ++ reverse a)) + bytes (take (k + 1) a) ≡ bytes (b ++ reverse a) =
      subst (λ n. bytes (take i (b ++ reverse a)) + bytes (take n a) ≡ bytes (b ++ reverse a)) next (back_begin i past (omega (arith, within))) in
      let size : length (chunk_at (b ++ reverse a) i) ≡ length (chunk_at a k) = ap length (back_chunk i past within ∙ ap (chunk_at a) here) in
      let one : bytes (take (k + 1) a) ≡ bytes (take k a) + length (chunk_at a k) = ap length (joined-take a k) ∙ length-append (joined (take k a)) (chunk_at a k) in
      record {
        within = within;
        low = omega (arith, begin, one, h.low, h.high, inside);
        high = omega (arith, begin, one, size, h.low, h.high, inside);
      }
