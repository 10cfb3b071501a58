-- Bytes that are typed over others are an edit of the text.
use Rattle.std.proofs.Common.{◌≡◌, ℕ, ◌+◌, ◌≤◌, List, ◌++◌, length, take, drop, sym, ap, ap₂, ◌∙◌, arith, length-append}
use Rattle.std.proofs.lemmas.List.{drop-drop, drop_at, drop_min, length-take-le, take-append-le, take_at}
use Rattle.live_matches.specs.Live.{IsEdited}
use Rattle.gap_buffer.specs.Edits.{Edited}
use Rattle.gap_buffer.specs.Typed.{edit_of, typed}

module _ (t : Edited) (n : ℕ) (bytes : List ℕ) (inside : t.caret ≤ length t.content) where
  abbrev c : List ℕ
  c = t.content

  abbrev a : ℕ
  a = t.caret

  sized : length (take a c) ≡ a
  sized = length-take-le a c inside

  long : length (take a c ++ bytes) ≡ a + length bytes
  long = let l = length-append (take a c) bytes in omega (arith, l, sized)

  typed_is : (typed t n bytes).content ≡ take a c ++ bytes ++ drop (a + n) c
  typed_is =
      let front = take_at (take a c ++ bytes) (drop a c) (a + length bytes) long in
      let back = drop_at (take a c ++ bytes) (drop a c) (a + length bytes) long in
      ap₂ (λ x y. x ++ y) front
      (sym (drop-drop n (a + length bytes) (take a c ++ bytes ++ drop a c)) ∙ ap (drop n) back ∙ drop-drop n a c)

  pub is_edited : IsEdited (edit_of t n bytes) c (typed t n bytes).content
  is_edited = record {
    order = omega (arith, inside);
    inside = omega arith;
    room = let l = ap length typed_is in let m = length-append (take a c ++ bytes) (drop (a + n) c) in omega (arith, l, m, long);
    front = ap (take a) typed_is ∙ take-append-le a (take a c ++ bytes) (drop (a + n) c) (omega (arith, long)) ∙ take_at (take a c) bytes a sized;
    back = ap (drop (a + length bytes)) typed_is ∙ drop_at (take a c ++ bytes) (drop (a + n) c) (a + length bytes) long ∙ sym (drop_min (a + n) c);
  }
