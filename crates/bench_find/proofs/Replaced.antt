-- Some bytes of a list are replaced by others.
use Rattle.std.proofs.Common.{◌≡◌, ℕ, ◌+◌, ◌≤◌, List, ◌++◌, length, take, drop, min, sym, ap, ap₂, ◌∙◌, arith, length-append}
use Rattle.std.proofs.lemmas.List.{drop_at, drop_min, length-take-le, take-append-le, take_at}
use Rattle.live_matches.specs.Live.{IsEdited}

module _ (c bytes : List ℕ) (a n : ℕ) (inside : a ≤ length c) where
  -- n bytes after a are gone
  abbrev cut : List ℕ
  cut = take a c ++ drop (a + n) c

  -- and others stand there
  abbrev pub put : List ℕ
  put = take a cut ++ bytes ++ drop a cut

  sized : length (take a c) ≡ a
  sized = length-take-le a c inside

  put_is : put ≡ take a c ++ bytes ++ drop (a + n) c
  put_is = ap₂ (λ x y. x ++ bytes ++ y) (take_at (take a c) (drop (a + n) c) a sized) (drop_at (take a c) (drop (a + n) c) a sized)

  long : length (take a c ++ bytes) ≡ a + length bytes
  long = let l = length-append (take a c) bytes in omega (arith, l, sized)

  front : take a put ≡ take a c
  front =
      ap (take a) put_is ∙ take-append-le a (take a c ++ bytes) (drop (a + n) c) (omega (arith, long))
      ∙ take_at (take a c) bytes a sized

  back : drop (a + length bytes) put ≡ drop (min (a + n) (length c)) c
  back =
      ap (drop (a + length bytes)) put_is ∙ drop_at (take a c ++ bytes) (drop (a + n) c) (a + length bytes) long
      ∙ sym (drop_min (a + n) c)

  room : a + length bytes ≤ length put
  room = let l = ap length put_is in let m = length-append (take a c ++ bytes) (drop (a + n) c) in omega (arith, l, m, long)

  pub is_edited : (e : ℕ) → e ≡ min (a + n) (length c) →
      IsEdited (record { replaced = record { start = a; end = e }; inserted = length bytes }) c put
  is_edited e end = record {
    order = omega (arith, end, inside);
    inside = omega (arith, end);
    room = room;
    front = front;
    back = back ∙ ap (λ k. drop k c) (sym end);
  }
