-- What stands in a span stands there still where the text has more before it.
use Rattle.std.proofs.Common.{◌≡◌, ◌∙◌, ◌&&◌, Bool, true, false, true≢false, refl, ◌+◌, ◌<◌, ◌≤◌, ℕ, suc, [], ◌∷◌, ◌++◌, Some, ap, arith, drop, get_or, length, length-append, min, max, subst, sym, take, inl, inr}
use Rattle.std.proofs.lemmas.List.{drop-drop, get_or-drop, get_or-take, length-drop, length-take}
use Rattle.std.proofs.lemmas.Bool.{and_parts}
use Rattle.std.proofs.lemmas.Option.{get_or_from_slice_get, slice_get-get_or, slice_get_within}
use Rattle.rc_tokens.specs.Text.{Characters}
use Rattle.rc_parser.specs.declared.config.Grammar.{Grammar}
use Rattle.rc_parser.specs.declared.config.Grammar.TheVariants.{Stated}
use Rattle.rc_explain.specs.Shown.{AreAt, Begins, Has, HasShape, Is, IsNamed, IsNoneOf, IsOne, IsOther, IsSuch, Shape, Shows, Stands, begins, either, exactly, named, none_of, nothing, one, other, read, shape_of, such}
use Rattle.rc_explain.specs.declared.faults.FaultKind.{FaultKind}
use Rattle.rc_explain.specs.declared.faults.FaultKind.TheVariants.{NestedTooDeeply}

pub stands_shifted : (n : ℕ) (t : Characters) (s c : ℕ) → Stands (drop n t) s c → Stands t (s + n) c
stands_shifted n t s c h =
    let inside = slice_get_within (drop n t) s c h in
    let long = length-drop n t in
    let order : n + s ≡ s + n = omega arith in
    subst (λ k. Stands t k c) order
    (slice_get-get_or t (n + s) c (omega (arith, inside, long)) ∙ ap Some (sym (get_or-drop n t s c) ∙ get_or_from_slice_get (drop n t) s c c h))

pub stands_dropped : (n : ℕ) (t : Characters) (c : ℕ) → Stands t n c → Stands (drop n t) 0 c
stands_dropped n t c h =
    let inside = slice_get_within t n c h in
    let long = length-drop n t in
    let same : n + 0 ≡ n = omega arith in
    slice_get-get_or (drop n t) 0 c (omega (arith, inside, long))
    ∙ ap Some (get_or-drop n t 0 c ∙ ap (λ k. get_or t k c) same ∙ get_or_from_slice_get t n c c h)

at_shifted : (cs : Characters) (n : ℕ) (t : Characters) (s : ℕ) → AreAt (drop n t) s cs → AreAt t (s + n) cs
at_shifted [] n t s h = tt
at_shifted (c ∷ cs) n t s h =
    let next : suc s + n ≡ suc (s + n) = omega arith in
    (stands_shifted n t s c h.0, subst (λ k. AreAt t k cs) next (at_shifted cs n t (suc s) h.1))

-- all of them stand within the text
at_within : (c : ℕ) (cs t : Characters) (s : ℕ) → AreAt t s (c ∷ cs) → s + length (c ∷ cs) ≤ length t
at_within c [] t s h = let inside = slice_get_within t s c h.0 in omega (arith, inside)
at_within c (d ∷ cs) t s h = let rest = at_within d cs t (suc s) h.1 in omega (arith, rest)

-- the greatest usize
abbrev most : ℕ
most = 18446744073709551615

module _ (n : ℕ) (t : Characters) (s e a b : ℕ) (fits : length t ≤ most) (from : a ≡ min (s + n) most) (to : b ≡ min (e + n) most) where
  begun : (c : ℕ) → Stands (drop n t) s c → a ≡ s + n
  begun c h = let inside = slice_get_within t (s + n) c (stands_shifted n t s c h) in omega (arith, inside, fits, from)

  alone : (c : ℕ) → Stands (drop n t) s c → e ≡ suc s → b ≡ suc a
  alone c h is = let inside = slice_get_within t (s + n) c (stands_shifted n t s c h) in omega (arith, inside, fits, from, to, is)

  moved : (c : ℕ) → Stands (drop n t) s c → Stands t a c
  moved c h = subst (λ k. Stands t k c) (sym (begun c h)) (stands_shifted n t s c h)

  pub is_shifted : (cs : Characters) → Is cs (drop n t) s e → Is cs t a b
  is_shifted [] h = record { here = tt; ends = let is = h.ends in omega (arith, from, to, is) }
  is_shifted (c ∷ cs) h =
      let at = at_shifted (c ∷ cs) n t s h.here in
      let within = at_within c cs t (s + n) at in
      let first = begun c h.here.0 in
      let is = h.ends in
      record {
        here = subst (λ k. AreAt t k (c ∷ cs)) (sym first) at;
        ends = omega (arith, first, to, within, fits, is);
      }

  pub shifted : (shape : Shape) → Has shape (drop n t) s e → Has shape t a b
  shifted (exactly cs) h = is_shifted cs h
  shifted (begins c cs) h =
      let at = at_shifted (c ∷ cs) n t s h.here in
      let within = at_within c cs t (s + n) at in
      let first = begun c h.here.0 in
      let is = h.ends in
      record {
        here = subst (λ k. AreAt t k (c ∷ cs)) (sym first) at;
        ends = omega (arith, first, to, within, fits, is);
      }
  shifted (one test) h = record { c = h.c; here = moved h.c h.here; passes = h.passes; alone = alone h.c h.here h.alone }
  shifted (other test) h = record { c = h.c; here = moved h.c h.here; fails = h.fails; alone = alone h.c h.here h.alone }
  shifted (none_of cs) h = record { c = h.c; here = moved h.c h.here; none = h.none; alone = alone h.c h.here h.alone }
  shifted (either x y) (inl h) = inl (shifted x h)
  shifted (either x y) (inr h) = inr (shifted y h)
  shifted (such P) h = record { cs = h.cs; such = h.such; here = is_shifted h.cs h.here }
  shifted (named Names) h =
      let at = at_shifted (60 ∷ (h.name ++ 62 ∷ [])) n t h.opener h.here in
      let within = at_within 60 (h.name ++ 62 ∷ []) t (h.opener + n) at in
      let long = length-append h.name (62 ∷ []) in
      let starts = h.starts in
      let ends = h.ends in
      record {
        opener = h.opener + n;
        name = h.name;
        named = h.named;
        here = at;
        starts = omega (arith, within, long, starts, fits, from);
        ends = omega (arith, within, long, starts, ends, fits, from, to);
      }
  shifted (read Reads) h =
      let begins = h.0 in
      let within = h.1 in
      let long = length-drop n t in
      let first : n + s ≡ a = omega (arith, begins, within, long, fits, from) in
      let last : n + e ≡ b = omega (arith, begins, within, long, fits, to) in (
        omega (arith, begins, first, last),
        omega (arith, within, long, begins, last),
        subst (λ x. Reads x (drop b t)) (drop-drop s n t ∙ ap (λ k. drop k t) first)
            (subst (Reads (drop s (drop n t))) (drop-drop e n t ∙ ap (λ k. drop k t) last) h.2),
      )
  shifted nothing h = absurd h

stands_wider : (n : ℕ) (t : Characters) (s c : ℕ) → Stands (take n t) s c → Stands t s c
stands_wider n t s c h =
    let inside = slice_get_within (take n t) s c h in
    let long = length-take n t in
    slice_get-get_or t s c (omega (arith, inside, long))
    ∙ ap Some (sym (get_or-take n t s c (omega (arith, inside, long))) ∙ get_or_from_slice_get (take n t) s c c h)

at_wider : (cs : Characters) (n : ℕ) (t : Characters) (s : ℕ) → AreAt (take n t) s cs → AreAt t s cs
at_wider [] n t s h = tt
at_wider (c ∷ cs) n t s h = (stands_wider n t s c h.0, at_wider cs n t (suc s) h.1)

-- it doesn't look at the rest of a text
abbrev pub is_plain : Shape → Bool
is_plain (read Reads) = false
is_plain (either x y) = is_plain x && is_plain y
is_plain shape = true

pub plain_stated : (kind : FaultKind) → is_plain (shape_of Stated kind) ≡ true
plain_stated NestedTooDeeply = refl
plain_stated kind = refl

-- what stands in a text's beginning stands in the text
pub wider : (shape : Shape) (n : ℕ) (t : Characters) (s e : ℕ) → is_plain shape ≡ true → Has shape (take n t) s e → Has shape t s e
wider (exactly cs) n t s e plain h = record { here = at_wider cs n t s h.here; ends = h.ends }
wider (begins c cs) n t s e plain h = record { here = at_wider (c ∷ cs) n t s h.here; ends = h.ends }
wider (one test) n t s e plain h = record { c = h.c; here = stands_wider n t s h.c h.here; passes = h.passes; alone = h.alone }
wider (other test) n t s e plain h = record { c = h.c; here = stands_wider n t s h.c h.here; fails = h.fails; alone = h.alone }
wider (none_of cs) n t s e plain h = record { c = h.c; here = stands_wider n t s h.c h.here; none = h.none; alone = h.alone }
wider (either x y) n t s e plain (inl h) = inl (wider x n t s e (and_parts (is_plain x) (is_plain y) plain).0 h)
wider (either x y) n t s e plain (inr h) = inr (wider y n t s e (and_parts (is_plain x) (is_plain y) plain).1 h)
wider (such P) n t s e plain h = record { cs = h.cs; such = h.such; here = record { here = at_wider h.cs n t s h.here.here; ends = h.here.ends } }
wider (named Names) n t s e plain h = record { opener = h.opener; name = h.name; named = h.named; here = at_wider (60 ∷ (h.name ++ 62 ∷ [])) n t h.opener h.here; starts = h.starts; ends = h.ends }
wider (read Reads) n t s e plain h = absurd (true≢false (sym plain))
wider nothing n t s e plain h = absurd h

-- a span that shows something doesn't end before it begins
pub ordered : (shape : Shape) (t : Characters) (s e m : ℕ) → m ≡ max e s → Has shape t s e → Has shape t s m
ordered (exactly cs) t s e m is h = let ends = h.ends in subst (λ k. Is cs t s k) (omega (arith, ends, is)) h
ordered (begins c cs) t s e m is h = let ends = h.ends in subst (λ k. Begins c cs t s k) (omega (arith, ends, is)) h
ordered (one test) t s e m is h = let ends = h.alone in subst (λ k. IsOne test t s k) (omega (arith, ends, is)) h
ordered (other test) t s e m is h = let ends = h.alone in subst (λ k. IsOther test t s k) (omega (arith, ends, is)) h
ordered (none_of cs) t s e m is h = let ends = h.alone in subst (λ k. IsNoneOf cs t s k) (omega (arith, ends, is)) h
ordered (either x y) t s e m is (inl h) = inl (ordered x t s e m is h)
ordered (either x y) t s e m is (inr h) = inr (ordered y t s e m is h)
ordered (such P) t s e m is h = let ends = h.here.ends in subst (λ k. IsSuch P t s k) (omega (arith, ends, is)) h
ordered (named Names) t s e m is h = let ends = h.ends in subst (λ k. IsNamed Names t s k) (omega (arith, ends, is)) h
ordered (read Reads) t s e m is h = let begins = h.0 in subst (λ k. (s < k) × (k ≤ length t) × Reads (drop s t) (drop k t)) (omega (arith, begins, is)) h
ordered nothing t s e m is h = absurd h

-- what a part shows, the whole does
pub shows : (g : Grammar) (kind : FaultKind) (t : Characters) (s e : ℕ) → HasShape g kind t s e → Shows g kind t s e
shows g NestedTooDeeply t s e h = absurd h
shows g kind t s e h = h

pub shown_ordered : (g : Grammar) (kind : FaultKind) (t : Characters) (s e m : ℕ) → m ≡ max e s → Shows g kind t s e → Shows g kind t s m
shown_ordered g NestedTooDeeply t s e m is h = h
shown_ordered g kind t s e m is h = ordered (shape_of g kind) t s e m is h
