-- Only proofs use this file.
-- The ends of a name that a glob fits, one after another.
use Rattle.std.proofs.Common.{ℕ, zero, suc, ◌≡◌, ◌<◌, ◌≤◌, ◌+◌, ◌-◌, ◌∙◌, ◌++◌, ◌∷◌, [], ◌==◌, ◌&&◌, ◌||◌, Bool, false, true, List, ap, ap₂, arith, cond, drop, length, length-append, refl, sym}
use Rattle.std.proofs.Math.ListN.{get_or}
use Rattle.std.proofs.lemmas.List.{drop-drop, drop_all, drop_more, get_or_append_left, get_or_push}
use Rattle.grep_files.specs.Globs.{first_and, fits, some_end}
use Rattle.grep_files.specs.Marks.{marks}

pub marks_length : (glob name : List ℕ) → length (marks glob name) ≡ length name + 1
marks_length glob [] = refl
marks_length glob (b ∷ name) = length-append (marks glob name) (fits glob (b ∷ name) ∷ []) ∙ omega (arith, marks_length glob name)

-- where the mark of an end stands
pub mark_at : (glob name : List ℕ) (place : ℕ) → place ≤ length name →
    get_or (marks glob name) (length name - place) false ≡ fits glob (drop place name)
mark_at glob [] zero le = refl
mark_at glob [] (suc p) le = absurd (omega (arith, le))
mark_at glob (b ∷ name) zero le =
    ap (λ i. get_or (marks glob name ++ fits glob (b ∷ name) ∷ []) i false) (omega arith)
    ∙ get_or_push (marks glob name) (fits glob (b ∷ name)) false (length name + 1) (marks_length glob name)
mark_at glob (b ∷ name) (suc p) le =
    ap (λ i. get_or (marks glob name ++ fits glob (b ∷ name) ∷ []) i false) (omega arith)
    ∙ get_or_append_left (marks glob name) (fits glob (b ∷ name) ∷ []) false (length name - p) (omega (arith, marks_length glob name))
    ∙ mark_at glob name p (omega (arith, le))

-- the mark of a longer end is put behind the others
pub mark_more : (glob name : List ℕ) (p : ℕ) (x : Bool) (v : List Bool) → p < length name →
    v ≡ marks glob (drop (p + 1) name) → x ≡ fits glob (drop p name) → v ++ x ∷ [] ≡ marks glob (drop p name)
mark_more glob name p x v lt is fit =
    let cut = drop_more name p 0 lt in
    ap₂ (λ (w : List Bool) (y : Bool). w ++ y ∷ []) is (fit ∙ ap (fits glob) cut) ∙ sym (ap (marks glob) cut)

pub next_none : (name : List ℕ) (p : ℕ) → p < length name → false ≡ fits [] (drop p name)
next_none name p lt = sym (ap (fits []) (drop_more name p 0 lt))

module _ (g : ℕ) (gs name : List ℕ) (p : ℕ) (x y w : Bool) where
  abbrev left : List ℕ → Bool
  left text = some_end (fits gs) text

  abbrev right : List ℕ → Bool
  right text = first_and g (fits gs) text

  abbrev begins : Bool
  begins = g == 63 || g == get_or name p 0

  by_first : p < length name → x ≡ fits gs (drop p name) → y ≡ fits gs (drop (p + 1) name) → w ≡ fits (g ∷ gs) (drop (p + 1) name) →
      (b : Bool) → (g == 42) ≡ b → cond (g == 42) (x || w) (y && begins) ≡ cond (g == 42) (left (drop p name)) (right (drop p name))
  by_first lt whole rest shorter true h =
      let cut = drop_more name p 0 lt in
      ap (λ b. cond b (x || w) (y && begins)) h
      ∙ ap₂ (λ (u v : Bool). u || v) (whole ∙ ap (fits gs) cut) (shorter ∙ ap (λ b. cond b (left (drop (p + 1) name)) (right (drop (p + 1) name))) h)
      ∙ sym (ap (some_end (fits gs)) cut)
      ∙ sym (ap (λ b. cond b (left (drop p name)) (right (drop p name))) h)
  by_first lt whole rest shorter false h =
      let cut = drop_more name p 0 lt in
      ap (λ b. cond b (x || w) (y && begins)) h ∙ ap (λ u. u && begins) rest ∙ sym (ap (first_and g (fits gs)) cut)
      ∙ sym (ap (λ b. cond b (left (drop p name)) (right (drop p name))) h)

pub next_fit : (glob name : List ℕ) (p : ℕ) (x y w : Bool) → 0 < length glob → p < length name →
    x ≡ fits (drop 1 glob) (drop p name) → y ≡ fits (drop 1 glob) (drop (p + 1) name) → w ≡ fits glob (drop (p + 1) name) →
    cond (get_or glob 0 0 == 42) (x || w) (y && (get_or glob 0 0 == 63 || get_or glob 0 0 == get_or name p 0)) ≡ fits glob (drop p name)
next_fit [] name p x y w some lt whole rest shorter = absurd (omega (arith, some))
next_fit (g ∷ gs) name p x y w some lt whole rest shorter = by_first g gs name p x y w lt whole rest shorter (g == 42) refl

-- the shortest end
pub first_fit : (glob name : List ℕ) (x : Bool) → 0 < length glob → x ≡ fits (drop 1 glob) (drop (length name) name) →
    cond (get_or glob 0 0 == 42) x false ≡ fits glob []
first_fit [] name x some is = absurd (omega (arith, some))
first_fit (g ∷ gs) name x some is = ap (λ y. cond (g == 42) y false) (is ∙ ap (fits gs) (drop_all (length name) name (omega arith)))

-- the glob behind its first byte
pub behind_first : (glob : List ℕ) (p : ℕ) → drop 1 (drop p glob) ≡ drop (p + 1) glob
behind_first glob p = drop-drop 1 p glob
