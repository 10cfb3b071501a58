-- What is read makes the text shorter.
use Rattle.std.proofs.Common.{◌≡◌, ℕ, ◌≤◌, ◌<◌, Bool, true, false, [], ◌∷◌, ◌++◌, Option, Some, drop, length, length-append, sym, subst, arith}
use Rattle.std.proofs.lemmas.Option.{none-some}
use Rattle.rc_tokens.specs.Text.{Characters}
use Rattle.rc_tokens.specs.Marks.{Escape, short, fixed, braced, written_escape}
use Rattle.rc_class_sets.specs.Sets.{CodeSet}
use Rattle.rc_full_escapes.specs.Escapes.{IsEscape, stated, digits, letter, name}
use Rattle.rc_full_escapes.specs.declared.escapes.FullEscape.{FullEscape}
use Rattle.rc_full_lists.specs.declared.parts.Settings.{Settings}
use Rattle.rc_full_lists.specs.declared.parts.Atom.{Atom}
use Rattle.rc_full_lists.specs.declared.parts.Atom.TheVariants.{Code, Set}
use Rattle.rc_full_lists.specs.declared.parts.Part.{Part}
use Rattle.rc_full_lists.specs.declared.parts.Part.TheVariants as part
use Rattle.rc_full_lists.specs.declared.parts.Operation.{Operation}
use Rattle.rc_full_lists.specs.declared.items.Item.{Item}
use Rattle.rc_full_lists.specs.Parts.{Passes, operator_at, IsPosix, posix, IsAtom, plain, escaped, GoesOn, IsPart, closes, operates, names, opens, range, single, set}
use Rattle.rc_full_lists.specs.Lists as lists
use Rattle.rc_full_lists.specs.Lists.{Progress, Inside, IsList, brackets}
use Rattle.rc_full_lists.specs.Read.{passed, read_part}
use Rattle.rc_full_lists.specs.Openings.{Hyphens, none, more, Sign, without_caret, caret, Lead, nothing, hyphens, bracket, IsOpening, opening}
use Rattle.rc_full_lists.proofs.PartLemmas.{passes_there, part_sound}
use Rattle.rc_full_lists.proofs.OpeningLemmas.{passed_shorter}

pub passes_shorter : (x : Bool) (t u : Characters) → Passes x t u → length u ≤ length t
passes_shorter x t u p = subst (λ y. length y ≤ length t) (sym (passes_there x t u p)) (passed_shorter x t)

-- ---- openings

run_shorter : (x : Bool) (t u : Characters) → Hyphens x t u → length u ≤ length t
run_shorter x _ _ (none t h) = omega arith
run_shorter x _ _ (more t u v p r) = let a = passes_shorter x t u p in let b = run_shorter x u v r in omega (arith, a, b)

sign_shorter : (x : Bool) (t u : Characters) (m : Bool) → Sign x t m u → length u ≤ length t
sign_shorter x _ _ _ (without_caret t h) = omega arith
sign_shorter x _ _ _ (caret t u p) = let a = passes_shorter x t u p in omega (arith, a)

lead_shorter : (x : Bool) (t u : Characters) (l : Option ℕ) → Lead x t l u → length u ≤ length t
lead_shorter x _ _ _ (nothing t h) = omega arith
lead_shorter x _ _ _ (hyphens t u v p r) = let a = passes_shorter x t u p in let b = run_shorter x u v r in omega (arith, a, b)
lead_shorter x _ _ _ (bracket t u p) = let a = passes_shorter x t u p in omega (arith, a)

pub opening_shorter : (x : Bool) (t u : Characters) (m : Bool) (l : Option ℕ) → IsOpening x t m l u → length u ≤ length t
opening_shorter x t u m l (opening _ a b _ _ _ p s k) =
    let f = passes_shorter x t a p in let g = sign_shorter x a b m s in let h = lead_shorter x b u l k in omega (arith, f, g, h)

-- ---- parts

written_shorter : (e : Escape) (u : Characters) → length u < length (written_escape e ++ u)
written_shorter (short c) u = omega arith
written_shorter (fixed c ds) u = let h = length-append ds u in omega (arith, h)
written_shorter (braced c t) u = let h = length-append (t ++ 125 ∷ []) u in omega (arith, h)

pub escape_shorter : (octal : Bool) (t u : Characters) (e : FullEscape) → IsEscape octal t e u → length u < length t
escape_shorter octal _ _ _ (stated e s u says alone) = written_shorter e u
escape_shorter octal _ _ _ (digits ds s u on says are few ends) = let h = length-append ds u in omega (arith, h)
escape_shorter octal _ _ _ (letter negated c e u other says) = omega arith
escape_shorter octal _ _ _ (name negated word e u are says) = let h = length-append word (125 ∷ u) in omega (arith, h)

atom_shorter : (s : Settings) (t u : Characters) (a : Atom) → IsAtom s t a u → length u < length t
atom_shorter s _ _ _ (plain c n t other code) = omega arith
atom_shorter s _ _ _ (escaped t u e a is says) = escape_shorter s.octal t u e is

goes_shorter : (s : Settings) (t v : Characters) → GoesOn s t v → length v < length t
goes_shorter s t v g =
    let a = passes_shorter s.verbose t (45 ∷ g.at) g.sign in let b = passes_shorter s.verbose g.at v g.behind in omega (arith, a, b)

operator_shorter : (t : Characters) (o : Operation) → operator_at t ≡ Some o → length (drop 2 t) < length t
operator_shorter [] o h = absurd (none-some o h)
operator_shorter (c ∷ []) o h = omega arith
operator_shorter (c ∷ d ∷ t) o h = omega arith

posix_shorter : (t u : Characters) (i : Item) → IsPosix t i u → length u < length t
posix_shorter _ _ _ (posix true front u class word known) = let h = length-append front (58 ∷ 93 ∷ u) in omega (arith, h)
posix_shorter _ _ _ (posix false front u class word known) = let h = length-append front (58 ∷ 93 ∷ u) in omega (arith, h)

shorter : (s : Settings) (t u : Characters) (k : Part) → IsPart s t k u → length u < length t
shorter s _ _ _ (closes t) = omega arith
shorter s _ _ _ (operates t o is) = operator_shorter t o is
shorter s _ _ _ (names t u i is) = posix_shorter t u i is
shorter s _ _ _ (opens t never) = omega arith
shorter s _ _ _ (range t a b u low high begins atom on end least) =
    let f = atom_shorter s t a (Code low) atom in
    let g = goes_shorter s a b on in
    let h = atom_shorter s b u (Code high) end in
    omega (arith, f, g, h)
shorter s _ _ _ (single t u c begins atom stands) = atom_shorter s t u (Code c) atom
shorter s _ _ _ (set t u i begins atom stands) = atom_shorter s t u (Set i) atom

pub part_shorter : (s : Settings) (t u : Characters) (k : Part) → read_part s (passed s.verbose t) ≡ Some (k, u) → length u < length t
part_shorter s t u k h =
    let a = shorter s (passed s.verbose t) u k (part_sound s (passed s.verbose t) k u h) in let b = passed_shorter s.verbose t in omega (arith, a, b)

-- ---- lists

front_shorter : (s : Settings) (t a u : Characters) (k : Part) → Passes s.verbose t a → IsPart s a k u → length u < length t
front_shorter s t a u k p is = let f = passes_shorter s.verbose t a p in let g = shorter s a u k is in omega (arith, f, g)

mutual
  inside_shorter : (s : Settings) (fold : Bool) (t u : Characters) (r end : Progress) → Inside s fold r t end u → length u < length t
  inside_shorter s fold _ _ _ _ (lists.closes r t a u p is) = front_shorter s t a u part.Closes p is
  inside_shorter s fold _ _ _ _ (lists.item r end t a b u i p is n) =
      let f = front_shorter s t a b (part.Has i) p is in let g = inside_shorter s fold b u _ end n in omega (arith, f, g)
  inside_shorter s fold _ _ _ _ (lists.operator r end t a b u o p is n) =
      let f = front_shorter s t a b (part.Operates o) p is in let g = inside_shorter s fold b u _ end n in omega (arith, f, g)
  inside_shorter s fold _ _ _ _ (lists.nested r end t a b c u q d p is l n) =
      let f = front_shorter s t a b part.Opens p is in
      let g = list_shorter s fold b c q d l in
      let h = inside_shorter s fold c u _ end n in
      omega (arith, f, g, h)

  pub list_shorter : (s : Settings) (fold : Bool) (t u : Characters) (p : CodeSet) (d : ℕ) → IsList s fold t p d u → length u < length t
  list_shorter s fold _ _ _ _ (brackets t a u negated lead end o i) =
      let f = opening_shorter s.verbose t a negated lead o in let g = inside_shorter s fold a u _ end i in omega (arith, f, g)
