-- Symbols past ASCII: those of one column lead alike.
use Rattle.std.proofs.Common.{◌≡◌, ℕ, ◌≤◌, ◌==◌, Bool, true, false, get_or, if◌then◌else◌, refl, sym, ap, subst, ◌∙◌, arith}
use Rattle.rc_text.specs.declared.types.Anchored.{Anchored}
use Rattle.rc_determinize.specs.Sides.{AreAlike}
use Rattle.rc_determinize.specs.States.{State}
use Rattle.rc_dfa.specs.declared.automaton.Direction as code
use Rattle.rc_dfa.specs.declared.automaton.Automaton.{Automaton}
use Rattle.rc_dfa.specs.declared.symbols.Tagged.{Tagged}
use Rattle.rc_dfa.specs.declared.symbols.Tagged.TheVariants.{Neither, First, Last}
use Rattle.rc_dfa.specs.declared.symbols.Symbol.{Symbol}
use Rattle.rc_dfa.specs.Automata.{machine_of, classes_of}
use Rattle.rc_dfa.specs.Columns.{sides_tagged, told_tagged}
use Rattle.rc_dfa.specs.Machine.{Machine, LeadsOver, BeginsBeside}
use Rattle.rc_dfa.specs.Symbols.{opens_of, shuts_of, IsPast, LeadsTagged, BeginsTagged, number_of, column_by, IsColumning}
use Rattle.rc_dfa.proofs.ColumnLemmas.{alike_told, column_law}

-- TAGS

abbrev tag_at : ℕ → Tagged
tag_at n = if n == 0 then Neither else if n == 1 then First false else if n == 2 then First true else if n == 3 then Last false else Last true

tag_found : (t : Tagged) → tag_at (number_of t) ≡ t
tag_found Neither = refl
tag_found (First false) = refl
tag_found (First true) = refl
tag_found (Last false) = refl
tag_found (Last true) = refl

same_tag : (t u : Tagged) → number_of t ≡ number_of u → t ≡ u
same_tag t u e = sym (tag_found t) ∙ ap tag_at e ∙ tag_found u

number_small : (t : Tagged) → number_of t ≤ 4
number_small Neither = omega arith
number_small (First false) = omega arith
number_small (First true) = omega arith
number_small (Last false) = omega arith
number_small (Last true) = omega arith

-- STEPS

module _ (m : Machine) (y z : Symbol) (tags : y.tagged ≡ z.tagged) (alike : AreAlike m.setting.places m.setting.needs m.setting.terminator y.byte z.byte)
    (k : IsPast y) (l : IsPast z) where
  lead_alike : (backwards : Bool) (s t : State) → LeadsTagged backwards m s y t → LeadsTagged backwards m s z t
  lead_alike false s t h =
      subst (λ x. LeadsOver m s (sides_tagged m.setting.needs m.setting.terminator z.byte (opens_of x) (shuts_of x)) t) tags
      (column_law.alike m y.byte z.byte (opens_of y.tagged) (shuts_of y.tagged) s t alike k.past l.past h)
  lead_alike true s t h =
      subst (λ x. LeadsOver m s (sides_tagged m.setting.needs m.setting.terminator z.byte (shuts_of x) (opens_of x)) t) tags
      (column_law.alike m y.byte z.byte (shuts_of y.tagged) (opens_of y.tagged) s t alike k.past l.past h)

  begin_alike : (backwards : Bool) (anchored : Anchored) (s : State) → BeginsTagged backwards m anchored y s → BeginsTagged backwards m anchored z s
  begin_alike false anchored s h =
      subst (λ x. BeginsBeside m anchored x s)
      (alike_told m.setting.places m.setting.needs m.setting.terminator y.byte z.byte (shuts_of y.tagged) alike k.past l.past
      ∙ ap (λ x. told_tagged m.setting.needs m.setting.terminator z.byte (shuts_of x)) tags) h
  begin_alike true anchored s h =
      subst (λ x. BeginsBeside m anchored x s)
      (alike_told m.setting.places m.setting.needs m.setting.terminator y.byte z.byte (opens_of y.tagged) alike k.past l.past
      ∙ ap (λ x. told_tagged m.setting.needs m.setting.terminator z.byte (opens_of x)) tags) h

-- COLUMNS

module _ (a : Automaton) (y z : Symbol) (k : IsPast y) (l : IsPast z)
    (same : column_by (classes_of a) y ≡ column_by (classes_of a) z) where
  first : get_or (classes_of a) 128 0 ≤ get_or (classes_of a) y.byte 0
  first = a.rising 128 y.byte k.past k.small

  second : get_or (classes_of a) 128 0 ≤ get_or (classes_of a) z.byte 0
  second = a.rising 128 z.byte l.past l.small

  tags : y.tagged ≡ z.tagged
  tags =
      let n = number_small y.tagged in
      let p = number_small z.tagged in
      same_tag y.tagged z.tagged (omega (arith, first, second, n, p, same))

  classes : get_or (classes_of a) y.byte 0 ≡ get_or (classes_of a) z.byte 0
  classes =
      let n = number_small y.tagged in
      let p = number_small z.tagged in
      omega (arith, first, second, n, p, same)

  alike : (d : code.Direction) → AreAlike (machine_of a d).setting.places (machine_of a d).setting.needs (machine_of a d).setting.terminator y.byte z.byte
  alike d = a.alike y.byte z.byte k.small l.small classes

pub is_columning : (a : Automaton) (d : code.Direction) → IsColumning (machine_of a d) (classes_of a)
is_columning a d = record {
  inside = λ y k.
      let least = a.rising 128 y.byte k.past k.small in
      let high = k.small in
      let below = a.rising y.byte 255 (omega (arith, high)) (omega arith) in
      let n = number_small y.tagged in
      omega (arith, least, below, n);
  lead = λ backwards y z k l same. lead_alike (machine_of a d) y z (tags a y z k l same) (alike a y z k l same d) k l backwards;
  begin = λ backwards y z k l same. begin_alike (machine_of a d) y z (tags a y z k l same) (alike a y z k l same d) k l backwards;
}
