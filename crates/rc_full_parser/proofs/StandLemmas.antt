-- What the full grammar reads is well-formed.
use Rattle.std.proofs.Common.{◌≡◌, ℕ, suc, ◌+◌, ◌*◌, ◌-◌, ◌<◌, ◌≤◌, Bool, true, false, not, List, [], ◌∷◌, ◌++◌, Option, Some, None, refl, ap, sym, subst, ◌∙◌, arith, if◌then◌else◌, encode_utf8_all}
use Rattle.std.proofs.lemmas.Option.{none-some, same_Some}
use Rattle.rc_pattern.specs.Re.{Re, Range, empty, repeat}
use Rattle.rc_pattern.specs.WellFormed.{AreAscending, HasBounds, IsWellFormed}
use Rattle.rc_tokens.specs.Text.{Characters}
use Rattle.rc_tokens.specs.Classes.{next}
use Rattle.rc_tokens.specs.Members.{InOrder}
use Rattle.rc_tokens.specs.declared.tokens.Bounds.{Bounds}
use Rattle.rc_tokens.proofs.ClassLemmas.{next_above}
use Rattle.rc_parser.specs.Settings.{Settings, first_flags}
use Rattle.rc_parser.specs.Pieces.{Subpattern, leaf}
use Rattle.rc_parser.specs.Grammar.{Level, begin, switched, set_flags, repeated_once, tie}
use Rattle.rc_parser.specs.declared.flags.Flags.{Flags}
use Rattle.rc_parser.proofs.SpineLemmas.{Numbered, groups, all_groups, fine_more}
use Rattle.rc_parser.proofs.FitLemmas.{Fit, AllFit, fit_with, with_groups, deeper_fit, Plain, plain_fit, plain_literal, set_plain, dot_plain}
use Rattle.rc_parser.proofs.StandLemmas.{ordered_as, held, Stands, add_stands, add_nothing, branch_stands, whole_stands, closed_fit, inside_stands, around, first_stands, whole_formed}
use Rattle.rc_parser.proofs.StandLemmas as parser
use Rattle.rc_class_sets.specs.Sets.{CodeSet}
use Rattle.rc_full_tokens.specs.Counts.{IsCount, exactly, from, between, up_to}
use Rattle.rc_full_parser.specs.declared.marks.MarkSettings.{MarkSettings}
use Rattle.rc_full_parser.specs.declared.marks.Piece.{Piece}
use Rattle.rc_full_parser.specs.Marks as mark
use Rattle.rc_full_parser.specs.Marks.{Mark, IsAmount, any, some, maybe, counted, IsMark}
use Rattle.rc_full_parser.specs.Pieces as pieces
use Rattle.rc_full_parser.specs.Pieces.{IsClass, IsCharacter, plain, cases, IsPiece, IsListPart}
use Rattle.rc_full_parser.specs.Grammar as items
use Rattle.rc_full_parser.specs.Grammar.{Place, flags, here, at, behind, with_flags, behind_group, Begins, Items, fresh, Reads}
use Rattle.rc_full_parser.specs.Laws.{PatternsAreWellFormed}

-- ---- items

ascends : (u : Bool) (m n : ℕ) (rs : List Range) → m ≤ n → InOrder u n rs → AreAscending m rs
ascends u m n [] l h = tt
ascends u m n (r ∷ rs) l h =
    (omega (arith, l, h.0), h.1, ascends u (r.1 + 1) (suc (next u r.1)) rs (let z = next_above u r.1 in omega (arith, z)) h.2)

abbrev IsFit : Subpattern → Type 0
IsFit q = Fit 1 q × (groups q.re ≡ [])

module _ (s : Settings) (f : Flags) where
  class_plain : (p : CodeSet) (re : Re) → IsClass s f p re → Plain s re
  class_plain p re c = set_plain s f c.ranges re (ascends f.unicode 0 0 c.ranges (omega arith) c.are_ranges.in_order) c.allowed

  character_plain : (c : ℕ) (re : Re) → IsCharacter s f c re → Plain s re
  character_plain _ _ (plain c h) = plain_literal s (encode_utf8_all (c ∷ []))
  character_plain _ _ (cases c re h is) = class_plain _ re is

  leaf_fit : (re : Re) → Plain s re → IsFit (leaf re)
  leaf_fit re h = (plain_fit s re h, h.3)

  piece_fit : (k : Piece) (q : Subpattern) → s.line_terminator < 256 → IsPiece s f k q → IsFit q
  piece_fit _ _ byte (pieces.character c re is) = leaf_fit re (character_plain c re is)
  piece_fit _ _ byte (pieces.low_byte b re low is) = leaf_fit re (character_plain b re is)
  piece_fit _ _ byte (pieces.high_byte b high on) = leaf_fit _ (plain_literal s (b ∷ []))
  piece_fit _ _ byte (pieces.set i re is) = leaf_fit re (class_plain _ re is)
  piece_fit _ _ byte (pieces.dot has) = leaf_fit _ (dot_plain s f byte has)
  piece_fit _ _ byte (pieces.asserts a) = leaf_fit _ (tt, omega arith, tt, refl)

  list_fit : (c : CodeSet) (d : ℕ) (q : Subpattern) → IsListPart s f c d q → IsFit q
  list_fit _ _ _ (pieces.list c d re q is deep) =
      let p = class_plain c re is in
      let (fit, same) = deeper_fit s 1 1 re (d - 1) q (omega arith) (fine_more 1 (3 * (d - 1) + 1) re (omega arith) (plain_fit s re p).fine) deep in
      (fit, ap groups same ∙ p.3)

-- ---- repetitions

abbrev Bounded : ℕ → Option ℕ → Type 0
Bounded min None = Unit {0}
Bounded min (Some max) = min ≤ max

abbrev MarkBounded : Mark → Type 0
MarkBounded (mark.repeats b) = Bounded b.min b.max
MarkBounded mark.bar = Unit {0}
MarkBounded mark.closes = Unit {0}
MarkBounded (mark.sets to) = Unit {0}
MarkBounded (mark.opens k x) = Unit {0}
MarkBounded mark.brackets = Unit {0}
MarkBounded (mark.stands k) = Unit {0}

count_bounded : (e : Bool) (t u : Characters) (n : ℕ) (m : Option ℕ) → IsCount e t n m u → Bounded n m
count_bounded e _ _ _ _ (exactly a u n is) = omega arith
count_bounded e _ _ _ _ (from a u n is) = tt
count_bounded e _ _ _ _ (between a b u n m is are least) = least
count_bounded e _ _ _ _ (up_to a b u m on blank is) = omega arith

amount_bounded : (e : Bool) (t u : Characters) (n : ℕ) (m : Option ℕ) → IsAmount e t n m u → Bounded n m
amount_bounded e _ _ _ _ (any t) = tt
amount_bounded e _ _ _ _ (some t) = tt
amount_bounded e _ _ _ _ (maybe t) = omega arith
amount_bounded e _ _ _ _ (counted t u n m is) = count_bounded e t u n m is

mark_bounded : (s : MarkSettings) (t u : Characters) (k : Mark) → IsMark s t k u → MarkBounded k
mark_bounded s _ _ _ (mark.branch t) = tt
mark_bounded s _ _ _ (mark.close t) = tt
mark_bounded s _ _ _ (mark.setting f t to word full says) = tt
mark_bounded s _ _ _ (mark.capturing t other) = tt
mark_bounded s _ _ _ (mark.naming p text t word known) = tt
mark_bounded s _ _ _ (mark.flagging f t to word says) = tt
mark_bounded s _ _ _ (mark.repeating t u n m is) = amount_bounded s.empty_min t u n m is
mark_bounded s _ _ _ (mark.bracket t) = tt
mark_bounded s _ _ _ (mark.escaped t u e k is says) = tt
mark_bounded s _ _ _ (mark.dot t) = tt
mark_bounded s _ _ _ (mark.caret t) = tt
mark_bounded s _ _ _ (mark.dollar t) = tt
mark_bounded s _ _ _ (mark.character c t other) = tt

has_bounds : (min : ℕ) (max : Option ℕ) (greedy : Bool) (re : Re) → Bounded min max → HasBounds re → HasBounds (repeat min max greedy re)
has_bounds min None greedy re b h = h
has_bounds min (Some max) greedy re b h = (b, h)

repeat_fit : (s : Settings) (f : Flags) (b : Bounds) (p r : Subpattern) → Bounded b.min b.max → Fit 1 p → repeated_once s f b p ≡ Some r → Fit 1 r × (groups r.re ≡ groups p.re)
repeat_fit s f b p r ordered h e =
    let deep = h.fine.shallow in
    let greedy : Bool = if b.lazy then f.swap_greed else not f.swap_greed in
    let (fit, is) = deeper_fit s 1 2 (repeat b.min b.max greedy p.re) p.depth r (omega arith)
    (record { bounded = has_bounds b.min b.max greedy p.re ordered h.fine.bounded; shallow = omega (arith, deep); spine = tt }) e in
    (fit, ap groups is)

-- ---- places

abbrev LastFit : Option Subpattern → Type 0
LastFit None = Unit {0}
LastFit (Some q) = Fit 1 q

-- the groups in front of a place are in order, and its items fit
record StandsAt (pre : List Numbered) (p : Place) : Type 0 where
  stands : Stands pre (here p)
  items : AllFit 1 p.level.items
  last : LastFit p.last

level_stands : (pre : List Numbered) (l : Level) (x : Bool) → Stands pre l → StandsAt pre (at l x None)
level_stands pre l x h = record { stands = h; items = h.items; last = tt }

item_stands : (pre : List Numbered) (p : Place) (q : Subpattern) → StandsAt pre p → IsFit q → StandsAt pre (behind q p)
item_stands pre p q h (fit, none) = record {
  stands = add_nothing pre (here p) q h.stands.items h.stands.branches fit none h.stands.ordered;
  items = h.stands.items;
  last = fit;
}

repeat_stands : (s : Settings) (pre : List Numbered) (l : Level) (x : Bool) (last : Option Subpattern) (b : Bounds) (q r : Subpattern) → Bounded b.min b.max → last ≡ Some q →
    repeated_once s l.flags b q ≡ Some r → StandsAt pre (at l x last) → StandsAt pre (at l x (Some r))
repeat_stands s pre l x None b q r ordered is done h = absurd (none-some q is)
repeat_stands s pre l x (Some a) b q r ordered is done h =
    let e = same_Some a q is in
    let (fit, same) = repeat_fit s l.flags b a r ordered h.last (subst (λ y. repeated_once s l.flags b y ≡ Some r) (sym e) done) in
    record {
      stands = record {
        ordered = ordered_as _ _ l.groups l.names (ap (λ t. pre ++ (all_groups l.branches.res ++ t))
            (with_groups r l.items ∙ ap (λ t. all_groups l.items.res ++ t) same ∙ sym (with_groups a l.items))) h.stands.ordered;
        items = fit_with 1 r l.items fit h.items;
        branches = h.stands.branches;
      };
      items = h.items;
      last = fit;
    }

module _ (s : Settings) (byte : s.line_terminator < 256) where
  items_stand : (g : Bool) (p end : Place) (t u : Characters) (pre : List Numbered) → Items s g p t end u → StandsAt pre p → StandsAt pre end
  items_stand _ _ _ _ _ pre (items.ends p t gaps) h = h
  items_stand _ _ _ _ _ pre (items.closes p t u b) h = h
  items_stand _ _ _ _ _ pre (items.bars g p end t u v l b done i) h =
      items_stand g (at l p.verbose None) end u v pre i (level_stands pre l p.verbose ((branch_stands s pre (here p) l h.stands done).0))
  items_stand _ _ _ _ _ pre (items.sets g p end t u v to b i) h =
      items_stand g (with_flags to p) end u v pre i (level_stands pre _ (switched p.verbose to.ignore_whitespace)
      (add_nothing pre (record (here p) { flags = set_flags to.stated (flags p) }) (leaf empty) h.stands.items h.stands.branches
      (plain_fit s empty (tt, omega arith, tt, refl)) refl h.stands.ordered))
  items_stand _ _ _ _ _ pre (items.repeats g p end t u v n q r b last done i) h =
      items_stand g (at p.level p.verbose (Some r)) end u v pre i
      (repeat_stands s pre p.level p.verbose p.last n q r (mark_bounded _ b.front u (mark.repeats n) b.is_mark) last done h)
  items_stand _ _ _ _ _ pre (items.stands g p end t u v k q b is i) h =
      items_stand g (behind q p) end u v pre i (item_stands pre p q h (piece_fit s (flags p) k q byte is))
  items_stand _ _ _ _ _ pre (items.list g p end t u v w c d q b is part i) h =
      items_stand g (behind q p) end v w pre i (item_stands pre p q h (list_fit s (flags p) c d q part))
  items_stand _ _ _ _ _ pre (items.group g p e end t u v w k x begun body q b into i done shut j) h =
      let l = here p in
      let group = tie k l in
      let front = parser.before s pre l group in
      let within = items_stand true (at begun (switched p.verbose x) None) e u v front i
      (level_stands front begun (switched p.verbose x) (inside_stands s k pre l begun h.stands into)) in
      let (fit, gs) = whole_stands s front (here e) body within.stands done in
      let (closed_in, is) = closed_fit s group body q fit shut in
      items_stand g (behind_group q e p) end v w pre j (record {
        stands = add_stands pre (record l { groups = (here e).groups; names = (here e).names }) q h.stands.items h.stands.branches closed_in
            (ordered_as (pre ++ (held l ++ groups q.re)) (front ++ held (here e)) (here e).groups (here e).names
            (ap (λ y. pre ++ (held l ++ y)) (ap groups is) ∙ around s group pre l body.re (held (here e)) gs) within.stands.ordered);
        items = h.stands.items;
        last = closed_in;
      })

  reads_stand : (text : Characters) (re : Re) → Reads s text re → IsWellFormed re
  reads_stand text re r =
      let l = begin (first_flags s) 0 [] in
      let last = items_stand false (fresh s) r.end text [] [] r.is_read (level_stands [] l s.ignore_whitespace (first_stands s)) in
      whole_formed s (here r.end) re r.depth last.stands r.is_whole

pub well_formed_law : PatternsAreWellFormed
well_formed_law s text re byte r = reads_stand s byte text re r
