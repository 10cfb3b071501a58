-- What both grammars read of a text, they read alike.
use Rattle.std.proofs.Common.{◌≡◌, ℕ, ◌-◌, Bool, true, false, not, ◌&&◌, List, [], ◌∷◌, ◌++◌, Option, Some, None, ⊎_elim, refl, ap, sym, subst, ◌∙◌, true≢false, append_assoc, encode_utf8_all, if◌then◌else◌}
use Rattle.std.proofs.lemmas.Option.{none-some, same_Some}
use Rattle.rc_pattern.specs.Re.{Re, Range, empty}
use Rattle.rc_pattern.specs.Meaning.{concat_of, literal_of}
use Rattle.rc_pattern.specs.Dots.{dot_of}
use Rattle.rc_tokens.specs.Text.{Characters, ◌>>=◌, ◌>>◌, is_letter}
use Rattle.rc_tokens.specs.Classes.{class_of, list_ranges}
use Rattle.rc_tokens.specs.Lexer.{lex}
use Rattle.rc_tokens.specs.Said as said
use Rattle.rc_tokens.specs.Marks as stated
use Rattle.rc_tokens.specs.Marks.{Atom, written, written_if, written_atoms, members_of, is_list, AreMarks, takes_more}
use Rattle.rc_tokens.specs.declared.tokens.Member.{Member}
use Rattle.rc_tokens.specs.declared.tokens.Change.{Change}
use Rattle.rc_tokens.specs.declared.tokens.Assertion.{Assertion}
use Rattle.rc_tokens.proofs.StepLemmas.{some_parts, guard_parts}
use Rattle.rc_tokens.proofs.AgainLemmas.{lex_again}
use Rattle.rc_parser.specs.Settings.{Settings, first_flags}
use Rattle.rc_parser.specs.Pieces.{Subpattern, leaf, deeper, set_re, char_re, byte_re, has_dot, dot_kind, sense_part}
use Rattle.rc_parser.specs.Grammar.{Level, marks, begin, add, switched, set_flags, is_named, join, with_part, no_parts, end_branch, whole, repeated_once, inside, tie, closed}
use Rattle.rc_parser.specs.Machine.{Outside, Work, work, settled, nameless, close, step, take_said, run_marks, fresh}
use Rattle.rc_parser.specs.declared.flags.Flags.{Flags}
use Rattle.rc_parser.proofs.TreeLemmas.{body_run}
use Rattle.rc_class_sets.specs.Sets.{CodeSet, AreRangesOf}
use Rattle.rc_class_sets.proofs.RangeLemmas.{ranges_law}
use Rattle.rc_full_lists.specs.Lists.{IsList}
use Rattle.rc_full_lists.proofs.ListLemmas.{one_list_law}
use Rattle.rc_full_parser.specs.declared.marks.Piece.TheVariants as piece
use Rattle.rc_full_parser.specs.Marks as mark
use Rattle.rc_full_parser.specs.Marks.{Mark}
use Rattle.rc_full_parser.specs.Marked.{read_mark}
use Rattle.rc_full_parser.specs.Pieces.{has_cases, IsCharacter, plain, cases, is_high, IsPiece, character, low_byte, high_byte, dot, asserts, IsListPart, list}
use Rattle.rc_full_parser.specs.Grammar.{mark_settings, list_settings}
use Rattle.rc_full_parser.specs.Machine.{State, state, place, shut, Moves, Leads}
use Rattle.rc_full_parser.specs.Laws.{are_plain, is_shared, AreShared, SharedPatternsAlike}
use Rattle.rc_full_parser.proofs.SharedLemmas.{as_mark, IsSingle, found_alike, IsSame, said_same, KeepsCase, same_keeps}
use Rattle.rc_full_parser.proofs.BracketLemmas.{tail, tail_is, NoSets, members_are, list_is, no_sets}
use Rattle.rc_full_parser.proofs.MachineLemmas.{same_flags, took, marks_law}
use Rattle.rc_full_parser.proofs.ReadLemmas.{leads_first, no_front}

-- ---- the flag i stays off

abbrev AllOff : List Outside → Type 0
AllOff [] = Unit {0}
AllOff (f ∷ fs) = ((f.1).flags.case_insensitive ≡ false) × AllOff fs

abbrev Off : Work → Type 0
Off w = (w.level.flags.case_insensitive ≡ false) × AllOff w.outer

changed_off : (to : Change) (f : Flags) → to.case_insensitive ≡ None → f.case_insensitive ≡ false → (set_flags to f).case_insensitive ≡ false
changed_off to f none off = ap (switched f.case_insensitive) none ∙ off

settled_off : (last : Option Subpattern) (l : Level) → l.flags.case_insensitive ≡ false → (settled last l).flags.case_insensitive ≡ false
settled_off last l off = ap (λ (f : Flags). f.case_insensitive) (same_flags last l) ∙ off

inside_off : (k : said.Start) (l from : Level) → KeepsCase (said.Opens k) → l.flags.case_insensitive ≡ false → inside k l ≡ Some from → from.flags.case_insensitive ≡ false
inside_off said.Capturing l from same off h =
    subst (λ (l : Level). l.flags.case_insensitive ≡ false) (same_Some (begin l.flags _ l.names) from h) off
inside_off (said.Named name) l from same off h =
    let (_, e) = guard_parts (not (is_named name l.names)) _ from h in
    subst (λ (l : Level). l.flags.case_insensitive ≡ false) (same_Some (begin l.flags _ _) from e) off
inside_off (said.Flagged to) l from same off h =
    subst (λ (l : Level). l.flags.case_insensitive ≡ false) (same_Some (begin (set_flags to l.flags) l.groups l.names) from h) (changed_off to l.flags same off)

module _ (s : Settings) where
  close_off : (l : Level) (outer : List Outside) (v : Work) → AllOff outer → close s l outer ≡ Some v → Off v
  close_off l [] v all h = absurd (none-some v h)
  close_off l (f ∷ outer) v all h =
      let (body, _, next) = some_parts (whole s l) _ v h in
      let (p, _, same) = some_parts (closed s (f.0) body) _ v next in
      subst Off (same_Some (work (record (f.1) { groups = l.groups; names = l.names }) (Some p) outer) v same) (all.0, all.1)

  step_off : (k : said.Said) (l : Level) (outer : List Outside) (v : Work) → KeepsCase k → l.flags.case_insensitive ≡ false → AllOff outer → step s k l outer ≡ Some v → Off v
  step_off (said.Stands k) l outer v same off all h =
      let (p, _, is) = some_parts (sense_part s l.flags k) _ v h in subst Off (same_Some (work l (Some p) outer) v is) (off, all)
  step_off said.Bar l outer v same off all h =
      let (m, ended, is) = some_parts (end_branch s l) _ v h in
      let (branch, _, made) = some_parts (join s concat_of l.items) _ m ended in
      let flags = subst (λ (m : Level). m.flags.case_insensitive ≡ false)
      (same_Some (record l { branches = with_part branch l.branches; items = no_parts }) m made) off in
      subst Off (same_Some (work m None outer) v is) (flags, all)
  step_off (said.Setting to) l outer v same off all h =
      subst Off (same_Some (work (add (leaf empty) (record l { flags = set_flags to l.flags })) None outer) v h) (changed_off to l.flags same off, all)
  step_off (said.Opens k) l outer v same off all h =
      let (from, into, is) = some_parts (inside k l) _ v h in
      subst Off (same_Some (work from None ((tie k l, nameless l) ∷ outer)) v is) (inside_off k l from same off into, (off, all))
  step_off said.Closes l outer v same off all h = close_off l outer v all h
  step_off (said.Repeats b) l outer v same off all h = absurd (none-some v h)

  take_off : (k : said.Said) (w v : Work) → KeepsCase k → Off w → take_said s k w ≡ Some v → Off v
  take_off (said.Repeats b) w v same off h =
      let (p, _, next) = some_parts w.last _ v h in
      let (q, _, is) = some_parts (repeated_once s w.level.flags b p) _ v next in
      subst Off (same_Some (work w.level (Some q) w.outer) v is) off
  take_off (said.Stands k) w v same off h = step_off (said.Stands k) (settled w.last w.level) w.outer v same (settled_off w.last w.level (off.0)) (off.1) h
  take_off said.Bar w v same off h = step_off said.Bar (settled w.last w.level) w.outer v same (settled_off w.last w.level (off.0)) (off.1) h
  take_off (said.Setting to) w v same off h = step_off (said.Setting to) (settled w.last w.level) w.outer v same (settled_off w.last w.level (off.0)) (off.1) h
  take_off (said.Opens k) w v same off h = step_off (said.Opens k) (settled w.last w.level) w.outer v same (settled_off w.last w.level (off.0)) (off.1) h
  take_off said.Closes w v same off h = step_off said.Closes (settled w.last w.level) w.outer v same (settled_off w.last w.level (off.0)) (off.1) h

  -- ---- pieces

  module _ (f : Flags) (off : f.case_insensitive ≡ false) where
    character_alike : (c : ℕ) (a b : Re) → char_re s f c ≡ Some a → IsCharacter s f c b → a ≡ b
    character_alike c a _ h (plain _ single) =
        same_Some a (literal_of (encode_utf8_all (c ∷ []))) (sym h
        ∙ ap (λ x. if x && is_letter c then set_re s f (class_of f.unicode true false ((c, c) ∷ [])) else Some (literal_of (encode_utf8_all (c ∷ [])))) off)
    character_alike c a _ h (cases _ b folded is) = absurd (true≢false (sym folded ∙ ap (λ x. x && has_cases f.unicode c) off))

    low_alike : (b : ℕ) (x : Re) → is_high f b ≡ false → byte_re s f b ≡ Some x → char_re s f b ≡ Some x
    low_alike b x low h = sym (ap (λ y. if y then (not s.utf8 >> Some (literal_of (b ∷ []))) else char_re s f b) low) ∙ h

    high_alike : (b : ℕ) (x : Re) → is_high f b ≡ true → s.utf8 ≡ false → byte_re s f b ≡ Some x → x ≡ literal_of (b ∷ [])
    high_alike b x high bytes h = same_Some x (literal_of (b ∷ [])) (sym h
        ∙ ap (λ y. if y then (not s.utf8 >> Some (literal_of (b ∷ []))) else char_re s f b) high ∙ ap (λ y. not y >> Some (literal_of (b ∷ []))) bytes)

    char_piece : (c : ℕ) (p q : Subpattern) → sense_part s f (said.Character c) ≡ Some p → IsPiece s f (piece.Character c) q → p ≡ q
    char_piece c p _ h (character _ re is) =
        let (a, says, same) = some_parts (char_re s f c) (λ re. Some (leaf re)) p h in
        sym (same_Some (leaf a) p same) ∙ ap leaf (character_alike c a re says is)

    byte_piece : (b : ℕ) (p q : Subpattern) → sense_part s f (said.Byte b) ≡ Some p → IsPiece s f (piece.Byte b) q → p ≡ q
    byte_piece b p _ h (low_byte _ re low is) =
        let (a, says, same) = some_parts (byte_re s f b) (λ re. Some (leaf re)) p h in
        sym (same_Some (leaf a) p same) ∙ ap leaf (character_alike b a re (low_alike b a low says) is)
    byte_piece b p _ h (high_byte _ high bytes) =
        let (a, says, same) = some_parts (byte_re s f b) (λ re. Some (leaf re)) p h in
        sym (same_Some (leaf a) p same) ∙ ap leaf (high_alike b a high bytes says)

    dot_piece : (p q : Subpattern) → sense_part s f said.Dot ≡ Some p → IsPiece s f piece.Dot q → p ≡ q
    dot_piece p _ h (dot has) =
        let (_, same) = guard_parts (has_dot s f) (Some (leaf (dot_of (dot_kind s f)))) p h in sym (same_Some (leaf (dot_of (dot_kind s f))) p same)

    assertion_piece : (a : Assertion) (p q : Subpattern) → sense_part s f (said.Asserts a) ≡ Some p → IsPiece s f (piece.Asserts a) q → p ≡ q
    assertion_piece a p _ h (asserts _) = sym (same_Some _ p h)

-- ---- one mark

-- x holds around none of the groups that are open
abbrev NoneVerbose : List Bool → Type 0
NoneVerbose [] = Unit {0}
NoneVerbose (x ∷ xs) = (x ≡ false) × NoneVerbose xs

abbrev Arrives : Work → Characters → State → Characters → Type 0
Arrives v u n t = (n.work ≡ v) × (n.verbose ≡ false) × NoneVerbose n.around × (u ≡ t)

arrives : (v : Work) (x : Bool) (xs : List Bool) (n : State) (u t : Characters) → state v x xs ≡ n → x ≡ false → NoneVerbose xs → u ≡ t → Arrives v u n t
arrives v x xs n u t same off none e = subst (λ n. Arrives v u n t) same (refl, off, none, e)

module _ (s : Settings) where
  taken : (k : said.Said) (w v : Work) (x : Bool) (xs : List Bool) (n : State) (u t : Characters) → take_said s k w ≡ Some v → x ≡ false → NoneVerbose xs →
      (take_said s k w >>= λ w. Some (state w x xs)) ≡ Some n → u ≡ t → Arrives v u n t
  taken k w v x xs n u t takes off none h e =
      let (y, is, same) = took s k w x xs n h in
      arrives v x xs n u t (ap (λ w. state w x xs) (same_Some v y (sym takes ∙ is)) ∙ same) off none e

  closed_taken : (w v : Work) (xs : List Bool) (n : State) (u t : Characters) → take_said s said.Closes w ≡ Some v → NoneVerbose xs → shut s w xs ≡ Some n → u ≡ t → Arrives v u n t
  closed_taken w v [] n u t takes none h e = absurd (none-some n h)
  closed_taken w v (x ∷ xs) n u t takes none h e = taken said.Closes w v x xs n u t takes (none.0) (none.1) h e

  -- the item that both add
  item_taken : (k : said.Sense) (w v : Work) (xs : List Bool) (n : State) (u t : Characters) (q : Subpattern) → take_said s (said.Stands k) w ≡ Some v → NoneVerbose xs →
      ((p : Subpattern) → sense_part s w.level.flags k ≡ Some p → p ≡ q) → state (work (settled w.last w.level) (Some q) w.outer) false xs ≡ n → u ≡ t → Arrives v u n t
  item_taken k w v xs n u t q takes none alike same e =
      let l = settled w.last w.level in
      let (p, says, is) = some_parts (sense_part s l.flags k) (λ p. Some (work l (Some p) w.outer)) v takes in
      let one = alike p (subst (λ f. sense_part s f k ≡ Some p) (same_flags w.last w.level) says) in
      let there : work l (Some q) w.outer ≡ v = ap (λ p. work l (Some p) w.outer) (sym one) ∙ same_Some (work l (Some p) w.outer) v is in
      arrives v false xs n u t (ap (λ w. state w false xs) (sym there) ∙ same) refl none e

  moves_alike : (k : said.Said) (w v : Work) (xs : List Bool) (n : State) (u t : Characters) → IsSame k → w.level.flags.case_insensitive ≡ false →
      take_said s k w ≡ Some v → NoneVerbose xs → Moves s (as_mark k) (state w false xs) u n t → Arrives v u n t
  moves_alike said.Bar w v xs n u t same off takes none (h, e) = taken said.Bar w v false xs n u t takes refl none h e
  moves_alike said.Closes w v xs n u t same off takes none (h, e) = closed_taken w v xs n u t takes none h e
  moves_alike (said.Setting to) w v xs n u t same off takes none (h, e) = taken (said.Setting to) w v false xs n u t takes refl none h e
  moves_alike (said.Opens k) w v xs n u t same off takes none (h, e) = taken (said.Opens k) w v false (false ∷ xs) n u t takes refl (refl, none) h e
  moves_alike (said.Repeats b) w v xs n u t same off takes none (h, e) = taken (said.Repeats b) w v false xs n u t takes refl none h e
  moves_alike (said.Stands (said.Character c)) w v xs n u t same off takes none (q, is, there, e) =
      item_taken (said.Character c) w v xs n u t q takes none (λ p h. char_piece s w.level.flags off c p q h is) there e
  moves_alike (said.Stands (said.Byte b)) w v xs n u t same off takes none (q, is, there, e) =
      item_taken (said.Byte b) w v xs n u t q takes none (λ p h. byte_piece s w.level.flags off b p q h is) there e
  moves_alike (said.Stands said.Dot) w v xs n u t same off takes none (q, is, there, e) =
      item_taken said.Dot w v xs n u t q takes none (λ p h. dot_piece s w.level.flags off p q h is) there e
  moves_alike (said.Stands (said.Asserts a)) w v xs n u t same off takes none (q, is, there, e) =
      item_taken (said.Asserts a) w v xs n u t q takes none (λ p h. assertion_piece s w.level.flags off a p q h is) there e
  moves_alike (said.Stands (said.PerlClass p)) w v xs n u t same off takes none m = absurd same
  moves_alike (said.Stands (said.Members negated bracket ms)) w v xs n u t same off takes none m = absurd same

  -- ---- lists

  -- the list of one class that both add
  list_part : (f : Flags) (c : CodeSet) (rs : List Range) (d : ℕ) (p q : Subpattern) → AreRangesOf f.unicode c rs → (set_re s f rs >>= λ re. deeper s re 0) ≡ Some p →
      1 ≡ d → IsListPart s f c d q → p ≡ q
  list_part f _ rs _ p _ are h one (list c d re q class deep) =
      let (a, allowed, nested) = some_parts (set_re s f rs) (λ re. deeper s re 0) p h in
      let same = same_Some a re (sym allowed ∙ ap (set_re s f) (ranges_law f.unicode c rs class.ranges are class.are_ranges) ∙ class.allowed) in
      same_Some p q (sym nested ∙ ap (λ x. deeper s x 0) same ∙ ap (λ x. deeper s re (x - 1)) one ∙ deep)

  -- behind its `[` a list of the stated grammar is one here
  list_taken : (negated bracket : Bool) (atoms : List Atom) (ms : List Member) (w v : Work) (xs : List Bool) (n : State) (u b : Characters) → is_list negated bracket (written_atoms atoms) ≡ true →
      members_of atoms ≡ Some ms → NoSets ms → w.level.flags.case_insensitive ≡ false → take_said s (said.Stands (said.Members negated bracket ms)) w ≡ Some v → NoneVerbose xs →
      Moves s mark.brackets (state w false xs) (written_if negated 94 ++ (written_if bracket 93 ++ tail atoms u)) n b → Arrives v u n b
  list_taken negated bracket atoms ms w v xs n u b good members plain_ms off takes none (c, d, q, is, part, same) =
      let f = w.level.flags in
      let k = said.Members negated bracket ms in
      let l = settled w.last w.level in
      let (p, says, _) = some_parts (sense_part s l.flags k) (λ p. Some (work l (Some p) w.outer)) v takes in
      let here = subst (λ f. sense_part s f k ≡ Some p) (same_flags w.last w.level) says in
      let (rs, are, _) = some_parts (list_ranges f.unicode bracket ms) (λ rs. set_re s f (class_of f.unicode f.case_insensitive negated rs) >>= λ re. deeper s re 0) p here in
      let (codes, built, ranges) = list_is f.unicode s.octal negated bracket atoms ms rs u good members plain_ms are in
      let front = written_if negated 94 ++ (written_if bracket 93 ++ tail atoms u) in
      let ls = list_settings s (place (state w false xs)) in
      let (one_set, one_depth, one_rest) = one_list_law ls false front codes c 1 d u b built (subst (λ x. IsList ls x front c d b) off is) in
      item_taken k w v xs n u b q takes none
      (λ p' h. alike f rs codes c d p' q off are h ranges one_set one_depth part) same one_rest
    where
      alike : (f : Flags) (rs : List Range) (codes c : CodeSet) (d : ℕ) (p q : Subpattern) → f.case_insensitive ≡ false → list_ranges f.unicode bracket ms ≡ Some rs →
          sense_part s f (said.Members negated bracket ms) ≡ Some p → AreRangesOf f.unicode codes (class_of f.unicode false negated rs) → codes ≡ c → 1 ≡ d →
          IsListPart s f c d q → p ≡ q
      alike f rs codes c d p q off are h ranges same_set one part =
          let (rs', are', next) = some_parts (list_ranges f.unicode bracket ms) (λ rs. set_re s f (class_of f.unicode f.case_insensitive negated rs) >>= λ re. deeper s re 0) p h in
          let e = same_Some rs' rs (sym are' ∙ are) in
          list_part f c (class_of f.unicode false negated rs) d p q (subst (λ x. AreRangesOf f.unicode x (class_of f.unicode false negated rs)) same_set ranges)
          (sym (ap (λ x. set_re s f (class_of f.unicode x negated rs') >>= λ re. deeper s re 0) off
          ∙ ap (λ x. set_re s f (class_of f.unicode false negated x) >>= λ re. deeper s re 0) e) ∙ next) one part

  -- ---- mark by mark

  abbrev Both : said.Said → Work → Characters → State → Characters → Type 0
  Both k v u n t = Arrives v u n t × KeepsCase k

  abbrev Front : Work → List Bool → Characters → Mark × Characters → Type 0
  Front w xs t found = read_mark (mark_settings s (place (state w false xs))) t ≡ Some found

  single_alike : (m : stated.Mark) (k : said.Said) (w v : Work) (xs : List Bool) (u : Characters) (found : Mark × Characters) (n : State) (b : Characters) → IsSingle m → is_shared m ≡ true →
      stated.said m ≡ Some k → takes_more m u ≡ false → w.level.flags.case_insensitive ≡ false → take_said s k w ≡ Some v → NoneVerbose xs → Front w xs (written m ++ u) found →
      Moves s found.0 (state w false xs) found.1 n b → Both k v u n b
  single_alike m k w v xs u found n b single sh says alone off takes none front moves =
      let same = said_same m k single sh says in
      let both = found_alike (mark_settings s (place (state w false xs))) m k u found single says alone front in
      (moves_alike k w v xs n u b same off takes none (subst (λ (r : Mark × Characters). Moves s r.0 (state w false xs) r.1 n b) (sym both) moves), same_keeps k same)

  list_alike : (negated bracket : Bool) (atoms : List Atom) (k : said.Said) (w v : Work) (xs : List Bool) (u : Characters) (found : Mark × Characters) (n : State) (b : Characters) →
      are_plain atoms ≡ true → stated.said (stated.stands (stated.brackets negated bracket atoms)) ≡ Some k → w.level.flags.case_insensitive ≡ false → take_said s k w ≡ Some v →
      NoneVerbose xs → Front w xs (written (stated.stands (stated.brackets negated bracket atoms)) ++ u) found → Moves s found.0 (state w false xs) found.1 n b → Both k v u n b
  list_alike negated bracket atoms k w v xs u found n b sh h off takes none front moves =
      let (x, is, same) = some_parts (stated.piece_says (stated.brackets negated bracket atoms)) (λ s. Some (said.Stands s)) k h in
      let (good, more) = guard_parts (is_list negated bracket (written_atoms atoms)) (members_of atoms >>= λ ms. Some (said.Members negated bracket ms)) x is in
      let (ms, members, e) = some_parts (members_of atoms) (λ ms. Some (said.Members negated bracket ms)) x more in
      let kind = same_Some (said.Stands (said.Members negated bracket ms)) k (ap (λ s. Some (said.Stands s)) (same_Some (said.Members negated bracket ms) x e) ∙ same) in
      let inner = written_if negated 94 ++ (written_if bracket 93 ++ tail atoms u) in
      let text = append_assoc (written_if negated 94) (written_if bracket 93 ++ (written_atoms atoms ++ 93 ∷ [])) u
      ∙ ap (λ t. written_if negated 94 ++ t) (append_assoc (written_if bracket 93) (written_atoms atoms ++ 93 ∷ []) u
      ∙ ap (λ t. written_if bracket 93 ++ t) (append_assoc (written_atoms atoms) (93 ∷ []) u ∙ tail_is atoms u)) in
      let both : (mark.brackets, inner) ≡ found = same_Some (mark.brackets, inner) found
      (subst (λ t. read_mark (mark_settings s (place (state w false xs))) (91 ∷ t) ≡ Some found) text front) in (
        list_taken negated bracket atoms ms w v xs n u b good members (no_sets atoms ms sh (members_are atoms ms members)) off
            (subst (λ k. take_said s k w ≡ Some v) (sym kind) takes) none (subst (λ (r : Mark × Characters). Moves s r.0 (state w false xs) r.1 n b) (sym both) moves),
        subst KeepsCase kind tt,
      )

  one_alike : (m : stated.Mark) (k : said.Said) (w v : Work) (xs : List Bool) (u : Characters) (found : Mark × Characters) (n : State) (b : Characters) → is_shared m ≡ true →
      stated.said m ≡ Some k → takes_more m u ≡ false → w.level.flags.case_insensitive ≡ false → take_said s k w ≡ Some v → NoneVerbose xs → Front w xs (written m ++ u) found →
      Moves s found.0 (state w false xs) found.1 n b → Both k v u n b
  one_alike (stated.stands (stated.brackets negated bracket atoms)) k w v xs u found n b sh says alone off takes none front moves =
      list_alike negated bracket atoms k w v xs u found n b sh says off takes none front moves
  one_alike (stated.stands (stated.character c)) k w v xs u found n b sh says alone off takes none front moves =
      single_alike (stated.stands (stated.character c)) k w v xs u found n b tt sh says alone off takes none front moves
  one_alike (stated.stands stated.dot) k w v xs u found n b sh says alone off takes none front moves =
      single_alike (stated.stands stated.dot) k w v xs u found n b tt sh says alone off takes none front moves
  one_alike (stated.stands stated.caret) k w v xs u found n b sh says alone off takes none front moves =
      single_alike (stated.stands stated.caret) k w v xs u found n b tt sh says alone off takes none front moves
  one_alike (stated.stands stated.dollar) k w v xs u found n b sh says alone off takes none front moves =
      single_alike (stated.stands stated.dollar) k w v xs u found n b tt sh says alone off takes none front moves
  one_alike (stated.stands (stated.escape e)) k w v xs u found n b sh says alone off takes none front moves =
      single_alike (stated.stands (stated.escape e)) k w v xs u found n b tt sh says alone off takes none front moves
  one_alike stated.bar k w v xs u found n b sh says alone off takes none front moves =
      single_alike stated.bar k w v xs u found n b tt sh says alone off takes none front moves
  one_alike (stated.setting f) k w v xs u found n b sh says alone off takes none front moves =
      single_alike (stated.setting f) k w v xs u found n b tt sh says alone off takes none front moves
  one_alike (stated.opens o) k w v xs u found n b sh says alone off takes none front moves =
      single_alike (stated.opens o) k w v xs u found n b tt sh says alone off takes none front moves
  one_alike stated.closes k w v xs u found n b sh says alone off takes none front moves =
      single_alike stated.closes k w v xs u found n b tt sh says alone off takes none front moves
  one_alike (stated.repeats o) k w v xs u found n b sh says alone off takes none front moves =
      single_alike (stated.repeats o) k w v xs u found n b tt sh says alone off takes none front moves

  lockstep : (ms : List stated.Mark) (w : Work) (xs : List Bool) (t : Characters) (p q : Subpattern) → Off w → NoneVerbose xs → AreShared ms → AreMarks ms t →
      run_marks s w ms ≡ Some p → Leads s (state w false xs) t q → p ≡ q
  lockstep [] w xs t p q off none shared are run l = ⊎_elim
      (λ (_, done). same_Some p q (sym run ∙ done))
      (λ (k, u, _, _, f, _, _). absurd (no_front s (state w false xs) t u k are f)) (leads_first s (state w false xs) t q l)
  lockstep (m ∷ ms) w xs t p q off none (sh, shs) (u, is, alone, are) run l =
      let (k, says, more) = some_parts (stated.said m) (λ k. take_said s k w >>= λ v. run_marks s v ms) p run in
      let (v, takes, rest) = some_parts (take_said s k w) (λ v. run_marks s v ms) p more in
      ⊎_elim
      (λ (nil, _). absurd (none-some (k, u) (sym (ap lex nil) ∙ ap lex is ∙ lex_again (written m ++ u) k u (m, says, refl, alone))))
      (λ (found, a, n, b, front, moves, next).
      let ((e, verbose, around, ends), keeps) = one_alike m k w v xs u (found, a) n b sh says alone (off.0) takes none
      (subst (λ x. read_mark (mark_settings s (place (state w false xs))) x ≡ Some (found, a)) is front) moves in
      let on : Leads s (state v false n.around) u q = subst (λ x. Leads s (state x false n.around) u q) e (subst (λ x. Leads s (state n.work x n.around) u q) verbose
      (subst (λ x. Leads s n x q) (sym ends) next)) in
      lockstep ms v n.around u p q (take_off s k w v keeps off takes) around shs are rest on)
      (leads_first s (state w false xs) t q l)

pub shared_law : SharedPatternsAlike
shared_law s text a b plain_start off r shared f =
    let (depth, l) = (marks_law s text b).0 f in
    let run = body_run s r.body (begin (first_flags s) 0 []) ∙ ap (λ o. o >>= whole s) r.is_read ∙ r.is_whole in
    ap (λ (p : Subpattern). p.re) (lockstep s (marks r.body) (fresh s) [] text (record { re = a; depth = r.depth }) (record { re = b; depth = depth })
    (off, tt) tt shared r.is_written run (subst (λ x. Leads s (state (fresh s) x []) text (record { re = b; depth = depth })) plain_start l))
