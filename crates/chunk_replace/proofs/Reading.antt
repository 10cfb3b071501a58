-- How templates are read.
use Rattle.std.proofs.Common.{◌≡◌, ◌≢◌, ◌∙◌, ℕ, zero, suc, ◌+◌, ◌-◌, ◌<◌, ◌≤◌, inl, inr, List, [], ◌∷◌, ◌++◌, length, get_or, map, Bool, true, false, ◌&&◌, IsTrue, Option, Some, None, ap, sym, subst, refl, arith, append_assoc, append-nil, length-append}
use Rattle.std.specs.Borrow.{Bor}
use Rattle.std.specs.List.{flat_map}
use Rattle.std.specs.Str.Parse.{AllDigits}
use Rattle.std.proofs.lemmas.Grind.{flat_map-append}
use Rattle.std.proofs.lemmas.Str.Parse.{not_in_digits, numerals_by_value, tells_digits}
use Rattle.std.proofs.lemmas.Str.Pattern.{IsSplitOnceResult, split_after, split_parts}
use Rattle.rc_tokens.specs.Text.{each}
use Rattle.rc_tokens.specs.Marks.{begins_name, goes_on_name, is_name}
use Rattle.chunk_replace.specs.Template.{byte, group, named, Item, IsMarked, IsNumber, IsReadAs, IsReference, IsRefusedAt, IsWritten, items_of}
use Rattle.chunk_replace.specs.declared.template.Part.{Part}
use Rattle.chunk_replace.specs.declared.template.Part.TheVariants.{Literal}
use Rattle.chunk_replace.specs.Marks.{IsNoReference, IsUnmarked, Marks, Refers}

never : IsTrue false → ⊥
never h = cc

-- both tests hold
both : (a b : Bool) → IsTrue (a && b) → IsTrue a × IsTrue b
both true b h = (refl, h)
both false b h = absurd (never h)

-- no byte of a name is a closing brace
goes_on_open : (c : ℕ) → IsTrue (goes_on_name c) → c ≢ 125
goes_on_open c h e = let g : IsTrue (goes_on_name 125) = subst (λ x. IsTrue (goes_on_name x)) e h in never g

begins_open : (c : ℕ) → IsTrue (begins_name c) → c ≢ 125
begins_open c h e = let g : IsTrue (begins_name 125) = subst (λ x. IsTrue (begins_name x)) e h in never g

each_open : (t : List ℕ) → IsTrue (each goes_on_name t) → (k : ℕ) → k < length t → get_or t k 0 ≢ 125
each_open [] h k l = absurd (omega (arith, l))
each_open (c ∷ t) h zero l = goes_on_open c (both (goes_on_name c) (each goes_on_name t) h).0
each_open (c ∷ t) h (suc k) l = each_open t (both (goes_on_name c) (each goes_on_name t) h).1 k (omega (arith, l))

name_open : (t : List ℕ) → IsTrue (is_name t) → (k : ℕ) → k < length t → get_or t k 0 ≢ 125
name_open [] h k l = absurd (never h)
name_open (c ∷ t) h zero l = begins_open c (both (begins_name c) (each goes_on_name t) h).0
name_open (c ∷ t) h (suc k) l = each_open t (both (begins_name c) (each goes_on_name t) h).1 k (omega (arith, l))

-- nor a digit
number_open : (t : List ℕ) → IsNumber t → (k : ℕ) → k < length t → get_or t k 0 ≢ 125
number_open t n = not_in_digits (numerals_by_value (AllDigits 10) tells_digits) t 125 n.digits.1 (λ r. omega (arith, r))

-- a word that refers to a group has no closing brace
pub word_open : (i : Item) (word : List ℕ) → IsReference i word → (k : ℕ) → k < length word → get_or word k 0 ≢ 125
word_open (byte b) word r = absurd r
word_open (group n) word r = number_open word r.0
word_open (named name) word r = name_open word r.0

-- a text that begins with neither a `$` nor a word in braces that refers to a group
unmarked : (text : List ℕ) → ((rest : List ℕ) → text ≢ 36 ∷ rest) → ((i : Item) (word rest : List ℕ) → IsReference i word → text ≢ 123 ∷ (word ++ 125 ∷ rest)) →
    IsUnmarked text
unmarked text a b (byte n) mark rest (e, m) s = a rest (s ∙ ap (λ l. l ++ rest) m)
unmarked text a b (group n) mark rest (word, r, m) s =
    b (group n) word rest r (s ∙ ap (λ l. l ++ rest) m ∙ ap (λ l. 123 ∷ l) (append_assoc word (125 ∷ []) rest))
unmarked text a b (named name) mark rest (word, r, m) s =
    b (named name) word rest r (s ∙ ap (λ l. l ++ rest) m ∙ ap (λ l. 123 ∷ l) (append_assoc word (125 ∷ []) rest))

-- no brace opens
pub unopened : (text : List ℕ) → ((rest : List ℕ) → text ≢ 36 ∷ rest) → ((rest : List ℕ) → text ≢ 123 ∷ rest) → IsUnmarked text
unopened text a b = unmarked text a (λ i word rest r e. b (word ++ 125 ∷ rest) e)

tail_same : (b : ℕ) (xs ys zs : List ℕ) → xs ≡ b ∷ ys → xs ≡ b ∷ zs → ys ≡ zs
tail_same b xs ys zs p q = cc

-- one opens and none closes
pub unclosed : (text inner : List ℕ) (r : Option (Bor (List ℕ) × Bor (List ℕ))) → ((rest : List ℕ) → text ≢ 36 ∷ rest) → text ≡ 123 ∷ inner →
    IsSplitOnceResult 125 inner r → r ≡ None → IsUnmarked text
unclosed text inner r a o s none =
    unmarked text a
    (λ i word rest ref e.
    let m = split_after 125 inner word rest r s (omega arith) (tail_same 123 text inner (word ++ 125 ∷ rest) o e) (word_open i word ref) in
    rw none at m)

-- the word between refers to no group
pub unreferred : (text inner : List ℕ) (x : Bor (List ℕ) × Bor (List ℕ)) → ((rest : List ℕ) → text ≢ 36 ∷ rest) → text ≡ 123 ∷ inner →
    IsSplitOnceResult 125 inner (Some x) → IsNoReference x.0.now → IsUnmarked text
unreferred text inner x a o s none =
    unmarked text a
    (λ i word rest ref e.
    let m = split_after 125 inner word rest (Some x) s (omega arith) (tail_same 123 text inner (word ++ 125 ∷ rest) o e) (word_open i word ref) in
    none i (subst (IsReference i) (sym m.0) ref))

group_marked : (i : Item) (word : List ℕ) → IsReference i word → IsMarked i (123 ∷ (word ++ 125 ∷ []))
group_marked (byte b) word r = absurd r
group_marked (group n) word r = (word, r, refl)
group_marked (named name) word r = (word, r, refl)

-- it does
pub marks_group : (text inner : List ℕ) (x : Bor (List ℕ) × Bor (List ℕ)) (items : List Item) → text ≡ 123 ∷ inner → IsSplitOnceResult 125 inner (Some x) →
    Refers x.0.now items → Marks text items x.1.now
marks_group text inner x items o s r = record {
  item = r.item;
  one = r.one;
  mark = 123 ∷ (x.0.now ++ 125 ∷ []);
  marked = group_marked r.item x.0.now r.refers;
  split =
      o ∙ ap (λ l. 123 ∷ l) (split_parts 125 inner (Some x) s (omega arith)).0
      ∙ ap (λ l. 123 ∷ l) (sym (append_assoc x.0.now (125 ∷ []) x.1.now));
}

-- Items, one after another.

pub read_more : (xs ys : List Item) (a b : List ℕ) → IsReadAs xs a → IsReadAs ys b → IsReadAs (xs ++ ys) (a ++ b)
read_more [] ys a b e q = subst (IsReadAs ys) (ap (λ l. l ++ b) (sym e)) q
read_more (i ∷ xs) ys a b (written, rest, w, r, e) q =
    (written, rest ++ b, w, read_more xs ys rest b r q, ap (λ l. l ++ b) e ∙ append_assoc written rest b)

read_literal : (t : List ℕ) → ((k : ℕ) → k < length t → get_or t k 0 ≢ 36) → IsReadAs (map byte t) t
read_literal [] none = refl
read_literal (b ∷ t) none =
    (b ∷ [], t, inl (b, refl, none 0 (omega arith), refl), read_literal t (λ k l. none (suc k) (omega (arith, l))), refl)

read_mark : (i : Item) (mark : List ℕ) → IsMarked i mark → IsReadAs (i ∷ []) (36 ∷ mark)
read_mark i mark m = (36 ∷ mark, [], inr (mark, m, refl), refl, sym (append-nil (36 ∷ mark)))

-- Parts of which the first so many bytes are read.
pub record Reads (text : List ℕ) (parts : List Part) (rest : List ℕ) : Type 0 where
  pub before : List ℕ
  pub read : IsReadAs (flat_map items_of parts) before
  pub split : text ≡ before ++ rest

pub reads_none : (text : List ℕ) → Reads text [] text
reads_none text = record { before = []; read = refl; split = refl }

parts_more : (parts : List Part) (p : Part) (before more : List ℕ) → IsReadAs (flat_map items_of parts) before → IsReadAs (items_of p) more →
    IsReadAs (flat_map items_of (parts ++ p ∷ [])) (before ++ more)
parts_more parts p before more r q =
    subst (λ is. IsReadAs is (before ++ more))
    (sym (flat_map-append items_of parts (p ∷ []) ∙ ap (λ l. flat_map items_of parts ++ l) (append-nil (items_of p))))
    (read_more (flat_map items_of parts) (items_of p) before more r q)

-- the text up to a `$`
pub reads_literal : (text : List ℕ) (parts : List Part) (rest : List ℕ) (x : Bor (List ℕ) × Bor (List ℕ)) → Reads text parts rest →
    IsSplitOnceResult 36 rest (Some x) → Reads text (parts ++ Literal x.0 ∷ []) (36 ∷ x.1.now)
reads_literal text parts rest x r s =
    let h = split_parts 36 rest (Some x) s (omega arith) in
    record {
      before = r.before ++ x.0.now;
      read = parts_more parts (Literal x.0) r.before x.0.now r.read (read_literal x.0.now h.1);
      split = r.split ∙ ap (λ l. r.before ++ l) h.0 ∙ sym (append_assoc r.before x.0.now (36 ∷ x.1.now));
    }

-- and what the `$` marks
pub reads_mark : (text : List ℕ) (parts : List Part) (mark : List ℕ) (p : Part) (rest : List ℕ) → Reads text parts (36 ∷ mark) → Marks mark (items_of p) rest →
    Reads text (parts ++ p ∷ []) rest
reads_mark text parts mark p rest r m = record {
  before = r.before ++ 36 ∷ m.mark;
  read = parts_more parts p r.before (36 ∷ m.mark) r.read (subst (λ is. IsReadAs is (36 ∷ m.mark)) (sym m.one) (read_mark m.item m.mark m.marked));
  split = r.split ∙ ap (λ l. r.before ++ 36 ∷ l) m.split ∙ sym (append_assoc r.before (36 ∷ m.mark) rest);
}

-- the last text, which has no `$`
pub reads_all : (text : List ℕ) (parts : List Part) (last : Bor (List ℕ)) → Reads text parts last.now → IsSplitOnceResult 36 last.now None →
    IsReadAs (flat_map items_of (parts ++ Literal last ∷ [])) text
reads_all text parts last r s =
    subst (IsReadAs (flat_map items_of (parts ++ Literal last ∷ []))) (sym r.split)
    (parts_more parts (Literal last) r.before last.now r.read (read_literal last.now (split_parts 36 last.now None s (omega arith))))

-- the mark is shorter than the text by a byte or more
pub is_longer : (text : List ℕ) (parts : List Part) (mark : List ℕ) → Reads text parts (36 ∷ mark) → length mark + 1 ≤ length text
is_longer text parts mark r = omega (arith, ap length r.split, length-append r.before (36 ∷ mark))

head_same : (a b : ℕ) (xs ys : List ℕ) → a ∷ xs ≡ b ∷ ys → a ≡ b
head_same a b xs ys e = cc

unwritten : (mark : List ℕ) → IsUnmarked mark → (i : Item) (written rest : List ℕ) → IsWritten i written → ¬ (36 ∷ mark ≡ written ++ rest)
unwritten mark u i written rest (inl (b, is, other, w)) e = other (sym (head_same 36 b mark rest (e ∙ ap (λ l. l ++ rest) w)))
unwritten mark u i written rest (inr (other, m, w)) e = u i other rest m (tail_same 36 (36 ∷ mark) mark (other ++ rest) refl (e ∙ ap (λ l. l ++ rest) w))

-- the `$` marks nothing
pub refused : (text : List ℕ) (parts : List Part) (mark : List ℕ) (at : ℕ) → Reads text parts (36 ∷ mark) → IsUnmarked mark → at ≡ length text - length mark - 1 →
    IsRefusedAt text at
refused text parts mark at r u e = record {
  items = flat_map items_of parts;
  before = r.before;
  after = 36 ∷ mark;
  read = r.read;
  split = r.split;
  place = omega (arith, e, ap length r.split, length-append r.before (36 ∷ mark));
  goes_on = omega arith;
  unread = unwritten mark u;
}

-- one mark more
pub reads_step : (text : List ℕ) (parts more all : List Part) (rest : List ℕ) (x : Bor (List ℕ) × Bor (List ℕ)) (p : Part) (after : List ℕ) →
    Reads text parts rest → IsSplitOnceResult 36 rest (Some x) → more ≡ parts ++ Literal x.0 ∷ [] → all ≡ more ++ p ∷ [] → Marks x.1.now (items_of p) after →
    Reads text all after
reads_step text parts more all rest x p after r s e f m =
    subst (λ ps. Reads text ps after) (sym (f ∙ ap (λ l. l ++ p ∷ []) e)) (reads_mark text (parts ++ Literal x.0 ∷ []) x.1.now p after (reads_literal text parts rest x r s) m)
