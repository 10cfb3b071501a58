-- Lines, each replaced, one after another.
use Rattle.std.proofs.Common.{◌≡◌, ◌≢◌, ◌∙◌, ℕ, ◌+◌, ◌<◌, Bool, false, true, List, [], ◌∷◌, ◌++◌, Option, None, Some, IfSome, IsTrue, ap, append-nil, append_assoc, arith, inl, inr, length, nat_lt, refl, subst, sym, ◌⊎◌, ⊎_elim, true≢false}
use Rattle.std.proofs.lemmas.Bool.{cases_lt, lt-ltb, ltb-true}
use Rattle.std.specs.Prelude.{◌↔◌, ◌||◌, if◌then◌else◌}
use Rattle.std.specs.Io.BufRead.{DropsThrough, drop_through, ends_with_byte, strip_last, take_through}
use Rattle.std.specs.Io.KnownBytes.{Appends, IsAtEnd, Keeps}
use Rattle.regex_cursor.proofs.Grown.{Appends-nil, Appends-trans}
use Rattle.rcsub.specs.Replaced.{IsReplaced, IsReplacedByLine, RewritesLines, newline_of}
use Rattle.rcsub.specs.declared.replacer.Replacer.{Replacer}
use Rattle.rcsub.specs.Replaced.IsReplacedByLine.{line, none}

pub or_told : (a : Bool) (n : ℕ) → IsTrue (a || nat_lt 0 n) ↔ (IsTrue a ⊎ (0 < n))
or_told true n = ((λ x. inl x), (λ x. refl))
or_told false n = ((λ x. inr (ltb-true 0 n x)), (λ x. ⊎_elim (λ y. absurd (true≢false (sym y))) (lt-ltb 0 n) x))

-- a number of a sum that is not 0
one_positive : (a b : ℕ) → 0 < a + b → (0 < a) ⊎ (0 < b)
one_positive a b p = ⊎_elim (λ x. inl x) (λ x. inr (omega (arith, x, p))) (cases_lt 0 a)

module _ (r : Replacer) where
  -- Lines of a text were put, each replaced, and `left` is what is left to read.
  pub record Stands (text : List ℕ) (left old now : Option (List ℕ)) (any : Bool) : Type 0 where
    pub rest : List ℕ
    pub known : left ≡ Some rest
    pub done : List ℕ
    pub count : ℕ
    pub put : Appends old now done
    pub told : IsTrue any ↔ (0 < count)
    pub all : (puts : List ℕ) (m : ℕ) → IsReplacedByLine r rest puts m → IsReplacedByLine r text (done ++ puts) (count + m)

  pub stands_none : (text : List ℕ) (left old : Option (List ℕ)) → left ≡ Some text → Stands text left old old false
  stands_none text left old known = record {
    rest = text;
    known = known;
    done = [];
    count = 0;
    put = Appends-nil old;
    told = ((λ x. absurd (true≢false (sym x))), (λ x. absurd (omega (arith, x))));
    all = λ puts m x. let same : m ≡ 0 + m = omega arith in subst (IsReplacedByLine r text puts) same x;
  }

  -- nothing is left
  pub stands_end : (text : List ℕ) (left old now : Option (List ℕ)) (any : Bool) → Stands text left old now any → IsAtEnd left → RewritesLines r text old now any
  stands_end text left old now any s end =
      let over : s.rest ≡ [] = at_end left s.rest s.known end in
      record {
        put = s.done ++ [];
        count = s.count + 0;
        is = s.all [] 0 (subst (λ x. IsReplacedByLine r x [] 0) (sym over) none);
        appended = subst (Appends old now) (sym (append-nil s.done)) s.put;
        told = ((λ x. omega (arith, s.told.0 x)), (λ x. s.told.1 (omega (arith, x))));
      }
    where
      at_end : (left : Option (List ℕ)) (rest : List ℕ) → left ≡ Some rest → IsAtEnd left → rest ≡ []
      at_end None rest e end = cc
      at_end (Some xs) rest e end = let same : xs ≡ rest = cc in sym same ∙ end

  -- one line more, which was read and put
  pub stands_more : (text l : List ℕ) (n : ℕ) (left later old now last : Option (List ℕ)) (any : Bool) → Stands text left old now any → 0 < length l →
      IfSome left (λ xs. l ≡ take_through 10 xs) → DropsThrough left later 10 →
      (put : List ℕ) × IsReplaced r (strip_last 10 l) put n × Appends now last (put ++ newline_of l) →
      (more : Bool) → (IsTrue more ↔ (IsTrue any ⊎ (0 < n))) → Stands text later old last more
  stands_more text l n left later old now last any s some read dropped (put, is, appended) more told =
      let is_line : l ≡ take_through 10 s.rest = subst (λ x. IfSome x (λ xs. l ≡ take_through 10 xs)) s.known read in
      let gone : later ≡ Some (drop_through 10 s.rest) = subst (λ x. DropsThrough x later 10) s.known dropped in
      let filled : s.rest ≢ [] = λ none. omega (arith, some, ap length (is_line ∙ ap (take_through 10) none)) in
      let replaced : IsReplaced r (strip_last 10 (take_through 10 s.rest)) put n = subst (λ x. IsReplaced r (strip_last 10 x) put n) is_line is in
      record {
        rest = drop_through 10 s.rest;
        known = gone;
        done = s.done ++ (put ++ newline_of l);
        count = s.count + n;
        put = Appends-trans old now last s.done (put ++ newline_of l) s.put appended;
        told = one_of s.told told;
        all = λ puts m x.
            let whole = s.all (put ++ (newline_of (take_through 10 s.rest) ++ puts)) (n + m) (line s.rest put puts n m filled replaced x) in
            subst (IsReplacedByLine r text ((s.done ++ (put ++ newline_of l)) ++ puts)) (sym (add_assoc s.count n m))
            (subst (λ y. IsReplacedByLine r text y (s.count + (n + m))) (parts (newline_of l) (newline_of (take_through 10 s.rest)) puts (ap newline_of is_line)) whole);
      }
    where
      add_assoc : (a b c : ℕ) → a + b + c ≡ a + (b + c)
      add_assoc a b c = omega arith

      one_of : {A : Type 0} → (A ↔ (0 < s.count)) → (IsTrue more ↔ (A ⊎ (0 < n))) → IsTrue more ↔ (0 < s.count + n)
      one_of {A = A} e f = ((λ x. cases (f.0 x)), (λ x. f.1 (which x)))
        where
          cases : A ⊎ (0 < n) → 0 < s.count + n
          cases (inl a) = omega (arith, e.0 a)
          cases (inr b) = omega (arith, b)

          which : 0 < s.count + n → A ⊎ (0 < n)
          which p = ⊎_elim (λ x. inl (e.1 x)) (λ x. inr x) (one_positive s.count n p)

      parts : (e f puts : List ℕ) → e ≡ f → s.done ++ (put ++ (f ++ puts)) ≡ (s.done ++ (put ++ e)) ++ puts
      parts e f puts same =
          ap (λ x. s.done ++ (put ++ (x ++ puts))) (sym same) ∙ ap (λ x. s.done ++ x) (sym (append_assoc put e puts)) ∙ sym (append_assoc s.done (put ++ e) puts)

  pub ended : (o left old now : Option (List ℕ)) (any : Bool) → IfSome o (λ text. Stands text left old now any) → IsAtEnd left →
      IfSome o (λ text. RewritesLines r text old now any)
  ended None left old now any s end = tt
  ended (Some text) left old now any s end = stands_end text left old now any s end

  pub advanced : (o left later old now last : Option (List ℕ)) (any : Bool) (l : List ℕ) (n : ℕ) → IfSome o (λ text. Stands text left old now any) → 0 < length l →
      IfSome left (λ xs. l ≡ take_through 10 xs) → DropsThrough left later 10 →
      (put : List ℕ) × IsReplaced r (strip_last 10 l) put n × Appends now last (put ++ newline_of l) → IfSome o (λ text. Stands text later old last (any || nat_lt 0 n))
  advanced None left later old now last any l n s some read dropped put = tt
  advanced (Some text) left later old now last any l n s some read dropped put =
      stands_more text l n left later old now last any s some read dropped put (any || nat_lt 0 n) (or_told any n)
