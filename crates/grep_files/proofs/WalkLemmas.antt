-- Walks that go on, and the entries of a folder that is entered.
use Rattle.std.proofs.Common.{ℕ, Bool, ◌≡◌, ◌+◌, ◌<◌, ◌++◌, ◌∷◌, ◌∙◌, [], false, true, List, ap, ap₂, append-nil, append_assoc, arith, drop, get_or, length, length-append, map, refl, subst, sym}
use Rattle.std.specs.Prelude.{All, IsTrue, String, string_bytes, string_cmp}
use Rattle.std.specs.Ordering.{is_lt}
use Rattle.std.specs.declared.alloc.Global.{Global}
use Rattle.std.proofs.Math.Seq.{drop-append_seam}
use Rattle.std.proofs.lemmas.Bool.{true≢false}
use Rattle.std.proofs.lemmas.List.{get_or-append-add, get_or-map, length-map}
use Rattle.std.proofs.lemmas.List.Elements.{All-drop, All-map, All-nil, All-weaker}
use Rattle.grep_files.specs.Entered.{ArePaths}
use Rattle.grep_files.specs.Walks.{AreEntries, GoesOn, IsEntered, IsEntry, IsOpen, Text}
use Rattle.grep_files.specs.Walks.GoesOn.{enters, there}
use Rattle.grep_files.specs.declared.walk.Choice.{Choice}
use Rattle.grep_files.specs.declared.walk.FoundFile.{FoundFile}

goes_further : {c : Choice} {a b d : List FoundFile} → GoesOn c a b → GoesOn c b d → GoesOn c a d
goes_further there more = more
goes_further (enters folder entries may are none_shut rest) more = enters folder entries may are none_shut (goes_further rest more)

-- one folder more is entered
pub goes_into : {c : Choice} {a : List FoundFile} (left : List FoundFile) (folder : FoundFile) (entries : List FoundFile) → GoesOn c a (folder ∷ left) → IsEntered c (string_bytes folder.path) →
    AreEntries c entries → IsOpen c (string_bytes folder.path) entries → GoesOn c a (entries ++ left)
goes_into left folder entries on may are none_shut = goes_further on (enters folder entries may are none_shut there)

-- the same of a folder that was the first that was left
pub entered_more : (c own : Choice) (a b left now entries : List FoundFile) (folder : FoundFile) (path : Text) → GoesOn c a b → b ≡ folder ∷ left → own ≡ c → IsEntered own path →
    path ≡ string_bytes folder.path → AreEntries own entries → IsOpen own (string_bytes folder.path) entries → now ≡ entries ++ left → GoesOn c a now
entered_more c own a b left now entries folder path went is same may named are none_shut put =
    let on : GoesOn c a (folder ∷ left) = subst (λ (l : List FoundFile). GoesOn c a l) is went in
    let here : IsEntered c path = subst (λ (x : Choice). IsEntered x path) same may in
    let enters_it : IsEntered c (string_bytes folder.path) = subst (λ (x : Text). IsEntered c x) named here in
    let own_are : AreEntries c entries = subst (λ (x : Choice). AreEntries x entries) same are in
    let own_open : IsOpen c (string_bytes folder.path) entries = subst (λ (x : Choice). IsOpen x (string_bytes folder.path) entries) same none_shut in
    subst (λ (l : List FoundFile). GoesOn c a l) (sym put) (goes_into left folder entries on enters_it own_are own_open)

-- a folder that is let in isn't passed over
pub not_shut : (b shut : Bool) → b ≡ shut → b ≡ false → IsTrue shut → ⊥
not_shut b shut is free h = true≢false (sym h ∙ sym is ∙ free)

pub no_entries : (c : Choice) → AreEntries c []
no_entries c = record { ordered = λ k d low high. absurd (omega (arith, high)); taken = All-nil _ }

-- ---- paths that are taken from the end, and put before what was left

abbrev Paths : Type 0
Paths = List (String Global)

abbrev found : String Global → FoundFile
found p = record { path = p; is_in_folder = true }

module _ (c : Choice) (all front back : Paths) (e : all ≡ front ++ back) (are : ArePaths c all) where
  there_in : (k : ℕ) (d : String Global) → get_or all (length front + k) d ≡ get_or back k d
  there_in k d = ap (λ (xs : Paths). get_or xs (length front + k) d) e ∙ get_or-append-add front back k d

  abbrev Goes : FoundFile → Type 0
  Goes f = (f.is_in_folder ≡ true) × IsEntry c (string_bytes f.path)

  behind_are : AreEntries c (map found back)
  behind_are = record {
    ordered = λ k d low high.
        let long : length (map found back) ≡ length back = length-map back found in
        let small : k + 1 < length back = omega (arith, high, long) in
        let whole : length all ≡ length front + length back = ap length e ∙ length-append front back in
        let upper : (get_or (map found back) (k + 1) d).path ≡ get_or all (length front + k + 1) d.path =
        ap (λ (f : FoundFile). f.path) (get_or-map found back (k + 1) d.path d small) ∙ sym (there_in (k + 1) d.path)
        ∙ ap (λ (i : ℕ). get_or all i d.path) (omega arith) in
        let lower : (get_or (map found back) k d).path ≡ get_or all (length front + k) d.path =
        ap (λ (f : FoundFile). f.path) (get_or-map found back k d.path d (omega (arith, small))) ∙ sym (there_in k d.path) in
        ap₂ (λ (x y : String Global). is_lt (string_cmp x y)) upper lower ∙ are.ordered (length front + k) d.path (omega arith) (omega (arith, small, whole));
    taken = All-map Goes found back (All-weaker (λ (p : String Global). IsEntry c (string_bytes p)) (λ (p : String Global). Goes (found p)) (λ p h. (refl, h)) back
        (subst (All (λ (p : String Global). IsEntry c (string_bytes p))) (ap (drop (length front)) e ∙ drop-append_seam front back) (All-drop (λ (p : String Global). IsEntry c (string_bytes p)) (length front) all are.taken)));
  }

-- Of all paths some are left, and the others stand before what was left.
pub record Moved (all : Paths) (before : List FoundFile) (paths : Paths) (now : List FoundFile) : Type 0 where
  pub back : Paths
  pub cut : all ≡ paths ++ back
  pub is : now ≡ map found back ++ before

pub none_moved : (all : Paths) (before : List FoundFile) → Moved all before all before
none_moved all before = record { back = []; cut = sym (append-nil all); is = refl }

pub one_moved : {all : Paths} {before : List FoundFile} {paths : Paths} {now : List FoundFile} (less : Paths) (p : String Global) → Moved all before paths now → paths ≡ less ++ p ∷ [] →
    Moved all before less (found p ∷ now)
one_moved less p moved e = record {
  back = p ∷ moved.back;
  cut = moved.cut ∙ ap (λ (l : Paths). l ++ moved.back) e ∙ append_assoc less (p ∷ []) moved.back;
  is = ap (λ (l : List FoundFile). found p ∷ l) moved.is;
}

pub moved_are : {all : Paths} {before : List FoundFile} {paths : Paths} {now : List FoundFile} (c : Choice) → ArePaths c all → Moved all before paths now →
    (entries : List FoundFile) × AreEntries c entries × (now ≡ entries ++ before)
moved_are {all} {before} {paths} {now} c are moved = (map found moved.back, behind_are c all paths moved.back moved.cut are, moved.is)
