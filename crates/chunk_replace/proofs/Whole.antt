-- The replaced text of a whole content.
use Rattle.std.proofs.Common.{◌≡◌, ◌∙◌, ◌↔◌, ℕ, ◌<◌, Bool, List, [], ◌∷◌, Option, None, Result, Ok, Err, IfOk, IsTrue, true, nat_lt, length, ap, subst, sym}
use Rattle.std.specs.Prelude.{IsUtf8}
use Rattle.std.specs.Io.KnownBytes.{Appends}
use Rattle.std.proofs.lemmas.Bool.{lt-ltb, ltb-true}
use Rattle.rc_text.specs.Text.{Searched}
use Rattle.rc_text.specs.Found.{Found}
use Rattle.rc_text.specs.declared.types.MatchKind.{MatchKind}
use Rattle.rc_text.specs.declared.types.MatchKind.TheVariants.{LeftmostFirst as leftmost_first}
use Rattle.rc_pattern.specs.Re.{Re}
use Rattle.rc_parser.specs.Settings.{default_settings}
use Rattle.rc_program.specs.Kinds.{matches_by_kind}
use Rattle.rc_program.specs.Matches.{matches_left}
use Rattle.rc_program.specs.Sought.{Sought, search_for}
use Rattle.rc_program.proofs.KindLemmas.{kinds_law}
use Rattle.rc_pikevm_search.specs.Walks.{walks_left}
use Rattle.rc_settings.specs.Settings.{match_kind_of, program_settings, which_captures_of}
use Rattle.rc_settings.specs.Which.{is_grouped}
use Rattle.rc_build.specs.Fits.{sought_by}
use Rattle.rc_build.specs.Names.{names_shown}
use Rattle.rc_build.specs.TextRefusals.{AllRead}
use Rattle.rc_build.proofs.TextLemmas.{one_read}
use Rattle.api_meta.specs.Left.{captures_input, captures_left, captures_regex, captures_walks}
use Rattle.api_meta.specs.Views.{regex_kind, regex_names, regex_patterns, regex_settings, sought}
use Rattle.api_meta.specs.declared.iterators.CapturesMatches.{CapturesMatches}
use Rattle.api_meta.specs.declared.regex.Regex.{Regex}
use Rattle.regex_cursor.specs.Output.{IsWhole, whole}
use Rattle.regex_cursor.specs.Put.{Puts}
use Rattle.chunk_replace.specs.Replaced.{matches_of, replaced, replaced_by, replaced_from, replacement}
use Rattle.chunk_replace.specs.Template.{Item, template_items}
use Rattle.chunk_replace.specs.Told.{searched}
use Rattle.chunk_replace.specs.Words.{IsSubstituted, settings_in, sought_in}
use Rattle.chunk_replace.specs.declared.template.Template.{Template}
use Rattle.regex_cursor.proofs.Puts.{puts_as}

-- what is searched is the whole content
searched_whole : {C : Type 0} (r : Regex) (s : CapturesMatches C) (i : Searched) (content : List ℕ) → IsWhole content i → captures_regex s ≡ r → captures_input s ≡ i →
    searched s ≡ search_for (sought r) (whole content)
searched_whole r s i content w f e =
    ap (λ x. search_for (sought x) (captures_input s)) f ∙ ap (search_for (sought r)) e ∙ w.same (sought r)

walks_whole : (kind : MatchKind) (q : Sought) (i : Searched) (content : List ℕ) → IsWhole content i →
    walks_left kind (search_for q i) i.span.start None ≡ walks_left kind (search_for q (whole content)) 0 None
walks_whole kind q i content w =
    ap (λ x. walks_left kind x i.span.start None) (w.same q) ∙ ap (λ k. walks_left kind (search_for q (whole content)) k None) w.start

pub whole_replaced : {C T E : Type 0} (o : Result T E) (a b : Option (List ℕ)) (r : Regex) (content : List ℕ) (s : CapturesMatches C) (i : Searched) (t : Template)
    (text : List ℕ) → IsWhole content i → text ≡ content → captures_regex s ≡ r → captures_input s ≡ i →
    captures_walks s ≡ walks_left (regex_kind r) (search_for (sought r) i) i.span.start None →
    Puts o a b (replaced_from text (replacement text (regex_names (captures_regex s)) (searched s) (template_items t)) 0 (captures_walks s)) →
    Puts o a b (replaced_by r (template_items t) content)
whole_replaced o a b r content s i t text w same f e walks p =
    puts_as o a b (replaced_from text (replacement text (regex_names (captures_regex s)) (searched s) (template_items t)) 0 (captures_walks s))
    (replaced_by r (template_items t) content)
    (ap (λ x. replaced_from x (replacement x (regex_names (captures_regex s)) (searched s) (template_items t)) 0 (captures_walks s)) same
    ∙ ap (λ x. replaced_from content (replacement content (regex_names x) (searched s) (template_items t)) 0 (captures_walks s)) f
    ∙ ap (λ x. replaced_from content (replacement content (regex_names r) x (template_items t)) 0 (captures_walks s)) (searched_whole r s i content w f e)
    ∙ ap (replaced_from content (replacement content (regex_names r) (search_for (sought r) (whole content)) (template_items t)) 0)
    (walks ∙ walks_whole (regex_kind r) (sought r) i content w))
    p

pub counted : {C E : Type 0} (o : Result ℕ E) (r : Regex) (s : CapturesMatches C) (i : Searched) (content : List ℕ) → IsWhole content i →
    captures_left s ≡ matches_by_kind (regex_kind r) (search_for (sought r) i) i.span.start None → IfOk o (λ n. n ≡ length (captures_left s)) →
    IfOk o (λ n. n ≡ length (matches_of r content))
counted (Err e) r s i content w left c = tt
counted (Ok n) r s i content w left c =
    c ∙ ap (λ (l : List Found). length l)
    (left ∙ ap (λ x. matches_by_kind (regex_kind r) x i.span.start None) (w.same (sought r))
    ∙ ap (λ k. matches_by_kind (regex_kind r) (search_for (sought r) (whole content)) k None) w.start)

-- a regex of one text, by such settings
sought_default : (u : Bool) (r : Regex) (p : Re) → regex_settings r ≡ settings_in u → regex_patterns r ≡ p ∷ [] → sought r ≡ sought_in u p
sought_default u r p e f =
    ap (λ x. sought_by (program_settings x) (regex_patterns r)) e ∙ ap (sought_by (program_settings (settings_in u))) f

names_default : (u : Bool) (r : Regex) (p : Re) → regex_settings r ≡ settings_in u → regex_patterns r ≡ p ∷ [] → regex_names r ≡ names_shown true (p ∷ [])
names_default u r p e f =
    ap (λ x. names_shown (is_grouped (which_captures_of x)) (regex_patterns r)) e ∙ ap (names_shown true) f

matches_default : (u : Bool) (r : Regex) (p : Re) (content : List ℕ) → regex_settings r ≡ settings_in u → regex_patterns r ≡ p ∷ [] →
    matches_of r content ≡ matches_left (search_for (sought_in u p) (whole content)) 0 None
matches_default u r p content e f =
    ap (λ k. matches_by_kind k (search_for (sought r) (whole content)) 0 None) (ap match_kind_of e)
    ∙ kinds_law.leftmost (search_for (sought r) (whole content)) 0 None
    ∙ ap (λ q. matches_left (search_for q (whole content)) 0 None) (sought_default u r p e f)

pub substituted : (u : Bool) (text content : List ℕ) (items : List Item) (r : Regex) (a b : Option (List ℕ)) (n : ℕ) → regex_settings r ≡ settings_in u →
    (IsTrue u ↔ IsUtf8 content) →
    AllRead default_settings (text ∷ []) (regex_patterns r) → Appends a b (replaced_by r items content) → n ≡ length (matches_of r content) →
    IsSubstituted text items content a b (nat_lt 0 n)
substituted u text content items r a b n e utf8 reads p count =
    let (pattern, is, read) = one_read default_settings text (regex_patterns r) reads in
    let ms : List Found = matches_left (search_for (sought_in u pattern) (whole content)) 0 None in
    let many : n ≡ length ms = count ∙ ap (λ (l : List Found). length l) (matches_default u r pattern content e is) in
    record {
      pattern = pattern;
      read = read;
      utf8 = u;
      is_utf8 = utf8;
      put =
          subst (λ q. Appends a b (replaced leftmost_first (names_shown true (pattern ∷ [])) q items content)) (sought_default u r pattern e is)
          (subst (λ ns. Appends a b (replaced leftmost_first ns (sought r) items content)) (names_default u r pattern e is)
          (subst (λ k. Appends a b (replaced k (regex_names r) (sought r) items content)) (ap match_kind_of e) p));
      told = some_told n (length ms) many;
    }
  where
    some_told : (n m : ℕ) → n ≡ m → IsTrue (nat_lt 0 n) ↔ (0 < m)
    some_told n m e = subst (λ k. IsTrue (nat_lt 0 n) ↔ (0 < k)) e (ltb-true 0 n, lt-ltb 0 n)

pub substituted_if : {E F : Type 0} (o : Result Bool F) (s : Result ℕ E) (u : Bool) (text content : List ℕ) (items : List Item) (r : Regex) (a b : Option (List ℕ)) →
    regex_settings r ≡ settings_in u → (IsTrue u ↔ IsUtf8 content) → AllRead default_settings (text ∷ []) (regex_patterns r) →
    IfOk o (λ any. (n : ℕ) × (s ≡ Ok n) × (any ≡ nat_lt 0 n)) → Puts s a b (replaced_by r items content) → IfOk s (λ n. n ≡ length (matches_of r content)) → IfOk o (λ any. IsSubstituted text items content a b any)
substituted_if (Err f) s u text content items r a b e utf8 reads given p count = tt
substituted_if (Ok any) s u text content items r a b e utf8 reads (n, is, told) p count =
    subst (λ x. IsSubstituted text items content a b x) (sym told)
    (substituted u text content items r a b n e utf8 reads (subst (λ y. Puts y a b (replaced_by r items content)) is p)
    (subst (λ y. IfOk y (λ n. n ≡ length (matches_of r content))) is count))
