-- What a regex replaces.
use Rattle.std.proofs.Common.{◌≡◌, ◌≢◌, ◌∙◌, ℕ, ◌<◌, Bool, true, false, List, [], ◌++◌, Option, None, Some, Result, Ok, Err, IfOk, IfSome, IsTrue, nat_lt, length, ap, append-nil, refl, subst, sym}
use Rattle.std.specs.Prelude.{◌↔◌, IsUtf8}
use Rattle.std.specs.Io.KnownBytes.{Appends}
use Rattle.std.specs.Str.{is_utf8}
use Rattle.std.proofs.lemmas.Bool.{lt-ltb, ltb-true}
use Rattle.std.proofs.lemmas.Str.{IsUtf8-from_is_utf8, is_utf8-from_IsUtf8}
use Rattle.rc_text.specs.Found.{Found}
use Rattle.rc_text.specs.Text.{Searched}
use Rattle.rc_text.specs.declared.types.MatchKind.TheVariants.{All as all_matches, LeftmostFirst as leftmost_first}
use Rattle.rc_pattern.specs.Re.{Re}
use Rattle.rc_program.specs.Kinds.{matches_by_kind}
use Rattle.rc_program.specs.Sought.{may_be_empty, search_for}
use Rattle.rc_pikevm_search.specs.Walks.{walks_left}
use Rattle.rc_settings.specs.Settings.{Settings, match_kind_of, program_settings, which_captures_of}
use Rattle.rc_settings.specs.Which.{is_grouped}
use Rattle.rc_build.specs.Fits.{sought_by}
use Rattle.rc_build.specs.Names.{names_shown}
use Rattle.api_meta.specs.Views.{regex_kind, regex_patterns, regex_settings}
use Rattle.api_meta.specs.declared.regex.Regex.{Regex}
use Rattle.regex_cursor.specs.Output.{whole}
use Rattle.regex_cursor.specs.Put.{Puts}
use Rattle.chunk_replace.specs.Replaced.{matches_of, replaced, replaced_by, replaced_from, replacement}
use Rattle.chunk_replace.specs.Template.{Item, template_items}
use Rattle.chunk_replace.specs.Words.{settings_in}
use Rattle.rcsub.specs.Alike.{ReplaceAlike}
use Rattle.rcsub.specs.Replaced.{IsReplaced, Rewrites, regex_for}
use Rattle.rcsub.specs.Streamed.{IsDone}
use Rattle.rcsub.specs.declared.replacer.Replacer.{Replacer}

pub is_leftmost : (u : Bool) (x : Regex) → regex_settings x ≡ settings_in u → regex_kind x ≢ all_matches
is_leftmost u x e all = let never : leftmost_first ≡ all_matches = sym (ap match_kind_of e) ∙ all in cc

-- what was put by the regex for the text is the replaced text
pub replaced_if : {E : Type 0} (o : Result ℕ E) (r : Replacer) (u : Bool) (text : List ℕ) (a b : Option (List ℕ)) → (IsTrue u ↔ IsUtf8 text) →
    Puts o a b (replaced_by (regex_for r u) (template_items r.template) (text ++ [])) → IfOk o (λ n. n ≡ length (matches_of (regex_for r u) (text ++ []))) →
    IfOk o (λ n. (put : List ℕ) × IsReplaced r text put n × Appends a b put)
replaced_if (Err x) r u text a b utf8 put count = tt
replaced_if (Ok n) r u text a b utf8 put count = (
  replaced_by (regex_for r u) (template_items r.template) text,
  record {
    utf8 = u;
    is_utf8 = utf8;
    replaced = refl;
    counted = count ∙ ap (λ t. length (matches_of (regex_for r u) t)) (append-nil text);
  },
  subst (Appends a b) (ap (replaced_by (regex_for r u) (template_items r.template)) (append-nil text)) put,
)

-- there is a match exactly if the number isn't 0
pub some_told : (n : ℕ) → IsTrue (nat_lt 0 n) ↔ (0 < n)
some_told n = (ltb-true 0 n, lt-ltb 0 n)

pub rewritten : (left : Option (List ℕ)) (r : Replacer) (t : List ℕ) (n : ℕ) (a b : Option (List ℕ)) → IfSome left (λ xs. t ≡ xs) →
    (put : List ℕ) × IsReplaced r t put n × Appends a b put → IfSome left (λ text. Rewrites r text a b (nat_lt 0 n))
rewritten None r t n a b same p = tt
rewritten (Some text) r t n a b same (put, is, appended) = record {
  put = put;
  count = n;
  is = subst (λ x. IsReplaced r x put n) same is;
  appended = appended;
  told = some_told n;
}

-- ---- a pattern that can't match nothing

-- what is replaced, by settings and patterns
abbrev replaced_as : Settings → List Re → List Item → List ℕ → List ℕ
replaced_as st ps items text =
    replaced (match_kind_of st) (names_shown (is_grouped (which_captures_of st)) ps) (sought_by (program_settings st) ps) items text

one_search : (u : Bool) (ps : List Re) (i : Searched) → may_be_empty ps ≡ false →
    search_for (sought_by (program_settings (settings_in u)) ps) i ≡ search_for (sought_by (program_settings (settings_in false)) ps) i
one_search false ps i filled = refl
one_search true ps i filled = ap (λ b. record (search_for (sought_by (program_settings (settings_in false)) ps) i) { passes_over = b }) filled

replaced_once : (u : Bool) (ps : List Re) (items : List Item) (text : List ℕ) → may_be_empty ps ≡ false →
    replaced_as (settings_in u) ps items text ≡ replaced_as (settings_in false) ps items text
replaced_once u ps items text filled =
    ap (λ s. replaced_from text (replacement text (names_shown true ps) s items) 0 (walks_left leftmost_first s 0 None)) (one_search u ps (whole text) filled)

matches_once : (u : Bool) (ps : List Re) (text : List ℕ) → may_be_empty ps ≡ false →
    matches_by_kind leftmost_first (search_for (sought_by (program_settings (settings_in u)) ps) (whole text)) 0 None
    ≡ matches_by_kind leftmost_first (search_for (sought_by (program_settings (settings_in false)) ps) (whole text)) 0 None
matches_once u ps text filled = ap (λ s. matches_by_kind leftmost_first s 0 None) (one_search u ps (whole text) filled)

module _ (ps : List Re) (filled : may_be_empty ps ≡ false) where
  as_bytes : (u : Bool) (x : Regex) (items : List Item) (text : List ℕ) → regex_settings x ≡ settings_in u → regex_patterns x ≡ ps →
      replaced_by x items text ≡ replaced_as (settings_in false) ps items text
  as_bytes u x items text set of =
      ap (λ st. replaced_as st (regex_patterns x) items text) set ∙ ap (λ qs. replaced_as (settings_in u) qs items text) of ∙ replaced_once u ps items text filled

  in_bytes : (u : Bool) (x : Regex) (text : List ℕ) → regex_settings x ≡ settings_in u → regex_patterns x ≡ ps → matches_of x text
      ≡ matches_by_kind leftmost_first (search_for (sought_by (program_settings (settings_in false)) ps) (whole text)) 0 None
  in_bytes u x text set of =
      ap (λ st. matches_by_kind (match_kind_of st) (search_for (sought_by (program_settings st) (regex_patterns x)) (whole text)) 0 None) set
      ∙ ap (λ qs. matches_by_kind leftmost_first (search_for (sought_by (program_settings (settings_in u)) qs) (whole text)) 0 None) of
      ∙ matches_once u ps text filled

  -- a regex for texts that are UTF-8 and one for others
  pub alike : (r s : Regex) → regex_settings r ≡ settings_in false → regex_settings s ≡ settings_in true → regex_patterns r ≡ ps → regex_patterns s ≡ ps →
      ReplaceAlike r s
  alike r s set also of too items text = (
    as_bytes false r items text set of ∙ sym (as_bytes true s items text also too),
    ap (λ (l : List Found). length l) (in_bytes false r text set of ∙ sym (in_bytes true s text also too)),
  )

for_any : (r : Replacer) → ReplaceAlike r.over_bytes r.over_utf8 → (u : Bool) (items : List Item) (text : List ℕ) →
    (replaced_by r.over_bytes items text ≡ replaced_by (regex_for r u) items text) × (length (matches_of r.over_bytes text) ≡ length (matches_of (regex_for r u) text))
for_any r same true items text = same items text
for_any r same false items text = (refl, refl)

-- what was put by the regex for texts that aren't UTF-8 is the replaced text of any
pub rewritten_stream : (r : Replacer) (text : List ℕ) (a b : Option (List ℕ)) (any : Bool) → ReplaceAlike r.over_bytes r.over_utf8 →
    IsDone r.over_bytes (template_items r.template) text a b any → Rewrites r text a b any
rewritten_stream r text a b any same done =
    let u = is_utf8 text in
    let is = for_any r same u (template_items r.template) text in
    record {
      put = replaced_by (regex_for r u) (template_items r.template) text;
      count = length (matches_of (regex_for r u) text);
      is = record { utf8 = u; is_utf8 = (IsUtf8-from_is_utf8 text, is_utf8-from_IsUtf8 text); replaced = refl; counted = refl };
      appended = subst (Appends a b) is.0 done.put;
      told = subst (λ n. IsTrue any ↔ (0 < n)) is.1 done.told;
    }

pub rewritten_if : (r : Replacer) (o : Option (List ℕ)) (a b : Option (List ℕ)) (any : Bool) → ReplaceAlike r.over_bytes r.over_utf8 →
    IfSome o (λ text. IsDone r.over_bytes (template_items r.template) text a b any) → IfSome o (λ text. Rewrites r text a b any)
rewritten_if r None a b any same done = tt
rewritten_if r (Some text) a b any same done = rewritten_stream r text a b any same done
