-- Elements that fit a pattern, one after another.
use Rattle.std.proofs.Common.{◌≡◌, ℕ, zero, suc, ◌+◌, ◌-◌, ◌<◌, ◌≤◌, Bool, true, false, List, [], ◌∷◌, ◌++◌, map, length, take, drop, get_or, Ok, sym, ap, ◌∙◌, refl, arith, append_assoc}
use Rattle.std.specs.Fmt.{signed_decimal}
use Rattle.std.specs.Prelude.{codes, cond, negsuc}
use Rattle.std.proofs.lemmas.Fmt.{decimal_digit}
use Rattle.std.proofs.lemmas.List.{drop_all, append-nil}
use Rattle.tcl_chars.proofs.Literals.{literal_chars}
use Rattle.tcl_chars.specs.Answers.{Stops}
use Rattle.tcl_chars.specs.declared.fault.Fault.{Fault}
use Rattle.tcl_chars.specs.Texts.{literal}
use Rattle.tcl_list.specs.Elements.{elements_of}
use Rattle.tcl_lists.specs.Options.{with_options}
use Rattle.tcl_lists.specs.WordAt.{word}
use Rattle.tcl_lists.proofs.IndexLemmas.{texts_at, stops_same, stops_first, in_steps}
use Rattle.tcl_values.proofs.Placed.{one_more}
use Rattle.tcl_pages.specs.Answers.{Answer, ◌>>=◌}
use Rattle.tcl_pages.specs.Searching.{is_wanted, wanted, hit_text, first_found, found, with_search_option, plain_search, search_with, lsearch}
use Rattle.tcl_pages.specs.Texts.{Text}
use Rattle.tcl_pages.specs.Usage.{usage}
use Rattle.tcl_pages.specs.declared.lists.SearchOptions.{SearchOptions}
use Rattle.tcl_values.proofs.ElementPlaces.{length_texts}
use Rattle.tcl_values.specs.Kept.{Kept, texts}

one_later : (o : SearchOptions) (p : Text) (i : ℕ) (es : List Text) → wanted o p (suc i) es ≡ wanted o p (i + 1) es
one_later o p i es = ap (λ (j : ℕ). wanted o p j es) (one_more i)

pub fits_at : (o : SearchOptions) (p : Text) (ks : List Kept) (i : ℕ) (k : Kept) → i < length ks → k ≡ get_or ks i k → is_wanted o p k.text ≡ true
    → wanted o p i (drop i (texts ks)) ≡ (i, k.text) ∷ wanted o p (i + 1) (drop (i + 1) (texts ks))
fits_at o p ks i k h e w =
    let R : List Text = drop (i + 1) (texts ks) in
    ap (wanted o p i) (texts_at ks i k h e) ∙ ap (λ b. cond b ((i, k.text) ∷ wanted o p (suc i) R) (wanted o p (suc i) R)) w ∙ ap (λ hs. (i, k.text) ∷ hs) (one_later o p i R)

pub misses_at : (o : SearchOptions) (p : Text) (ks : List Kept) (i : ℕ) (k : Kept) → i < length ks → k ≡ get_or ks i k → is_wanted o p k.text ≡ false
    → wanted o p i (drop i (texts ks)) ≡ wanted o p (i + 1) (drop (i + 1) (texts ks))
misses_at o p ks i k h e w =
    let R : List Text = drop (i + 1) (texts ks) in
    ap (wanted o p i) (texts_at ks i k h e) ∙ ap (λ b. cond b ((i, k.text) ∷ wanted o p (suc i) R) (wanted o p (suc i) R)) w ∙ one_later o p i R

pub none_left : (o : SearchOptions) (p : Text) (ks : List Kept) (i : ℕ) → length ks ≤ i → wanted o p i (drop i (texts ks)) ≡ []
none_left o p ks i h = ap (wanted o p i) (drop_all i (texts ks) (let e = length_texts ks in omega (arith, e)))

abbrev hits : SearchOptions → List (ℕ × Text) → List Text
hits o fs = map (hit_text o.inline) fs

-- the hits so far, and those of what is left
pub hit_more : (o : SearchOptions) (p : Text) (ks : List Kept) (i : ℕ) (k : Kept) (vs all more : List Text) (v : Text) → more ≡ vs ++ v ∷ [] → i < length ks → k ≡ get_or ks i k → is_wanted o p k.text ≡ true → v ≡ hit_text o.inline (i, k.text)
    → vs ++ hits o (wanted o p i (drop i (texts ks))) ≡ all → more ++ hits o (wanted o p (i + 1) (drop (i + 1) (texts ks))) ≡ all
hit_more o p ks i k vs all more v em h e w hv so_far =
    let R : List Text = hits o (wanted o p (i + 1) (drop (i + 1) (texts ks))) in
    ap (λ us. us ++ R) em ∙ append_assoc vs (v ∷ []) R ∙ ap (λ u. vs ++ u ∷ R) hv ∙ sym (ap (λ fs. vs ++ hits o fs) (fits_at o p ks i k h e w)) ∙ so_far

pub no_hit : (o : SearchOptions) (p : Text) (ks : List Kept) (i : ℕ) (k : Kept) (vs all more : List Text) → more ≡ vs → i < length ks → k ≡ get_or ks i k → is_wanted o p k.text ≡ false
    → vs ++ hits o (wanted o p i (drop i (texts ks))) ≡ all → more ++ hits o (wanted o p (i + 1) (drop (i + 1) (texts ks))) ≡ all
no_hit o p ks i k vs all more em h e w so_far = ap (λ us. us ++ hits o (wanted o p (i + 1) (drop (i + 1) (texts ks)))) em ∙ sym (ap (λ fs. vs ++ hits o fs) (misses_at o p ks i k h e w)) ∙ so_far

pub hits_end : (o : SearchOptions) (p : Text) (ks : List Kept) (i : ℕ) (vs all : List Text) → length ks ≤ i → vs ++ hits o (wanted o p i (drop i (texts ks))) ≡ all → vs ≡ all
hits_end o p ks i vs all h so_far = sym (append-nil vs) ∙ sym (ap (λ fs. vs ++ hits o fs) (none_left o p ks i h)) ∙ so_far

pub first_is : (o : SearchOptions) (p : Text) (ks : List Kept) (i : ℕ) (k : Kept) (all : Text) (b : Bool) → i < length ks → k ≡ get_or ks i k → is_wanted o p k.text ≡ true
    → first_found b (wanted o p i (drop i (texts ks))) ≡ all → hit_text b (i, k.text) ≡ all
first_is o p ks i k all b h e w so_far = shown_first b (i, k.text) _ ∙ sym (ap (first_found b) (fits_at o p ks i k h e w)) ∙ so_far
  where
    shown_first : (b : Bool) (f : ℕ × Text) (fs : List (ℕ × Text)) → hit_text b f ≡ first_found b (f ∷ fs)
    shown_first true f fs = refl
    shown_first false f fs = refl

pub first_later : (o : SearchOptions) (p : Text) (ks : List Kept) (i : ℕ) (k : Kept) (all : Text) (b : Bool) → i < length ks → k ≡ get_or ks i k → is_wanted o p k.text ≡ false
    → first_found b (wanted o p i (drop i (texts ks))) ≡ all → first_found b (wanted o p (i + 1) (drop (i + 1) (texts ks))) ≡ all
first_later o p ks i k all b h e w so_far = sym (ap (first_found b) (misses_at o p ks i k h e w)) ∙ so_far

pub no_place : (o : SearchOptions) (p : Text) (ks : List Kept) (i : ℕ) (all v : Text) (b : Bool) → length ks ≤ i → b ≡ false → first_found b (wanted o p i (drop i (texts ks))) ≡ all → v ≡ signed_decimal (negsuc 0) → v ≡ all
no_place o p ks i all v b h f so_far hv =
    hv ∙ ap (λ ds. 45 ∷ ds) (decimal_digit 1 (omega arith)) ∙ sym (literal_chars (codes "-1") refl) ∙ sym (ap (λ x. first_found x []) f) ∙ sym (ap (first_found b) (none_left o p ks i h)) ∙ so_far

-- ---- lsearch

pub lsearch_usage : (ws : List Text) → length ws < 2 → lsearch ws ≡ usage (literal "lsearch ?-option ...? list pattern")
lsearch_usage [] h = refl
lsearch_usage (a ∷ []) h = refl
lsearch_usage (a ∷ b ∷ ws) h = absurd (omega arith)

abbrev search_rest : ℕ → List Text → SearchOptions → Answer Text
search_rest n ws o = search_with o (drop n ws)

options_first : (n : ℕ) (ws : List Text) (o : SearchOptions) → n + 2 ≡ length ws → search_with o ws ≡ (with_options with_search_option o (take n ws) >>= search_rest n ws)
options_first zero ws o h = refl
options_first (suc n) [] o h = absurd (omega arith)
options_first (suc n) (a ∷ []) o h = absurd (omega arith)
options_first (suc n) (a ∷ b ∷ []) o h = absurd (omega arith)
options_first (suc n) (a ∷ b ∷ c ∷ ws) o h =
    in_steps (with_search_option o a) (λ m. search_with m (b ∷ c ∷ ws)) (λ m. with_options with_search_option m (take n (b ∷ c ∷ ws))) (search_rest n (b ∷ c ∷ ws)) (λ m. options_first n (b ∷ c ∷ ws) m (omega arith))

last_two_from : (n : ℕ) (ws : List Text) → n + 2 ≡ length ws → drop n ws ≡ word ws n ∷ word ws (suc n) ∷ []
last_two_from zero [] h = absurd (omega arith)
last_two_from zero (a ∷ []) h = absurd (omega arith)
last_two_from zero (a ∷ b ∷ []) h = refl
last_two_from zero (a ∷ b ∷ c ∷ ws) h = absurd (omega arith)
last_two_from (suc n) [] h = absurd (omega arith)
last_two_from (suc n) (a ∷ ws) h = last_two_from n ws (omega arith)

last_two : (n : ℕ) (ws : List Text) → n + 2 ≡ length ws → drop n ws ≡ word ws n ∷ word ws (n + 1) ∷ []
last_two n ws h = last_two_from n ws h ∙ ap (λ (m : ℕ). word ws n ∷ word ws m ∷ []) (one_more n)

-- the last two words, where the options are read
pub search_at : (n : ℕ) (ws : List Text) (o : SearchOptions) → n + 2 ≡ length ws → with_options with_search_option plain_search (take n ws) ≡ Ok o
    → lsearch ws ≡ (elements_of (word ws n) >>= λ es. Ok (found o (wanted o (word ws (n + 1)) 0 es)))
search_at n ws o h e = options_first n ws plain_search h ∙ ap (λ r. r >>= search_rest n ws) e ∙ ap (search_with o) (last_two n ws h)

pub search_stops : (f : Fault) (n : ℕ) (ws : List Text) → n + 2 ≡ length ws → Stops f (with_options with_search_option plain_search (take n ws)) → Stops f (lsearch ws)
search_stops f n ws h s = stops_same f _ _ (sym (options_first n ws plain_search h)) (stops_first f _ (search_rest n ws) s)

abbrev options_are : List Text → Answer SearchOptions
options_are ws = with_options with_search_option plain_search (take (length ws - 2) ws)

two_behind : (ws : List Text) → 2 ≤ length ws → (length ws - 2) + 2 ≡ length ws
two_behind ws h = omega arith

list_place : (ws ws1 : List Text) → 2 ≤ length ws → ws1 ≡ ws → word ws1 (length ws1 - 1 - 1) ≡ word ws (length ws - 2)
list_place ws ws1 h s = ap (λ us. word us (length us - 1 - 1)) s ∙ ap (word ws) (same ws)
  where
    same : (ws : List Text) → length ws - 1 - 1 ≡ length ws - 2
    same ws = omega arith

pattern_place : (ws ws1 ws2 : List Text) → 2 ≤ length ws → ws1 ≡ ws → ws2 ≡ ws1 → word ws2 (length ws1 - 1) ≡ word ws ((length ws - 2) + 1)
pattern_place ws ws1 ws2 h s1 s2 = ap (λ us. word us (length ws1 - 1)) (s2 ∙ s1) ∙ ap (λ us. word ws (length us - 1)) s1 ∙ ap (word ws) (same ws h)
  where
    same : (ws : List Text) → 2 ≤ length ws → length ws - 1 ≡ (length ws - 2) + 1
    same ws h = omega arith

pub options_stop : (f : Fault) (ws : List Text) → 2 ≤ length ws → Stops f (options_are ws) → Stops f (lsearch ws)
options_stop f ws h s = search_stops f (length ws - 2) ws (two_behind ws h) s

pub list_stops : (f : Fault) (ws ws1 : List Text) (o : SearchOptions) → 2 ≤ length ws → ws1 ≡ ws → options_are ws ≡ Ok o → Stops f (elements_of (word ws1 (length ws1 - 1 - 1))) → Stops f (lsearch ws)
list_stops f ws ws1 o h s e stops =
    stops_same f _ _ (sym (search_at (length ws - 2) ws o (two_behind ws h) e))
    (stops_first f (elements_of (word ws (length ws - 2))) (λ es. Ok (found o (wanted o (word ws ((length ws - 2) + 1)) 0 es))) (stops_same f _ _ (ap elements_of (list_place ws ws1 h s)) stops))

pub lsearch_is : (ws ws1 ws2 es ts : List Text) (o : SearchOptions) (p v : Text) → 2 ≤ length ws → ws1 ≡ ws → ws2 ≡ ws1 → options_are ws ≡ Ok o → elements_of (word ws1 (length ws1 - 1 - 1)) ≡ Ok es
    → p ≡ word ws2 (length ws1 - 1) → ts ≡ es → v ≡ found o (wanted o p 0 ts) → lsearch ws ≡ Ok v
lsearch_is ws ws1 ws2 es ts o p v h s1 s2 eo ee ep et ev =
    search_at (length ws - 2) ws o (two_behind ws h) eo ∙ ap (λ r. r >>= λ us. Ok (found o (wanted o (word ws ((length ws - 2) + 1)) 0 us))) (sym (ap elements_of (list_place ws ws1 h s1)) ∙ ee)
    ∙ ap (λ q. Ok (found o (wanted o q 0 es))) (sym (ep ∙ pattern_place ws ws1 ws2 h s1 s2)) ∙ ap Ok (sym (ev ∙ ap (λ us. found o (wanted o p 0 us)) et))
