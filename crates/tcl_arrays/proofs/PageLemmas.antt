-- Pages, by the readings of their words.
use Rattle.std.proofs.Common.{◌≡◌, ◌≢◌, ◌≤◌, ◌<◌, ℕ, Bool, List, [], ◌∷◌, length, Option, Some, None, Ok, refl, sym, ap, ◌∙◌, arith}
use Rattle.std.specs.Prelude.{is_some, ◌&&◌, if◌then◌else◌}
use Rattle.std.specs.FinMap as map
use Rattle.tcl_arguments.specs.WordAt.{word}
use Rattle.tcl_arguments.specs.UpToOne.{up_to_one}
use Rattle.tcl_chars.specs.Texts.{literal}
use Rattle.tcl_frames.specs.Standing.{Standing, store_of}
use Rattle.tcl_list.specs.Written.{written}
use Rattle.tcl_meaning.specs.Arrays.{array_of, elements, name_fits, names_among, pairs_among, spot_named}
use Rattle.tcl_meaning.specs.SeenPages.{array_names, array_get, array_exists, array_size, is_there_at, exists_here, info_exists, info_level, info_vars, variables_among, frame_names}
use Rattle.tcl_meaning.specs.State.{Commands, Store, active_frame}
use Rattle.tcl_pages.specs.Answers.{◌>>=◌}
use Rattle.tcl_pages.specs.Arguments.{one_argument, one_or_two}
use Rattle.tcl_pages.specs.Results.{truth_text}
use Rattle.tcl_pages.specs.Texts.{Text, count_text}
use Rattle.tcl_pages.specs.Usage.{usage}

pub names_is : (s : Store) (ws : List Text) → array_names s ws ≡ (one_or_two (literal "array names arrayName ?pattern?") ws >>= λ w. Ok (written (names_among w.1 (map.entries (elements s w.0)))))
names_is s [] = refl
names_is s (a ∷ []) = refl
names_is s (a ∷ b ∷ []) = refl
names_is s (a ∷ b ∷ c ∷ ws) = refl

pub get_is : (s : Store) (ws : List Text) → array_get s ws ≡ (one_or_two (literal "array get arrayName ?pattern?") ws >>= λ w. Ok (written (pairs_among w.1 (map.entries (elements s w.0)))))
get_is s [] = refl
get_is s (a ∷ []) = refl
get_is s (a ∷ b ∷ []) = refl
get_is s (a ∷ b ∷ c ∷ ws) = refl

pub exists_is : (s : Store) (ws : List Text) → array_exists s ws ≡ (one_argument (literal "array exists arrayName") ws >>= λ name. Ok (truth_text (is_some (array_of s name))))
exists_is s [] = refl
exists_is s (a ∷ []) = refl
exists_is s (a ∷ b ∷ ws) = refl

pub size_is : (s : Store) (ws : List Text) → array_size s ws ≡ (one_argument (literal "array size arrayName") ws >>= λ name. Ok (count_text (map.len (elements s name))))
size_is s [] = refl
size_is s (a ∷ []) = refl
size_is s (a ∷ b ∷ ws) = refl

pub there_is : (s : Store) (ws : List Text) → info_exists s ws ≡ (one_argument (literal "info exists varName") ws >>= λ name. Ok (truth_text (is_there_at s (spot_named s name))))
there_is s [] = refl
there_is s (a ∷ []) = refl
there_is s (a ∷ b ∷ ws) = refl

pub level_is : (s : Store) (ws : List Text) → length ws ≡ 0 → info_level s ws ≡ Ok (count_text (active_frame s).level)
level_is s [] h = refl
level_is s (a ∷ ws) h = absurd (omega arith)

pub level_usage : (s : Store) (ws : List Text) → length ws ≢ 0 → info_level s ws ≡ usage (literal "info level")
level_usage s [] h = absurd (h refl)
level_usage s (a ∷ ws) h = refl

pub vars_is : (s : Store) (ws : List Text) → info_vars s ws ≡ (up_to_one (literal "info vars ?pattern?") ws >>= λ p. Ok (written (variables_among s p (map.entries (frame_names (active_frame s))))))
vars_is s [] = refl
vars_is s (a ∷ []) = refl
vars_is s (a ∷ b ∷ ws) = refl

-- ---- what is answered once the words are read, and a name is seen as it was read

module _ (s : Store) (ws : List Text) where
  pub names_answer : (name seen : Text) (pattern : Option Text) (listed : List Text) (value : Text) → one_or_two (literal "array names arrayName ?pattern?") ws ≡ Ok (name, pattern) → seen ≡ name
      → listed ≡ names_among pattern (map.entries (elements s seen)) → value ≡ written listed → array_names s ws ≡ Ok value
  names_answer name seen pattern listed value r e h v =
      names_is s ws ∙ ap (λ x. x >>= λ w. Ok (written (names_among w.1 (map.entries (elements s w.0))))) r
      ∙ ap (λ n. Ok (written (names_among pattern (map.entries (elements s n))))) (sym e) ∙ ap (λ l. Ok (written l)) (sym h) ∙ ap Ok (sym v)

  pub get_answer : (name seen : Text) (pattern : Option Text) (listed : List Text) (value : Text) → one_or_two (literal "array get arrayName ?pattern?") ws ≡ Ok (name, pattern) → seen ≡ name
      → listed ≡ pairs_among pattern (map.entries (elements s seen)) → value ≡ written listed → array_get s ws ≡ Ok value
  get_answer name seen pattern listed value r e h v =
      get_is s ws ∙ ap (λ x. x >>= λ w. Ok (written (pairs_among w.1 (map.entries (elements s w.0))))) r
      ∙ ap (λ n. Ok (written (pairs_among pattern (map.entries (elements s n))))) (sym e) ∙ ap (λ l. Ok (written l)) (sym h) ∙ ap Ok (sym v)

  pub exists_answer : (name seen : Text) (b : Bool) (value : Text) → one_argument (literal "array exists arrayName") ws ≡ Ok name → seen ≡ name → b ≡ is_some (array_of s seen) → value ≡ truth_text b → array_exists s ws ≡ Ok value
  exists_answer name seen b value r e h v =
      exists_is s ws ∙ ap (λ x. x >>= λ n. Ok (truth_text (is_some (array_of s n)))) r ∙ ap (λ n. Ok (truth_text (is_some (array_of s n)))) (sym e) ∙ ap (λ x. Ok (truth_text x)) (sym h) ∙ ap Ok (sym v)

  pub size_answer : (name seen : Text) (k : ℕ) (value : Text) → one_argument (literal "array size arrayName") ws ≡ Ok name → seen ≡ name → k ≡ map.len (elements s seen) → value ≡ count_text k → array_size s ws ≡ Ok value
  size_answer name seen k value r e h v =
      size_is s ws ∙ ap (λ x. x >>= λ n. Ok (count_text (map.len (elements s n)))) r ∙ ap (λ n. Ok (count_text (map.len (elements s n)))) (sym e) ∙ ap (λ x. Ok (count_text x)) (sym h) ∙ ap Ok (sym v)

  pub there_answer : (name seen : Text) (b : Bool) (value : Text) → one_argument (literal "info exists varName") ws ≡ Ok name → seen ≡ name → b ≡ is_there_at s (spot_named s seen) → value ≡ truth_text b → info_exists s ws ≡ Ok value
  there_answer name seen b value r e h v =
      there_is s ws ∙ ap (λ x. x >>= λ n. Ok (truth_text (is_there_at s (spot_named s n)))) r ∙ ap (λ n. Ok (truth_text (is_there_at s (spot_named s n)))) (sym e) ∙ ap (λ x. Ok (truth_text x)) (sym h) ∙ ap Ok (sym v)

-- the commands say nothing of variables
pub whatever_commands : (cs : Commands) (f : Standing) (pattern : Option Text) (es : List (Text × Unit {0})) → variables_among (store_of cs f) pattern es ≡ variables_among (store_of map.empty f) pattern es
whatever_commands cs f pattern [] = refl
whatever_commands cs f pattern (e ∷ es) =
    ap (λ l. if exists_here (store_of map.empty f) e.0 && name_fits pattern e.0 then e.0 ∷ l else l) (whatever_commands cs f pattern es)
