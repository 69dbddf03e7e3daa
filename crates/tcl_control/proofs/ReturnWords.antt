-- The words of a return(n), and the pairs of its options by their places.
use Rattle.std.proofs.Common.{◌≡◌, ◌≢◌, ℕ, zero, suc, ◌+◌, ◌-◌, ◌*◌, ◌/◌, ◌<◌, ◌≤◌, Bool, true, false, List, [], ◌∷◌, ◌++◌, length, drop, get_or, map, Some, None, Ok, Err, sym, ap, ◌∙◌, refl, add-one, append_assoc, arith}
use Rattle.std.specs.Prelude.{Option, ◌||◌, if◌then◌else◌}
use Rattle.std.proofs.lemmas.List.{append-nil, length-map}
use Rattle.tcl_arguments.proofs.Items.{text_at}
use Rattle.tcl_chars.specs.Texts.{literal}
use Rattle.tcl_chars.specs.Messages.{whole_or}
use Rattle.tcl_chars.specs.Whole.{whole_of}
use Rattle.tcl_chars.specs.declared.numbers.Dialect.{Dialect}
use Rattle.tcl_arguments.specs.WordAt.{word}
use Rattle.tcl_control.specs.Returning.{pair_at, code_named}
use Rattle.tcl_meaning.specs.Codes.{return_shape, with_option, kept, all_options, code_option, level_option, return_of, return_completion, code_word, bad_code_word}
use Rattle.tcl_meaning.specs.Codes as codes
use Rattle.tcl_meaning.specs.Completions.{Completion, code_of}
use Rattle.tcl_meaning.specs.declared.code.Code.{Code}
use Rattle.tcl_meaning.specs.declared.code.Code.TheVariants as code
use Rattle.tcl_pages.specs.Answers.{Answer, ◌>>=◌}
use Rattle.tcl_pages.specs.Dictionaries.{Pairs, keys_of, values_of}
use Rattle.tcl_pages.specs.DictPages.{value_at}
use Rattle.tcl_pages.specs.Texts.{Text, same_text}

-- ---- words

shape_step : (ws : List Text) → 1 < length ws → return_shape ws ≡ with_option (word ws 0) (word ws 1) (return_shape (drop 2 ws))
shape_step [] h = absurd (omega arith)
shape_step (a ∷ []) h = absurd (omega arith)
shape_step (a ∷ b ∷ ws) h = refl

pub options_more : (found : Pairs) (ws : List Text) → 1 < length ws → (found ++ (word ws 0, word ws 1) ∷ []) ++ (return_shape (drop 2 ws)).options ≡ found ++ (return_shape ws).options
options_more found ws h =
    append_assoc found ((word ws 0, word ws 1) ∷ []) (return_shape (drop 2 ws)).options ∙ ap (λ r. found ++ r.options) (sym (shape_step ws h))

no_options_in : (ws : List Text) → length ws ≤ 1 → (return_shape ws).options ≡ []
no_options_in [] h = refl
no_options_in (a ∷ []) h = refl
no_options_in (a ∷ b ∷ ws) h = absurd (omega arith)

pub options_end : (found : Pairs) (ws : List Text) → length ws ≤ 1 → found ++ (return_shape ws).options ≡ found
options_end found ws h = ap (λ ps. found ++ ps) (no_options_in ws h) ∙ append-nil found

pub no_result : (ws : List Text) (k : ℕ) → length ws ≡ 2 * k → (return_shape ws).result ≡ []
no_result [] k h = refl
no_result (a ∷ []) k h = absurd (omega arith)
no_result (a ∷ b ∷ ws) zero h = absurd (omega arith)
no_result (a ∷ b ∷ ws) (suc k) h = no_result ws k (omega arith)

last_word : (ws : List Text) (n k : ℕ) → length ws ≡ suc n → n ≡ 2 * k → (return_shape ws).result ≡ word ws n
last_word [] n k h e = absurd (omega arith)
last_word (a ∷ []) zero k h e = refl
last_word (a ∷ []) (suc n) k h e = absurd (omega arith)
last_word (a ∷ b ∷ ws) zero k h e = absurd (omega arith)
last_word (a ∷ b ∷ ws) (suc zero) k h e = absurd (omega arith)
last_word (a ∷ b ∷ ws) (suc (suc n)) zero h e = absurd (omega arith)
last_word (a ∷ b ∷ ws) (suc (suc n)) (suc k) h e = last_word ws n k (omega arith) (omega arith)

pub has_result : (ws : List Text) → length ws ≢ 2 * (length ws / 2) → (return_shape ws).result ≡ word ws (2 * (length ws / 2))
has_result ws h = last_word ws (2 * (length ws / 2)) (length ws / 2) (omega (arith, h)) refl

-- ---- pairs by their places

pair_by : (ps : Pairs) (i : ℕ) (k v : Text) → i < length ps → k ≡ get_or (keys_of ps) i k → v ≡ get_or (values_of ps) i v → (k, v) ≡ pair_at ps i
pair_by [] i k v l ke ve = absurd (omega arith)
pair_by (p ∷ ps) zero k v l ke ve = λ n. (ke n, ve n)
pair_by (p ∷ ps) (suc i) k v l ke ve = pair_by ps i k v (omega (arith, l)) ke ve

pub pair_is : {B : Type 0} (g : B → Text) (ps : Pairs) (xs : List Text) (ys : List B) (i : ℕ) (x : Text) (y : B) → i < length ps → xs ≡ keys_of ps → map g ys ≡ values_of ps
    → x ≡ get_or xs i x → y ≡ get_or ys i y → (x, g y) ≡ pair_at ps i
pair_is g ps xs ys i x y l ks vs xe ye =
    pair_by ps i x (g y) l (xe ∙ ap (λ ts. get_or ts i x) ks)
    (text_at g ys (values_of ps) i y (omega (arith, l, length-map ps (λ (p : Text × Text). p.1))) vs ye)

drop_from : (ps : Pairs) (i : ℕ) → i < length ps → drop i ps ≡ pair_at ps i ∷ drop (suc i) ps
drop_from [] i l = absurd (omega arith)
drop_from (p ∷ ps) zero l = refl
drop_from (p ∷ ps) (suc i) l = drop_from ps i (omega (arith, l))

drop_pair : (ps : Pairs) (i : ℕ) → i < length ps → drop i ps ≡ pair_at ps i ∷ drop (i + 1) ps
drop_pair ps i l = drop_from ps i l ∙ ap (λ n. pair_at ps i ∷ drop n ps) (sym (add-one i))

drop_end : (ps : Pairs) (i : ℕ) → length ps ≤ i → drop i ps ≡ []
drop_end [] zero l = refl
drop_end [] (suc i) l = refl
drop_end (p ∷ ps) zero l = absurd (omega (arith, l))
drop_end (p ∷ ps) (suc i) l = drop_end ps i (omega (arith, l))

pub front_more : (more ps : Pairs) (i : ℕ) (p : Text × Text) → 0 < i → i ≤ length more → p ≡ pair_at more (i - 1) → p ∷ (drop i more ++ ps) ≡ drop (i - 1) more ++ ps
front_more more ps i p h l e =
    let next : i - 1 + 1 ≡ i = omega (arith, h) in
    ap (λ q. q ∷ (drop i more ++ ps)) e
    ∙ sym (ap (λ qs. qs ++ ps) (drop_pair more (i - 1) (omega (arith, h, l)) ∙ ap (λ n. pair_at more (i - 1) ∷ drop n more) next))

pub front_none : (more ps : Pairs) (i : ℕ) → length more ≤ i → drop i more ++ ps ≡ ps
front_none more ps i l = ap (λ qs. qs ++ ps) (drop_end more i l)

pub front_all : (more ps : Pairs) (i : ℕ) → i ≤ 0 → drop i more ++ ps ≡ more ++ ps
front_all more ps zero l = refl
front_all more ps (suc i) l = absurd (omega (arith, l))

-- ---- the pairs that are kept

kept_by : (b : Bool) (p : Text × Text) (ps : Pairs) → (if b then kept ps else p ∷ kept ps) ≡ (if b then [] else p ∷ []) ++ kept ps
kept_by true p ps = refl
kept_by false p ps = refl

kept_pair : (p : Text × Text) (ps : Pairs) → kept (p ∷ ps) ≡ kept (p ∷ []) ++ kept ps
kept_pair p ps = kept_by (same_text p.0 (literal "-code") || same_text p.0 (literal "-level")) p ps

pub kept_more : (ps options : Pairs) (i : ℕ) (p : Text × Text) → i < length ps → p ≡ pair_at ps i → (options ++ kept (p ∷ [])) ++ kept (drop (i + 1) ps) ≡ options ++ kept (drop i ps)
kept_more ps options i p l e =
    append_assoc options (kept (p ∷ [])) (kept (drop (i + 1) ps))
    ∙ ap (λ qs. options ++ qs) (sym (kept_pair p (drop (i + 1) ps)) ∙ ap (λ q. kept (q ∷ drop (i + 1) ps)) e ∙ sym (ap kept (drop_pair ps i l)))

pub kept_end : (ps options : Pairs) (i : ℕ) → length ps ≤ i → options ++ kept (drop i ps) ≡ options
kept_end ps options i l = ap (λ qs. options ++ kept qs) (drop_end ps i l) ∙ append-nil options

-- ---- codes by their names

abbrev named_or : Option Code → Answer Code → Answer Code
named_or None answer = answer
named_or (Some c) answer = Ok c

five_names : (a b c d e : Bool) (n : Answer Code)
    → (if a then Ok code.Ok else if b then Ok code.Error else if c then Ok code.Return else if d then Ok code.Break else if e then Ok code.Continue else n)
    ≡ named_or (if a then Some code.Ok else if b then Some code.Error else if c then Some code.Return else if d then Some code.Break else if e then Some code.Continue else None) n
five_names true b c d e n = refl
five_names false true c d e n = refl
five_names false false true d e n = refl
five_names false false false true e n = refl
five_names false false false false true n = refl
five_names false false false false false n = refl

abbrev numbered : Dialect → Text → Answer Code
numbered dialect t = whole_or (bad_code_word t) (whole_of dialect t) >>= λ z. Ok (code_of z)

word_is : (dialect : Dialect) (t : Text) → code_word dialect t ≡ named_or (code_named t) (numbered dialect t)
word_is dialect t =
    five_names (same_text t (literal "ok")) (same_text t (literal "error")) (same_text t (literal "return")) (same_text t (literal "break")) (same_text t (literal "continue")) (numbered dialect t)

pub word_named : (dialect : Dialect) (t : Text) (c : Code) → code_named t ≡ Some c → code_word dialect t ≡ Ok c
word_named dialect t c e = word_is dialect t ∙ ap (λ o. named_or o (numbered dialect t)) e

pub word_numbered : (dialect : Dialect) (t : Text) → code_named t ≡ None → code_word dialect t ≡ numbered dialect t
word_numbered dialect t e = word_is dialect t ∙ ap (λ o. named_or o (numbered dialect t)) e

-- ---- how a return ends

pub plain_return : (dialect : Dialect) (ws : List Text) → length ws ≤ 1 → return_of dialect (return_shape ws) ≡ Ok (return_completion code.Ok 1 (return_shape ws).result [])
plain_return dialect [] h = refl
plain_return dialect (a ∷ []) h = refl
plain_return dialect (a ∷ b ∷ ws) h = absurd (omega arith)

module _ (dialect : Dialect) (r : codes.Returns) where
  abbrev level_then : Code → Pairs → Answer ℕ → Answer Completion
  level_then c all level = level >>= λ n. Ok (return_completion c n r.result (kept all))

  abbrev code_then : Pairs → Answer Code → Answer Completion
  code_then all found = found >>= λ c. level_then c all (level_option dialect (value_at (literal "-level") all))

  abbrev all_then : Answer Pairs → Answer Completion
  all_then found = found >>= λ all. code_then all (code_option dialect (value_at (literal "-code") all))

  pub options_fail : (m : Text) → all_options r.options ≡ Err m → return_of dialect r ≡ Err m
  options_fail m e = ap all_then e

  pub code_fails : (all : Pairs) (m : Text) → all_options r.options ≡ Ok all → code_option dialect (value_at (literal "-code") all) ≡ Err m → return_of dialect r ≡ Err m
  code_fails all m e f = ap all_then e ∙ ap (code_then all) f

  pub level_fails : (all : Pairs) (c : Code) (m : Text) → all_options r.options ≡ Ok all → code_option dialect (value_at (literal "-code") all) ≡ Ok c → level_option dialect (value_at (literal "-level") all) ≡ Err m
      → return_of dialect r ≡ Err m
  level_fails all c m e f g = ap all_then e ∙ ap (code_then all) f ∙ ap (level_then c all) g

  pub return_is : (all : Pairs) (c : Code) (n : ℕ) → all_options r.options ≡ Ok all → code_option dialect (value_at (literal "-code") all) ≡ Ok c → level_option dialect (value_at (literal "-level") all) ≡ Ok n
      → return_of dialect r ≡ Ok (return_completion c n r.result (kept all))
  return_is all c n e f g = ap all_then e ∙ ap (code_then all) f ∙ ap (level_then c all) g
