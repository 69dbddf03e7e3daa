-- What `return`, `error` and `exit` are given: return(n), error(n), exit(n). In a dialect of numbers.
use Rattle.std.specs.Prelude.{ℕ, zero, suc, ◌+◌, pos, negsuc, ℤ, Bool, ◌||◌, nat_lt, nat_le, List, [], ◌∷◌, length, Option, Some, None, Ok, Err, if◌then◌else◌}
use Rattle.tcl_chars.specs.Whole.{whole_of}
use Rattle.tcl_chars.specs.declared.numbers.Dialect.{Dialect}
use Rattle.tcl_chars.specs.Texts.{literal}
use Rattle.tcl_pages.specs.Answers.{Answer, ◌>>=◌}
use Rattle.tcl_pages.specs.DictPages.{value_at}
use Rattle.tcl_pages.specs.Dictionaries.{Pairs, put_key, pairs_of}
use Rattle.tcl_chars.specs.Messages.{about, whole_or}
use Rattle.tcl_pages.specs.Texts.{Text, same_text}
use Rattle.tcl_meaning.specs.declared.code.Code.{Code}
use Rattle.tcl_meaning.specs.declared.code.Code.TheVariants as code
use Rattle.tcl_meaning.specs.Completions.{Completion, code_of}

-- ---- return

-- `return` with these options
pub record Returns : Type 0 where
  pub options : Pairs
  pub result : Text

abbrev pub with_option : Text → Text → Returns → Returns
with_option key value r = record r { options = (key, value) ∷ r.options }

-- The options come in pairs, and a word behind them is the result.
abbrev pub return_shape : List Text → Returns
return_shape [] = record { options = []; result = [] }
return_shape (t ∷ []) = record { options = []; result = t }
return_shape (key ∷ value ∷ ts) = with_option key value (return_shape ts)

abbrev pub no_options : Text → Text
no_options t = about (literal "bad -options value: expected dictionary but got") t []

abbrev pub else_message : {A : Type 0} → Text → Answer A → Answer A
else_message message (Ok a) = Ok a
else_message message (Err m) = Err message

-- All options in their places: the pairs of `-options` stand in its place, and so do those of an `-options` among them. These
-- stand in a text inside another, so there are no more of them in one another than characters: n is enough.
abbrev pub options_joined : ℕ → Pairs → Pairs → Answer Pairs
options_joined n found [] = Ok found
options_joined zero found (p ∷ ps) = Ok found
options_joined (suc n) found (p ∷ ps) =
    if same_text p.0 (literal "-options")
    then (do
      more ← else_message (no_options p.1) (pairs_of p.1)
      all ← options_joined n found more
      options_joined n all ps)
    else options_joined n (put_key found p.0 p.1) ps

-- as many as options and characters in them
abbrev pub size_of : Pairs → ℕ
size_of [] = 0
size_of (p ∷ ps) = suc (length p.1 + size_of ps)

abbrev pub all_options : Pairs → Answer Pairs
all_options ps = options_joined (size_of ps) [] ps

-- the pairs that are kept: those of other keys than `-code` and `-level`
abbrev pub kept : Pairs → Pairs
kept [] = []
kept (p ∷ ps) = if same_text p.0 (literal "-code") || same_text p.0 (literal "-level") then kept ps else p ∷ kept ps

abbrev pub bad_code_word : Text → Text
bad_code_word t = about (literal "bad completion code") t (literal ": must be ok, error, return, break, continue, or an integer")

abbrev pub bad_return_level : Text → Text
bad_return_level t = about (literal "bad -level value: expected non-negative integer but got") t []

abbrev pub level_within : Text → ℤ → Answer ℕ
level_within t (pos n) = if nat_le n 2147483647 then Ok n else Err (bad_return_level t)
level_within t (negsuc n) = Err (bad_return_level t)

-- `return -code return` is `return -code ok` of a level more.
abbrev pub return_completion : Code → ℕ → Text → Pairs → Completion
return_completion code.Return n t options = record { code = code.Ok; level = suc n; result = t; options = options }
return_completion c n t options = record { code = c; level = n; result = t; options = options }

-- ---- error

abbrev pub error_options : List Text → Pairs
error_options [] = []
error_options (info ∷ []) = (literal "-errorinfo", info) ∷ []
error_options (info ∷ code ∷ ts) = (literal "-errorinfo", info) ∷ (literal "-errorcode", code) ∷ []

-- ---- exit

abbrev pub bad_status : Text → Text
bad_status t = about (literal "bad exit status") t (literal ": must be 0 to 255")

abbrev pub status_within : Text → ℤ → Answer ℕ
status_within t (pos n) = if nat_lt n 256 then Ok n else Err (bad_status t)
status_within t (negsuc n) = Err (bad_status t)

module _ (dialect : Dialect) where
  -- the code that a word names
  abbrev pub code_word : Text → Answer Code
  code_word t =
      if same_text t (literal "ok") then Ok code.Ok
      else if same_text t (literal "error") then Ok code.Error
      else if same_text t (literal "return") then Ok code.Return
      else if same_text t (literal "break") then Ok code.Break
      else if same_text t (literal "continue") then Ok code.Continue
      else (whole_or (bad_code_word t) (whole_of dialect t) >>= λ z. Ok (code_of z))

  abbrev pub code_option : Option Text → Answer Code
  code_option None = Ok code.Ok
  code_option (Some t) = code_word t

  abbrev pub level_option : Option Text → Answer ℕ
  level_option None = Ok 1
  level_option (Some t) = whole_or (bad_return_level t) (whole_of dialect t) >>= level_within t

  -- what a `return` of these options and this result ends with
  abbrev pub return_of : Returns → Answer Completion
  return_of r = do
    all ← all_options r.options
    c ← code_option (value_at (literal "-code") all)
    n ← level_option (value_at (literal "-level") all)
    Ok (return_completion c n r.result (kept all))

  abbrev pub status_of : Text → Answer ℕ
  status_of t = whole_or (bad_status t) (whole_of dialect t) >>= status_within t
