-- Commands that give a variable a text made of the one that it has: append(n), incr(n), lappend(n), lset(n), dict(n). In a
-- dialect of numbers.
use Rattle.std.specs.Prelude.{◌-◌, List, [], ◌∷◌, ◌++◌, take, length, get_or, Ok}
use Rattle.std.specs.List.{concat}
use Rattle.tcl_chars.specs.Arith.{exact, ranged}
use Rattle.tcl_chars.specs.declared.arithmetic.Op.TheVariants as op
use Rattle.tcl_chars.specs.declared.numbers.Dialect.{Dialect}
use Rattle.tcl_chars.specs.Texts.{literal}
use Rattle.tcl_pages.specs.Answers.{Answer, ◌>>=◌}
use Rattle.tcl_pages.specs.DictPages.{dict_set, dict_unset, dict_lappend, under_key}
use Rattle.tcl_pages.specs.Lists.{lappend, lset}
use Rattle.tcl_chars.specs.Messages.{number}
use Rattle.tcl_pages.specs.Results.{in_decimal}
use Rattle.tcl_pages.specs.Texts.{Text}
use Rattle.tcl_pages.specs.Usage.{usage}
use Rattle.tcl_pages.specs.declared.pages.UpdatePage.{UpdatePage}
use Rattle.tcl_pages.specs.declared.pages.UpdatePage.TheVariants as page

-- ---- words

-- a variable's name, and the words behind it
pub record Update : Type 0 where
  pub name : Text
  pub words : List Text

abbrev pub of_name : Text → List Text → Answer Update
of_name name ws = Ok (record { name = name; words = ws })

abbrev pub update_words : UpdatePage → List Text → Answer Update
update_words page.Append (name ∷ values) = of_name name values
update_words page.Append [] = usage (literal "append varName ?value ...?")
update_words page.Incr (name ∷ []) = of_name name (literal "1" ∷ [])
update_words page.Incr (name ∷ by ∷ []) = of_name name (by ∷ [])
update_words page.Incr _ = usage (literal "incr varName ?increment?")
update_words page.Lappend (name ∷ values) = of_name name values
update_words page.Lappend [] = usage (literal "lappend varName ?value ...?")
update_words page.Lset (name ∷ w ∷ ws) = of_name name (w ∷ ws)
update_words page.Lset _ = usage (literal "lset varName ?index ...? newValue")
update_words page.DictAppend (name ∷ key ∷ values) = of_name name (key ∷ values)
update_words page.DictAppend _ = usage (literal "dict append dictVarName key ?value ...?")
update_words page.DictIncr (name ∷ key ∷ []) = of_name name (key ∷ literal "1" ∷ [])
update_words page.DictIncr (name ∷ key ∷ by ∷ []) = of_name name (key ∷ by ∷ [])
update_words page.DictIncr _ = usage (literal "dict incr dictVarName key ?increment?")
update_words page.DictLappend (name ∷ key ∷ values) = of_name name (key ∷ values)
update_words page.DictLappend _ = usage (literal "dict lappend dictVarName key ?value ...?")
update_words page.DictSet (name ∷ key ∷ value ∷ ws) = of_name name (key ∷ value ∷ ws)
update_words page.DictSet _ = usage (literal "dict set dictVarName key ?key ...? value")
update_words page.DictUnset (name ∷ key ∷ keys) = of_name name (key ∷ keys)
update_words page.DictUnset _ = usage (literal "dict unset dictVarName key ?key ...?")

-- ---- the old text

-- where it comes from
pub data Old : Type 0 where
  -- a variable that is missing begins as this text
  begins : Text → Old
  -- the variable is read
  is_read : Old
  -- the variable must be there
  must_be_there : Old

abbrev pub old_of : UpdatePage → List Text → Old
old_of page.Append [] = is_read
old_of page.Append (w ∷ ws) = begins []
old_of page.Incr ws = begins (literal "0")
old_of page.Lappend ws = begins []
old_of page.Lset ws = must_be_there
old_of page.DictAppend ws = begins []
old_of page.DictIncr ws = begins []
old_of page.DictLappend ws = begins []
old_of page.DictSet ws = begins []
old_of page.DictUnset ws = begins []

-- ---- the new text

-- append varName ?value ...?
abbrev pub text_appended : Text → List Text → Text
text_appended t ws = t ++ concat ws

-- the words but the last, and the last
abbrev pub all_but_last : List Text → List Text
all_but_last ws = take (length ws - 1) ws

abbrev pub last_of : List Text → Text
last_of ws = get_or ws (length ws - 1) []

-- lset varName ?index ...? newValue
abbrev pub lset_words : Dialect → Text → List Text → Answer Text
lset_words dialect t [] = Ok t
lset_words dialect t (w ∷ ws) = lset dialect t (all_but_last (w ∷ ws)) (last_of (w ∷ ws))

-- dict set dictVarName key ?key ...? value
abbrev pub dict_set_words : Text → List Text → Answer Text
dict_set_words t [] = Ok t
dict_set_words t (w ∷ ws) = dict_set t (last_of (w ∷ ws)) (all_but_last (w ∷ ws))

-- dict append dictVarName key ?value ...?
abbrev pub dict_append : Text → Text → List Text → Answer Text
dict_append t key values = under_key t key [] (λ old. Ok (text_appended old values))

-- a key, and the words behind it
abbrev pub by_key : Text → List Text → (Text → List Text → Answer Text) → Answer Text
by_key t [] change = Ok t
by_key t (key ∷ ws) change = change key ws

module _ (dialect : Dialect) where
  -- incr varName ?increment?
  abbrev pub increased : Text → List Text → Answer Text
  increased t [] = Ok t
  increased t (by ∷ ws) = do
    a ← number dialect t
    b ← number dialect by
    in_decimal (ranged (exact op.Add a b))

  -- dict incr dictVarName key ?increment?
  abbrev pub dict_incr : Text → Text → List Text → Answer Text
  dict_incr t key by = under_key t key (literal "0") (λ old. increased old by)

  -- the new text of a variable that has this one
  unfoldable pub updated : UpdatePage → Text → List Text → Answer Text
  updated page.Append t ws = Ok (text_appended t ws)
  updated page.Incr t ws = increased t ws
  updated page.Lappend t ws = lappend t ws
  updated page.Lset t ws = lset_words dialect t ws
  updated page.DictAppend t ws = by_key t ws (dict_append t)
  updated page.DictIncr t ws = by_key t ws (dict_incr t)
  updated page.DictLappend t ws = by_key t ws (dict_lappend t)
  updated page.DictSet t ws = dict_set_words t ws
  updated page.DictUnset t ws = dict_unset t ws
