-- How elements are written as a list (list(n)): read back, the text is these elements again, and it is one command of these
-- words. Which of the forms an element takes is the profile's.
use Rattle.std.specs.Prelude.{ℕ, Bool, true, false, not, ◌&&◌, ◌||◌, ◌==◌, List, [], ◌∷◌, ◌++◌, Option, Some, None, if◌then◌else◌}
use Rattle.tcl_chars.specs.Characters.{newline, space, quote, number_sign, dollar, semicolon, open_bracket, backslash, close_bracket, open_brace, close_brace}
use Rattle.tcl_chars.specs.Classes.{is_list_space}
use Rattle.tcl_chars.specs.Place.{begins}
use Rattle.tcl_list.specs.Braces.{is_balanced}
use Rattle.tcl_list.specs.declared.writing.Form.{Form}
use Rattle.tcl_list.specs.declared.writing.Form.TheVariants.{Empty, Bare, Braces, Backslashes}

-- the characters that a command or a list gives a meaning
abbrev pub is_special : ℕ → Bool
is_special c =
    (c == open_brace) || (c == close_brace) || (c == open_bracket) || (c == close_bracket) || (c == dollar) || (c == quote) || (c == semicolon) || (c == backslash)

-- no character needs a backslash
abbrev pub needs_no_backslash : List ℕ → Bool
needs_no_backslash [] = true
needs_no_backslash (c ∷ cs) = not (is_list_space c || is_special c) && needs_no_backslash cs

-- a backslash stands directly before a newline
abbrev pub is_continued : List ℕ → Bool
is_continued [] = false
is_continued (c ∷ cs) = ((c == backslash) && begins newline cs) || is_continued cs

-- The first element of a command would begin a comment (Tcl(n), rule 10).
abbrev pub is_comment : Bool → List ℕ → Bool
is_comment first cs = first && begins number_sign cs

-- the first form that applies
abbrev pub element_form : Bool → List ℕ → Form
element_form first [] = Empty
element_form first (c ∷ cs) =
    if needs_no_backslash (c ∷ cs) && not (is_comment first (c ∷ cs)) then Bare else (
    if is_balanced (c ∷ cs) && not (is_continued (c ∷ cs)) then Braces else Backslashes)

-- what stands behind the backslash of a character, if it needs one
abbrev pub behind_backslash : ℕ → Option ℕ
behind_backslash c =
    if c == 9 then Some 116 else (
    if c == newline then Some 110 else (
    if c == 11 then Some 118 else (
    if c == 12 then Some 102 else (
    if c == 13 then Some 114 else (
    if c == space then Some space else (
    if is_special c then Some c else None))))))

abbrev pub backslashed : ℕ → Option ℕ → List ℕ
backslashed c None = c ∷ []
backslashed c (Some b) = backslash ∷ b ∷ []

abbrev pub all_escaped : List ℕ → List ℕ
all_escaped [] = []
all_escaped (c ∷ cs) = backslashed c (behind_backslash c) ++ all_escaped cs

abbrev pub spelled : Form → Bool → List ℕ → List ℕ
spelled Empty first cs = open_brace ∷ close_brace ∷ []
spelled Bare first cs = cs
spelled Braces first cs = open_brace ∷ (cs ++ close_brace ∷ [])
spelled Backslashes first cs = if is_comment first cs then backslash ∷ all_escaped cs else all_escaped cs

-- one element
unfoldable pub written_element : Bool → List ℕ → List ℕ
written_element first cs = spelled (element_form first cs) first cs

-- one element, with the space in front of it unless it is the first
unfoldable pub appended : Bool → List ℕ → List ℕ
appended first cs = if first then written_element true cs else space ∷ written_element false cs

-- elements behind others, and a whole list
abbrev pub written_behind : List (List ℕ) → List ℕ
written_behind [] = []
written_behind (e ∷ es) = appended false e ++ written_behind es

abbrev pub written : List (List ℕ) → List ℕ
written [] = []
written (e ∷ es) = appended true e ++ written_behind es
