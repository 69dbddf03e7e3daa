-- Lists with the names of their variables: foreach(n), lmap(n), `dict for` of dict(n).
use Rattle.std.specs.Prelude.{Bool, ◌==◌, List, ◌++◌, length, Ok}
use Rattle.tcl_list.specs.Elements.{elements_of}
use Rattle.tcl_meaning.specs.Control.{gathered, two_names}
use Rattle.tcl_meaning.specs.Shapes.{some_names}
use Rattle.tcl_meaning.specs.Tasks.{Each, LoopList}
use Rattle.tcl_pages.specs.Answers.{Answer, ◌>>=◌}
use Rattle.tcl_pages.specs.Dictionaries.{pairs_of}
use Rattle.tcl_pages.specs.DictPages.{flat}
use Rattle.tcl_pages.specs.Texts.{Text}

-- with a result, where they are gathered
abbrev pub with_result : Each → Text → Each
with_result e t = record e { results = gathered e.results t }

-- the list of names that a text is, and the list that another one is
abbrev pub loop_list_read : Text → Text → Text → Answer LoopList
loop_list_read empty names list = do
  ns ← elements_of names
  some ← some_names empty ns
  es ← elements_of list
  Ok (record { names = some; elements = es })

-- the two names that a text is, and the keys and values of the dictionary that another one is
abbrev pub pairs_read : Text → Text → Answer LoopList
pairs_read names dictionary = do
  ns ← elements_of names
  two ← two_names ns
  ps ← pairs_of dictionary
  Ok (record { names = two; elements = flat ps })

-- lists in front of others
abbrev pub in_front : List LoopList → Answer (List LoopList) → Answer (List LoopList)
in_front ls more = more >>= λ others. Ok (ls ++ others)

-- has the list that a text is one element
abbrev pub counts_one : Text → Answer Bool
counts_one t = do
  ts ← elements_of t
  Ok (length ts == 1)
