-- A text that is read as a dictionary, and what changes of the dictionary leave of it (dict(n)).
use Rattle.std.specs.Prelude.{ℕ, length, Option, Ok}
use Rattle.tcl_pages.specs.Answers.{Answer, ◌>>=◌}
use Rattle.tcl_pages.specs.Dictionaries.{put_key, pairs_of}
use Rattle.tcl_pages.specs.DictPages.{dictionary, value_at, without_key}
use Rattle.tcl_pages.specs.Texts.{Text}

-- how many keys there are: dict size
abbrev pub size_of : Text → Answer ℕ
size_of t = pairs_of t >>= λ ps. Ok (length ps)

-- the value of a key: dict get
abbrev pub value_of : Text → Text → Answer (Option Text)
value_of t key = pairs_of t >>= λ ps. Ok (value_at key ps)

-- the text of a dictionary with a value at a key: dict set
abbrev pub with_key : Text → Text → Text → Answer Text
with_key t key value = pairs_of t >>= λ ps. Ok (dictionary (put_key ps key value))

-- the text of a dictionary without a key: dict unset
abbrev pub less_key : Text → Text → Answer Text
less_key t key = pairs_of t >>= λ ps. Ok (dictionary (without_key key ps))
