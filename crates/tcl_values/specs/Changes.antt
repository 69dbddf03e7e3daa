-- What comes to the value under a key of a dictionary (dict(n), append, lappend, set, unset), or to an element of a list in a list (lset(n)).
use Rattle.std.specs.Prelude.{ℕ, ◌+◌, [], ◌∷◌, ◌++◌, List, Option, None, Some, get_or, length, reverse, slice_set, Ok, Err}
use Rattle.tcl_chars.specs.Texts.{text_of}
use Rattle.tcl_list.specs.Elements.{elements_of}
use Rattle.tcl_list.specs.Written.{written}
use Rattle.tcl_pages.specs.Answers.{Answer, ◌>>=◌}
use Rattle.tcl_pages.specs.Dictionaries.{Pairs, pairs_of, put_key}
use Rattle.tcl_pages.specs.DictPages.{dict_set, dict_unset, dictionary, under_key, unknown_key, value_at}
use Rattle.tcl_pages.specs.Lists.{with_element}
use Rattle.tcl_pages.specs.Texts.{Text}
use Rattle.tcl_values.specs.Lists.{lengthened}
use Rattle.tcl_values.specs.declared.change.Change.{Change}
use Rattle.tcl_values.specs.declared.change.Change.TheVariants as change
use Rattle.tcl_values.specs.declared.making.Making.{Making}
use Rattle.tcl_values.specs.declared.making.Making.TheVariants as making

-- what a text becomes
abbrev pub after : Change → Text → Answer Text
after (change.Items xs) t = lengthened t xs.items
after (change.Text s) t = Ok (t ++ text_of s)

-- what is made of a text
abbrev pub made : Making → Text → Answer Text
made (making.Changed c) t = after c t
made (making.Under keys value) t = dict_set t value.text (reverse keys.items)
made (making.Without keys) t = dict_unset t (reverse keys.items)

-- what is made where the key isn't there: the value begins as the empty text, of which nothing can be taken out
abbrev pub made_new : Making → Text → Answer Text
made_new (making.Changed c) key = after c []
made_new (making.Under keys value) key = dict_set [] value.text (reverse keys.items)
made_new (making.Without keys) key = Err (unknown_key key)

-- what is made of the value under a key
abbrev pub made_under : Making → Text → Option Text → Answer Text
made_under m key None = made_new m key
made_under m key (Some t) = made m t

-- how deep it may make an element
abbrev pub room : Making → ℕ
room (making.Changed c) = 63
room (making.Under keys value) = value.depth + length keys.items
room (making.Without keys) = length keys.items

-- texts, of which the one at a place becomes another
abbrev pub after_at : (Text → Answer Text) → List Text → ℕ → Answer (List Text)
after_at change ts i = change (get_or ts i []) >>= λ new. Ok (slice_set ts i new)

-- pairs, of which the value under a key becomes another one, or begins
abbrev pub after_in : (Option Text → Answer Text) → Pairs → Text → Answer Pairs
after_in change ps key = change (value_at key ps) >>= λ new. Ok (put_key ps key new)

-- the text of a dictionary, of which the value under a key becomes another one, or begins
abbrev pub after_key : (Option Text → Answer Text) → Text → Text → Answer Text
after_key change t key = pairs_of t >>= λ ps. after_in change ps key >>= λ new. Ok (dictionary new)

-- the text of a dictionary with that change
abbrev pub after_under : Change → Text → Text → Answer Text
after_under c t key = under_key t key [] (after c)

-- texts, of which the one at a place becomes another; behind the last the empty text does, which comes to them
abbrev pub after_place : (Text → Answer Text) → List Text → ℕ → Answer (List Text)
after_place change ts k = change (get_or ts k []) >>= λ new. Ok (with_element ts k new)

-- the text of a list with an element at the last of some places, each of the list that the element at the place before is read as
abbrev pub with_under : Text → List ℕ → Text → Answer Text
with_under t [] v = Ok v
with_under t (k ∷ ks) v = elements_of t >>= λ es. after_place (λ inner. with_under inner ks v) es k >>= λ new. Ok (written new)
