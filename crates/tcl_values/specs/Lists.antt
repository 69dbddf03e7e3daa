-- A text that is read as a list, and what changes of the list leave of it (list(n)).
use Rattle.std.specs.Prelude.{◌≡◌, ℕ, ◌+◌, List, [], ◌∷◌, ◌++◌, Option, length, slice_get, slice_set, nat_lt, take, drop, Result, Ok, Err, if◌then◌else◌}
use Rattle.tcl_chars.specs.Reading.{◌>>=◌}
use Rattle.tcl_chars.specs.declared.fault.Fault.{Fault}
use Rattle.tcl_list.specs.Elements.{elements_of}
use Rattle.tcl_list.specs.Texts.{Stops}
use Rattle.tcl_list.specs.Written.{written}

-- how many elements there are: llength(n)
abbrev pub count_of : List ℕ → Result ℕ (List ℕ)
count_of t = elements_of t >>= λ es. Ok (length es)

-- the element at a place: lindex(n)
abbrev pub item_of : List ℕ → ℕ → Result (Option (List ℕ)) (List ℕ)
item_of t i = elements_of t >>= λ es. Ok (slice_get es i)

-- texts, and behind them the elements of a list: {*} (Tcl(n))
abbrev pub behind : List (List ℕ) → List ℕ → Result (List (List ℕ)) (List ℕ)
behind ts t = elements_of t >>= λ es. Ok (ts ++ es)

-- the text of a list with one element more: lappend(n)
abbrev pub pushed : List ℕ → List ℕ → Result (List ℕ) (List ℕ)
pushed t x = elements_of t >>= λ es. Ok (written (es ++ x ∷ []))

-- the text of a list with elements more, one or several: lappend(n)
abbrev pub lengthened : List ℕ → List (List ℕ) → Result (List ℕ) (List ℕ)
lengthened t xs = elements_of t >>= λ es. Ok (written (es ++ xs))

-- the text of a list of n elements, those from place i on, or of fewer where there aren't as many: lrange(n)
abbrev pub part_of : List ℕ → ℕ → ℕ → Result (List ℕ) (List ℕ)
part_of t i n = elements_of t >>= λ es. Ok (written (take n (drop i es)))

-- the text of a list whose element at a place is another one; where it has no such place, the text as it is: lset(n)
abbrev pub with_item : List ℕ → ℕ → List ℕ → Result (List ℕ) (List ℕ)
with_item t i x = elements_of t >>= λ es. Ok (if nat_lt i (length es) then written (slice_set es i x) else t)

-- the text of a list with the elements xs in the place of n others, behind the first i: linsert(n), lreplace(n)
abbrev pub spliced : List ℕ → ℕ → ℕ → List (List ℕ) → Result (List ℕ) (List ℕ)
spliced t i n xs = elements_of t >>= λ es. Ok (written (take i es ++ xs ++ drop (i + n) es))

-- What a call that answers nothing leaves is what reading gives; at a fault it is the fault.
abbrev pub Leaves : List ℕ → Result (List ℕ) (List ℕ) → {X : Type 0} → Result X Fault → Type 0
Leaves new read (Ok x) = read ≡ Ok new
Leaves new read (Err e) = Stops e read
