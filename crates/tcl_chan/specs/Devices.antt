-- What calls of devices do to the bytes that the devices tell.
use Rattle.std.specs.Prelude.{◌≡◌, ℕ, ◌+◌, ◌-◌, ◌^◌, ◌<◌, min, Bool, cond, List, [], ◌++◌, take, IfSome, Option, Some, None, Result, Ok, Err}

-- these bytes before those that are told
abbrev pub ahead : List ℕ → Option (List ℕ) → Option (List ℕ)
ahead front None = None
ahead front (Some rest) = Some (front ++ rest)

-- these bytes behind those that are told
abbrev pub put_behind : Option (List ℕ) → List ℕ → Option (List ℕ)
put_behind None more = None
put_behind (Some before) more = Some (before ++ more)

-- A read took the bytes that stand at the buffer's beginning; one that failed took none.
abbrev pub ReadTakes : {E : Type 0} → Option (List ℕ) → Option (List ℕ) → List ℕ → Result ℕ E → Type 0
ReadTakes old new buffer (Ok n) = old ≡ ahead (take n buffer) new
ReadTakes old new buffer (Err e) = new ≡ old

-- nothing is left, if what is left is told
abbrev pub IsEnd : Option (List ℕ) → Type 0
IsEnd None = Unit {0}
IsEnd (Some rest) = rest ≡ []

-- A read into a buffer that is not empty gives no byte only at the end.
abbrev pub NoneOnlyAtEnd : {E : Type 0} → Option (List ℕ) → ℕ → Result ℕ E → Type 0
NoneOnlyAtEnd old size (Ok n) = n ≡ 0 → 0 < size → IsEnd old
NoneOnlyAtEnd old size (Err e) = Unit {0}

-- A write wrote the beginning of the text that it tells; one that failed wrote nothing.
abbrev pub WritePuts : {E : Type 0} → Option (List ℕ) → Option (List ℕ) → List ℕ → Result ℕ E → Type 0
WritePuts old new text (Ok n) = new ≡ put_behind old (take n text)
WritePuts old new text (Err e) = new ≡ old

-- one more, up to the greatest number of 64 bits
abbrev pub one_more : ℕ → ℕ
one_more count = min (count + 1) (2 ^ 64 - 1)

-- how many calls have failed after one: a call that fails counts
abbrev pub failures_after : {A E : Type 0} → ℕ → Result A E → ℕ
failures_after count (Ok x) = count
failures_after count (Err e) = one_more count

-- What is left of an input of which some bytes are held: those, and what the device has, unless the input has ended.
abbrev pub unread_bytes : List ℕ → Bool → Option (List ℕ) → Option (List ℕ)
unread_bytes held ended device = cond ended (Some held) (ahead held device)

-- The bytes that are left are the same, where they were told.
abbrev pub StaysLeft : Option (List ℕ) → Option (List ℕ) → Type 0
StaysLeft before after = IfSome before (λ bytes. after ≡ Some bytes)
