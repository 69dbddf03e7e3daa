-- Laws of the commands on strings, to be read beside the manual: string(n), split(n), join(n).
use Rattle.std.specs.Prelude.{◌≡◌, ◌≢◌, ◌↔◌, ◌≤◌, ◌≤ℤ◌, MatchOption, ℕ, ◌+◌, ℤ, pos, ◌+ℤ◌, Bool, true, false, List, [], ◌∷◌, ◌++◌, None, length}
use Rattle.tcl_pages.specs.Strings.{found_at, last_until, mapped, trimmed_left, trimmed_right, trimmed_both, split_by, joined_by, StandsAt}
use Rattle.tcl_pages.specs.Texts.{Text}

-- ---- string last

-- A needle at the place k ends at the place `last` or in front of it.
abbrev pub EndsBy : Text → ℤ → ℕ → Type 0
EndsBy needle last k = pos (k + length needle) ≤ℤ (last +ℤ pos 1)

-- The last place is the greatest at which the needle stands and ends in time.
abbrev pub LastIsGreatest : Type 0
LastIsGreatest = (needle t : Text) (last : ℤ) → length needle ≢ 0
    → MatchOption (last_until (length needle) last None (found_at needle t)) ((j : ℕ) → StandsAt needle t j → EndsBy needle last j → ⊥)
    (λ k. StandsAt needle t k × EndsBy needle last k × ((j : ℕ) → StandsAt needle t j → EndsBy needle last j → j ≤ k))

-- ---- string map

-- a key begins a text, but an empty one begins none
pub record KeyBegins (key t : Text) : Type 0 where
  pub rest : Text
  pub joined : t ≡ key ++ rest
  pub some : key ≢ []

abbrev pub NoKeyBegins : List (Text × Text) → Text → Type 0
NoKeyBegins [] t = Unit {0}
NoKeyBegins (p ∷ ps) t = (KeyBegins p.0 t → ⊥) × NoKeyBegins ps t

-- Nothing is left. Or no key begins what is left, whose first character stays. Or the first pair whose key begins it gives its
-- value, and what is left is behind the key.
pub data Maps (ps : List (Text × Text)) : Text → Text → Type 0 where
  nothing : Maps ps [] []
  stays : (c : ℕ) (cs said : Text) → NoKeyBegins ps (c ∷ cs) → Maps ps cs said → Maps ps (c ∷ cs) (c ∷ said)
  value : (front behind : List (Text × Text)) (key value rest said : Text) → ps ≡ front ++ (key, value) ∷ behind → NoKeyBegins front (key ++ rest) → key ≢ [] → Maps ps rest said
      → Maps ps (key ++ rest) (value ++ said)

-- A text mapped is what the relation says, and nothing else.
abbrev pub MappedIsMap : Type 0
MappedIsMap = (ps : List (Text × Text)) (t said : Text) → (mapped ps 0 t ≡ said) ↔ Maps ps t said

-- A text is mapped to one text at most.
abbrev pub OneMap : Type 0
OneMap = (ps : List (Text × Text)) (t a b : Text) → Maps ps t a → Maps ps t b → a ≡ b

-- ---- string trim, trimleft, trimright

abbrev pub AllAre : (ℕ → Bool) → Text → Type 0
AllAre set [] = Unit {0}
AllAre set (c ∷ cs) = (set c ≡ true) × AllAre set cs

abbrev pub BeginsOutside : (ℕ → Bool) → Text → Type 0
BeginsOutside set t = (c : ℕ) (u : Text) → t ≡ c ∷ u → set c ≡ false

abbrev pub EndsOutside : (ℕ → Bool) → Text → Type 0
EndsOutside set t = (u : Text) (c : ℕ) → t ≡ u ++ c ∷ [] → set c ≡ false

-- What is taken off at the left and at the right is of the set, what stays of a text begins and ends outside of it.
pub record TrimsLeft (set : ℕ → Bool) (t stays : Text) : Type 0 where
  pub off : Text
  pub joined : t ≡ off ++ stays
  pub of_set : AllAre set off
  pub begins : BeginsOutside set stays

pub record TrimsRight (set : ℕ → Bool) (t stays : Text) : Type 0 where
  pub off : Text
  pub joined : t ≡ stays ++ off
  pub of_set : AllAre set off
  pub ends : EndsOutside set stays

pub record TrimsBoth (set : ℕ → Bool) (t stays : Text) : Type 0 where
  pub left : Text
  pub right : Text
  pub joined : t ≡ left ++ (stays ++ right)
  pub left_of_set : AllAre set left
  pub right_of_set : AllAre set right
  pub begins : BeginsOutside set stays
  pub ends : EndsOutside set stays

abbrev pub TrimmedIsTrimmed : Type 0
TrimmedIsTrimmed = (set : ℕ → Bool) (t : Text) → TrimsLeft set t (trimmed_left set t) × TrimsRight set t (trimmed_right set t) × TrimsBoth set t (trimmed_both set t)

-- ---- split, join

abbrev pub NoneIs : ℕ → Text → Type 0
NoneIs s [] = Unit {0}
NoneIs s (c ∷ cs) = (c ≢ s) × NoneIs s cs

abbrev pub NoneHolds : ℕ → List Text → Type 0
NoneHolds s [] = Unit {0}
NoneHolds s (t ∷ ts) = NoneIs s t × NoneHolds s ts

-- A text split at a character has parts that don't hold it, and joined by it they are the text.
abbrev pub SplitIsJoined : Type 0
SplitIsJoined = (s : ℕ) (t : Text) → NoneHolds s (split_by t (s ∷ [])) × (joined_by (s ∷ []) (split_by t (s ∷ [])) ≡ t)
