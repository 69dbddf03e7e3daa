-- What format says of a format text and its arguments, said by the parts of the text rather than by a reader (format(n)).
use Rattle.std.specs.Prelude.{◌≡◌, ◌≢◌, ◌⊎◌, ◌↔◌, ℕ, List, [], ◌∷◌, ◌++◌, Ok, Err}
use Rattle.tcl_chars.specs.declared.numbers.Dialect.{Dialect}
use Rattle.tcl_pages.specs.Formats.{bad_field, unended, sizes_taken, field_taken, format_page, percent}
use Rattle.tcl_pages.specs.Texts.{Text}
use Rattle.tcl_pages.specs.declared.formats.Field.{Field}
use Rattle.tcl_pages.specs.declared.formats.Layout.{Layout}
use Rattle.tcl_strings.specs.FieldGrammar.{IsHead, IsField, NoLetter, Lacks}

module _ (dialect : Dialect) where
  -- Each character stands for itself but `%`. In the place of a `%` and a field stands what the field shows of the next
  -- arguments, and those behind them are left to what follows. More arguments are passed over.
  pub data FormatShows : Text → List Text → Text → Type 0 where
    nothing : (ws : List Text) → FormatShows [] ws []
    plain : (c : ℕ) (cs said : Text) (ws : List Text) → c ≢ percent → FormatShows cs ws said → FormatShows (c ∷ cs) ws (c ∷ said)
    field : (d rest shows said : Text) (f : Field) (ws left : List Text) → IsField d f → field_taken dialect f ws ≡ Ok (shows, left) → FormatShows rest left said
        → FormatShows (percent ∷ (d ++ rest)) ws (shows ++ said)

  -- The first fault from the left: what a field takes of the arguments is not there or is no number or too large, or a character
  -- stands where a letter must, or the text ends in the middle of a field. A field that lacks its letter takes its sizes first.
  pub data FormatFault : Text → List Text → Text → Type 0 where
    plain : (c : ℕ) (cs m : Text) (ws : List Text) → c ≢ percent → FormatFault cs ws m → FormatFault (c ∷ cs) ws m
    field : (d rest shows m : Text) (f : Field) (ws left : List Text) → IsField d f → field_taken dialect f ws ≡ Ok (shows, left) → FormatFault rest left m → FormatFault (percent ∷ (d ++ rest)) ws m
    argument : (d rest m : Text) (f : Field) (ws : List Text) → IsField d f → field_taken dialect f ws ≡ Err m → FormatFault (percent ∷ (d ++ rest)) ws m
    size : (head rest m : Text) (f : Field) (ws : List Text) → Lacks head f rest → sizes_taken dialect f ws ≡ Err m → FormatFault (percent ∷ (head ++ rest)) ws m
    no_letter : (head rest : Text) (f : Field) (c : ℕ) (ws left : List Text) (s : Layout) → NoLetter head f c → sizes_taken dialect f ws ≡ Ok (s, left)
        → FormatFault (percent ∷ (head ++ c ∷ rest)) ws (bad_field c)
    cut_off : (t : Text) (f : Field) (ws left : List Text) (s : Layout) → IsHead t f → sizes_taken dialect f ws ≡ Ok (s, left) → FormatFault (percent ∷ t) ws unended

-- ---- laws

-- format answers what the relation says, and nothing else.
abbrev pub FormatIsShown : Type 0
FormatIsShown = (dialect : Dialect) (t said : Text) (ws : List Text) → (format_page dialect (t ∷ ws) ≡ Ok said) ↔ FormatShows dialect t ws said

-- Its error is the first fault from the left, and no other.
abbrev pub FormatFaultIsFirst : Type 0
FormatFaultIsFirst = (dialect : Dialect) (t m : Text) (ws : List Text) → (format_page dialect (t ∷ ws) ≡ Err m) ↔ FormatFault dialect t ws m

-- A format shows one text at most.
abbrev pub OneFormat : Type 0
OneFormat = (dialect : Dialect) (t a b : Text) (ws : List Text) → FormatShows dialect t ws a → FormatShows dialect t ws b → a ≡ b

-- Each format shows a text of its arguments or has a fault, and none does both.
abbrev pub FormatOrFault : Type 0
FormatOrFault = (dialect : Dialect) (t : Text) (ws : List Text)
    → (((said : Text) × FormatShows dialect t ws said) ⊎ ((m : Text) × FormatFault dialect t ws m)) × ((said m : Text) → FormatShows dialect t ws said → FormatFault dialect t ws m → ⊥)
