-- Laws of the directives of a format.
use Rattle.std.specs.Prelude.{◌≡◌, ℕ, [], ◌∷◌, ◌++◌, Option, Some, None, ◌↔◌}
use Rattle.tcl_pages.specs.Formats.{next_of, no_field}
use Rattle.tcl_pages.specs.Texts.{Text}
use Rattle.tcl_pages.specs.declared.formats.Field.{Field}
use Rattle.tcl_pages.specs.declared.formats.FormatPart.{FormatPart}
use Rattle.tcl_pages.specs.declared.formats.FormatPart.TheVariants as part
use Rattle.tcl_pages.specs.declared.formats.FormatStage.{FormatStage}
use Rattle.tcl_pages.specs.declared.formats.FormatStage.TheVariants as stage
use Rattle.tcl_strings.specs.FieldGrammar.{Begins, IsField, NoLetter}

-- A part and what follows it, and the field that was read in front of the part's last character.
pub record Reading : Type 0 where
  pub part : Option (FormatPart × Text)
  pub field : Field

abbrev pub part_or : Option FormatPart → Field → Text → Reading → Reading
part_or None f rest later = later
part_or (Some p) f rest later = record { part = Some (p, rest); field = f }

-- The first part that ends in a text, read character by character from a stage on. None where the text ends before.
abbrev pub part_read : FormatStage → Field → Text → Reading
part_read here f [] = record { part = None; field = f }
part_read here f (c ∷ cs) = part_or (next_of here f c).part f cs (part_read (next_of here f c).stage (next_of here f c).field cs)

-- the same, behind `%`
abbrev pub directive : Text → Reading
directive t = part_read stage.Flags no_field t

-- A text that begins with a field is read as this field, and as no other.
abbrev pub FieldIsRead : Type 0
FieldIsRead = (t rest : Text) (f : Field) → ((directive t).part ≡ Some (part.Field f, rest)) ↔ ((d : Text) × (t ≡ d ++ rest) × IsField d f)

-- A field is refused at the character where a letter must stand.
abbrev pub RefusalIsNoLetter : Type 0
RefusalIsNoLetter = (t rest : Text) (c : ℕ) → ((directive t).part ≡ Some (part.NoConversion c, rest)) ↔ ((head : Text) × (f : Field) × (t ≡ head ++ c ∷ rest) × NoLetter head f c)

-- The text ends in the middle of a field where only a beginning of one stands in it.
abbrev pub UnendedIsBeginning : Type 0
UnendedIsBeginning = (t : Text) → ((directive t).part ≡ None) ↔ Begins t

-- A text begins with one field at most.
abbrev pub OneField : Type 0
OneField = (d e rest more : Text) (f g : Field) → d ++ rest ≡ e ++ more → IsField d f → IsField e g → (d ≡ e) × (rest ≡ more) × (f ≡ g)

-- Each text begins with a field, or has a character where a letter must stand, or ends in the middle of a field.
pub data Directive : Text → Type 0 where
  field : (d rest : Text) (f : Field) → IsField d f → Directive (d ++ rest)
  refused : (head rest : Text) (f : Field) (c : ℕ) → NoLetter head f c → Directive (head ++ c ∷ rest)
  unended : (t : Text) → Begins t → Directive t

abbrev pub FieldOrFault : Type 0
FieldOrFault = (t : Text) → Directive t
