-- What is kept of a value, and the text that it stands for.
use Rattle.std.specs.Prelude.{ℕ, ℤ, IfSome, ◌≤◌, ◌≡◌, Bool, true, false, List, [], length, Option, None, Some, ⊤, Ok, FitsSigned, option_map}
use Rattle.std.specs.Int.{w64}
use Rattle.std.specs.Fmt.{signed_decimal}
use Rattle.std.specs.Bool.{OnTrue}
use Rattle.std.specs.Rc.{rc_str_bytes}
use Rattle.std.specs.Str.{chars, IsAscii}
use Rattle.std.specs.String.{string_bytes}
use Rattle.std.specs.declared.rc.RcStr.{RcStr}
use Rattle.std.specs.declared.alloc.Global.{Global}
use Rattle.tcl_chars.specs.Whole.{whole_of}
use Rattle.tcl_chars.specs.declared.numbers.Dialect.{Dialect}
use Rattle.tcl_chars.specs.declared.numbers.Dialect.TheVariants.{Tcl86, Tcl9}
use Rattle.tcl_chars.specs.declared.numbers.Whole.TheVariants.{Number}
use Rattle.tcl_list.specs.Elements.{elements_of}
use Rattle.tcl_list.specs.Written.{written}
use Rattle.tcl_list.specs.Texts.{text_of}
use Rattle.tcl_names.specs.Keys.{IsKeyOf}
use Rattle.tcl_values.specs.Kept.{Kept, texts, depth_over}
use Rattle.tcl_values.specs.Marks.{AreMarks}
use Rattle.tcl_values.specs.Paired.{zipped}
use Rattle.tcl_values.specs.Short.{short_text, IsShort}
use Rattle.tcl_pages.specs.Dictionaries.{pairs_of}
use Rattle.tcl_pages.specs.Dictionaries as dictionaries
use Rattle.tcl_pages.specs.DictPages.{dictionary}
use Rattle.tcl_values.specs.declared.composed.Composed.{Composed}
use Rattle.tcl_values.specs.declared.element.Items.{Items}
use Rattle.tcl_values.specs.declared.element.Pairs.{Pairs}
use Rattle.tcl_values.specs.declared.element.Entry.{Entry}
use Rattle.tcl_values.specs.declared.element.Entry.TheVariants as entry
use Rattle.tcl_values.specs.declared.element.Element.TheInside as element
use Rattle.tcl_values.specs.declared.literal.Literal.{Literal}
use Rattle.tcl_values.specs.declared.literal.Numbers.{Numbers}
use Rattle.tcl_values.specs.declared.named.Named.{Named}
use Rattle.tcl_values.specs.declared.value.Growing.{Growing}
use Rattle.tcl_values.specs.declared.value.Held.{Held}
use Rattle.tcl_values.specs.declared.value.Held.TheVariants as held
use Rattle.tcl_values.specs.declared.value.Value.TheInside as value
use Rattle.tcl_values.specs.declared.row.Row.TheInside as row
use Rattle.tcl_values.specs.declared.dictionary.Dictionary.TheInside as shared

-- the text, or else how the elements are written
abbrev pub shown : Option (List ℕ) → List Kept → List ℕ
shown None ks = written (texts ks)
shown (Some t) ks = t

abbrev pub elements : Items → List Kept
elements r = r.items.items

abbrev pub shared_text : Option (RcStr Global) → Option (List ℕ)
shared_text t = option_map text_of t

-- the text that a list stands for
abbrev pub items_text : Items → List ℕ
items_text r = shown (shared_text r.text) (elements r)

-- ---- dictionaries

abbrev pub pairs_in : Pairs → dictionaries.Pairs
pairs_in p = zipped p.keys.keys (texts p.values.items)

-- the text, or else how the pairs are written
abbrev pub shown_pairs : Option (List ℕ) → dictionaries.Pairs → List ℕ
shown_pairs None ps = dictionary ps
shown_pairs (Some t) ps = t

-- the text that a dictionary stands for
abbrev pub pairs_text : Pairs → List ℕ
pairs_text p = shown_pairs (shared_text p.text) (pairs_in p)

-- pairs that stand for their text: the text is read as them
pub record ArePaired (p : Pairs) : Type 0 where
  pub limit : p.depth ≤ 64
  pub deeper : depth_over p.values.items ≤ p.depth
  pub even : length p.keys.keys ≡ length p.values.items
  pub reading : pairs_of (pairs_text p) ≡ Ok (pairs_in p)

-- pairs that a text was read as
pub record ArePairsRead (p : Pairs) (t : List ℕ) : Type 0 where
  pub kept : ArePaired p
  pub same : pairs_text p ≡ t

-- the same text, keys and values
pub record AreSamePairs (p q : Pairs) : Type 0 where
  pub text : shared_text p.text ≡ shared_text q.text
  pub depth : p.depth ≡ q.depth
  pub keys : p.keys.keys ≡ q.keys.keys
  pub values : p.values.items ≡ q.values.items

-- ---- lists

-- elements that stand for their text: the text is read as them, and as the dictionary beside them where one is kept
pub record AreKept (r : Items) : Type 0 where
  pub limit : r.depth ≤ 64
  pub exact : r.depth ≡ depth_over (elements r)
  pub reading : elements_of (items_text r) ≡ Ok (texts (elements r))
  pub beside : IfSome r.pairs (λ p. ArePairsRead p.value (items_text r))
  pub lower : IfSome r.pairs (λ p. p.value.depth ≤ r.depth)

-- elements that a text was read as
pub record AreRead (r : Items) (t : List ℕ) : Type 0 where
  pub kept : AreKept r
  pub same : items_text r ≡ t

-- the same text and the same elements, and nothing beside them in the second
pub record AreSame (r s : Items) : Type 0 where
  pub text : shared_text r.text ≡ shared_text s.text
  pub depth : r.depth ≡ s.depth
  pub elements : elements r ≡ elements s
  pub pairs : s.pairs ≡ None

-- ---- elements and values

-- what is said to be ASCII is it, and the marks are the text's
pub record IsGrown (g : Growing) : Type 0 where
  pub ascii : OnTrue g.ascii (IsAscii (string_bytes g.text))
  pub marks : AreMarks g.marks.before.items (string_bytes g.text)

abbrev pub number_in : Dialect → Numbers → ℤ
number_in Tcl86 ns = ns.tcl86
number_in Tcl9 ns = ns.tcl9

-- numbers that a text is read as, each in its dialect
abbrev pub AreNumbers : Numbers → List ℕ → Type 0
AreNumbers ns t = (dialect : Dialect) → whole_of dialect t ≡ Number (number_in dialect ns)

-- what is known of a text of a script beside it
pub record IsLiteral (l : Literal) : Type 0 where
  pub ascii : OnTrue l.ascii (IsAscii (rc_str_bytes l.text))
  pub numbers : IfSome l.numbers (λ ns. AreNumbers ns (text_of l.text))
  pub marks : AreMarks l.marks.before.items (rc_str_bytes l.text)

-- what is known of a text that may be a name beside it
pub record IsNamed (n : Named) : Type 0 where
  pub key : IsKeyOf n.key (rc_str_bytes n.text)
  pub ascii : OnTrue n.ascii (IsAscii (rc_str_bytes n.text))
  pub short : IfSome n.short (λ s. IsShort s)
  pub same : IfSome n.short (λ s. short_text s ≡ text_of n.text)

abbrev pub entry_text : Entry → List ℕ
entry_text (entry.Text s) = text_of s
entry_text (entry.Short s) = short_text s
entry_text (entry.Number n) = signed_decimal n
entry_text (entry.Row r) = items_text r.value
entry_text (entry.Dict r) = pairs_text r.value
entry_text (entry.Grown s) = chars (string_bytes s.value.text)

abbrev pub entry_depth : Entry → ℕ
entry_depth (entry.Text s) = 0
entry_depth (entry.Short s) = 0
entry_depth (entry.Number n) = 0
entry_depth (entry.Row r) = r.value.depth
entry_depth (entry.Dict r) = r.value.depth
entry_depth (entry.Grown s) = 0

abbrev pub IsEntry : Entry → Type 0
IsEntry (entry.Text s) = ⊤
IsEntry (entry.Short s) = IsShort s
IsEntry (entry.Number n) = FitsSigned w64 n
IsEntry (entry.Row r) = AreKept r.value
IsEntry (entry.Dict r) = ArePaired r.value
IsEntry (entry.Grown s) = IsGrown s.value

abbrev pub kept : element.Inside → Kept
kept a = record { text = entry_text a.entry; depth = entry_depth a.entry }

abbrev pub IsElement : element.Inside → Type 0
IsElement a = IsEntry a.entry

-- the same text, and the same is known of it
pub record AreSameGrown (g h : Growing) : Type 0 where
  pub text : string_bytes g.text ≡ string_bytes h.text
  pub ascii : g.ascii ≡ h.ascii
  pub marks : g.marks.before.items ≡ h.marks.before.items

abbrev pub composed_text : Composed → List ℕ
composed_text c = chars (string_bytes c.growing.text)

-- the same text, and the same is known of it
abbrev pub AreSameComposed : Composed → Composed → Type 0
AreSameComposed c d = AreSameGrown c.growing d.growing

-- the text that a value is
abbrev pub held_text : Held → List ℕ
held_text (held.Number n) = signed_decimal n
held_text (held.Short s) = short_text s
held_text (held.Text s) = text_of s
held_text (held.Ascii s) = text_of s
held_text (held.Name n) = text_of n.value.text
held_text (held.Grown s) = chars (string_bytes s.value.text)
held_text (held.Composed s) = composed_text s.value
held_text (held.Literal l) = text_of l.value.text
held_text (held.Row r) = items_text r.value
held_text (held.Dict r) = pairs_text r.value

abbrev pub IsHeld : Held → Type 0
IsHeld (held.Number n) = FitsSigned w64 n
IsHeld (held.Short s) = IsShort s
IsHeld (held.Text s) = ⊤
IsHeld (held.Ascii s) = IsAscii (rc_str_bytes s)
IsHeld (held.Name n) = IsNamed n.value
IsHeld (held.Grown s) = IsGrown s.value
IsHeld (held.Composed s) = IsGrown s.value.growing
IsHeld (held.Literal l) = IsLiteral l.value
IsHeld (held.Row r) = AreKept r.value
IsHeld (held.Dict r) = ArePaired r.value

abbrev pub is_row : Held → Bool
is_row (held.Number n) = false
is_row (held.Short s) = false
is_row (held.Text s) = false
is_row (held.Ascii s) = false
is_row (held.Name n) = false
is_row (held.Grown s) = false
is_row (held.Composed s) = false
is_row (held.Literal l) = false
is_row (held.Row r) = true
is_row (held.Dict r) = false

abbrev pub is_dict : Held → Bool
is_dict (held.Number n) = false
is_dict (held.Short s) = false
is_dict (held.Text s) = false
is_dict (held.Ascii s) = false
is_dict (held.Name n) = false
is_dict (held.Grown s) = false
is_dict (held.Composed s) = false
is_dict (held.Literal l) = false
is_dict (held.Row r) = false
is_dict (held.Dict r) = true

-- the elements of a list that is kept, and none of another value
abbrev pub elements_held : Held → List Kept
elements_held (held.Number n) = []
elements_held (held.Short s) = []
elements_held (held.Text s) = []
elements_held (held.Ascii s) = []
elements_held (held.Name n) = []
elements_held (held.Grown s) = []
elements_held (held.Composed s) = []
elements_held (held.Literal l) = []
elements_held (held.Row r) = elements r.value
elements_held (held.Dict r) = []

-- the pairs of a dictionary that is kept, and none of another value
abbrev pub pairs_held : Held → dictionaries.Pairs
pairs_held (held.Number n) = []
pairs_held (held.Short s) = []
pairs_held (held.Text s) = []
pairs_held (held.Ascii s) = []
pairs_held (held.Name n) = []
pairs_held (held.Grown s) = []
pairs_held (held.Composed s) = []
pairs_held (held.Literal l) = []
pairs_held (held.Row r) = []
pairs_held (held.Dict r) = pairs_in r.value

abbrev pub value_text : value.Inside → List ℕ
value_text a = held_text a.held

abbrev pub IsValue : value.Inside → Type 0
IsValue a = IsHeld a.held

abbrev pub row_texts : row.Inside → List (List ℕ)
row_texts a = texts (elements a.items.value)

abbrev pub IsRow : row.Inside → Type 0
IsRow a = AreKept a.items.value

abbrev pub dictionary_pairs : shared.Inside → dictionaries.Pairs
dictionary_pairs a = pairs_in a.pairs.value

abbrev pub IsDictionary : shared.Inside → Type 0
IsDictionary a = ArePaired a.pairs.value
