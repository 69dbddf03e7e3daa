-- Braces that match (Tcl(n), rule 6): they nest, and a backslash hides the character behind it from the count.
use Rattle.std.specs.Prelude.{ℕ, zero, suc, Bool, true, false, not, ◌&&◌, ◌==◌, List, [], ◌∷◌, Option, Some, None, if◌then◌else◌}
use Rattle.std.specs.Option.{option_map_or}
use Rattle.tcl_chars.specs.Characters.{backslash, open_brace, close_brace}
use Rattle.tcl_list.specs.declared.braces.Mark.{Mark}
use Rattle.tcl_list.specs.declared.braces.Mark.TheVariants.{Hides, Opens, Closes, Plain}

-- what a character does to the count, where `hidden` says that a backslash hides it
abbrev pub mark_of : Bool → ℕ → Mark
mark_of true c = Plain
mark_of false c =
    if c == backslash then Hides else (
    if c == open_brace then Opens else (
    if c == close_brace then Closes else Plain))

abbrev pub hides : Mark → Bool
hides Hides = true
hides Opens = false
hides Closes = false
hides Plain = false

-- how many braces are open behind a mark; none where it closes one that was never opened
abbrev pub counted : Mark → ℕ → Option ℕ
counted Hides n = Some n
counted Opens n = Some (suc n)
counted Closes zero = None
counted Closes (suc n) = Some n
counted Plain n = Some n

-- Where `depth` braces are open, each is closed in cs and no other, and no backslash ends cs that hides nothing.
abbrev pub balances : Bool → ℕ → List ℕ → Bool
balances hidden depth [] = not hidden && (depth == 0)
balances hidden depth (c ∷ cs) = option_map_or (λ n. balances (hides (mark_of hidden c)) n cs) (counted (mark_of hidden c) depth) false

abbrev pub is_balanced : List ℕ → Bool
is_balanced cs = balances false 0 cs

-- what cs has left at the first brace that closes one more than `depth`
abbrev pub to_close : Bool → ℕ → List ℕ → Option (List ℕ)
to_close hidden depth [] = None
to_close hidden depth (c ∷ cs) = option_map_or (λ n. to_close (hides (mark_of hidden c)) n cs) (counted (mark_of hidden c) depth) (Some (c ∷ cs))
