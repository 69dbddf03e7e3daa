-- How CR LF is read, in the input and in the file of a script.
use Rattle.std.specs.Prelude.{ℕ, Bool, false, cond, ◌==◌, ◌&&◌, List, [], ◌∷◌}

-- the text begins with a line feed
abbrev pub begins_line_feed : List ℕ → Bool
begins_line_feed [] = false
begins_line_feed (c ∷ cs) = c == 10

-- the character is the CR of a CR LF, where this follows it
abbrev pub is_joined_return : ℕ → List ℕ → Bool
is_joined_return c cs = c == 13 && begins_line_feed cs

-- Each CR LF is one LF, in one pass: a carriage return that a line feed follows is dropped. (fconfigure(n), -translation, where
-- the profile takes a lone CR as it is.)
unfoldable pub joined_newlines : List ℕ → List ℕ
joined_newlines [] = []
joined_newlines (c ∷ cs) = cond (is_joined_return c cs) (joined_newlines cs) (c ∷ joined_newlines cs)
