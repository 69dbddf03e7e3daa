-- The options that stand in a text are no larger than the text.
use Rattle.std.proofs.Common.{◌≡◌, ℕ, suc, ◌+◌, ◌≤◌, false, true≢false, List, [], ◌∷◌, ◌++◌, length, length-append, Ok, Err, sym, ap, ◌∙◌, subst, refl, arith}
use Rattle.std.proofs.lemmas.Bool.{cond_both}
use Rattle.tcl_chars.specs.Characters.{quote, close_brace}
use Rattle.tcl_list.specs.Elements.{ends, elements_of}
use Rattle.tcl_list.specs.Spelling.{Letters, none, plain, escaped, ElementEnds, Spells, Reads}
use Rattle.tcl_list.specs.Spelling as spelling
use Rattle.tcl_list.proofs.Forward.{escape_shrinks}
use Rattle.tcl_list.proofs.OneList.{reading_is_spelling}
use Rattle.tcl_meaning.specs.Codes.{size_of}
use Rattle.tcl_pages.specs.Answers.{Answer, ◌>>=◌}
use Rattle.tcl_pages.specs.Dictionaries.{Pairs, put_key, put_keys, in_pairs, pairs_of}
use Rattle.tcl_pages.specs.Texts.{Text, same_text}
use Rattle.tcl_pages.proofs.InPairs.{with_pair, pair_ahead}

-- ---- elements

letters_size : (end : _) (cs said rest : List ℕ) → Letters end cs said rest → length said + length rest ≤ length cs
letters_size end _ _ _ (none rest) = omega arith
letters_size end _ _ _ (plain c cs said rest s n l) = omega (arith, letters_size end cs said rest l)
letters_size end _ _ _ (escaped c cs said rest b l) = omega (arith, escape_shrinks c cs, letters_size end _ said rest l)

letters_more : (end : _) (c : ℕ) (cs said rest : List ℕ) → ends end c ≡ false → Letters end (c ∷ cs) said rest → ElementEnds end rest → suc (length rest) ≤ length (c ∷ cs)
letters_more end c cs _ _ s (none _) a = absurd (true≢false (sym a ∙ s))
letters_more end c cs _ _ s (plain _ _ said rest t n l) a = omega (arith, letters_size end cs said rest l)
letters_more end c cs _ _ s (escaped _ _ said rest b l) a = omega (arith, escape_shrinks c cs, letters_size end _ said rest l)

element_size : (cs e rest : List ℕ) → Spells cs e rest → length e + length rest ≤ length cs
element_size _ _ _ (spelling.bare c cs e rest s b q l a) = letters_size _ (c ∷ cs) e rest l
element_size _ _ _ (spelling.quoted c cs e rest q l a) = omega (arith, letters_size _ cs e (quote ∷ rest) l)
element_size _ _ _ (spelling.braced c cs e rest b i j a) = omega (arith, ap length j, length-append e (close_brace ∷ rest))

element_more : (cs e rest : List ℕ) → Spells cs e rest → suc (length rest) ≤ length cs
element_more _ _ _ (spelling.bare c cs e rest s b q l a) = letters_more _ c cs e rest s l a
element_more _ _ _ (spelling.quoted c cs e rest q l a) = omega (arith, letters_size _ cs e (quote ∷ rest) l)
element_more _ _ _ (spelling.braced c cs e rest b i j a) = omega (arith, ap length j, length-append e (close_brace ∷ rest))

-- ---- keys and values in turn: each key counts 1, each value its characters

abbrev mutual
  from_key : List Text → ℕ
  from_key [] = 0
  from_key (k ∷ es) = suc (from_value es)

  from_value : List Text → ℕ
  from_value [] = 0
  from_value (v ∷ es) = length v + from_key es

elements_size : (cs : List ℕ) (es : List Text) → Reads cs es → (from_key es ≤ length cs) × (from_value es ≤ length cs)
elements_size _ _ spelling.nothing = (omega arith, omega arith)
elements_size _ _ (spelling.space c cs es s r) =
    let h = elements_size cs es r in
    (omega (arith, h.0), omega (arith, h.1))
elements_size _ _ (spelling.element cs e rest es s r) =
    let h = elements_size rest es r in
    (omega (arith, h.1, element_more cs e rest s), omega (arith, h.0, element_size cs e rest s))

first_pair : (k v : Text) (r : Answer Pairs) (ps : Pairs) (n : ℕ) → with_pair k v r ≡ Ok ps → ((more : Pairs) → r ≡ Ok more → size_of more ≤ n) → size_of ps ≤ suc (length v + n)
first_pair k v (Ok more) ps n e h =
    let same : (k, v) ∷ more ≡ ps = cc in
    subst (λ qs. size_of qs ≤ suc (length v + n)) same (omega (arith, h more refl))
first_pair k v (Err m) ps n e h = absurd cc

pairs_size : (es : List Text) (ps : Pairs) → in_pairs es ≡ Ok ps → size_of ps ≤ from_key es
pairs_size [] ps e =
    let none : [] ≡ ps = cc in
    subst (λ qs. size_of qs ≤ 0) none (omega arith)
pairs_size (k ∷ []) ps e = absurd cc
pairs_size (k ∷ v ∷ es) ps e = first_pair k v (in_pairs es) ps (from_key es) (sym (pair_ahead _ k v es) ∙ e) (λ more h. pairs_size es more h)

-- ---- pairs behind others

pub size_append : (ps qs : Pairs) → size_of (ps ++ qs) ≡ size_of ps + size_of qs
size_append [] qs = omega arith
size_append (p ∷ ps) qs = omega (arith, size_append ps qs)

-- ---- a key that comes again

put_size : (ps : Pairs) (k v : Text) → size_of (put_key ps k v) ≤ size_of ps + suc (length v)
put_size [] k v = omega arith
put_size (p ∷ ps) k v =
    cond_both (same_text p.0 k) _ _ (λ qs. size_of qs ≤ size_of (p ∷ ps) + suc (length v)) (λ _. omega arith) (λ _. omega (arith, put_size ps k v))

puts_size : (found ps : Pairs) → size_of (put_keys found ps) ≤ size_of found + size_of ps
puts_size found [] = omega arith
puts_size found (p ∷ ps) = omega (arith, puts_size (put_key found p.0 p.1) ps, put_size found p.0 p.1)

put_all : (n : ℕ) (r : Answer Pairs) (ps : Pairs) → (r >>= λ qs. Ok (put_keys [] qs)) ≡ Ok ps → ((qs : Pairs) → r ≡ Ok qs → size_of qs ≤ n) → size_of ps ≤ n
put_all n (Ok qs) ps e h =
    let same : put_keys [] qs ≡ ps = cc in
    subst (λ z. size_of z ≤ n) same (omega (arith, puts_size [] qs, h qs refl))
put_all n (Err m) ps e h = absurd cc

read_size : (t : Text) (r : Answer (List Text)) (ps : Pairs) → elements_of t ≡ r → (r >>= λ es. in_pairs es >>= λ qs. Ok (put_keys [] qs)) ≡ Ok ps → size_of ps ≤ length t
read_size t (Ok es) ps i e =
    let h = elements_size t es ((reading_is_spelling t es).0 i) in
    put_all (length t) (in_pairs es) ps e (λ qs is. omega (arith, pairs_size es qs is, h.0))
read_size t (Err m) ps i e = absurd cc

-- a dictionary's pairs are no larger than its text
pub pairs_of_size : (t : Text) (ps : Pairs) → pairs_of t ≡ Ok ps → size_of ps ≤ length t
unfolding pairs_of
pairs_of_size t ps e = read_size t (elements_of t) ps refl e
