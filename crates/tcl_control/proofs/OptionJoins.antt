-- Options joined in their places: each n is enough that is no smaller than they are.
use Rattle.std.proofs.Common.{◌≡◌, ℕ, zero, suc, ◌+◌, ◌<◌, ◌≤◌, Bool, true, false, [], ◌∷◌, ◌++◌, length, Ok, Err, sym, ap, ◌∙◌, refl, arith}
use Rattle.std.specs.Prelude.{if◌then◌else◌}
use Rattle.tcl_chars.specs.Texts.{literal}
use Rattle.tcl_control.specs.Returning.{joined}
use Rattle.tcl_meaning.specs.Codes.{options_joined, size_of, else_message, no_options}
use Rattle.tcl_pages.specs.Answers.{Answer, ◌>>=◌}
use Rattle.tcl_pages.specs.Dictionaries.{Pairs, put_key, pairs_of}
use Rattle.tcl_pages.specs.Texts.{Text, same_text}
use Rattle.tcl_meaning.proofs.OptionSizes.{size_append, pairs_of_size}

-- ---- answers, one behind another

then_same : (r : Answer Pairs) (f g : Pairs → Answer Pairs) → ((a : Pairs) → r ≡ Ok a → f a ≡ g a) → (r >>= f) ≡ (r >>= g)
then_same (Ok a) f g h = h a refl
then_same (Err m) f g h = refl

then_behind : (r : Answer Pairs) (f g k : Pairs → Answer Pairs) → ((a : Pairs) → r ≡ Ok a → f a ≡ (g a >>= k)) → (r >>= f) ≡ ((r >>= g) >>= k)
then_behind (Ok a) f g k h = h a refl
then_behind (Err m) f g k h = refl

was_read : (r : Answer Pairs) (message : Text) (more : Pairs) → else_message message r ≡ Ok more → r ≡ Ok more
was_read (Ok a) message more e = e
was_read (Err m) message more e = absurd cc

-- ---- an option

abbrev all_behind : ℕ → Pairs → Pairs → Pairs → Answer Pairs
all_behind n found ps more = options_joined n found more >>= λ all. options_joined n all ps

abbrev turn_by : Bool → ℕ → Pairs → Text × Text → Pairs → Answer Pairs
turn_by b n found p ps = if b then (else_message (no_options p.1) (pairs_of p.1) >>= all_behind n found ps) else options_joined n (put_key found p.0 p.1) ps

abbrev Same : ℕ → ℕ → Type 0
Same n m = (found ps : Pairs) → size_of ps ≤ n → size_of ps ≤ m → options_joined n found ps ≡ options_joined m found ps

enough_by : (b : Bool) (n m : ℕ) (found : Pairs) (p : Text × Text) (ps : Pairs) → Same n m → length p.1 + size_of ps ≤ n → length p.1 + size_of ps ≤ m → turn_by b n found p ps ≡ turn_by b m found p ps
enough_by true n m found p ps same h k =
    then_same (else_message (no_options p.1) (pairs_of p.1)) (all_behind n found ps) (all_behind m found ps)
    (λ more e.
    let s = pairs_of_size p.1 more (was_read (pairs_of p.1) (no_options p.1) more e) in
    ap (λ r. r >>= λ all. options_joined n all ps) (same found more (omega (arith, s, h)) (omega (arith, s, k)))
    ∙ then_same (options_joined m found more) (λ all. options_joined n all ps) (λ all. options_joined m all ps) (λ all f. same all ps (omega (arith, h)) (omega (arith, k))))
enough_by false n m found p ps same h k = same (put_key found p.0 p.1) ps (omega (arith, h)) (omega (arith, k))

enough : (n m : ℕ) → Same n m
enough n m found [] h k = refl
enough zero m found (p ∷ ps) h k = absurd (omega (arith, h))
enough (suc n) zero found (p ∷ ps) h k = absurd (omega (arith, k))
enough (suc n) (suc m) found (p ∷ ps) h k = enough_by (same_text p.0 (literal "-options")) n m found p ps (enough n m) (omega (arith, h)) (omega (arith, k))

-- ---- options behind others

abbrev Divided : ℕ → Pairs → Pairs → Type 0
Divided n ps qs = (found : Pairs) → options_joined n found (ps ++ qs) ≡ (options_joined n found ps >>= λ all. options_joined n all qs)

one_more : (n : ℕ) (r : Answer Pairs) (qs : Pairs) → size_of qs ≤ n → (r >>= λ all. options_joined n all qs) ≡ (r >>= λ all. options_joined (suc n) all qs)
one_more n r qs h = then_same r (λ all. options_joined n all qs) (λ all. options_joined (suc n) all qs) (λ all e. enough n (suc n) all qs h (omega (arith, h)))

behind_by : (b : Bool) (n : ℕ) (found : Pairs) (p : Text × Text) (ps qs : Pairs) → Divided n ps qs → size_of qs ≤ n → turn_by b n found p (ps ++ qs) ≡ (turn_by b n found p ps >>= λ all. options_joined (suc n) all qs)
behind_by true n found p ps qs later h =
    then_behind (else_message (no_options p.1) (pairs_of p.1)) (all_behind n found (ps ++ qs)) (all_behind n found ps) (λ all. options_joined (suc n) all qs)
    (λ more e. then_behind (options_joined n found more) (λ all. options_joined n all (ps ++ qs)) (λ all. options_joined n all ps) (λ all. options_joined (suc n) all qs)
    (λ all f. later all ∙ one_more n (options_joined n all ps) qs h))
behind_by false n found p ps qs later h =
    later (put_key found p.0 p.1) ∙ one_more n (options_joined n (put_key found p.0 p.1) ps) qs h

behind : (n : ℕ) (ps qs : Pairs) → size_of (ps ++ qs) ≤ n → Divided n ps qs
behind n [] qs h = λ found. refl
behind zero (p ∷ ps) qs h = absurd (omega (arith, h))
behind (suc n) (p ∷ ps) qs h =
    λ found. behind_by (same_text p.0 (literal "-options")) n found p ps qs (behind n ps qs (omega (arith, h))) (omega (arith, h, size_append ps qs))

-- ---- the next option

pub joined_put : (found ps : Pairs) (key value : Text) → same_text key (literal "-options") ≡ false → joined found ((key, value) ∷ ps) ≡ joined (put_key found key value) ps
joined_put found ps key value e =
    ap (λ b. turn_by b (length value + size_of ps) found (key, value) ps) e ∙ enough (length value + size_of ps) (size_of ps) (put_key found key value) ps (omega arith) (omega arith)

inner_size : (value : Text) (more : Pairs) → else_message (no_options value) (pairs_of value) ≡ Ok more → size_of more ≤ length value
inner_size value more e = pairs_of_size value more (was_read (pairs_of value) (no_options value) more e)

pub size_more : (ps more : Pairs) (key value : Text) → else_message (no_options value) (pairs_of value) ≡ Ok more → size_of (more ++ ps) < size_of ((key, value) ∷ ps)
size_more ps more key value e = omega (arith, size_append more ps, inner_size value more e)

pub joined_more : (found ps more : Pairs) (key value : Text) → same_text key (literal "-options") ≡ true → else_message (no_options value) (pairs_of value) ≡ Ok more → joined found ((key, value) ∷ ps) ≡ joined found (more ++ ps)
joined_more found ps more key value e r =
    let n = length value + size_of ps in
    let h : size_of (more ++ ps) ≤ length value + size_of ps = omega (arith, size_append more ps, inner_size value more r) in
    ap (λ b. turn_by b n found (key, value) ps) e ∙ ap (λ a. a >>= all_behind n found ps) r ∙ sym (behind n more ps h found) ∙ enough n (size_of (more ++ ps)) found (more ++ ps) h (omega arith)

pub joined_fails : (found ps : Pairs) (key value message : Text) → same_text key (literal "-options") ≡ true → else_message (no_options value) (pairs_of value) ≡ Err message → joined found ((key, value) ∷ ps) ≡ Err message
joined_fails found ps key value message e r =
    let n = length value + size_of ps in
    ap (λ b. turn_by b n found (key, value) ps) e ∙ ap (λ a. a >>= all_behind n found ps) r

-- ---- a text that is no dictionary

pub refused : (value t said m : Text) → pairs_of value ≡ Err m → t ≡ value → said ≡ no_options t → else_message (no_options value) (pairs_of value) ≡ Err said
refused value t said m e f g = ap (else_message (no_options value)) e ∙ ap Err (sym (g ∙ ap no_options f))
