-- What nests, one level deeper, and where the stretches of a variable and a bracket end.
use Rattle.std.proofs.Common.{◌≡◌, ℕ, zero, suc, ◌-◌, Bool, true, false, ◌&&◌, ◌==◌, List, [], ◌∷◌, drop, Result, Ok, Err, refl, sym, subst, arith}
use Rattle.std.specs.Prelude.{if◌then◌else◌}
use Rattle.tcl_chars.specs.Characters.{backslash, open_bracket, dollar}
use Rattle.tcl_chars.specs.Escape.{escape as escape_of}
use Rattle.tcl_chars.specs.Place.{EndsWith, begins, tail}
use Rattle.tcl_chars.specs.Reading.{◌>>=◌, Fails}
use Rattle.tcl_chars.specs.declared.fault.ReadFault.{ReadFault}
use Rattle.tcl_chars.specs.declared.fault.ReadFault.TheVariants as fault
use Rattle.tcl_words.specs.declared.fault.Syntax.{Syntax}
use Rattle.tcl_words.specs.declared.fault.Syntax.TheVariants.{TooDeep, MissingBracket}
use Rattle.tcl_words.specs.declared.front.Kind.TheVariants as kind
use Rattle.tcl_words.specs.declared.front.Mode.{Mode}
use Rattle.tcl_words.specs.declared.front.Mode.TheVariants as mode
use Rattle.tcl_words.specs.Parts.{Part, Parts}
use Rattle.tcl_words.specs.Words.{begins_variable, ends_pieces, kind_of, at_variable_brace, at_brace, after_name, after_plain, pieces_at, after_commands, closing, index_of, inner_at}
use Rattle.tcl_chars.proofs.Ends.{ends_trans, ends_tail, ends_drop, if_ok}
use Rattle.tcl_words.proofs.Forward.{name_end, plain_end, variable_brace_end, brace_end, inner_inside}

-- ---- one level deeper

pub deeper : (size levels : ℕ) (cs rest : List ℕ) → (levels ≡ 0 → ⊥) → after_commands size (inner_at size (levels - 1)) true cs ≡ Ok rest → (inner_at size levels).bracket cs ≡ closing rest
unfolding inner_at
deeper size zero cs rest h e = absurd (h refl)
deeper size (suc n) cs rest h e =
    let k : suc n - 1 ≡ n = omega arith in
    let P : ℕ → Type 0 = λ m. after_commands size (inner_at size m) true cs ≡ Ok rest in
    let Q : Result (List ℕ) Syntax → Type 0 = λ r. (r >>= closing) ≡ closing rest in
    subst Q (sym (subst P k e)) refl

pub deeper_err : (size levels : ℕ) (cs : List ℕ) (err : ReadFault Syntax) → (levels ≡ 0 → ⊥) → Fails err (after_commands size (inner_at size (levels - 1)) true cs) → Fails err ((inner_at size levels).bracket cs)
unfolding inner_at
deeper_err size levels cs fault.Memory h e = tt
deeper_err size zero cs (fault.Bad m) h e = absurd (h refl)
deeper_err size (suc n) cs (fault.Bad m) h e =
    let k : suc n - 1 ≡ n = omega arith in
    let P : ℕ → Type 0 = λ j. after_commands size (inner_at size j) true cs ≡ Err m in
    let Q : Result (List ℕ) Syntax → Type 0 = λ r. (r >>= closing) ≡ Err m in
    subst Q (sym (subst P k e)) refl

pub deeper_index : (size levels : ℕ) (cs : List ℕ) (x : List Part × List ℕ) → (levels ≡ 0 → ⊥) → pieces_at size (inner_at size (levels - 1)) mode.Index cs ≡ Ok x → (inner_at size levels).index cs ≡ Ok (index_of x)
unfolding inner_at
deeper_index size zero cs x h e = absurd (h refl)
deeper_index size (suc n) cs x h e =
    let k : suc n - 1 ≡ n = omega arith in
    let P : ℕ → Type 0 = λ m. pieces_at size (inner_at size m) mode.Index cs ≡ Ok x in
    let Q : Result (List Part × List ℕ) Syntax → Type 0 = λ r. (r >>= λ found. Ok (index_of found)) ≡ Ok (index_of x) in
    subst Q (sym (subst P k e)) refl

pub deeper_index_err : (size levels : ℕ) (cs : List ℕ) (err : ReadFault Syntax) → (levels ≡ 0 → ⊥) → Fails err (pieces_at size (inner_at size (levels - 1)) mode.Index cs) → Fails err ((inner_at size levels).index cs)
unfolding inner_at
deeper_index_err size levels cs fault.Memory h e = tt
deeper_index_err size zero cs (fault.Bad m) h e = absurd (h refl)
deeper_index_err size (suc n) cs (fault.Bad m) h e =
    let k : suc n - 1 ≡ n = omega arith in
    let P : ℕ → Type 0 = λ j. pieces_at size (inner_at size j) mode.Index cs ≡ Err m in
    let Q : Result (List Part × List ℕ) Syntax → Type 0 = λ r. (r >>= λ found. Ok (index_of found)) ≡ Err m in
    subst Q (sym (subst P k e)) refl

pub no_bracket : (size levels : ℕ) (cs : List ℕ) → levels ≡ 0 → (inner_at size levels).bracket cs ≡ Err TooDeep
unfolding inner_at
no_bracket size zero cs e = refl
no_bracket size (suc n) cs e = absurd (omega (arith, e))

pub no_index : (size levels : ℕ) (cs : List ℕ) → levels ≡ 0 → (inner_at size levels).index cs ≡ Err TooDeep
unfolding inner_at
no_index size zero cs e = refl
no_index size (suc n) cs e = absurd (omega (arith, e))

pub closing_some : (cs : List ℕ) (c : ℕ) (ds : List ℕ) → cs ≡ c ∷ ds → closing cs ≡ Ok cs
closing_some [] c ds e = absurd cc
closing_some (b ∷ cs) c ds e = refl

pub closing_none : (cs : List ℕ) → cs ≡ [] → closing cs ≡ Err MissingBracket
closing_none [] e = refl
closing_none (b ∷ cs) e = absurd cc

-- ---- where stretches end

is_tail : (cs rest : List ℕ) → rest ≡ tail cs → EndsWith cs rest
is_tail cs rest e = subst (EndsWith cs) (sym e) (ends_tail cs)

pub close_end : (inside close : List ℕ) → at_variable_brace inside ≡ Ok close → EndsWith inside close
close_end inside close e = if_ok (EndsWith inside) (at_variable_brace inside) close (variable_brace_end inside) e

pub brace_close_end : (inside close : List ℕ) → at_brace false 0 inside ≡ Ok close → EndsWith inside close
brace_close_end inside close e = if_ok (EndsWith inside) (at_brace false 0 inside) close (brace_end false 0 inside) e

pub braced_variable_end : (cs name inside close rest : List ℕ) → name ≡ tail cs → inside ≡ tail name → at_variable_brace inside ≡ Ok close → rest ≡ tail close → EndsWith cs rest
braced_variable_end cs name inside close rest n i e r =
    ends_trans cs name rest (is_tail cs name n) (ends_trans name inside rest (is_tail name inside i) (ends_trans inside close rest (close_end inside close e) (is_tail close rest r)))

pub name_ends : (name rest : List ℕ) → rest ≡ after_name false name → EndsWith name rest
name_ends name rest e = subst (EndsWith name) (sym e) (name_end false name)

pub variable_ends : (cs name rest : List ℕ) → name ≡ tail cs → rest ≡ after_name false name → EndsWith cs rest
variable_ends cs name rest n e = ends_trans cs name rest (is_tail cs name n) (name_ends name rest e)

pub element_ends : (size levels : ℕ) (cs name rest inside : List ℕ) (x : Parts) (after : List ℕ) → name ≡ tail cs → rest ≡ after_name false name → inside ≡ tail rest → (inner_at size levels).index inside ≡ Ok (x, after) → EndsWith cs after
element_ends size levels cs name rest inside x after n e i k =
    ends_trans cs rest after (variable_ends cs name rest n e) (ends_trans rest inside after (is_tail rest inside i)
    (if_ok (λ y. EndsWith inside y.1) ((inner_at size levels).index inside) (x, after) ((inner_inside size levels).index_end inside) k))

pub script_ends : (size levels : ℕ) (script close : List ℕ) → (inner_at size levels).bracket script ≡ Ok close → EndsWith script close
script_ends size levels script close e = if_ok (EndsWith script) ((inner_at size levels).bracket script) close ((inner_inside size levels).bracket_end script) e

pub bracket_ends : (size levels : ℕ) (cs script close rest : List ℕ) → script ≡ tail cs → (inner_at size levels).bracket script ≡ Ok close → rest ≡ tail close → EndsWith cs rest
bracket_ends size levels cs script close rest s e r = ends_trans cs script rest (is_tail cs script s) (ends_trans script close rest (script_ends size levels script close e) (is_tail close rest r))

pub escape_ends : (cs rest : List ℕ) → rest ≡ drop (escape_of cs).1 cs → EndsWith cs rest
escape_ends cs rest e = subst (EndsWith cs) (sym e) (ends_drop _ cs)

pub plain_ends : (m : Mode) (cs rest : List ℕ) → rest ≡ after_plain m cs → EndsWith cs rest
plain_ends m cs rest e = subst (EndsWith cs) (sym e) (plain_end m cs)

-- ---- what a backslash is

at_end_not : (m : Mode) → kind_of m [] ≡ kind.Backslashed → ⊥
unfolding kind_of
at_end_not (mode.Bare nested) e = cc
at_end_not mode.Quoted e = cc
at_end_not mode.Index e = cc

chosen : (x y z v : Bool) → (if x then kind.Ends else if y then kind.Backslashed else if z then kind.Opening else if v then kind.Variable else kind.Plain) ≡ kind.Backslashed → y ≡ true
chosen true y z v e = absurd cc
chosen false true z v e = refl
chosen false false true v e = absurd cc
chosen false false false true e = absurd cc
chosen false false false false e = absurd cc

pub backslashed_begins : (m : Mode) (cs : List ℕ) → kind_of m cs ≡ kind.Backslashed → begins backslash cs ≡ true
unfolding kind_of
backslashed_begins m [] e = absurd (at_end_not m e)
backslashed_begins m (c ∷ cs) e = chosen (ends_pieces m (c ∷ cs)) (c == backslash) (c == open_bracket) (c == dollar && begins_variable cs) e
