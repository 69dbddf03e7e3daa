-- What is written behind a text.
use Rattle.std.proofs.Common.{◌≡◌, ℕ, ◌+◌, ◌<◌, ◌≤◌, ◌==◌, Bool, false, List, [], ◌∷◌, ◌++◌, length, take, get_or, sym, ap, ◌∙◌, refl, append_assoc}
use Rattle.tcl_chars.specs.Characters.{open_brace, close_brace}
use Rattle.tcl_list.specs.Written.{appended, written}
use Rattle.tcl_list.proofs.Joining.{written_step}
use Rattle.tcl_pages.specs.DictPages.{dictionary}
use Rattle.tcl_pages.specs.Dictionaries.{Pairs}
use Rattle.tcl_pages.specs.Texts.{Text}
use Rattle.tcl_values.specs.Kept.{Kept, texts}
use Rattle.tcl_values.specs.Nested.{in_front, opening}
use Rattle.tcl_values.specs.Paired.{zipped}
use Rattle.tcl_values.proofs.InBraces.{stands_in_braces, dictionary_in_braces}
use Rattle.tcl_values.proofs.PairWriting.{written_pair}

-- the first i elements behind a text, and one element more
pub item_behind : (front old new : Text) (ks : List Kept) (i : ℕ) (k : Kept) (first : Bool) → i < length ks → k ≡ get_or ks i k → old ≡ front ++ written (texts (take i ks)) → first ≡ (i == 0)
    → new ≡ old ++ appended first k.text → new ≡ front ++ written (texts (take (i + 1) ks))
item_behind front old new ks i k first l is so_far at_first more =
    more ∙ ap (λ t. t ++ appended first k.text) so_far ∙ append_assoc front (written (texts (take i ks))) (appended first k.text)
    ∙ ap (λ t. front ++ t) (written_step (λ (q : Kept). q.text) ks i k _ _ first l is refl at_first refl)

-- the first i pairs behind a text, and one pair more
pub pair_behind : (front old mid new : Text) (js : List Text) (vs : List Kept) (i : ℕ) (j : Text) (v : Kept) → i < length js → length js ≡ length vs → j ≡ get_or js i j → v ≡ get_or vs i v
    → old ≡ front ++ dictionary (zipped (take i js) (texts (take i vs))) → mid ≡ old ++ appended (i == 0) j → new ≡ mid ++ appended false v.text
    → new ≡ front ++ dictionary (zipped (take (i + 1) js) (texts (take (i + 1) vs)))
pair_behind front old mid new js vs i j v l e is_key is_value so_far key value =
    let d : Text = dictionary (zipped (take i js) (texts (take i vs))) in
    value ∙ ap (λ t. t ++ appended false v.text) (key ∙ ap (λ t. t ++ appended (i == 0) j) so_far ∙ append_assoc front d (appended (i == 0) j))
    ∙ append_assoc front (d ++ appended (i == 0) j) (appended false v.text)
    ∙ ap (λ t. front ++ t) (written_pair js vs i j v _ _ _ l e is_key is_value refl refl refl)

-- what stands between braces
between : (front a b new more said : Text) (first : Bool) → a ≡ front ++ opening first → b ≡ a ++ more → new ≡ b ++ close_brace ∷ [] → said ≡ opening first ++ (more ++ close_brace ∷ []) → new ≡ front ++ said
between front a b new more said first begin inner end is =
    end ∙ ap (λ t. t ++ close_brace ∷ []) (inner ∙ ap (λ t. t ++ more) begin ∙ append_assoc front (opening first) more) ∙ append_assoc front (opening first ++ more) (close_brace ∷ [])
    ∙ ap (λ t. front ++ t) (append_assoc (opening first) more (close_brace ∷ []) ∙ sym is)

-- a list or a dictionary in braces behind a text
pub list_behind : (front a b new : Text) (es : List Text) (first : Bool) → 2 ≤ length es → a ≡ front ++ opening first → b ≡ a ++ written es → new ≡ b ++ close_brace ∷ [] → new ≡ front ++ appended first (written es)
list_behind front a b new es first two begin inner end =
    between front a b new (written es) _ first begin inner end (stands_in_braces first es two ∙ sym (append_assoc (in_front first) (open_brace ∷ []) (written es ++ close_brace ∷ [])))

pub pairs_behind : (front a b new : Text) (ps : Pairs) (first : Bool) → 1 ≤ length ps → a ≡ front ++ opening first → b ≡ a ++ dictionary ps → new ≡ b ++ close_brace ∷ [] → new ≡ front ++ appended first (dictionary ps)
pairs_behind front a b new ps first one begin inner end =
    between front a b new (dictionary ps) _ first begin inner end (dictionary_in_braces first ps one ∙ sym (append_assoc (in_front first) (open_brace ∷ []) (dictionary ps ++ close_brace ∷ [])))
